-- Where one token decides: the tokens that go on with a part, and the tests of the table that the proofs rest on.
use Rattle.std.specs.Prelude.{◌≡◌, Bool, true, false, not, ◌&&◌, ◌||◌, if◌then◌else◌, List, [], ◌∷◌, ◌++◌}
use mathlib.Core.Path.{refl}
use Rattle.psl_lexer.specs.declared.kind.TokenKind.{TokenKind}
use Rattle.psl_lexer.specs.declared.kind.TokenKind.TheVariants as kinds
use Rattle.psl_grammar.specs.Firsts.{has, is_empty, empty_of, firsts, first_of, post_first}
use Rattle.psl_grammar.specs.Parts.{Symbol, Text, Vunit, Statement, Directive, Declaration, Prop, Imp, ImpRight, Suf, Bnd, Occ, Trm, Clk, Or, And, Cmp, Una, Pri, Atom, Path, Counted, Sere, Fus, Alt, Conj, Wtail, Ctail, Side, Start, Bor, Band, Bcmp, Buna, Post, Clk0, Count, Part, Quoted, Sym, ◌~◌, ◌//◌, Many, Maybe}
use Rattle.psl_grammar.specs.Productions.{production, until, aborts, comparisons, implications, sequence_ands, suffixes}

-- each kind of the one list stands in the other
abbrev pub within : List TokenKind → List TokenKind → Bool
within [] ks = true
within (j ∷ js) ks = has j ks && within js ks

-- no kind stands in both
abbrev pub apart : List TokenKind → List TokenKind → Bool
apart [] ks = true
apart (j ∷ js) ks = not (has j ks) && apart js ks

-- the kinds of the one list that stand in the other stand in a third
abbrev pub shares : List TokenKind → List TokenKind → List TokenKind → Bool
shares [] ks both = true
shares (j ∷ js) ks both = (not (has j ks) || has j both) && shares js ks both

abbrev pub atom_on : List TokenKind
atom_on = kinds.BracketOpen ∷ kinds.Dot ∷ []

abbrev pub una_on : List TokenKind
una_on = kinds.Not ∷ atom_on

abbrev pub cmp_on : List TokenKind
cmp_on = firsts comparisons ++ una_on

abbrev pub and_on : List TokenKind
and_on = kinds.AndAnd ∷ cmp_on

abbrev pub or_on : List TokenKind
or_on = kinds.OrOr ∷ and_on

abbrev pub clk_on : List TokenKind
clk_on = post_first ++ or_on

abbrev pub trm_on : List TokenKind
trm_on = firsts aborts ++ clk_on

abbrev pub bnd_on : List TokenKind
bnd_on = firsts until ++ trm_on

abbrev pub suf_on : List TokenKind
suf_on = firsts suffixes ++ bnd_on

abbrev pub imp_on : List TokenKind
imp_on = firsts implications ++ suf_on

abbrev pub bcmp_on : List TokenKind
bcmp_on = firsts comparisons ++ atom_on

abbrev pub band_on : List TokenKind
band_on = kinds.AndAnd ∷ bcmp_on

abbrev pub bor_on : List TokenKind
bor_on = kinds.OrOr ∷ band_on

abbrev pub side_on : List TokenKind
side_on = post_first ++ atom_on

abbrev pub ctail_on : List TokenKind
ctail_on = kinds.Within ∷ firsts sequence_ands ++ side_on

abbrev pub conj_on : List TokenKind
conj_on = ctail_on ++ bor_on

-- the tokens that can stand behind a list of the symbol and go on with it to a longer one
abbrev pub on_of : Symbol → List TokenKind
on_of Text = first_of Text
on_of Prop = imp_on
on_of Imp = imp_on
on_of ImpRight = imp_on
on_of Suf = suf_on
on_of Bnd = bnd_on
on_of Occ = trm_on
on_of Trm = trm_on
on_of Clk = clk_on
on_of Or = or_on
on_of And = and_on
on_of Cmp = cmp_on
on_of Una = una_on
on_of Pri = atom_on
on_of Atom = atom_on
on_of Path = kinds.Dot ∷ []
on_of Sere = kinds.Semicolon ∷ kinds.Colon ∷ kinds.Bar ∷ conj_on
on_of Fus = kinds.Colon ∷ kinds.Bar ∷ conj_on
on_of Alt = kinds.Bar ∷ conj_on
on_of Conj = conj_on
on_of Wtail = kinds.Within ∷ side_on
on_of Ctail = ctail_on
on_of Side = side_on
on_of Bor = bor_on
on_of Band = band_on
on_of Bcmp = bcmp_on
on_of Buna = atom_on
on_of Post = atom_on
on_of Clk0 = atom_on
on_of Count = kinds.Colon ∷ []
on_of _ = []

-- the same of a part
abbrev pub ons : Part → List TokenKind
ons (Quoted k) = []
ons (Sym s) = on_of s
ons (a ~ b) = ons b ++ (if is_empty b then ons a else [])
ons (a // b) = ons a ++ (ons b ++ (if is_empty b then firsts a else []))
ons (Many a) = firsts a ++ ons a
ons (Maybe a) = firsts a ++ ons a

-- `next` and `next!`: the kinds with which two sides of a choice can both begin
abbrev pub nexts : List TokenKind
nexts = kinds.Next ∷ kinds.NextStrong ∷ []

abbrev pub opens : List TokenKind
opens = kinds.BracketOpen ∷ []

-- the part is one token of several kinds
abbrev pub is_token : Part → Bool
is_token (Quoted k) = true
is_token (a // b) = is_token a && is_token b
is_token _ = false

-- the part is a token and then something that is not empty and cannot begin with `[`
abbrev pub bare : Part → Bool
bare (a ~ b) = is_token a && (not (is_empty b) && not (has kinds.BracketOpen (firsts b)))
bare _ = false

-- where a list of the symbol begins with `next` or `next!`, the token behind is `[`
abbrev pub bracketed_of : Symbol → Bool
bracketed_of Trm = true
bracketed_of Clk = true
bracketed_of Or = true
bracketed_of And = true
bracketed_of Cmp = true
bracketed_of Una = true
bracketed_of Pri = true
bracketed_of Atom = true
bracketed_of Path = true
bracketed_of Counted = true
bracketed_of _ = false

-- the same of a part: none of its lists begins so, or `[` is what follows the token
abbrev pub bracketed : Part → Bool
bracketed (Quoted k) = not (has k nexts)
bracketed (Sym s) = bracketed_of s
bracketed (a ~ b) = (bracketed a && (not (is_empty a) || bracketed b)) || (is_token a && (not (is_empty b) && within (firsts b) opens))
bracketed (a // b) = bracketed a && bracketed b
bracketed (Many a) = bracketed a
bracketed (Maybe a) = bracketed a

-- the next token, and for `next` the one behind it, tell which side of a choice it is
abbrev pub told : Part → Part → Bool
told a b = apart (firsts a) (firsts b) || (bare a && (bracketed b && shares (firsts a) (firsts b) nexts))

-- one token decides everywhere in the part
abbrev pub decides : Part → Bool
decides (Quoted k) = true
decides (Sym s) = true
decides (a ~ b) = decides a && (decides b && apart (ons a) (firsts b))
decides (a // b) = decides a && (decides b && (told a b && not (is_empty a)))
decides (Many a) = decides a && (not (is_empty a) && apart (ons a) (firsts a))
decides (Maybe a) = decides a && not (is_empty a)

-- What the table has to fit for a symbol, all of it by computation.
pub record Fits (s : Symbol) : Type 0 where
  -- the first tokens are those of its production, no fewer and no more
  pub begins : within (firsts (production s)) (first_of s) ≡ true
  pub no_more : within (first_of s) (firsts (production s)) ≡ true
  pub goes_on : within (ons (production s)) (on_of s) ≡ true
  pub empty : is_empty (production s) ≡ empty_of s
  -- where it can be empty, what it begins with goes on with it
  pub grows : (if empty_of s then within (first_of s) (on_of s) else true) ≡ true
  pub brackets : (if bracketed_of s then bracketed (production s) else true) ≡ true
  pub decided : decides (production s) ≡ true

pub fits : (s : Symbol) → Fits s
fits Text = record { begins = refl; no_more = refl; goes_on = refl; empty = refl; grows = refl; brackets = refl; decided = refl }
fits Vunit = record { begins = refl; no_more = refl; goes_on = refl; empty = refl; grows = refl; brackets = refl; decided = refl }
fits Statement = record { begins = refl; no_more = refl; goes_on = refl; empty = refl; grows = refl; brackets = refl; decided = refl }
fits Directive = record { begins = refl; no_more = refl; goes_on = refl; empty = refl; grows = refl; brackets = refl; decided = refl }
fits Declaration = record { begins = refl; no_more = refl; goes_on = refl; empty = refl; grows = refl; brackets = refl; decided = refl }
fits Prop = record { begins = refl; no_more = refl; goes_on = refl; empty = refl; grows = refl; brackets = refl; decided = refl }
fits Imp = record { begins = refl; no_more = refl; goes_on = refl; empty = refl; grows = refl; brackets = refl; decided = refl }
fits ImpRight = record { begins = refl; no_more = refl; goes_on = refl; empty = refl; grows = refl; brackets = refl; decided = refl }
fits Suf = record { begins = refl; no_more = refl; goes_on = refl; empty = refl; grows = refl; brackets = refl; decided = refl }
fits Bnd = record { begins = refl; no_more = refl; goes_on = refl; empty = refl; grows = refl; brackets = refl; decided = refl }
fits Occ = record { begins = refl; no_more = refl; goes_on = refl; empty = refl; grows = refl; brackets = refl; decided = refl }
fits Trm = record { begins = refl; no_more = refl; goes_on = refl; empty = refl; grows = refl; brackets = refl; decided = refl }
fits Clk = record { begins = refl; no_more = refl; goes_on = refl; empty = refl; grows = refl; brackets = refl; decided = refl }
fits Or = record { begins = refl; no_more = refl; goes_on = refl; empty = refl; grows = refl; brackets = refl; decided = refl }
fits And = record { begins = refl; no_more = refl; goes_on = refl; empty = refl; grows = refl; brackets = refl; decided = refl }
fits Cmp = record { begins = refl; no_more = refl; goes_on = refl; empty = refl; grows = refl; brackets = refl; decided = refl }
fits Una = record { begins = refl; no_more = refl; goes_on = refl; empty = refl; grows = refl; brackets = refl; decided = refl }
fits Pri = record { begins = refl; no_more = refl; goes_on = refl; empty = refl; grows = refl; brackets = refl; decided = refl }
fits Atom = record { begins = refl; no_more = refl; goes_on = refl; empty = refl; grows = refl; brackets = refl; decided = refl }
fits Path = record { begins = refl; no_more = refl; goes_on = refl; empty = refl; grows = refl; brackets = refl; decided = refl }
fits Counted = record { begins = refl; no_more = refl; goes_on = refl; empty = refl; grows = refl; brackets = refl; decided = refl }
fits Sere = record { begins = refl; no_more = refl; goes_on = refl; empty = refl; grows = refl; brackets = refl; decided = refl }
fits Fus = record { begins = refl; no_more = refl; goes_on = refl; empty = refl; grows = refl; brackets = refl; decided = refl }
fits Alt = record { begins = refl; no_more = refl; goes_on = refl; empty = refl; grows = refl; brackets = refl; decided = refl }
fits Conj = record { begins = refl; no_more = refl; goes_on = refl; empty = refl; grows = refl; brackets = refl; decided = refl }
fits Wtail = record { begins = refl; no_more = refl; goes_on = refl; empty = refl; grows = refl; brackets = refl; decided = refl }
fits Ctail = record { begins = refl; no_more = refl; goes_on = refl; empty = refl; grows = refl; brackets = refl; decided = refl }
fits Side = record { begins = refl; no_more = refl; goes_on = refl; empty = refl; grows = refl; brackets = refl; decided = refl }
fits Start = record { begins = refl; no_more = refl; goes_on = refl; empty = refl; grows = refl; brackets = refl; decided = refl }
fits Bor = record { begins = refl; no_more = refl; goes_on = refl; empty = refl; grows = refl; brackets = refl; decided = refl }
fits Band = record { begins = refl; no_more = refl; goes_on = refl; empty = refl; grows = refl; brackets = refl; decided = refl }
fits Bcmp = record { begins = refl; no_more = refl; goes_on = refl; empty = refl; grows = refl; brackets = refl; decided = refl }
fits Buna = record { begins = refl; no_more = refl; goes_on = refl; empty = refl; grows = refl; brackets = refl; decided = refl }
fits Post = record { begins = refl; no_more = refl; goes_on = refl; empty = refl; grows = refl; brackets = refl; decided = refl }
fits Clk0 = record { begins = refl; no_more = refl; goes_on = refl; empty = refl; grows = refl; brackets = refl; decided = refl }
fits Count = record { begins = refl; no_more = refl; goes_on = refl; empty = refl; grows = refl; brackets = refl; decided = refl }
