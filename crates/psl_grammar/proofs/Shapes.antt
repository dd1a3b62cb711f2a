-- No production makes a wrong tree: the shapes of the items that parts give, and what is built of them.
use Rattle.std.proofs.Common.{◌≡◌, refl, sym, subst, true, ◌≤◌, List, [], ◌∷◌, ◌++◌, length, append-nil, arith}
use Rattle.std.specs.Prelude.{⊤}
use Rattle.psl_lexer.specs.declared.kind.TokenKind.{TokenKind}
use Rattle.psl_lexer.specs.declared.kind.TokenKind.TheVariants as kinds
use Rattle.psl_grammar.specs.Derivation.{Derives, Derives as derived}
use Rattle.psl_grammar.specs.Parts.{Symbol, Text, Vunit, Statement, Directive, Declaration, Prop, Imp, ImpRight, Suf, Bnd, Occ, Trm, Clk, Or, And, Cmp, Una, Pri, Atom, Path, Counted, Sere, Fus, Alt, Conj, Wtail, Ctail, Side, Start, Bor, Band, Bcmp, Buna, Post, Clk0, Count, Part, Quoted, Sym, ◌~◌, ◌//◌, Many, Maybe}
use Rattle.psl_grammar.specs.Productions.{production, index, grouped, edge}
use Rattle.psl_grammar.specs.Sound.{IsSound}
use Rattle.psl_grammar.specs.Trees.{Token, Node, Tail, Absent, Infix, Posted, UnitOf, Item, Tok, Tree, built, listed, infixed, applied, tails, wide_tails, posted, conjoined, indexed, atom, opened, prefixed, joined}
use Rattle.psl_grammar.proofs.Decided.{is_token}
use Rattle.psl_grammar.proofs.NextToken.{clash, and-left, and-right}

-- operators that wait, with sound operands
abbrev pub AreTails : Node → Type 0
AreTails Absent = ⊤
AreTails (Tail operator x rest) = IsSound x × AreTails rest
AreTails _ = ⊥

-- what is known of the tree of a symbol
abbrev pub IsFine : Symbol → Node → Type 0
IsFine Wtail x = AreTails x
IsFine Ctail x = AreTails x
IsFine _ x = IsSound x

tails-sound : (x : Node) → AreTails x → IsSound x
tails-sound Absent h = tt
tails-sound (Tail operator x rest) h = (h.0, tails-sound rest h.1)
tails-sound _ h = absurd h

fine-sound : (s : Symbol) (x : Node) → IsFine s x → IsSound x
fine-sound Wtail x h = tails-sound x h
fine-sound Ctail x h = tails-sound x h
fine-sound _ x h = h

-- the items that a part gives, with nothing said of tokens
pub data Gives : Part → List Item → Type 0 where
  quoted : {k : TokenKind} (t : Token) → Gives (Quoted k) (Tok t ∷ [])
  symbol : {s : Symbol} (x : Node) → IsFine s x → Gives (Sym s) (Tree x ∷ [])
  both : {a b : Part} {f g : List Item} → Gives a f → Gives b g → Gives (a ~ b) (f ++ g)
  left : {a b : Part} {f : List Item} → Gives a f → Gives (a // b) f
  right : {a b : Part} {f : List Item} → Gives b f → Gives (a // b) f
  end : {a : Part} → Gives (Many a) []
  more : {a : Part} {f g : List Item} → Gives a f → Gives (Many a) g → Gives (Many a) (f ++ g)
  without : {a : Part} → Gives (Maybe a) []
  with : {a : Part} {f : List Item} → Gives a f → Gives (Maybe a) f

-- a part that is one token gives one
each-token : {a : Part} {f : List Item} (P : List Item → Type 0) → is_token a ≡ true → ((t : Token) → P (Tok t ∷ [])) → Gives a f → P f
each-token P e h (quoted t) = h t
each-token P e h (symbol x i) = clash e refl
each-token P e h (both x y) = clash e refl
each-token P e h (left {a = a} x) = each-token P (and-left (is_token a) _ e) h x
each-token P e h (right {a = a} x) = each-token P (and-right (is_token a) _ e) h x
each-token P e h end = clash e refl
each-token P e h (more x y) = clash e refl
each-token P e h without = clash e refl
each-token P e h (with x) = clash e refl

-- the pieces that several productions share

prefixed-sound : {op : Part} {s u : Symbol} {f : List Item} → is_token op ≡ true → Gives (op ~ Sym s // Sym u) f → IsSound (prefixed f)
prefixed-sound {s = s} e (left (both o (symbol x i))) = each-token (λ g. IsSound (prefixed (g ++ Tree x ∷ []))) e (λ t. fine-sound s x i) o
prefixed-sound {u = u} e (right (symbol x i)) = fine-sound u x i

joined-sound : {op : Part} {s u : Symbol} {f : List Item} → is_token op ≡ true → Gives (Sym s ~ Maybe (op ~ Sym u)) f → IsSound (joined f)
joined-sound {s = s} e (both (symbol x i) without) = fine-sound s x i
joined-sound {s = s} {u = u} e (both (symbol x i) (with (both o (symbol y j)))) =
    each-token (λ g. IsSound (joined (Tree x ∷ (g ++ Tree y ∷ [])))) e (λ t. (fine-sound s x i, fine-sound u y j)) o

infixed-sound : {op : Part} {s : Symbol} {f : List Item} (x : Node) → is_token op ≡ true → IsSound x → Gives (Many (op ~ Sym s)) f → IsSound (infixed x f)
infixed-sound x e h end = h
infixed-sound {s = s} x e h (more {g = items} (both o (symbol y j)) rest) =
    each-token (λ g. IsSound (infixed x ((g ++ Tree y ∷ []) ++ items))) e (λ t. infixed-sound (Infix x t y) e (h, fine-sound s y j) rest) o

applied-sound : (x y : Node) → IsSound x → AreTails y → IsSound (applied x y)
applied-sound x Absent h g = h
applied-sound x (Tail operator y rest) h g = applied-sound (Infix x operator y) rest (h, g.0) g.1
applied-sound x _ h g = absurd g

posted-sound : {s : Symbol} {f : List Item} (x : Node) → IsSound x → Gives (Many (Sym s)) f → IsSound (posted x f)
posted-sound x h end = h
posted-sound {s = s} x h (more (symbol y j) rest) = posted-sound (Posted x y) (h, fine-sound s y j) rest

-- the same with an operator behind
posted-strong : {s : Symbol} {f : List Item} (x : Node) (t : Token) → IsSound x → Gives (Many (Sym s)) f → IsSound (posted x (f ++ Tok t ∷ []))
posted-strong x t h end = h
posted-strong {s = s} x t h (more (symbol y j) rest) = posted-strong (Posted x y) t (h, fine-sound s y j) rest

posted-maybe : {s : Symbol} {f g : List Item} (x : Node) → IsSound x → Gives (Many (Sym s)) f → Gives (Maybe (Quoted kinds.Not)) g → IsSound (posted x (f ++ g))
posted-maybe {f = f} x h posts without = subst (λ z. IsSound (posted x z)) (sym (append-nil f)) (posted-sound x h posts)
posted-maybe x h posts (with (quoted t)) = posted-strong x t h posts

pub conjoined-post : (x post : Node) (rest : List Item) → 2 ≤ length rest → conjoined x (Tree post ∷ rest) ≡ conjoined (Posted x post) rest
conjoined-post x post [] h = absurd (none h)
  where
    none : 2 ≤ length {A = Item} [] → ⊥
    none h = omega arith
conjoined-post x post (item ∷ []) h = absurd (none h)
  where
    none : 2 ≤ length (item ∷ []) → ⊥
    none h = omega arith
conjoined-post x post (Tree y ∷ item ∷ rest) h = refl
conjoined-post x post (Tok y ∷ item ∷ rest) h = refl

two-behind : (f : List Item) (x y : Item) → 2 ≤ length (f ++ x ∷ y ∷ [])
two-behind [] x y = omega arith
two-behind (item ∷ f) x y = let h : 2 ≤ length (f ++ x ∷ y ∷ []) = two-behind f x y in omega arith

conjoined-sound : {s : Symbol} {f : List Item} (x narrow wide : Node) → IsSound x → AreTails narrow → AreTails wide → Gives (Many (Sym s)) f → IsSound (conjoined x (f ++ Tree narrow ∷ Tree wide ∷ []))
conjoined-sound x narrow wide h g k end = applied-sound (applied x narrow) wide (applied-sound x narrow h g) k
conjoined-sound {s = s} x narrow wide h g k (more {g = rest} (symbol y j) posts) =
    subst IsSound (sym (conjoined-post x y (rest ++ Tree narrow ∷ Tree wide ∷ []) (two-behind rest (Tree narrow) (Tree wide)))) (conjoined-sound (Posted x y) narrow wide (h, fine-sound s y j) g k posts)

listed-sound : {s : Symbol} {f : List Item} (rest : List Item) → IsSound (listed rest) → Gives (Many (Sym s)) f → IsSound (listed (f ++ rest))
listed-sound rest h end = h
listed-sound {s = s} rest h (more (symbol x i) more_items) = (fine-sound s x i, listed-sound rest h more_items)

all-listed : {s : Symbol} {f : List Item} → Gives (Many (Sym s)) f → IsSound (listed f)
all-listed {f = f} h = subst (λ z. IsSound (listed z)) (append-nil f) (listed-sound [] tt h)

pub unit-alone : {s : Symbol} {f : List Item} (unit name brace last : Token) → Gives (Many (Sym s)) f → built Vunit (Tok unit ∷ Tok name ∷ Tok brace ∷ (f ++ Tok last ∷ [])) ≡ UnitOf name Absent (listed (f ++ Tok last ∷ []))
unit-alone unit name brace last end = refl
unit-alone unit name brace last (more (symbol x i) end) = refl
unit-alone unit name brace last (more (symbol x i) (more (symbol y j) rest)) = refl

indexed-sound : {f : List Item} (x : Node) → IsSound x → Gives (Maybe index) f → IsSound (indexed x f)
indexed-sound x h without = h
indexed-sound x h (with (both (quoted o) (both (quoted n) (quoted c)))) = h

edge-sound : {f : List Item} → Gives (edge ~ Sym Path ~ Maybe index) f → IsSound (atom f)
edge-sound (both o (both (symbol x i) without)) = each-token (λ g. IsSound (atom (g ++ (Tree x ∷ [])))) refl (λ t. i) o
edge-sound (both o (both (symbol x i) (with (both (quoted p) (both (quoted n) (quoted c)))))) =
    each-token (λ g. IsSound (atom (g ++ (Tree x ∷ Tok p ∷ Tok n ∷ Tok c ∷ [])))) refl (λ t. i) o

path-sound : {f : List Item} → Gives (Sym Path ~ Maybe index) f → IsSound (atom f)
path-sound (both (symbol x i) h) = indexed-sound x i h

grouped-sound : {f : List Item} → Gives grouped f → IsSound (atom f)
grouped-sound (both (quoted o) (both (symbol x i) (quoted c))) = i

opened-sound : (k : TokenKind) (t : Token) (x : Node) → IsSound x → IsSound (opened k t x)
opened-sound kinds.BraceOpen t x h = h
opened-sound _ t x h = h

tails-fine : {f : List Item} → Gives (Many (Quoted kinds.Within ~ Sym Side)) f → AreTails (tails f)
tails-fine end = tt
tails-fine (more (both (quoted t) (symbol x i)) rest) = (i, tails-fine rest)

wide-fine : {op : Part} {f : List Item} → is_token op ≡ true → Gives (Many (op ~ Sym Side ~ Sym Wtail)) f → AreTails (wide_tails f)
wide-fine e end = tt
wide-fine e (more {g = items} (both o (both (symbol x i) (symbol y j))) rest) =
    each-token (λ g. AreTails (wide_tails ((g ++ (Tree x ∷ Tree y ∷ [])) ++ items))) e (λ t. (applied-sound x y i j, wide-fine e rest)) o

-- each production

pub fine-built : (s : Symbol) {f : List Item} → Gives (production s) f → IsFine s (built s f)
fine-built Text (left (both (symbol x i) rest)) = (i, all-listed rest)
fine-built Text (right rest) = all-listed rest
fine-built Vunit (both (quoted u) (both (quoted n) (both without (both (quoted o) (both rest (quoted c)))))) =
    subst IsSound (sym (unit-alone u n o c rest)) (tt, listed-sound (Tok c ∷ []) tt rest)
fine-built Vunit (both (quoted u) (both (quoted n) (both (with (both (quoted p) (both (symbol x i) (quoted q)))) (both (quoted o) (both rest (quoted c)))))) =
    (i, listed-sound (Tok c ∷ []) tt rest)
fine-built Statement (left (both without (symbol x i))) = i
fine-built Statement (left (both (with (both (quoted n) (quoted c))) (symbol x i))) = i
fine-built Statement (right (symbol x i)) = i
fine-built Directive (both o (both (symbol x i) (both without (quoted e)))) = each-token (λ g. IsSound (built Directive (g ++ (Tree x ∷ Tok e ∷ [])))) refl (λ t. (i, tt)) o
fine-built Directive (both o (both (symbol x i) (both (with (both (quoted r) (quoted s))) (quoted e)))) =
    each-token (λ g. IsSound (built Directive (g ++ (Tree x ∷ Tok r ∷ Tok s ∷ Tok e ∷ [])))) refl (λ t. (i, tt)) o
fine-built Declaration (left (both (quoted w) (both (quoted n) (both (quoted q) (both (symbol x i) (quoted e)))))) = i
fine-built Declaration (right (left (both (quoted w) (both (quoted n) (both (quoted q) (both (symbol x i) (quoted e))))))) = i
fine-built Declaration (right (right (both (quoted w) (both (quoted n) (both (quoted q) (both (symbol x i) (quoted e))))))) = i
fine-built Prop h = prefixed-sound refl h
fine-built Imp h = joined-sound refl h
fine-built ImpRight h = prefixed-sound refl h
fine-built Suf h = joined-sound refl h
fine-built Bnd h = joined-sound refl h
fine-built Occ h = prefixed-sound refl h
fine-built Trm (both (symbol x i) rest) = infixed-sound x refl i rest
fine-built Clk (both (symbol x i) without) = i
fine-built Clk (both (symbol x i) (with (both (symbol y j) (both posts last)))) = posted-maybe (Posted x y) (i, j) posts last
fine-built Or (both (symbol x i) rest) = infixed-sound x refl i rest
fine-built And (both (symbol x i) rest) = infixed-sound x refl i rest
fine-built Cmp h = joined-sound refl h
fine-built Una (left (both (quoted t) (symbol x i))) = i
fine-built Una (right (both (symbol x i) without)) = i
fine-built Una (right (both (symbol x i) (with (quoted t)))) = i
fine-built Pri (left (symbol x i)) = i
fine-built Pri (right (left (both (quoted o) (both (symbol x i) (quoted c))))) = i
fine-built Pri (right (right (symbol x i))) = i
fine-built Atom (left h) = path-sound h
fine-built Atom (right (left (quoted t))) = tt
fine-built Atom (right (right (left (quoted t)))) = tt
fine-built Atom (right (right (right (left (quoted t))))) = tt
fine-built Atom (right (right (right (right (left (quoted t)))))) = tt
fine-built Atom (right (right (right (right (right (left h)))))) = edge-sound h
fine-built Atom (right (right (right (right (right (right h)))))) = grouped-sound h
fine-built Path (both (quoted n) rest) = tt
fine-built Counted (left (both o (both (both (quoted p) (both (quoted n) (quoted q))) (both (quoted l) (both (symbol x i) (quoted r)))))) =
    each-token (λ g. IsSound (built Counted (g ++ (Tok p ∷ Tok n ∷ Tok q ∷ Tok l ∷ Tree x ∷ Tok r ∷ [])))) refl (λ t. (tt, tt, i)) o
fine-built Counted (right (left (both o (both (both (quoted p) (both (quoted n) (both (quoted d) (both (quoted m) (quoted q))))) (both (quoted l) (both (symbol x i) (quoted r))))))) =
    each-token (λ g. IsSound (built Counted (g ++ (Tok p ∷ Tok n ∷ Tok d ∷ Tok m ∷ Tok q ∷ Tok l ∷ Tree x ∷ Tok r ∷ [])))) refl (λ t. (tt, tt, i)) o
fine-built Counted (right (right (left (both o (both (both (quoted p) (both (symbol y j) (quoted q))) (both without (both (quoted l) (both (symbol x i) (quoted r))))))))) =
    each-token (λ g. IsSound (built Counted (g ++ (Tok p ∷ Tree y ∷ Tok q ∷ Tok l ∷ Tree x ∷ Tok r ∷ [])))) refl (λ t. (j, tt, i)) o
fine-built Counted (right (right (left (both o (both (both (quoted p) (both (symbol y j) (quoted q))) (both (with (both (quoted b) (both (quoted n) (quoted c)))) (both (quoted l) (both (symbol x i) (quoted r))))))))) =
    each-token (λ g. IsSound (built Counted (g ++ (Tok p ∷ Tree y ∷ Tok q ∷ Tok b ∷ Tok n ∷ Tok c ∷ Tok l ∷ Tree x ∷ Tok r ∷ [])))) refl (λ t. (j, tt, i)) o
fine-built Counted (right (right (right (both o (both (both (quoted p) (both (symbol y j) (quoted q))) (both (both (quoted b) (both (quoted n) (both (quoted d) (both (quoted m) (quoted c))))) (both (quoted l) (both (symbol x i) (quoted r))))))))) =
    each-token (λ g. IsSound (built Counted (g ++ (Tok p ∷ Tree y ∷ Tok q ∷ Tok b ∷ Tok n ∷ Tok d ∷ Tok m ∷ Tok c ∷ Tok l ∷ Tree x ∷ Tok r ∷ [])))) refl (λ t. (j, tt, i)) o
fine-built Sere (both (symbol x i) rest) = infixed-sound x refl i rest
fine-built Fus (both (symbol x i) rest) = infixed-sound x refl i rest
fine-built Alt (both (symbol x i) rest) = infixed-sound x refl i rest
fine-built Conj (left (both (symbol x i) without)) = i
fine-built Conj (left (both (symbol x i) (with (both (symbol y j) (both posts (both (symbol v k) (symbol w l))))))) =
    conjoined-sound x v w i k l (more (symbol y j) posts)
fine-built Conj (right (both (symbol x i) (both posts (both (symbol v k) (symbol w l))))) = conjoined-sound x v w i k l posts
fine-built Wtail h = tails-fine h
fine-built Ctail h = wide-fine refl h
fine-built Side (left (both (symbol x i) (both (symbol y j) posts))) = posted-sound (Posted x y) (i, j) posts
fine-built Side (right (both (symbol x i) posts)) = posted-sound x i posts
fine-built Start (left (both (quoted o) (both (symbol x i) (quoted c)))) = opened-sound o.kind o x i
fine-built Start (right (left (both (quoted o) (both without (quoted c))))) = tt
fine-built Start (right (left (both (quoted o) (both (with (symbol x i)) (quoted c))))) = opened-sound o.kind o x i
fine-built Start (right (right (quoted o))) = tt
fine-built Bor (both (symbol x i) rest) = infixed-sound x refl i rest
fine-built Band (both (symbol x i) rest) = infixed-sound x refl i rest
fine-built Bcmp h = joined-sound refl h
fine-built Buna h = prefixed-sound refl h
fine-built Post (left (both (quoted o) (both without (quoted c)))) = tt
fine-built Post (left (both (quoted o) (both (with (symbol x i)) (quoted c)))) = i
fine-built Post (right (left (quoted o))) = tt
fine-built Post (right (right (left (both (quoted o) (both without (quoted c)))))) = tt
fine-built Post (right (right (left (both (quoted o) (both (with (symbol x i)) (quoted c)))))) = i
fine-built Post (right (right (right (left (both (quoted o) (both (symbol x i) (quoted c))))))) = i
fine-built Post (right (right (right (right (both (quoted o) (symbol x i)))))) = i
fine-built Clk0 (left h) = path-sound h
fine-built Clk0 (right (left (quoted t))) = tt
fine-built Clk0 (right (right (left (quoted t)))) = tt
fine-built Clk0 (right (right (right (left h)))) = grouped-sound h
fine-built Clk0 (right (right (right (right h)))) = edge-sound h
fine-built Count (both (quoted n) without) = tt
fine-built Count (both (quoted n) (with (both (quoted d) h))) = each-token (λ g. IsSound (built Count (Tok n ∷ Tok d ∷ g))) refl (λ t. tt) h

pub derived-gives : {a : Part} {ts rest : List Token} {f : List Item} → Derives a ts f rest → Gives a f
derived-gives (derived.quoted {t = t} e) = quoted t
derived-gives (derived.symbol {s = s} {f = f} x e) = subst (Gives (Sym s)) (sym e) (symbol (built s f) (fine-built s (derived-gives x)))
derived-gives (derived.both {a = a} {b = b} x y e) = subst (Gives (a ~ b)) (sym e) (both (derived-gives x) (derived-gives y))
derived-gives (derived.left x) = left (derived-gives x)
derived-gives (derived.right x) = right (derived-gives x)
derived-gives derived.end = end
derived-gives (derived.more {a = a} x y e) = subst (Gives (Many a)) (sym e) (more (derived-gives x) (derived-gives y))
derived-gives derived.without = without
derived-gives (derived.with x) = with (derived-gives x)

pub given-sound : (s : Symbol) (x : Node) → Gives (Sym s) (Tree x ∷ []) → IsSound x
given-sound s x (symbol y h) = fine-sound s y h
