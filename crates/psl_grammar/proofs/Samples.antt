-- Each symbol derives some list, so what begins a symbol is the front of a list that it derives.
use Rattle.std.proofs.Common.{◌≡◌, refl, sym, subst, List, [], ◌∷◌, ◌++◌, append_assoc}
use Rattle.psl_lexer.specs.declared.kind.TokenKind.{TokenKind}
use Rattle.psl_lexer.specs.declared.kind.TokenKind.TheVariants as kinds
use Rattle.psl_grammar.specs.Derivation.{Derives, Derives as derived, Begins, Begins as begun}
use Rattle.psl_grammar.specs.Examples.{token}
use Rattle.psl_grammar.specs.Parts.{Symbol, Text, Vunit, Statement, Directive, Declaration, Prop, Imp, ImpRight, Suf, Bnd, Occ, Trm, Clk, Or, And, Cmp, Una, Pri, Atom, Path, Counted, Sere, Fus, Alt, Conj, Wtail, Ctail, Side, Start, Bor, Band, Bcmp, Buna, Post, Clk0, Count, Part, Quoted, Sym, ◌~◌, ◌//◌, Many, Maybe}
use Rattle.psl_grammar.specs.Productions.{production}
use Rattle.psl_grammar.specs.Trees.{Token, Item, Tok, Tree, built}
use Rattle.psl_grammar.proofs.Fronts.{derived-grows}

-- a list of the part that begins with the tokens
pub record Ends (a : Part) (front : List Token) : Type 0 where
  pub rest : List Token
  pub items : List Item
  pub derives : Derives a (front ++ rest) items []

-- some list of the part
abbrev pub Some : Part → Type 0
Some a = Ends a []

some-token : (k : TokenKind) → Some (Quoted k)
some-token k = record { rest = token k 0 ∷ []; items = Tok (token k 0) ∷ []; derives = derived.quoted refl }

some-symbol : (s : Symbol) {front : List Token} → Ends (production s) front → Ends (Sym s) front
some-symbol s h = record { rest = h.rest; items = Tree (built s h.items) ∷ []; derives = derived.symbol h.derives refl }

-- a front of the first part, ended, and then a list of the second
some-both : {a b : Part} {front : List Token} → Ends a front → Some b → Ends (a ~ b) front
some-both {a = a} {b = b} {front = front} h g =
    record {
      rest = h.rest ++ g.rest;
      items = h.items ++ g.items;
      derives = derived.both (subst (λ z. Derives a z h.items g.rest) (append_assoc front h.rest g.rest) (derived-grows g.rest h.derives)) g.derives refl;
    }

some-left : {a b : Part} {front : List Token} → Ends a front → Ends (a // b) front
some-left h = record { rest = h.rest; items = h.items; derives = derived.left h.derives }

some-right : {a b : Part} {front : List Token} → Ends b front → Ends (a // b) front
some-right h = record { rest = h.rest; items = h.items; derives = derived.right h.derives }

some-none : {a : Part} → Some (Many a)
some-none = record { rest = []; items = []; derives = derived.end }

some-without : {a : Part} → Some (Maybe a)
some-without = record { rest = []; items = []; derives = derived.without }

some-true : Some (Quoted kinds.True)
some-true = some-token kinds.True

some-atom : Some (Sym Atom)
some-atom = some-symbol Atom (some-right (some-right (some-right (some-left some-true))))

some-pri : Some (Sym Pri)
some-pri = some-symbol Pri (some-left some-atom)

some-una : Some (Sym Una)
some-una = some-symbol Una (some-right (some-both some-pri some-without))

some-cmp : Some (Sym Cmp)
some-cmp = some-symbol Cmp (some-both some-una some-without)

some-and : Some (Sym And)
some-and = some-symbol And (some-both some-cmp some-none)

some-or : Some (Sym Or)
some-or = some-symbol Or (some-both some-and some-none)

some-clk : Some (Sym Clk)
some-clk = some-symbol Clk (some-both some-or some-without)

some-trm : Some (Sym Trm)
some-trm = some-symbol Trm (some-both some-clk some-none)

some-occ : Some (Sym Occ)
some-occ = some-symbol Occ (some-right some-trm)

some-bnd : Some (Sym Bnd)
some-bnd = some-symbol Bnd (some-both some-occ some-without)

some-suf : Some (Sym Suf)
some-suf = some-symbol Suf (some-both some-bnd some-without)

some-imp : Some (Sym Imp)
some-imp = some-symbol Imp (some-both some-suf some-without)

some-prop : Some (Sym Prop)
some-prop = some-symbol Prop (some-right some-imp)

some-path : Some (Sym Path)
some-path = some-symbol Path (some-both (some-token kinds.Name) some-none)

some-buna : Some (Sym Buna)
some-buna = some-symbol Buna (some-right some-atom)

some-bcmp : Some (Sym Bcmp)
some-bcmp = some-symbol Bcmp (some-both some-buna some-without)

some-band : Some (Sym Band)
some-band = some-symbol Band (some-both some-bcmp some-none)

some-bor : Some (Sym Bor)
some-bor = some-symbol Bor (some-both some-band some-none)

some-conj : Some (Sym Conj)
some-conj = some-symbol Conj (some-left (some-both some-bor some-without))

some-alt : Some (Sym Alt)
some-alt = some-symbol Alt (some-both some-conj some-none)

some-fus : Some (Sym Fus)
some-fus = some-symbol Fus (some-both some-alt some-none)

some-start : Some (Sym Start)
some-start = some-symbol Start (some-right (some-right (some-token kinds.PlusRepeat)))

some-directive : Some (Sym Directive)
some-directive = some-symbol Directive (some-both (some-left (some-token kinds.Assert)) (some-both some-prop (some-both some-without (some-token kinds.Semicolon))))

some-grouped : Some (Quoted kinds.ParenOpen ~ Sym Prop ~ Quoted kinds.ParenClose)
some-grouped = some-both (some-token kinds.ParenOpen) (some-both some-prop (some-token kinds.ParenClose))

pub some-list : (s : Symbol) → Some (Sym s)
some-list Text = some-symbol Text (some-right some-none)
some-list Vunit =
    some-symbol Vunit
    (some-both (some-token kinds.Vunit) (some-both (some-token kinds.Name) (some-both some-without (some-both (some-token kinds.BraceOpen) (some-both some-none (some-token kinds.BraceClose))))))
some-list Statement = some-symbol Statement (some-left (some-both some-without some-directive))
some-list Directive = some-directive
some-list Declaration =
    some-symbol Declaration
    (some-left (some-both (some-token kinds.Sequence) (some-both (some-token kinds.Name) (some-both (some-token kinds.Equals) (some-both some-prop (some-token kinds.Semicolon))))))
some-list Prop = some-prop
some-list Imp = some-imp
some-list ImpRight = some-symbol ImpRight (some-right some-imp)
some-list Suf = some-suf
some-list Bnd = some-bnd
some-list Occ = some-occ
some-list Trm = some-trm
some-list Clk = some-clk
some-list Or = some-or
some-list And = some-and
some-list Cmp = some-cmp
some-list Una = some-una
some-list Pri = some-pri
some-list Atom = some-atom
some-list Path = some-path
some-list Counted =
    some-symbol Counted
    (some-right (some-right (some-left (some-both (some-left (some-token kinds.NextEvent)) (some-both some-grouped (some-both some-without some-grouped))))))
some-list Sere = some-symbol Sere (some-both some-fus some-none)
some-list Fus = some-fus
some-list Alt = some-alt
some-list Conj = some-conj
some-list Wtail = some-symbol Wtail some-none
some-list Ctail = some-symbol Ctail some-none
some-list Side = some-symbol Side (some-right (some-both some-start some-none))
some-list Start = some-start
some-list Bor = some-bor
some-list Band = some-band
some-list Bcmp = some-bcmp
some-list Buna = some-buna
some-list Post = some-symbol Post (some-right (some-left (some-token kinds.PlusRepeat)))
some-list Clk0 = some-symbol Clk0 (some-right (some-left some-true))
some-list Count = some-symbol Count (some-both (some-token kinds.Number) some-without)

pub some-part : (a : Part) → Some a
some-part (Quoted k) = some-token k
some-part (Sym s) = some-list s
some-part (a ~ b) = some-both (some-part a) (some-part b)
some-part (a // b) = some-left (some-part a)
some-part (Many a) = some-none
some-part (Maybe a) = some-without

-- what begins a part is ended to a list of it

ends-next : {a b : Part} {ts mid : List Token} {f : List Item} → Derives a ts f mid → Ends b mid → Ends (a ~ b) ts
ends-next {f = f} x h = record { rest = h.rest; items = f ++ h.items; derives = derived.both (derived-grows h.rest x) h.derives refl }

ends-now : {a : Part} {ts : List Token} → Ends a ts → Ends (Many a) ts
ends-now h = record { rest = h.rest; items = h.items ++ []; derives = derived.more h.derives derived.end refl }

ends-later : {a : Part} {ts mid : List Token} {f : List Item} → Derives a ts f mid → Ends (Many a) mid → Ends (Many a) ts
ends-later {f = f} x h = record { rest = h.rest; items = f ++ h.items; derives = derived.more (derived-grows h.rest x) h.derives refl }

ends-maybe : {a : Part} {ts : List Token} → Ends a ts → Ends (Maybe a) ts
ends-maybe h = record { rest = h.rest; items = h.items; derives = derived.with h.derives }

pub begun-ended : {a : Part} {ts rest : List Token} → rest ≡ [] → Begins a ts rest → Ends a ts
begun-ended e (begun.nothing {a = a}) = subst (λ z. Ends a z) (sym e) (some-part a)
begun-ended e (begun.quoted {k = k} {t = t} {ts = ts} x) = record { rest = []; items = Tok t ∷ []; derives = subst (λ z. Derives (Quoted k) (t ∷ (z ++ [])) (Tok t ∷ []) []) (sym e) (derived.quoted x) }
begun-ended e (begun.symbol {s = s} x) = some-symbol s (begun-ended e x)
begun-ended e (begun.first {b = b} x) = some-both (begun-ended e x) (some-part b)
begun-ended e (begun.next f x y) = ends-next x (begun-ended e y)
begun-ended e (begun.left x) = some-left (begun-ended e x)
begun-ended e (begun.right x) = some-right (begun-ended e x)
begun-ended e (begun.now x) = ends-now (begun-ended e x)
begun-ended e (begun.later f x y) = ends-later x (begun-ended e y)
begun-ended e (begun.maybe x) = ends-maybe (begun-ended e x)
