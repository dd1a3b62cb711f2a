-- The laws hold.
use Rattle.std.proofs.Common.{◌≡◌, ◌≢◌, ◌⊎◌, inl, inr, true, refl, sym, ◌∙◌, ap, subst, ℕ, suc, ◌≤◌, ◌<◌, List, [], ◌∷◌, ◌++◌, length, append-nil, arith}
use Rattle.psl_grammar.specs.Derivation.{Derives, Derives as derived, Begins, BeginsSymbol, IsSyntaxFault, IsTree}
use Rattle.psl_grammar.specs.Firsts.{at}
use Rattle.psl_lexer.specs.declared.kind.TokenKind.{TokenKind}
use Rattle.psl_grammar.proofs.Decided.{ons}
use Rattle.psl_grammar.specs.Laws.{OneTree, TreesAreSound, BegunByFronts, RestDoesNotMatter, ShorterBegins, OnePlace, TreeHasNoFault, TreeOrFault, ReadIsTree, StopIsFault, LimitComesFirst, ReadWithinLimit, FaultWithinLimit}
use Rattle.psl_grammar.specs.Parts.{Symbol, Sym}
use Rattle.psl_grammar.specs.Reading.{State, Reads, Stops, Syntax}
use Rattle.psl_grammar.specs.Trees.{Token, Node, Item, Tree, built}
use Rattle.psl_grammar.proofs.Exact.{Same, unique, stop-on, stop-covers, covers, cons-rest}
use Rattle.psl_grammar.proofs.Fronts.{EndsIn, EndsIn-trans, begun-grows, begun-cut, begun-ends, ends-compare, ends-shorter, begun-shorter}
use Rattle.psl_grammar.proofs.Lengths.{derived-begun}
use Rattle.psl_grammar.proofs.Limits.{read-below, stop-below, limit-left, limit-behind, stop-limit}
use Rattle.psl_grammar.proofs.NextToken.{clash}
use Rattle.psl_grammar.proofs.Readers.{read-derived, stop-begins, PassesAt, limit-begins}
use Rattle.psl_grammar.proofs.Shapes.{derived-gives, given-sound}
use Rattle.psl_grammar.proofs.Total.{Outcome, reads-or-stops}
use Rattle.psl_grammar.proofs.Samples.{Ends, begun-ended}

-- at the end of the tokens nothing goes on
at-end : {A : Type 0} (ks : List TokenKind) → at [] ks ≡ true → A
at-end ks p = clash p refl

abbrev tree-of : Node → List Item → Node
tree-of x (Tree y ∷ rest) = y
tree-of x _ = x

pub one_tree : OneTree
one_tree s tokens x y h g = go (unique {a = Sym s} refl refl h g)
  where
    go : Same (Tree x ∷ []) (Tree y ∷ []) [] [] ⊎ ((at [] (ons (Sym s)) ≡ true) ⊎ (at [] (ons (Sym s)) ≡ true)) → x ≡ y
    go (inl k) = ap (tree-of x) k.items
    go (inr (inl p)) = at-end (ons (Sym s)) p
    go (inr (inr p)) = at-end (ons (Sym s)) p

pub trees_are_sound : TreesAreSound
trees_are_sound s tokens x h = given-sound s x (derived-gives h)

-- beginnings

pub rest_does_not_matter : RestDoesNotMatter
rest_does_not_matter s tokens rest = (begun-grows rest, begun-cut rest tokens [] refl refl)

pub shorter_begins : ShorterBegins
shorter_begins s tokens rest h = begun-cut rest tokens [] refl refl (begun-shorter rest (tokens, refl) (rest, sym (append-nil rest)) h)

one-item : {s : Symbol} {ts rest : List Token} {f : List Item} → Derives (Sym s) ts f rest → (x : Node) × (f ≡ Tree x ∷ [])
one-item (derived.symbol {s = s} {f = f} x e) = (built s f, e)

pub begun_by_fronts : BegunByFronts
begun_by_fronts s tokens = (forth, back)
  where
    forth : BeginsSymbol s tokens → (rest : List Token) × (x : Node) × IsTree s (tokens ++ rest) x
    forth h =
        let ended : Ends (Sym s) tokens = begun-ended refl h in
        let item : (x : Node) × (ended.items ≡ Tree x ∷ []) = one-item ended.derives in
        (ended.rest, item.0, subst (λ f. Derives (Sym s) (tokens ++ ended.rest) f []) item.1 ended.derives)

    back : (rest : List Token) × (x : Node) × IsTree s (tokens ++ rest) x → BeginsSymbol s tokens
    back p = shorter_begins s tokens p.0 (derived-begun p.2)

-- the place of a syntax fault

fault-begins : (s : Symbol) (tokens rest : List Token) → IsSyntaxFault s tokens rest → Begins (Sym s) tokens rest
fault-begins s tokens [] h = h.0
fault-begins s tokens (t ∷ rest) h = h.0

-- beyond the place nothing begins
beyond : (s : Symbol) (tokens other : List Token) (t : Token) (rest : List Token) → IsSyntaxFault s tokens (t ∷ rest) → Begins (Sym s) tokens other → EndsIn rest other → ⊥
beyond s tokens other t rest h y e = h.1 (begun-shorter rest (EndsIn-trans tokens (t ∷ rest) rest (begun-ends h.0) (t ∷ [], refl)) e y)

-- of two places, the one further on is the same
same-place : (s : Symbol) (tokens rest other : List Token) → IsSyntaxFault s tokens rest → IsSyntaxFault s tokens other → EndsIn rest other → rest ≡ other
same-place s tokens [] [] h g e = refl
same-place s tokens [] (u ∷ other) h g e = absurd (none (ends-shorter [] (u ∷ other) e))
  where
    none : length (u ∷ other) ≤ length {A = Token} [] → ⊥
    none i = omega arith
same-place s tokens (t ∷ rest) other h g e = go e.0 e.1
  where
    go : (front : List Token) → t ∷ rest ≡ front ++ other → t ∷ rest ≡ other
    go [] i = i
    go (u ∷ front) i = absurd (beyond s tokens other t rest h (fault-begins s tokens other g) (front, cons-rest i))

pub one_place : OnePlace
one_place s tokens rest other h g = go (ends-compare tokens rest other (begun-ends (fault-begins s tokens rest h)) (begun-ends (fault-begins s tokens other g)))
  where
    go : EndsIn rest other ⊎ EndsIn other rest → rest ≡ other
    go (inl e) = same-place s tokens rest other h g e
    go (inr e) = sym (same-place s tokens other rest g h e)

pub tree_has_no_fault : TreeHasNoFault
tree_has_no_fault s tokens [] x h g = g.1 x h
tree_has_no_fault s tokens (t ∷ rest) x h g = beyond s tokens [] t rest g (derived-begun h) (rest, sym (append-nil rest))

-- readers

pub read_is_tree : ReadIsTree
read_is_tree s from x h = subst (λ z. Derives (Sym s) from.tokens (Tree x ∷ []) z) h.2 (read-derived h.1)

stopped : (s : Symbol) (from stop : State) (ts : List Token) → stop.tokens ≡ ts → Stops Syntax (Sym s) from stop → IsSyntaxFault s from.tokens ts
stopped s from stop [] e x =
    (subst (λ z. Begins (Sym s) from.tokens z) e (stop-begins x), λ y h. at-end (ons (Sym s)) (stop-on {a = Sym s} refl refl x h))
stopped s from stop (t ∷ rest) e x = (subst (λ z. Begins (Sym s) from.tokens z) e (stop-begins x), λ y. far (subst (λ z. length z ≤ length rest) e (stop-covers {a = Sym s} refl refl x y)))
  where
    far : length (t ∷ rest) ≤ length rest → ⊥
    far i = omega arith

left-over : (s : Symbol) (from stop : State) (ts : List Token) {f : List Item} → stop.tokens ≡ ts → ts ≢ [] → Reads (Sym s) from f stop → IsSyntaxFault s from.tokens ts
left-over s from stop [] e n x = absurd (n refl)
left-over s from stop (t ∷ rest) e n x =
    (subst (λ z. Begins (Sym s) from.tokens z) e (derived-begun (read-derived x)), λ y. far (subst (λ z. length z ≤ length rest) e (covers {a = Sym s} refl refl x y)))
  where
    far : length (t ∷ rest) ≤ length rest → ⊥
    far i = omega arith

pub stop_is_fault : StopIsFault
stop_is_fault s from stop (inl x) = stopped s from stop stop.tokens refl x
stop_is_fault s from stop (inr h) = left-over s from stop stop.tokens refl h.2 h.1

tree-or-over : (s : Symbol) (from to : State) {f : List Item} (ts : List Token) → to.tokens ≡ ts → Reads (Sym s) from f to → ((x : Node) × IsTree s from.tokens x) ⊎ ((rest : List Token) × IsSyntaxFault s from.tokens rest)
tree-or-over s from to {f = items} [] e x =
    let derives : Derives (Sym s) from.tokens items [] = subst (λ z. Derives (Sym s) from.tokens items z) e (read-derived x) in
    let item : (y : Node) × (items ≡ Tree y ∷ []) = one-item derives in
    inl (item.0, subst (λ f. Derives (Sym s) from.tokens f []) item.1 derives)
tree-or-over s from to (t ∷ rest) e x = inr (t ∷ rest, left-over s from to (t ∷ rest) e (λ i. absurd (nothing-left i)) x)
  where
    nothing-left : t ∷ rest ≡ [] → ⊥
    nothing-left i = cc

pub tree_or_fault : TreeOrFault
tree_or_fault s tokens = go (reads-or-stops (Sym s) from (omega arith))
  where
    from : State
    from = record { tokens = tokens; limit = length tokens }

    go : Outcome (Sym s) from → ((x : Node) × IsTree s tokens x) ⊎ ((rest : List Token) × IsSyntaxFault s tokens rest)
    go (inl p) = tree-or-over s from p.1 p.1.tokens refl p.2
    go (inr p) = inr (p.0.tokens, stopped s from p.0 p.0.tokens refl p.1)

-- limits

-- a fault stands no earlier than what begins the symbol reaches
fault-after : (s : Symbol) (tokens rest other : List Token) → Begins (Sym s) tokens rest → IsSyntaxFault s tokens other → length other ≤ length rest
fault-after s tokens rest other x h = go other h (ends-compare tokens other rest (begun-ends (fault-begins s tokens other h)) (begun-ends x))
  where
    at_most : (v : List Token) → length v ≤ length v
    at_most v = omega arith

    none : length {A = Token} [] ≤ length rest
    none = omega arith

    split : (t : Token) (q : List Token) → IsSyntaxFault s tokens (t ∷ q) → (front : List Token) → t ∷ q ≡ front ++ rest → length (t ∷ q) ≤ length rest
    split t q g [] i = subst (λ z. length (t ∷ q) ≤ length z) i (at_most (t ∷ q))
    split t q g (u ∷ front) i = absurd (beyond s tokens rest t q g x (front, cons-rest i))

    go : (q : List Token) → IsSyntaxFault s tokens q → EndsIn q rest ⊎ EndsIn rest q → length q ≤ length rest
    go q g (inr e) = ends-shorter rest q e
    go [] g (inl e) = none
    go (t ∷ q) g (inl e) = split t q g e.0 e.1

pub limit_comes_first : LimitComesFirst
limit_comes_first s from stop h = (reached, λ other g. before other g)
  where
    passes : PassesAt (Sym s) from stop
    passes = limit-begins h

    reached : length stop.tokens ≡ suc from.limit
    reached = ap length passes.front ∙ ap suc (passes.reached ∙ stop-limit h)

    one_more : {n : ℕ} (t : Token) (ts : List Token) → n ≤ length ts → n < length (t ∷ ts)
    one_more t ts i = omega arith

    before : (other : List Token) → IsSyntaxFault s from.tokens other → length other < length stop.tokens
    before other g = subst (λ z. length other < length z) (sym passes.front) (one_more passes.token passes.rest (fault-after s from.tokens passes.rest other passes.begun g))

pub read_within_limit : ReadWithinLimit
read_within_limit s from x h = limit-behind from h.0 (read-below h.1) (ap length h.2)

pub fault_within_limit : FaultWithinLimit
fault_within_limit s from stop (inl x) = limit-left from stop (stop-below x)
fault_within_limit s from stop (inr h) = limit-left from stop (read-below h.1)
