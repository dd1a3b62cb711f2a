-- The tests that two trees are one.
use Rattle.std.proofs.Common.{◌≡◌, refl, sym, ap, ◌∙◌, subst, ℕ, Bool as Truth, true, false, arith}
use Rattle.std.specs.Prelude.{IsTrue, not, ◌&&◌, ◌==◌}
use Rattle.std.proofs.lemmas.Bool.{both_ways, and_parts, and_from, eq-eqb}
use Rattle.psl_tree.specs.Holds.{holds, is_same_atom, edge_number}
use Rattle.psl_tree.specs.Trees as trees
use Rattle.psl_tree.specs.Trees.{Boolean}
use Rattle.psl_tree.specs.declared.atom.Atom.{Atom}
use Rattle.psl_tree.specs.declared.atom.Edge.{Edge}
use Rattle.psl_tree.specs.declared.atom.Edge.TheVariants.{Value, Rise, Fall}
use Rattle.psl_tree.specs.declared.letter.Letter.{Letter}
use Rattle.alternating_theory.specs.Construction.{opposite_obligation}
use Rattle.alternating_theory.specs.Literals.{is_unnegated, bare, negated}
use Rattle.alternating_theory.specs.Merged.{same_truth, same_boolean, same_literal, same_positive, same_obligation}
use Rattle.alternating_theory.specs.Obligations.{Obligation}
use Rattle.alternating_theory.specs.Positive.{Positive, Const, Holds, Owed, And, Or, met, owes, OwesWithin, renumbered, opposite}
use Rattle.alternating_theory.specs.Trimmed.{renumbered_obligation}
use Rattle.alternating_theory.proofs.Literals.{unnegated-negated, bare-negated, holds-literal}
use Rattle.alternating_theory.proofs.Reached.{same-number}

pub truth-same : (v w : Truth) → IsTrue (same_truth v w) → v ≡ w
truth-same true w h = sym h
truth-same false true h = absurd (both_ways false refl h)
truth-same false false h = refl

edge-same : (d e : Edge) → edge_number d ≡ edge_number e → d ≡ e
edge-same Value Value h = refl
edge-same Rise Rise h = refl
edge-same Fall Fall h = refl
edge-same Value Rise h = absurd (omega arith)
edge-same Value Fall h = absurd (omega arith)
edge-same Rise Value h = absurd (omega arith)
edge-same Rise Fall h = absurd (omega arith)
edge-same Fall Value h = absurd (omega arith)
edge-same Fall Rise h = absurd (omega arith)

atom-same : (a b : Atom) → IsTrue (is_same_atom a b) → a ≡ b
atom-same a b h =
    let parts = and_parts ((a.signal == b.signal) && (a.bit == b.bit)) (edge_number a.edge == edge_number b.edge) h in
    let more = and_parts (a.signal == b.signal) (a.bit == b.bit) parts.0 in
    let s = same-number a.signal b.signal more.0 in
    let t = same-number a.bit b.bit more.1 in
    let u = edge-same a.edge b.edge (same-number (edge_number a.edge) (edge_number b.edge) parts.1) in
    ap (λ (n : ℕ). let made : Atom = record { signal = n; bit = a.bit; edge = a.edge } in made) s
    ∙ ap (λ (n : ℕ). let made : Atom = record { signal = b.signal; bit = n; edge = a.edge } in made) t
    ∙ ap (λ (e : Edge). let made : Atom = record { signal = b.signal; bit = b.bit; edge = e } in made) u

boolean-same : (b d : Boolean) → IsTrue (same_boolean b d) → b ≡ d
boolean-same (trees.Const v) (trees.Const w) h = ap trees.Const (truth-same v w h)
boolean-same (trees.Test a) (trees.Test c) h = ap trees.Test (atom-same a c h)
boolean-same (trees.Not b) (trees.Not d) h = ap (λ (e : Boolean). trees.Not e) (boolean-same b d h)
boolean-same (trees.And b c) (trees.And d e) h =
    let parts = and_parts (same_boolean b d) (same_boolean c e) h in
    ap (λ (x : Boolean). trees.And x c) (boolean-same b d parts.0) ∙ ap (λ (x : Boolean). trees.And d x) (boolean-same c e parts.1)
boolean-same (trees.Or b c) (trees.Or d e) h =
    let parts = and_parts (same_boolean b d) (same_boolean c e) h in
    ap (λ (x : Boolean). trees.Or x c) (boolean-same b d parts.0) ∙ ap (λ (x : Boolean). trees.Or d x) (boolean-same c e parts.1)
boolean-same _ _ h = absurd (both_ways false refl h)

-- two literals that are the same have the same values
literal-holds : (x : Letter) (b d : Boolean) → IsTrue (same_literal b d) → holds x b ≡ holds x d
literal-holds x b d h =
    let parts = and_parts (same_truth (is_unnegated b) (is_unnegated d)) (same_boolean (bare b) (bare d)) h in
    holds-literal x b d (truth-same (is_unnegated b) (is_unnegated d) parts.0) (boolean-same (bare b) (bare d) parts.1)

-- what the test says of combinations: they are met alike, owe the same, and stay the same with other numbers

pub positive-met : (p r : Positive) → IsTrue (same_positive p r) → (x : Letter) (f : ℕ → Truth) → met p x f ≡ met r x f
positive-met (Const v) (Const w) h x f = truth-same v w h
positive-met (Holds b) (Holds d) h x f = literal-holds x b d h
positive-met (Owed m) (Owed n) h x f = ap f (same-number m n h)
positive-met (And p q) (And r s) h x f =
    let parts = and_parts (same_positive q s) (same_positive p r) h in
    let a = positive-met p r parts.1 x f in let b = positive-met q s parts.0 x f in cc
positive-met (Or p q) (Or r s) h x f =
    let parts = and_parts (same_positive q s) (same_positive p r) h in
    let a = positive-met p r parts.1 x f in let b = positive-met q s parts.0 x f in cc
positive-met _ _ h x f = absurd (both_ways false refl h)

pub positive-owes : (p r : Positive) → IsTrue (same_positive p r) → (k : ℕ) → owes p k ≡ owes r k
positive-owes (Const v) (Const w) h k = refl
positive-owes (Holds b) (Holds d) h k = refl
positive-owes (Owed m) (Owed n) h k = ap (λ i. i == k) (same-number m n h)
positive-owes (And p q) (And r s) h k =
    let parts = and_parts (same_positive q s) (same_positive p r) h in
    let a = positive-owes p r parts.1 k in let b = positive-owes q s parts.0 k in cc
positive-owes (Or p q) (Or r s) h k =
    let parts = and_parts (same_positive q s) (same_positive p r) h in
    let a = positive-owes p r parts.1 k in let b = positive-owes q s parts.0 k in cc
positive-owes _ _ h k = absurd (both_ways false refl h)

pub positive-within : (low high : ℕ) (p r : Positive) → IsTrue (same_positive p r) → OwesWithin low high r → OwesWithin low high p
positive-within low high (Const v) (Const w) h o = tt
positive-within low high (Holds b) (Holds d) h o = tt
positive-within low high (Owed m) (Owed n) h o = subst (λ (i : ℕ). OwesWithin low high (Owed i)) (sym (same-number m n h)) o
positive-within low high (And p q) (And r s) h o =
    let parts = and_parts (same_positive q s) (same_positive p r) h in (positive-within low high p r parts.1 o.0, positive-within low high q s parts.0 o.1)
positive-within low high (Or p q) (Or r s) h o =
    let parts = and_parts (same_positive q s) (same_positive p r) h in (positive-within low high p r parts.1 o.0, positive-within low high q s parts.0 o.1)
positive-within low high _ _ h o = absurd (both_ways false refl h)

positive-renumbered : (new : ℕ → ℕ) (p r : Positive) → IsTrue (same_positive p r) → IsTrue (same_positive (renumbered new p) (renumbered new r))
positive-renumbered new (Const v) (Const w) h = h
positive-renumbered new (Holds b) (Holds d) h = h
positive-renumbered new (Owed m) (Owed n) h = eq-eqb (new m) (new n) (ap new (same-number m n h))
positive-renumbered new (And p q) (And r s) h =
    let parts = and_parts (same_positive q s) (same_positive p r) h in
    and_from (same_positive (renumbered new q) (renumbered new s)) (same_positive (renumbered new p) (renumbered new r)) (positive-renumbered new q s parts.0) (positive-renumbered new p r parts.1)
positive-renumbered new (Or p q) (Or r s) h =
    let parts = and_parts (same_positive q s) (same_positive p r) h in
    and_from (same_positive (renumbered new q) (renumbered new s)) (same_positive (renumbered new p) (renumbered new r)) (positive-renumbered new q s parts.0) (positive-renumbered new p r parts.1)
positive-renumbered new _ _ h = absurd (both_ways false refl h)

-- what the test says of obligations
pub record Alike (o p : Obligation) : Type 0 where
  pub accepting : o.accepting ≡ p.accepting
  pub end : o.end ≡ p.end
  pub top : o.top ≡ p.top
  pub bottom : o.bottom ≡ p.bottom
  pub delta : IsTrue (same_positive o.delta p.delta)

pub obligation-alike : (o p : Obligation) → IsTrue (same_obligation o p) → Alike o p
obligation-alike o p h =
    let a = and_parts (same_truth o.accepting p.accepting) (same_truth o.end p.end && (same_truth o.top p.top && (same_truth o.bottom p.bottom && same_positive o.delta p.delta))) h in
    let b = and_parts (same_truth o.end p.end) (same_truth o.top p.top && (same_truth o.bottom p.bottom && same_positive o.delta p.delta)) a.1 in
    let c = and_parts (same_truth o.top p.top) (same_truth o.bottom p.bottom && same_positive o.delta p.delta) b.1 in
    let d = and_parts (same_truth o.bottom p.bottom) (same_positive o.delta p.delta) c.1 in
    record {
      accepting = truth-same o.accepting p.accepting a.0;
      end = truth-same o.end p.end b.0;
      top = truth-same o.top p.top c.0;
      bottom = truth-same o.bottom p.bottom d.0;
      delta = d.1;
    }

pub obligation-renumbered : (new : ℕ → ℕ) (o p : Obligation) → IsTrue (same_obligation o p) → IsTrue (same_obligation (renumbered_obligation new o) (renumbered_obligation new p))
obligation-renumbered new o p h =
    let a = and_parts (same_truth o.accepting p.accepting) (same_truth o.end p.end && (same_truth o.top p.top && (same_truth o.bottom p.bottom && same_positive o.delta p.delta))) h in
    let b = and_parts (same_truth o.end p.end) (same_truth o.top p.top && (same_truth o.bottom p.bottom && same_positive o.delta p.delta)) a.1 in
    let c = and_parts (same_truth o.top p.top) (same_truth o.bottom p.bottom && same_positive o.delta p.delta) b.1 in
    let d = and_parts (same_truth o.bottom p.bottom) (same_positive o.delta p.delta) c.1 in
    let e = positive-renumbered new o.delta p.delta d.1 in
    and_from (same_truth o.accepting p.accepting) (same_truth o.end p.end && (same_truth o.top p.top && (same_truth o.bottom p.bottom && same_positive (renumbered new o.delta) (renumbered new p.delta)))) a.0
    (and_from (same_truth o.end p.end) (same_truth o.top p.top && (same_truth o.bottom p.bottom && same_positive (renumbered new o.delta) (renumbered new p.delta))) b.0
    (and_from (same_truth o.top p.top) (same_truth o.bottom p.bottom && same_positive (renumbered new o.delta) (renumbered new p.delta)) c.0
    (and_from (same_truth o.bottom p.bottom) (same_positive (renumbered new o.delta) (renumbered new p.delta)) d.0 e)))

-- each tree is the same as itself

truth-self : (v : Truth) → IsTrue (same_truth v v)
truth-self true = refl
truth-self false = refl

boolean-self : (b : Boolean) → IsTrue (same_boolean b b)
boolean-self (trees.Const v) = truth-self v
boolean-self (trees.Test a) = and_from ((a.signal == a.signal) && (a.bit == a.bit)) (edge_number a.edge == edge_number a.edge)
    (and_from (a.signal == a.signal) (a.bit == a.bit) (eq-eqb a.signal a.signal refl) (eq-eqb a.bit a.bit refl)) (eq-eqb (edge_number a.edge) (edge_number a.edge) refl)
boolean-self (trees.Not b) = boolean-self b
boolean-self (trees.And b c) = and_from (same_boolean b b) (same_boolean c c) (boolean-self b) (boolean-self c)
boolean-self (trees.Or b c) = and_from (same_boolean b b) (same_boolean c c) (boolean-self b) (boolean-self c)

positive-self : (p : Positive) → IsTrue (same_positive p p)
positive-self (Const v) = truth-self v
positive-self (Holds b) = and_from (same_truth (is_unnegated b) (is_unnegated b)) (same_boolean (bare b) (bare b)) (truth-self (is_unnegated b)) (boolean-self (bare b))
positive-self (Owed n) = eq-eqb n n refl
positive-self (And p q) = and_from (same_positive q q) (same_positive p p) (positive-self q) (positive-self p)
positive-self (Or p q) = and_from (same_positive q q) (same_positive p p) (positive-self q) (positive-self p)

pub obligation-self : (o : Obligation) → IsTrue (same_obligation o o)
obligation-self o =
    and_from (same_truth o.accepting o.accepting) (same_truth o.end o.end && (same_truth o.top o.top && (same_truth o.bottom o.bottom && same_positive o.delta o.delta))) (truth-self o.accepting)
    (and_from (same_truth o.end o.end) (same_truth o.top o.top && (same_truth o.bottom o.bottom && same_positive o.delta o.delta)) (truth-self o.end)
    (and_from (same_truth o.top o.top) (same_truth o.bottom o.bottom && same_positive o.delta o.delta) (truth-self o.top)
    (and_from (same_truth o.bottom o.bottom) (same_positive o.delta o.delta) (truth-self o.bottom) (positive-self o.delta))))

-- of two duals the test says what it says of the two

truth-turned : (v w : Truth) → same_truth (not v) (not w) ≡ same_truth v w
truth-turned true true = refl
truth-turned true false = refl
truth-turned false true = refl
truth-turned false false = refl

literal-turned : (b d : Boolean) → same_literal (negated b) (negated d) ≡ same_literal b d
literal-turned b d =
    ap (λ (c : Boolean). same_truth (is_unnegated (negated b)) (is_unnegated (negated d)) && same_boolean c (bare (negated d))) (bare-negated b)
    ∙ ap (λ (c : Boolean). same_truth (is_unnegated (negated b)) (is_unnegated (negated d)) && same_boolean (bare b) c) (bare-negated d)
    ∙ ap (λ (t : Truth). same_truth t (is_unnegated (negated d)) && same_boolean (bare b) (bare d)) (unnegated-negated b)
    ∙ ap (λ (t : Truth). same_truth (not (is_unnegated b)) t && same_boolean (bare b) (bare d)) (unnegated-negated d)
    ∙ ap (λ (t : Truth). t && same_boolean (bare b) (bare d)) (truth-turned (is_unnegated b) (is_unnegated d))

positive-turned : (p r : Positive) → same_positive (opposite p) (opposite r) ≡ same_positive p r
positive-turned (Const v) (Const w) = truth-turned v w
positive-turned (And p q) (And r s) = let a = positive-turned p r in let b = positive-turned q s in cc
positive-turned (Or p q) (Or r s) = let a = positive-turned p r in let b = positive-turned q s in cc
positive-turned (Holds b) (Holds d) = literal-turned b d
positive-turned (Owed m) (Owed n) = refl
positive-turned _ _ = refl

swapped : (a b c : Truth) → (a && (b && c)) ≡ (b && (a && c))
swapped true b c = refl
swapped false true c = refl
swapped false false c = refl

pub obligation-turned : (o p : Obligation) → same_obligation (opposite_obligation o) (opposite_obligation p) ≡ same_obligation o p
obligation-turned o p =
    let a = positive-turned o.delta p.delta in
    let b = truth-turned o.accepting p.accepting in
    let c = truth-turned o.end p.end in
    let d = truth-turned o.bottom p.bottom in
    let e = truth-turned o.top p.top in
    let f = swapped (same_truth (not o.bottom) (not p.bottom)) (same_truth (not o.top) (not p.top)) (same_positive (opposite o.delta) (opposite p.delta)) in cc
