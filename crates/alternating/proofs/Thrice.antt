-- Three negations are as one.
use Rattle.std.proofs.Common.{◌≡◌, refl, ap, ◌∙◌, Bool as Truth, true, false}
use Rattle.std.specs.Prelude.{not, if◌then◌else◌}
use Rattle.psl_tree.specs.Trees as trees
use Rattle.psl_tree.specs.Trees.{Boolean}
use Rattle.alternating_theory.specs.Construction.{opposite_obligation}
use Rattle.alternating_theory.specs.Literals.{is_unnegated, bare, negated}
use Rattle.alternating_theory.specs.Obligations.{Obligation}
use Rattle.alternating_theory.specs.Positive.{Positive, Const, Holds, Owed, And, Or, opposite}
use Rattle.alternating_theory.proofs.Literals.{unnegated-negated, bare-negated}

not-twice : (a : Truth) → not (not a) ≡ a
not-twice true = refl
not-twice false = refl

negated-thrice : (b : Boolean) → negated (negated (negated b)) ≡ negated b
negated-thrice b =
    ap (λ (t : Truth). if t then trees.Not (bare (negated (negated b))) else bare (negated (negated b)))
    (unnegated-negated (negated b) ∙ ap not (unnegated-negated b) ∙ not-twice (is_unnegated b))
    ∙ ap (λ (c : Boolean). if is_unnegated b then trees.Not c else c) (bare-negated (negated b) ∙ bare-negated b)

positive-thrice : (p : Positive) → opposite (opposite (opposite p)) ≡ opposite p
positive-thrice (Const v) = ap (λ t. Const t) (not-twice (not v))
positive-thrice (Holds b) = ap (λ c. Holds c) (negated-thrice b)
positive-thrice (Owed q) = refl
positive-thrice (And p r) = let a = positive-thrice p in let b = positive-thrice r in cc
positive-thrice (Or p r) = let a = positive-thrice p in let b = positive-thrice r in cc

pub opposite_thrice : (o : Obligation) → opposite_obligation (opposite_obligation (opposite_obligation o)) ≡ opposite_obligation o
opposite_thrice o =
    let d = positive-thrice o.delta in
    let a = not-twice (not o.accepting) in
    let e = not-twice (not o.end) in
    let t = not-twice (not o.bottom) in
    let b = not-twice (not o.top) in cc
