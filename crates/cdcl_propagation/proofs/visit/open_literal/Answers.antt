use Rattle.std.proofs.Common.{◌≡◌, ◌⊎◌, ℕ, take, inl, inr, sym}
use Rattle.std.specs.List.{Contains}
use Rattle.std.proofs.lemmas.List.{take_all}
use Rattle.std.proofs.lemmas.List.Elements.{All-more, All-same}
use Rattle.cdcl_trail.specs.Literals.{opposite}
use Rattle.cdcl_propagation.proofs.visit.open_literal.Goals as goal
use Rattle.cdcl_propagation.proofs.visit.open_literal.Goals.{else-literal-other-via-then-literal-other+else-not-is_true, else-literal-other-via-else-literal-other}

pub loop-literal-preserved : goal.loop-literal-preserved
loop-literal-preserved c =
    let P : ℕ → Type 0 = λ literal. (literal ≡ c.args.other) ⊎ Contains c.args.trail.now.literals (opposite literal) in
    All-more P c.args.clause.now c.loop-literal.literal-index 0 c.loop-literal-test.true c.loop-literal.invariant
    (elim c.else-literal-other.branch [
      | else-literal-other-via-then-literal-other+else-not-is_true w ↦ inr (rw w.opposite.ensures at (w.is_true.ensures.0 w.if-not-is_true.false))
      | else-literal-other-via-else-literal-other w ↦ inl w.if-literal-other.false
    ])

pub returns-clause-none : goal.returns-clause-none
returns-clause-none c =
    let P : ℕ → Type 0 = λ literal. (literal ≡ c.args.other) ⊎ Contains c.args.trail.now.literals (opposite literal) in
    All-same P c.args.clause.now (take c.loop-literal.literal-index c.args.clause.now) (sym (take_all c.loop-literal.literal-index c.args.clause.now c.loop-literal-test.false)) c.loop-literal.invariant
