use Rattle.std.proofs.Common.{ap, sym, ◌∙◌, ◌-◌, inl, inr, arith}
use Rattle.psl_parser.proofs.Counting.{more, named-nesting, named-length, passes-none}
use Rattle.psl_parser.proofs.Placing.{ends, goes}
use Rattle.psl_parser.specs.declared.state.Counts.{Counts}
use Rattle.psl_parser.proofs.state.Counts.step.Goals as goal
use Rattle.psl_parser.proofs.state.Counts.step.Goals.{else-opens-via-then-opens+else-level-gt-LEVEL_LIMIT, else-opens-via-else-opens, else-eq-via-then-eq+else-level-eq0, else-eq-via-else-eq}

pub returns-then-level-gt-LEVEL_LIMIT-clause-step : goal.returns-then-level-gt-LEVEL_LIMIT-clause-step
returns-then-level-gt-LEVEL_LIMIT-clause-step c = λ before e.
    named-nesting c.with-counts.result before c.args.token.now
    (more _ _ before c.args.token.now e c.with-counts.ensures.tokens c.with-counts.ensures.opened c.with-counts.ensures.closed)
    (sym c.opens.ensures ∙ c.if-opens.true) (omega (arith, c.level.ensures))

pub returns-then-counts-gt-LENGTH_LIMIT-clause-step : goal.returns-then-counts-gt-LENGTH_LIMIT-clause-step
returns-then-counts-gt-LENGTH_LIMIT-clause-step c = λ before e.
    named-length c.with-counts.result before c.args.token.now
    (more _ _ before c.args.token.now e c.with-counts.ensures.tokens c.with-counts.ensures.opened c.with-counts.ensures.closed)
    (elim c.else-opens.branch [
      | else-opens-via-then-opens+else-level-gt-LEVEL_LIMIT w ↦ inr (omega (arith, w.level.ensures))
      | else-opens-via-else-opens w ↦ inl (sym c.opens.ensures ∙ w.if-opens.false)
    ])
    (omega arith)

pub returns-then-level-eq0-clause-step : goal.returns-then-level-eq0-clause-step
returns-then-level-eq0-clause-step c = λ before e. (
  ends before c.args.token.now (sym c.eq.ensures ∙ c.if-eq.true)
      (ap (λ (x : Counts). x.opened - x.closed) (sym e) ∙ (sym c.level-then-eq.ensures ∙ c.if-level-eq0.true)),
  passes-none c.with-counts.result before c.args.token.now
      (more _ _ before c.args.token.now e c.with-counts.ensures.tokens c.with-counts.ensures.opened c.with-counts.ensures.closed)
      (elim c.else-opens.branch [
        | else-opens-via-then-opens+else-level-gt-LEVEL_LIMIT w ↦ inr (omega (arith, w.level.ensures))
        | else-opens-via-else-opens w ↦ inl (sym c.opens.ensures ∙ w.if-opens.false)
      ])
      (omega arith),
)

pub returns-else-eq-clause-step : goal.returns-else-eq-clause-step
returns-else-eq-clause-step c = λ before e. (
  goes c.with-counts.result before c.args.token.now
      (elim c.else-eq.branch [
        | else-eq-via-then-eq+else-level-eq0 w ↦
            inr (λ z. w.if-level-eq0.false (w.level-then-eq.ensures ∙ (ap (λ (x : Counts). x.opened - x.closed) e ∙ z)))
        | else-eq-via-else-eq w ↦ inl (sym c.eq.ensures ∙ w.if-eq.false)
      ])
      (more _ _ before c.args.token.now e c.with-counts.ensures.tokens c.with-counts.ensures.opened c.with-counts.ensures.closed),
  passes-none c.with-counts.result before c.args.token.now
      (more _ _ before c.args.token.now e c.with-counts.ensures.tokens c.with-counts.ensures.opened c.with-counts.ensures.closed)
      (elim c.else-opens.branch [
        | else-opens-via-then-opens+else-level-gt-LEVEL_LIMIT w ↦ inr (omega (arith, w.level.ensures))
        | else-opens-via-else-opens w ↦ inl (sym c.opens.ensures ∙ w.if-opens.false)
      ])
      (omega arith),
)
