use mir.Syntax.{w32}
use mir.Val.{SFits}
use Rattle.std.proofs.Common.{◌≡◌, ℕ, [], ◌∷◌, ◌++◌, ap, rules, get_or, inl, inr, sym, ◌∙◌}
use Rattle.std.proofs.lemmas.Bool.{false≢true}
use Rattle.std.proofs.lemmas.Int.{to_z-of_z}
use Rattle.std.proofs.lemmas.List.Elements.{Contains-get_or}
use Rattle.cdcl_trail.specs.Literals.{signed}
use Rattle.cdcl_incremental.proofs.Cores.{taken_more, taken_same}
use Rattle.cdcl_incremental.proofs.final_core.take_assumed.Goals as goal
use Rattle.cdcl_incremental.proofs.final_core.take_assumed.Goals.{then-take_flag+in_ok-push, else-take_flag}

pub loop-literal-preserved : goal.loop-literal-preserved
loop-literal-preserved c =
    let path = c.args.trail.now in
    let assumed = c.args.assumed.now in
    let at = c.loop-literal in
    let literal : ℕ = get_or assumed at.literal-index 0 in
    elim c.if-take_flag.branch [
      | then-take_flag+in_ok-push w ↦
          let fits : SFits w32 w.signed.result = search rules in
          let pushed : w.push.new.self.items ≡ at.core.items ++ signed literal ∷ [] =
          w.in_ok-push.ensures.items ∙ ap (λ l. at.core.items ++ l ∷ []) (to_z-of_z w32 w.signed.result fits ∙ w.signed.ensures) in
          rw (w.core-is, pushed)
          (taken_more path assumed c.args.flags.now c.args.core.now.items at.flags at.core.items c.take_flag.new.flags literal (Contains-get_or assumed at.literal-index 0 c.loop-literal-test.true) at.invariant
          (λ k flag. elim (c.take_flag.ensures k flag) [ inl stays ↦ inl stays | inr gone ↦ inr gone.1 ]))
      | else-take_flag w ↦
          rw w.core-is
          (taken_same path assumed c.args.flags.now c.args.core.now.items at.flags at.core.items c.take_flag.new.flags at.invariant
          (λ k flag. elim (c.take_flag.ensures k flag) [ inl stays ↦ stays | inr gone ↦ absurd (false≢true (sym w.if-take_flag.false ∙ gone.0)) ]))
    ]
