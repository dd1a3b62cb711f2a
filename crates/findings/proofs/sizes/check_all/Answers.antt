use Rattle.std.proofs.Common.{◌≡◌, ◌∙◌, sym, take, subst, true, false, arith}
use Rattle.std.specs.Prelude.{All}
use Rattle.std.proofs.lemmas.List.{take_all}
use Rattle.std.proofs.lemmas.List.Elements.{All-more}
use Rattle.findings.proofs.sizes.check_all.Goals as goal
use Rattle.findings.proofs.sizes.check_all.Goals.{then-is_asked+in_ok-check_one, else-is_asked}
use Rattle.findings.specs.Sizes.{IsWithin}

pub loop-directive-preserved : goal.loop-directive-preserved
loop-directive-preserved c =
    let Within = IsWithin c.args.netlist.now c.args.depth c.args.covers c.args.unit.now in
    let within : Within c.directive-item.result = elim c.if-is_asked.branch [
      | then-is_asked+in_ok-check_one w ↦ (λ _. w.in_ok-check_one.ensures.within c.args.unit.now c.in_ok-assumed.ensures)
      | else-is_asked w ↦ (λ is. absurd (let wrong : true ≡ false = sym is ∙ (sym c.is_asked.ensures ∙ w.if-is_asked.false) in cc))
    ] in
    All-more Within c.as_slice-directive-items.result.now c.loop-directive.directive-index c.directive-item.result
    c.loop-directive-test.true c.loop-directive.invariant (subst Within c.directive-item.is within)

pub returns-clause-within : goal.returns-clause-within
returns-clause-within c =
    let items = c.as_slice-directive-items.result.now in
    let all : take c.loop-directive.directive-index items ≡ items = take_all c.loop-directive.directive-index items (omega arith) in
    rw c.as_slice-directive-items.ensures at (subst (All (IsWithin c.args.netlist.now c.args.depth c.args.covers c.args.unit.now)) all c.loop-directive.invariant)
