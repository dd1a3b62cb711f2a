use mir.Syntax.{w32}
use mir.Val.{SFits}
use Rattle.std.proofs.Common.{◌≡◌, pos, get_or, sym, ◌∙◌, rules}
use Rattle.std.proofs.lemmas.Bool.{true≢false}
use Rattle.std.proofs.lemmas.Int.{to_z-of_z}
use Rattle.cdcl_trail.proofs.Numbers.{opposite_within}
use Rattle.cdcl_trail.specs.Literals.{signed}
use Rattle.cdcl_incremental.proofs.Rests.{number_below, rest_one, rest_false, rest_push, rest_done}
use Rattle.cdcl_incremental.proofs.storing.rest_of.Goals as goal
use Rattle.cdcl_incremental.proofs.storing.rest_of.Goals.{then-not-is_true+in_ok-push-2, else-not-is_true}

pub returns-then-is_true : goal.returns-then-is_true
returns-then-is_true c =
    let clause = c.args.clause.now in
    let index = c.loop-literal.literal-index in
    let fits : SFits w32 (get_or clause index (pos 0)) = search rules in
    let is : signed c.number_of-number.result ≡ get_or clause index (pos 0) = simp to_z-of_z at c.number_of-number.ensures.is in
    rw (c.in_ok-push.ensures.items, c.clear.ensures.items)
    (rest_one c.args.trail.now clause index c.number_of-number.result (pos 0) c.literals-path.ensures.path c.loop-literal-test.true is (c.is_true.ensures.0 c.if-is_true.true))

pub is_true-requires-in-loop-literal : goal.is_true-requires-in-loop-literal
is_true-requires-in-loop-literal c =
    let clause = c.args.clause.now in
    let index = c.loop-literal.literal-index in
    let variables = c.args.trail.now.variables in
    let fits : SFits w32 (get_or clause index (pos 0)) = search rules in
    let is : signed c.number_of-number.result ≡ get_or clause index (pos 0) = simp to_z-of_z at c.number_of-number.ensures.is in
    rw c.opposite.ensures (opposite_within variables c.number_of-number.result (number_below variables clause index c.number_of-number.result (pos 0) c.requires.within c.loop-literal-test.true is))

pub loop-literal-preserved : goal.loop-literal-preserved
loop-literal-preserved c =
    let trail = c.args.trail.now.literals in
    let clause = c.args.clause.now in
    let index = c.loop-literal.literal-index in
    let number = c.number_of-number.result in
    let rest = c.loop-literal.rest.items in
    let fits : SFits w32 (get_or clause index (pos 0)) = search rules in
    let is : signed number ≡ get_or clause index (pos 0) = simp to_z-of_z at c.number_of-number.ensures.is in
    let tested = rw c.opposite.ensures at c.is_true-in-loop-literal.ensures in
    elim c.if-not-is_true.branch [
      | then-not-is_true+in_ok-push-2 w ↦
          rw (w.rest-is, w.in_ok-push-2.ensures.items)
          (rest_push trail clause index number rest (pos 0) c.loop-literal-test.true is (λ there. true≢false (sym (tested.1 there) ∙ w.if-not-is_true.true)) c.loop-literal.invariant)
      | else-not-is_true w ↦ rw w.rest-is (rest_false trail clause index number rest (pos 0) c.loop-literal-test.true is (tested.0 w.if-not-is_true.false) c.loop-literal.invariant)
    ]

pub returns : goal.returns
returns c = rest_done c.args.trail.now.literals c.args.clause.now c.loop-literal.literal-index c.loop-literal.rest.items c.loop-literal-test.false c.loop-literal.invariant
