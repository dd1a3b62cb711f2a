use Rattle.std.proofs.Common.{List, subst, rules, ℕ, take, get_or}
use Rattle.std.proofs.lemmas.List.{take_more, take_all, map_push}
use Rattle.std.proofs.lemmas.Int.{to_z-of_z}
use mir.Syntax.{w32}
use mir.Val.{SFits}
use Rattle.clause_log.specs.Codes.{clause_of_codes, literal_of}
use Rattle.clause_log.specs.Lefts.{LeavesOf}
use Rattle.clause_log.proofs.Marking.{code_small, code_within}
use Rattle.clause_log.proofs.left.left_in_codes.Goals as goal

pub literal-requires : goal.literal-requires
literal-requires c = code_small c.args.set.now.variables c.args.codes.now c.loop-code.code-index c.requires.few c.requires.within c.loop-code-test.true

pub with_literal-left-requires : goal.with_literal-left-requires
with_literal-left-requires c =
    let fits : SFits w32 c.literal.result = search rules in
    rw (to_z-of_z w32 c.literal.result fits, c.literal.ensures) (code_within c.args.set.now.variables c.args.codes.now c.loop-code.code-index c.requires.within c.loop-code-test.true)

pub loop-code-preserved : goal.loop-code-preserved
loop-code-preserved c =
    let codes = c.args.codes.now in
    let place = c.loop-code.code-index in
    let fits : SFits w32 c.literal.result = search rules in
    let next = c.with_literal-left.ensures (clause_of_codes (take place codes)) c.loop-code.invariant in
    let here = rw (to_z-of_z w32 c.literal.result fits, c.literal.ensures) at next in
    rw (take_more codes place 0 c.loop-code-test.true, map_push literal_of (take place codes) (get_or codes place 0)) here

pub returns : goal.returns
returns c =
    subst (λ (codes : List ℕ). LeavesOf c.args.set.now.members (clause_of_codes codes) c.loop-code.left) (take_all c.loop-code.code-index c.args.codes.now c.loop-code-test.false) c.loop-code.invariant
