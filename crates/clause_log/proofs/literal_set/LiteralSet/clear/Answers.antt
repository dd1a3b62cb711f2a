use Rattle.std.proofs.Common.{◌≡◌, false, ap, ◌∙◌, rules, length-set}
use Rattle.std.proofs.lemmas.Int.{to_z-of_z}
use mir.Syntax.{w32}
use mir.Val.{SFits}
use Rattle.clause_log.specs.Codes.{code_of}
use Rattle.clause_log.proofs.Marking.{marks_pop, within-pop}
use Rattle.clause_log.proofs.literal_set.LiteralSet.clear.Goals as goal

pub loop-literal-preserved : goal.loop-literal-preserved
loop-literal-preserved c =
    let set = c.loop-literal.self-inside in
    let kept = c.loop-literal.invariant in
    let last = c.in-Some.literal in
    let fits : SFits w32 last = search rules in
    let code : c.code.result ≡ code_of last = c.code.ensures ∙ ap code_of (to_z-of_z w32 last fits) in
    let items = c.in-Some.ensures.items in
    let within = within-pop set.variables c.pop.new.self.items last (rw items at kept.within) in
    record {
      same = kept.same;
      few = kept.few;
      size = length-set set.marks.items c.code.result false ∙ kept.size;
      within = within.0;
      marked = rw code (marks_pop set.variables set.marks.items c.pop.new.self.items last kept.size within.1 (rw items at kept.marked));
    }
