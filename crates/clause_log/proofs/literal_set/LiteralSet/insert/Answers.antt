use Rattle.std.proofs.Common.{◌≡◌, true, ap, ◌∙◌, ◌++◌, ◌∷◌, [], length-set}
use Rattle.std.proofs.lemmas.Int.{to_z-of_z}
use mir.Syntax.{w32}
use Rattle.clauses.specs.Literals.{is_within}
use Rattle.clause_log.specs.Codes.{code_of}
use Rattle.clause_log.specs.Marks.{LiteralList}
use Rattle.clause_log.proofs.Marking.{marks_insert, within-push}
use Rattle.clause_log.proofs.literal_set.LiteralSet.insert.Goals as goal

pub invariant_of-self-2 : goal.invariant_of-self-2
invariant_of-self-2 c =
    let set = c.self.inside in
    let literal = c.args.literal in
    let same = to_z-of_z w32 literal c.ranges.literal in
    let variables = ap (λ (s : LiteralList). s.variables) c.self.view_is in
    let in_range : is_within set.variables literal ≡ true = rw variables c.requires in
    let code : c.code.result ≡ code_of literal = c.code.ensures ∙ ap code_of same in
    let members : c.push.new.self.items ≡ set.members.items ++ literal ∷ [] = c.in_ok-push.ensures.items ∙ ap (λ l. set.members.items ++ l ∷ []) same in
    record {
      few = c.self.invariant.few;
      size = length-set set.marks.items c.code.result true ∙ c.self.invariant.size;
      within = rw members (within-push set.variables set.members.items literal c.self.invariant.within in_range);
      marked = rw (members, code) (marks_insert set.variables set.marks.items set.members.items literal c.self.invariant.size in_range c.self.invariant.marked);
    }
