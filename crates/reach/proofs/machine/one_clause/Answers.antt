use Rattle.std.proofs.Common.{sym, subst, ◌∙◌, ℤ, List}
use Rattle.std.specs.Prelude.{IsTrue}
use Rattle.clauses.specs.Literals.{clause_within}
use Rattle.clauses.specs.declared.flat.TheConstants.{MOST_VARIABLES}
use Rattle.reach_frames.proofs.Negations.{negated_within}
use Rattle.reach.proofs.machine.one_clause.Goals as goal

pub push-requires : goal.push-requires
push-requires c =
    subst (λ (l : List ℤ). IsTrue (clause_within MOST_VARIABLES l)) (sym (c.as_slice.ensures ∙ c.in_ok-clause.ensures))
    (negated_within MOST_VARIABLES c.args.cube.now c.requires)
