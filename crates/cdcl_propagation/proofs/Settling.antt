-- What is watched says that propagation has ended where it is to have ended.
use Rattle.std.proofs.Common.{ℕ, ◌*◌, List, subst, arith}
use Rattle.std.proofs.lemmas.List.{take_all}
use Rattle.cdcl_trail.specs.Path.{IsPath, literals_to}
use Rattle.cdcl_propagation.specs.declared.watch.Pair.{Pair}
use Rattle.cdcl_propagation.specs.declared.watch.Watch.{Watch}
use Rattle.cdcl_propagation.specs.State.{State, HasReasons, IsSettled}
use Rattle.cdcl_propagation.specs.Watching.{IsWorked, IsWatched}
use Rattle.cdcl_propagation.proofs.Working.{ended}

pub settled : (state : State) (pairs : List Pair) (lists : List (List Watch)) → IsPath state.path → IsWatched state.clauses pairs lists state.path state.head
    → HasReasons state.clauses state.path → IsSettled state
settled state pairs lists path watched reasons = record {
  path = path;
  within = watched.within;
  head = watched.inside;
  reasons = reasons;
  levels = λ level inside. ended state.clauses pairs (2 * state.path.variables) (literals_to state.path level) watched.paired (watched.levels level inside);
  ended = λ is.
      let trail = state.path.literals in
      let P : List ℕ → Type 0 = λ done. IsWorked state.clauses pairs done trail in
      ended state.clauses pairs (2 * state.path.variables) trail watched.paired (subst P (take_all state.head trail (omega arith)) watched.worked);
}
