use Rattle.std.proofs.Common.{◌≢◌, ap}
use Rattle.std.specs.List.{All}
use Rattle.std.proofs.lemmas.List.{length-set}
use Rattle.clauses.specs.Live.{clause_of}
use Rattle.cdcl_propagation.specs.State.{State}
use Rattle.cdcl_propagation.proofs.Dropping.{watched-dropped, reasons-dropped, long_clause}
use Rattle.cdcl_propagation.proofs.propagator.Propagator.remove.Goals as goal

pub invariant_of-self : goal.invariant_of-self
invariant_of-self c =
    let of = c.self.inside in
    let state = c.self.view_is in
    let clauses = ap (λ (s : State). s.clauses) state in
    let path = ap (λ (s : State). s.path) state in
    let number = c.args.number in
    let long = long_clause (clause_of of.clauses number) (rw clauses c.requires.long) in
    let unused : All (λ reason. reason ≢ number) of.trail.reasons = rw path c.requires.unused in
    record {
      watched = rw c.remove.ensures (watched-dropped of.clauses of.pairs.items of.lists.items of.trail of.head number long.0 long.1 long.2 c.self.invariant.watched);
      reasons = rw c.remove.ensures (reasons-dropped of.clauses of.trail number long.0 long.1 unused c.self.invariant.reasons);
      few = rw (c.remove.ensures, length-set of.clauses) c.self.invariant.few;
    }
