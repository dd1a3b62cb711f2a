use Rattle.std.proofs.Common.{◌≡◌, ◌*◌, ◌<◌, suc, Some, [], ◌∷◌, ◌++◌, length, ap, inl, arith}
use Rattle.std.specs.List.{All}
use Rattle.std.proofs.lemmas.List.{length_push}
use Rattle.std.proofs.lemmas.List.Elements.{Contains-push}
use Rattle.cdcl_trail.specs.Path.{pushed}
use Rattle.cdcl_propagation.specs.State.{State}
use Rattle.cdcl_propagation.specs.Visits.{IsForced}
use Rattle.cdcl_propagation.proofs.Joining.{reasons-more}
use Rattle.cdcl_propagation.proofs.Reasons.{reasons-pushed}
use Rattle.cdcl_propagation.proofs.Attaching.{attached_unit, watched-pushed, new_live}
use Rattle.cdcl_propagation.proofs.propagator.Propagator.attach_unit.Goals as goal

pub invariant_of-self-then-not-is_true : goal.invariant_of-self-then-not-is_true
invariant_of-self-then-not-is_true c =
    let of = c.self.inside in
    let state = c.self.view_is in
    let path = ap (λ (s : State). s.path) state in
    let clauses = ap (λ (s : State). s.clauses) state in
    let clause = c.args.clause.now in
    let literal = c.args.literal in
    let number = c.in_ok-number.number in
    let watched = c.self.invariant.watched in
    let within : All (λ other. other < 2 * of.trail.variables) clause = rw path c.requires.within in
    let lowest : of.trail.limits ≡ [] = rw path c.requires.lowest in
    let adds = c.in_ok-number.ensures.ok in
    let is : number ≡ suc (length of.clauses) = c.in_ok-number.ensures.number in
    let grown = watched-pushed of.clauses of.pairs.items of.lists.items of.trail of.head literal number watched in
    let path' = pushed of.trail literal number in
    let forced : IsForced (of.clauses ++ Some clause ∷ []) of.trail number literal =
    record { clause = clause; live = rw is (new_live of.clauses clause); stands = c.requires.has; others = λ place d inside. inl (c.requires.alone place d inside) } in
    record {
      watched = rw (adds.new_clauses, adds.new_pairs, c.push.ensures) (attached_unit of.clauses of.pairs.items of.lists.items path' of.head clause literal c.others_of.result c.others_of.ensures grown within c.requires.has c.requires.alone lowest (Contains-push of.trail.literals literal));
      reasons = rw (adds.new_clauses, c.push.ensures) (reasons-pushed (of.clauses ++ Some clause ∷ []) of.trail literal number watched.reasons forced (reasons-more of.clauses of.trail (Some clause) c.self.invariant.reasons));
      few = omega (arith, ap length adds.new_clauses, length_push of.clauses (Some clause), ap length clauses, c.requires.numbers);
    }

pub invariant_of-self-else-not-is_true : goal.invariant_of-self-else-not-is_true
invariant_of-self-else-not-is_true c =
    let of = c.self.inside in
    let state = c.self.view_is in
    let path = ap (λ (s : State). s.path) state in
    let clauses = ap (λ (s : State). s.clauses) state in
    let clause = c.args.clause.now in
    let literal = c.args.literal in
    let watched = c.self.invariant.watched in
    let within : All (λ other. other < 2 * of.trail.variables) clause = rw path c.requires.within in
    let lowest : of.trail.limits ≡ [] = rw path c.requires.lowest in
    let adds = c.in_ok-number.ensures.ok in
    let held = c.is_true.ensures.0 c.if-not-is_true.false in
    record {
      watched = rw (adds.new_clauses, adds.new_pairs) (attached_unit of.clauses of.pairs.items of.lists.items of.trail of.head clause literal c.others_of.result c.others_of.ensures watched within c.requires.has c.requires.alone lowest held);
      reasons = rw adds.new_clauses (reasons-more of.clauses of.trail (Some clause) c.self.invariant.reasons);
      few = omega (arith, ap length adds.new_clauses, length_push of.clauses (Some clause), ap length clauses, c.requires.numbers);
    }
