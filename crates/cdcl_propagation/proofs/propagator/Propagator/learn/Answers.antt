use Rattle.std.proofs.Common.{◌≡◌, ◌*◌, ◌<◌, suc, Some, [], ◌∷◌, ◌++◌, length, ap, sym, ◌∙◌, subst, eqb, arith}
use Rattle.std.specs.List.{All}
use Rattle.std.proofs.lemmas.List.{with_items_is, length_push}
use Rattle.std.proofs.lemmas.List.Elements.{All-contains, Contains-push}
use Rattle.cdcl_propagation.specs.declared.watch.Pair.{Pair}
use Rattle.cdcl_propagation.specs.State.{State, CanLearn}
use Rattle.cdcl_propagation.specs.Visits.{IsForced}
use Rattle.cdcl_propagation.proofs.Reasons.{reasons-pushed}
use Rattle.cdcl_trail.specs.Path.{Path, pushed}
use Rattle.cdcl_propagation.proofs.Joining.{reasons-more}
use Rattle.cdcl_propagation.proofs.Attaching.{attached, watched-pushed, new_live, learned_below, two_at_most, refusal, refusal_keeps, on_err}
use Rattle.cdcl_propagation.proofs.propagator.Propagator.learn.Goals as goal

pub returns-in_err-number-clause-err_clauses : goal.returns-in_err-number-clause-err_clauses
returns-in_err-number-clause-err_clauses c =
    let of = c.self.inside in
    let pair : Pair = record { first = c.args.first; second = c.args.second; others = c.others_of-others.result } in
    let clauses = ap (λ (s : State). s.clauses) c.self.view_is in
    on_err c.from_residual.result (rw (sym clauses) (refusal_keeps of.clauses of.pairs.items pair c.add.new.clauses c.add.new.pairs.items c.in_err-number.ensures.err))

pub invariant_of-self : goal.invariant_of-self
invariant_of-self c =
    let of = c.self.inside in
    let state = c.self.view_is in
    let path = ap (λ (s : State). s.path) state in
    let clauses = ap (λ (s : State). s.clauses) state in
    let clause = c.args.clause.now in
    let pair : Pair = record { first = c.args.first; second = c.args.second; others = c.others_of-others.result } in
    let within : All (λ literal. literal < 2 * of.trail.variables) clause = rw path c.requires.within in
    let below : (pair.first < 2 * of.trail.variables) × (pair.second < 2 * of.trail.variables) = (All-contains (λ literal. literal < 2 * of.trail.variables) clause pair.first within c.requires.learn.has_asserted, All-contains (λ literal. literal < 2 * of.trail.variables) clause pair.second within c.requires.learn.has_other) in
    let lists = with_items_is of.lists c.add.new.lists (omega (arith, c.add.auto.lists, c.deref_mut.ensures.len)) ∙ c.in_err-number.ensures.err_lists ∙ c.deref_mut.ensures.value in
    let keeps = refusal of.clauses of.pairs.items of.lists.items of.trail of.head pair c.add.new.clauses c.add.new.pairs.items c.self.invariant.watched c.self.invariant.reasons below c.in_err-number.ensures.err in
    record {
      watched = rw lists keeps.watched;
      reasons = keeps.reasons;
      few = omega (arith, keeps.few, ap length clauses, c.requires.numbers);
    }

pub invariant_of-self-2 : goal.invariant_of-self-2
invariant_of-self-2 c =
    let of = c.self.inside in
    let state = c.self.view_is in
    let path = ap (λ (s : State). s.path) state in
    let clauses = ap (λ (s : State). s.clauses) state in
    let clause = c.args.clause.now in
    let first = c.args.first in
    let second = c.args.second in
    let number = c.in_ok-number.number in
    let watched = c.self.invariant.watched in
    let pair : Pair = record { first = first; second = second; others = c.others_of-others.result } in
    let within : All (λ literal. literal < 2 * of.trail.variables) clause = rw path c.requires.within in
    let P : Path → Type 0 = λ p. CanLearn p clause first second in
    let can : CanLearn of.trail clause first second = subst P (sym path) c.requires.learn in
    let adds = c.in_ok-number.ensures.ok in
    let is : number ≡ suc (length of.clauses) = c.in_ok-number.ensures.number in
    let lists = with_items_is of.lists c.add.new.lists (omega (arith, c.add.auto.lists, c.deref_mut.ensures.len)) ∙ c.in_ok-number.ensures.lists in
    let grown = watched-pushed of.clauses of.pairs.items of.lists.items of.trail of.head first number watched in
    let path' = pushed of.trail first number in
    let forced : IsForced (of.clauses ++ Some clause ∷ []) of.trail number first =
    record { clause = clause; live = rw is (new_live of.clauses clause); stands = can.has_asserted; others = can.others } in
    record {
      watched =
          rw (lists, c.deref_mut.ensures.value, adds.new_clauses, adds.new_pairs, c.push.ensures)
          (attached of.clauses of.pairs.items of.lists.items path' of.head clause pair (eqb (length clause) 2) grown within can.has_asserted can.has_other can.differs c.others_of-others.ensures (two_at_most clause)
          (λ literal watches there. (first, can.has_asserted, Contains-push of.trail.literals first))
          (learned_below of.trail clause first second c.others_of-others.result number watched.begun can));
      reasons = rw (adds.new_clauses, c.push.ensures) (reasons-pushed (of.clauses ++ Some clause ∷ []) of.trail first number watched.reasons forced (reasons-more of.clauses of.trail (Some clause) c.self.invariant.reasons));
      few = omega (arith, ap length adds.new_clauses, length_push of.clauses (Some clause), ap length clauses, c.requires.numbers);
    }
