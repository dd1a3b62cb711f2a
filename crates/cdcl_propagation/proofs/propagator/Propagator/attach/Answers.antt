use Rattle.std.proofs.Common.{◌*◌, ◌<◌, Some, length, ap, sym, ◌∙◌, subst, eqb, arith}
use Rattle.std.specs.List.{All}
use Rattle.std.proofs.lemmas.List.{with_items_is, length_push}
use Rattle.std.proofs.lemmas.List.Elements.{All-contains}
use Rattle.cdcl_propagation.specs.declared.watch.Pair.{Pair}
use Rattle.cdcl_propagation.specs.State.{State, CanWatch}
use Rattle.cdcl_propagation.proofs.Joining.{reasons-more}
use Rattle.cdcl_propagation.proofs.Attaching.{attached, not_yet, not_below, two_at_most, refusal, refusal_keeps, on_err}
use Rattle.cdcl_propagation.proofs.propagator.Propagator.attach.Goals as goal

pub returns-in_err-add-clause-err_clauses : goal.returns-in_err-add-clause-err_clauses
returns-in_err-add-clause-err_clauses c =
    let of = c.self.inside in
    let pair : Pair = record { first = c.args.first; second = c.args.second; others = c.others_of-others.result } in
    let clauses = ap (λ (s : State). s.clauses) c.self.view_is in
    on_err c.from_residual.result (rw (sym clauses) (refusal_keeps of.clauses of.pairs.items pair c.add.new.clauses c.add.new.pairs.items c.in_err-add.ensures.err))

pub invariant_of-self : goal.invariant_of-self
invariant_of-self c =
    let of = c.self.inside in
    let state = c.self.view_is in
    let path = ap (λ (s : State). s.path) state in
    let clauses = ap (λ (s : State). s.clauses) state in
    let clause = c.args.clause.now in
    let pair : Pair = record { first = c.args.first; second = c.args.second; others = c.others_of-others.result } in
    let within : All (λ literal. literal < 2 * of.trail.variables) clause = rw path c.requires.within in
    let below : (pair.first < 2 * of.trail.variables) × (pair.second < 2 * of.trail.variables) = (All-contains (λ literal. literal < 2 * of.trail.variables) clause pair.first within c.requires.first, All-contains (λ literal. literal < 2 * of.trail.variables) clause pair.second within c.requires.second) in
    let lists = with_items_is of.lists c.add.new.lists (omega (arith, c.add.auto.lists, c.deref_mut.ensures.len)) ∙ c.in_err-add.ensures.err_lists ∙ c.deref_mut.ensures.value in
    let keeps = refusal of.clauses of.pairs.items of.lists.items of.trail of.head pair c.add.new.clauses c.add.new.pairs.items c.self.invariant.watched c.self.invariant.reasons below c.in_err-add.ensures.err in
    record {
      watched = rw lists keeps.watched;
      reasons = keeps.reasons;
      few = omega (arith, keeps.few, ap length clauses, c.requires.numbers);
    }

pub invariant_of-self-2 : goal.invariant_of-self-2
invariant_of-self-2 c =
    let of = c.self.inside in
    let state = c.self.view_is in
    let path = ap (λ (s : State). s.path) state in
    let clauses = ap (λ (s : State). s.clauses) state in
    let clause = c.args.clause.now in
    let pair : Pair = record { first = c.args.first; second = c.args.second; others = c.others_of-others.result } in
    let within : All (λ literal. literal < 2 * of.trail.variables) clause = rw path c.requires.within in
    let now : State = record { clauses = of.clauses; path = of.trail; head = of.head } in
    let P : State → Type 0 = λ s. CanWatch s pair.first in
    let Q : State → Type 0 = λ s. CanWatch s pair.second in
    let first : CanWatch now pair.first = subst P (sym state) c.requires.first_watch in
    let second : CanWatch now pair.second = subst Q (sym state) c.requires.second_watch in
    let adds = c.in_ok-add.ensures.ok in
    let lists = with_items_is of.lists c.add.new.lists (omega (arith, c.add.auto.lists, c.deref_mut.ensures.len)) ∙ c.in_ok-add.ensures.lists in
    record {
      watched = rw (lists, c.deref_mut.ensures.value, adds.new_clauses, adds.new_pairs) (attached of.clauses of.pairs.items of.lists.items of.trail of.head clause pair (eqb (length clause) 2) c.self.invariant.watched within c.requires.first c.requires.second c.requires.differ c.others_of-others.ensures (two_at_most clause) (not_yet now clause pair first second) (not_below now clause pair first second));
      reasons = rw adds.new_clauses (reasons-more of.clauses of.trail (Some clause) c.self.invariant.reasons);
      few = omega (arith, ap length adds.new_clauses, length_push of.clauses (Some clause), ap length clauses, c.requires.numbers);
    }
