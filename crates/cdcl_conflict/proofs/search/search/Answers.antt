use Rattle.std.proofs.Common.{◌≡◌}
use Rattle.std.proofs.lemmas.Result.{IfOk-weaker}
use Rattle.cdcl_conflict_theory.specs.Trails.{size_of, HasEnded}
use Rattle.cdcl_conflict.specs.Views.{steps_of}
use Rattle.cdcl_conflict_theory.specs.Lemmas.{IsLearned, IsRefuted}
use Rattle.cdcl_conflict.specs.Standings.{IsCollected}
use Rattle.cdcl_conflict.proofs.Starting.{conflict_readable, listed_none, sweeping_first}
use Rattle.cdcl_conflict.proofs.Searching.{IsSearch, search-learned, search-refuted}
use Rattle.cdcl_conflict.proofs.search.search.Goals as goal

pub reach_clause-requires-clause-readable : goal.reach_clause-requires-clause-readable
reach_clause-requires-clause-readable c =
    conflict_readable c.args.clauses.now (steps_of c.args.trail.now) c.args.conflict c.clause_at-clause.result.now c.requires.conflict c.clause_at-clause.ensures

pub reach_clause-requires-clause-listed : goal.reach_clause-requires-clause-listed
reach_clause-requires-clause-listed c =
    rw c.clear.ensures.items (listed_none (size_of (steps_of c.args.trail.now)) c.args.standings.now c.requires.clear)

pub sweep-requires-clause-sweeping : goal.sweep-requires-clause-sweeping
sweep-requires-clause-sweeping c =
    let steps = steps_of c.args.trail.now in
    sweeping_first c.args.clauses.now steps c.args.conflict c.clause_at-clause.result.now c.args.standings.now c.clear.new.self.items
    c.reach_clause.new.standings c.reach_clause.new.reached.items c.in_ok-waiting.waiting c.clause_at-clause.ensures c.requires.clear c.in_ok-waiting.ensures

searched : (c : goal.After-reached-1) → (unit : Unit {0}) →
    IsCollected (steps_of c.args.trail.now) c.args.conflict c.settle_lower.new.standings c.as_mut_slice.result.now c.collect.new.lemma.literals.items c.collect.new.lemma.hints.items →
    IsSearch c.args.clauses.now (steps_of c.args.trail.now) c.args.conflict c.clause_at-clause.result.now c.in_ok-waiting.waiting c.args.standings.now c.reach_clause.new.standings
    c.sweep.new.standings c.settle_lower.new.standings c.reach_clause.new.reached.items c.settle_lower.new.reached.items c.collect.new.lemma.literals.items c.collect.new.lemma.hints.items
searched c unit collected = record {
  trail = c.requires.trail;
  live = c.clause_at-clause.ensures;
  clear = c.requires.clear;
  reaching = rw c.clear.ensures.items at c.in_ok-waiting.ensures;
  sweep = (c.sweep.new.reached.items, c.in_ok-sweep.ensures);
  settling = c.in_ok-settle_lower.ensures;
  collected = rw c.as_mut_slice.ensures.value at collected;
}

pub returns-clause-learned : goal.returns-clause-learned
returns-clause-learned c =
    let steps = steps_of c.args.trail.now in
    let literals = c.collect.new.lemma.literals.items in
    let hints = c.collect.new.lemma.hints.items in
    IfOk-weaker c.collect.result
    (λ _. IsCollected steps c.args.conflict c.settle_lower.new.standings c.as_mut_slice.result.now literals hints)
    (λ _. HasEnded c.args.clauses.now steps → IsLearned c.args.clauses.now steps literals hints)
    (λ unit collected. search-learned c.args.clauses.now steps c.args.conflict c.clause_at-clause.result.now c.in_ok-waiting.waiting c.args.standings.now c.reach_clause.new.standings
    c.sweep.new.standings c.settle_lower.new.standings c.reach_clause.new.reached.items c.settle_lower.new.reached.items literals hints (searched c unit collected))
    c.collect.ensures.collected

pub returns-clause-refuted : goal.returns-clause-refuted
returns-clause-refuted c =
    let steps = steps_of c.args.trail.now in
    let literals = c.collect.new.lemma.literals.items in
    let hints = c.collect.new.lemma.hints.items in
    IfOk-weaker c.collect.result
    (λ _. IsCollected steps c.args.conflict c.settle_lower.new.standings c.as_mut_slice.result.now literals hints)
    (λ _. steps.fixed ≡ size_of steps → IsRefuted c.args.clauses.now literals hints)
    (λ unit collected. search-refuted c.args.clauses.now steps c.args.conflict c.clause_at-clause.result.now c.in_ok-waiting.waiting c.args.standings.now c.reach_clause.new.standings
    c.sweep.new.standings c.settle_lower.new.standings c.reach_clause.new.reached.items c.settle_lower.new.reached.items literals hints (searched c unit collected))
    c.collect.ensures.collected
