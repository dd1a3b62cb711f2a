use Rattle.std.proofs.Common.{◌≡◌, ◌<◌, ◌≤◌, List, [], ◌∷◌, ◌++◌, length, map, refl, sym, ap, ◌∙◌, arith}
use Rattle.std.proofs.lemmas.Bool.{eqb-true, eqb-false}
use Rattle.std.proofs.lemmas.List.{nil_from_length}
use Rattle.cdcl_trail.specs.Path.{Path}
use Rattle.clauses.specs.Literals.{clause_words}
use Rattle.clauses.specs.Logs.LogEntry.{Lemma}
use Rattle.cdcl_trail.specs.Literals.{signed}
use Rattle.cdcl_conflict_theory.specs.Lemmas.{IsLearned, IsRefuted}
use Rattle.cdcl.specs.Turns.{steps_at}
use Rattle.cdcl.proofs.Logging.{AreWithin}
use Rattle.cdcl.proofs.Stepping.{IsOutcome, outcome, literals_fit, hints_fit, words_fit, attach_fits, logged_push, refutes_end, tidy_end, end_fits}
use Rattle.cdcl.proofs.solver.Solver.learn.Goals as goal

-- what the analysis gave
given : (c : goal.After-log_lemma-arg-3-1) → (unit : Unit {0}) → IsOutcome c.args.self.now.propagator.clauses (steps_at c.args.self.now.propagator.path) c.analyze.new.lemma.literals.items c.analyze.new.lemma.hints.items
given c unit =
    let state = c.args.self.now.propagator in
    outcome state.path.limits state.clauses (steps_at state.path) c.analyze.new.lemma.literals.items c.analyze.new.lemma.hints.items c.in_ok-analyze.ensures.learned c.in_ok-analyze.ensures.refuted

within : (c : goal.After-log_lemma-arg-3-1) → (unit : Unit {0}) → AreWithin c.args.self.now.formula.now.variables c.args.self.now.propagator.clauses
within c unit = rw c.requires.ready.variables at c.trail.ensures.settled.within

few_words : (c : goal.After-log_lemma-arg-3-1) → (unit : Unit {0}) → clause_words c.args.self.now.formula.now.clauses ≤ 400000000
few_words c unit = omega (arith, c.words-few.ensures.is, c.words-few.ensures.few)

pub log_lemma-requires-clause-literals : goal.log_lemma-requires-clause-literals
log_lemma-requires-clause-literals c =
    let solver = c.args.self.now in
    literals_fit solver.formula.now.variables solver.propagator.clauses (steps_at solver.propagator.path) c.analyze.new.lemma.literals.items c.analyze.new.lemma.hints.items
    solver.formula.now.few (within c tt) (given c tt)

pub log_lemma-requires-clause-hints : goal.log_lemma-requires-clause-hints
log_lemma-requires-clause-hints c =
    let solver = c.args.self.now in
    hints_fit solver.formula.now.variables solver.formula.now.clauses solver.propagator.clauses solver.log (steps_at solver.propagator.path) c.analyze.new.lemma.literals.items c.analyze.new.lemma.hints.items
    c.requires.ready.logged (few_words c tt) c.requires.few (given c tt)

pub log_lemma-requires-clause-few : goal.log_lemma-requires-clause-few
log_lemma-requires-clause-few c =
    let solver = c.args.self.now in
    words_fit solver.formula.now.variables solver.formula.now.clauses solver.propagator.clauses solver.log (steps_at solver.propagator.path) c.analyze.new.lemma.literals.items c.analyze.new.lemma.hints.items
    c.requires.ready.logged (few_words c tt) c.requires.few (given c tt)

pub returns-then-is_lowest : goal.returns-then-is_lowest
returns-then-is_lowest c =
    let solver = c.args.self.now in
    let formula = solver.formula.now in
    let state = solver.propagator in
    let literals = c.analyze.new.lemma.literals.items in
    let hints = c.analyze.new.lemma.hints.items in
    let limits : c.limits.result.now ≡ state.path.limits = c.limits.ensures.is ∙ ap (λ (p : Path). p.limits) c.trail.ensures.is in
    let none = eqb-true (length c.limits.result.now) 0 (sym c.if-is_lowest.ensures) in
    let lowest : state.path.limits ≡ [] = nil_from_length state.path.limits (omega (arith, none, ap length limits)) in
    let refuted : IsRefuted state.clauses literals hints = c.in_ok-analyze.ensures.refuted lowest in
    let log : c.log_lemma.new.log ≡ solver.log ++ Lemma [] hints ∷ [] =
    c.in_ok-log_lemma.ensures ∙ ap (λ (ls : List _). solver.log ++ Lemma (map signed ls) hints ∷ []) refuted.empty in
    let few : clause_words formula.clauses ≤ 400000000 = omega (arith, c.words-few.ensures.is, c.words-few.ensures.few) in
    let logged = c.requires.ready.logged in
    record {
      formula = refl;
      refutes = rw log (refutes_end formula.variables formula.clauses state.clauses solver.log literals hints logged refuted);
      tidy = rw log (tidy_end formula.variables formula.clauses state.clauses solver.log hints logged);
      words = rw log (end_fits formula.variables formula.clauses state.clauses solver.log literals hints logged refuted few c.requires.few);
      hints = hints;
      log = log;
    }

pub attach_lemma-requires : goal.attach_lemma-requires
attach_lemma-requires c =
    let solver = c.args.self.now in
    let formula = solver.formula.now in
    let state = solver.propagator in
    let literals = c.analyze.new.lemma.literals.items in
    let hints = c.analyze.new.lemma.hints.items in
    let limits : c.limits.result.now ≡ state.path.limits = c.limits.ensures.is ∙ ap (λ (p : Path). p.limits) c.trail.ensures.is in
    let some = eqb-false (length c.limits.result.now) 0 (sym c.if-is_lowest.ensures) in
    let levels : 0 < length state.path.limits = omega (arith, some, ap length limits) in
    let learned : IsLearned state.clauses (steps_at state.path) literals hints = c.in_ok-analyze.ensures.learned levels in
    let few : clause_words formula.clauses ≤ 400000000 = omega (arith, c.words-few.ensures.is, c.words-few.ensures.few) in
    rw c.deref.ensures.value (attach_fits formula.variables formula.clauses state solver.log literals hints c.requires.ready.logged few c.requires.few c.trail.ensures.settled levels learned)

pub returns : goal.returns
returns c =
    let solver = c.args.self.now in
    let formula = solver.formula.now in
    let state = solver.propagator in
    let literals = c.analyze.new.lemma.literals.items in
    let hints = c.analyze.new.lemma.hints.items in
    let limits : c.limits.result.now ≡ state.path.limits = c.limits.ensures.is ∙ ap (λ (p : Path). p.limits) c.trail.ensures.is in
    let some = eqb-false (length c.limits.result.now) 0 (sym c.if-is_lowest.ensures) in
    let levels : 0 < length state.path.limits = omega (arith, some, ap length limits) in
    let learned : IsLearned state.clauses (steps_at state.path) literals hints = c.in_ok-analyze.ensures.learned levels in
    let within : AreWithin formula.variables state.clauses = rw c.requires.ready.variables at c.trail.ensures.settled.within in
    record {
      formula = refl;
      ready = record {
        variables = c.in_ok-attach_lemma.ensures.variables ∙ c.requires.ready.variables;
        room = c.analyze.ensures.room ∙ c.requires.ready.room;
        logged = rw (c.in_ok-attach_lemma.ensures.clauses, c.deref.ensures.value, c.in_ok-log_lemma.ensures)
            (logged_push formula.variables formula.clauses state.clauses solver.log (steps_at state.path) literals hints c.requires.ready.logged within learned);
      };
      literals = map signed literals;
      hints = hints;
      log = c.in_ok-log_lemma.ensures;
    }
