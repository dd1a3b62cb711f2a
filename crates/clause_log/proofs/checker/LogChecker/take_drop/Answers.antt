use Rattle.std.proofs.Common.{ap, ◌∙◌, refl, arith}
use Rattle.clause_store.specs.Stored.{live_clauses}
use Rattle.clause_log.specs.Codes.{lemmas_of}
use Rattle.clause_log.proofs.Taking.{within_set, lemmas-set, live_set}
use Rattle.clause_log.proofs.checker.LogChecker.take_drop.Goals as goal

pub invariant_of-self : goal.invariant_of-self
invariant_of-self c =
    let stored = c.self.inside.lemmas in
    let lemmas = ap lemmas_of c.remove.ensures ∙ lemmas-set stored c.in-Some.place in
    record {
      variables = c.self.invariant.variables;
      empty = c.self.invariant.empty;
      within = rw lemmas (within_set c.self.inside.formula.now.variables (lemmas_of stored) c.in-Some.place c.self.invariant.within);
      few = omega (arith, ap live_clauses c.remove.ensures, live_set stored c.in-Some.place, c.self.invariant.few);
    }

pub returns-in-Some : goal.returns-in-Some
returns-in-Some c =
    let stored = c.self.inside.lemmas in
    let lemmas = ap lemmas_of c.remove.ensures ∙ lemmas-set stored c.in-Some.place in
    let named = c.in-Some.ensures.some in (
      named.0,
      rw (lemmas, named.1, ← c.self.view_is) refl,
    )
