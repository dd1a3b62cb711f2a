use Rattle.std.proofs.Common.{◌≡◌, Some, ◌++◌, ◌∷◌, [], map, sym, ap, ◌∙◌, refl, arith}
use Rattle.std.proofs.lemmas.Bool.{false≢true}
use Rattle.clauses.specs.declared.flat.TheConstants.{MOST_VARIABLES}
use Rattle.clauses.proofs.Within.{within-wider}
use Rattle.clause_store.specs.Stored.{live_clauses}
use Rattle.clause_log.specs.Codes.{code_of, lemmas_of}
use Rattle.clause_log.specs.Marks.{LiteralList}
use Rattle.clause_log.proofs.Taking.{lemmas-push, held_of_stored, live_push, within_push}
use Rattle.clause_log.proofs.checker.LogChecker.take_lemma.Goals as goal

pub returns-then-not-branch-clause-ok : goal.returns-then-not-branch-clause-ok
returns-then-not-branch-clause-ok c =
    rw (← c.self.view_is) (
      λ passes. false≢true (sym c.if-not-branch.true ∙ c.in_ok-lemma_passes.ensures.passes.1 (passes.within, passes.refuted)),
      refl,
    )

pub returns-then-live-self-clause-ok : goal.returns-then-live-self-clause-ok
returns-then-live-self-clause-ok c =
    let stored = c.self.inside.lemmas in
    let both = c.in_ok-lemma_passes.ensures.passes.0 c.if-not-branch.false in
    rw (← c.self.view_is) (
      record { within = both.0; refuted = both.1 },
      omega (arith, c.if-live-self.true, c.live.ensures, held_of_stored stored),
      refl,
    )

pub add_codes-requires-clause-within : goal.add_codes-requires-clause-within
add_codes-requires-clause-within c =
    let both = c.in_ok-lemma_passes.ensures.passes.0 c.if-not-branch.false in
    let formula = c.self.inside.formula.now in
    within-wider formula.variables MOST_VARIABLES formula.few c.args.literals.now both.0

pub invariant_of-self-2 : goal.invariant_of-self-2
invariant_of-self-2 c =
    let stored = c.self.inside.lemmas in
    let variables = c.self.inside.formula.now.variables in
    let literals = c.args.literals.now in
    let both = c.in_ok-lemma_passes.ensures.passes.0 c.if-not-branch.false in
    let codes : c.deref.result.now ≡ map code_of literals = c.deref.ensures.value ∙ c.in_ok-add_codes.ensures in
    let pushed : c.push.new.self ≡ stored ++ Some (map code_of literals) ∷ [] = c.in_ok-push.ensures.ok ∙ ap (λ xs. stored ++ Some xs ∷ []) codes in
    let lemmas = ap lemmas_of pushed ∙ lemmas-push variables stored literals both.0 in
    record {
      variables = ap (λ (s : LiteralList). s.variables) c.in_ok-lemma_passes.ensures.set ∙ c.self.invariant.variables;
      empty = ap (λ (s : LiteralList). s.members) c.in_ok-lemma_passes.ensures.set ∙ c.self.invariant.empty;
      within = rw lemmas (within_push variables (lemmas_of stored) literals c.self.invariant.within both.0);
      few = omega (arith, ap live_clauses pushed, live_push stored (map code_of literals), c.if-live-self.false, c.live.ensures);
    }

pub returns-clause-ok : goal.returns-clause-ok
returns-clause-ok c =
    let stored = c.self.inside.lemmas in
    let variables = c.self.inside.formula.now.variables in
    let literals = c.args.literals.now in
    let both = c.in_ok-lemma_passes.ensures.passes.0 c.if-not-branch.false in
    let codes : c.deref.result.now ≡ map code_of literals = c.deref.ensures.value ∙ c.in_ok-add_codes.ensures in
    let pushed : c.push.new.self ≡ stored ++ Some (map code_of literals) ∷ [] = c.in_ok-push.ensures.ok ∙ ap (λ xs. stored ++ Some xs ∷ []) codes in
    let lemmas = ap lemmas_of pushed ∙ lemmas-push variables stored literals both.0 in
    rw (← c.self.view_is) (
      record { within = both.0; refuted = both.1 },
      omega (arith, c.if-live-self.false, c.live.ensures, held_of_stored stored),
      rw lemmas refl,
    )
