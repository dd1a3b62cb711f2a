use Rattle.std.proofs.Common.{◌≡◌, ◌+◌, ◌∷◌, ◌++◌, [], ◌<◌, ◌≤◌, refl, ap, ◌∙◌, arith}
use Rattle.std.proofs.lemmas.List.Elements.{All-weaker}
use Rattle.clauses.specs.Literals.{clause_words}
use Rattle.cdcl_trail.specs.Path.{Path}
use Rattle.cdcl.proofs.Stepping.{numbers_fit}
use Rattle.cdcl.proofs.Loading.{place_few}
use Rattle.cdcl.proofs.Refuting.{refuted_at, at_once_live, at_once_few, refutation_at}
use Rattle.cdcl.proofs.refute.refute.Goals as goal

hints_are : (c : goal.After-deref) → (unit : Unit {0}) → c.deref.result.now ≡ c.args.propagator.now.path.reasons ++ (c.args.place + 1) ∷ []
hints_are c unit =
    let reasons = c.reasons.ensures ∙ ap (λ (p : Path). p.reasons) c.trail.ensures.is in
    rw (c.deref.ensures.value, c.in_ok-push.ensures.items, c.in_ok-extend_from_slice.ensures.items, c.new-hints.ensures.items, reasons) refl

few_words : (c : goal.After-deref) → (unit : Unit {0}) → clause_words c.args.cnf.now.clauses ≤ 400000000
few_words c unit = omega (arith, c.words-few.ensures.is, c.words-few.ensures.few)

pub push-requires-2-clause-entry : goal.push-requires-2-clause-entry
push-requires-2-clause-entry c =
    let cnf = c.args.cnf.now in
    let state = c.args.propagator.now in
    let place = c.args.place in
    let at = refuted_at cnf state place c.trail.ensures.settled c.requires.0 c.requires.1 in
    let hints = state.path.reasons ++ (place + 1) ∷ [] in
    let below = place_few cnf.clauses place c.requires.1.within in
    let few = few_words c tt in
    rw (hints_are c tt)
    (numbers_fit hints (All-weaker (λ h. (0 < h) × (h ≤ place + 1)) (λ h. (0 < h) × (h ≤ 2147483647)) (λ h both. (both.0, omega (arith, both.1, below, few))) hints (at_once_live cnf state place at)))

pub push-requires-2-clause-few : goal.push-requires-2-clause-few
push-requires-2-clause-few c =
    let cnf = c.args.cnf.now in
    let state = c.args.propagator.now in
    let place = c.args.place in
    let at = refuted_at cnf state place c.trail.ensures.settled c.requires.0 c.requires.1 in
    let below = place_few cnf.clauses place c.requires.1.within in
    rw (c.new-log.ensures, hints_are c tt) (omega (arith, at_once_few cnf state place at, below, few_words c tt))

pub returns : goal.returns
returns c =
    let cnf = c.args.cnf.now in
    let state = c.args.propagator.now in
    let place = c.args.place in
    let at = refuted_at cnf state place c.trail.ensures.settled c.requires.0 c.requires.1 in
    let few : clause_words cnf.clauses ≤ 400000000 = omega (arith, c.words-few.ensures.is, c.words-few.ensures.few) in
    let reasons = c.reasons.ensures ∙ ap (λ (p : Path). p.reasons) c.trail.ensures.is in
    rw (c.in_ok-push-2.ensures.ok, c.new-log.ensures, c.deref.ensures.value, c.in_ok-push.ensures.items, c.in_ok-extend_from_slice.ensures.items, c.new-hints.ensures.items, reasons)
    (refutation_at cnf state place few c.requires.1.within at)
