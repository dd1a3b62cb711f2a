use Rattle.std.proofs.Common.{◌≡◌, ◌-◌, ◌<◌, suc, length, get_or, None, Some, ap, ◌∙◌, refl, arith}
use Rattle.std.specs.Option.{option_map}
use Rattle.clause_log.specs.Codes.{clause_of_codes, lemmas_of}
use Rattle.clause_log.proofs.Propagating.{lemma_at}
use Rattle.clause_log.proofs.checker.LogChecker.place_of.Goals as goal

pub returns-in-Some-clause-some : goal.returns-in-Some-clause-some
returns-in-Some-clause-some c =
    let formula = c.self.inside.formula.now.clauses in
    let stored = c.self.inside.lemmas in
    let place : c.in_ok-place.place ≡ c.args.number - suc (length formula) = omega (arith, c.in_ok-place.ensures, c.in_ok-behind.ensures, c.len.ensures) in
    let behind : length formula < c.args.number = omega (arith, c.in_ok-place.ensures, c.in_ok-behind.ensures, c.len.ensures) in
    let there : get_or (lemmas_of stored) (c.args.number - suc (length formula)) None ≡ Some (clause_of_codes c.in-Some.field-0.now) =
    rw (← place) (lemma_at stored c.in_ok-place.place ∙ ap (option_map clause_of_codes) c.in-Some.ensures.some) in
    rw (← c.self.view_is) ((behind, rw there refl), place)
