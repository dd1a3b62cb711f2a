use Rattle.std.proofs.Common.{◌≡◌, suc, ◌-◌, None, ap, ◌∙◌, arith, length, ◌≤◌}
use Rattle.std.specs.Option.{option_map}
use Rattle.clause_log.specs.LiveClauses.{live_clause}
use Rattle.clause_log.specs.Codes.{clause_of_codes, lemmas_of}
use Rattle.clause_log.proofs.Propagating.{formula_clause, formula_within, lemma_clause, lemma_at}
use Rattle.clause_log.proofs.live.left_of.Goals as goal

pub left_in-requires : goal.left_in-requires
left_in-requires c =
    let formula = c.args.live.now.formula.now in
    rw c.requires.variables (formula_within formula.variables formula.clauses c.in_ok-place.place c.at.result.now formula.within c.at.ensures.is)

pub returns-then-place-size-clause-some : goal.returns-then-place-size-clause-some
returns-then-place-size-clause-some c =
    let formula = c.args.live.now.formula.now in
    let number : c.args.number ≡ suc c.in_ok-place.place = omega (arith, c.in_ok-place.ensures) in
    record {
      clause = c.at.result.now;
      is = rw number (formula_clause formula.clauses (lemmas_of c.args.live.now.lemmas.now) c.in_ok-place.place c.at.result.now c.at.ensures.is);
      within = formula_within formula.variables formula.clauses c.in_ok-place.place c.at.result.now formula.within c.at.ensures.is;
      leaves = c.left_in.ensures;
    }

-- the live clause of the number, which is a lemma's
pub returns-in_err-codes-clause-none : goal.returns-in_err-codes-clause-none
returns-in_err-codes-clause-none c =
    let formula = c.args.live.now.formula.now in
    let stored = c.args.live.now.lemmas.now in
    let number : c.args.number ≡ suc c.in_ok-place.place = omega (arith, c.in_ok-place.ensures) in
    let size : c.len-size.result ≡ length formula.clauses = c.len-size.ensures in
    let behind : length formula.clauses ≤ c.in_ok-place.place = omega (arith, c.if-place-size.false, size) in
    let none = rw size at c.in_err-codes.ensures.none in
    let is : live_clause c.args.live.now c.args.number ≡ None =
    rw number (lemma_clause formula.clauses (lemmas_of stored) c.in_ok-place.place behind
    ∙ lemma_at stored (c.in_ok-place.place - length formula.clauses)
    ∙ ap (option_map clause_of_codes) none) in
    rw c.from_residual-in_err-codes.ensures is

pub left_in_codes-requires-clause-within : goal.left_in_codes-requires-clause-within
left_in_codes-requires-clause-within c =
    let stored = c.args.live.now.lemmas.now in
    let place = c.in_ok-place.place - c.len-size.result in
    rw c.requires.variables (c.requires.lemmas place (clause_of_codes c.in_ok-codes.codes.now) (lemma_at stored place ∙ ap (option_map clause_of_codes) c.in_ok-codes.ensures.some))

pub returns-clause-some : goal.returns-clause-some
returns-clause-some c =
    let formula = c.args.live.now.formula.now in
    let stored = c.args.live.now.lemmas.now in
    let number : c.args.number ≡ suc c.in_ok-place.place = omega (arith, c.in_ok-place.ensures) in
    let size : c.len-size.result ≡ length formula.clauses = c.len-size.ensures in
    let behind : length formula.clauses ≤ c.in_ok-place.place = omega (arith, c.if-place-size.false, size) in
    let some = rw size at c.in_ok-codes.ensures.some in
    let there = lemma_at stored (c.in_ok-place.place - length formula.clauses) ∙ ap (option_map clause_of_codes) some in
    record {
      clause = clause_of_codes c.in_ok-codes.codes.now;
      is = rw number (lemma_clause formula.clauses (lemmas_of stored) c.in_ok-place.place behind ∙ there);
      within = c.requires.lemmas (c.in_ok-place.place - length formula.clauses) (clause_of_codes c.in_ok-codes.codes.now) there;
      leaves = c.left_in_codes.ensures;
    }
