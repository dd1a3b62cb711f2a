use Rattle.std.proofs.Common.{refl, ◌≡◌, ◌+◌, ◌<◌, ◌++◌, ◌∷◌, [], suc, length, map, inr, ap, ◌∙◌, add-one, subst}
use Rattle.std.specs.List.{range_with_len}
use Rattle.std.proofs.lemmas.Result.{err_from_is_err_and}
use Rattle.clauses.specs.declared.flat.TheConstants.{MOST_WORDS}
use Rattle.clauses.specs.Literals.{clause_words}
use Rattle.gates_theory.specs.Unrolled.{units}
use Rattle.run_formulas.specs.Adding.{held_to}
use Rattle.run_formulas.proofs.Parts.{late-second, Clauses}
use Rattle.run_formulas.specs.Windows.{bad_at}
use Rattle.run_formulas.proofs.windows.base_to.Goals as goal

pub returns-clause-clauses : goal.returns-clause-clauses
returns-clause-clauses c =
    let size = c.len-size.ensures in
    rw (c.in_ok-add_somewhere.ensures.ok, c.in_ok-add_units.ensures.ok, c.in_ok-cnf.ensures.clauses, size, add-one) refl

pub returns-in_err-add_somewhere-clause-large : goal.returns-in_err-add_somewhere-clause-large
returns-in_err-add_somewhere-clause-large c =
    let circuit = c.args.circuit.now in
    let last = c.args.last in
    let bad = c.args.bad in
    let start = units 0 c.args.start.now in
    let somewhere = map (bad_at (length circuit.gates) bad) (range_with_len 0 (suc last)) ∷ [] in
    let here : map (bad_at c.len-size.result bad) (range_with_len 0 (last + 1)) ∷ [] ≡ somewhere = rw (c.len-size.ensures, add-one) refl in
    let mid : c.add_units.new.cnf.clauses ≡ held_to circuit last ++ start = c.in_ok-add_units.ensures.ok ∙ ap (λ k. k ++ start) c.in_ok-cnf.ensures.clauses in
    let p = err_from_is_err_and c.from_residual-in_err-add_somewhere.result c.from_residual-in_err-add_somewhere.ensures.1 in
    rw (p.1, p.2) (λ e. inr (late-second c.add_units.new.cnf.clauses (held_to circuit last) start somewhere mid
    (subst (λ (more : Clauses). MOST_WORDS < clause_words c.add_units.new.cnf.clauses + clause_words more) here (c.in_err-add_somewhere.ensures.large e))))
