use Rattle.std.proofs.Common.{◌≡◌, ◌+◌, ◌<◌, ℤ, List, [], ◌∷◌, ◌++◌, length, take, get_or, refl, sym, ap, ◌∙◌, arith}
use Rattle.std.proofs.lemmas.List.{take_more}
use Rattle.clauses.specs.Literals.{clause_words}
use Rattle.cdcl_incremental.specs.Questions.{Formula}
use Rattle.cdcl.proofs.Loading.{item_at, formula_within, words_more}
use Rattle.cdcl_incremental.proofs.growing.Growing.new.Goals as goal

pub add-requires-clause-within : goal.add-requires-clause-within
add-requires-clause-within c =
    let cnf = c.args.cnf.now in
    let same : c.loop-place.solver.variables ≡ cnf.variables = ap (λ (f : Formula). f.variables) c.loop-place.invariant.is in
    rw same (formula_within cnf.variables cnf.clauses c.loop-place.place c.at.result.now cnf.within c.at.ensures.is)

pub unreachable-requires : goal.unreachable-requires
unreachable-requires c =
    let cnf = c.args.cnf.now in
    let place = c.loop-place.place in
    let clause = c.at.result.now in
    let inside : place < length cnf.clauses = omega (arith, c.loop-place-test.true, c.len-place-end.ensures) in
    let size : length (get_or cnf.clauses place []) ≡ length clause = ap length (item_at cnf.clauses place clause [] c.at.ensures.is) in
    let before : clause_words c.loop-place.solver.formula ≡ clause_words (take place cnf.clauses) = ap (λ (f : Formula). clause_words f.clauses) c.loop-place.invariant.is in
    omega (arith, words_more cnf.clauses place inside, c.words-few.ensures.is, c.words-few.ensures.few, c.add.ensures.too_large (cc))

pub loop-place-preserved : goal.loop-place-preserved
loop-place-preserved c =
    let cnf = c.args.cnf.now in
    let place = c.loop-place.place in
    let clause = c.at.result.now in
    let inside : place < length cnf.clauses = omega (arith, c.loop-place-test.true, c.len-place-end.ensures) in
    let added = c.in-Ok.ensures.ok in
    let before : c.loop-place.solver.formula ≡ take place cnf.clauses = ap (λ (f : Formula). f.clauses) c.loop-place.invariant.is in
    let formula : c.add.new.self.formula ≡ take (place + 1) cnf.clauses =
    added.formula
    ∙ ap (λ (f : List (List ℤ)). f ++ clause ∷ []) before
    ∙ ap (λ (l : List ℤ). take place cnf.clauses ++ l ∷ []) (sym (item_at cnf.clauses place clause [] c.at.ensures.is))
    ∙ sym (take_more cnf.clauses place [] inside) in
    let variables : c.add.new.self.variables ≡ cnf.variables = added.variables ∙ ap (λ (f : Formula). f.variables) c.loop-place.invariant.is in
    record { grown = added.grown; is = rw (variables, formula) refl }
