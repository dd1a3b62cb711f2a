use Rattle.std.proofs.Common.{◌≡◌, ◌<◌, sym, ap, ◌∙◌, ℤ, pos, List, [], ◌∷◌, ◌++◌, take, length, arith}
use Rattle.std.proofs.lemmas.List.{take_more}
use Rattle.std.proofs.lemmas.Option.{get_or_from_slice_get}
use Rattle.reach_solver.specs.Texts.{text_of}
use Rattle.reach_solver.proofs.Texts.{text-more}
use Rattle.reach_solver.proofs.text.text_of.Goals as goal

pub loop-place-preserved : goal.loop-place-preserved
loop-place-preserved c =
    let clauses = c.args.formula.now.clauses in
    let place = c.loop-place.place in
    let clause = c.at.result.now in
    let below : place < length clauses = omega (arith, c.loop-place-test.true, c.len-place-end.ensures) in
    c.in_ok-add_clause.ensures
    ∙ ap (λ (l : List ℤ). l ++ pos (length clause) ∷ clause) c.loop-place.invariant
    ∙ sym (text-more (take place clauses) clause)
    ∙ ap text_of (ap (λ (x : List ℤ). take place clauses ++ x ∷ [])
    (sym (get_or_from_slice_get clauses place clause [] c.at.ensures.is)) ∙ sym (take_more clauses place [] below))
