use Rattle.std.proofs.Common.{◌≡◌, ◌∙◌, ◌++◌, ◌∷◌, [], ap, sym, List, arith}
use Rattle.std.proofs.lemmas.List.{get_or_default}
use Rattle.std.proofs.lemmas.List.FromFn.{map-range_with_len_more}
use Rattle.psl_tree.specs.declared.name.Name.{Name}
use Rattle.trace.proofs.vectors.vector_names.Goals as goal
use Rattle.trace.specs.Vectors.{name_of, no_vector, vector_at, vector_name}
use Rattle.trace.specs.declared.vectors.Vector.{Vector}

pub loop-number-preserved : goal.loop-number-preserved
loop-number-preserved c =
    let vectors = c.args.vectors.now in
    let number = c.loop-number.number in
    let found = c.index-vectors-number.result in
    let same : found ≡ vector_at vectors number = c.index-vectors-number.is ∙ get_or_default vectors number found no_vector c.loop-number-test.true in
    let is = c.in_ok-vector_name.ensures in
    let named : c.in_ok-vector_name.field-0 ≡ vector_name vectors number = is ∙ ap (λ (v : Vector). name_of v number) same in
    c.in_ok-push.ensures.ok
    ∙ ap (λ (name : Name). c.loop-number.names ++ name ∷ []) named
    ∙ ap (λ (names : List Name). names ++ vector_name vectors number ∷ []) c.loop-number.invariant
    ∙ sym (map-range_with_len_more (vector_name vectors) 0 number number (omega arith))
