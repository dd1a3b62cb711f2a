use Rattle.std.proofs.Common.{◌≡◌, ◌∙◌, ap, ◌++◌, length}
use Rattle.std.specs.Prelude.{decimal}
use Rattle.std.proofs.lemmas.List.{get_or_default}
use Rattle.trace.proofs.Growing.{vector-added}
use Rattle.trace.proofs.vectors.add_declaration.Goals as goal
use Rattle.trace.specs.Codes.{code_of}
use Rattle.trace.specs.Vectors.{no_vector, reference_text, vector_at}
use Rattle.trace.specs.declared.vectors.Vector.{Vector}

pub returns : goal.returns
returns c =
    let vectors = c.args.vectors.now in
    let vector = vector_at vectors c.args.number in
    let found = c.index-vectors-number.result in
    let same : found ≡ vector = c.index-vectors-number.is ∙ get_or_default vectors c.args.number found no_vector c.requires in
    vector-added c.args.text.now.items c.add_bytes.new.text.items c.add_number.new.text.items c.add_bytes-2.new.text.items c.add_code.new.text.items c.add_bytes-3.new.text.items
    c.add_reference.new.text.items c.add_bytes-4.new.text.items (decimal (length vector.signals)) (code_of c.args.number) (reference_text vector)
    c.in_ok-add_bytes.ensures.ok
    (c.in_ok-add_number.ensures.ok ∙ ap (λ n. c.add_bytes.new.text.items ++ decimal n) (c.len.ensures ∙ ap (λ (v : Vector). length v.signals) same))
    c.in_ok-add_bytes-2.ensures.ok c.in_ok-add_code.ensures c.in_ok-add_bytes-3.ensures.ok
    (c.in_ok-add_reference.ensures ∙ ap (λ (v : Vector). c.add_bytes-3.new.text.items ++ reference_text v) same) c.in_ok-add_bytes-4.ensures.ok
