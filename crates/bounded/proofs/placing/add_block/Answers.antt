use Rattle.std.proofs.Common.{◌≡◌, ◌∷◌, [], List, Err, Ok, ℕ, subst, arith}
use Rattle.std.specs.List.{flat_map, range_with_len}
use Rattle.std.proofs.lemmas.Result.{err_from_is_err_and}
use Rattle.gates_nodes.specs.declared.node.Node.{Node}
use Rattle.gates_nodes.specs.declared.node.Node.TheVariants.{Free}
use Rattle.bounded.specs.Adding.{Frees}
use Rattle.bounded.specs.Places.{block}
use Rattle.bounded.proofs.Appending.{singles}
use Rattle.bounded.proofs.Freeing.{frees-end, frees-fail, frees-no_node, frees-node, frees-start, frees-step}
use Rattle.bounded.proofs.placing.add_block.Goals as goal

pub loop-bit-init : goal.loop-bit-init
loop-bit-init c = frees-start (λ bit. Free c.args.label bit ∷ []) c.args.size c.args.builder.now

pub loop-bit-preserved : goal.loop-bit-preserved
loop-bit-preserved c =
    let node = Free c.args.label c.loop-bit.bit in
    frees-step (λ bit. Free c.args.label bit ∷ []) c.args.size c.args.builder.now c.loop-bit.builder c.free.new.self c.loop-bit.bit (omega arith) c.loop-bit.invariant
    (frees-node c.loop-bit.builder c.free.new.self node c.in_ok-free.field-0 c.in_ok-free.ensures)

pub returns-in_err-free : goal.returns-in_err-free
returns-in_err-free c =
    let label = c.args.label in
    let size = c.args.size in
    let one : ℕ → List Node = λ bit. Free label bit ∷ [] in
    let node = Free label c.loop-bit.bit in
    let fault = c.in_err-free.field-0.0 in
    let p = err_from_is_err_and c.from_residual.result c.from_residual.ensures.1 in
    let all : flat_map one (range_with_len 0 size) ≡ block label size = singles (Free label) (range_with_len 0 size) in
    rw (p.1, p.2) (subst (λ (l : List Node). Frees c.args.builder.now c.free.new.self l (Err fault)) all
    (frees-fail one size c.args.builder.now c.loop-bit.builder c.free.new.self c.loop-bit.bit fault (omega arith) c.loop-bit.invariant
    (frees-no_node c.loop-bit.builder c.free.new.self node fault c.in_err-free.ensures)))

pub returns : goal.returns
returns c =
    let label = c.args.label in
    let size = c.args.size in
    let one : ℕ → List Node = λ bit. Free label bit ∷ [] in
    let all : flat_map one (range_with_len 0 size) ≡ block label size = singles (Free label) (range_with_len 0 size) in
    subst (λ (l : List Node). Frees c.args.builder.now c.loop-bit.builder l (Ok tt)) all
    (frees-end one size c.args.builder.now c.loop-bit.builder c.loop-bit.bit (omega arith) (omega arith) c.loop-bit.invariant)
