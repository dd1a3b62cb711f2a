use Rattle.std.proofs.Common.{◌≡◌, ◌+◌, suc, arith}
use Rattle.std.specs.List.{flat_map, range_with_len}
use Rattle.std.proofs.lemmas.Result.{err_from_is_err_and}
use Rattle.bounded.specs.Places.{block}
use Rattle.bounded.proofs.Freeing.{frees-first, frees-then}
use Rattle.bounded.proofs.placing.add_places.Goals as goal

pub returns-in_err-add_blocks : goal.returns-in_err-add_blocks
returns-in_err-add_blocks c =
    let n = c.args.last in
    let bits = c.args.bits in
    let one : n + 1 ≡ suc n = omega arith in
    let two : n + 2 ≡ suc (suc n) = omega arith in
    let failed = rw (one, two) at c.in_err-add_blocks.ensures in
    let p = err_from_is_err_and c.from_residual.result c.from_residual.ensures.1 in
    rw (p.1, p.2) (frees-first c.args.builder.now c.add_blocks.new.builder (flat_map (λ place. block (suc n + place) bits) (range_with_len 0 (suc (suc n))))
    (block (suc n + suc (suc n)) n) c.in_err-add_blocks.field-0.0 failed)

pub returns : goal.returns
returns c =
    let n = c.args.last in
    let bits = c.args.bits in
    let one : n + 1 ≡ suc n = omega arith in
    let two : n + 2 ≡ suc (suc n) = omega arith in
    let done = rw (one, two) at c.in_ok-add_blocks.ensures in
    let then = rw (one, two) at c.add_block.ensures in
    frees-then c.args.builder.now c.add_blocks.new.builder c.add_block.new.builder (flat_map (λ place. block (suc n + place) bits) (range_with_len 0 (suc (suc n))))
    (block (suc n + suc (suc n)) n) c.add_block.result done then
