use Rattle.std.proofs.Common.{◌+◌, arith}
use Rattle.std.proofs.lemmas.Result.{err_from_is_err_and}
use Rattle.bounded.specs.Places.{block}
use Rattle.bounded.proofs.Freeing.{frees-end, frees-fail, frees-start, frees-step}
use Rattle.bounded.proofs.placing.add_blocks.Goals as goal

pub loop-place-init : goal.loop-place-init
loop-place-init c = frees-start (λ place. block (c.args.label + place) c.args.size) c.args.count c.args.builder.now

pub loop-place-preserved : goal.loop-place-preserved
loop-place-preserved c =
    frees-step (λ place. block (c.args.label + place) c.args.size) c.args.count c.args.builder.now c.loop-place.builder c.add_block.new.builder c.loop-place.place (omega arith)
    c.loop-place.invariant c.in_ok-add_block.ensures

pub returns-in_err-add_block : goal.returns-in_err-add_block
returns-in_err-add_block c =
    let p = err_from_is_err_and c.from_residual.result c.from_residual.ensures.1 in
    rw (p.1, p.2) (frees-fail (λ place. block (c.args.label + place) c.args.size) c.args.count c.args.builder.now c.loop-place.builder c.add_block.new.builder c.loop-place.place
    c.in_err-add_block.field-0.0 (omega arith) c.loop-place.invariant c.in_err-add_block.ensures)

pub returns : goal.returns
returns c =
    frees-end (λ place. block (c.args.label + place) c.args.size) c.args.count c.args.builder.now c.loop-place.builder c.loop-place.place (omega arith) (omega arith) c.loop-place.invariant
