use Rattle.std.proofs.Common.{suc, arith}
use Rattle.std.proofs.lemmas.Result.{err_from_is_err_and}
use Rattle.bounded.specs.Adding.{frame_in}
use Rattle.bounded.specs.Obligations.{Asked, with_place}
use Rattle.bounded.proofs.Additions.{place-grows, so_far-end, so_far-fail, so_far-start, so_far-step}
use Rattle.bounded.proofs.Standing.{frames-still, places-still}
use Rattle.bounded.proofs.obligations.add_obligations.Goals as goal

pub loop-place-init : goal.loop-place-init
loop-place-init c =
    let places = c.args.places.now in
    let a = places.automaton.now in
    let frames = frame_in c.args.frames.now in
    so_far-start (with_place a frames places.last places.before) (place-grows a frames places.last places.before) (suc places.last) c.args.builder.now c.args.clauses.now

pub add_place-requires-clause-places : goal.add_place-requires-clause-places
add_place-requires-clause-places c =
    let places = c.args.places.now in
    places-still places.automaton.now places.last places.before c.args.builder.now c.loop-place.builder c.loop-place.invariant.kept c.loop-place.invariant.extends c.requires.places

pub add_place-requires-clause-frames : goal.add_place-requires-clause-frames
add_place-requires-clause-frames c =
    frames-still c.args.builder.now c.loop-place.builder c.args.frames.now c.loop-place.invariant.kept c.loop-place.invariant.extends c.requires.frames

pub loop-place-preserved : goal.loop-place-preserved
loop-place-preserved c =
    let places = c.args.places.now in
    let a = places.automaton.now in
    let frames = frame_in c.args.frames.now in
    let start : Asked = record { nodes = c.args.builder.now.nodes; clauses = c.args.clauses.now } in
    so_far-step (with_place a frames places.last places.before) (place-grows a frames places.last places.before) (suc places.last)
    c.args.builder.now c.loop-place.builder c.add_place.new.builder c.loop-place.clauses c.add_place.new.clauses c.loop-place.place start (omega arith)
    c.loop-place.invariant c.in_ok-add_place.ensures

pub returns-in_err-add_place : goal.returns-in_err-add_place
returns-in_err-add_place c =
    let places = c.args.places.now in
    let a = places.automaton.now in
    let frames = frame_in c.args.frames.now in
    let start : Asked = record { nodes = c.args.builder.now.nodes; clauses = c.args.clauses.now } in
    let p = err_from_is_err_and c.from_residual.result c.from_residual.ensures.1 in
    rw (p.1, p.2) (so_far-fail (with_place a frames places.last places.before) (place-grows a frames places.last places.before) (suc places.last)
    c.args.builder.now c.loop-place.builder c.add_place.new.builder c.loop-place.clauses c.add_place.new.clauses c.loop-place.place start c.in_err-add_place.field-0.0 (omega arith)
    c.loop-place.invariant c.in_err-add_place.ensures)

pub returns : goal.returns
returns c =
    let places = c.args.places.now in
    let a = places.automaton.now in
    let frames = frame_in c.args.frames.now in
    let start : Asked = record { nodes = c.args.builder.now.nodes; clauses = c.args.clauses.now } in
    so_far-end (with_place a frames places.last places.before) (place-grows a frames places.last places.before) (suc places.last)
    c.args.builder.now c.loop-place.builder c.loop-place.clauses c.loop-place.place start (omega arith) (omega arith) c.loop-place.invariant
