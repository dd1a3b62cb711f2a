use Rattle.std.proofs.Common.{length, arith}
use Rattle.std.proofs.lemmas.Result.{err_from_is_err_and}
use Rattle.bounded.specs.Adding.{frame_in}
use Rattle.bounded.specs.Obligations.{Asked, with_obligation}
use Rattle.bounded.proofs.Additions.{obligation-grows, so_far-end, so_far-fail, so_far-start, so_far-step}
use Rattle.bounded.proofs.Standing.{frames-still, places-still}
use Rattle.bounded.proofs.obligations.add_place.Goals as goal

pub loop-number-init : goal.loop-number-init
loop-number-init c =
    let places = c.args.places.now in
    let a = places.automaton.now in
    let frames = frame_in c.args.frames.now in
    so_far-start (with_obligation a frames places.last places.before c.args.place) (obligation-grows a frames places.last places.before c.args.place) (length a.obligations) c.args.builder.now c.args.clauses.now

pub add_obligation-requires-clause-places : goal.add_obligation-requires-clause-places
add_obligation-requires-clause-places c =
    let places = c.args.places.now in
    places-still places.automaton.now places.last places.before c.args.builder.now c.loop-number.builder c.loop-number.invariant.kept c.loop-number.invariant.extends c.requires.places

pub add_obligation-requires-clause-frames : goal.add_obligation-requires-clause-frames
add_obligation-requires-clause-frames c =
    frames-still c.args.builder.now c.loop-number.builder c.args.frames.now c.loop-number.invariant.kept c.loop-number.invariant.extends c.requires.frames

pub loop-number-preserved : goal.loop-number-preserved
loop-number-preserved c =
    let places = c.args.places.now in
    let a = places.automaton.now in
    let frames = frame_in c.args.frames.now in
    let start : Asked = record { nodes = c.args.builder.now.nodes; clauses = c.args.clauses.now } in
    so_far-step (with_obligation a frames places.last places.before c.args.place) (obligation-grows a frames places.last places.before c.args.place) (length a.obligations)
    c.args.builder.now c.loop-number.builder c.add_obligation.new.builder c.loop-number.clauses c.add_obligation.new.clauses c.loop-number.number start (omega arith)
    c.loop-number.invariant c.in_ok-add_obligation.ensures

pub returns-in_err-add_obligation : goal.returns-in_err-add_obligation
returns-in_err-add_obligation c =
    let places = c.args.places.now in
    let a = places.automaton.now in
    let frames = frame_in c.args.frames.now in
    let start : Asked = record { nodes = c.args.builder.now.nodes; clauses = c.args.clauses.now } in
    let p = err_from_is_err_and c.from_residual.result c.from_residual.ensures.1 in
    rw (p.1, p.2) (so_far-fail (with_obligation a frames places.last places.before c.args.place) (obligation-grows a frames places.last places.before c.args.place) (length a.obligations)
    c.args.builder.now c.loop-number.builder c.add_obligation.new.builder c.loop-number.clauses c.add_obligation.new.clauses c.loop-number.number start c.in_err-add_obligation.field-0.0 (omega arith)
    c.loop-number.invariant c.in_err-add_obligation.ensures)

pub returns : goal.returns
returns c =
    let places = c.args.places.now in
    let a = places.automaton.now in
    let frames = frame_in c.args.frames.now in
    let start : Asked = record { nodes = c.args.builder.now.nodes; clauses = c.args.clauses.now } in
    so_far-end (with_obligation a frames places.last places.before c.args.place) (obligation-grows a frames places.last places.before c.args.place) (length a.obligations)
    c.args.builder.now c.loop-number.builder c.loop-number.clauses c.loop-number.number start (omega arith) (omega arith) c.loop-number.invariant
