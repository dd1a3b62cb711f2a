use Rattle.std.proofs.Common.{◌≡◌, ◌∙◌, ℕ, suc, true, [], arith}
use Rattle.std.specs.List.{range_with_len}
use Rattle.std.proofs.lemmas.Result.{err_from_is_err_and}
use Rattle.gates_covers.specs.Greedy.{covers_of}
use Rattle.gates_frames.specs.Frames.{frame_at}
use Rattle.gates_order.specs.Depths.{order_of}
use Rattle.netlist.specs.Valuations.{bit}
use Rattle.bounded.specs.Searches.{search_cone}
use Rattle.bounded.proofs.Cones.{Premises}
use Rattle.bounded.proofs.FramesBuilt.{literals-are, many-are, nodes-are}
use Rattle.bounded.proofs.Totals.{frames-few, valuations-few}
use Rattle.bounded.proofs.framing.search_frames.Goals as goal

pub returns-then-last-ge-MOST_VARIABLES-clause-large : goal.returns-then-last-ge-MOST_VARIABLES-clause-large
returns-then-last-ge-MOST_VARIABLES-clause-large c =
    let d = c.args.netlist.now in
    let a = c.args.violation.now in
    let on : Premises d a = record { sound = c.soundness_law.ensures.sound; good = c.automaton_law.ensures; tests = c.requires.tests; some = c.soundness_law.ensures.ordered.0; ordered = c.soundness_law.ensures.ordered.1 } in
    let few = valuations-few d a on c.args.last in
    λ e. omega (arith, few)

pub returns-in_err-frames-clause-large : goal.returns-in_err-frames-clause-large
returns-in_err-frames-clause-large c =
    let d = c.args.netlist.now in
    let a = c.args.violation.now in
    let n = c.args.last in
    let on : Premises d a = record { sound = c.soundness_law.ensures.sound; good = c.automaton_law.ensures; tests = c.requires.tests; some = c.soundness_law.ensures.ordered.0; ordered = c.soundness_law.ensures.ordered.1 } in
    let cone = bit c.in_ok-cone.cone in
    let ordered : c.as_slice.result.now ≡ order_of d.tables = c.as_slice.ensures ∙ c.in_ok-order.ensures.is in
    let law : (p : ℕ) → frame_at (covers_of d.tables) 0 d (order_of d.tables) cone true [] p ≡ frame_at (covers_of d.tables) 0 d (order_of d.tables) (search_cone d a) true [] p =
    λ p. c.frames_law.ensures (covers_of d.tables) 0 d (order_of d.tables) cone (search_cone d a) true [] p c.soundness_law.ensures.sound (rw (c.in_ok-order.ensures.is) at c.in_ok-order.ensures.order) c.in_ok-cone.ensures.is in
    let many = many-are d a cone c.in_ok-builder.builder c.as_slice.result.now c.in_ok-builder.ensures ordered law n in
    let few = frames-few d a on n in
    let p = err_from_is_err_and c.from_residual-in_err-frames.result c.from_residual-in_err-frames.ensures.1 in
    rw (p.1, p.2) (λ e. (let large = c.in_err-frames.ensures.large e in omega (arith, many, few, large)))

pub returns-clause-framed : goal.returns-clause-framed
returns-clause-framed c =
    let d = c.args.netlist.now in
    let a = c.args.violation.now in
    let n = c.args.last in
    let cone = bit c.in_ok-cone.cone in
    let ordered : c.as_slice.result.now ≡ order_of d.tables = c.as_slice.ensures ∙ c.in_ok-order.ensures.is in
    let law : (p : ℕ) → frame_at (covers_of d.tables) 0 d (order_of d.tables) cone true [] p ≡ frame_at (covers_of d.tables) 0 d (order_of d.tables) (search_cone d a) true [] p =
    λ p. c.frames_law.ensures (covers_of d.tables) 0 d (order_of d.tables) cone (search_cone d a) true [] p c.soundness_law.ensures.sound (rw (c.in_ok-order.ensures.is) at c.in_ok-order.ensures.order) c.in_ok-cone.ensures.is in
    record {
      few = c.if-last-ge-MOST_VARIABLES.false;
      builder = c.in_ok-frames.ensures.builder ∙ nodes-are d a cone c.in_ok-builder.builder c.as_slice.result.now c.in_ok-builder.ensures ordered law n;
      frames = c.in_ok-frames.ensures.frames ∙ literals-are d a cone c.in_ok-builder.builder c.as_slice.result.now c.in_ok-builder.ensures ordered law (range_with_len 0 (suc n));
      are = c.in_ok-frames.ensures.are;
      sizes = c.in_ok-frames.ensures.sizes;
      cone_size = c.in_ok-cone.ensures.size;
      cone = c.in_ok-cone.ensures.is;
    }
