use Rattle.std.proofs.Common.{◌+◌, length, ap, ◌∙◌, arith}
use Rattle.clauses.specs.declared.flat.TheConstants.{MOST_VARIABLES}
use Rattle.reach_frames.specs.Paths.{last_of}
use Rattle.reach_frames.proofs.Cubes.{within_more}
use Rattle.reach_frames.proofs.Leading.{last_size, led_more}
use Rattle.reach_frames.proofs.path.led_into.Goals as goal

pub is_in_cube-requires : goal.is_in_cube-requires
is_in_cube-requires g c = within_more (g.M.Machine.system c.args.machine.now).width MOST_VARIABLES c.args.cube.now c.requires.few c.requires.cube.within

pub led_on-requires-clause-size : goal.led_on-requires-clause-size
led_on-requires-clause-size g c =
    ap length c.last_of-last.ensures ∙ last_size (g.M.Machine.system c.args.machine.now) c.args.path c.requires.led

pub returns-in_ok-push-in-Some : goal.returns-in_ok-push-in-Some
returns-in_ok-push-in-Some g c =
    let system = g.M.Machine.system c.args.machine.now in
    let found = rw c.in-Some.is at c.in_ok-state.ensures in
    let follows : system.follows (last_of c.args.path) c.in-Some.state = rw c.last_of-last.ensures at found.0 in
    rw c.in_ok-push-in-Some.ensures.ok (led_more system c.args.cube.now c.args.path c.in-Some.state (length c.args.path + 1) c.requires.led follows found.1 (omega arith))
