use Rattle.std.proofs.Common.{◌≡◌, ◌<◌, ◌≤◌, length, ap, ◌∙◌, subst}
use Rattle.clauses.specs.declared.flat.TheConstants.{MOST_VARIABLES}
use Rattle.reach_frames.specs.Cubes.{negated}
use Rattle.reach_frames.specs.Searches.{frame_in, IsClosed, IsLearned, IsWithin}
use Rattle.reach_frames.proofs.Closing.{AreAdded, added_keeps_out, added_narrows, before_framed, out_within}
use Rattle.reach_frames.proofs.Cubes.{within_more}
use Rattle.reach_frames.proofs.learning.learn.Goals as goal

pub shrink-requires-clause-framed : goal.shrink-requires-clause-framed
shrink-requires-clause-framed g c = rw c.requires.before (before_framed (g.M.Machine.system c.args.machine.now) c.args.frames.now c.args.place c.requires.ready)

pub negated-requires : goal.negated-requires
negated-requires g c =
    let system = g.M.Machine.system c.args.machine.now in
    rw c.as_slice.ensures
    (within_more system.width MOST_VARIABLES c.in_ok-cube.field-0.cube c.requires.ready.few c.in_ok-cube.ensures.learned.closed.is_cube.within)

pub returns-clause-narrowed : goal.returns-clause-narrowed
returns-clause-narrowed g c =
    let system = g.M.Machine.system c.args.machine.now in
    let levels = c.args.frames.now in
    let cube = c.in_ok-cube.field-0.cube in
    let level = c.in_ok-cube.field-0.level in
    let closed : IsClosed system levels level cube = c.in_ok-cube.ensures.learned.closed in
    let framed : level < length levels = c.in_ok-cube.ensures.learned.framed in
    let clause : c.in_ok-clause.clause ≡ negated cube = c.in_ok-clause.ensures ∙ ap negated c.as_slice.ensures in
    let added : AreAdded levels c.add.new.self level c.in_ok-clause.clause = (c.in_ok-add.ensures.stays, c.in_ok-add.ensures.grows) in
    added_narrows system levels c.add.new.self level cube c.requires.ready framed closed
    (subst (AreAdded levels c.add.new.self level) clause added)

pub returns-clause-kept_out : goal.returns-clause-kept_out
returns-clause-kept_out g c =
    let system = g.M.Machine.system c.args.machine.now in
    let levels = c.args.frames.now in
    let cube = c.in_ok-cube.field-0.cube in
    let level = c.in_ok-cube.field-0.level in
    let closed : IsClosed system levels level cube = c.in_ok-cube.ensures.learned.closed in
    let framed : level < length levels = c.in_ok-cube.ensures.learned.framed in
    let later : c.args.place ≤ level = c.in_ok-cube.ensures.learned.later in
    let clause : c.in_ok-clause.clause ≡ negated cube = c.in_ok-clause.ensures ∙ ap negated c.as_slice.ensures in
    let added : AreAdded levels c.add.new.self level c.in_ok-clause.clause = (c.in_ok-add.ensures.stays, c.in_ok-add.ensures.grows) in
    let core : IsWithin c.in_ok-copy.field-0 c.in_ok-core.core = c.in_ok-core.ensures.within in
    let within : IsWithin c.in_ok-core.core cube = c.in_ok-cube.ensures.learned.within in
    let within : IsWithin c.in_ok-copy.field-0 cube = λ state inside. within state (core state inside) in
    let within : IsWithin c.args.task.now.cube cube = rw c.in_ok-copy.ensures at within in
    out_within (frame_in c.add.new.self c.args.place) c.args.task.now.cube cube within
    (added_keeps_out system levels c.add.new.self c.args.place level cube c.requires.ready framed later closed
    (subst (AreAdded levels c.add.new.self level) clause added))
