use Rattle.std.proofs.Common.{◌≡◌, ◌+◌, ◌-◌, ◌<◌, ℤ, false, eqb, List, sym, ap, ◌∙◌, subst, arith}
use Rattle.std.specs.List.{filter}
use Rattle.clauses.specs.declared.flat.TheConstants.{MOST_VARIABLES}
use Rattle.reach_frames.specs.Bits.{is_met}
use Rattle.reach_frames.specs.Cubes.{cube_of, negated}
use Rattle.reach_frames.specs.Entries.{IsEntered}
use Rattle.reach_frames.specs.Marks.{has_part, is_marked}
use Rattle.reach_frames.specs.Searches.{frame_in, frame_before, IsKeptOut, IsLedInto, IsTask}
use Rattle.reach_frames.specs.Systems.{IsEntry}
use Rattle.reach_frames.proofs.Closing.{before_fits, before_framed, out_by_part, out_earlier}
use Rattle.reach_frames.proofs.Cubes.{within_more}
use Rattle.reach_frames.proofs.Narrowing.{narrowed_then}
use Rattle.reach_frames.proofs.Turning.{led_whole, left_turn, out_part, out_whole, part_task, whole-IsCube, whole_task}
use Rattle.reach_frames.proofs.blocking.+blocking.Goals as goal
use Rattle.reach_frames.proofs.blocking.+blocking.Goals.{block-then-not-has_part+in_ok-keep_out+in-Out, block-else-not-has_part}

pub block-negated-requires : goal.block-negated-requires
block-negated-requires g t c =
    rw c.as_slice-2.ensures
    (within_more (g.M.Machine.system c.args.machine.now).width MOST_VARIABLES c.args.task.now.cube c.requires.ready.few c.requires.task.cube.within)

pub block-loop-place-preserved : goal.block-loop-place-preserved
block-loop-place-preserved g t c =
    let system = g.M.Machine.system c.args.machine.now in
    let old = c.args.frames.now in
    let mid = c.loop-place.frames in
    let place = c.loop-place.place in
    let cube = c.args.task.now.cube in
    elim c.if-not-has_part.branch [
      | block-then-not-has_part+in_ok-keep_out+in-Out w ↦
          let new = w.keep_out.new.frames in
          let out : IsKeptOut (frame_in new place) cube = rw w.in-Out.is at w.in_ok-keep_out.ensures.answer in
          rw (w.frames-is, w.budget-is) (record {
            narrowed = narrowed_then system old mid new c.loop-place.invariant.narrowed w.in_ok-keep_out.ensures.narrowed;
            budget = w.in_ok-keep_out.ensures.budget ∙ c.loop-place.invariant.budget;
            kept_out = λ more. out_earlier new c.args.first place cube c.loop-place.auto.place out;
          })
      | block-else-not-has_part w ↦
          let clause : c.in_ok-clause.clause ≡ negated cube = c.in_ok-clause.ensures ∙ ap negated c.as_slice-2.ensures in
          let has = ap (has_part (frame_in mid place)) (sym (c.as_slice-in-loop-place.ensures ∙ clause)) ∙ sym c.has_part.ensures ∙ w.if-not-has_part.false in
          let out = out_by_part system.width (frame_in mid place) cube c.requires.task.cube has in
          rw (w.frames-is, w.budget-is) (record {
            narrowed = c.loop-place.invariant.narrowed;
            budget = c.loop-place.invariant.budget;
            kept_out = λ more. out_earlier mid c.args.first place cube c.loop-place.auto.place out;
          })
    ]

pub come_exactly-block-requires : goal.come_exactly-block-requires
come_exactly-block-requires g t c κs within =
    let system = g.M.Machine.system c.args.machine.now in
    let levels = c.args.frames.now in
    let place = c.args.place in
    let entry = c.args.entry in
    let task = c.args.task.now in
    let whole : IsTask system levels (record { cube = cube_of entry.before; room = task.room - 1 }) (place - 1) =
    whole_task system levels task place entry c.requires.later c.requires.task c.requires.follows in
    let P : List ℤ → Type 0 = λ cube. IsTask system levels (record { cube = cube; room = task.room - 1 }) (place - 1) in
    (omega (arith, c.decreases, c.requires.task.room), (within, (c.requires.ready, subst P (sym c.in_ok-cube_of.ensures) whole)))

pub come_exactly-returns-in-Out-clause-answer : goal.come_exactly-returns-in-Out-clause-answer
come_exactly-returns-in-Out-clause-answer g t c =
    let new = c.block.new.frames in
    let place = c.args.place in
    let out : IsKeptOut (frame_in new (place - 1)) c.in_ok-cube_of.field-0 = rw c.in-Out.is at c.in_ok-block.ensures.answer in
    out_whole new place c.args.entry.before c.requires.later (subst (IsKeptOut (frame_in new (place - 1))) c.in_ok-cube_of.ensures out)

pub come_exactly-returns-in_ok-push-in-Path-clause-answer :
    goal.come_exactly-returns-in_ok-push-in-Path-clause-answer
come_exactly-returns-in_ok-push-in-Path-clause-answer g t c =
    let system = g.M.Machine.system c.args.machine.now in
    let room = c.args.task.now.room in
    let some : 0 < room = omega (arith, c.requires.task.room) in
    let led : IsLedInto system c.in_ok-cube_of.field-0 (room - 1 + 1) c.in-Path.path = rw c.in-Path.is at c.in_ok-block.ensures.answer in
    let P : List ℤ → Type 0 = λ cube. IsLedInto system cube (room - 1 + 1) c.in-Path.path in
    rw c.in_ok-push-in-Path.ensures.ok
    (led_whole system c.args.task.now.cube room c.args.entry c.in-Path.path c.requires.follows c.requires.inside some (subst P c.in_ok-cube_of.ensures led))

pub come_to-marked-requires : goal.come_to-marked-requires
come_to-marked-requires g t c =
    let system = g.M.Machine.system c.args.machine.now in
    rw (c.as_slice-2.ensures, c.in_ok-whole.ensures)
    (within_more system.width MOST_VARIABLES (cube_of c.args.entry.before) c.requires.ready.few (whole-IsCube system c.args.entry c.requires.entry.follows).within)

pub come_to-block-requires : goal.come_to-block-requires
come_to-block-requires g t c κs within =
    let system = g.M.Machine.system c.args.machine.now in
    let levels = c.args.frames.now in
    let place = c.args.place in
    let entry = c.args.entry in
    let task = c.args.task.now in
    let mask = is_marked c.in_ok-mask.mask in
    let later : 0 < place = omega (arith, c.if-place-eq0.false) in
    let part : c.in_ok-marked.field-0 ≡ filter mask (cube_of entry.before) = c.in_ok-marked.ensures ∙ ap (filter mask) (c.as_slice-2.ensures ∙ c.in_ok-whole.ensures) in
    let is : IsTask system levels (record { cube = filter mask (cube_of entry.before); room = task.room - 1 }) (place - 1) =
    part_task system levels task place entry mask later c.requires.task c.requires.entry.follows in
    let P : List ℤ → Type 0 = λ cube. IsTask system levels (record { cube = cube; room = task.room - 1 }) (place - 1) in
    (omega (arith, c.decreases, c.requires.task.room), (within, (c.requires.ready, subst P (sym part) is)))

pub come_to-returns-in-Out-clause-answer : goal.come_to-returns-in-Out-clause-answer
come_to-returns-in-Out-clause-answer g t c =
    let new = c.block.new.frames in
    let place = c.args.place in
    let entry = c.args.entry in
    let mask = is_marked c.in_ok-mask.mask in
    let later : 0 < place = omega (arith, c.if-place-eq0.false) in
    let part : c.in_ok-marked.field-0 ≡ filter mask (cube_of entry.before) = c.in_ok-marked.ensures ∙ ap (filter mask) (c.as_slice-2.ensures ∙ c.in_ok-whole.ensures) in
    let out : IsKeptOut (frame_in new (place - 1)) c.in_ok-marked.field-0 = rw c.in-Out.is at c.in_ok-block.ensures.answer in
    out_part new place entry.before mask later (subst (IsKeptOut (frame_in new (place - 1))) part out)

pub keep_out-before-requires : goal.keep_out-before-requires
keep_out-before-requires g t c = before_fits (g.M.Machine.system c.args.machine.now) c.loop-alloc.frames c.args.place c.loop-alloc.invariant.narrowed.ready

pub keep_out-entry-requires-clause-frame : goal.keep_out-entry-requires-clause-frame
keep_out-entry-requires-clause-frame g t c =
    rw c.in_ok-before.ensures (before_framed (g.M.Machine.system c.args.machine.now) c.loop-alloc.frames c.args.place c.loop-alloc.invariant.narrowed.ready)

pub keep_out-loop-alloc-smaller : goal.keep_out-loop-alloc-smaller
keep_out-loop-alloc-smaller g t c =
    let system = g.M.Machine.system c.args.machine.now in
    let old = c.loop-alloc.frames in
    let new = c.come_to.new.frames in
    let place = c.args.place in
    let cube = c.args.task.now.cube in
    let entry = c.in-Found.entry in
    let answer : IsEntered system c.in_ok-before.before (eqb place 0) c.as_slice.result.now c.in_ok-mask.field-0 = c.in_ok-mask.ensures.answer in
    let found : IsEntry system c.in_ok-before.before (eqb place 0) c.as_slice.result.now entry = rw c.in-Found.is at answer in
    let found : IsEntry system (frame_before old place) (eqb place 0) c.as_slice.result.now entry = rw c.in_ok-before.ensures at found in
    let missed : is_met (frame_before new place) entry.before ≡ false = rw c.in-Out.is at c.in_ok-come_to-in-Found.ensures.answer in
    left_turn system old new place (eqb place 0) c.as_slice.result.now entry c.in_ok-come_to-in-Found.ensures.narrowed found missed
