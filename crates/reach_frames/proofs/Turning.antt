-- One turn of keeping a cube out: the state that leads into it is kept out of the frame before, or a path leads to it.
use Rattle.std.proofs.Common.{◌≡◌, ℕ, zero, suc, ◌+◌, ◌-◌, ◌<◌, ℤ, Bool, true, false, List, [], ◌∷◌, ◌++◌, sym, ap, ◌∙◌, subst, arith}
use Rattle.std.specs.List.{filter}
use Rattle.reach_frames.specs.Bits.{is_met, is_in_cube, left}
use Rattle.reach_frames.specs.Cubes.{IsCube, cube_of}
use Rattle.reach_frames.specs.Paths.{last_of}
use Rattle.reach_frames.specs.Searches.{frame_in, frame_before, AreNarrowed, IsKeptOut, IsLedInto, IsTask}
use Rattle.reach_frames.specs.Systems.{System, IsEntry}
use Rattle.reach_frames.specs.declared.blocking.Task.{Task}
use Rattle.reach_frames.specs.declared.entry.Entry.{Entry}
use Rattle.reach_frames.specs.declared.level.KeptClause.{KeptClause}
use Rattle.reach_frames.proofs.Counts.{left_falls}
use Rattle.reach_frames.proofs.Cubes.{cube_of-IsCube, in_cube_of, part-IsCube, part_within, same_in_cube}
use Rattle.reach_frames.proofs.Leading.{last_size, led_more}

before_at : (levels : List (List KeptClause)) (place : ℕ) → 0 < place → frame_before levels place ≡ frame_in levels (place - 1)
before_at levels zero later = absurd (omega (arith, later))
before_at levels (suc place) later = let at : place ≡ suc place - 1 = omega arith in ap (frame_in levels) at

pub before_less : (system : System) (old new : List (List KeptClause)) (place : ℕ) (state : List Bool) → AreNarrowed system old new → is_met (frame_before new place) state ≡ true → is_met (frame_before old place) state ≡ true
before_less system old new zero state narrowed met = met
before_less system old new (suc place) state narrowed met = narrowed.less place state met

-- every turn leaves fewer states in the frame before
pub left_turn : (system : System) (old new : List (List KeptClause)) (place : ℕ) (initial : Bool) (cube : List ℤ) (entry : Entry) → AreNarrowed system old new → IsEntry system (frame_before old place) initial cube entry
    → is_met (frame_before new place) entry.before ≡ false → left system.width (frame_before new place) < left system.width (frame_before old place)
left_turn system old new place initial cube entry narrowed is missed =
    left_falls system.width (frame_before old place) (frame_before new place) entry.before (system.sizes entry.before entry.after is.follows).0
    (λ other met. before_less system old new place other narrowed met) is.meets missed

-- the cube of the first state of an entry
pub whole-IsCube : (system : System) (entry : Entry) → system.follows entry.before entry.after → IsCube system.width (cube_of entry.before)
whole-IsCube system entry follows = subst (λ width. IsCube width (cube_of entry.before)) (system.sizes entry.before entry.after follows).0 (cube_of-IsCube entry.before)

-- the task to lead into a part of it
pub part_task : (system : System) (levels : List (List KeptClause)) (task : Task) (place : ℕ) (entry : Entry) (p : ℤ → Bool) → 0 < place → IsTask system levels task place → system.follows entry.before entry.after
    → IsTask system levels (record { cube = filter p (cube_of entry.before); room = task.room - 1 }) (place - 1)
part_task system levels task place entry p later is follows = record {
  cube = part-IsCube system.width p (cube_of entry.before) (whole-IsCube system entry follows);
  framed = omega (arith, is.framed);
  room = omega (arith, is.room, later);
}

pub whole_task : (system : System) (levels : List (List KeptClause)) (task : Task) (place : ℕ) (entry : Entry) → 0 < place → IsTask system levels task place → system.follows entry.before entry.after
    → IsTask system levels (record { cube = cube_of entry.before; room = task.room - 1 }) (place - 1)
whole_task system levels task place entry later is follows = record {
  cube = whole-IsCube system entry follows;
  framed = omega (arith, is.framed);
  room = omega (arith, is.room, later);
}

pub out_part : (levels : List (List KeptClause)) (place : ℕ) (state : List Bool) (p : ℤ → Bool) → 0 < place → IsKeptOut (frame_in levels (place - 1)) (filter p (cube_of state)) → is_met (frame_before levels place) state ≡ false
out_part levels place state p later out =
    ap (λ clauses. is_met clauses state) (before_at levels place later) ∙ out state (part_within p (cube_of state) state (in_cube_of state))

pub out_whole : (levels : List (List KeptClause)) (place : ℕ) (state : List Bool) → 0 < place → IsKeptOut (frame_in levels (place - 1)) (cube_of state) → is_met (frame_before levels place) state ≡ false
out_whole levels place state later out =
    ap (λ clauses. is_met clauses state) (before_at levels place later) ∙ out state (in_cube_of state)

-- a path into the cube of a state ends in it
pub led_whole : (system : System) (cube : List ℤ) (room : ℕ) (entry : Entry) (path : List (List Bool)) → system.follows entry.before entry.after → is_in_cube cube entry.after ≡ true → 0 < room
    → IsLedInto system (cube_of entry.before) (room - 1 + 1) path → IsLedInto system cube (room + 1) (path ++ entry.after ∷ [])
led_whole system cube room entry path follows inside some led =
    let same : last_of path ≡ entry.before =
    same_in_cube entry.before (last_of path) (last_size system path led.led ∙ sym (system.sizes entry.before entry.after follows).0) led.inside in
    led_more system cube path entry.after (room + 1) led.led (subst (λ state. system.follows state entry.after) (sym same) follows) inside (omega (arith, led.few, some))
