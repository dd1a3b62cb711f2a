-- The places of a run.
use Rattle.std.proofs.Common.{subst, ◌≡◌, ℕ, suc, ◌+◌, ◌<◌, Bool, List, [], ◌++◌, length, take, get_or, ◌∙◌, arith, length-append}
use Rattle.std.specs.Prelude.{All}
use Rattle.std.proofs.lemmas.List.{length-take-le, get_or_append_left, get_or-append-add, get_or_default}
use Rattle.std.proofs.lemmas.List.Elements.{All-append, All-take}
use Rattle.netlist.specs.Design.{Design}
use Rattle.netlist.specs.Valuations.{Begin, IsValuation}
use Rattle.netlist.specs.Runs.{walk_of, valuation_at, AreSized, IsMade, IsRun, Moves}
use Rattle.netlist.specs.declared.run.Run.{Run}

-- the first valuation of the loop comes twice
pub length-walk : (run : Run) → 0 < length run.loop_part → length (walk_of run) ≡ length run.stem + length run.loop_part + 1
length-walk run loops =
    omega (arith, length-append (run.stem ++ run.loop_part) (take 1 run.loop_part), length-append run.stem run.loop_part, length-take-le 1 run.loop_part loops)

-- what holds of the valuations of stem and loop holds at each place
pub all-places : (P : List Bool → Type 0) (run : Run) → All P run.stem → All P run.loop_part → (place : ℕ) → place < length (walk_of run) → P (valuation_at run place)
all-places P run stem looped place within =
    All-append P (run.stem ++ run.loop_part) (take 1 run.loop_part) (All-append P run.stem run.loop_part stem looped) (All-take P 1 run.loop_part looped) place [] within

-- a run by its parts
pub run-from : (design : Design) (run : Run) → IsMade design run
    → Begin design.latches (valuation_at run 0) → Moves design run → IsRun design run
run-from design run made begins moves =
    let at = all-places (IsValuation design) run made.stem made.looped in
    let size = length-walk run made.loops in
    record {
      loops = made.loops;
      begins = record { valuation = at 0 (omega (arith, made.loops)); latches = begins };
      steps = λ place within. record { before = at place (omega arith); after = at (suc place) within; latches = moves place within };
    }

-- the valuations of stem and loop as places
at-stem : (run : Run) (place : ℕ) → place < length run.stem → (other : List Bool) → valuation_at run place ≡ get_or run.stem place other
at-stem run place within other =
    let longer = length-append run.stem run.loop_part in
    get_or_append_left (run.stem ++ run.loop_part) (take 1 run.loop_part) [] place (omega arith)
    ∙ get_or_append_left run.stem run.loop_part [] place within
    ∙ get_or_default run.stem place [] other within

at-loop : (run : Run) (place : ℕ) → place < length run.loop_part → (other : List Bool) → valuation_at run (length run.stem + place) ≡ get_or run.loop_part place other
at-loop run place within other =
    let longer = length-append run.stem run.loop_part in
    get_or_append_left (run.stem ++ run.loop_part) (take 1 run.loop_part) [] (length run.stem + place) (omega arith)
    ∙ get_or-append-add run.stem run.loop_part place []
    ∙ get_or_default run.loop_part place [] other within

pub run-made : (design : Design) (run : Run) → IsRun design run → IsMade design run
run-made design run is =
    let size = length-walk run is.loops in
    let loops = is.loops in
    record {
      loops = loops;
      stem = λ place other within. subst (IsValuation design) (at-stem run place within other) (is.steps place (omega arith)).before;
      looped = λ place other within. subst (IsValuation design) (at-loop run place within other) (is.steps (length run.stem + place) (omega arith)).before;
    }

pub run-begins : (design : Design) (run : Run) → IsRun design run → Begin design.latches (valuation_at run 0)
run-begins design run is = is.begins.latches

pub run-moves : (design : Design) (run : Run) → IsRun design run → Moves design run
run-moves design run is place within = (is.steps place within).latches

pub sizes : (design : Design) (run : Run) → IsMade design run → AreSized design run
sizes design run made place within = (all-places (IsValuation design) run made.stem made.looped place within).size

pub first-within : (design : Design) (run : Run) → IsMade design run → 0 < length (walk_of run)
first-within design run made = omega (arith, length-walk run made.loops)
