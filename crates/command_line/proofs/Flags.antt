-- The options of `prove` with any of its flags.
use Rattle.std.proofs.Common.{◌≡◌, ap, refl, ℕ, Bool, false, true, List, [], ◌∷◌, Option, Some, codes, arith}
use Rattle.std.specs.Prelude.{decimal}
use Rattle.clap.specs.Walk.{Walk}
use Rattle.clap.proofs.OnLiterals.{clap_on_literals}
use Rattle.command_line.specs.Clap.{app, is_true}
use Rattle.command_line.specs.Commands.{AreLimits, IsCommand, Values}
use Rattle.command_line.specs.Commands.Meaning.{prove}
use Rattle.command_line.specs.Ranges.{AreInRange}
use Rattle.command_line.specs.Plain.{ArePlain, certificates_in, flags, with_options}
use Rattle.command_line.specs.declared.Limits.{Limits}
use Rattle.command_line.specs.declared.kinds.Kind.TheVariants.{Prove}
use Rattle.command_line.proofs.Plain.{behind_options, certified, given_number, options_run, options_then}
use Rattle.command_line.proofs.Runs.{any_then, behind_any, ends, run_given, run_taken}

-- limits in their ranges are those that their decimal forms say
limits_given : (values : Values) (limits : Limits) → AreInRange limits → values (codes "depth") ≡ Some (decimal limits.depth)
    → values (codes "visits") ≡ Some (decimal limits.visits) → values (codes "steps") ≡ Some (decimal limits.steps)
    → is_true (values (codes "reach")) ≡ limits.reach → is_true (values (codes "covers")) ≡ limits.covers
    → is_true (values (codes "progress")) ≡ limits.progress → AreLimits values limits
limits_given values limits range depth visits steps reach covers progress = record {
  depth = given_number 1 1000 limits.depth _ depth range.some_depth range.depth;
  visits = given_number 0 16 limits.visits _ visits (omega arith) range.visits;
  steps = given_number 1 10000000 limits.steps _ steps range.some_steps range.steps;
  reach = reach;
  covers = covers;
  progress = progress;
}

abbrev with_flags : Limits → Bool → Bool → Bool → Limits
with_flags limits reach covers progress = record limits { reach = reach; covers = covers; progress = progress }

-- flags have no range
range_with : (limits : Limits) (reach covers progress : Bool) → AreInRange limits → AreInRange (with_flags limits reach covers progress)
range_with limits reach covers progress range = record {
  some_depth = range.some_depth;
  depth = range.depth;
  visits = range.visits;
  some_steps = range.some_steps;
  steps = range.steps;
}

options_with : (most : ℕ) (unit netlist prefix : List ℕ) (limits : Limits) (reach covers progress : Bool) → ArePlain unit netlist prefix
    → AreInRange limits → IsCommand most (with_options unit netlist (with_flags limits reach covers progress) prefix)
    (prove unit netlist (with_flags limits reach covers progress) (certificates_in (Some prefix)))
unfolding clap_on_literals app
options_with most a b prefix limits true true true plain range =
    let words = options_then a b limits prefix (flags true true true) in
    let w0 = behind_options a b limits prefix in
    let w1 = behind_any Prove w0 (codes "--reach") in
    let w2 = behind_any Prove w1 (codes "--covers") in
    let w3 = behind_any Prove w2 (codes "--progress") in
    let end = w3 in
    let run = options_run a b prefix limits (flags true true true) end plain range (any_then Prove w0 end (codes "--reach") (codes "--covers" ∷ codes "--progress" ∷ []) refl (any_then Prove w1 end (codes "--covers") (codes "--progress" ∷ []) refl (any_then Prove w2 end (codes "--progress") [] refl (ends Prove end)))) in (
      record { named = refl; taken = run_taken Prove words end run refl },
      (
        run_given Prove words end (codes "unit") run,
        run_given Prove words end (codes "netlist") run,
        limits_given _ (with_flags limits true true true) (range_with limits true true true range) (run_given Prove words end (codes "depth") run)
            (run_given Prove words end (codes "visits") run) (run_given Prove words end (codes "steps") run)
            (ap is_true (run_given Prove words end (codes "reach") run)) (ap is_true (run_given Prove words end (codes "covers") run))
            (ap is_true (run_given Prove words end (codes "progress") run)),
        certified _ _ (run_given Prove words end (codes "cert") run) (run_given Prove words end (codes "vcd") run) (run_given Prove words end (codes "loops") run)
            (ap is_true (run_given Prove words end (codes "buses") run)),
      ),
    )
options_with most a b prefix limits true true false plain range =
    let words = options_then a b limits prefix (flags true true false) in
    let w0 = behind_options a b limits prefix in
    let w1 = behind_any Prove w0 (codes "--reach") in
    let w2 = behind_any Prove w1 (codes "--covers") in
    let end = w2 in
    let run = options_run a b prefix limits (flags true true false) end plain range (any_then Prove w0 end (codes "--reach") (codes "--covers" ∷ []) refl (any_then Prove w1 end (codes "--covers") [] refl (ends Prove end))) in (
      record { named = refl; taken = run_taken Prove words end run refl },
      (
        run_given Prove words end (codes "unit") run,
        run_given Prove words end (codes "netlist") run,
        limits_given _ (with_flags limits true true false) (range_with limits true true false range) (run_given Prove words end (codes "depth") run)
            (run_given Prove words end (codes "visits") run) (run_given Prove words end (codes "steps") run)
            (ap is_true (run_given Prove words end (codes "reach") run)) (ap is_true (run_given Prove words end (codes "covers") run))
            (ap is_true (run_given Prove words end (codes "progress") run)),
        certified _ _ (run_given Prove words end (codes "cert") run) (run_given Prove words end (codes "vcd") run) (run_given Prove words end (codes "loops") run)
            (ap is_true (run_given Prove words end (codes "buses") run)),
      ),
    )
options_with most a b prefix limits true false true plain range =
    let words = options_then a b limits prefix (flags true false true) in
    let w0 = behind_options a b limits prefix in
    let w1 = behind_any Prove w0 (codes "--reach") in
    let w2 = behind_any Prove w1 (codes "--progress") in
    let end = w2 in
    let run = options_run a b prefix limits (flags true false true) end plain range (any_then Prove w0 end (codes "--reach") (codes "--progress" ∷ []) refl (any_then Prove w1 end (codes "--progress") [] refl (ends Prove end))) in (
      record { named = refl; taken = run_taken Prove words end run refl },
      (
        run_given Prove words end (codes "unit") run,
        run_given Prove words end (codes "netlist") run,
        limits_given _ (with_flags limits true false true) (range_with limits true false true range) (run_given Prove words end (codes "depth") run)
            (run_given Prove words end (codes "visits") run) (run_given Prove words end (codes "steps") run)
            (ap is_true (run_given Prove words end (codes "reach") run)) (ap is_true (run_given Prove words end (codes "covers") run))
            (ap is_true (run_given Prove words end (codes "progress") run)),
        certified _ _ (run_given Prove words end (codes "cert") run) (run_given Prove words end (codes "vcd") run) (run_given Prove words end (codes "loops") run)
            (ap is_true (run_given Prove words end (codes "buses") run)),
      ),
    )
options_with most a b prefix limits true false false plain range =
    let words = options_then a b limits prefix (flags true false false) in
    let w0 = behind_options a b limits prefix in
    let w1 = behind_any Prove w0 (codes "--reach") in
    let end = w1 in
    let run = options_run a b prefix limits (flags true false false) end plain range (any_then Prove w0 end (codes "--reach") [] refl (ends Prove end)) in (
      record { named = refl; taken = run_taken Prove words end run refl },
      (
        run_given Prove words end (codes "unit") run,
        run_given Prove words end (codes "netlist") run,
        limits_given _ (with_flags limits true false false) (range_with limits true false false range) (run_given Prove words end (codes "depth") run)
            (run_given Prove words end (codes "visits") run) (run_given Prove words end (codes "steps") run)
            (ap is_true (run_given Prove words end (codes "reach") run)) (ap is_true (run_given Prove words end (codes "covers") run))
            (ap is_true (run_given Prove words end (codes "progress") run)),
        certified _ _ (run_given Prove words end (codes "cert") run) (run_given Prove words end (codes "vcd") run) (run_given Prove words end (codes "loops") run)
            (ap is_true (run_given Prove words end (codes "buses") run)),
      ),
    )
options_with most a b prefix limits false true true plain range =
    let words = options_then a b limits prefix (flags false true true) in
    let w0 = behind_options a b limits prefix in
    let w1 = behind_any Prove w0 (codes "--covers") in
    let w2 = behind_any Prove w1 (codes "--progress") in
    let end = w2 in
    let run = options_run a b prefix limits (flags false true true) end plain range (any_then Prove w0 end (codes "--covers") (codes "--progress" ∷ []) refl (any_then Prove w1 end (codes "--progress") [] refl (ends Prove end))) in (
      record { named = refl; taken = run_taken Prove words end run refl },
      (
        run_given Prove words end (codes "unit") run,
        run_given Prove words end (codes "netlist") run,
        limits_given _ (with_flags limits false true true) (range_with limits false true true range) (run_given Prove words end (codes "depth") run)
            (run_given Prove words end (codes "visits") run) (run_given Prove words end (codes "steps") run)
            (ap is_true (run_given Prove words end (codes "reach") run)) (ap is_true (run_given Prove words end (codes "covers") run))
            (ap is_true (run_given Prove words end (codes "progress") run)),
        certified _ _ (run_given Prove words end (codes "cert") run) (run_given Prove words end (codes "vcd") run) (run_given Prove words end (codes "loops") run)
            (ap is_true (run_given Prove words end (codes "buses") run)),
      ),
    )
options_with most a b prefix limits false true false plain range =
    let words = options_then a b limits prefix (flags false true false) in
    let w0 = behind_options a b limits prefix in
    let w1 = behind_any Prove w0 (codes "--covers") in
    let end = w1 in
    let run = options_run a b prefix limits (flags false true false) end plain range (any_then Prove w0 end (codes "--covers") [] refl (ends Prove end)) in (
      record { named = refl; taken = run_taken Prove words end run refl },
      (
        run_given Prove words end (codes "unit") run,
        run_given Prove words end (codes "netlist") run,
        limits_given _ (with_flags limits false true false) (range_with limits false true false range) (run_given Prove words end (codes "depth") run)
            (run_given Prove words end (codes "visits") run) (run_given Prove words end (codes "steps") run)
            (ap is_true (run_given Prove words end (codes "reach") run)) (ap is_true (run_given Prove words end (codes "covers") run))
            (ap is_true (run_given Prove words end (codes "progress") run)),
        certified _ _ (run_given Prove words end (codes "cert") run) (run_given Prove words end (codes "vcd") run) (run_given Prove words end (codes "loops") run)
            (ap is_true (run_given Prove words end (codes "buses") run)),
      ),
    )
options_with most a b prefix limits false false true plain range =
    let words = options_then a b limits prefix (flags false false true) in
    let w0 = behind_options a b limits prefix in
    let w1 = behind_any Prove w0 (codes "--progress") in
    let end = w1 in
    let run = options_run a b prefix limits (flags false false true) end plain range (any_then Prove w0 end (codes "--progress") [] refl (ends Prove end)) in (
      record { named = refl; taken = run_taken Prove words end run refl },
      (
        run_given Prove words end (codes "unit") run,
        run_given Prove words end (codes "netlist") run,
        limits_given _ (with_flags limits false false true) (range_with limits false false true range) (run_given Prove words end (codes "depth") run)
            (run_given Prove words end (codes "visits") run) (run_given Prove words end (codes "steps") run)
            (ap is_true (run_given Prove words end (codes "reach") run)) (ap is_true (run_given Prove words end (codes "covers") run))
            (ap is_true (run_given Prove words end (codes "progress") run)),
        certified _ _ (run_given Prove words end (codes "cert") run) (run_given Prove words end (codes "vcd") run) (run_given Prove words end (codes "loops") run)
            (ap is_true (run_given Prove words end (codes "buses") run)),
      ),
    )
options_with most a b prefix limits false false false plain range =
    let words = options_then a b limits prefix (flags false false false) in
    let w0 = behind_options a b limits prefix in
    let end = w0 in
    let run = options_run a b prefix limits (flags false false false) end plain range (ends Prove end) in (
      record { named = refl; taken = run_taken Prove words end run refl },
      (
        run_given Prove words end (codes "unit") run,
        run_given Prove words end (codes "netlist") run,
        limits_given _ (with_flags limits false false false) (range_with limits false false false range) (run_given Prove words end (codes "depth") run)
            (run_given Prove words end (codes "visits") run) (run_given Prove words end (codes "steps") run)
            (ap is_true (run_given Prove words end (codes "reach") run)) (ap is_true (run_given Prove words end (codes "covers") run))
            (ap is_true (run_given Prove words end (codes "progress") run)),
        certified _ _ (run_given Prove words end (codes "cert") run) (run_given Prove words end (codes "vcd") run) (run_given Prove words end (codes "loops") run)
            (ap is_true (run_given Prove words end (codes "buses") run)),
      ),
    )

pub plain_options : (most : ℕ) (unit netlist prefix : List ℕ) (limits : Limits) → ArePlain unit netlist prefix → AreInRange limits
    → IsCommand most (with_options unit netlist limits prefix) (prove unit netlist limits (certificates_in (Some prefix)))
plain_options most a b prefix limits plain range =
    options_with most a b prefix limits limits.reach limits.covers limits.progress plain range
