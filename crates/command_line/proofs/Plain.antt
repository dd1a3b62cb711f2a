-- Words that `clap` reads as they stand.
use Rattle.std.proofs.Common.{◌≡◌, ◌<◌, ◌≤◌, ◌^◌, ap, refl, sym, subst, ℕ, Bool, false, true, List, [], ◌∷◌, Option, None, Some, codes, arith}
use Rattle.std.specs.Fmt.{digits}
use Rattle.std.specs.Prelude.{decimal}
use Rattle.std.specs.Str.Parse.{AllDigits}
use Rattle.std.proofs.lemmas.Fmt.{decimal_is_IsNumeral}
use Rattle.std.proofs.lemmas.Str.Parse.{digit_from_value}
use Rattle.clap.specs.Walk.{Walk}
use Rattle.clap.proofs.OnLiterals.{clap_on_literals}
use Rattle.command_line.specs.Clap.{Takes, app, given, is_true}
use Rattle.command_line.specs.Commands.{AreLimits, IsCommand, Values, most_seed}
use Rattle.command_line.specs.Commands.Meaning.{wave, gen, show, show_netlist, prove, check, replay}
use Rattle.command_line.specs.Evidences.{IsEvidence}
use Rattle.command_line.specs.Kinds.{word_of}
use Rattle.command_line.specs.Numbers.{IsGiven}
use Rattle.command_line.specs.Ranges.{AreInRange}
use Rattle.command_line.specs.Plain.{ArePlain, certificates_in, IsPlain, limits_of_covers, limits_of_depth, limits_of_progress, limits_of_reach, recordings_in, to_check, usual_limits, vectors_in, with_buses, with_depth, with_points, with_recordings, with_unknown}
use Rattle.command_line.specs.declared.Limits.{Limits}
use Rattle.command_line.specs.declared.Unknown.{Unknown}
use Rattle.command_line.specs.declared.Unknown.TheVariants.{Zero, One, Refuse}
use Rattle.command_line.specs.declared.kinds.Kind.TheVariants.{Wave, Gen, Show, Prove, Check, Replay}
use Rattle.command_line.proofs.Runs.{Runs, any_then, behind, behind_any, behind_value, ends, run_given, run_taken, shape_of, start, value_then, word_then}

-- digits do not begin with a hyphen
plain_digits : (digits : List ℕ) → AllDigits 10 digits → IsPlain digits
plain_digits [] all hyphen = omega arith
plain_digits (x ∷ xs) all hyphen = omega (arith, digit_from_value x all.0)

plain_decimal : (number : ℕ) → number < 2 ^ 64 → IsPlain (decimal number)
plain_decimal number small = plain_digits (decimal number) (decimal_is_IsNumeral number small).0.1

given_text : (least most number : ℕ) (value : Option (List ℕ)) (word : List ℕ) → value ≡ Some word → word ≡ decimal number → least ≤ number
    → number ≤ most → IsGiven least most value number
given_text least most number value word is form above below =
    subst (λ (given : Option (List ℕ)). IsGiven least most given number) (sym is) (record { form = form; above = above; below = below })

pub given_number : (least most number : ℕ) (value : Option (List ℕ)) → value ≡ Some (decimal number) → least ≤ number → number ≤ most
    → IsGiven least most value number
given_number least most number value is = given_text least most number value (decimal number) is refl

usual_depth : codes "20" ≡ decimal 20
unfolding digits
usual_depth = refl

usual_visits : codes "4" ≡ decimal 4
unfolding digits
usual_visits = refl

usual_loops : codes "1" ≡ decimal 1
unfolding digits
usual_loops = refl

usual_steps : codes "1000000" ≡ decimal 1000000
unfolding digits
usual_steps = refl

-- ---- the laws

pub plain_wave : (most : ℕ) (unit recording : List ℕ) → IsPlain unit → IsPlain recording
    → IsCommand most (codes "wave" ∷ unit ∷ recording ∷ []) (wave unit recording Zero false)
unfolding clap_on_literals app
plain_wave most a b one two =
    let words = a ∷ b ∷ [] in
    let first = behind Wave start a in
    let end = behind Wave first b in
    let run = word_then Wave start.held 1 end a (b ∷ []) one refl (word_then Wave first.held 2 end b [] two refl (ends Wave end)) in (
      record { named = refl; taken = run_taken Wave words end run refl },
      (run_given Wave words end (codes "unit") run, run_given Wave words end (codes "recording") run, run_given Wave words end (codes "unknown") run, ap is_true (run_given Wave words end (codes "where") run)),
    )

-- the words of the option do not begin with a hyphen
plain_word : (unknown : Unknown) → IsPlain (word_of unknown)
plain_word Zero hyphen = omega arith
plain_word One hyphen = omega arith
plain_word Refuse hyphen = omega arith

pub plain_unknown : (most : ℕ) (unit recording : List ℕ) (unknown : Unknown) → IsPlain unit → IsPlain recording
    → IsCommand most (with_unknown unit recording unknown) (wave unit recording unknown false)
unfolding clap_on_literals app
plain_unknown most a b unknown one two =
    let word = word_of unknown in
    let on_word = word ∷ [] in
    let on_option = codes "--unknown" ∷ on_word in
    let words = a ∷ b ∷ on_option in
    let first = behind Wave start a in
    let second = behind Wave first b in
    let third = behind_any Wave second (codes "--unknown") in
    let end = behind_value Wave third (codes "unknown") word in
    let run = word_then Wave start.held 1 end a (b ∷ on_option) one refl
    (word_then Wave first.held 2 end b on_option two refl
    (any_then Wave second end (codes "--unknown") on_word refl
    (value_then Wave third.held 3 end (codes "unknown") word [] (plain_word unknown) (ends Wave end)))) in (
      record { named = refl; taken = run_taken Wave words end run refl },
      (run_given Wave words end (codes "unit") run, run_given Wave words end (codes "recording") run, run_given Wave words end (codes "unknown") run, ap is_true (run_given Wave words end (codes "where") run)),
    )

pub plain_points : (most : ℕ) (unit recording : List ℕ) → IsPlain unit → IsPlain recording
    → IsCommand most (codes "wave" ∷ unit ∷ recording ∷ codes "--where" ∷ []) (wave unit recording Zero true)
unfolding clap_on_literals app
plain_points most a b one two =
    let words = a ∷ b ∷ codes "--where" ∷ [] in
    let first = behind Wave start a in
    let second = behind Wave first b in
    let end = behind_any Wave second (codes "--where") in
    let run = word_then Wave start.held 1 end a (b ∷ codes "--where" ∷ []) one refl
    (word_then Wave first.held 2 end b (codes "--where" ∷ []) two refl
    (any_then Wave second end (codes "--where") [] refl (ends Wave end))) in (
      record { named = refl; taken = run_taken Wave words end run refl },
      (run_given Wave words end (codes "unit") run, run_given Wave words end (codes "recording") run, run_given Wave words end (codes "unknown") run, ap is_true (run_given Wave words end (codes "where") run)),
    )

pub plain_both : (most : ℕ) (unit recording : List ℕ) (unknown : Unknown) → IsPlain unit → IsPlain recording
    → IsCommand most (with_points unit recording unknown) (wave unit recording unknown true)
unfolding clap_on_literals app
plain_both most a b unknown one two =
    let word = word_of unknown in
    let on_flag = codes "--where" ∷ [] in
    let on_word = word ∷ on_flag in
    let on_option = codes "--unknown" ∷ on_word in
    let words = a ∷ b ∷ on_option in
    let first = behind Wave start a in
    let second = behind Wave first b in
    let third = behind_any Wave second (codes "--unknown") in
    let fourth = behind_value Wave third (codes "unknown") word in
    let end = behind_any Wave fourth (codes "--where") in
    let run = word_then Wave start.held 1 end a (b ∷ on_option) one refl
    (word_then Wave first.held 2 end b on_option two refl
    (any_then Wave second end (codes "--unknown") on_word refl
    (value_then Wave third.held 3 end (codes "unknown") word on_flag (plain_word unknown)
    (any_then Wave fourth end (codes "--where") [] refl (ends Wave end))))) in (
      record { named = refl; taken = run_taken Wave words end run refl },
      (run_given Wave words end (codes "unit") run, run_given Wave words end (codes "recording") run, run_given Wave words end (codes "unknown") run, ap is_true (run_given Wave words end (codes "where") run)),
    )

pub plain_gen : (most seed samples : ℕ) → most < 2 ^ 32 → seed ≤ most_seed → 1 ≤ samples → samples ≤ most
    → IsCommand most (codes "gen" ∷ decimal seed ∷ decimal samples ∷ []) (gen seed samples)
unfolding clap_on_literals app
plain_gen most seed samples fits low some high =
    let a = decimal seed in
    let b = decimal samples in
    let words = a ∷ b ∷ [] in
    let first = behind Gen start a in
    let end = behind Gen first b in
    let run = word_then Gen start.held 1 end a (b ∷ []) (plain_decimal seed (omega arith)) refl
    (word_then Gen first.held 2 end b [] (plain_decimal samples (omega arith)) refl (ends Gen end)) in (
      record { named = refl; taken = run_taken Gen words end run refl },
      (
        given_number 0 most_seed seed _ (run_given Gen words end (codes "seed") run) (omega arith) low,
        given_number 1 most samples _ (run_given Gen words end (codes "samples") run) some high,
      ),
    )

pub plain_show : (most : ℕ) (unit names : List ℕ) → IsPlain unit → IsPlain names
    → IsCommand most (codes "show" ∷ unit ∷ names ∷ []) (show unit names)
unfolding clap_on_literals app
plain_show most a b one two =
    let words = a ∷ b ∷ [] in
    let first = behind Show start a in
    let end = behind Show first b in
    let run = word_then Show start.held 1 end a (b ∷ []) one refl (word_then Show first.held 2 end b [] two refl (ends Show end)) in (
      record { named = refl; taken = run_taken Show words end run refl },
      (run_given Show words end (codes "unit") run, run_given Show words end (codes "names") run, ap is_true (run_given Show words end (codes "netlist") run)),
    )

pub plain_netlist : (most : ℕ) (unit netlist : List ℕ) → IsPlain unit → IsPlain netlist
    → IsCommand most (codes "show" ∷ unit ∷ netlist ∷ codes "--netlist" ∷ []) (show_netlist unit netlist)
unfolding clap_on_literals app
plain_netlist most a b one two =
    let words = a ∷ b ∷ codes "--netlist" ∷ [] in
    let first = behind Show start a in
    let second = behind Show first b in
    let end = behind_any Show second (codes "--netlist") in
    let run = word_then Show start.held 1 end a (b ∷ codes "--netlist" ∷ []) one refl
    (word_then Show first.held 2 end b (codes "--netlist" ∷ []) two refl
    (any_then Show second end (codes "--netlist") [] refl (ends Show end))) in (
      record { named = refl; taken = run_taken Show words end run refl },
      (run_given Show words end (codes "unit") run, run_given Show words end (codes "names") run, ap is_true (run_given Show words end (codes "netlist") run)),
    )

-- the limits, where two of the options are not given
usual : (values : Values) (limits : Limits) → IsGiven 1 1000 (values (codes "depth")) limits.depth → values (codes "visits") ≡ Some (codes "4")
    → values (codes "steps") ≡ Some (codes "1000000") → is_true (values (codes "reach")) ≡ limits.reach
    → is_true (values (codes "covers")) ≡ limits.covers → is_true (values (codes "progress")) ≡ limits.progress
    → AreLimits values (record usual_limits { depth = limits.depth; reach = limits.reach; covers = limits.covers; progress = limits.progress })
usual values limits depth visits steps reach covers progress = record {
  depth = depth;
  visits = given_text 0 16 4 _ (codes "4") visits usual_visits (omega arith) (omega arith);
  steps = given_text 1 10000000 1000000 _ (codes "1000000") steps usual_steps (omega arith) (omega arith);
  reach = reach;
  covers = covers;
  progress = progress;
}

-- certificates alone
pub certified : (values : Values) (cert : Option (List ℕ)) → values (codes "cert") ≡ cert → values (codes "vcd") ≡ None → values (codes "loops") ≡ Some (codes "1")
    → is_true (values (codes "buses")) ≡ false → IsEvidence values (certificates_in cert)
certified values cert given none loops alone = record { cert = given; vcd = none; loops = given_text 1 16 1 _ (codes "1") loops usual_loops (omega arith) (omega arith); buses = alone }

pub plain_prove : (most : ℕ) (unit netlist : List ℕ) → IsPlain unit → IsPlain netlist
    → IsCommand most (codes "prove" ∷ unit ∷ netlist ∷ []) (prove unit netlist usual_limits (certificates_in None))
unfolding clap_on_literals app
plain_prove most a b one two =
    let words = a ∷ b ∷ [] in
    let first = behind Prove start a in
    let end = behind Prove first b in
    let run = word_then Prove start.held 1 end a (b ∷ []) one refl (word_then Prove first.held 2 end b [] two refl (ends Prove end)) in
    let depth = given_text 1 1000 20 _ (codes "20") (run_given Prove words end (codes "depth") run) usual_depth (omega arith) (omega arith) in (
      record { named = refl; taken = run_taken Prove words end run refl },
      (
        run_given Prove words end (codes "unit") run,
        run_given Prove words end (codes "netlist") run,
        usual _ usual_limits depth (run_given Prove words end (codes "visits") run) (run_given Prove words end (codes "steps") run) (ap is_true (run_given Prove words end (codes "reach") run))
            (ap is_true (run_given Prove words end (codes "covers") run)) (ap is_true (run_given Prove words end (codes "progress") run)),
        certified _ _ (run_given Prove words end (codes "cert") run) (run_given Prove words end (codes "vcd") run) (run_given Prove words end (codes "loops") run)
            (ap is_true (run_given Prove words end (codes "buses") run)),
      ),
    )

pub plain_depth : (most : ℕ) (unit netlist : List ℕ) (depth : ℕ) → IsPlain unit → IsPlain netlist → 1 ≤ depth → depth ≤ 1000
    → IsCommand most (with_depth unit netlist depth) (prove unit netlist (limits_of_depth depth) (certificates_in None))
unfolding clap_on_literals app
plain_depth most a b number one two above below =
    let words = a ∷ b ∷ codes "--depth" ∷ decimal number ∷ [] in
    let first = behind Prove start a in
    let second = behind Prove first b in
    let third = behind_any Prove second (codes "--depth") in
    let end = behind_value Prove third (codes "depth") (decimal number) in
    let run = word_then Prove start.held 1 end a (b ∷ codes "--depth" ∷ decimal number ∷ []) one refl
    (word_then Prove first.held 2 end b (codes "--depth" ∷ decimal number ∷ []) two refl
    (any_then Prove second end (codes "--depth") (decimal number ∷ []) refl
    (value_then Prove third.held 3 end (codes "depth") (decimal number) [] (plain_decimal number (omega arith)) (ends Prove end)))) in
    let depth = given_number 1 1000 number _ (run_given Prove words end (codes "depth") run) above below in (
      record { named = refl; taken = run_taken Prove words end run refl },
      (
        run_given Prove words end (codes "unit") run,
        run_given Prove words end (codes "netlist") run,
        usual _ (limits_of_depth number) depth (run_given Prove words end (codes "visits") run) (run_given Prove words end (codes "steps") run) (ap is_true (run_given Prove words end (codes "reach") run))
            (ap is_true (run_given Prove words end (codes "covers") run)) (ap is_true (run_given Prove words end (codes "progress") run)),
        certified _ _ (run_given Prove words end (codes "cert") run) (run_given Prove words end (codes "vcd") run) (run_given Prove words end (codes "loops") run)
            (ap is_true (run_given Prove words end (codes "buses") run)),
      ),
    )

pub plain_reach : (most : ℕ) (unit netlist : List ℕ) → IsPlain unit → IsPlain netlist
    → IsCommand most (codes "prove" ∷ unit ∷ netlist ∷ codes "--reach" ∷ []) (prove unit netlist limits_of_reach (certificates_in None))
unfolding clap_on_literals app
plain_reach most a b one two =
    let on_flag = codes "--reach" ∷ [] in
    let words = a ∷ b ∷ on_flag in
    let first = behind Prove start a in
    let second = behind Prove first b in
    let end = behind_any Prove second (codes "--reach") in
    let run = word_then Prove start.held 1 end a (b ∷ on_flag) one refl
    (word_then Prove first.held 2 end b on_flag two refl
    (any_then Prove second end (codes "--reach") [] refl (ends Prove end))) in
    let depth = given_text 1 1000 20 _ (codes "20") (run_given Prove words end (codes "depth") run) usual_depth (omega arith) (omega arith) in (
      record { named = refl; taken = run_taken Prove words end run refl },
      (
        run_given Prove words end (codes "unit") run,
        run_given Prove words end (codes "netlist") run,
        usual _ limits_of_reach depth (run_given Prove words end (codes "visits") run) (run_given Prove words end (codes "steps") run) (ap is_true (run_given Prove words end (codes "reach") run))
            (ap is_true (run_given Prove words end (codes "covers") run)) (ap is_true (run_given Prove words end (codes "progress") run)),
        certified _ _ (run_given Prove words end (codes "cert") run) (run_given Prove words end (codes "vcd") run) (run_given Prove words end (codes "loops") run)
            (ap is_true (run_given Prove words end (codes "buses") run)),
      ),
    )

pub plain_covers : (most : ℕ) (unit netlist : List ℕ) → IsPlain unit → IsPlain netlist
    → IsCommand most (codes "prove" ∷ unit ∷ netlist ∷ codes "--covers" ∷ []) (prove unit netlist limits_of_covers (certificates_in None))
unfolding clap_on_literals app
plain_covers most a b one two =
    let on_flag = codes "--covers" ∷ [] in
    let words = a ∷ b ∷ on_flag in
    let first = behind Prove start a in
    let second = behind Prove first b in
    let end = behind_any Prove second (codes "--covers") in
    let run = word_then Prove start.held 1 end a (b ∷ on_flag) one refl
    (word_then Prove first.held 2 end b on_flag two refl
    (any_then Prove second end (codes "--covers") [] refl (ends Prove end))) in
    let depth = given_text 1 1000 20 _ (codes "20") (run_given Prove words end (codes "depth") run) usual_depth (omega arith) (omega arith) in (
      record { named = refl; taken = run_taken Prove words end run refl },
      (
        run_given Prove words end (codes "unit") run,
        run_given Prove words end (codes "netlist") run,
        usual _ limits_of_covers depth (run_given Prove words end (codes "visits") run) (run_given Prove words end (codes "steps") run) (ap is_true (run_given Prove words end (codes "reach") run))
            (ap is_true (run_given Prove words end (codes "covers") run)) (ap is_true (run_given Prove words end (codes "progress") run)),
        certified _ _ (run_given Prove words end (codes "cert") run) (run_given Prove words end (codes "vcd") run) (run_given Prove words end (codes "loops") run)
            (ap is_true (run_given Prove words end (codes "buses") run)),
      ),
    )

pub plain_progress : (most : ℕ) (unit netlist : List ℕ) → IsPlain unit → IsPlain netlist
    → IsCommand most (codes "prove" ∷ unit ∷ netlist ∷ codes "--progress" ∷ []) (prove unit netlist limits_of_progress (certificates_in None))
unfolding clap_on_literals app
plain_progress most a b one two =
    let on_flag = codes "--progress" ∷ [] in
    let words = a ∷ b ∷ on_flag in
    let first = behind Prove start a in
    let second = behind Prove first b in
    let end = behind_any Prove second (codes "--progress") in
    let run = word_then Prove start.held 1 end a (b ∷ on_flag) one refl
    (word_then Prove first.held 2 end b on_flag two refl
    (any_then Prove second end (codes "--progress") [] refl (ends Prove end))) in
    let depth = given_text 1 1000 20 _ (codes "20") (run_given Prove words end (codes "depth") run) usual_depth (omega arith) (omega arith) in (
      record { named = refl; taken = run_taken Prove words end run refl },
      (
        run_given Prove words end (codes "unit") run,
        run_given Prove words end (codes "netlist") run,
        usual _ limits_of_progress depth (run_given Prove words end (codes "visits") run) (run_given Prove words end (codes "steps") run) (ap is_true (run_given Prove words end (codes "reach") run))
            (ap is_true (run_given Prove words end (codes "covers") run)) (ap is_true (run_given Prove words end (codes "progress") run)),
        certified _ _ (run_given Prove words end (codes "cert") run) (run_given Prove words end (codes "vcd") run) (run_given Prove words end (codes "loops") run)
            (ap is_true (run_given Prove words end (codes "buses") run)),
      ),
    )

-- all words behind `prove`, with some more at their end
abbrev pub options_then : List ℕ → List ℕ → Limits → List ℕ → List (List ℕ) → List (List ℕ)
options_then unit netlist limits prefix more =
    codes "--cert" ∷ prefix ∷ codes "--steps" ∷ decimal limits.steps ∷ codes "--visits" ∷ decimal limits.visits ∷ unit
    ∷ codes "--depth" ∷ decimal limits.depth ∷ netlist ∷ more

abbrev behind_prefix : List ℕ → Walk
behind_prefix prefix = behind_value Prove (behind_any Prove start (codes "--cert")) (codes "cert") prefix

abbrev behind_steps : Limits → List ℕ → Walk
behind_steps limits prefix =
    behind_value Prove (behind_any Prove (behind_prefix prefix) (codes "--steps")) (codes "steps") (decimal limits.steps)

abbrev behind_visits : Limits → List ℕ → Walk
behind_visits limits prefix =
    behind_value Prove (behind_any Prove (behind_steps limits prefix) (codes "--visits")) (codes "visits") (decimal limits.visits)

abbrev behind_unit : List ℕ → Limits → List ℕ → Walk
behind_unit unit limits prefix = behind Prove (behind_visits limits prefix) unit

abbrev behind_depth : List ℕ → Limits → List ℕ → Walk
behind_depth unit limits prefix =
    behind_value Prove (behind_any Prove (behind_unit unit limits prefix) (codes "--depth")) (codes "depth") (decimal limits.depth)

-- the state behind the name of the netlist
abbrev pub behind_options : List ℕ → List ℕ → Limits → List ℕ → Walk
behind_options unit netlist limits prefix = behind Prove (behind_depth unit limits prefix) netlist

pub options_run : (unit netlist prefix : List ℕ) (limits : Limits) (more : List (List ℕ)) (end : Walk) → ArePlain unit netlist prefix → AreInRange limits
    → Runs (shape_of Prove) (behind_options unit netlist limits prefix) more end
    → Runs (shape_of Prove) start (options_then unit netlist limits prefix more) end
unfolding clap_on_literals app
options_run a b prefix limits more end plain range rest =
    let steps = decimal limits.steps in
    let visits = decimal limits.visits in
    let depth = decimal limits.depth in
    let wide : limits.steps < 2 ^ 64 = let below = range.steps in omega arith in
    let some : limits.visits < 2 ^ 64 = let below = range.visits in omega arith in
    let deep : limits.depth < 2 ^ 64 = let below = range.depth in omega arith in
    let on_netlist = b ∷ more in
    let on_depth = depth ∷ on_netlist in
    let on_deep = codes "--depth" ∷ on_depth in
    let on_unit = a ∷ on_deep in
    let on_visits = visits ∷ on_unit in
    let on_visit = codes "--visits" ∷ on_visits in
    let on_steps = steps ∷ on_visit in
    let on_step = codes "--steps" ∷ on_steps in
    let on_prefix = prefix ∷ on_step in
    let w1 = behind_any Prove start (codes "--cert") in
    let w2 = behind_prefix prefix in
    let w3 = behind_any Prove w2 (codes "--steps") in
    let w4 = behind_steps limits prefix in
    let w5 = behind_any Prove w4 (codes "--visits") in
    let w6 = behind_visits limits prefix in
    let w7 = behind_unit a limits prefix in
    let w8 = behind_any Prove w7 (codes "--depth") in
    let w9 = behind_depth a limits prefix in
    any_then Prove start end (codes "--cert") on_prefix refl
    (value_then Prove w1.held 1 end (codes "cert") prefix on_step plain.2
    (any_then Prove w2 end (codes "--steps") on_steps refl
    (value_then Prove w3.held 1 end (codes "steps") steps on_visit (plain_decimal limits.steps wide)
    (any_then Prove w4 end (codes "--visits") on_visits refl
    (value_then Prove w5.held 1 end (codes "visits") visits on_unit (plain_decimal limits.visits some)
    (word_then Prove w6.held 1 end a on_deep plain.0 refl
    (any_then Prove w7 end (codes "--depth") on_depth refl
    (value_then Prove w8.held 2 end (codes "depth") depth on_netlist (plain_decimal limits.depth deep)
    (word_then Prove w9.held 2 end b more plain.1 refl rest)))))))))

pub plain_check : (most : ℕ) (unit netlist certificate : List ℕ) (number : ℕ) → ArePlain unit netlist certificate → 1 ≤ number
    → number < 2 ^ 32 → IsCommand most (to_check unit netlist number certificate) (check unit netlist number certificate)
unfolding clap_on_literals app
plain_check most a b d number plain some below =
    let c = decimal number in
    let words = a ∷ b ∷ c ∷ d ∷ [] in
    let w1 = behind Check start a in
    let w2 = behind Check w1 b in
    let w3 = behind Check w2 c in
    let end = behind Check w3 d in
    let run = word_then Check start.held 1 end a (b ∷ c ∷ d ∷ []) plain.0 refl
    (word_then Check w1.held 2 end b (c ∷ d ∷ []) plain.1 refl
    (word_then Check w2.held 3 end c (d ∷ []) (plain_decimal number (omega arith)) refl
    (word_then Check w3.held 4 end d [] plain.2 refl (ends Check end)))) in (
      record { named = refl; taken = run_taken Check words end run refl },
      (
        run_given Check words end (codes "unit") run,
        run_given Check words end (codes "netlist") run,
        given_number 1 4294967295 number _ (run_given Check words end (codes "number") run) some (omega arith),
        run_given Check words end (codes "certificate") run,
      ),
    )

-- ---- behind `--` all words are read as they stand

pub wave_behind : (most : ℕ) (unit recording : List ℕ) → IsCommand most (codes "wave" ∷ codes "--" ∷ unit ∷ recording ∷ []) (wave unit recording Zero false)
unfolding clap_on_literals Takes given app
wave_behind most unit recording = (record { named = refl; taken = refl }, (refl, refl, refl, refl))

pub show_behind : (most : ℕ) (unit names : List ℕ) → IsCommand most (codes "show" ∷ codes "--" ∷ unit ∷ names ∷ []) (show unit names)
unfolding clap_on_literals Takes given app
show_behind most unit names = (record { named = refl; taken = refl }, (refl, refl, refl))

pub plain_recordings : (most : ℕ) (unit netlist vcd : List ℕ) (loops : ℕ) → ArePlain unit netlist vcd → 1 ≤ loops → loops ≤ 16
    → IsCommand most (with_recordings unit netlist vcd loops) (prove unit netlist usual_limits (recordings_in vcd loops))
unfolding clap_on_literals app
plain_recordings most a b prefix number plain some most_loops =
    let loops = decimal number in
    let on_loop = loops ∷ [] in
    let on_loops = codes "--loops" ∷ on_loop in
    let on_prefix = prefix ∷ on_loops in
    let on_vcd = codes "--vcd" ∷ on_prefix in
    let words = a ∷ b ∷ on_vcd in
    let w1 = behind Prove start a in
    let w2 = behind Prove w1 b in
    let w3 = behind_any Prove w2 (codes "--vcd") in
    let w4 = behind_value Prove w3 (codes "vcd") prefix in
    let w5 = behind_any Prove w4 (codes "--loops") in
    let end = behind_value Prove w5 (codes "loops") loops in
    let run = word_then Prove start.held 1 end a (b ∷ on_vcd) plain.0 refl
    (word_then Prove w1.held 2 end b on_vcd plain.1 refl
    (any_then Prove w2 end (codes "--vcd") on_prefix refl
    (value_then Prove w3.held 3 end (codes "vcd") prefix on_loops plain.2
    (any_then Prove w4 end (codes "--loops") on_loop refl
    (value_then Prove w5.held 3 end (codes "loops") loops [] (plain_decimal number (omega arith)) (ends Prove end)))))) in
    let depth = given_text 1 1000 20 _ (codes "20") (run_given Prove words end (codes "depth") run) usual_depth (omega arith) (omega arith) in (
      record { named = refl; taken = run_taken Prove words end run refl },
      (
        run_given Prove words end (codes "unit") run,
        run_given Prove words end (codes "netlist") run,
        usual _ usual_limits depth (run_given Prove words end (codes "visits") run) (run_given Prove words end (codes "steps") run) (ap is_true (run_given Prove words end (codes "reach") run))
            (ap is_true (run_given Prove words end (codes "covers") run)) (ap is_true (run_given Prove words end (codes "progress") run)),
        record {
          cert = run_given Prove words end (codes "cert") run;
          vcd = run_given Prove words end (codes "vcd") run;
          loops = given_number 1 16 number _ (run_given Prove words end (codes "loops") run) some most_loops;
          buses = ap is_true (run_given Prove words end (codes "buses") run);
        },
      ),
    )

pub plain_buses : (most : ℕ) (unit netlist vcd : List ℕ) → ArePlain unit netlist vcd
    → IsCommand most (with_buses unit netlist vcd) (prove unit netlist usual_limits (vectors_in vcd))
unfolding clap_on_literals app
plain_buses most a b prefix plain =
    let on_flag = codes "--buses" ∷ [] in
    let on_prefix = prefix ∷ on_flag in
    let on_vcd = codes "--vcd" ∷ on_prefix in
    let words = a ∷ b ∷ on_vcd in
    let w1 = behind Prove start a in
    let w2 = behind Prove w1 b in
    let w3 = behind_any Prove w2 (codes "--vcd") in
    let w4 = behind_value Prove w3 (codes "vcd") prefix in
    let end = behind_any Prove w4 (codes "--buses") in
    let run = word_then Prove start.held 1 end a (b ∷ on_vcd) plain.0 refl
    (word_then Prove w1.held 2 end b on_vcd plain.1 refl
    (any_then Prove w2 end (codes "--vcd") on_prefix refl
    (value_then Prove w3.held 3 end (codes "vcd") prefix on_flag plain.2
    (any_then Prove w4 end (codes "--buses") [] refl (ends Prove end))))) in
    let depth = given_text 1 1000 20 _ (codes "20") (run_given Prove words end (codes "depth") run) usual_depth (omega arith) (omega arith) in (
      record { named = refl; taken = run_taken Prove words end run refl },
      (
        run_given Prove words end (codes "unit") run,
        run_given Prove words end (codes "netlist") run,
        usual _ usual_limits depth (run_given Prove words end (codes "visits") run) (run_given Prove words end (codes "steps") run) (ap is_true (run_given Prove words end (codes "reach") run))
            (ap is_true (run_given Prove words end (codes "covers") run)) (ap is_true (run_given Prove words end (codes "progress") run)),
        record {
          cert = run_given Prove words end (codes "cert") run;
          vcd = run_given Prove words end (codes "vcd") run;
          loops = given_text 1 16 1 _ (codes "1") (run_given Prove words end (codes "loops") run) usual_loops (omega arith) (omega arith);
          buses = ap is_true (run_given Prove words end (codes "buses") run);
        },
      ),
    )

pub plain_replay : (most : ℕ) (unit netlist recording : List ℕ) → ArePlain unit netlist recording
    → IsCommand most (codes "replay" ∷ unit ∷ netlist ∷ recording ∷ []) (replay unit netlist recording)
unfolding clap_on_literals app
plain_replay most a b c plain =
    let words = a ∷ b ∷ c ∷ [] in
    let w1 = behind Replay start a in
    let w2 = behind Replay w1 b in
    let end = behind Replay w2 c in
    let run = word_then Replay start.held 1 end a (b ∷ c ∷ []) plain.0 refl
    (word_then Replay w1.held 2 end b (c ∷ []) plain.1 refl (word_then Replay w2.held 3 end c [] plain.2 refl (ends Replay end))) in (
      record { named = refl; taken = run_taken Replay words end run refl },
      (run_given Replay words end (codes "unit") run, run_given Replay words end (codes "netlist") run, run_given Replay words end (codes "recording") run),
    )
