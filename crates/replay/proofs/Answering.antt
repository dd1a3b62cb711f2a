-- What is answered: the signals that it names are those of the netlist, and there are valuations that give it.
use Rattle.std.proofs.Common.{◌≡◌, ap, subst, ℕ, zero, suc, ◌+◌, ◌<◌, Bool, true, false, List, [], ◌∷◌, length, map, Option, None, Some}
use Rattle.std.specs.Prelude.{All, cond, is_none, nat_lt, slice_index_or}
use Rattle.std.specs.List.{filter, find}
use Rattle.std.specs.Option.{IfSome}
use Rattle.std.proofs.lemmas.List.{length-map}
use Rattle.std.proofs.lemmas.List.Elements.{All-append, All-filter, All-head, All-map, All-tail}
use Rattle.netlist.proofs.Driving.{free-within, latches-within, outputs-within}
use Rattle.netlist.specs.Design.{Design, free_of}
use Rattle.netlist.specs.Sound.{IsSound}
use Rattle.netlist.specs.Valuations.{IsFilled}
use Rattle.netlist.specs.declared.latch.Latch.{Latch}
use Rattle.netlist.specs.declared.table.Table.{Table}
use Rattle.psl_sugar.specs.declared.vector.Bit.{Bit}
use Rattle.replay.proofs.First.{leaves-first}
use Rattle.replay.proofs.Missing.{found-same}
use Rattle.replay.proofs.Sample.{bit-is, bits_in}
use Rattle.replay.specs.Answers.{IsReplay, Tells}
use Rattle.replay.specs.Leaving.{first_from, first_of, latch_leaves, leaves, leaving, lower, lowest, table_leaves}
use Rattle.replay.specs.ByBits.{missing_among}
use Rattle.replay.specs.Recorded.{AreComputed, first_missing, free_at, recorded, value_at}
use Rattle.replay.specs.declared.answer.Replay.{Replay}
use Rattle.vcd_reader.specs.Sampled.{Sampled}

-- the first that is missing, by the bits of all signals
pub missing-same : (design : Design) (recording : Sampled) → IsSound design → missing_among (bits_in design recording) (free_of design) ≡ first_missing design recording
missing-same design recording sound =
    found-same (λ (signal : ℕ). is_none (slice_index_or (bits_in design recording) signal None)) (λ (signal : ℕ). is_none (recorded design recording signal)) (free_of design)
    (λ place other within. ap (λ (o : Option Bit). is_none o) (bit-is design recording _ (free-within design sound place other within)))

-- ---- the signals are those of the netlist

found-within : (P : ℕ → Type 0) (test : ℕ → Bool) (members : List ℕ) (member : ℕ) → All P members → find test members ≡ Some member → P member
found-within P test [] member all found = cc
found-within P test (first ∷ members) member all found = by (test first) (λ e. found-within P test members member (All-tail P first members all) e) found
  where
    by : (b : Bool) → (find test members ≡ Some member → P member) → cond b (Some first) (find test members) ≡ Some member → P member
    by true later e = let same : first ≡ member = cc in subst P same (All-head P first members all)
    by false later e = later e

pub missing-within : (design : Design) (recording : Sampled) (signal : ℕ) → IsSound design → first_missing design recording ≡ Some signal → signal < design.signals
missing-within design recording signal sound found =
    found-within (λ (s : ℕ). s < design.signals) (λ (s : ℕ). is_none (recorded design recording s)) (free_of design) signal (free-within design sound) found

lower-within : (P : ℕ → Type 0) (old : Option ℕ) (number : ℕ) → IfSome old P → P number → IfSome (lower old number) P
lower-within P None number had is = is
lower-within P (Some other) number had is = by (nat_lt number other)
  where
    by : (b : Bool) → P (cond b number other)
    by true = is
    by false = had

lowest-within : (P : ℕ → Type 0) (old : Option ℕ) (numbers : List ℕ) → IfSome old P → All P numbers → IfSome (lowest old numbers) P
lowest-within P old [] had all = had
lowest-within P old (number ∷ numbers) had all = lowest-within P (lower old number) numbers (lower-within P old number had (All-head P number numbers all)) (All-tail P number numbers all)

leaving-within : (design : Design) (recording : Sampled) (valuations : ℕ → List Bool) (sample : ℕ) → IsSound design → All (λ signal. signal < design.signals) (leaving design recording valuations sample)
leaving-within design recording valuations sample sound =
    All-append (λ (s : ℕ). s < design.signals) (map (λ (l : Latch). l.output) (filter (latch_leaves design recording valuations sample) design.latches))
    (map (λ (t : Table). t.output) (filter (table_leaves design recording valuations sample) design.tables))
    (All-map (λ (s : ℕ). s < design.signals) (λ (l : Latch). l.output) (filter (latch_leaves design recording valuations sample) design.latches)
    (All-filter (latch_leaves design recording valuations sample) (λ (l : Latch). l.output < design.signals) design.latches (latches-within design sound)))
    (All-map (λ (s : ℕ). s < design.signals) (λ (t : Table). t.output) (filter (table_leaves design recording valuations sample) design.tables)
    (All-filter (table_leaves design recording valuations sample) (λ (t : Table). t.output < design.signals) design.tables (outputs-within design sound)))

some-pair : (one other : ℕ × ℕ) → Some one ≡ Some other → one ≡ other
some-pair one other e = cc

first-within : (P : ℕ → Type 0) (at : ℕ → List ℕ) (start count sample signal : ℕ) → ((place : ℕ) → All P (at place)) → first_from at start count ≡ Some (sample, signal) → P signal
first-within P at start zero sample signal all found = cc
first-within P at start (suc count) sample signal all found =
    by (lowest None (at start)) (lowest-within P None (at start) tt (all start)) (λ e. first-within P at (start + 1) count sample signal all e) found
  where
    by : (here : Option ℕ) → IfSome here P → (first_from at (start + 1) count ≡ Some (sample, signal) → P signal)
        → first_of start here (first_from at (start + 1) count) ≡ Some (sample, signal) → P signal
    by None has later e = later e
    by (Some other) has later e = subst P (ap (λ (pair : ℕ × ℕ). pair.1) (some-pair (start, other) (sample, signal) e)) has

pub leaves-within : (design : Design) (recording : Sampled) (valuations : ℕ → List Bool) (sample signal : ℕ) → IsSound design → leaves design recording valuations ≡ Some (sample, signal) → signal < design.signals
leaves-within design recording valuations sample signal sound found =
    first-within (λ (s : ℕ). s < design.signals) (leaving design recording valuations) 0 (length recording.samples) sample signal (λ place. leaving-within design recording valuations place sound) found

-- ---- valuations that give the answer

abbrev SomeValuation : Design → Type 0
SomeValuation design = (free : List Bool) → length free ≡ length (free_of design) → (valuation : List Bool) × IsFilled design free valuation

module _ (design : Design) (recording : Sampled) (some : SomeValuation design) where
  filled : (sample : ℕ) → (valuation : List Bool) × IsFilled design (free_at design recording sample) valuation
  filled sample = some (free_at design recording sample) (length-map (free_of design) (value_at design recording sample))

  pub computed_at : ℕ → List Bool
  computed_at sample = (filled sample).0

  pub are-computed : AreComputed design recording computed_at
  unfolding computed_at
  are-computed sample within = (filled sample).1

  pub answered : (found : Option (ℕ × ℕ)) (answer : Replay) → first_missing design recording ≡ None
      → ((valuations : ℕ → List Bool) → AreComputed design recording valuations → found ≡ leaves design recording valuations) → Tells design found answer → IsReplay design recording answer
  answered found answer none is told = record {
    none = none;
    valuations = computed_at;
    computed = are-computed;
    found = leaves design recording computed_at;
    first = leaves-first design recording computed_at;
    tells = subst (λ (f : Option (ℕ × ℕ)). Tells design f answer) (is computed_at are-computed) told;
  }
