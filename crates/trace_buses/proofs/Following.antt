-- The trace with buses is read as its values, and is a path of its netlist.
use Rattle.std.proofs.Common.{◌≡◌, ◌∙◌, refl, sym, ap, subst, ℕ, zero, suc, ◌+◌, ◌-◌, ◌<◌, ◌≤◌, Bool, true, false, List, ◌∷◌, length, map, Option, None, Some, Ok, arith, inl, inr}
use Rattle.std.specs.Prelude.{cond, nat_le, nat_lt, slice_index}
use Rattle.std.specs.List.{range_with_len}
use Rattle.std.proofs.Math.ListN.{get_or-eq_default}
use Rattle.std.proofs.lemmas.Bool.{and_parts, cases_lt, eqb-true, ltb-true}
use Rattle.std.proofs.lemmas.List.FromFn.{length-map-range_with_len}
use Rattle.netlist.specs.Design.{Design}
use Rattle.netlist.specs.Runs.{IsMade}
use Rattle.netlist.specs.Valuations.{bit}
use Rattle.netlist.specs.declared.run.Run.{Run}
use Rattle.psl_sugar.specs.declared.vector.Bit.{Bit}
use Rattle.replay.proofs.Paths.{Follows, trace-follows}
use Rattle.replay.specs.Paths.{HasPlainNames}
use Rattle.replay.specs.Recorded.{bit_named, value_of}
use Rattle.trace.proofs.Singles.{says-same}
use Rattle.trace.proofs.VectorSamples.{vector-bit, vectors-read}
use Rattle.trace.specs.Trace.{count_of, first_text, valuation_in}
use Rattle.trace.specs.Vectors.{all_given, bits_in, no_vector, single, singles, vector_at, vector_names, vector_words, vectors_sampled}
use Rattle.trace.specs.Words.{HasWords}
use Rattle.trace.specs.declared.vectors.Vector.{Vector}
use Rattle.trace_buses.proofs.Joined.{chosen-are, chosen-bits, named-all, named-first, words-are}
use Rattle.trace_buses.specs.Buses.{alone, buses_sampled, buses_text, carries, first_names, found_kept, is_carried, is_exact, name_text, vectors_in, vectors_with}
use Rattle.trace_buses.proofs.Ranges.{each-of}
use Rattle.vcd_reader.specs.Declarations.{bits_most}
use Rattle.vcd_reader.specs.Meaning.{reading}
use Rattle.vcd_reader.specs.Rules.{sample_limit}
use Rattle.vcd_reader.specs.declared.unknown.Unknown.{Unknown}
use Rattle.vcd_reader.specs.declared.unknown.Unknown.TheVariants.{Zero}

-- ---- reading

pub buses-read : (unknown : Unknown) (design : Design) (run : Run) (loops : ℕ) → HasWords design → design.signals ≤ bits_most → count_of run loops ≤ sample_limit
    → reading unknown (buses_text design run loops) ≡ Ok (buses_sampled unknown design run loops)
buses-read unknown design run loops words few short =
    let names = first_names design in
    let low = chosen-bits names in
    vectors-read unknown (vectors_in design) run loops (chosen-are names (words-are design words)) (omega (arith, low, few, named-all design)) short

-- ---- what is carried

-- a signal is found where its values are
abbrev FindsAt : List Vector → Run → ℕ → ℕ → Bit → Type 0
FindsAt vectors run loops signal found =
    (sample : ℕ) → sample < count_of run loops → value_of (vectors_sampled Zero vectors run loops) sample (Some found) ≡ bit (valuation_in run sample) signal

carried-at : (vectors : List Vector) (run : Run) (loops signal : ℕ) (found : Bit) → carries vectors signal (Some found) ≡ true → FindsAt vectors run loops signal found
carried-at vectors run loops signal found is sample here =
    let signals = (vector_at vectors found.signal).signals in
    let parts = and_parts (nat_lt found.place (length signals)) _ is in
    let inside = ltb-true found.place (length signals) parts.0 in
    elim (cases_lt found.signal (length vectors)) [
      | inl within ↦
          vector-bit vectors run loops sample found.signal found.place here within inside
          ∙ ap (bit (valuation_in run sample)) (eqb-true (slice_index signals (length signals - 1 - found.place)) signal parts.1)
      | inr past ↦
          let none : vector_at vectors found.signal ≡ no_vector = get_or-eq_default vectors no_vector past in
          let empty : length signals ≡ 0 = ap (λ (v : Vector). length v.signals) none in
          absurd (omega (arith, inside, empty))
    ]

carried-is : (vectors : List Vector) (run : Run) (loops signal : ℕ) (found : Option Bit) → carries vectors signal found ≡ true → (bit : Bit) × (found ≡ Some bit) × FindsAt vectors run loops signal bit
carried-is vectors run loops signal None is = cc
carried-is vectors run loops signal (Some found) is = (found, refl, carried-at vectors run loops signal found is)

exact-follows : (design : Design) (vectors : List Vector) (run : Run) (loops : ℕ) → is_exact (first_names design) vectors ≡ true → Follows design run loops (vectors_sampled Zero vectors run loops)
exact-follows design vectors run loops exact =
    let names = first_names design in
    let all = (and_parts (nat_le (bits_in vectors) (length names)) _ exact).1 in
    record {
      count = length-map-range_with_len (λ (sample : ℕ). all_given (vector_words vectors (valuation_in run sample))) 0 (count_of run loops);
      each = λ signal within.
          let carried = each-of (is_carried names vectors) 0 (length names) signal all (omega arith) (omega (arith, within, named-all design)) in
          let found = carried-is vectors run loops signal (bit_named (vector_names vectors) (name_text names signal)) carried in
          (found.0, ap (bit_named (vector_names vectors)) (sym (named-first design signal within)) ∙ found.1, found.2);
    }

-- ---- signals alone

map-same : (f g : ℕ → Vector) (first count : ℕ) → ((number : ℕ) → number < first + count → f number ≡ g number) → map f (range_with_len first count) ≡ map g (range_with_len first count)
map-same f g first zero same = refl
map-same f g first (suc count) same =
    ap (λ (front : Vector). front ∷ map f (range_with_len (first + 1) count)) (same first (omega arith))
    ∙ ap (λ (rest : List Vector). g first ∷ rest) (map-same f g (first + 1) count (λ number within. same number (omega (arith, within))))

alone-is : (design : Design) → alone (first_names design) ≡ singles design
alone-is design =
    ap (λ (n : ℕ). map (λ (signal : ℕ). single (name_text (first_names design) signal) signal) (range_with_len 0 n)) (named-all design)
    ∙ map-same (λ (signal : ℕ). single (name_text (first_names design) signal) signal) (λ (signal : ℕ). single (first_text design.names signal) signal) 0 design.signals
    (λ signal within. ap (λ (text : List ℕ). single text signal) (named-first design signal (omega (arith, within))))

alone-follows : (design : Design) (run : Run) (loops : ℕ) → IsMade design run → HasPlainNames design → Follows design run loops (vectors_sampled Zero (alone (first_names design)) run loops)
alone-follows design run loops is plain =
    subst (Follows design run loops) (sym (ap (λ (vectors : List Vector). vectors_sampled Zero vectors run loops) (alone-is design) ∙ says-same Zero design run loops is)) (trace-follows design run loops plain)

-- ---- the trace with buses

pub buses-follow : (design : Design) (run : Run) (loops : ℕ) → IsMade design run → HasPlainNames design → Follows design run loops (buses_sampled Zero design run loops)
buses-follow design run loops is plain = by (vectors_with (first_names design) (found_kept (first_names design))) (is_exact (first_names design) (vectors_with (first_names design) (found_kept (first_names design)))) refl
  where
    by : (vectors : List Vector) (b : Bool) → is_exact (first_names design) vectors ≡ b → Follows design run loops (vectors_sampled Zero (cond b vectors (alone (first_names design))) run loops)
    by vectors true e = exact-follows design vectors run loops e
    by vectors false e = alone-follows design run loops is plain
