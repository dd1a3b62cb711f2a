-- What leaves a netlist at one sample.
use Rattle.std.proofs.Common.{◌≡◌, ◌∙◌, refl, sym, ap, subst, ℕ, zero, suc, ◌-◌, ◌<◌, Bool, false, List, [], ◌∷◌, ◌++◌, length, map, take, drop, get_or, Option, None, Some, arith}
use Rattle.std.specs.Prelude.{All, cond, is_some, slice_index_or, ◌==◌, ◌&&◌}
use Rattle.std.specs.List.{filter, range_with_len}
use Rattle.std.proofs.lemmas.Bool.{ne_eqb}
use Rattle.std.proofs.lemmas.List.{get_or-map, length-append, length-drop, take_all}
use Rattle.std.proofs.lemmas.List.Elements.{All-head, All-tail}
use Rattle.std.proofs.lemmas.List.FromFn.{get_or-map-range_with_len, length-map-range_with_len}
use Rattle.netlist.proofs.Driving.{free-within, latches-within, outputs-within}
use Rattle.netlist.specs.Design.{Design, free_of}
use Rattle.netlist.specs.Sound.{IsSound}
use Rattle.netlist.specs.Valuations.{IsFilled, bit, values}
use Rattle.netlist.specs.declared.latch.Latch.{Latch}
use Rattle.netlist.specs.declared.table.Table.{Table}
use Rattle.psl_sugar.specs.declared.vector.Bit.{Bit}
use Rattle.replay.proofs.Lowest.{lowest-append}
use Rattle.replay.specs.Leaving.{differ, differs_from, latch_leaves, leaving, lowest, output_leaves, table_leaves}
use Rattle.replay.specs.ByBits.{differs_by, leaves_by, lowest_latch, lowest_table}
use Rattle.replay.specs.Recorded.{AreComputed, free_at, recorded, value_at, value_of}
use Rattle.vcd_reader.specs.Sampled.{Sampled}

-- the bits of all signals, and their values at a sample
abbrev pub bits_in : Design → Sampled → List (Option Bit)
bits_in design recording = map (recorded design recording) (range_with_len 0 design.signals)

abbrev pub values_in : Design → Sampled → ℕ → List Bool
values_in design recording sample = map (value_of recording sample) (bits_in design recording)

pub bit-is : (design : Design) (recording : Sampled) (signal : ℕ) → signal < design.signals → slice_index_or (bits_in design recording) signal None ≡ recorded design recording signal
bit-is design recording signal within = get_or-map-range_with_len (recorded design recording) 0 design.signals signal signal None within (omega arith)

pub value-is : (design : Design) (recording : Sampled) (sample signal : ℕ) → signal < design.signals → bit (values_in design recording sample) signal ≡ value_at design recording sample signal
value-is design recording sample signal within =
    let long : signal < length (bits_in design recording) = omega (arith, within, length-map-range_with_len (recorded design recording) 0 design.signals) in
    get_or-map (value_of recording sample) (bits_in design recording) signal None false long ∙ ap (value_of recording sample) (bit-is design recording signal within)

-- the values of inputs and latches
free-from : (design : Design) (recording : Sampled) (sample : ℕ) (signals : List ℕ) → All (λ signal. signal < design.signals) signals
    → values (values_in design recording sample) signals ≡ map (value_at design recording sample) signals
free-from design recording sample [] within = refl
free-from design recording sample (signal ∷ signals) within =
    ap (λ (b : Bool). b ∷ values (values_in design recording sample) signals) (value-is design recording sample signal (All-head (λ (s : ℕ). s < design.signals) signal signals within))
    ∙ ap (λ (bs : List Bool). value_at design recording sample signal ∷ bs) (free-from design recording sample signals (All-tail (λ (s : ℕ). s < design.signals) signal signals within))

pub free-is : (design : Design) (recording : Sampled) (sample : ℕ) → All (λ signal. signal < design.signals) (free_of design) → values (values_in design recording sample) (free_of design) ≡ free_at design recording sample
free-is design recording sample within = free-from design recording sample (free_of design) within

-- ---- tests that agree on members keep the same

kept-same : {A : Type 0} (one two : A → Bool) (members : List A) → All (λ member. one member ≡ two member) members → filter one members ≡ filter two members
kept-same one two [] agree = refl
kept-same {A} one two (member ∷ members) agree =
    ap (λ (b : Bool). cond b (member ∷ filter one members) (filter one members)) (All-head (λ (m : A). one m ≡ two m) member members agree)
    ∙ ap (λ (rest : List A). cond (two member) (member ∷ rest) rest) (kept-same one two members (All-tail (λ (m : A). one m ≡ two m) member members agree))

-- ---- latches

latch-same : (design : Design) (recording : Sampled) (valuations : ℕ → List Bool) (sample : ℕ) (at_first : Bool) (earlier : List Bool) (latch : Latch) → latch.output < design.signals
    → at_first ≡ (sample == 0) → (0 < sample → earlier ≡ valuations (sample - 1)) → leaves_by at_first earlier (values_in design recording sample) latch ≡ latch_leaves design recording valuations sample latch
latch-same design recording valuations zero at_first earlier latch within first before =
    ap (λ (b : Bool). cond b (differs_from latch.init (bit (values_in design recording 0) latch.output)) (differ (bit (values_in design recording 0) latch.output) (bit earlier latch.input))) first
    ∙ ap (differs_from latch.init) (value-is design recording 0 latch.output within)
latch-same design recording valuations (suc sample) at_first earlier latch within first before =
    let later : at_first ≡ false = first ∙ ne_eqb (suc sample) 0 (λ (e : suc sample ≡ 0). omega (arith, e)) in
    let there : earlier ≡ valuations sample = before (omega arith) ∙ ap valuations (let e : suc sample - 1 ≡ sample = omega arith in e) in
    ap (λ (b : Bool). cond b (differs_from latch.init (bit (values_in design recording (suc sample)) latch.output)) (differ (bit (values_in design recording (suc sample)) latch.output) (bit earlier latch.input))) later
    ∙ ap (λ (b : Bool). differ b (bit earlier latch.input)) (value-is design recording (suc sample) latch.output within)
    ∙ ap (λ (v : List Bool). differ (value_at design recording (suc sample) latch.output) (bit v latch.input)) there

-- ---- tables

output-same : (recording : Sampled) (valuation : List Bool) (sample output : ℕ) (found : Option Bit) → (is_some found && differ (value_of recording sample found) (bit valuation output)) ≡ output_leaves recording valuation sample output found
output-same recording valuation sample output None = refl
output-same recording valuation sample output (Some found) = refl

table-same : (design : Design) (recording : Sampled) (valuations : ℕ → List Bool) (sample : ℕ) (valuation : List Bool) (table : Table) → table.output < design.signals → valuation ≡ valuations sample
    → differs_by (bits_in design recording) valuation (values_in design recording sample) table ≡ table_leaves design recording valuations sample table
table-same design recording valuations sample valuation table within there =
    ap (λ (b : Option Bit). is_some b && differ (bit (values_in design recording sample) table.output) (bit valuation table.output)) (bit-is design recording table.output within)
    ∙ ap (λ (b : Bool). is_some (recorded design recording table.output) && differ b (bit valuation table.output)) (value-is design recording sample table.output within)
    ∙ ap (λ (v : List Bool). is_some (recorded design recording table.output) && differ (value_at design recording sample table.output) (bit v table.output)) there
    ∙ output-same recording (valuations sample) sample table.output (recorded design recording table.output)

-- ---- the lowest signal that leaves

pub lowest-is : (design : Design) (recording : Sampled) (valuations : ℕ → List Bool) (sample : ℕ) (at_first : Bool) (earlier valuation : List Bool) → IsSound design
    → at_first ≡ (sample == 0) → (0 < sample → earlier ≡ valuations (sample - 1)) → valuation ≡ valuations sample
    → lowest_table design.tables (lowest_latch design.latches at_first earlier (values_in design recording sample)) (bits_in design recording) valuation (values_in design recording sample)
    ≡ lowest None (leaving design recording valuations sample)
lowest-is design recording valuations sample at_first earlier valuation sound first before there =
    let vs = values_in design recording sample in
    let bs = bits_in design recording in
    let of_latches : filter (leaves_by at_first earlier vs) design.latches ≡ filter (latch_leaves design recording valuations sample) design.latches =
    kept-same (leaves_by at_first earlier vs) (latch_leaves design recording valuations sample) design.latches
    (λ place other lt. latch-same design recording valuations sample at_first earlier (get_or design.latches place other) (latches-within design sound place other lt) first before) in
    let of_tables : filter (differs_by bs valuation vs) design.tables ≡ filter (table_leaves design recording valuations sample) design.tables =
    kept-same (differs_by bs valuation vs) (table_leaves design recording valuations sample) design.tables
    (λ place other lt. table-same design recording valuations sample valuation (get_or design.tables place other) (outputs-within design sound place other lt) there) in
    ap (λ (ts : List Table). lowest (lowest_latch design.latches at_first earlier vs) (map (λ (t : Table). t.output) ts)) of_tables
    ∙ ap (λ (ls : List Latch). lowest (lowest None (map (λ (l : Latch). l.output) ls)) (map (λ (t : Table). t.output) (filter (table_leaves design recording valuations sample) design.tables))) of_latches
    ∙ sym (lowest-append None (map (λ (l : Latch). l.output) (filter (latch_leaves design recording valuations sample) design.latches)) (map (λ (t : Table). t.output) (filter (table_leaves design recording valuations sample) design.tables)))

-- ---- the lowest signal that leaves, by what was read and computed

module _ (design : Design) (recording : Sampled) (valuations : ℕ → List Bool) (sample : ℕ) (bits : List (Option Bit)) (read free valuation earlier : List Bool) (at_first : Bool)
    (latches first : Option ℕ) where
  pub sample-is : IsSound design → AreComputed design recording valuations → sample < length recording.samples → bits ≡ bits_in design recording
      → read ≡ map (value_of recording sample) bits → free ≡ values read (free_of design) → ((other : List Bool) → IsFilled design free other → other ≡ valuation)
      → at_first ≡ (sample == 0) → (0 < sample → earlier ≡ valuations (sample - 1)) → latches ≡ lowest_latch design.latches at_first earlier read
      → first ≡ lowest_table design.tables latches bits valuation read → (valuation ≡ valuations sample) × (lowest None (leaving design recording valuations sample) ≡ first)
  sample-is sound computed within of_bits of_read of_free only of_first of_earlier of_latches of_tables =
      let values_are : read ≡ values_in design recording sample = of_read ∙ ap (λ (bs : List (Option Bit)). map (value_of recording sample) bs) of_bits in
      let free_are : free_at design recording sample ≡ free = sym (free-is design recording sample (free-within design sound)) ∙ ap (λ (vs : List Bool). values vs (free_of design)) (sym values_are) ∙ sym of_free in
      let there : valuation ≡ valuations sample = sym (only (valuations sample) (subst (λ (fs : List Bool). IsFilled design fs (valuations sample)) free_are (computed sample within))) in (
        there,
        sym (of_tables
            ∙ ap (λ (l : Option ℕ). lowest_table design.tables l bits valuation read) of_latches
            ∙ ap (λ (bs : List (Option Bit)). lowest_table design.tables (lowest_latch design.latches at_first earlier read) bs valuation read) of_bits
            ∙ ap (λ (vs : List Bool). lowest_table design.tables (lowest_latch design.latches at_first earlier vs) (bits_in design recording) valuation vs) values_are
            ∙ lowest-is design recording valuations sample at_first earlier valuation sound of_first of_earlier there),
      )

-- hints that were written over keep their number
pub kept-length : (old new : List ℕ) (len signals : ℕ) → len ≡ length old → length old ≡ signals → length new ≡ signals → length (take len (new ++ drop (length new) old)) ≡ signals
kept-length old new len signals held long same =
    let all : length (new ++ drop (length new) old) ≡ signals = omega (arith, length-append new (drop (length new) old), length-drop (length new) old, long, same) in
    ap (λ (hints : List ℕ). length hints) (take_all len (new ++ drop (length new) old) (omega (arith, held, long, all))) ∙ all
