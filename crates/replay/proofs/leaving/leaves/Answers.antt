use Rattle.std.proofs.Common.{◌≡◌, ◌∙◌, refl, sym, ap, ℕ, ◌+◌, ◌-◌, ◌<◌, Bool, List, Option, length, None, arith}
use Rattle.std.specs.Prelude.{All}
use Rattle.std.proofs.lemmas.List.{length-map}
use Rattle.std.proofs.lemmas.List.FromFn.{length-map-range_with_len}
use Rattle.netlist.proofs.Driving.{latches-within, outputs-within}
use Rattle.netlist.specs.Design.{free_of}
use Rattle.netlist.specs.Valuations.{bit}
use Rattle.netlist.specs.declared.latch.Latch.{Latch}
use Rattle.netlist.specs.declared.table.Table.{Table}
use Rattle.psl_sugar.specs.declared.vector.Bit.{Bit}
use Rattle.replay.proofs.Lowest.{found-first, none-next}
use Rattle.replay.proofs.Sample.{kept-length, sample-is}
use Rattle.replay.proofs.leaving.leaves.Goals as goal
use Rattle.replay.specs.Leaving.{leaving, lowest}
use Rattle.replay.specs.Recorded.{AreComputed, recorded, value_of}

pub read_values-requires-clause-hints : goal.read_values-requires-clause-hints
read_values-requires-clause-hints c =
    let many : length c.args.bits.now ≡ c.args.netlist.now.signals = ap (λ (bs : List (Option Bit)). length bs) c.requires.bits ∙ length-map-range_with_len (recorded c.args.netlist.now c.args.recording.now) 0 c.args.netlist.now.signals in
    ap (λ (hs : List ℕ). length hs) c.deref_mut.ensures.value ∙ c.loop-sample.invariant.hints ∙ sym many

pub read_values-requires-clause-room : goal.read_values-requires-clause-room
read_values-requires-clause-room c =
    let many : length c.args.bits.now ≡ c.args.netlist.now.signals = ap (λ (bs : List (Option Bit)). length bs) c.requires.bits ∙ length-map-range_with_len (recorded c.args.netlist.now c.args.recording.now) 0 c.args.netlist.now.signals in
    c.loop-sample.invariant.values ∙ sym many

pub leaving_latches-latches-requires-clause-outputs : goal.leaving_latches-latches-requires-clause-outputs
leaving_latches-latches-requires-clause-outputs c k d within =
    let many : length c.args.bits.now ≡ c.args.netlist.now.signals = ap (λ (bs : List (Option Bit)). length bs) c.requires.bits ∙ length-map-range_with_len (recorded c.args.netlist.now c.args.recording.now) 0 c.args.netlist.now.signals in
    let all : All (λ (latch : Latch). latch.output < c.args.netlist.now.signals) c.as_slice-in-loop-sample.result.now =
    rw (c.as_slice-in-loop-sample.ensures, c.latches.ensures) (latches-within c.args.netlist.now c.soundness_law.ensures.sound) in
    let long : length c.as_slice-in-loop-sample-3.result.now ≡ c.args.netlist.now.signals =
    ap (λ (vs : List Bool). length vs) (c.as_slice-in-loop-sample-3.ensures ∙ c.read_values.ensures.values) ∙ length-map c.args.bits.now (value_of c.args.recording.now c.loop-sample.sample) ∙ many in
    rw long (all k d within)

pub leaving_tables-first-requires-clause-bits : goal.leaving_tables-first-requires-clause-bits
leaving_tables-first-requires-clause-bits c k d within =
    let many : length c.args.bits.now ≡ c.args.netlist.now.signals = ap (λ (bs : List (Option Bit)). length bs) c.requires.bits ∙ length-map-range_with_len (recorded c.args.netlist.now c.args.recording.now) 0 c.args.netlist.now.signals in
    let all : All (λ (table : Table). table.output < c.args.netlist.now.signals) c.as_slice-in-loop-sample-4.result.now =
    rw (c.as_slice-in-loop-sample-4.ensures, c.tables.ensures) (outputs-within c.args.netlist.now c.soundness_law.ensures.sound) in
    rw many (all k d within)

pub leaving_tables-first-requires-clause-valuation : goal.leaving_tables-first-requires-clause-valuation
leaving_tables-first-requires-clause-valuation c k d within =
    let all : All (λ (table : Table). table.output < c.args.netlist.now.signals) c.as_slice-in-loop-sample-4.result.now =
    rw (c.as_slice-in-loop-sample-4.ensures, c.tables.ensures) (outputs-within c.args.netlist.now c.soundness_law.ensures.sound) in
    let long : length c.as_slice-in-loop-sample-5.result.now ≡ c.args.netlist.now.signals = ap (λ (vs : List Bool). length vs) c.as_slice-in-loop-sample-5.ensures ∙ c.evaluate.ensures.filled.is.size in
    rw long (all k d within)

pub leaving_tables-first-requires-clause-values : goal.leaving_tables-first-requires-clause-values
leaving_tables-first-requires-clause-values c k d within =
    let many : length c.args.bits.now ≡ c.args.netlist.now.signals = ap (λ (bs : List (Option Bit)). length bs) c.requires.bits ∙ length-map-range_with_len (recorded c.args.netlist.now c.args.recording.now) 0 c.args.netlist.now.signals in
    let all : All (λ (table : Table). table.output < c.args.netlist.now.signals) c.as_slice-in-loop-sample-4.result.now =
    rw (c.as_slice-in-loop-sample-4.ensures, c.tables.ensures) (outputs-within c.args.netlist.now c.soundness_law.ensures.sound) in
    let long : length c.as_slice-in-loop-sample-6.result.now ≡ c.args.netlist.now.signals =
    ap (λ (vs : List Bool). length vs) (c.as_slice-in-loop-sample-6.ensures ∙ c.read_values.ensures.values) ∙ length-map c.args.bits.now (value_of c.args.recording.now c.loop-sample.sample) ∙ many in
    rw long (all k d within)

pub returns-in-Some : goal.returns-in-Some
returns-in-Some c valuations computed =
    let within : c.loop-sample.sample < length c.args.recording.now.samples = omega (arith, c.loop-sample-test.true, c.samples-sample-end.ensures.count) in
    let found = sample-is c.args.netlist.now c.args.recording.now valuations c.loop-sample.sample c.args.bits.now c.read_values.new.into c.free_values.new.into c.evaluate.new.into c.loop-sample.earlier _ _ _
    c.soundness_law.ensures.sound computed within c.requires.bits c.read_values.ensures.values (rw c.as_slice.ensures at c.free_values.ensures) c.evaluate.ensures.only refl
    (c.loop-sample.invariant.before valuations computed)
    (rw (c.as_slice-in-loop-sample.ensures, c.latches.ensures, c.as_slice-in-loop-sample-2.ensures, c.as_slice-in-loop-sample-3.ensures) at c.leaving_latches-latches.ensures)
    (rw (c.as_slice-in-loop-sample-4.ensures, c.tables.ensures, c.as_slice-in-loop-sample-5.ensures, c.as_slice-in-loop-sample-6.ensures) at c.leaving_tables-first.ensures) in
    sym (found-first (leaving c.args.netlist.now c.args.recording.now valuations) c.loop-sample.sample (length c.args.recording.now.samples) c.in-Some.signal
    (c.loop-sample.invariant.none valuations computed) (found.1 ∙ c.in-Some.is) within)

pub loop-sample-preserved : goal.loop-sample-preserved
loop-sample-preserved c =
    let many : length c.args.bits.now ≡ c.args.netlist.now.signals = ap (λ (bs : List (Option Bit)). length bs) c.requires.bits ∙ length-map-range_with_len (recorded c.args.netlist.now c.args.recording.now) 0 c.args.netlist.now.signals in
    let within : c.loop-sample.sample < length c.args.recording.now.samples = omega (arith, c.loop-sample-test.true, c.samples-sample-end.ensures.count) in
    let found : (valuations : ℕ → List Bool) → AreComputed c.args.netlist.now c.args.recording.now valuations
    → (c.evaluate.new.into ≡ valuations c.loop-sample.sample) × (lowest None (leaving c.args.netlist.now c.args.recording.now valuations c.loop-sample.sample) ≡ c.leaving_tables-first.result) =
    λ valuations computed. sample-is c.args.netlist.now c.args.recording.now valuations c.loop-sample.sample c.args.bits.now c.read_values.new.into c.free_values.new.into c.evaluate.new.into c.loop-sample.earlier _ _ _
    c.soundness_law.ensures.sound computed within c.requires.bits c.read_values.ensures.values (rw c.as_slice.ensures at c.free_values.ensures) c.evaluate.ensures.only refl
    (c.loop-sample.invariant.before valuations computed)
    (rw (c.as_slice-in-loop-sample.ensures, c.latches.ensures, c.as_slice-in-loop-sample-2.ensures, c.as_slice-in-loop-sample-3.ensures) at c.leaving_latches-latches.ensures)
    (rw (c.as_slice-in-loop-sample-4.ensures, c.tables.ensures, c.as_slice-in-loop-sample-5.ensures, c.as_slice-in-loop-sample-6.ensures) at c.leaving_tables-first.ensures) in
    record {
      hints = kept-length c.loop-sample.hints.items c.read_values.new.hints c.loop-sample.hints.len c.args.netlist.now.signals c.loop-sample.hints.ok.0 c.loop-sample.invariant.hints (c.read_values.ensures.hints ∙ many);
      values = ap (λ (vs : List Bool). length vs) c.read_values.ensures.values ∙ length-map c.args.bits.now (value_of c.args.recording.now c.loop-sample.sample) ∙ many;
      free = ap (λ (vs : List Bool). length vs) c.free_values.ensures ∙ length-map (free_of c.args.netlist.now) (bit c.as_slice.result.now);
      earlier = c.evaluate.ensures.filled.is.size;
      valuation = c.loop-sample.invariant.earlier;
      none = λ valuations computed. none-next (leaving c.args.netlist.now c.args.recording.now valuations) c.loop-sample.sample (c.loop-sample.invariant.none valuations computed)
          ((found valuations computed).1 ∙ c.in_default.is);
      before = λ valuations computed some. (found valuations computed).0 ∙ ap valuations (let e : c.loop-sample.sample ≡ c.loop-sample.sample + 1 - 1 = omega arith in e);
    }
