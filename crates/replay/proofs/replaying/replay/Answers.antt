use Rattle.std.proofs.Common.{◌≡◌, ◌∙◌, refl, sym, ap, ℕ, List, Option, length, None, Some}
use Rattle.std.proofs.lemmas.List.FromFn.{length-map-range_with_len}
use Rattle.psl_sugar.specs.declared.vector.Bit.{Bit}
use Rattle.replay.proofs.Answering.{answered, are-computed, computed_at, leaves-within, missing-same, missing-within}
use Rattle.replay.proofs.replaying.replay.Goals as goal
use Rattle.replay.specs.Recorded.{first_missing, recorded}
use Rattle.replay.specs.declared.answer.Replay.TheVariants as replays

pub first_missing-requires : goal.first_missing-requires
first_missing-requires c =
    ap (λ (bs : List (Option Bit)). length bs) (c.deref-2.ensures.value ∙ c.in_ok-bits.ensures.bits) ∙ length-map-range_with_len (recorded c.args.netlist.now c.args.recording.now) 0 c.args.netlist.now.signals

pub first_text-requires-clause-signal : goal.first_text-requires-clause-signal
first_text-requires-clause-signal c =
    let missing : first_missing c.args.netlist.now c.args.recording.now ≡ Some c.in-Some.signal =
    sym (missing-same c.args.netlist.now c.args.recording.now c.soundness_law.ensures.sound) ∙ sym (rw (c.deref-2.ensures.value, c.in_ok-bits.ensures.bits) at c.first_missing.ensures) ∙ c.in-Some.is in
    let long : length c.deref-in-Some.result.now ≡ c.args.netlist.now.signals = ap (λ (ns : List ℕ). length ns) c.deref-in-Some.ensures.value ∙ c.in_ok-first.ensures.length ∙ c.signals.ensures in
    rw long (missing-within c.args.netlist.now c.args.recording.now c.in-Some.signal c.soundness_law.ensures.sound missing)

pub returns-in-Some-clause-missing : goal.returns-in-Some-clause-missing
returns-in-Some-clause-missing c = (
  c.in-Some.signal,
  sym (missing-same c.args.netlist.now c.args.recording.now c.soundness_law.ensures.sound) ∙ sym (rw (c.deref-2.ensures.value, c.in_ok-bits.ensures.bits) at c.first_missing.ensures) ∙ c.in-Some.is,
  c.in_ok-name.ensures ∙ (rw (c.as_slice-names.ensures, c.names.ensures.names) at c.first_text.ensures),
)

pub leaves-requires-clause-in_range : goal.leaves-requires-clause-in_range
leaves-requires-clause-in_range c = rw c.deref-3.ensures.value c.in_ok-bits.ensures.in_range

pub first_text-requires-in-Some-2-clause-signal : goal.first_text-requires-in-Some-2-clause-signal
first_text-requires-in-Some-2-clause-signal c =
    let valuations = computed_at c.args.netlist.now c.args.recording.now c.one_valuation_law.ensures.some in
    let found = sym (c.in_ok-sample.ensures valuations (are-computed c.args.netlist.now c.args.recording.now c.one_valuation_law.ensures.some)) ∙ c.in-Some-2.is in
    let long : length c.deref-in-Some-2.result.now ≡ c.args.netlist.now.signals = ap (λ (ns : List ℕ). length ns) c.deref-in-Some-2.ensures.value ∙ c.in_ok-first.ensures.length ∙ c.signals.ensures in
    rw long (leaves-within c.args.netlist.now c.args.recording.now valuations c.in-Some-2.sample c.in-Some-2.signal c.soundness_law.ensures.sound found)

pub returns-in-Some-2-clause-answer : goal.returns-in-Some-2-clause-answer
returns-in-Some-2-clause-answer c =
    answered c.args.netlist.now c.args.recording.now c.one_valuation_law.ensures.some (Some (c.in-Some-2.sample, c.in-Some-2.signal)) _
    (sym (missing-same c.args.netlist.now c.args.recording.now c.soundness_law.ensures.sound) ∙ sym (rw (c.deref-2.ensures.value, c.in_ok-bits.ensures.bits) at c.first_missing.ensures) ∙ c.in_default.is)
    (λ valuations computed. sym c.in-Some-2.is ∙ c.in_ok-sample.ensures valuations computed)
    (ap (λ (name : List ℕ). replays.Leaves c.in-Some-2.sample c.in-Some-2.signal name)
    (c.in_ok-name-in-Some-2.ensures ∙ (rw (c.as_slice-names.ensures, c.names.ensures.names) at c.first_text-in-Some-2.ensures)))

pub returns-clause-answer : goal.returns-clause-answer
returns-clause-answer c =
    answered c.args.netlist.now c.args.recording.now c.one_valuation_law.ensures.some None replays.Path
    (sym (missing-same c.args.netlist.now c.args.recording.now c.soundness_law.ensures.sound) ∙ sym (rw (c.deref-2.ensures.value, c.in_ok-bits.ensures.bits) at c.first_missing.ensures) ∙ c.in_default.is)
    (λ valuations computed. sym c.in-None.is ∙ c.in_ok-sample.ensures valuations computed) refl
