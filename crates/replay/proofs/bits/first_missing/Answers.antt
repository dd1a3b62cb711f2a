use Rattle.std.proofs.Common.{◌∙◌, sym, ℕ, None, map}
use Rattle.std.specs.Prelude.{is_none, slice_index_or}
use Rattle.netlist.proofs.Driving.{latches-within}
use Rattle.netlist.specs.declared.latch.Latch.{Latch}
use Rattle.replay.proofs.Missing.{found-more, none-more}
use Rattle.replay.proofs.bits.first_missing.Goals as goal

pub missing_latch-requires : goal.missing_latch-requires
missing_latch-requires c = rw (c.as_slice-in-None.ensures, c.latches.ensures, c.requires) (latches-within c.args.netlist.now c.soundness_law.ensures.sound)

pub returns-in-Some : goal.returns-in-Some
returns-in-Some c =
    sym (found-more (λ (signal : ℕ). is_none (slice_index_or c.args.bits.now signal None)) c.args.netlist.now.inputs (map (λ (latch : Latch). latch.output) c.args.netlist.now.latches) c.in-Some.signal
    (sym (rw (c.as_slice.ensures, c.inputs.ensures) at c.missing_input.ensures) ∙ c.in-Some.is))

pub returns-in-None : goal.returns-in-None
returns-in-None c =
    (rw (c.as_slice-in-None.ensures, c.latches.ensures) at c.missing_latch.ensures)
    ∙ sym (none-more (λ (signal : ℕ). is_none (slice_index_or c.args.bits.now signal None)) c.args.netlist.now.inputs (map (λ (latch : Latch). latch.output) c.args.netlist.now.latches)
    (sym (rw (c.as_slice.ensures, c.inputs.ensures) at c.missing_input.ensures) ∙ c.in-None.is))
