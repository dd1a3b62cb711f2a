use Rattle.std.proofs.Common.{◌≡◌, ◌+◌, ◌-◌, ◌∙◌, Ok, Err, List, Bool, arith}
use Rattle.std.specs.Prelude.{Result, IfOk}
use Rattle.psl_base.specs.declared.items.NoMemory.{NoMemory}
use Rattle.joint.specs.Slices.{bits_from}
use Rattle.joint.proofs.Readings.{bits-read}
use Rattle.joint.proofs.bits.read_bits.Goals as goal

same_ok : (result : Result (List Bool) NoMemory) (here there : List Bool) → here ≡ there → IfOk result (λ new. new ≡ here) → IfOk result (λ new. new ≡ there)
same_ok (Ok new) here there e is = is ∙ e
same_ok (Err fault) here there e is = tt

pub returns : goal.returns
returns c =
    let size = c.args.start + c.args.count - c.args.start in
    same_ok c.from_slice.result _ (bits_from c.args.values.now c.args.start c.args.count)
    (bits-read c.args.values.now c.args.start c.args.count size (omega arith) c.requires) c.from_slice.ensures
