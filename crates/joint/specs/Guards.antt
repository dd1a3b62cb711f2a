-- Guards of the program as plain data, and the bits of what asks.
use Rattle.std.specs.Prelude.{ℕ, ℤ, Bool as Truth, true, false}
use Rattle.alternating_theory.specs.Obligations.{Automaton}
use Rattle.netlist.specs.Design.{Design}
use Rattle.psl_tree.specs.Trees.{boolean_of}
use Rattle.joint.specs.declared.guards.Guard as code
use Rattle.joint.specs.declared.guards.Guard.TheVariants as variants
use Rattle.joint_theory.specs.Bits.{owed_bit, pending_bit}
use Rattle.joint_theory.specs.Guards.{Guard, Always, If, IfNot}

abbrev pub guard_of : code.Guard → Guard
guard_of variants.Always = Always
guard_of (variants.If test) = If (boolean_of test.now)
guard_of (variants.IfNot test) = IfNot (boolean_of test.now)

-- whether an obligation is owed, or is pending
abbrev pub asker_bit : Design → Automaton → Truth → ℕ → ℤ
asker_bit design automaton false number = owed_bit design 0 number
asker_bit design automaton true number = pending_bit design automaton 0 number
