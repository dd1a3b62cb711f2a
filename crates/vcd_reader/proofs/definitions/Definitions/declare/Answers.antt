use Rattle.std.proofs.Common.{length, ap, arith}
use Rattle.vcd_reader.specs.Declarations.{Declared}
use Rattle.vcd_reader.proofs.Defining.{within_signals}
use Rattle.vcd_reader.proofs.definitions.Definitions.declare.Goals as goal

pub name-requires-clause-within : goal.name-requires-clause-within
name-requires-clause-within c =
    rw (← c.self.view_is) (within_signals c.self.inside.codes c.self.inside.signals.items c.self.inside.names c.self.inside.bits c.args.declaration.code.now c.in-Some.number c.self.invariant c.in-Some.ensures)

pub name-requires-clause-few : goal.name-requires-clause-few
name-requires-clause-few c =
    let low = within_signals c.self.inside.codes c.self.inside.signals.items c.self.inside.names c.self.inside.bits c.args.declaration.code.now c.in-Some.number c.self.invariant c.in-Some.ensures in
    let same = c.self.invariant.paired in
    let count = ap (λ (d : Declared). length d.codes) c.self.view_is in
    omega (arith, low, same, count, c.requires.few)
