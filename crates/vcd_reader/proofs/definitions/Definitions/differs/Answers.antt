use Rattle.std.proofs.Common.{ap, not, eqb, arith}
use Rattle.std.proofs.lemmas.List.{get_or_read}
use Rattle.vcd_reader.specs.declared.signal.Signal.{Signal}
use Rattle.vcd_reader.specs.Declarations.{no_signal}
use Rattle.vcd_reader.proofs.Defining.{within_signals}
use Rattle.vcd_reader.proofs.definitions.Definitions.differs.Goals as goal

pub index-requires : goal.index-requires
index-requires c =
    let low = within_signals c.self.inside.codes c.self.inside.signals.items c.self.inside.names c.self.inside.bits c.args.code.now c.in-Some.number c.self.invariant c.in-Some.ensures in
    omega (arith, low, c.self.inside.signals.ok.0)

pub returns-in-Some : goal.returns-in-Some
returns-in-Some c =
    let low = within_signals c.self.inside.codes c.self.inside.signals.items c.self.inside.names c.self.inside.bits c.args.code.now c.in-Some.number c.self.invariant c.in-Some.ensures in
    let here = get_or_read c.self.inside.signals.items c.in-Some.number c.index.result.now low c.index.ensures no_signal in
    rw (← c.self.view_is, ← c.in-Some.ensures) (ap (λ (s : Signal). not (eqb s.size c.args.size)) here)
