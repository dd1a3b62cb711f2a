use Rattle.std.proofs.Common.{◌≡◌, ◌<◌, ◌∙◌, false, length, get_or, sym, ap}
use Rattle.std.proofs.lemmas.List.{get_or_read}
use Rattle.vcd_reader.specs.declared.signal.Signal.{Signal}
use Rattle.vcd_reader.specs.Declarations.{no_signal}
use Rattle.vcd_reader.proofs.Defining.{kept-name}
use Rattle.vcd_reader.proofs.definitions.Definitions.name.Goals as goal

pub invariant_of-self-2 : goal.invariant_of-self-2
invariant_of-self-2 c =
    let within : c.args.number < length c.self.inside.signals.items = rw (← c.self.view_is) at c.requires.within in
    let here = get_or_read c.self.inside.signals.items c.args.number c.index.result.now within c.index.ensures no_signal in
    let size : (get_or c.self.inside.signals.items c.args.number no_signal).size ≡ c.args.size = rw (← c.self.view_is) at c.requires.size in
    let read : (get_or c.self.inside.signals.items c.args.number no_signal).unread ≡ false = ap (λ (s : Signal). s.unread) (sym here) ∙ c.if-index.false in
    rw (c.in_ok-push.ensures.ok, c.in_ok-name.ensures)
    (kept-name c.self.inside.codes c.self.inside.signals.items c.self.inside.names c.self.inside.bits _ c.args.number c.args.size c.args.text.now c.self.invariant within size read)
