use Rattle.std.proofs.Common.{◌≡◌, ◌∷◌, ◌++◌, [], ◌<◌, pos, ◌∙◌, length, get_or, arith, rules, w32}
use mir.Val.{SFits}
use Rattle.std.proofs.lemmas.Int.{to_z-of_z}
use Rattle.std.proofs.lemmas.List.Elements.{All-push}
use Rattle.gates_builder.specs.Adding.{IsOf}
use Rattle.gates_unroll.proofs.Reading.{read-more}
use Rattle.gates_unroll.proofs.tables.literals_of.Goals as goal

pub loop-signal-preserved : goal.loop-signal-preserved
loop-signal-preserved c =
    let i = c.loop-signal.signal-index in
    let signals = c.args.signals.now in
    let literals = c.args.literals.now in
    let signal = get_or signals i 0 in
    let lt : i < length signals = omega arith in
    let within : signal < length literals = c.requires.signals i 0 lt in
    let literal = get_or c.args.literals.now signal (pos 0) in
    let fits : SFits w32 (get_or c.args.literals.now (get_or c.args.signals.now c.loop-signal.signal-index 0) (pos 0)) = search rules in
    let pushed : c.push.new.self ≡ c.loop-signal.read ++ literal ∷ [] = simp to_z-of_z at c.in_ok-push.ensures.ok in
    record {
      are = λ making of. rw pushed (All-push (IsOf making) c.loop-signal.read literal (c.loop-signal.invariant.are making of) (of signal (pos 0) within));
      is = λ given. pushed ∙ read-more given signals literals i c.loop-signal.read (pos 0) lt within (c.loop-signal.invariant.is given);
    }
