use Rattle.std.proofs.Common.{◌≡◌, ◌∙◌, rules, arith}
use Rattle.std.proofs.lemmas.Grind.{common_steps}
use Rattle.netlist.specs.Valuations.{bit}
use Rattle.gates_cone.specs.Fed.{cone_in}
use Rattle.gates_cone.proofs.Closing.{least-from}
use Rattle.gates_cone.proofs.Feeding.{fed-least, least-same}
use Rattle.gates_cone.proofs.cone.cone_of.Goals as goal

pub returns-clause-least : goal.returns-clause-least
returns-clause-least c =
    let second : c.deref_mut-2.result.now ≡ c.keep_all.new.kept = first_of (search rules, grind (arith, common_steps)) in
    let shown : c.from_vec.result ≡ c.spread.new.kept = first_of (search rules, grind (arith, common_steps)) in
    least-from c.args.netlist.now c.args.signals.now c.signals.result c.deref_mut.result.now c.keep_all.new.kept c.deref_mut-2.result.now c.spread.new.kept c.from_vec.result
    (c.deref_mut.ensures.value ∙ c.in_ok-kept.ensures) c.in_ok-keep_all.ensures.keeps second c.in_ok-spread.ensures shown

pub returns-clause-is : goal.returns-clause-is
returns-clause-is c =
    let design = c.args.netlist.now in
    let signals = c.args.signals.now in
    λ signal below.
    least-same design signals (bit c.from_vec.result) (cone_in design signals) (returns-clause-least c) (fed-least design signals c.soundness_law.ensures.sound c.requires) signal
