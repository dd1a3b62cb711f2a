use Rattle.std.proofs.Common.{◌≡◌, ◌∙◌, ◌<◌, ◌++◌, ◌∷◌, [], pos, Bool, List, map, take, length, get_or, sym, ap, rules, arith, to_z, of_z, w32}
use mir.Val.{SFits}
use Rattle.std.proofs.lemmas.Int.{to_z-of_z}
use Rattle.std.proofs.lemmas.List.{map-append, take_more}
use Rattle.clauses.specs.Models.{is_true}
use Rattle.gates_frames.specs.Frames.{literal_at}
use Rattle.gates_nodes.specs.Nodes.{no}
use Rattle.run_terms.specs.Formulas.{values_of}
use Rattle.bounded.proofs.Wholes.{there}
use Rattle.bounded.proofs.runs.values_in.Goals as goal

pub loop-i-preserved : goal.loop-i-preserved
loop-i-preserved c =
    let values = values_of c.args.values.now in
    let frame = c.args.frame.now in
    let signals = c.args.signals.now in
    let i = c.loop-i.i in
    let s = get_or signals i 0 in
    let v = c.value_of.result in
    let low : i < length signals = omega arith in
    let inside : s < length frame = c.requires.within i 0 low in
    let fits : SFits w32 (get_or c.args.frame.now (get_or c.args.signals.now c.loop-i.i 0) (pos 0)) = search rules in
    let literal : to_z w32 (of_z w32 (get_or frame s (pos 0))) ≡ literal_at 0 frame s = rw to_z-of_z (there frame s (pos 0) (no 0) inside) in
    let is : v ≡ is_true values (literal_at 0 frame s) = c.value_of.ensures ∙ ap (is_true values) literal in
    c.in_ok-push.ensures.ok ∙ ap (λ (l : List Bool). l ++ v ∷ []) c.loop-i.invariant ∙ ap (λ b. map (λ signal. is_true values (literal_at 0 frame signal)) (take i signals) ++ b ∷ []) is
    ∙ sym (ap (map (λ signal. is_true values (literal_at 0 frame signal))) (take_more signals i 0 low) ∙ map-append (λ signal. is_true values (literal_at 0 frame signal)) (take i signals) (s ∷ []))
