use Rattle.std.proofs.Common.{◌≡◌, ◌<◌, ◌+◌, ◌++◌, ◌∷◌, ◌∙◌, [], ℕ, List, Option, ap, sym, take, get_or, length, arith, None}
use Rattle.std.proofs.lemmas.List.{append_assoc, length-take-le, take_more}
use Rattle.wave_judge.specs.declared.verdict.Verdict.{Verdict}
use Rattle.commands.proofs.Settling.{line-more}
use Rattle.commands.proofs.printing.add_settled_verdicts.Goals as goal
use Rattle.commands.specs.Text.{settled_line, settled_lines, verdict_line}
use Rattle.commands.specs.declared.outcome.Settled.{Settled}

pub loop-place-preserved : goal.loop-place-preserved
loop-place-preserved c =
    let old = c.args.text.now.items in
    let place = c.loop-place.place in
    let verdicts = c.args.verdicts.now in
    let places = c.args.settled.now in
    let verdict = c.index-verdicts-place.result in
    let within : place < length verdicts = omega arith in
    let before = settled_lines (take place verdicts) places in
    let more : take (place + 1) verdicts ≡ take place verdicts ++ verdict ∷ [] =
    take_more verdicts place verdict within ∙ ap (λ (v : Verdict). take place verdicts ++ v ∷ []) (sym c.index-verdicts-place.is) in
    let count : length (take place verdicts) ≡ place = length-take-le place verdicts (omega (arith, within)) in
    let line : before ++ (verdict_line verdict ++ settled_line c.settled_at.result) ≡ settled_lines (take (place + 1) verdicts) places =
    ap (λ (o : Option Settled). before ++ (verdict_line verdict ++ settled_line o)) (c.settled_at.ensures ∙ ap (λ n. get_or places n None) (sym count))
    ∙ sym (line-more (take place verdicts) verdict places) ∙ ap (λ (l : List Verdict). settled_lines l places) (sym more) in
    c.in_ok-add_settled.ensures
    ∙ ap (λ (x : List ℕ). x ++ settled_line c.settled_at.result) (c.in_ok-add_verdict.ensures ∙ ap (λ (x : List ℕ). x ++ verdict_line verdict) c.loop-place.invariant)
    ∙ append_assoc (old ++ before) (verdict_line verdict) (settled_line c.settled_at.result)
    ∙ append_assoc old before (verdict_line verdict ++ settled_line c.settled_at.result)
    ∙ ap (λ (x : List ℕ). old ++ x) line
