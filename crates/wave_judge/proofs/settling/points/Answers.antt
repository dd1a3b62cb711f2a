use Rattle.std.proofs.Common.{◌≡◌, ◌<◌, ◌+◌, ◌++◌, ◌∷◌, [], length, get_or, take, sym, ◌∙◌, ap, subst, arith, List}
use Rattle.std.proofs.lemmas.List.{take_all, take_more}
use Rattle.std.proofs.lemmas.Option.{get_or_from_slice_get}
use Rattle.psl_tree.specs.declared.directive.Directive.{Directive}
use Rattle.vcd_reader.specs.Sampled.{letters_of}
use Rattle.wave_judge.proofs.PointLists.{points-more, same-length, verdict-at}
use Rattle.wave_judge.proofs.settling.points.Goals as goal
use Rattle.wave_judge.specs.Judged.{IsVerdict}
use Rattle.wave_judge.specs.Settled.{ArePoints}
use Rattle.wave_judge.specs.declared.verdict.Verdict.{Verdict}

pub at-requires : goal.at-requires
at-requires c = omega (arith, same-length (letters_of c.args.recording.now) c.args.unit.now c.args.verdicts.now c.requires.verdicts, ap length c.as_slice-directive-items.ensures)

pub point_of-requires-clause-verdict : goal.point_of-requires-clause-verdict
point_of-requires-clause-verdict c =
    let letters = letters_of c.args.recording.now in
    let place = c.loop-place.place in
    let within : place < length c.args.unit.now = omega (arith, ap length c.as_slice-directive-items.ensures) in
    let directive : get_or c.args.unit.now place c.directive-item.result ≡ c.directive-item.result =
    ap (λ (ds : List Directive). get_or ds place c.directive-item.result) (sym c.as_slice-directive-items.ensures) ∙ sym c.directive-item.is in
    let verdict = get_or_from_slice_get c.args.verdicts.now place c.at.result.now c.at.result.now c.at.ensures in
    subst (λ (d : Directive). IsVerdict letters d c.at.result.now) directive
    (subst (λ (v : Verdict). IsVerdict letters (get_or c.args.unit.now place c.directive-item.result) v) verdict
    (verdict-at letters c.args.unit.now c.args.verdicts.now place c.directive-item.result c.at.result.now c.requires.verdicts within))

pub loop-place-preserved : goal.loop-place-preserved
loop-place-preserved c =
    let letters = letters_of c.args.recording.now in
    let unit = c.args.unit.now in
    let verdicts = c.args.verdicts.now in
    let place = c.loop-place.place in
    let directive = c.directive-item.result in
    let verdict = c.at.result.now in
    let points = c.loop-place.points ++ c.in_ok-point_of.field-0 ∷ [] in
    let within : place < length unit = omega (arith, ap length c.as_slice-directive-items.ensures) in
    let judged : place < length verdicts = omega (arith, same-length letters unit verdicts c.requires.verdicts) in
    let here : get_or unit place directive ≡ directive =
    ap (λ (ds : List Directive). get_or ds place directive) (sym c.as_slice-directive-items.ensures) ∙ sym c.directive-item.is in
    let more : take (place + 1) unit ≡ take place unit ++ directive ∷ [] =
    take_more unit place directive within ∙ ap (λ (d : Directive). take place unit ++ d ∷ []) here in
    let further : take (place + 1) verdicts ≡ take place verdicts ++ verdict ∷ [] =
    take_more verdicts place verdict judged ∙ ap (λ (v : Verdict). take place verdicts ++ v ∷ []) (get_or_from_slice_get verdicts place verdict verdict c.at.ensures) in
    rw (c.in_ok-push.ensures.ok)
    (subst (λ (ds : List Directive). ArePoints letters ds (take (place + 1) verdicts) points) (sym more)
    (subst (λ (vs : List Verdict). ArePoints letters (take place unit ++ directive ∷ []) vs points) (sym further)
    (points-more letters (take place unit) (take place verdicts) c.loop-place.points directive verdict c.in_ok-point_of.field-0 c.loop-place.invariant c.in_ok-point_of.ensures)))

pub returns : goal.returns
returns c =
    let letters = letters_of c.args.recording.now in
    let unit = c.args.unit.now in
    let verdicts = c.args.verdicts.now in
    let place = c.loop-place.place in
    let all : take place unit ≡ unit = take_all place unit (omega (arith, ap length c.as_slice-directive-items.ensures)) in
    let every : take place verdicts ≡ verdicts = take_all place verdicts (omega (arith, ap length c.as_slice-directive-items.ensures, same-length letters unit verdicts c.requires.verdicts)) in
    subst (λ (ds : List Directive). ArePoints letters ds verdicts c.loop-place.points) all
    (subst (λ (vs : List Verdict). ArePoints letters (take place unit) vs c.loop-place.points) every c.loop-place.invariant)
