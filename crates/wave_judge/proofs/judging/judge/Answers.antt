use Rattle.std.proofs.Common.{◌≡◌, ◌<◌, ◌+◌, ◌++◌, ◌∷◌, [], length, take, sym, ◌∙◌, ap, subst, arith, List}
use Rattle.std.proofs.lemmas.List.{take_more}
use Rattle.std.proofs.lemmas.List.Elements.{All-more}
use Rattle.psl_tree.specs.declared.directive.Directive.{Directive}
use Rattle.vcd_reader.specs.Sampled.{letters_of}
use Rattle.wave_judge.proofs.Verdicts.{verdicts-more}
use Rattle.wave_judge.proofs.judging.judge.Goals as goal
use Rattle.wave_judge.specs.Faults.{IsJudgeable}
use Rattle.wave_judge.specs.Judged.{AreVerdicts}

pub loop-directive-preserved : goal.loop-directive-preserved
loop-directive-preserved c =
    let items = c.as_slice-directive-items.result.now in
    let within : c.loop-directive.directive-index < length items = omega arith in
    let more : take (c.loop-directive.directive-index + 1) items ≡ take c.loop-directive.directive-index items ++ c.directive-item.result ∷ [] =
    take_more items c.loop-directive.directive-index c.directive-item.result within
    ∙ ap (λ d. take c.loop-directive.directive-index items ++ d ∷ []) (sym c.directive-item.is) in
    record {
      verdicts = rw (c.in_ok-push.ensures.ok)
          (subst (λ (ds : List Directive). AreVerdicts (letters_of c.args.recording.now) ds (c.loop-directive.verdicts ++ c.in_ok-judge_one.field-0 ∷ [])) (sym more)
          (verdicts-more (letters_of c.args.recording.now) (take c.loop-directive.directive-index items) c.loop-directive.verdicts
          c.directive-item.result c.in_ok-judge_one.field-0 c.loop-directive.invariant.verdicts c.in_ok-judge_one.ensures.verdict));
      judgeable = All-more IsJudgeable items c.loop-directive.directive-index c.directive-item.result within c.loop-directive.invariant.judgeable
          (subst IsJudgeable c.directive-item.is c.in_ok-judge_one.ensures.judgeable);
    }
