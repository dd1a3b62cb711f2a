use Rattle.std.proofs.Common.{◌∙◌, ap}
use Rattle.blif_model.specs.Known.{Known}
use Rattle.blif_model.proofs.Keeping.{kept-over}
use Rattle.blif_model.proofs.file_reader.FileReader.end.Goals as goal

pub invariant_of-result : goal.invariant_of-result
invariant_of-result c =
    let inside = c.self.inside in
    let kept = c.self.invariant in
    kept-over inside.own.named.whole c.new.result.named.whole inside.earlier c.push.new.self _ c.new-2.result c.new-3.result
    (ap (λ (known : Known). known.named.whole) c.new.ensures ∙ c.whole-whole.ensures.is) c.in_ok-push.ensures.ok c.new-2.ensures c.new-3.ensures
    kept.0 (kept.1, c.in_ok-own.ensures.within, kept.2, kept.3)
