use Rattle.std.proofs.Common.{◌<◌, ◌^◌, [], length, ap, map, subst, arith}
use Rattle.std.specs.Prelude.{All}
use Rattle.std.specs.Vec.Iter.{into_iter_items}
use Rattle.std.proofs.lemmas.List.Elements.{All-head, All-tail}
use Rattle.blif_model.specs.FileKnown.{IsModelWithin, part_in}
use Rattle.blif_model.specs.Names.{place_of}
use Rattle.blif_linking.proofs.Indexes.{at-get}
use Rattle.blif_linking.proofs.Weaving.{among-step}
use Rattle.blif_linking.proofs.numbering.numbered_among.Goals as goal

pub numbered_within-requires-clause-within : goal.numbered_within-requires-clause-within
numbered_within-requires-clause-within c =
    let whole = c.args.library.now.whole.now in
    All-head (IsModelWithin whole) c.in-Some.model (into_iter_items c.next.new.self)
    (subst (All (IsModelWithin whole)) c.in-Some.ensures.items c.loop-model.invariant.within)

pub numbered_within-requires-clause-names : goal.numbered_within-requires-clause-names
numbered_within-requires-clause-names c =
    subst (λ names. length names < 2 ^ 32) (at-get c.args.texts.now c.loop-model.number c.at-names.result.now [] c.at-names.ensures)
    (c.requires.few c.loop-model.number [] (omega arith))

pub loop-model-preserved : goal.loop-model-preserved
loop-model-preserved c =
    let whole = c.args.library.now.whole.now in
    record {
      linked = among-step (place_of c.args.library.now.titles.now) c.args.library.now.interfaces.now c.args.texts.now c.loop-model.number c.at-names.result.now
          (part_in whole c.in-Some.model) (map (part_in whole) (into_iter_items c.loop-model.rest)) (map (part_in whole) (into_iter_items c.next.new.self))
          c.in_ok-numbered_within.field-0 _ c.loop-model.linked c.push.new.self c.loop-model.invariant.linked c.at-names.ensures
          (ap (map (part_in whole)) c.in-Some.ensures.items) c.in_ok-numbered_within.ensures c.in_ok-push.ensures.ok;
      within = All-tail (IsModelWithin whole) c.in-Some.model (into_iter_items c.next.new.self)
          (subst (All (IsModelWithin whole)) c.in-Some.ensures.items c.loop-model.invariant.within);
    }
