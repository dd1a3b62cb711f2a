use Rattle.std.proofs.Common.{◌≡◌, ◌∙◌, List, ap, map, subst}
use Rattle.blif_hierarchy.specs.Depth.{IsTooDeep}
use Rattle.blif_hierarchy.specs.First.{Finds}
use Rattle.blif_hierarchy.specs.Order.{IsRecursive}
use Rattle.blif_hierarchy.specs.declared.cost.Scale.{Scale}
use Rattle.blif_flat.specs.Flat.{Models}
use Rattle.blif_model.specs.declared.file.FileModel.{FileModel}
use Rattle.blif_linking.specs.Bare.{bare}
use Rattle.blif_linking.specs.Linked.{linked}
use Rattle.blif_linking.specs.Sizes.{scale_of}
use Rattle.blif_linking.proofs.Bare.{finds-deep, finds-recursive}
use Rattle.blif_reader.specs.Kept.{LooksLong, model_titles, scale_in}
use Rattle.blif_reader.proofs.Steps.{looked-long, outline-few, scale-kept, titles-kept}
use Rattle.blif_reader.proofs.shape.Shape.of.Goals as goal

pub first_recursive-requires-clause-closed : goal.first_recursive-requires-clause-closed
first_recursive-requires-clause-closed c =
    let known = c.requires.known in
    c.in_ok-models.ensures.closed known.parts known.read known.known

pub first_recursive-requires-clause-few : goal.first_recursive-requires-clause-few
first_recursive-requires-clause-few c =
    let known = c.requires.known in
    outline-few c.args.bytes.now c.args.text.now known c.in_ok-models.models (c.in_ok-models.ensures.models known.parts known.read) c.requires.limit

pub first_too_deep-requires : goal.first_too_deep-requires
first_too_deep-requires c =
    let known = c.requires.known in
    record { closed = c.in_ok-models.ensures.closed known.parts known.read known.known }

pub returns : goal.returns
returns c = λ parts read.
    let whole = c.args.bytes.now in
    let recursive = c.in_ok-recursive.recursive in
    let deep = c.in_ok-deep.deep in
    let long = c.in_ok-long.long in
    let is : c.in_ok-models.models ≡ bare (linked parts) = c.in_ok-models.ensures.models parts read in
    let back = finds-recursive (linked parts) recursive (subst (λ (ms : Models). Finds (IsRecursive ms) recursive) is c.in_ok-recursive.ensures) in
    let far = finds-deep (linked parts) deep (subst (λ (ms : Models). Finds (IsTooDeep ms) deep) is c.in_ok-deep.ensures.found) in
    let scale : c.in_ok-scale.scale ≡ scale_of whole parts =
    c.in_ok-scale.ensures ∙ ap (λ (models : List FileModel). scale_in whole models) c.as_slice-2.ensures ∙ scale-kept whole c.args.text.now parts read.1 in
    record {
      titles_are =
          c.in_ok-titles.ensures ∙ ap (λ (models : List FileModel). map model_titles models) c.as_slice.ensures
          ∙ titles-kept whole c.args.text.now parts read.1;
      scale_is = scale;
      recursive_is = back;
      deep_is = far;
      long_is = looked-long (linked parts) (scale_of whole parts) recursive deep long back far
          (subst (λ (s : Scale). LooksLong (bare (linked parts)) s recursive deep long) scale
          (subst (λ (ms : Models). LooksLong ms c.in_ok-scale.scale recursive deep long) is c.in_ok-long.ensures));
    }
