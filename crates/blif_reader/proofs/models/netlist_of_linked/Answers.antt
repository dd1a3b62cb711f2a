use Rattle.std.proofs.Common.{inr}
use Rattle.blif_reader.proofs.Steps.{deep-fault, driven-fault, few-flat, fits, large-fault, linked-closed, linked-form, linked-words, recursion-fault, sound-models, undriven-fault}
use Rattle.blif_reader.proofs.models.netlist_of_linked.Goals as goal

pub returns-in-Some-clause-err : goal.returns-in-Some-clause-err
returns-in-Some-clause-err c =
    inr (recursion-fault c.args.bytes.now c.args.all.now c.args.kept.now c.requires.linked c.in-Some.found c.title_place.result c.in-Some.is c.title_place.ensures)

pub returns-in-Some-deep-clause-err : goal.returns-in-Some-deep-clause-err
returns-in-Some-deep-clause-err c =
    inr (deep-fault c.args.bytes.now c.args.all.now c.args.kept.now c.requires.linked c.in_default.is c.in-Some-deep.found c.title_place-in-Some-deep.result
    c.in-Some-deep.is c.title_place-in-Some-deep.ensures)

pub returns-in-Some-driven-clause-err : goal.returns-in-Some-driven-clause-err
returns-in-Some-driven-clause-err c =
    inr (driven-fault c.args.bytes.now c.args.all.now c.args.kept.now c.requires.linked c.in_default.is c.in_default-deep.is
    c.in-Some-driven.word c.place_at.result c.in-Some-driven.is c.place_at.ensures)

pub returns-in-Some-undriven-clause-err : goal.returns-in-Some-undriven-clause-err
returns-in-Some-undriven-clause-err c =
    inr (undriven-fault c.args.bytes.now c.args.all.now c.args.kept.now c.requires.linked c.in_default.is c.in_default-deep.is
    c.in_default-driven.is
    c.in-Some-undriven.word c.place_at-in-Some-undriven.result c.in-Some-undriven.is c.place_at-in-Some-undriven.ensures)

pub first_too_large-requires-clause-closed : goal.first_too_large-requires-clause-closed
first_too_large-requires-clause-closed c = linked-closed c.args.bytes.now c.args.all.now c.args.kept.now c.requires.linked

pub first_too_large-requires-clause-form : goal.first_too_large-requires-clause-form
first_too_large-requires-clause-form c = linked-form c.args.bytes.now c.args.all.now c.args.kept.now c.requires.linked

pub first_too_large-requires-clause-words : goal.first_too_large-requires-clause-words
first_too_large-requires-clause-words c = linked-words c.args.bytes.now c.args.all.now c.args.kept.now c.requires.linked

pub returns-in-Some-2-clause-err : goal.returns-in-Some-2-clause-err
returns-in-Some-2-clause-err c =
    inr (large-fault c.args.bytes.now c.args.all.now c.args.kept.now c.requires.linked c.in_default.is c.in_default-deep.is
    c.in_default-driven.is c.in_default-undriven.is
    c.in_ok-placement.field-0 c.in-Some-2.placement c.top_place.result c.in_ok-placement.ensures.found c.in-Some-2.is c.top_place.ensures)

pub flat_netlist-requires-clause-named : goal.flat_netlist-requires-clause-named
flat_netlist-requires-clause-named c =
    (sound-models c.args.bytes.now c.args.all.now c.args.kept.now c.requires.linked c.in_default.is c.in_default-deep.is
    c.in_default-driven.is c.in_default-undriven.is
    c.in_ok-placement.field-0 c.in_ok-placement.ensures.found c.in_default-2.is).named

pub flat_netlist-requires-clause-room : goal.flat_netlist-requires-clause-room
flat_netlist-requires-clause-room c =
    few-flat c.args.bytes.now c.args.all.now c.args.kept.now c.requires.linked c.in_default.is c.in_default-deep.is
    c.in_default-driven.is c.in_default-undriven.is
    c.in_ok-placement.field-0 c.in_ok-placement.ensures.found c.in_default-2.is

pub flat_netlist-requires-clause-titled : goal.flat_netlist-requires-clause-titled
flat_netlist-requires-clause-titled c =
    (sound-models c.args.bytes.now c.args.all.now c.args.kept.now c.requires.linked c.in_default.is c.in_default-deep.is
    c.in_default-driven.is c.in_default-undriven.is
    c.in_ok-placement.field-0 c.in_ok-placement.ensures.found c.in_default-2.is).titled

pub netlist_of-requires-clause-flat : goal.netlist_of-requires-clause-flat
netlist_of-requires-clause-flat c = record {
  models = c.args.all.now.models;
  texts = c.args.all.now.texts;
  fits = fits c.args.bytes.now c.args.all.now c.args.kept.now c.requires.linked c.in_default.is c.in_default-deep.is
      c.in_default-driven.is c.in_default-undriven.is
      c.in_ok-placement.field-0 c.in_ok-placement.ensures.found c.in_default-2.is;
  design = c.in_ok-flat.ensures.design;
  outputs = c.in_ok-flat.ensures.outputs;
}
