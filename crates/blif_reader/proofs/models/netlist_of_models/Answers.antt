use Rattle.std.proofs.Common.{inr}
use Rattle.blif_reader.proofs.Steps.{bad-fault, long-fault, none-found, short-shape, unknown-fault}
use Rattle.blif_linking.specs.Names.{first_bad, first_unknown}
use Rattle.blif_reader.proofs.models.netlist_of_models.Goals as goal

pub returns-in-Some-clause-err : goal.returns-in-Some-clause-err
returns-in-Some-clause-err c =
    let says = c.requires.says in
    inr (unknown-fault c.args.bytes.now says.0 says.1 c.first_unknown.result c.in-Some.word c.place_at.result
    (c.first_unknown.ensures says.0 says.2) c.in-Some.is c.place_at.ensures)

pub of-requires-clause-known : goal.of-requires-clause-known
of-requires-clause-known c =
    let says = c.requires.says in
    record {
      parts = says.0;
      read = (says.1, says.2);
      known = none-found c.args.bytes.now c.first_unknown.result (first_unknown says.0) (c.first_unknown.ensures says.0 says.2) c.in_default.is;
    }

pub returns-in-Some-long-clause-err : goal.returns-in-Some-long-clause-err
returns-in-Some-long-clause-err c =
    let says = c.requires.says in
    inr (long-fault c.args.bytes.now says.0 says.1 c.in_ok-shape.shape c.in-Some-long.placement c.top_place.result
    (none-found c.args.bytes.now c.first_unknown.result (first_unknown says.0) (c.first_unknown.ensures says.0 says.2) c.in_default.is)
    (c.in_ok-shape.ensures says.0 (says.1, says.2)) c.in-Some-long.is c.top_place.ensures)

pub returns-in-Some-2-clause-err : goal.returns-in-Some-2-clause-err
returns-in-Some-2-clause-err c =
    let says = c.requires.says in
    inr (bad-fault c.args.bytes.now says.0 says.1 c.in_ok-word.field-0 c.in-Some-2.word c.place_at-in-Some-2.result
    (none-found c.args.bytes.now c.first_unknown.result (first_unknown says.0) (c.first_unknown.ensures says.0 says.2) c.in_default.is)
    (short-shape c.args.bytes.now says.0 says.1 c.in_ok-shape.shape (c.in_ok-shape.ensures says.0 (says.1, says.2)) c.in_default-long.is)
    (c.in_ok-word.ensures says.0 (says.1, says.2)) c.in-Some-2.is c.place_at-in-Some-2.ensures)

pub netlist_of_linked-requires-clause-linked : goal.netlist_of_linked-requires-clause-linked
netlist_of_linked-requires-clause-linked c =
    let says = c.requires.says in
    let shape = c.in_ok-shape.ensures says.0 (says.1, says.2) in
    record {
      parts = says.0;
      said = says.1;
      known = none-found c.args.bytes.now c.first_unknown.result (first_unknown says.0) (c.first_unknown.ensures says.0 says.2) c.in_default.is;
      short = short-shape c.args.bytes.now says.0 says.1 c.in_ok-shape.shape shape c.in_default-long.is;
      connected = none-found c.args.bytes.now c.in_ok-word.field-0 (first_bad says.0) (c.in_ok-word.ensures says.0 (says.1, says.2)) c.in_default-2.is;
      models_are = c.in_ok-all.ensures.models says.0 (says.1, says.2);
      texts_are = c.in_ok-all.ensures.texts says.0 (says.1, says.2);
      keeps = c.in_ok-kept.ensures says.0 (says.1, says.2) shape;
    }
