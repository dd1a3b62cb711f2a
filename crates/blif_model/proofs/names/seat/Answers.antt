use Rattle.std.proofs.Common.{Some}
use Rattle.std.proofs.lemmas.Map.Text.{btree_map_updates_str}
use Rattle.blif_model.proofs.Hashed.{seated-other}
use Rattle.blif_model.proofs.names.seat.Goals as goal

pub returns-in_ok-insert-in-None-clause-ok : goal.returns-in_ok-insert-in-None-clause-ok
returns-in_ok-insert-in-None-clause-ok c = λ names seats is own.
    seated-other names c.args.number c.args.slots.now c.args.others.now c.args.name.now c.insert.new.self seats is own c.in-None.ensures.none
    (λ text. btree_map_updates_str c.args.name.now c.args.others.now c.insert.new.self (Some c.args.number) c.in_ok-insert-in-None.ensures.updates text)
