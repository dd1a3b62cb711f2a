use Rattle.std.proofs.Common.{◌≡◌, rules}
use Rattle.blif_model.specs.Names.{place_of}
use Rattle.blif_model.proofs.Places.{found-within}
use Rattle.blif_model.proofs.names.NameTable.find.Goals as goal

pub returns-clause-within : goal.returns-clause-within
returns-clause-within c =
    let is : c.sought.result ≡ place_of c.args.self.now c.args.name.now = search rules in
    found-within c.args.self.now c.args.name.now c.sought.result is
