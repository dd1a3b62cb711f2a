use Rattle.std.proofs.Common.{◌≡◌, sym, subst, rules, arith}
use Rattle.std.proofs.lemmas.Grind.{common_steps}
use Rattle.gates_frames.specs.Frames.{AreCovers}
use Rattle.gates_covers.specs.Greedy.{covers_of}
use Rattle.gates_covers.proofs.Listed.{covers-are}
use Rattle.gates_covers.proofs.covers.covers_of.Goals as goal

pub returns-clause-are : goal.returns-clause-are
returns-clause-are c =
    let is : c.loop-table.covers ≡ covers_of c.args.tables.now = first_of (search rules, grind (arith, common_steps)) in
    subst (AreCovers c.args.tables.now) (sym is) (covers-are c.args.tables.now)
