use Rattle.psl_names.proofs.Backward.{compare-fronts}
use Rattle.psl_names.proofs.ends.compare_fronts.Goals as goal

pub returns : goal.returns
returns c =
    let e = compare-fronts c.args.first.now c.args.second.now c.requires in
    cc
