use Rattle.std.proofs.Common.{◌∙◌, sym, rules, w32}
use mir.Val.{SFits}
use Rattle.std.proofs.lemmas.Int.{to_z-of_z}
use Rattle.gates_nodes.specs.Folding.{conjoined, shared}
use Rattle.gates_builder.proofs.Growing.{adds-as, conjoined-high, conjoined-low}
use Rattle.gates_builder.proofs.builder.Builder.and.Goals as goal

pub returns-then-first-second : goal.returns-then-first-second
returns-then-first-second c =
    let now = c.args.self.now in
    let a = c.args.first in
    let b = c.args.second in
    let fits_a : SFits w32 a = search rules in
    let fits_b : SFits w32 b = search rules in
    let folds = simp to_z-of_z at c.fold.ensures.is in
    let order = simp to_z-of_z at c.if-first-second.true in
    let adds = simp to_z-of_z at c.share.ensures in
    adds-as now c.share.new.self (shared now.given now.nodes a b) (conjoined now.given now.nodes a b) c.share.result
    (conjoined-low now.given now.nodes a b (sym folds ∙ c.in-None.is) order) adds

pub returns-else-first-second : goal.returns-else-first-second
returns-else-first-second c =
    let now = c.args.self.now in
    let a = c.args.first in
    let b = c.args.second in
    let fits_a : SFits w32 a = search rules in
    let fits_b : SFits w32 b = search rules in
    let folds = simp to_z-of_z at c.fold.ensures.is in
    let order = simp to_z-of_z at c.if-first-second.false in
    let adds = simp to_z-of_z at c.share-else-first-second.ensures in
    adds-as now c.share-else-first-second.new.self (shared now.given now.nodes b a) (conjoined now.given now.nodes a b) c.share-else-first-second.result
    (conjoined-high now.given now.nodes a b (sym folds ∙ c.in-None.is) order) adds
