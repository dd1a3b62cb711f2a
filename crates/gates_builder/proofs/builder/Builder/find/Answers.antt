use Rattle.std.proofs.Common.{◌∙◌, ap, rules, w32}
use mir.Val.{SFits}
use Rattle.std.proofs.lemmas.Int.{to_z-of_z}
use Rattle.gates_nodes.specs.Folding.{place_of}
use Rattle.gates_builder.proofs.Places.{found-within}
use Rattle.gates_builder.proofs.builder.Builder.find.Goals as goal

pub returns-clause-is : goal.returns-clause-is
returns-clause-is c =
    let first = c.args.first in
    let second = c.args.second in
    let fits_first : SFits w32 first = search rules in
    let fits_second : SFits w32 second = search rules in
    let got = simp to_z-of_z at c.get.ensures.value in
    c.copied.ensures ∙ got ∙ c.self.invariant.1 first second ∙ ap (λ making. place_of first second making.nodes) c.self.view_is

pub returns-clause-within : goal.returns-clause-within
returns-clause-within c = found-within c.args.self.now.nodes c.args.first c.args.second c.copied.result (returns-clause-is c)
