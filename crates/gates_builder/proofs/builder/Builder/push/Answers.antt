use Rattle.std.proofs.Common.{◌≡◌, ◌∙◌, ap, sym, subst, suc, [], ◌∷◌, ◌++◌, arith}
use Rattle.gates_nodes.specs.Folding.{place_of}
use Rattle.std.specs.Bool.{IsTrue}
use Rattle.gates_nodes.specs.Makes.{AreSound}
use Rattle.gates_nodes.specs.Nodes.{node_within, variables_of}
use Rattle.gates_builder.proofs.Growing.{more-push, sound-push}
use Rattle.gates_builder.proofs.Places.{place-other}
use Rattle.gates_builder.proofs.builder.Builder.push.Goals as goal

pub invariant_of-self-2 : goal.invariant_of-self-2
invariant_of-self-2 c =
    let old = c.self.inside.nodes.items in
    let given = c.self.inside.given in
    let pushed : c.push.new.self.items ≡ old ++ c.args.node ∷ [] = c.in-Ok.ensures.items in
    let size : variables_of given c.push.new.self.items ≡ suc (variables_of given old) = ap (variables_of given) pushed ∙ more-push given old c.args.node in
    let now : variables_of given old ≡ variables_of c.args.self.now.given c.args.self.now.nodes = ap (λ making. variables_of making.given making.nodes) c.self.view_is in (
      omega (arith, size, now, c.variables-before.ensures.is),
      λ p q. c.self.invariant.1 p q ∙ sym (ap (place_of p q) pushed ∙ place-other old c.args.node p q (c.requires.other p q)),
      subst (AreSound given) (sym pushed) (sound-push given old c.args.node c.self.invariant.2 (subst (λ n. IsTrue (node_within n c.args.node)) (sym now) c.requires.within)),
    )
