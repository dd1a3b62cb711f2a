use Rattle.std.proofs.Common.{◌≡◌, ◌∙◌, ap, sym, subst, suc, ◌&&◌, cond, Some, None, [], ◌∷◌, ◌++◌, length, rules, arith, w32}
use Rattle.std.specs.Ordering.{int_cmp, is_eq, ordering_then}
use mir.Val.{SFits}
use Rattle.std.proofs.lemmas.Int.{to_z-of_z}
use Rattle.gates_nodes.specs.declared.node.Node.TheVariants.{And}
use Rattle.gates_nodes.specs.Folding.{place_of}
use Rattle.std.specs.Bool.{IsTrue}
use Rattle.std.proofs.lemmas.Bool.{and_from}
use Rattle.clauses.specs.Literals.{is_within}
use Rattle.gates_nodes.specs.Makes.{AreSound}
use Rattle.gates_nodes.specs.Nodes.{variables_of}
use Rattle.gates_builder.proofs.Growing.{more-push, sound-push}
use Rattle.gates_builder.proofs.Places.{place-push}
use Rattle.gates_builder.proofs.builder.Builder.add.Goals as goal

pub invariant_of-self-in-Ok-insert : goal.invariant_of-self-in-Ok-insert
invariant_of-self-in-Ok-insert c =
    let first = c.args.first in
    let second = c.args.second in
    let fits_first : SFits w32 first = search rules in
    let fits_second : SFits w32 second = search rules in
    let old = c.self.inside.nodes.items in
    let given = c.self.inside.given in
    let pushed : c.push.new.self.items ≡ old ++ And first second ∷ [] = simp to_z-of_z at c.in-Ok.ensures.items in
    let size : variables_of given c.push.new.self.items ≡ suc (variables_of given old) = ap (variables_of given) pushed ∙ more-push given old (And first second) in
    let now : variables_of given old ≡ variables_of c.args.self.now.given c.args.self.now.nodes = ap (λ making. variables_of making.given making.nodes) c.self.view_is in
    let none : place_of first second old ≡ None = ap (λ making. place_of first second making.nodes) c.self.view_is ∙ c.requires.new in
    let names : IsTrue (is_within (variables_of given old) first && is_within (variables_of given old) second) =
    subst (λ n. IsTrue (is_within n first && is_within n second)) (sym now)
    (and_from (is_within (variables_of c.args.self.now.given c.args.self.now.nodes) first) (is_within (variables_of c.args.self.now.given c.args.self.now.nodes) second) c.requires.first.within c.requires.second.within) in
    let place = c.len-place.result in
    let at : place ≡ length old = c.len-place.ensures ∙ c.self.inside.nodes.ok.0 in (
      omega (arith, size, now, c.variables-before.ensures.is),
      λ p q.
          let put = simp to_z-of_z at (c.in-Ok-insert.ensures.updates.0 (p, q)) in
          put ∙ ap (λ o. cond (is_eq (ordering_then (int_cmp first p) (int_cmp second q))) (Some place) o) (c.self.invariant.1 p q)
          ∙ place-push old first second p q place at none ∙ sym (ap (place_of p q) pushed),
      subst (AreSound given) (sym pushed) (sound-push given old (And first second) c.self.invariant.2 names),
    )
