use Rattle.std.proofs.Common.{◌∙◌, sym, subst, List, Bor}
use Rattle.psl_tree.specs.declared.name.Name.{Name}
use Rattle.psl_names.specs.Sorting.{names_of, IsSorting}
use Rattle.psl_names.proofs.Looking.{looked-up}
use Rattle.psl_names.proofs.matching.NameIndex.look_up.Goals as goal

pub returns : goal.returns
returns c =
    let sorting = subst (λ (refs : List (Bor Name)). IsSorting c.self.inside.names.now (names_of refs)) (sym c.as_slice-sorted.ensures.value) c.self.invariant.sorting in
    let names = subst (λ (names : List Name). IsSorting names (names_of c.as_slice-sorted.result.now)) c.self.view_is sorting in
    c.found_from.ensures ∙ sym (looked-up c.args.self.now (names_of c.as_slice-sorted.result.now) c.args.text.now c.place_of.result names c.place_of.ensures.place)
