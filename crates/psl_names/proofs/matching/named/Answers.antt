use Rattle.std.proofs.Common.{◌∙◌, sym, subst, List, Bor}
use Rattle.psl_tree.specs.declared.name.Name.{Name}
use Rattle.psl_names.specs.Sorting.{names_of, IsSorting}
use Rattle.psl_names.proofs.Looking.{named-up}
use Rattle.psl_names.proofs.matching.named.Goals as goal

pub returns : goal.returns
returns c =
    let sorting = subst (λ (refs : List (Bor Name)). IsSorting c.names.inside.names.now (names_of refs)) (sym c.as_slice-sorted.ensures.value) c.names.invariant.sorting in
    let names = subst (λ (names : List Name). IsSorting names (names_of c.as_slice-sorted.result.now)) c.names.view_is sorting in
    c.named_from.ensures ∙ sym (named-up c.args.names.now (names_of c.as_slice-sorted.result.now) c.args.text.now c.place_of.result names c.place_of.ensures.place)
