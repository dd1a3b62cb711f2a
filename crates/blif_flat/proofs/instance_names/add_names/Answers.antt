use Rattle.std.proofs.Common.{◌≤◌, ◌⊎◌, ◌++◌, ◌∙◌, List, length, ap, sym, subst}
use Rattle.std.proofs.lemmas.List.{append-nil}
use Rattle.psl_tree.specs.declared.name.Name.{Name}
use Rattle.blif_flat.specs.Naming.{prefix_of}
use Rattle.blif_flat.proofs.Listed.{names_end, past-min}
use Rattle.blif_flat.proofs.instance_names.add_names.Goals as goal

pub returns : goal.returns
returns c =
    let numbers = c.args.instance.now.numbers in
    let texts = c.args.texts.now in
    let past = past-min c.min-number-end.result c.len.result c.len-2.result c.loop-number.number c.min-number-end.ensures c.loop-number-test.false in
    let ends = names_end (prefix_of c.args.instance.now.path) numbers texts c.loop-number.number
    (subst (λ n. (n ≤ c.loop-number.number) ⊎ (length texts ≤ c.loop-number.number)) c.len.ensures
    (subst (λ n. (c.len.result ≤ c.loop-number.number) ⊎ (n ≤ c.loop-number.number)) c.len-2.ensures past)) in
    sym (c.loop-number.invariant ∙ ap (λ (rest : List Name). c.loop-number.names ++ rest) ends ∙ append-nil c.loop-number.names)
