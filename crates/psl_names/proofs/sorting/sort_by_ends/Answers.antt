use Rattle.std.proofs.Common.{◌≡◌, rules, Bor}
use Rattle.std.proofs.lemmas.List.Sorted.{answers_always}
use Rattle.std.specs.Ordering.{is_lt}
use Rattle.psl_tree.specs.declared.name.Name.{Name}
use Rattle.psl_names.specs.Sorting.{is_before}
use Rattle.psl_names.proofs.Refs.{sorting, refs-order}
use Rattle.psl_names.proofs.sorting.sort_by_ends.Goals as goal

pub returns : goal.returns
returns c =
    sorting c.args.names.now.items c.sort_by.new.self.items c.in_ok-sort_by.ensures.permutation
    (c.in_ok-sort_by.ensures.sorted (λ (x y : Bor Name). is_before x.now y.now) refs-order
    (answers_always _ (λ a r. is_lt r ≡ is_before a.0.now.now a.1.0.now.now) _ (λ f a r f' k. search rules)))
