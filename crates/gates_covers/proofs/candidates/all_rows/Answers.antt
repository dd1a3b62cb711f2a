use Rattle.std.proofs.Common.{◌≡◌, ap, ◌∙◌, arith}
use Rattle.std.specs.List.{flat_map, range_with_len}
use Rattle.gates_covers.specs.Greedy.{rows_asking}
use Rattle.gates_covers.proofs.Listing.{all-rows, more-rows}
use Rattle.gates_covers.proofs.candidates.all_rows.Goals as goal

pub loop-count-preserved : goal.loop-count-preserved
loop-count-preserved c = record {
  added = c.in_ok-push_asking.ensures.added ∙ more-rows c.loop-count.rows c.loop-count.count c.loop-count.invariant.added;
  width = c.in_ok-push_asking.ensures.width;
}

pub returns : goal.returns
returns c =
    let end : c.loop-count.count ≡ 5 = omega arith in
    c.loop-count.invariant.added ∙ ap (λ n. flat_map rows_asking (range_with_len 0 n)) end ∙ all-rows
