use Rattle.std.proofs.Common.{◌∙◌, ◌-◌, ℕ, ap, get_or, length, take, drop}
use Rattle.psl_names.proofs.Counts.{count-at, found-from}
use Rattle.psl_names.specs.Sorting.{names_of, found_with}
use Rattle.psl_names.proofs.matching.found_from.Goals as goal

pub returns-then-place-sorted : goal.returns-then-place-sorted
returns-then-place-sorted c =
    let refs = c.args.sorted.now in
    let ref = c.index-sorted-place.result in
    let count = count-at refs c.args.counts.now c.args.place ref c.requires c.if-place-sorted.true c.index-sorted-place.is in
    c.found_with.ensures
    ∙ ap (λ (n : ℕ). found_with c.args.text.now ref.now (names_of (take (length refs - n) (drop n refs)))) c.next_other.ensures.place
    ∙ found-from refs c.args.text.now c.args.place (get_or c.args.counts.now c.args.place 0) ref c.if-place-sorted.true c.index-sorted-place.is count
