use Rattle.std.proofs.Common.{◌≡◌, ◌++◌, ◌∷◌, [], List, length, ap, ◌∙◌, arith}
use Rattle.std.proofs.lemmas.List.Elements.{All-push}
use Rattle.netlist.specs.declared.rows.Mark.{Mark}
use Rattle.gates_covers.proofs.Listing.{all-asking, none-asks, one-asks, so_far}
use Rattle.gates_covers.proofs.candidates.push_asking.Goals as goal
use Rattle.gates_covers.proofs.candidates.push_asking.Goals.{then-asked-count+in_ok-push, else-asked-count}

pub loop-number-preserved : goal.loop-number-preserved
loop-number-preserved c =
    let old = c.args.rows.now in
    let now = c.loop-number.rows in
    let number = c.loop-number.number in
    let row = c.row_at-row.result in
    elim c.if-asked-count.branch [
      | then-asked-count+in_ok-push w ↦
          let pushed : c.if-asked-count.rows ≡ c.loop-number.rows ++ c.row_at-row.result ∷ [] = w.rows-is ∙ w.in_ok-push.ensures.ok in
          let four : length c.row_at-row.result ≡ 4 = ap (λ (r : List Mark). length r) c.row_at-row.ensures in
          rw pushed (record {
            added = one-asks old now row c.args.count number c.asked.result c.loop-number.invariant.added c.row_at-row.ensures c.asked.ensures w.if-asked-count.true;
            width = All-push (λ (r : List Mark). length r ≡ 4) now row c.loop-number.invariant.width four;
          })
      | else-asked-count w ↦
          rw w.rows-is (record {
            added = none-asks old now row c.args.count number c.asked.result c.loop-number.invariant.added c.row_at-row.ensures c.asked.ensures w.if-asked-count.false;
            width = c.loop-number.invariant.width;
          })
    ]

pub returns-clause-added : goal.returns-clause-added
returns-clause-added c =
    let end : c.loop-number.number ≡ 81 = omega arith in
    c.loop-number.invariant.added ∙ ap (λ n. c.args.rows.now ++ so_far c.args.count n) end ∙ ap (λ l. c.args.rows.now ++ l) (all-asking c.args.count)
