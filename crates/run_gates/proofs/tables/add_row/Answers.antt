use Rattle.std.proofs.Common.{rules, ◌≡◌, ◌+◌, ◌<◌, ◌∙◌, sym, arith, true, Some, None, map, drop, length, get_or, w32}
use mir.Val.{SFits}
use Rattle.std.proofs.lemmas.Int.{to_z-of_z}
use Rattle.gates_theory.specs.Terms.{with_conjunction}
use Rattle.gates_theory.specs.Terms.Term.{Literal, Conjunction}
use Rattle.netlist.specs.declared.rows.Mark.TheVariants as marks
use Rattle.run_terms.specs.Booleans.{constant}
use Rattle.run_terms.specs.Tables.{row_literals}
use Rattle.run_gates.specs.Building.{place_at}
use Rattle.run_gates.specs.Marks.{marked}
use Rattle.run_gates.proofs.Folds.{conjunction-join, literal-builds, so_far-step}
use Rattle.run_gates.proofs.Rows.{left-some, left-none}
use Rattle.run_gates.proofs.tables.add_row.Goals.{in-Some+in_ok-add_also, in_default}
use Rattle.run_gates.proofs.tables.add_row.Goals as goal

pub loop-i-preserved : goal.loop-i-preserved
loop-i-preserved c = elim c.match-asked.branch [
  | in-Some+in_ok-add_also w ↦
      let i = c.loop-i.i in
      let row = c.args.marks.now in
      let inputs = c.args.inputs.now in
      let place = place_at c.args.offset in
      let below : i < length row = omega arith in
      let literal = w.in-Some.literal in
      let output = w.in_ok-add_also.field-0 in
      let fits_place : SFits w32 c.place.result = search rules in
      let fits_literal : SFits w32 literal = search rules in
      let fits_output : SFits w32 output = search rules in
      let asks = simp to_z-of_z at c.asked.ensures.is in
      let joins = simp to_z-of_z at w.in_ok-add_also.ensures in
      let found = simp to_z-of_z at w.found-is in
      let left = map Literal (row_literals (drop (i + 1) row) (map place (drop (i + 1) inputs))) in
      let all = map Literal (row_literals row (map place inputs)) in
      let asked : marked (get_or row i marks.Zero) (place (get_or inputs i 0)) ≡ Some literal = rw c.place.ensures.is at (sym asks ∙ w.in-Some.is) in
      let before = rw (left-some place row inputs i literal below c.requires.each asked) at c.loop-i.invariant.so_far in
      let after = so_far-step Conjunction with_conjunction (constant true) c.args.gates.now c.loop-i.gates c.loop-i.gates w.add_also.new.gates c.loop-i.found (Literal literal) literal output left all
      conjunction-join before (literal-builds c.loop-i.gates literal w.in-Some.ensures.literal) joins in
      record { so_far = rw (w.gates-is, found) after }
  | in_default w ↦
      let i = c.loop-i.i in
      let row = c.args.marks.now in
      let inputs = c.args.inputs.now in
      let place = place_at c.args.offset in
      let below : i < length row = omega arith in
      let fits_place : SFits w32 c.place.result = search rules in
      let asks = simp to_z-of_z at c.asked.ensures.is in
      let asked : marked (get_or row i marks.Zero) (place (get_or inputs i 0)) ≡ None = rw c.place.ensures.is at (sym asks ∙ w.in_default.is) in
      let after = rw (left-none place row inputs i below c.requires.each asked) at c.loop-i.invariant.so_far in
      record { so_far = rw (w.gates-is, w.found-is) after }
]
