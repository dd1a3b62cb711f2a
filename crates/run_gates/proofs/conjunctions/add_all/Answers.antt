use Rattle.std.proofs.Common.{rules, ◌≡◌, ◌+◌, ◌<◌, arith, true, ◌∷◌, map, drop, length, get_or, w32, ap, pos}
use mir.Val.{SFits}
use Rattle.std.proofs.lemmas.Int.{to_z-of_z}
use Rattle.std.proofs.lemmas.List.{drop_more}
use Rattle.gates_theory.specs.Terms.{with_conjunction}
use Rattle.gates_theory.specs.Terms.Term.{Literal, Conjunction}
use Rattle.run_terms.specs.Booleans.{constant}
use Rattle.run_gates.proofs.Folds.{conjunction-join, literal-builds, so_far-step}
use Rattle.run_gates.proofs.conjunctions.add_all.Goals as goal

pub loop-i-preserved : goal.loop-i-preserved
loop-i-preserved c =
    let i = c.loop-i.i in
    let literals = c.args.literals.now in
    let below : i < length literals = omega arith in
    let output = c.in_ok-add_also.field-0 in
    let fits_output : SFits w32 output = search rules in
    let literal = get_or c.args.literals.now c.loop-i.i (pos 0) in
    let fits_literal : SFits w32 (get_or c.args.literals.now c.loop-i.i (pos 0)) = search rules in
    let joins = simp to_z-of_z at c.in_ok-add_also.ensures in
    let next : map Literal (drop c.loop-i.i c.args.literals.now) ≡ Literal (get_or c.args.literals.now c.loop-i.i (pos 0)) ∷ map Literal (drop (c.loop-i.i + 1) c.args.literals.now) =
    ap (map Literal) (drop_more c.args.literals.now c.loop-i.i (pos 0) below) in
    let before = rw next at c.loop-i.invariant.so_far in
    let after = so_far-step Conjunction with_conjunction (constant true) c.args.gates.now c.loop-i.gates c.loop-i.gates c.add_also.new.gates c.loop-i.found (Literal literal) literal output
    (map Literal (drop (i + 1) literals)) (map Literal literals) conjunction-join before (literal-builds c.loop-i.gates literal (c.requires c.loop-i.i (pos 0) below)) joins in
    record { so_far = rw to_z-of_z after }
