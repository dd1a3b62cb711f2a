use Rattle.std.proofs.Common.{rules, ◌≡◌, suc, ◌+◌, ◌<◌, pos, ◌++◌, length, drop, get_or, add-one, arith, w32}
use mir.Val.{SFits}
use Rattle.std.proofs.lemmas.Int.{to_z-of_z}
use Rattle.gates_theory.specs.Unrolled.{equality, links, moved}
use Rattle.gates.proofs.Additions.{Clauses, so_far-step}
use Rattle.gates.proofs.Drops.{links-drop, within-next}
use Rattle.gates.proofs.parts.add_links.Goals as goal

pub loop-i-preserved : goal.loop-i-preserved
loop-i-preserved c =
    let i = c.loop-i.i in
    let literals = c.args.literals.now in
    let others = c.args.others.now in
    let low = c.args.base_before in
    let base = low + c.args.variables in
    let here = get_or literals i (pos 0) in
    let there = get_or others i (pos 0) in
    let below : i < length literals = omega arith in
    let below_others : i < length others = omega arith in
    let fits_here : SFits w32 here = search rules in
    let fits_there : SFits w32 there = search rules in
    let fits_first : SFits w32 c.moved.result = search rules in
    let fits_second : SFits w32 c.moved-in-loop-i.result = search rules in
    let first : c.moved.result ≡ moved base here = simp to_z-of_z at c.moved.ensures in
    let second : c.moved-in-loop-i.result ≡ moved low there = simp to_z-of_z at c.moved-in-loop-i.ensures in
    let ok = simp to_z-of_z at c.in_ok-add_equality.ensures.ok in
    let part : Clauses = equality (moved base here) (moved low there) in
    let added : c.add_equality.new.clauses ≡ c.loop-i.clauses ++ part = rw (first, second) at ok in
    let left = rw (links-drop base low literals others i below c.requires.each) at c.loop-i.invariant.so_far in
    record {
      so_far = rw add-one (so_far-step c.args.clauses.now c.loop-i.clauses c.add_equality.new.clauses part
          (links base low (drop (suc i) literals) (drop (suc i) others)) (links base low literals others) left added);
      within = rw add-one (within-next c.args.variables literals i below c.loop-i.invariant.within);
      others = rw add-one (within-next c.args.variables others i below_others c.loop-i.invariant.others);
    }
