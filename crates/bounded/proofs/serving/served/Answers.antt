use Rattle.std.proofs.Common.{◌≡◌, ◌∙◌, ◌||◌, suc, ◌+◌, neg_ℤ, true, false, List, sym, ap, rules, arith, to_z, of_z, w32}
use mir.Val.{SFits}
use Rattle.std.proofs.lemmas.Int.{to_z-of_z}
use Rattle.alternating_theory.specs.Obligations.{obligation_at}
use Rattle.gates_builder.proofs.Growing.{adds-as, adds-none, of-more}
use Rattle.gates_nodes.specs.declared.node.Node.{Node}
use Rattle.gates_nodes.specs.Folding.{conjoined}
use Rattle.bounded.specs.Extending.{extends-exceeds}
use Rattle.bounded.specs.Obligations.{exceeds, falls, served}
use Rattle.bounded.specs.Places.{number_at, owed_at}
use Rattle.bounded.proofs.Additions.{adds-behind, at-zero, more-still, zero-still}
use Rattle.bounded.proofs.Standing.{owed-of, served-free, served-kept}
use Rattle.bounded.proofs.serving.served.Goals as goal
use Rattle.bounded.proofs.serving.served.Goals.{then-accepting-via-then-accepting, then-accepting-via-else-accepting+then-accepting-2}

pub returns-then-accepting : goal.returns-then-accepting
returns-then-accepting c =
    let old = c.args.builder.now in
    let places = c.args.places.now in
    let a = places.automaton.now in
    let n = places.last in
    let p = c.args.place in
    let q = c.args.number in
    let r = c.args.other in
    let l = c.owed-owed.result in
    let fits_l : SFits w32 c.owed-owed.result = search rules in
    let next : p + 1 ≡ suc p = omega arith in
    let is : l ≡ owed_at a places.before (suc p) r = c.owed-owed.ensures.is ∙ ap (λ k. owed_at a places.before k r) next in
    let x = (obligation_at a.obligations q).accepting in
    let y = (obligation_at a.obligations r).accepting in
    let accepted : (x || y) ≡ true = elim c.then-accepting.branch [
      | then-accepting-via-then-accepting w ↦ ap (λ b. b || y) (sym c.accepting.ensures ∙ w.if-accepting.true)
      | then-accepting-via-else-accepting+then-accepting-2 w ↦ ap (λ b. b || y) (sym c.accepting.ensures ∙ w.if-accepting.false) ∙ (sym w.accepting-else-accepting.ensures ∙ w.if-accepting-2.true)
    ] in
    rw to_z-of_z (adds-none old (served a n places.before p q r old.nodes) l
    (owed-of a n places.before old (suc p) r l c.requires.places (omega (arith, c.requires.place)) c.requires.other c.owed-owed.ensures.literal is)
    (ap (λ z. record { nodes = old.nodes; output = z }) is ∙ served-free a n places.before p q r old.nodes accepted))

pub and-requires-clause-first : goal.and-requires-clause-first
and-requires-clause-first c =
    let old = c.args.builder.now in
    let mid = c.exceeds_at.new.builder in
    let places = c.args.places.now in
    let a = places.automaton.now in
    let n = places.last in
    let p = c.args.place in
    let q = c.args.number in
    let r = c.args.other in
    let l = c.owed-owed.result in
    let fits_l : SFits w32 c.owed-owed.result = search rules in
    let next : p + 1 ≡ suc p = omega arith in
    let is : l ≡ owed_at a places.before (suc p) r = c.owed-owed.ensures.is ∙ ap (λ k. owed_at a places.before k r) next in
    let fs = number_at a places.before (suc p) r in
    let ss = number_at a places.before p q in
    let over = exceeds (falls n p) fs ss old.nodes in
    rw to_z-of_z (of-more old mid l (more-still old mid over.nodes (extends-exceeds fs ss (falls n p) old.nodes) c.in_ok-exceeded.ensures.making)
    (owed-of a n places.before old (suc p) r l c.requires.places (omega (arith, c.requires.place)) c.requires.other c.owed-owed.ensures.literal is))

pub returns : goal.returns
returns c =
    let old = c.args.builder.now in
    let mid = c.exceeds_at.new.builder in
    let new = c.and.new.self in
    let places = c.args.places.now in
    let a = places.automaton.now in
    let n = places.last in
    let p = c.args.place in
    let q = c.args.number in
    let r = c.args.other in
    let l = c.owed-owed.result in
    let m = c.in_ok-exceeded.exceeded in
    let fits_l : SFits w32 c.owed-owed.result = search rules in
    let fits_m : SFits w32 c.in_ok-exceeded.exceeded = search rules in
    let fits_n : SFits w32 c.negated.result = search rules in
    let next : p + 1 ≡ suc p = omega arith in
    let is : l ≡ owed_at a places.before (suc p) r = c.owed-owed.ensures.is ∙ ap (λ k. owed_at a places.before k r) next in
    let owed = owed_at a places.before (suc p) r in
    let fs = number_at a places.before (suc p) r in
    let ss = number_at a places.before p q in
    let over = exceeds (falls n p) fs ss old.nodes in
    let x = (obligation_at a.obligations q).accepting in
    let y = (obligation_at a.obligations r).accepting in
    let none : (x || y) ≡ false = ap (λ b. b || y) (sym c.accepting.ensures ∙ c.if-accepting.false) ∙ (sym c.accepting-else-accepting.ensures ∙ c.if-accepting-2.false) in
    let e1 : to_z w32 (of_z w32 l) ≡ owed = rw to_z-of_z is in
    let e2 : to_z w32 (of_z w32 c.negated.result) ≡ neg_ℤ m = rw to_z-of_z (simp to_z-of_z at c.negated.ensures.is) in
    let last = adds-as mid new (conjoined mid.given mid.nodes (to_z w32 (of_z w32 l)) (to_z w32 (of_z w32 c.negated.result))) (conjoined mid.given mid.nodes owed (neg_ℤ m)) c.and.result
    (ap (λ k. conjoined mid.given mid.nodes k (to_z w32 (of_z w32 c.negated.result))) e1 ∙ ap (conjoined mid.given mid.nodes owed) e2) c.and.ensures in
    let zero = zero-still old mid over.nodes c.requires.places.given c.in_ok-exceeded.ensures.making in
    adds-as old new (conjoined 0 over.nodes owed (neg_ℤ over.output)) (served a n places.before p q r old.nodes) c.and.result (served-kept a n places.before p q r old.nodes none)
    (adds-behind old mid new over (λ z (ns : List Node). conjoined 0 ns owed (neg_ℤ z)) m c.and.result c.in_ok-exceeded.ensures
    (at-zero mid new (λ g. conjoined g mid.nodes owed (neg_ℤ m)) c.and.result zero last))
