use Rattle.std.proofs.Common.{◌≡◌, neg_ℤ, List, Err, rules, to_z, of_z, w32}
use mir.Val.{SFits}
use Rattle.std.proofs.lemmas.Int.{to_z-of_z}
use Rattle.std.proofs.lemmas.Result.{err_from_is_err_and}
use Rattle.gates_builder.proofs.Growing.{of-more}
use Rattle.gates_letters.proofs.Growing.{extends-conjoined, extends-either}
use Rattle.gates_nodes.specs.declared.node.Node.{Node}
use Rattle.gates_nodes.specs.Folding.{conjoined, either}
use Rattle.bounded.specs.Obligations.{not_less}
use Rattle.bounded.proofs.Additions.{adds-behind, adds-front, at-zero, more-still, zero-still}
use Rattle.bounded.proofs.comparing.not_less.Goals as goal

pub returns-in_err-either : goal.returns-in_err-either
returns-in_err-either c =
    let old = c.args.builder.now in
    let x = c.args.exceeded in
    let a = c.args.first in
    let b = c.args.second in
    let fits_a : SFits w32 a = search rules in
    let fits_b : SFits w32 b = search rules in
    let fits_n : SFits w32 c.negated.result = search rules in
    let one : c.negated.result ≡ neg_ℤ b = simp to_z-of_z at c.negated.ensures.is in
    let failed = rw one at (simp to_z-of_z at c.in_err-either.ensures) in
    let part = either 0 old.nodes a (neg_ℤ b) in
    let p = err_from_is_err_and c.from_residual.result c.from_residual.ensures.1 in
    rw (p.1, p.2) (adds-front old c.or.new.self part (not_less x a b old.nodes) c.in_err-either.field-0.0 (extends-conjoined 0 part.nodes x part.output)
    (at-zero old c.or.new.self (λ g. either g old.nodes a (neg_ℤ b)) (Err c.in_err-either.field-0.0) c.requires.given failed))

pub and-requires-clause-first : goal.and-requires-clause-first
and-requires-clause-first c =
    let old = c.args.builder.now in
    let mid = c.or.new.self in
    let fits_x : SFits w32 c.args.exceeded = search rules in
    rw to_z-of_z (of-more old mid c.args.exceeded (more-still old mid (either old.given old.nodes (to_z w32 (of_z w32 c.args.first)) (to_z w32 (of_z w32 c.negated.result))).nodes (extends-either old.given old.nodes (to_z w32 (of_z w32 c.args.first)) (to_z w32 (of_z w32 c.negated.result))) c.in_ok-either.ensures.making) c.requires.exceeded)

pub returns : goal.returns
returns c =
    let old = c.args.builder.now in
    let mid = c.or.new.self in
    let x = c.args.exceeded in
    let a = c.args.first in
    let b = c.args.second in
    let fits_x : SFits w32 x = search rules in
    let fits_a : SFits w32 a = search rules in
    let fits_b : SFits w32 b = search rules in
    let fits_n : SFits w32 c.negated.result = search rules in
    let fits_e : SFits w32 c.in_ok-either.either = search rules in
    let one : c.negated.result ≡ neg_ℤ b = simp to_z-of_z at c.negated.ensures.is in
    let made = rw one at (simp to_z-of_z at c.in_ok-either.ensures) in
    let joined = simp to_z-of_z at c.and.ensures in
    let part = either 0 old.nodes a (neg_ℤ b) in
    let e = c.in_ok-either.either in
    let first = at-zero old mid (λ g. either g old.nodes a (neg_ℤ b)) _ c.requires.given made in
    adds-behind old mid c.and.new.self part (λ l (ns : List Node). conjoined 0 ns x l) e c.and.result first
    (at-zero mid c.and.new.self (λ g. conjoined g mid.nodes x e) c.and.result (zero-still old mid part.nodes c.requires.given first.making) joined)
