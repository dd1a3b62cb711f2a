use Rattle.std.proofs.Common.{◌≡◌, neg_ℤ, List, Err, rules, to_z, of_z, w32}
use mir.Val.{SFits}
use Rattle.std.proofs.lemmas.Int.{to_z-of_z}
use Rattle.std.proofs.lemmas.Result.{err_from_is_err_and}
use Rattle.gates_builder.proofs.Growing.{of-added, of-more}
use Rattle.gates_letters.proofs.Growing.{extends-conjoined, extends-either, extends-then}
use Rattle.gates_nodes.specs.declared.node.Node.{Node}
use Rattle.gates_nodes.specs.Folding.{conjoined, either}
use Rattle.bounded.specs.Obligations.{digit_exceeds, not_less}
use Rattle.bounded.proofs.Additions.{adds-behind, adds-front, at-zero, more-still, zero-still}
use Rattle.bounded.specs.Extending.{extends-not_less}
use Rattle.bounded.proofs.comparing.digit_exceeds.Goals as goal

pub returns-in_err-more : goal.returns-in_err-more
returns-in_err-more c =
    let old = c.args.builder.now in
    let x = c.args.exceeded in
    let a = c.args.first in
    let b = c.args.second in
    let fits_a : SFits w32 a = search rules in
    let fits_b : SFits w32 b = search rules in
    let fits_n : SFits w32 c.negated.result = search rules in
    let one : c.negated.result ≡ neg_ℤ b = simp to_z-of_z at c.negated.ensures.is in
    let failed = rw one at (simp to_z-of_z at c.in_err-more.ensures) in
    let part = conjoined 0 old.nodes a (neg_ℤ b) in
    let next = not_less x a b part.nodes in
    let p = err_from_is_err_and c.from_residual.result c.from_residual.ensures.1 in
    rw (p.1, p.2) (adds-front old c.and.new.self part (digit_exceeds x a b old.nodes) c.in_err-more.field-0.0
    (extends-then part.nodes next.nodes (digit_exceeds x a b old.nodes).nodes (extends-not_less x a b part.nodes) (extends-either 0 next.nodes part.output next.output))
    (at-zero old c.and.new.self (λ g. conjoined g old.nodes a (neg_ℤ b)) (Err c.in_err-more.field-0.0) c.requires.given failed))

pub not_less-requires-clause-exceeded : goal.not_less-requires-clause-exceeded
not_less-requires-clause-exceeded c =
    let old = c.args.builder.now in
    let fits_x : SFits w32 c.args.exceeded = search rules in
    rw to_z-of_z (of-more old c.and.new.self c.args.exceeded (more-still old c.and.new.self (conjoined old.given old.nodes (to_z w32 (of_z w32 c.args.first)) (to_z w32 (of_z w32 c.negated.result))).nodes (extends-conjoined old.given old.nodes (to_z w32 (of_z w32 c.args.first)) (to_z w32 (of_z w32 c.negated.result))) c.in_ok-more.ensures.making) c.requires.exceeded)

pub not_less-requires-clause-first : goal.not_less-requires-clause-first
not_less-requires-clause-first c =
    let old = c.args.builder.now in
    let fits_a : SFits w32 c.args.first = search rules in
    rw to_z-of_z (of-more old c.and.new.self c.args.first (more-still old c.and.new.self (conjoined old.given old.nodes (to_z w32 (of_z w32 c.args.first)) (to_z w32 (of_z w32 c.negated.result))).nodes (extends-conjoined old.given old.nodes (to_z w32 (of_z w32 c.args.first)) (to_z w32 (of_z w32 c.negated.result))) c.in_ok-more.ensures.making) c.requires.first)

pub not_less-requires-clause-second : goal.not_less-requires-clause-second
not_less-requires-clause-second c =
    let old = c.args.builder.now in
    let fits_b : SFits w32 c.args.second = search rules in
    rw to_z-of_z (of-more old c.and.new.self c.args.second (more-still old c.and.new.self (conjoined old.given old.nodes (to_z w32 (of_z w32 c.args.first)) (to_z w32 (of_z w32 c.negated.result))).nodes (extends-conjoined old.given old.nodes (to_z w32 (of_z w32 c.args.first)) (to_z w32 (of_z w32 c.negated.result))) c.in_ok-more.ensures.making) c.requires.second)

pub returns-in_err-still : goal.returns-in_err-still
returns-in_err-still c =
    let old = c.args.builder.now in
    let mid = c.and.new.self in
    let next = c.not_less.new.builder in
    let x = c.args.exceeded in
    let a = c.args.first in
    let b = c.args.second in
    let l = c.in_ok-more.more in
    let fault = c.in_err-still.field-0.0 in
    let fits_x : SFits w32 x = search rules in
    let fits_a : SFits w32 a = search rules in
    let fits_b : SFits w32 b = search rules in
    let fits_n : SFits w32 c.negated.result = search rules in
    let one : c.negated.result ≡ neg_ℤ b = simp to_z-of_z at c.negated.ensures.is in
    let made = rw one at (simp to_z-of_z at c.in_ok-more.ensures) in
    let failed = simp to_z-of_z at c.in_err-still.ensures in
    let part = conjoined 0 old.nodes a (neg_ℤ b) in
    let first = at-zero old mid (λ g. conjoined g old.nodes a (neg_ℤ b)) _ c.requires.given made in
    let inner = not_less x a b mid.nodes in
    let p = err_from_is_err_and c.from_residual-in_err-still.result c.from_residual-in_err-still.ensures.1 in
    rw (p.1, p.2) (adds-behind old mid next part (λ m (ns : List Node). either 0 (not_less x a b ns).nodes m (not_less x a b ns).output) l (Err fault) first
    (adds-front mid next inner (either 0 inner.nodes l inner.output) fault (extends-either 0 inner.nodes l inner.output) failed))

pub or-requires-clause-first : goal.or-requires-clause-first
or-requires-clause-first c =
    let old = c.args.builder.now in
    let mid = c.and.new.self in
    let next = c.not_less.new.builder in
    let l = c.in_ok-more.more in
    let fits_l : SFits w32 l = search rules in
    rw to_z-of_z (of-more mid next l (more-still mid next (not_less (to_z w32 (of_z w32 c.args.exceeded)) (to_z w32 (of_z w32 c.args.first)) (to_z w32 (of_z w32 c.args.second)) mid.nodes).nodes (extends-not_less (to_z w32 (of_z w32 c.args.exceeded)) (to_z w32 (of_z w32 c.args.first)) (to_z w32 (of_z w32 c.args.second)) mid.nodes) c.in_ok-still.ensures.making) (of-added old mid (conjoined old.given old.nodes (to_z w32 (of_z w32 c.args.first)) (to_z w32 (of_z w32 c.negated.result))) l c.in_ok-more.ensures))

pub returns : goal.returns
returns c =
    let old = c.args.builder.now in
    let mid = c.and.new.self in
    let next = c.not_less.new.builder in
    let new = c.or.new.self in
    let x = c.args.exceeded in
    let a = c.args.first in
    let b = c.args.second in
    let l = c.in_ok-more.more in
    let m = c.in_ok-still.still in
    let fits_x : SFits w32 x = search rules in
    let fits_a : SFits w32 a = search rules in
    let fits_b : SFits w32 b = search rules in
    let fits_n : SFits w32 c.negated.result = search rules in
    let fits_l : SFits w32 c.in_ok-more.more = search rules in
    let fits_m : SFits w32 c.in_ok-still.still = search rules in
    let one : c.negated.result ≡ neg_ℤ b = simp to_z-of_z at c.negated.ensures.is in
    let made = rw one at (simp to_z-of_z at c.in_ok-more.ensures) in
    let then = simp to_z-of_z at c.in_ok-still.ensures in
    let last = simp to_z-of_z at c.or.ensures in
    let part = conjoined 0 old.nodes a (neg_ℤ b) in
    let first = at-zero old mid (λ g. conjoined g old.nodes a (neg_ℤ b)) _ c.requires.given made in
    let zero = zero-still old mid part.nodes c.requires.given first.making in
    let inner = not_less x a b mid.nodes in
    adds-behind old mid new part (λ k (ns : List Node). either 0 (not_less x a b ns).nodes k (not_less x a b ns).output) l c.or.result first
    (adds-behind mid next new inner (λ k (ns : List Node). either 0 ns l k) m c.or.result then
    (at-zero next new (λ g. either g next.nodes l m) c.or.result (zero-still mid next inner.nodes zero then.making) last))
