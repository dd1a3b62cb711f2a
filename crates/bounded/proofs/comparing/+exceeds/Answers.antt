use Rattle.std.proofs.Common.{◌≡◌, ◌∙◌, ℕ, suc, ◌+◌, ◌-◌, ◌≤◌, pos, ℤ, List, Ok, Err, refl, sym, ap, subst, rules, arith, to_z, of_z, w32}
use mir.Val.{SFits}
use Rattle.std.proofs.lemmas.Int.{to_z-of_z}
use Rattle.std.proofs.lemmas.Result.{err_from_is_err_and}
use Rattle.gates_builder.specs.Adding.{Adds, Making}
use Rattle.gates_builder.proofs.Growing.{adds-as, adds-none, of-added}
use Rattle.gates_letters.proofs.Growing.{more-extends}
use Rattle.gates_nodes.specs.declared.node.Node.{Node}
use Rattle.gates_nodes.specs.Nodes.{variables_of}
use Rattle.gates_theory.specs.Distinct.{following}
use Rattle.bounded.specs.Extending.{extends-digit, extends-exceeds}
use Rattle.bounded.specs.Obligations.{digit_exceeds, exceeds}
use Rattle.bounded.proofs.Additions.{adds-behind, adds-front, zero-still}
use Rattle.bounded.proofs.comparing.+exceeds.Goals as goal

-- equal literals are compared alike
digit-same : (x y z u v w : ℤ) (nodes : List Node) → x ≡ u → y ≡ v → z ≡ w → digit_exceeds x y z nodes ≡ digit_exceeds u v w nodes
digit-same x y z u v w nodes e f g = ap (λ k. digit_exceeds k y z nodes) e ∙ ap (λ k. digit_exceeds u k z nodes) f ∙ ap (λ k. digit_exceeds u v k nodes) g

number-same : (x y : ℤ) (a b c d k : ℕ) (nodes : List Node) → x ≡ y → a ≡ c → b ≡ d → exceeds x (following a k) (following b k) nodes ≡ exceeds y (following c k) (following d k) nodes
number-same x y a b c d k nodes e f g =
    ap (λ l. exceeds l (following a k) (following b k) nodes) e ∙ ap (λ j. exceeds y (following j k) (following b k) nodes) f ∙ ap (λ j. exceeds y (following c k) (following j k) nodes) g

-- the digits behind the first ones fit where all do
next-fits : (old mid : Making) (part : List Node) (a count k : ℕ) → variables_of 0 old.nodes ≤ variables_of 0 part → mid.nodes ≡ part → count ≡ suc k → a + count ≤ variables_of 0 old.nodes
    → a + 1 + k ≤ variables_of 0 mid.nodes
next-fits old mid part a count k more is some fits = let same = ap (λ ns. variables_of 0 ns) is in omega (arith, more, same, some, fits)

pub returns-then-count-eq0 : goal.returns-then-count-eq0
returns-then-count-eq0 t c =
    let old = c.args.builder.now in
    let e = c.args.equal in
    let fits_e : SFits w32 e = search rules in
    let none : c.args.count ≡ 0 = omega (arith, c.if-count-eq0.true) in
    rw (to_z-of_z, none) (adds-none old (exceeds e (following c.args.first 0) (following c.args.second 0) old.nodes) e c.requires.equal refl)

pub returns-in_err-exceeded : goal.returns-in_err-exceeded
returns-in_err-exceeded t c =
    let old = c.args.builder.now in
    let mid = c.digit_exceeds.new.builder in
    let e = c.args.equal in
    let a = c.args.first in
    let b = c.args.second in
    let k = c.args.count - 1 in
    let fault = c.in_err-exceeded.field-0.0 in
    let fits_e : SFits w32 e = search rules in
    let fits_one : SFits w32 c.literal_behind-one.result = search rules in
    let fits_other : SFits w32 c.literal_behind-other.result = search rules in
    let x1 : to_z w32 (of_z w32 e) ≡ e = rw to_z-of_z refl in
    let x2 : to_z w32 (of_z w32 c.literal_behind-one.result) ≡ pos (suc a) = rw to_z-of_z c.literal_behind-one.ensures.is in
    let x3 : to_z w32 (of_z w32 c.literal_behind-other.result) ≡ pos (suc b) = rw to_z-of_z c.literal_behind-other.ensures.is in
    let some : c.args.count ≡ suc k = omega (arith, c.if-count-eq0.false) in
    let part = digit_exceeds e (pos (suc a)) (pos (suc b)) old.nodes in
    let same = digit-same (to_z w32 (of_z w32 e)) (to_z w32 (of_z w32 c.literal_behind-one.result)) (to_z w32 (of_z w32 c.literal_behind-other.result)) e (pos (suc a)) (pos (suc b)) old.nodes x1 x2 x3 in
    let failed = adds-as old mid (digit_exceeds (to_z w32 (of_z w32 e)) (to_z w32 (of_z w32 c.literal_behind-one.result)) (to_z w32 (of_z w32 c.literal_behind-other.result)) old.nodes) part (Err fault) same
    c.in_err-exceeded.ensures in
    let p = err_from_is_err_and c.from_residual.result c.from_residual.ensures.1 in
    rw (p.1, p.2) (subst (λ j. Adds old mid (exceeds e (following a j) (following b j) old.nodes) (Err fault)) (sym some)
    (adds-front old mid part (exceeds e (following a (suc k)) (following b (suc k)) old.nodes) fault (extends-exceeds (following (suc a) k) (following (suc b) k) part.output part.nodes) failed))

pub exceeds-requires : goal.exceeds-requires
exceeds-requires t c =
    let old = c.args.builder.now in
    let mid = c.digit_exceeds.new.builder in
    let k = c.args.count - 1 in
    let x = c.in_ok-exceeded.exceeded in
    let fits_x : SFits w32 c.in_ok-exceeded.exceeded = search rules in
    let some : c.args.count ≡ suc k = omega (arith, c.if-count-eq0.false) in
    let built = digit_exceeds (to_z w32 (of_z w32 c.args.equal)) (to_z w32 (of_z w32 c.literal_behind-one.result)) (to_z w32 (of_z w32 c.literal_behind-other.result)) old.nodes in
    let more = more-extends 0 old.nodes built.nodes (extends-digit (to_z w32 (of_z w32 c.args.equal)) (to_z w32 (of_z w32 c.literal_behind-one.result)) (to_z w32 (of_z w32 c.literal_behind-other.result)) old.nodes) in
    let nodes = ap (λ (m : Making). m.nodes) c.in_ok-exceeded.ensures.making in (
      omega (arith, some),
      (
        zero-still old mid built.nodes c.requires.given c.in_ok-exceeded.ensures.making,
        (
          rw to_z-of_z (of-added old mid built x c.in_ok-exceeded.ensures),
          (next-fits old mid built.nodes c.args.first c.args.count k more nodes some c.requires.first, next-fits old mid built.nodes c.args.second c.args.count k more nodes some c.requires.second),
        ),
      ),
    )

pub returns : goal.returns
returns t c =
    let old = c.args.builder.now in
    let mid = c.digit_exceeds.new.builder in
    let new = c.exceeds.new.builder in
    let e = c.args.equal in
    let a = c.args.first in
    let b = c.args.second in
    let k = c.args.count - 1 in
    let x = c.in_ok-exceeded.exceeded in
    let fits_e : SFits w32 e = search rules in
    let fits_x : SFits w32 c.in_ok-exceeded.exceeded = search rules in
    let fits_one : SFits w32 c.literal_behind-one.result = search rules in
    let fits_other : SFits w32 c.literal_behind-other.result = search rules in
    let x1 : to_z w32 (of_z w32 e) ≡ e = rw to_z-of_z refl in
    let x2 : to_z w32 (of_z w32 c.literal_behind-one.result) ≡ pos (suc a) = rw to_z-of_z c.literal_behind-one.ensures.is in
    let x3 : to_z w32 (of_z w32 c.literal_behind-other.result) ≡ pos (suc b) = rw to_z-of_z c.literal_behind-other.ensures.is in
    let x4 : to_z w32 (of_z w32 x) ≡ x = rw to_z-of_z refl in
    let some : c.args.count ≡ suc k = omega (arith, c.if-count-eq0.false) in
    let part = digit_exceeds e (pos (suc a)) (pos (suc b)) old.nodes in
    let same = digit-same (to_z w32 (of_z w32 e)) (to_z w32 (of_z w32 c.literal_behind-one.result)) (to_z w32 (of_z w32 c.literal_behind-other.result)) e (pos (suc a)) (pos (suc b)) old.nodes x1 x2 x3 in
    let made = adds-as old mid (digit_exceeds (to_z w32 (of_z w32 e)) (to_z w32 (of_z w32 c.literal_behind-one.result)) (to_z w32 (of_z w32 c.literal_behind-other.result)) old.nodes) part (Ok x) same
    c.in_ok-exceeded.ensures in
    let rest = number-same (to_z w32 (of_z w32 x)) x (a + 1) (b + 1) (suc a) (suc b) k mid.nodes x4 (omega arith) (omega arith) in
    let then = adds-as mid new (exceeds (to_z w32 (of_z w32 x)) (following (a + 1) k) (following (b + 1) k) mid.nodes) (exceeds x (following (suc a) k) (following (suc b) k) mid.nodes) c.exceeds.result rest c.exceeds.ensures in
    subst (λ j. Adds old new (exceeds e (following a j) (following b j) old.nodes) c.exceeds.result) (sym some)
    (adds-behind old mid new part (λ l (ns : List Node). exceeds l (following (suc a) k) (following (suc b) k) ns) x c.exceeds.result made then)
