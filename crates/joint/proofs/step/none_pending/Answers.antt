use Rattle.std.proofs.Common.{rules, ◌∙◌, ◌++◌, [], ◌∷◌, neg_ℤ, arith, ap, sym, map, w32}
use Rattle.std.specs.Prelude.{IsTrue}
use mir.Val.{SFits}
use Rattle.std.specs.List.{range_with_len}
use Rattle.std.proofs.lemmas.Int.{to_z-of_z}
use Rattle.std.proofs.lemmas.List.Elements.{All-push}
use Rattle.std.proofs.lemmas.List.FromFn.{map-range_with_len_more}
use Rattle.clauses.specs.Literals.{is_literal}
use Rattle.joint_theory.specs.Bits.{pending_bit}
use Rattle.joint.proofs.step.none_pending.Goals as goal

pub loop-number-preserved : goal.loop-number-preserved
loop-number-preserved c =
    let number = c.loop-number.number in
    let fits_pending : SFits w32 c.pending.result = search rules in
    let fits_negated : SFits w32 c.negated.result = search rules in
    let is = simp to_z-of_z at c.negated.ensures.is in
    let pushed = simp to_z-of_z at c.in_ok-push.ensures.ok in
    let f = λ (n : _). neg_ℤ (pending_bit c.args.product.netlist.now c.args.product.violation.now 0 n) in
    record {
      so_far = pushed ∙ ap (λ list. list ++ c.negated.result ∷ []) c.loop-number.invariant.so_far ∙ ap (λ literal. map f (range_with_len 0 number) ++ literal ∷ []) (is ∙ ap neg_ℤ c.pending.ensures.is)
          ∙ sym (map-range_with_len_more f 0 number number (omega arith));
      literals = rw pushed (All-push (λ literal. IsTrue (is_literal literal)) c.loop-number.literals c.negated.result c.loop-number.invariant.literals c.negated.ensures.literal);
    }
