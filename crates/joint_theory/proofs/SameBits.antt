-- Bits of one state are the same wherever they stand.
use Rattle.std.proofs.Common.{◌≡◌, inl, inr, refl, sym, ap, ◌∙◌, ℕ, zero, suc, ◌+◌, ◌-◌, ◌<◌, Bool as Truth, List, Option, None, Some, arith}
use Rattle.std.proofs.lemmas.Bool.{cases_lt}
use Rattle.clauses.specs.Models.{Assignment}
use Rattle.alternating_theory.specs.Obligations.{Automaton}
use Rattle.netlist.specs.Design.{Design}
use Rattle.run_terms.specs.Positions.{position_width}
use Rattle.joint_theory.specs.Bits.{count_of, AreBits}
use Rattle.joint_theory.specs.declared.path.JointState.{JointState}
use Rattle.joint_theory.proofs.StateBits.{AreMoved}

module _ (design : Design) (automaton : Automaton) (visits from to : ℕ) (v w : Assignment) (x : JointState)
    (bits : AreBits design automaton visits from v x) (also : AreBits design automaton visits to w x) where
  abbrev many : ℕ
  many = count_of automaton

  abbrev narrow : ℕ
  narrow = position_width design.signals

  -- two equal values, at variables that are written in another way
  placed : (k i j : ℕ) → i ≡ suc (from + k) → j ≡ suc (to + k) → w j ≡ v i → w (suc (to + k)) ≡ v (suc (from + k))
  placed k i j e f same = ap w (sym f) ∙ same ∙ ap v e

  earlier-same : (signal : ℕ) → signal < design.signals → (before : Option (List Truth)) → x.before ≡ before → w (suc (to + 1 + signal)) ≡ v (suc (from + 1 + signal))
  earlier-same signal below None e = also.none_before e signal below ∙ sym (bits.none_before e signal below)
  earlier-same signal below (Some previous) e =
      also.position.bits_before previous e signal below ∙ sym (bits.position.bits_before previous e signal below)

  in-position : (k : ℕ) → k < narrow → w (suc (to + k)) ≡ v (suc (from + k))
  in-position zero below =
      placed 0 (suc from) (suc to) (omega arith) (omega arith) (also.position.preceded ∙ sym bits.position.preceded)
  in-position (suc k) below = elim (cases_lt k design.signals) [
    | inl low ↦ placed (suc k) (suc (from + 1 + k)) (suc (to + 1 + k)) (omega arith) (omega arith) (earlier-same k low x.before refl)
    | inr high ↦ (let n = k - design.signals in
        placed (suc k) (suc (from + 1 + design.signals + (k - design.signals))) (suc (to + 1 + design.signals + (k - design.signals))) (omega arith) (omega arith)
        (also.position.bits (k - design.signals) (omega arith) ∙ sym (bits.position.bits (k - design.signals) (omega arith))))
  ]

  behind-position : (k : ℕ) → k < many + many + suc visits → w (suc (to + (narrow + k))) ≡ v (suc (from + (narrow + k)))
  behind-position k below = elim (cases_lt k many) [
    | inl low ↦ placed (narrow + k) (suc (from + narrow + k)) (suc (to + narrow + k)) (omega arith) (omega arith) (also.owed k low ∙ sym (bits.owed k low))
    | inr high ↦ elim (cases_lt k (many + many)) [
      | inl low ↦ placed (narrow + k) (suc (from + narrow + many + (k - many))) (suc (to + narrow + many + (k - many))) (omega arith) (omega arith)
          (also.pending (k - many) (omega arith) ∙ sym (bits.pending (k - many) (omega arith)))
      | inr more ↦ placed (narrow + k) (suc (from + narrow + many + many + (k - (many + many)))) (suc (to + narrow + many + many + (k - (many + many)))) (omega arith) (omega arith)
          (also.count (k - (many + many)) (omega arith) ∙ sym (bits.count (k - (many + many)) (omega arith)))
    ]
  ]

  pub same-bits : AreMoved design automaton visits from to v w
  same-bits k below = elim (cases_lt k narrow) [
    | inl low ↦ in-position k low
    | inr high ↦ (
        let e : narrow + (k - narrow) ≡ k = omega arith in
        ap (λ (n : ℕ). w (suc (to + n))) (sym e) ∙ behind-position (k - narrow) (omega arith) ∙ ap (λ (n : ℕ). v (suc (from + n))) e)
  ]
