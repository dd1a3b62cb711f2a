-- The bits of a state among the values of a model.
use Rattle.std.proofs.Common.{◌≡◌, sym, ap, ◌∙◌, ℕ, suc, ◌+◌, ◌<◌, Bool as Truth, false, List, length, get_or, arith}
use Rattle.std.proofs.lemmas.List.FromFn.{fill_by_all}
use Rattle.gates_theory.specs.Circuits.{AreSame}
use Rattle.joint.specs.Slices.{bits_from}
use Rattle.joint_selectors.specs.Missed.{values_from}
use Rattle.run_terms.specs.Formulas.{values_of}

-- values that are the same as those of a state's bits are these bits
pub bits-same : (values bits : List Truth) (start count : ℕ) → length bits ≡ count
    → AreSame count (values_from start (values_of values)) (values_of bits) → bits_from values start count ≡ bits
bits-same values bits start count size same =
    sym (fill_by_all (λ number. get_or values (start + number) false) bits count false size each)
  where
    each : (k : ℕ) → k < count → get_or bits k false ≡ get_or values (start + k) false
    each k below =
        ap (λ (n : ℕ). get_or bits n false) (omega arith) ∙ sym (same (suc k) (omega arith) (omega arith))
        ∙ ap (λ (n : ℕ). get_or values n false) (omega arith)

pub first-same : (values bits : List Truth) (count : ℕ) → length bits ≡ count → AreSame count (values_of values) (values_of bits)
    → bits_from values 0 count ≡ bits
first-same values bits count size same =
    bits-same values bits 0 count size (λ k some few. ap (λ (n : ℕ). values_of values n) (omega arith) ∙ same k some few)
