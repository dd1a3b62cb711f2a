-- Lists of numbers.
use Rattle.std.proofs.Common.{◌≡◌, ap, ◌∙◌, ℕ, zero, suc, ◌+◌, List, [], ◌∷◌, ◌++◌, arith}
use Rattle.std.specs.List.{range_with_len}

range-longer : (first count last : ℕ) → first + count ≡ last → range_with_len first (suc count) ≡ range_with_len first count ++ last ∷ []
range-longer first zero last end = let e : first ≡ last = omega arith in ap (λ (n : ℕ). n ∷ []) e
range-longer first (suc count) last end = ap (λ (list : List ℕ). first ∷ list) (range-longer (first + 1) count last (omega arith))

pub range-more : (first count last : ℕ) → first + count ≡ last → range_with_len first (count + 1) ≡ range_with_len first count ++ last ∷ []
range-more first count last end =
    let e : count + 1 ≡ suc count = omega arith in
    ap (λ n. range_with_len first n) e ∙ range-longer first count last end
