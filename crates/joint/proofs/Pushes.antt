-- One literal more for each number.
use Rattle.std.proofs.Common.{◌≡◌, ℕ, ◌+◌, ℤ, List, [], ◌∷◌, ◌++◌, map, sym, ap, ◌∙◌, arith, append_assoc}
use Rattle.std.specs.List.{range_with_len}
use Rattle.std.proofs.lemmas.List.FromFn.{map-range_with_len_more}

pub pushed : (old literals new : List ℤ) (f : ℕ → ℤ) (number : ℕ) (literal : ℤ) → literals ≡ old ++ map f (range_with_len 0 number) → new ≡ literals ++ literal ∷ [] → literal ≡ f number
    → new ≡ old ++ map f (range_with_len 0 (number + 1))
pushed old literals new f number literal so_far push is =
    push ∙ ap (λ list. list ++ literal ∷ []) so_far ∙ append_assoc old (map f (range_with_len 0 number)) (literal ∷ [])
    ∙ ap (λ l. old ++ (map f (range_with_len 0 number) ++ l ∷ [])) is
    ∙ ap (λ list. old ++ list) (sym (map-range_with_len_more f 0 number number (omega arith)))
