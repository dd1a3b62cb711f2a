-- What is asked for: two parts of a combination, one after the other, and one obligation more.
use Rattle.std.proofs.Common.{◌≡◌, sym, ap, ◌∙◌, ℕ, Bool as Truth, true, false, ◌||◌, refl, ◌++◌}
use Rattle.std.specs.List.{list_any}
use Rattle.std.proofs.lemmas.List.Folds.{list_any-append}
use Rattle.alternating_theory.specs.Positive.{Positive}
use Rattle.joint_theory.specs.Guards.{allows, guards, Guard}
use Rattle.psl_tree.specs.declared.letter.Letter.{Letter}

or-moved : (a b c : Truth) → ((a || b) || c) ≡ (a || (b || c))
or-moved true b c = refl
or-moved false b c = refl

pub both-marked : (letter : Letter) (left right : Positive) (first second : Guard) (number : ℕ) (old middle new : Truth)
    → middle ≡ (old || list_any (allows letter) (guards first left number))
    → new ≡ (middle || list_any (allows letter) (guards second right number))
    → new ≡ (old || list_any (allows letter) (guards first left number ++ guards second right number))
both-marked letter left right first second number old middle new one two =
    let x = list_any (allows letter) (guards first left number) in
    let y = list_any (allows letter) (guards second right number) in
    two ∙ ap (λ t. t || y) one ∙ or-moved old x y
    ∙ ap (λ t. old || t) (sym (list_any-append (allows letter) (guards first left number) (guards second right number)))

-- the same of what a program reads, where a part stands beside the other one
pub both-read : (letter : Letter) (beside : Guard → Positive → Guard) (guard : Guard) (number : ℕ) (left right sibling other part last : Positive)
    (first second old middle new : Truth) → sibling ≡ right → other ≡ left → part ≡ left → last ≡ right
    → first ≡ allows letter (beside guard sibling) → second ≡ allows letter (beside guard other)
    → ((under : Guard) → allows letter under ≡ first → middle ≡ (old || list_any (allows letter) (guards under part number)))
    → ((under : Guard) → allows letter under ≡ second → new ≡ (middle || list_any (allows letter) (guards under last number)))
    → new ≡ (old || list_any (allows letter) (guards (beside guard right) left number ++ guards (beside guard left) right number))
both-read letter beside guard number left right sibling other part last first second old middle new e f g h one two marked after =
    both-marked letter left right (beside guard right) (beside guard left) number old middle new
    (marked (beside guard right) (sym (one ∙ ap (λ p. allows letter (beside guard p)) e))
    ∙ ap (λ p. old || list_any (allows letter) (guards (beside guard right) p number)) g)
    (after (beside guard left) (sym (two ∙ ap (λ p. allows letter (beside guard p)) f))
    ∙ ap (λ p. middle || list_any (allows letter) (guards (beside guard left) p number)) h)
