-- The names of an instance, one by one.
use Rattle.std.proofs.Common.{◌≡◌, ℕ, zero, suc, ◌+◌, ◌≤◌, inl, inr, List, [], ◌∷◌, ◌++◌, length, drop, slice_get, min, Option, Some, refl, sym, ap, ◌∙◌, ◌⊎◌, ⊎_elim, append_assoc, arith}
use Rattle.std.proofs.lemmas.Bool.{cases_lt}
use Rattle.std.proofs.lemmas.List.{drop_all}
use Rattle.psl_tree.specs.declared.name.Name.{Name}
use Rattle.blif_flat.specs.Naming.{name_with, names_with}

none-left : (prefix : List ℕ) (texts : List (List ℕ)) → names_with prefix [] texts ≡ []
none-left prefix [] = refl
none-left prefix (text ∷ texts) = refl

pub names_end : (prefix : List ℕ) (numbers : List (Option ℕ)) (texts : List (List ℕ)) (m : ℕ)
    → (length numbers ≤ m) ⊎ (length texts ≤ m) → names_with prefix (drop m numbers) (drop m texts) ≡ []
names_end prefix numbers texts m (inl past) =
    ap (λ (list : List (Option ℕ)). names_with prefix list (drop m texts)) (drop_all m numbers past) ∙ none-left prefix (drop m texts)
names_end prefix numbers texts m (inr past) =
    ap (λ (list : List (List ℕ)). names_with prefix (drop m numbers) list) (drop_all m texts past)

names-step : (prefix : List ℕ) (numbers : List (Option ℕ)) (texts : List (List ℕ)) (k : ℕ) (number : Option ℕ) (text : List ℕ)
    → slice_get numbers k ≡ Some number → slice_get texts k ≡ Some text
    → names_with prefix (drop k numbers) (drop k texts)
    ≡ name_with prefix number text ++ names_with prefix (drop (suc k) numbers) (drop (suc k) texts)
names-step prefix [] texts k number text is at = cc
names-step prefix (n ∷ numbers) [] k number text is at = cc
names-step prefix (n ∷ numbers) (t ∷ texts) zero number text is at =
    let one : n ≡ number = cc in
    let two : t ≡ text = cc in
    ap (λ (o : Option ℕ). name_with prefix o t ++ names_with prefix numbers texts) one
    ∙ ap (λ (w : List ℕ). name_with prefix number w ++ names_with prefix numbers texts) two
names-step prefix (n ∷ numbers) (t ∷ texts) (suc k) number text is at = names-step prefix numbers texts k number text is at

pub names_next : (prefix : List ℕ) (numbers : List (Option ℕ)) (texts : List (List ℕ)) (k : ℕ) (number : Option ℕ) (text : List ℕ) (front more : List Name)
    → slice_get numbers k ≡ Some number → slice_get texts k ≡ Some text → more ≡ front ++ name_with prefix number text
    → front ++ names_with prefix (drop k numbers) (drop k texts) ≡ more ++ names_with prefix (drop (k + 1) numbers) (drop (k + 1) texts)
names_next prefix numbers texts k number text front more is at grown =
    let rest = names_with prefix (drop (suc k) numbers) (drop (suc k) texts) in
    let next : suc k ≡ k + 1 = omega arith in
    ap (λ (names : List Name). front ++ names) (names-step prefix numbers texts k number text is at)
    ∙ sym (append_assoc front (name_with prefix number text) rest)
    ∙ ap (λ (names : List Name). names ++ rest) (sym grown)
    ∙ ap (λ n. more ++ names_with prefix (drop n numbers) (drop n texts)) next

pub past-min : (m a b n : ℕ) → m ≡ min a b → m ≤ n → (a ≤ n) ⊎ (b ≤ n)
past-min m a b n is past = ⊎_elim (λ below. inr (omega (arith, below, is, past))) (λ above. inl above) (cases_lt n a)
