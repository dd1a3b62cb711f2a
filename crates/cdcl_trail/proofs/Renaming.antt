-- Passing and adding a propagation under other names of literals, and literals as numbers under their signed names.
use Rattle.std.proofs.Common.{◌≡◌, ℕ, zero, suc, ◌/◌, ◌%◌, ◌<◌, pos, negsuc, neg_ℤ, List, [], ◌∷◌, ◌++◌, map, length, get_or, Option, Some, None, subst, ◌⊎◌, inl, inr, refl, sym, ap, ◌∙◌, arith}
use Rattle.std.specs.List.{Contains}
use Rattle.std.specs.Option.{option_map}
use Rattle.std.proofs.lemmas.Bool.{cases_eq}
use Rattle.std.proofs.lemmas.List.{length-map, get_or-map, map_push}
use Rattle.std.proofs.lemmas.List.Elements.{All-map, All-weaker, Contains-append_cases, Contains-append_right}
use Rattle.clauses.specs.Passing.{IsLeft, Passes, IsOpen, AddsPropagation}
use Rattle.cdcl_trail.specs.Literals.{opposite, signed}
use Rattle.cdcl_trail.specs.Renaming.{Renames, IsOnce}

contains-map : {A B : Type 0} (f : A → B) (xs : List A) (x : A) → Contains xs x → Contains (map f xs) (f x)
contains-map f xs x there = (there.0, omega (arith, length-map xs f, there.1), get_or-map f xs there.0 x (f x) there.1 ∙ ap f there.2)

only_one : {X : Type 0} → (y x : X) → Contains (y ∷ []) x → y ≡ x
only_one y x (zero, within, is) = is
only_one y x (suc k, within, is) = absurd (omega arith)

first_or_later : {X : Type 0} → (y : X) (xs : List X) (x : X) → Contains (y ∷ xs) x → (y ≡ x) ⊎ Contains xs x
first_or_later y xs x there = elim (Contains-append_cases (y ∷ []) xs x there) [ inl first ↦ inl (only_one y x first) | inr later ↦ inr later ]

-- what has a name in the renamed list has it there
from_map : {A B : Type 0} (f : A → B) (xs : List A) (y : B) → Contains (map f xs) y → (x : A) × Contains xs x × (f x ≡ y)
from_map f [] y there = absurd (omega (arith, there.1))
from_map f (x ∷ xs) y there =
    elim (first_or_later (f x) (map f xs) y there) [
      | inl is ↦ (x, (0, omega arith, refl), is)
      | inr later ↦ let found = from_map f xs y later in (found.0, Contains-append_right (x ∷ []) xs found.0 found.1, found.2)
    ]

module _ {A B : Type 0} (f : A → B) (flip : A → A) (flip' : B → B) (keeps : (a : A) → f (flip a) ≡ flip' (f a)) (apart : (a b : A) → f a ≡ f b → a ≡ b) where
  unmap : (xs : List A) (x : A) → Contains (map f xs) (f x) → Contains xs x
  unmap xs x there =
      let found = from_map f xs (f x) there in
      let P : A → Type 0 = λ a. Contains xs a in
      subst P (apart found.0 x found.2) found.1

  unmap_flip : (xs : List A) (x : A) → Contains (map f xs) (flip' (f x)) → Contains xs (flip x)
  unmap_flip xs x there = unmap xs (flip x) (rw keeps there)

  left : (set clause : List A) (literal : A) → IsLeft set clause literal → IsLeft (map f set) (map f clause) (f literal)
  left set clause literal is = record {
    in_clause = contains-map f clause literal is.in_clause;
    not_in_set = λ there. is.not_in_set (unmap set literal there);
    others =
        All-map (λ other. (other ≡ f literal) ⊎ Contains (map f set) other) f clause
        (All-weaker (λ other. (other ≡ literal) ⊎ Contains set other) (λ other. (f other ≡ f literal) ⊎ Contains (map f set) (f other))
        (λ other either. elim either [ inl same ↦ inl (ap f same) | inr there ↦ inr (contains-map f set other there) ])
        clause
        is.others);
  }

  pub passes-map : (live : ℕ → Option (List A)) (live' : ℕ → Option (List B)) (set : List A) (hints : List ℕ) → Renames f live live' → Passes flip live set hints → Passes flip' live' (map f set) hints
  passes-map live live' set [] renames passes = absurd passes
  passes-map live live' set (hint ∷ []) renames passes = (
    map f passes.0,
    renames hint ∙ ap (option_map (map f)) passes.1,
    All-map (Contains (map f set)) f passes.0 (All-weaker (Contains set) (λ other. Contains (map f set) (f other)) (λ other. contains-map f set other) passes.0 passes.2),
  )
  passes-map live live' set (hint ∷ (next ∷ hints)) renames passes =
      let P : List B → Type 0 = λ s. Passes flip' live' s (next ∷ hints) in
      let more = map_push f set (flip passes.1) ∙ ap (λ l. map f set ++ l ∷ []) (keeps passes.1) in (
        map f passes.0,
        f passes.1,
        renames hint ∙ ap (option_map (map f)) passes.2,
        left set passes.0 passes.1 passes.3,
        subst P more (passes-map live live' (set ++ flip passes.1 ∷ []) (next ∷ hints) renames passes.4),
      )

  open-map : (trail clause : List A) → IsOpen flip trail clause → IsOpen flip' (map f trail) (map f clause)
  open-map trail clause (inl true_) = inl (f true_.0, contains-map f clause true_.0 true_.1, contains-map f trail true_.0 true_.2)
  open-map trail clause (inr two) =
      inr (
        f two.0,
        f two.1,
        contains-map f clause two.0 two.2,
        contains-map f clause two.1 two.3,
        λ same. two.4 (apart two.0 two.1 same),
        λ there. two.5 (unmap_flip trail two.0 there),
        λ there. two.6 (unmap_flip trail two.1 there),
      )

  found : (was : Option (List A)) (clause : List B) → option_map (map f) was ≡ Some clause → (old : List A) × (was ≡ Some old) × (map f old ≡ clause)
  found None clause is = cc
  found (Some old) clause is = (old, refl, cc)

  pub adds-map : (live : ℕ → Option (List A)) (live' : ℕ → Option (List B)) (lemma : List A) → Renames f live live' → AddsPropagation flip live lemma → AddsPropagation flip' live' (map f lemma)
  adds-map live live' lemma renames adds = record {
    literal = f adds.literal;
    trail = map f adds.trail;
    in_lemma = contains-map f lemma adds.literal adds.in_lemma;
    consistent = λ other there both.
        let was = from_map f adds.trail other there in
        let P : B → Type 0 = λ b. Contains (map f adds.trail) (flip' b) in
        adds.consistent was.0 was.1 (unmap_flip adds.trail was.0 (subst P (sym was.2) both));
    falsified =
        All-map (λ other. (other ≡ f adds.literal) ⊎ Contains (map f adds.trail) (flip' other)) f lemma
        (All-weaker (λ other. (other ≡ adds.literal) ⊎ Contains adds.trail (flip other)) (λ other. (f other ≡ f adds.literal) ⊎ Contains (map f adds.trail) (flip' (f other)))
        (λ other either. elim either [ inl same ↦ inl (ap f same) | inr there ↦ inr (rw (← keeps) (contains-map f adds.trail (flip other) there)) ])
        lemma
        adds.falsified);
    not_true = λ there. adds.not_true (unmap adds.trail adds.literal there);
    not_false = λ there. adds.not_false (unmap_flip adds.trail adds.literal there);
    ended = λ number clause live_now.
        let was = found (live number) clause (sym (renames number) ∙ live_now) in
        let P : List B → Type 0 = λ c. IsOpen flip' (map f adds.trail) c in
        subst P was.2 (open-map adds.trail was.0 (adds.ended number was.0 was.1));
  }

  pub once-map : (xs : List A) → IsOnce xs → IsOnce (map f xs)
  once-map [] once place other d order within same = absurd (omega arith)
  once-map (x ∷ xs) once place other d order within same =
      let size = length-map (x ∷ xs) f in
      let here : place < length (x ∷ xs) = omega arith in
      let there : other < length (x ∷ xs) = omega arith in
      once place other x order there (apart (get_or (x ∷ xs) place x) (get_or (x ∷ xs) other x) (sym (get_or-map f (x ∷ xs) place x d here) ∙ same ∙ get_or-map f (x ∷ xs) other x d there))

-- the signed name of a literal
parity : (n : ℕ) → (n % 2 ≡ 0) ⊎ (n % 2 ≡ 1)
parity n = elim (cases_eq (n % 2) 0) [ inl even ↦ inl even | inr odd ↦ inr (omega arith) ]

signed-even : (n : ℕ) → n % 2 ≡ 0 → signed n ≡ pos (suc (n / 2))
signed-even n even = rw even refl

signed-odd : (n : ℕ) → n % 2 ≡ 1 → signed n ≡ negsuc (n / 2)
signed-odd n odd = rw odd refl

pub signed-opposite : (n : ℕ) → signed (opposite n) ≡ neg_ℤ (signed n)
signed-opposite n =
    let same : opposite n / 2 ≡ n / 2 = omega arith in
    elim (parity n) [
      | inl even ↦
          let odd : opposite n % 2 ≡ 1 = omega arith in
          signed-odd (opposite n) odd ∙ ap (λ v. negsuc v) same ∙ sym (ap neg_ℤ (signed-even n even))
      | inr odd ↦
          let even : opposite n % 2 ≡ 0 = omega arith in
          signed-even (opposite n) even ∙ ap (λ v. pos (suc v)) same ∙ sym (ap neg_ℤ (signed-odd n odd))
    ]

pub signed-apart : (a b : ℕ) → signed a ≡ signed b → a ≡ b
signed-apart a b same =
    elim (parity a) [
      | inl even ↦
          elim (parity b) [
            | inl even_too ↦
                let both : pos (suc (a / 2)) ≡ pos (suc (b / 2)) = sym (signed-even a even) ∙ same ∙ signed-even b even_too in
                let halves : suc (a / 2) ≡ suc (b / 2) = cc in
                omega arith
            | inr odd ↦
                let both : pos (suc (a / 2)) ≡ negsuc (b / 2) = sym (signed-even a even) ∙ same ∙ signed-odd b odd in
                cc
          ]
      | inr odd ↦
          elim (parity b) [
            | inl even ↦
                let both : negsuc (a / 2) ≡ pos (suc (b / 2)) = sym (signed-odd a odd) ∙ same ∙ signed-even b even in
                cc
            | inr odd_too ↦
                let both : negsuc (a / 2) ≡ negsuc (b / 2) = sym (signed-odd a odd) ∙ same ∙ signed-odd b odd_too in
                let halves : a / 2 ≡ b / 2 = cc in
                omega arith
          ]
    ]
