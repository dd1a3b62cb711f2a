-- Numbers by first mention.
use Rattle.std.proofs.Common.{◌≡◌, ◌≢◌, ℕ, zero, suc, ◌<◌, ◌⊎◌, inl, inr, Bool, true, false, eqb, cond, Decides, List, [], ◌∷◌, ◌++◌, length, get_or, refl, sym, ap, ◌∙◌, subst, ⊎_elim, arith, ◌≤◌, map}
use Rattle.std.proofs.lemmas.List.{length_push}
use Rattle.std.specs.Str.{bytes_eq}
use Rattle.std.proofs.lemmas.Bool.{false≢true}
use Rattle.std.proofs.lemmas.Bool.Decides.{Decides-eqb, Decides-and}
use Rattle.std.proofs.lemmas.Slice.Eq.{bytes_eq-Decides}
use Rattle.blif_flattening.specs.declared.model.Signal.{Signal}
use Rattle.blif_flattening.specs.Hierarchy.{Path}
use Rattle.blif_flattening.specs.Numbers.{same_signal, is_among, onto, place_of}
use Rattle.blif_flattening.specs.Members.{Among, Apart}
use Rattle.blif_flattening.proofs.Members.{Among-left, Among-right, from_append, Among-at}

-- a test and what it decides, as two cases
pub told : {P : Type 0} (test : Bool) → Decides test P → ((test ≡ true) × P) ⊎ ((test ≡ false) × (P → ⊥))
told true decides = inl (refl, decides.0 refl)
told false decides = inr (refl, λ holds. false≢true (decides.1 holds))

same_parts : (one other : Signal) → one.name ≡ other.name → one.path ≡ other.path → one ≡ other
same_parts one other names paths =
    let by_path : one ≡ record { path = other.path; name = one.name } =
    ap (λ (path : Path). let signal : Signal = record { path = path; name = one.name } in signal) paths in
    let by_name : ◌≡◌ {A = Signal} (record { path = other.path; name = one.name }) other =
    ap (λ (name : ℕ). let signal : Signal = record { path = other.path; name = name } in signal) names in
    by_path ∙ by_name

pub Decides-same_signal : (one other : Signal) → Decides (same_signal one other) (one ≡ other)
Decides-same_signal one other =
    let parts = Decides-and (eqb one.name other.name) (bytes_eq one.path other.path) (Decides-eqb one.name other.name) (bytes_eq-Decides one.path other.path) in (
      λ yes. let both = parts.0 yes in same_parts one other both.0 both.1,
      λ is. parts.1 (ap (λ (signal : Signal). signal.name) is, ap (λ (signal : Signal). signal.path) is),
    )

pub same_or_not : (one other : Signal) → ((same_signal one other ≡ true) × (one ≡ other)) ⊎ ((same_signal one other ≡ false) × (one ≢ other))
same_or_not one other = told (same_signal one other) (Decides-same_signal one other)

-- whether a signal is in a list
in_or_not : (xs : List Signal) (x : Signal) → ((is_among xs x ≡ true) × Among x xs) ⊎ ((is_among xs x ≡ false) × (Among x xs → ⊥))
in_or_not [] x = inr (refl, λ none. none)
in_or_not (y ∷ xs) x =
    ⊎_elim
    (λ here. inl (rw here.0 refl, inl here.1))
    (λ not_here. ⊎_elim
    (λ later. inl (rw (not_here.0, later.0) refl, inr later.1))
    (λ nowhere. inr (rw (not_here.0, nowhere.0) refl, λ there. ⊎_elim (λ here. not_here.1 here) (λ later. nowhere.1 later) there))
    (in_or_not xs x))
    (same_or_not y x)

pub Among-told : (xs : List Signal) (x : Signal) → ((is_among xs x ≡ true) × Among x xs) ⊎ ((is_among xs x ≡ false) × (Among x xs → ⊥))
Among-told xs x = in_or_not xs x

-- one more signal
pub onto-seen : (seen : List Signal) (x : Signal) (xs : List Signal) → Among x seen → onto seen (x ∷ xs) ≡ onto seen xs
onto-seen seen x xs there =
    ⊎_elim (λ yes. ap (λ b. onto (cond b seen (seen ++ x ∷ [])) xs) yes.0) (λ no. absurd (no.1 there)) (in_or_not seen x)

pub onto-new : (seen : List Signal) (x : Signal) (xs : List Signal) → (Among x seen → ⊥) → onto seen (x ∷ xs) ≡ onto (seen ++ x ∷ []) xs
onto-new seen x xs not =
    ⊎_elim (λ yes. absurd (not yes.1)) (λ no. ap (λ b. onto (cond b seen (seen ++ x ∷ [])) xs) no.0) (in_or_not seen x)

pub onto-append : (seen xs ys : List Signal) → onto seen (xs ++ ys) ≡ onto (onto seen xs) ys
onto-append seen [] ys = refl
onto-append seen (x ∷ xs) ys = onto-append (cond (is_among seen x) seen (seen ++ x ∷ [])) xs ys

-- what was seen stays, and what is mentioned is seen
pub onto-keeps : (seen xs : List Signal) (x : Signal) → Among x seen → Among x (onto seen xs)
onto-keeps seen [] x there = there
onto-keeps seen (y ∷ xs) x there =
    ⊎_elim (λ old. rw (onto-seen seen y xs old.1) (onto-keeps seen xs x there))
    (λ new. rw (onto-new seen y xs new.1) (onto-keeps (seen ++ y ∷ []) xs x (Among-left x seen (y ∷ []) there))) (in_or_not seen y)

pub onto-adds : (seen xs : List Signal) (x : Signal) → Among x xs → Among x (onto seen xs)
onto-adds seen [] x none = absurd none
onto-adds seen (y ∷ xs) x (inr there) = onto-adds (cond (is_among seen y) seen (seen ++ y ∷ [])) xs x there
onto-adds seen (y ∷ xs) x (inl is) =
    subst (λ w. Among w (onto seen (y ∷ xs))) is
    (⊎_elim (λ old. rw (onto-seen seen y xs old.1) (onto-keeps seen xs y old.1))
    (λ new. rw (onto-new seen y xs new.1) (onto-keeps (seen ++ y ∷ []) xs y (Among-right y seen (y ∷ []) (inl refl)))) (in_or_not seen y))

pub onto-from : (seen xs : List Signal) (x : Signal) → Among x (onto seen xs) → Among x seen ⊎ Among x xs
onto-from seen [] x there = inl there
onto-from seen (y ∷ xs) x there =
    ⊎_elim
    (λ old. ⊎_elim (λ first. inl first) (λ later. inr (inr later)) (onto-from seen xs x (rw (onto-seen seen y xs old.1) at there)))
    (λ new. ⊎_elim
    (λ first. ⊎_elim (λ kept. inl kept) (λ last. inr (⊎_elim (λ here. inl here) (λ none. absurd none) last)) (from_append x seen (y ∷ []) first))
    (λ later. inr (inr later)) (onto-from (seen ++ y ∷ []) xs x (rw (onto-new seen y xs new.1) at there)))
    (in_or_not seen y)

-- no signal is there twice
pub Apart-push : (xs : List Signal) (x : Signal) → Apart xs → (Among x xs → ⊥) → Apart (xs ++ x ∷ [])
Apart-push [] x apart not = (λ none. none, tt)
Apart-push (y ∷ xs) x apart not = (
  λ there. ⊎_elim (λ first. apart.0 first) (λ last. ⊎_elim (λ is. not (inl (sym is))) (λ none. none) last) (from_append y xs (x ∷ []) there),
  Apart-push xs x apart.1 (λ there. not (inr there)),
)

pub Apart-onto : (seen xs : List Signal) → Apart seen → Apart (onto seen xs)
Apart-onto seen [] apart = apart
Apart-onto seen (x ∷ xs) apart =
    ⊎_elim (λ old. rw (onto-seen seen x xs old.1) (Apart-onto seen xs apart))
    (λ new. rw (onto-new seen x xs new.1) (Apart-onto (seen ++ x ∷ []) xs (Apart-push seen x apart new.1))) (in_or_not seen x)

-- the place of a signal
pub place-within : (xs : List Signal) (x : Signal) → Among x xs → place_of xs x < length xs
place-within [] x none = absurd none
place-within (y ∷ xs) x there =
    ⊎_elim (λ same. rw same.0 (omega arith))
    (λ other. rw other.0 (let rest = ⊎_elim {C = place_of xs x < length xs} (λ here. absurd (other.1 here)) (λ later. place-within xs x later) there in omega arith))
    (same_or_not y x)

pub get_or-place_of : (xs : List Signal) (x d : Signal) → Among x xs → get_or xs (place_of xs x) d ≡ x
get_or-place_of [] x d none = absurd none
get_or-place_of (y ∷ xs) x d there =
    ⊎_elim (λ same. rw same.0 same.1)
    (λ other. rw other.0 (⊎_elim (λ here. absurd (other.1 here)) (λ later. get_or-place_of xs x d later) there)) (same_or_not y x)

pub place_of-get_or : (xs : List Signal) (k : ℕ) (d : Signal) → Apart xs → k < length xs → place_of xs (get_or xs k d) ≡ k
place_of-get_or [] k d apart lt = absurd (omega arith)
place_of-get_or (x ∷ xs) zero d apart lt =
    ⊎_elim (λ same. rw same.0 refl) (λ other. absurd (other.1 refl)) (same_or_not x x)
place_of-get_or (x ∷ xs) (suc k) d apart lt =
    let there = Among-at xs k d (omega arith) in
    ⊎_elim (λ same. absurd (apart.0 (subst (λ w. Among w xs) (sym same.1) there)))
    (λ other. rw other.0 (ap suc (place_of-get_or xs k d apart.1 (omega arith)))) (same_or_not x (get_or xs k d))

-- lists of signals that were seen grow
pub onto-longer : (seen xs : List Signal) → length seen ≤ length (onto seen xs)
onto-longer seen [] = omega arith
onto-longer seen (x ∷ xs) =
    ⊎_elim (λ old. rw (onto-seen seen x xs old.1) (onto-longer seen xs))
    (λ new. rw (onto-new seen x xs new.1) (let more = onto-longer (seen ++ x ∷ []) xs in omega (arith, more, length_push seen x)))
    (in_or_not seen x)

-- and a signal that was seen keeps its number
place_of-append : (seen more : List Signal) (x : Signal) → Among x seen → place_of (seen ++ more) x ≡ place_of seen x
place_of-append [] more x none = absurd none
place_of-append (y ∷ seen) more x there =
    ⊎_elim (λ same. rw same.0 refl)
    (λ other. rw other.0 (ap suc (⊎_elim (λ here. absurd (other.1 here)) (λ later. place_of-append seen more x later) there)))
    (same_or_not y x)

pub place_of-onto : (seen xs : List Signal) (x : Signal) → Among x seen → place_of (onto seen xs) x ≡ place_of seen x
place_of-onto seen [] x there = refl
place_of-onto seen (y ∷ xs) x there =
    ⊎_elim (λ old. rw (onto-seen seen y xs old.1) (place_of-onto seen xs x there))
    (λ new. rw (onto-new seen y xs new.1) (place_of-onto (seen ++ y ∷ []) xs x (Among-left x seen (y ∷ []) there) ∙ place_of-append seen (y ∷ []) x there))
    (in_or_not seen y)

pub numbers-stay : (seen xs : List Signal) (names : List Signal) → ((x : Signal) → Among x names → Among x seen)
    → map (place_of (onto seen xs)) names ≡ map (place_of seen) names
numbers-stay seen xs [] all = refl
numbers-stay seen xs (x ∷ names) all =
    let first = place_of-onto seen xs x (all x (inl refl)) in
    let rest = numbers-stay seen xs names (λ y there. all y (inr there)) in
    cc
