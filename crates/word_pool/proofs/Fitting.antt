-- Runs that share no word have no more words together than the region.
use Rattle.std.proofs.Common.{◌≡◌, ◌≢◌, ◌⊎◌, ℕ, zero, suc, ◌+◌, ◌-◌, ◌<◌, ◌≤◌, List, [], ◌∷◌, Option, None, length, slice_set, refl, ap, subst, sym, inl, inr, arith}
use Rattle.std.proofs.lemmas.Bool.{cases_eq, cases_lt}
use Rattle.std.proofs.lemmas.List.{get_or-set_same, get_or-set_other}
use Rattle.std.proofs.lemmas.List.Sums.{sum_by-cons}
use Rattle.word_pool.specs.declared.runs.Run.{Run}
use Rattle.word_pool.specs.Layout.{run_at, slot_offset, slot_length, offset_of, length_of, slots_length, IsLaidOut}
use Rattle.word_pool.proofs.Changes.{slots_length-set}

slots_length_cons : (slot : Option Run) (slots : List (Option Run)) → slots_length (slot ∷ slots) ≡ slot_length slot + slots_length slots
unfolding slots_length
slots_length_cons slot slots = sum_by-cons slot_length slot slots

slots_length_nil : slots_length [] ≡ 0
unfolding slots_length
slots_length_nil = refl

-- the runs with words end by n
abbrev EndBy : List (Option Run) → ℕ → Type 0
EndBy slots n = (id : ℕ) → 0 < length_of slots id → offset_of slots id + length_of slots id ≤ n

abbrev AreSeparate : List (Option Run) → Type 0
AreSeparate slots = (id next : ℕ) → id ≢ next → 0 < length_of slots id → 0 < length_of slots next
    → offset_of slots id ≤ offset_of slots next → offset_of slots id + length_of slots id ≤ offset_of slots next

-- a run with words that ends at n
record EndsAt (slots : List (Option Run)) (n : ℕ) : Type 0 where
  id : ℕ
  in_table : id < length slots
  some : 0 < length_of slots id
  end : offset_of slots id + length_of slots id ≡ n

last_run : (slots : List (Option Run)) (n : ℕ) → EndsAt slots n ⊎ ((id : ℕ) → 0 < length_of slots id → offset_of slots id + length_of slots id ≢ n)
last_run [] n = inr (λ id pos. absurd (omega arith))
last_run (slot ∷ slots) n = elim (last_run slots n) [
  | inl e ↦ inl (record { id = suc e.id; in_table = omega (arith, e.in_table); some = e.some; end = e.end })
  | inr none ↦ elim (cases_eq (slot_offset slot + slot_length slot) n) [
    | inl e ↦ elim (cases_lt 0 (slot_length slot)) [
      | inl some ↦ inl (record { id = 0; in_table = omega arith; some = some; end = e })
      | inr empty ↦ inr (not_here slot slots n none (λ pos. absurd (omega arith)))
    ]
    | inr ne ↦ inr (not_here slot slots n none (λ _. ne))
  ]
]
  where
    not_here : (slot : Option Run) (slots : List (Option Run)) (n : ℕ) → ((id : ℕ) → 0 < length_of slots id → offset_of slots id + length_of slots id ≢ n)
        → (0 < slot_length slot → slot_offset slot + slot_length slot ≢ n)
        → (id : ℕ) → 0 < length_of (slot ∷ slots) id → offset_of (slot ∷ slots) id + length_of (slot ∷ slots) id ≢ n
    not_here slot slots n none here zero = here
    not_here slot slots n none here (suc id) = none id

no_words : (slots : List (Option Run)) → EndBy slots 0 → slots_length slots ≡ 0
no_words [] ends = slots_length_nil
no_words (slot ∷ slots) ends = elim (cases_lt 0 (slot_length slot)) [
  | inl some ↦ absurd (let e : slot_offset slot + slot_length slot ≤ 0 = ends 0 some in omega arith)
  | inr none ↦ omega (arith, slots_length_cons slot slots, no_words slots (λ id. ends (suc id)))
]

separate_fit : (fuel n : ℕ) (slots : List (Option Run)) → n ≤ fuel → EndBy slots n → AreSeparate slots → slots_length slots ≤ n
separate_fit zero n slots le ends apart = omega (arith, no_words slots (λ id pos. omega (arith, ends id pos)))
separate_fit (suc fuel) zero slots le ends apart = omega (arith, no_words slots ends)
separate_fit (suc fuel) (suc n) slots le ends apart = elim (last_run slots (suc n)) [
  | inl e ↦
      let gone : run_at (slice_set slots e.id None) e.id ≡ None = get_or-set_same slots e.id None None e.in_table in
      let other : (q : ℕ) → q ≢ e.id → run_at (slice_set slots e.id None) q ≡ run_at slots q = λ q ne. get_or-set_other slots e.id q None None ne in
      let stands : (q : ℕ) → 0 < length_of (slice_set slots e.id None) q → q ≢ e.id = λ q pos is. omega (arith, ap slot_length gone, ap (λ i. length_of (slice_set slots e.id None) i) is) in
      let before : (q : ℕ) → q ≢ e.id → 0 < length_of slots q → offset_of slots q + length_of slots q ≤ suc n - length_of slots e.id = λ q ne pos. elim (cases_lt (offset_of slots e.id) (offset_of slots q)) [
        | inl after ↦ absurd (omega (arith, ends q pos, e.end, apart e.id q (λ is. ne (sym is)) e.some pos (omega arith)))
        | inr le ↦ omega (arith, e.end, apart q e.id ne pos e.some le)
      ] in
      let rest : slots_length (slice_set slots e.id None) ≤ suc n - length_of slots e.id =
      separate_fit fuel (suc n - length_of slots e.id) (slice_set slots e.id None) (omega (arith, e.some))
      (λ q pos. subst (λ slot. slot_offset slot + slot_length slot ≤ suc n - length_of slots e.id) (sym (other q (stands q pos)))
      (before q (stands q pos) (omega (arith, ap slot_length (other q (stands q pos))))))
      (λ q next ne a b. let at = other q (stands q a) in let to = other next (stands next b) in
      λ le. omega (
        arith,
        ap slot_offset at,
        ap slot_length at,
        ap slot_offset to,
        apart q next ne (omega (arith, ap slot_length at)) (omega (arith, ap slot_length to)) (omega (arith, ap slot_offset at, ap slot_offset to)),
      )) in
      omega (arith, rest, slots_length-set slots e.id None e.in_table, e.end)
  | inr none ↦ omega (
    arith,
    separate_fit fuel n slots (omega arith) (λ id pos. let le = ends id pos in let ne = none id pos in elim (cases_lt (offset_of slots id + length_of slots id) (suc n)) [
      | inl lt ↦ omega arith
      | inr ge ↦ absurd (ne (omega arith))
    ]) apart,
  )
]

pub laid_out_fits : {words : List ℕ} {slots : List (Option Run)} → IsLaidOut words slots → slots_length slots ≤ length words
laid_out_fits {words = words} {slots = slots} laid = separate_fit (length words) (length words) slots (omega arith) (λ id pos. laid.within id) laid.apart
