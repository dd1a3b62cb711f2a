-- The walk over the region that moves the marked runs together.
use Rattle.std.proofs.Common.{◌≡◌, ◌≢◌, ℕ, zero, suc, ◌+◌, ◌<◌, ◌≤◌, List, [], ◌∷◌, Option, Some, None, length, slice_index, slice_index_or, slice_set, cond, nat_lt, refl, sym, ap, subst, ◌∙◌, inl, inr, arith}
use Rattle.std.specs.List.{sum_by}
use Rattle.std.proofs.lemmas.Bool.{cases_eq, cases_lt, lt-ltb, le-ltb, cond-true, cond-false}
use Rattle.std.proofs.lemmas.List.{get_or-set_same, get_or-set_other}
use Rattle.std.proofs.lemmas.List.Sums.{sum_by-cons, sum_by-set}
use Rattle.word_pool.specs.declared.runs.Run.{Run}
use Rattle.word_pool.specs.Layout.{run_at, slot_offset, slot_length, offset_of, length_of, slots_length, IsLaidOut}
use Rattle.word_pool.specs.Marks.{slot_head, marked_word, IsMarked, HasLengthsOf, MovesWords}
use Rattle.word_pool.proofs.Marking.{for_each_id, in_table, lengths_set}

-- two sums are equal where each of their terms is
pub sum_by_same : {X : Type 0} (f g : X → ℕ) (xs ys : List X) (d : X) → length xs ≡ length ys
    → ((k : ℕ) → k < length xs → f (slice_index_or xs k d) ≡ g (slice_index_or ys k d)) → sum_by f xs ≡ sum_by g ys
sum_by_same f g [] [] d e same = refl
sum_by_same f g [] (y ∷ ys) d e same = absurd (omega arith)
sum_by_same f g (x ∷ xs) [] d e same = absurd (omega arith)
sum_by_same f g (x ∷ xs) (y ∷ ys) d e same =
    let rest : sum_by f xs ≡ sum_by g ys = sum_by_same f g xs ys d (omega arith) (λ k lt. same (suc k) (omega arith)) in
    let here : f x ≡ g y = same 0 (omega arith) in
    omega (arith, sum_by-cons f x xs, sum_by-cons g y ys)

-- how many words a slot has below a place
abbrev pub slot_placed : ℕ → Option Run → ℕ
slot_placed from slot = cond (nat_lt (slot_offset slot) from) (slot_length slot) 0

-- the words of the runs that begin below a place
abbrev pub placed_length : ℕ → List (Option Run) → ℕ
placed_length from slots = sum_by (slot_placed from) slots

slot_placed_below : (from : ℕ) (slot : Option Run) → slot_offset slot < from → slot_placed from slot ≡ slot_length slot
slot_placed_below from slot lt = cond-true _ _ _ (lt-ltb (slot_offset slot) from lt)

slot_placed_above : (from : ℕ) (slot : Option Run) → from ≤ slot_offset slot → slot_placed from slot ≡ 0
slot_placed_above from slot le = cond-false _ _ _ (le-ltb (slot_offset slot) from le)

slot_placed_empty : (from : ℕ) (slot : Option Run) → slot_length slot ≡ 0 → slot_placed from slot ≡ 0
slot_placed_empty from slot none = elim (cases_lt (slot_offset slot) from) [
  | inl lt ↦ slot_placed_below from slot lt ∙ none
  | inr le ↦ slot_placed_above from slot le
]

-- the runs that began below `from` lie together below `to`, and the others are marked as at the start
pub record IsSlid (old : List ℕ) (before : List (Option Run)) (words : List ℕ) (slots : List (Option Run)) (from to : ℕ) : Type 0 where
  pub order : to ≤ from
  pub in_region : from ≤ length words
  pub lengths : HasLengthsOf before slots
  pub laid_out : IsLaidOut words slots
  pub placed : (id : ℕ) → offset_of slots id < from → offset_of slots id + length_of slots id ≤ to
  pub placed_word : (id k : ℕ) → offset_of slots id < from → k < length_of slots id → slice_index words (offset_of slots id + k) ≡ marked_word old before id k
  pub has_id : (id : ℕ) → from ≤ offset_of slots id → 0 < length_of slots id → slice_index words (offset_of slots id) ≡ id
  pub waiting_word : (id k : ℕ) → from ≤ offset_of slots id → k < length_of slots id → marked_word words slots id k ≡ marked_word old before id k
  pub empty_first : (id : ℕ) → length_of slots id ≡ 0 → offset_of slots id ≡ 0
  pub total : to ≡ placed_length from slots

-- at the start
pub slid_none : {words : List ℕ} {slots : List (Option Run)} → IsMarked words slots → IsSlid words slots words slots 0 0
slid_none {slots = slots} m = record {
  order = omega arith;
  in_region = omega arith;
  lengths = record { size = refl; live = λ id. refl; lengths = λ id. refl };
  laid_out = m.laid_out;
  placed = λ id lt. absurd (omega arith);
  placed_word = λ id k lt. absurd (omega arith);
  has_id = λ id _ pos. m.has_id id pos;
  waiting_word = λ id k _ _. refl;
  empty_first = m.empty_first;
  total = sym (sum_by_same (slot_placed 0) (λ _. 0) slots slots None refl (λ k lt. slot_placed_above 0 (run_at slots k) (omega arith)) ∙ no_sum slots);
}
  where
    no_sum : (slots : List (Option Run)) → sum_by (λ _. 0) slots ≡ 0
    no_sum [] = refl
    no_sum (slot ∷ slots) = omega (arith, sum_by-cons (λ (_ : Option Run). 0) slot slots, no_sum slots)

-- a word that begins no run
pub slid_past_gap : {old words : List ℕ} {before slots : List (Option Run)} {from to : ℕ} → IsSlid old before words slots from to → from < length words
    → (0 < length_of slots (slice_index words from) → offset_of slots (slice_index words from) ≢ from) → IsSlid old before words slots (from + 1) to
slid_past_gap {old = old} {words = words} {before = before} {slots = slots} {from = from} {to = to} s lt gap =
    let elsewhere : (id : ℕ) → 0 < length_of slots id → offset_of slots id ≢ from = λ id pos e.
    let is : slice_index words from ≡ id = ap (λ o. slice_index words o) (sym e) ∙ s.has_id id (omega arith) pos in
    gap (rw is pos) (rw is e) in
    let below : (id : ℕ) → 0 < length_of slots id → offset_of slots id < from + 1 → offset_of slots id < from = λ id pos le. let ne = elsewhere id pos in omega arith in
    record {
      order = omega (arith, s.order);
      in_region = omega arith;
      lengths = s.lengths;
      laid_out = s.laid_out;
      placed = λ id le. elim (cases_eq (length_of slots id) 0) [
        | inl none ↦ omega (arith, s.empty_first id none)
        | inr some ↦ s.placed id (below id (omega arith) le)
      ];
      placed_word = λ id k le within. s.placed_word id k (below id (omega arith) le) within;
      has_id = λ id le pos. s.has_id id (omega arith) pos;
      waiting_word = λ id k le within. s.waiting_word id k (omega arith) within;
      empty_first = s.empty_first;
      total = s.total ∙ sum_by_same (slot_placed from) (slot_placed (from + 1)) slots slots None refl (λ id _. elim (cases_eq (length_of slots id) 0) [
        | inl none ↦ slot_placed_empty from (run_at slots id) none ∙ sym (slot_placed_empty (from + 1) (run_at slots id) none)
        | inr some ↦ elim (cases_lt (offset_of slots id) from) [
          | inl lt ↦ slot_placed_below from (run_at slots id) lt ∙ sym (slot_placed_below (from + 1) (run_at slots id) (omega arith))
          | inr le ↦ let ne = elsewhere id (omega arith) in slot_placed_above from (run_at slots id) le ∙ sym (slot_placed_above (from + 1) (run_at slots id) (omega arith))
        ]
      ]);
    }

-- the words that lie below a place, where one run is put from there to somewhere below
placed_more : (slots : List (Option Run)) (n from size : ℕ) (run run' : Run) → n < length slots → run_at slots n ≡ Some run → run.offset ≡ from → run.length ≡ size
    → run'.length ≡ size → run'.offset < from + size
    → ((id : ℕ) → id ≢ n → 0 < length_of slots id → from ≤ offset_of slots id → from + size ≤ offset_of slots id)
    → 0 < size → placed_length (from + size) (slice_set slots n (Some run')) ≡ placed_length from slots + size
placed_more slots n from size run run' lt is at len len' low others pos =
    let here : run_at slots n ≡ Some run = is in
    let none_here : run_at (slice_set slots n None) n ≡ None = get_or-set_same slots n None None lt in
    let before_is_0 : slot_placed from (run_at slots n) ≡ 0 = slot_placed_above from (run_at slots n) (omega (arith, ap slot_offset is)) in
    let after_is_size : slot_placed (from + size) (run_at slots n) ≡ size = slot_placed_below (from + size) (run_at slots n) (omega (arith, ap slot_offset is)) ∙ ap slot_length is ∙ len in
    let new_is_size : slot_placed (from + size) (Some run') ≡ size = slot_placed_below (from + size) (Some run') low ∙ len' in
    let without : placed_length (from + size) (slice_set slots n None) ≡ placed_length from (slice_set slots n None) =
    sum_by_same (slot_placed (from + size)) (slot_placed from) (slice_set slots n None) (slice_set slots n None) None refl
    (λ id _. for_each_id (λ id. slot_placed (from + size) (run_at (slice_set slots n None) id) ≡ slot_placed from (run_at (slice_set slots n None) id)) n
    (rw none_here (slot_placed_empty (from + size) None refl ∙ sym (slot_placed_empty from None refl)))
    (λ id ne. rw (get_or-set_other slots n id None None ne) (elim (cases_eq (length_of slots id) 0) [
      | inl none ↦ slot_placed_empty (from + size) (run_at slots id) none ∙ sym (slot_placed_empty from (run_at slots id) none)
      | inr some ↦ elim (cases_lt (offset_of slots id) from) [
        | inl lt ↦ slot_placed_below (from + size) (run_at slots id) (omega arith) ∙ sym (slot_placed_below from (run_at slots id) lt)
        | inr le ↦ slot_placed_above (from + size) (run_at slots id) (others id ne (omega arith) le) ∙ sym (slot_placed_above from (run_at slots id) le)
      ]
    ])) id) in
    let none_after : slot_placed (from + size) None ≡ 0 = slot_placed_empty (from + size) None refl in
    let none_before : slot_placed from None ≡ 0 = slot_placed_empty from None refl in
    omega (arith, sum_by-set (slot_placed (from + size)) slots n (Some run') None lt, sum_by-set (slot_placed (from + size)) slots n None None lt, sum_by-set (slot_placed from) slots n None None lt)

-- the slot of n has a run of the same length at `to`, and the other slots are the same
record MovesSlot (slots : List (Option Run)) (n from to size : ℕ) (slots' : List (Option Run)) : Type 0 where
  lengths : HasLengthsOf slots slots'
  others : (id : ℕ) → id ≢ n → run_at slots' id ≡ run_at slots id
  offset_before : offset_of slots n ≡ from
  length_before : length_of slots n ≡ size
  offset_after : offset_of slots' n ≡ to
  total : placed_length (from + size) slots' ≡ placed_length from slots + size

slid_past_moved : {old words words' : List ℕ} {before slots slots' : List (Option Run)} {n from to size head : ℕ} → IsSlid old before words slots from to
    → from + size ≤ length words → 0 < size → slot_head (run_at slots n) ≡ head → MovesSlot slots n from to size slots' → MovesWords words from to size head words'
    → ((id : ℕ) → id ≢ n → 0 < length_of slots id → from ≤ offset_of slots id → from + size ≤ offset_of slots id)
    → IsSlid old before words' slots' (from + size) (to + size)
slid_past_moved {old = old} {words = words} {words' = words'} {before = before} {slots = slots} {slots' = slots'} {n = n} {from = from} {to = to} {size = size} {head = head} s within pos is_head v m beyond =
    let same_offset : (id : ℕ) → id ≢ n → offset_of slots' id ≡ offset_of slots id = λ id ne. ap slot_offset (v.others id ne) in
    let same_length : (id : ℕ) → length_of slots' id ≡ length_of slots id = v.lengths.lengths in
    let waits : (id : ℕ) → from + size ≤ offset_of slots' id → id ≢ n = λ id le e. let there : offset_of slots' id ≡ to = ap (λ i. offset_of slots' i) e ∙ v.offset_after in omega (arith, s.order) in
    let early : (id : ℕ) → id ≢ n → 0 < length_of slots id → offset_of slots' id < from + size → offset_of slots id < from = λ id ne some lt. elim (cases_lt (offset_of slots id) from) [
      | inl lt ↦ lt
      | inr le ↦ absurd (omega (arith, beyond id ne some le, same_offset id ne))
    ] in
    let end_of : (id : ℕ) → id ≢ n → 0 < length_of slots id → offset_of slots' id < from + size → offset_of slots' id + length_of slots' id ≤ to = λ id ne some lt.
    omega (arith, s.placed id (early id ne some lt), same_offset id ne, same_length id) in
    let same_word : (id k : ℕ) → id ≢ n → from + size ≤ offset_of slots' id → slice_index words' (offset_of slots' id + k) ≡ slice_index words (offset_of slots id + k) = λ id k ne le.
    m.above (offset_of slots' id + k) (omega (arith, s.order)) ∙ ap (λ o. slice_index words (o + k)) (same_offset id ne) in
    record {
      order = omega (arith, s.order);
      in_region = omega (arith, m.same_length);
      lengths = record {
        size = v.lengths.size ∙ s.lengths.size;
        live = λ id. v.lengths.live id ∙ s.lengths.live id;
        lengths = λ id. same_length id ∙ s.lengths.lengths id;
      };
      laid_out = record {
        within = for_each_id (λ id. offset_of slots' id + length_of slots' id ≤ length words') n
            (omega (arith, v.offset_after, same_length n, v.length_before, s.order, m.same_length))
            (λ id ne. omega (arith, s.laid_out.within id, same_offset id ne, same_length id, m.same_length));
        apart = for_each_id (λ id. (next : ℕ) → id ≢ next → 0 < length_of slots' id → 0 < length_of slots' next
            → offset_of slots' id ≤ offset_of slots' next → offset_of slots' id + length_of slots' id ≤ offset_of slots' next) n
            (λ next ne a b le. elim (cases_lt (offset_of slots' next) (from + size)) [
              | inl lt ↦ absurd (omega (arith, end_of next (λ e. ne (sym e)) (omega (arith, same_length next)) lt, v.offset_after))
              | inr far ↦ omega (arith, v.offset_after, same_length n, v.length_before, s.order)
            ])
            (λ id ne. for_each_id (λ next. id ≢ next → 0 < length_of slots' id → 0 < length_of slots' next
            → offset_of slots' id ≤ offset_of slots' next → offset_of slots' id + length_of slots' id ≤ offset_of slots' next) n
            (λ _ a b le. elim (cases_lt (offset_of slots' id) (from + size)) [
              | inl lt ↦ omega (arith, end_of id ne (omega (arith, same_length id)) lt, v.offset_after)
              | inr far ↦ absurd (omega (arith, v.offset_after, s.order))
            ])
            (λ next ne' apart a b le. omega (
              arith,
              same_offset id ne,
              same_offset next ne',
              same_length id,
              s.laid_out.apart id next apart (omega (arith, same_length id)) (omega (arith, same_length next)) (omega (arith, same_offset id ne, same_offset next ne')),
            )));
      };
      placed = for_each_id (λ id. offset_of slots' id < from + size → offset_of slots' id + length_of slots' id ≤ to + size) n
          (λ _. omega (arith, v.offset_after, same_length n, v.length_before))
          (λ id ne lt. elim (cases_eq (length_of slots id) 0) [
            | inl none ↦ omega (arith, same_offset id ne, same_length id, s.empty_first id none)
            | inr some ↦ omega (arith, end_of id ne (omega arith) lt)
          ]);
      placed_word = for_each_id (λ id. (k : ℕ) → offset_of slots' id < from + size → k < length_of slots' id → slice_index words' (offset_of slots' id + k) ≡ marked_word old before id k) n
          (λ k lt inside. ap (λ o. slice_index words' (o + k)) v.offset_after ∙ moved_word k (omega (arith, same_length n, v.length_before))
          ∙ s.waiting_word n k (omega (arith, v.offset_before)) (omega (arith, same_length n)))
          (λ id ne k lt inside.
          let some : 0 < length_of slots id = omega (arith, same_length id) in
          m.below (offset_of slots' id + k) (omega (arith, end_of id ne some lt)) ∙ ap (λ o. slice_index words (o + k)) (same_offset id ne)
          ∙ s.placed_word id k (early id ne some lt) (omega (arith, same_length id)));
      has_id = λ id le some.
          let ne = waits id le in
          let start : offset_of slots' id ≡ offset_of slots' id + 0 = omega arith in
          let start' : offset_of slots id + 0 ≡ offset_of slots id = omega arith in
          ap (λ o. slice_index words' o) start ∙ same_word id 0 ne le ∙ ap (λ o. slice_index words o) start'
          ∙ s.has_id id (omega (arith, same_offset id ne)) (omega (arith, same_length id));
      waiting_word = λ id k le inside.
          let ne = waits id le in
          waiting_same id k ne le ∙ s.waiting_word id k (omega (arith, same_offset id ne)) (omega (arith, same_length id));
      empty_first = for_each_id (λ id. length_of slots' id ≡ 0 → offset_of slots' id ≡ 0) n
          (λ none. absurd (omega (arith, same_length n, v.length_before)))
          (λ id ne none. same_offset id ne ∙ s.empty_first id (sym (same_length id) ∙ none));
      total = omega (arith, s.total, v.total);
    }
  where
    moved_word : (k : ℕ) → k < size → slice_index words' (to + k) ≡ marked_word words slots n k
    moved_word zero lt = let start : to + 0 ≡ to = omega arith in ap (λ o. slice_index words' o) start ∙ m.first ∙ sym is_head
    moved_word (suc k) lt = m.rest (suc k) (omega arith) lt ∙ ap (λ o. slice_index words (o + suc k)) (sym v.offset_before)

    waiting_same : (id k : ℕ) → id ≢ n → from + size ≤ offset_of slots' id → marked_word words' slots' id k ≡ marked_word words slots id k
    waiting_same id zero ne le = ap slot_head (v.others id ne)
    waiting_same id (suc k) ne le = m.above (offset_of slots' id + suc k) (omega (arith, s.order)) ∙ ap (λ o. slice_index words (o + suc k)) (ap slot_offset (v.others id ne))

-- a run is moved
pub slid_past_run : {old words words' : List ℕ} {before slots : List (Option Run)} {from to : ℕ} → IsSlid old before words slots from to
    → (n size : ℕ) (run run' : Run) → n < length slots → run_at slots n ≡ Some run → run.offset ≡ from → 0 < size → run.length ≡ size
    → run'.length ≡ size → run'.offset ≡ to → MovesWords words from to size run.head words'
    → IsSlid old before words' (slice_set slots n (Some run')) (from + size) (to + size)
slid_past_run {words = words} {slots = slots} {from = from} {to = to} s n size run run' lt is begins pos len len' begins' m =
    let here : run_at (slice_set slots n (Some run')) n ≡ Some run' = get_or-set_same slots n (Some run') None lt in
    let offset_before : offset_of slots n ≡ from = ap slot_offset is ∙ begins in
    let length_before : length_of slots n ≡ size = ap slot_length is ∙ len in
    let beyond : (id : ℕ) → id ≢ n → 0 < length_of slots id → from ≤ offset_of slots id → from + size ≤ offset_of slots id =
    λ id ne some le. omega (arith, s.laid_out.apart n id (λ e. ne (sym e)) (omega arith) some (omega arith)) in
    slid_past_moved s (omega (arith, s.laid_out.within n)) pos (ap slot_head is) (record {
      lengths = lengths_set slots n run run' lt is (len' ∙ sym len);
      others = λ id ne. get_or-set_other slots n id (Some run') None ne;
      offset_before = offset_before;
      length_before = length_before;
      offset_after = ap slot_offset here ∙ begins';
      total = placed_more slots n from size run run' lt is begins len len' (omega (arith, s.order)) beyond pos;
    }) m beyond

-- the same, where the run is the one that begins at `from`
pub slid_past_moved_run : {old words words' : List ℕ} {before slots : List (Option Run)} {from to : ℕ} → IsSlid old before words slots from to
    → (n : ℕ) (run : Run) → run_at slots n ≡ Some run → run.offset ≡ from → 0 < run.length → MovesWords words run.offset to run.length run.head words'
    → IsSlid old before words' (slice_set slots n (Some (record run { offset = to }))) (from + run.length) (to + run.length)
slid_past_moved_run {words = words} {words' = words'} {slots = slots} {to = to} s n run is begins pos m =
    let length_n : length_of slots n ≡ run.length = ap slot_length is in
    let P : ℕ → Type 0 = λ o. MovesWords words o to run.length run.head words' in
    slid_past_run s n run.length run (record run { offset = to }) (in_table slots n (omega arith)) is begins pos refl refl refl (subst P begins m)

-- at the end
pub slid_total : {old words : List ℕ} {before slots : List (Option Run)} {from to : ℕ} → IsSlid old before words slots from to → length words ≤ from → to ≡ slots_length before
unfolding slots_length
slid_total {before = before} {slots = slots} {from = from} s all = s.total ∙ sum_by_same (slot_placed from) slot_length slots before None s.lengths.size
    (λ id _. elim (cases_eq (length_of slots id) 0) [
      | inl none ↦ slot_placed_empty from (run_at slots id) none ∙ sym none ∙ s.lengths.lengths id
      | inr some ↦ slot_placed_below from (run_at slots id) (omega (arith, s.laid_out.within id)) ∙ s.lengths.lengths id
    ])
