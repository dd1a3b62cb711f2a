-- The table when an id is handed out, given back or added.
use Rattle.std.proofs.Common.{◌≡◌, ◌≢◌, ℕ, zero, suc, ◌+◌, ◌<◌, ◌≤◌, List, [], ◌∷◌, ◌++◌, Option, Some, None, is_some, length, take, drop, false, slice_index, slice_set, cond, refl, sym, ap, subst, ◌∙◌, inl, inr, ◌⊎◌, arith}
use Rattle.std.proofs.lemmas.Bool.{cases_lt, false≢true}
use Rattle.std.proofs.lemmas.Option.{none-some}
use Rattle.std.proofs.lemmas.List.{get_or-set_same, get_or-set_other, get_or_past, get_or_append_left, get_or_at, length-set, length-append, length_push, drop_at, take_all, drop-append-le, take-append-le, length-drop}
use Rattle.std.proofs.lemmas.List.Sums.{sum_by-set, sum_by_push}
use Rattle.std.specs.FinMap.{insert}
use Rattle.word_pool.specs.declared.runs.Run.{Run}
use Rattle.word_pool.specs.Layout.{run_at, slot_offset, slot_length, offset_of, length_of, list_in, lists_from, run_words, slots_length, live_slots, IsLaidOut, IsVacantList}
use Rattle.word_pool.specs.Marks.{HasLengthsOf}
use Rattle.word_pool.proofs.Marking.{for_each_id}
use Rattle.word_pool.proofs.Slots.{live_slots_same}
use Rattle.word_pool.proofs.Lists.{same_lists, lists-insert}

-- 1 for a slot with a run
abbrev pub live_count : Option Run → ℕ
live_count slot = cond (is_some slot) 1 0

-- a slot that is None stands past the table too
pub run_at_push : (slots : List (Option Run)) (id : ℕ) → run_at (slots ++ None ∷ []) id ≡ run_at slots id
run_at_push [] zero = refl
run_at_push [] (suc id) = refl
run_at_push (slot ∷ slots) zero = refl
run_at_push (slot ∷ slots) (suc id) = run_at_push slots id

-- SUMS

pub slots_length-set : (slots : List (Option Run)) (id : ℕ) (slot : Option Run) → id < length slots → slots_length (slice_set slots id slot) + length_of slots id ≡ slots_length slots + slot_length slot
unfolding slots_length
slots_length-set slots id slot lt = sum_by-set slot_length slots id slot None lt

pub live_slots-set : (slots : List (Option Run)) (id : ℕ) (slot : Option Run) → id < length slots
    → live_slots (slice_set slots id slot) + cond (is_some (run_at slots id)) 1 0 ≡ live_slots slots + cond (is_some slot) 1 0
unfolding live_slots
live_slots-set slots id slot lt = sum_by-set (λ (slot : Option Run). cond (is_some slot) 1 0) slots id slot None lt

pub slots_length_push : (slots : List (Option Run)) → slots_length (slots ++ None ∷ []) ≡ slots_length slots
unfolding slots_length
slots_length_push slots = omega (arith, sum_by_push slot_length slots None)

pub live_slots_push : (slots : List (Option Run)) → live_slots (slots ++ None ∷ []) ≡ live_slots slots
unfolding live_slots
live_slots_push slots = omega (arith, sum_by_push (λ (slot : Option Run). cond (is_some slot) 1 0) slots None)

-- LAYOUT

-- a run at the end of the region
pub laid_out-insert : (words xs : List ℕ) (slots : List (Option Run)) (id : ℕ) (run : Run) → IsLaidOut words slots → id < length slots
    → run.offset ≡ length words → run.length ≡ length xs → IsLaidOut (words ++ xs) (slice_set slots id (Some run))
laid_out-insert words xs slots id run laid lt begins size =
    let after : List (Option Run) = slice_set slots id (Some run) in
    let here : run_at (slice_set slots id (Some run)) id ≡ Some run = get_or-set_same slots id (Some run) None lt in
    let other : (q : ℕ) → q ≢ id → run_at (slice_set slots id (Some run)) q ≡ run_at slots q = λ q ne. get_or-set_other slots id q (Some run) None ne in
    let start : offset_of (slice_set slots id (Some run)) id ≡ length words = ap slot_offset here ∙ begins in
    let long : length_of (slice_set slots id (Some run)) id ≡ length xs = ap slot_length here ∙ size in
    let end : (q : ℕ) → q ≢ id → offset_of (slice_set slots id (Some run)) q + length_of (slice_set slots id (Some run)) q ≤ length words =
    λ q ne. omega (arith, laid.within q, ap slot_offset (other q ne), ap slot_length (other q ne)) in
    record {
      within = for_each_id (λ q. offset_of (slice_set slots id (Some run)) q + length_of (slice_set slots id (Some run)) q ≤ length (words ++ xs)) id
          (omega (arith, length-append words xs, start, long))
          (λ q ne. omega (arith, length-append words xs, end q ne));
      apart = for_each_id (λ q. (next : ℕ) → q ≢ next → 0 < length_of (slice_set slots id (Some run)) q → 0 < length_of (slice_set slots id (Some run)) next
          → offset_of (slice_set slots id (Some run)) q ≤ offset_of (slice_set slots id (Some run)) next
          → offset_of (slice_set slots id (Some run)) q + length_of (slice_set slots id (Some run)) q ≤ offset_of (slice_set slots id (Some run)) next) id
          (λ next ne a b le. absurd (omega (arith, start, end next (λ e. ne (sym e)))))
          (λ q ne. for_each_id (λ next. q ≢ next → 0 < length_of (slice_set slots id (Some run)) q → 0 < length_of (slice_set slots id (Some run)) next
          → offset_of (slice_set slots id (Some run)) q ≤ offset_of (slice_set slots id (Some run)) next
          → offset_of (slice_set slots id (Some run)) q + length_of (slice_set slots id (Some run)) q ≤ offset_of (slice_set slots id (Some run)) next) id
          (λ _ a b le. omega (arith, start, end q ne))
          (λ next ne' apart a b le. omega (
            arith,
            ap slot_offset (other q ne),
            ap slot_length (other q ne),
            ap slot_offset (other next ne'),
            ap slot_length (other next ne'),
            laid.apart q next apart (omega (arith, ap slot_length (other q ne))) (omega (arith, ap slot_length (other next ne'))) (omega (arith, ap slot_offset (other q ne), ap slot_offset (other next ne'))),
          )));
    }

-- slots with runs at the same places, and perhaps fewer of them
laid_out_part : (words : List ℕ) (slots slots' : List (Option Run)) → IsLaidOut words slots → ((q : ℕ) → (run_at slots' q ≡ run_at slots q) ⊎ (run_at slots' q ≡ None)) → IsLaidOut words slots'
laid_out_part words slots slots' laid part = record {
  within = λ q. elim (part q) [ inl e ↦ omega (arith, laid.within q, ap slot_offset e, ap slot_length e) | inr e ↦ omega (arith, ap slot_offset e, ap slot_length e) ];
  apart = λ q next ne a b le. elim (part q) [
    | inl e ↦ elim (part next) [
      | inl e' ↦ omega (
        arith,
        ap slot_offset e,
        ap slot_length e,
        ap slot_offset e',
        ap slot_length e',
        laid.apart q next ne (omega (arith, ap slot_length e)) (omega (arith, ap slot_length e')) (omega (arith, ap slot_offset e, ap slot_offset e')),
      )
      | inr e' ↦ absurd (omega (arith, ap slot_length e'))
    ]
    | inr e ↦ absurd (omega (arith, ap slot_length e))
  ];
}

pub laid_out-remove : (words : List ℕ) (slots : List (Option Run)) (id : ℕ) → IsLaidOut words slots → id < length slots → IsLaidOut words (slice_set slots id None)
laid_out-remove words slots id laid lt = laid_out_part words slots (slice_set slots id None) laid
    (for_each_id (λ q. (run_at (slice_set slots id None) q ≡ run_at slots q) ⊎ (run_at (slice_set slots id None) q ≡ None)) id
    (inr (get_or-set_same slots id None None lt)) (λ q ne. inl (get_or-set_other slots id q None None ne)))

pub laid_out_push : (words : List ℕ) (slots : List (Option Run)) → IsLaidOut words slots → IsLaidOut words (slots ++ None ∷ [])
laid_out_push words slots laid = laid_out_part words slots (slots ++ None ∷ []) laid (λ q. inl (run_at_push slots q))

-- VACANT IDS

-- the last vacant id is one of the table, and without a run
pub vacant_last : (slots : List (Option Run)) (vacant rest : List ℕ) (id : ℕ) → IsVacantList slots vacant → vacant ≡ rest ++ id ∷ [] → (id < length slots) × (run_at slots id ≡ None)
vacant_last slots vacant rest id v e =
    let size : length vacant ≡ length rest + 1 = ap length e ∙ length_push rest id in
    let last : slice_index vacant (length rest) ≡ id = ap (λ l. slice_index l (length rest)) e ∙ get_or_at rest id [] 0 (length rest) refl in
    (subst (λ i. i < length slots) last (v.in_table (length rest) (omega arith)), subst (λ i. run_at slots i ≡ None) last (v.without_run (length rest) (omega arith)))

-- the last vacant id is handed out
pub vacant_pop : (slots : List (Option Run)) (vacant rest : List ℕ) (id : ℕ) (run : Run) → IsVacantList slots vacant → vacant ≡ rest ++ id ∷ [] → IsVacantList (slice_set slots id (Some run)) rest
vacant_pop slots vacant rest id run v e =
    let size : length vacant ≡ length rest + 1 = ap length e ∙ length_push rest id in
    let last : slice_index vacant (length rest) ≡ id = ap (λ l. slice_index l (length rest)) e ∙ get_or_at rest id [] 0 (length rest) refl in
    let same : (k : ℕ) → k < length rest → slice_index vacant k ≡ slice_index rest k = λ k lt. ap (λ l. slice_index l k) e ∙ get_or_append_left rest (id ∷ []) 0 k lt in
    let known : (id < length slots) × (run_at slots id ≡ None) = vacant_last slots vacant rest id v e in
    let lt : id < length slots = known.0 in
    let none : run_at slots id ≡ None = known.1 in
    let differs : (k : ℕ) → k < length rest → slice_index rest k ≢ id = λ k lt e. v.once k (length rest) lt (omega arith) (same k lt ∙ e ∙ sym last) in
    record {
      in_table = λ k lt. omega (arith, same k lt, v.in_table k (omega arith), length-set slots id (Some run));
      without_run = λ k lt. get_or-set_other slots id (slice_index rest k) (Some run) None (differs k lt)
          ∙ subst (λ i. run_at slots i ≡ None) (same k lt) (v.without_run k (omega arith));
      once = λ j k lt lt' e. v.once j k lt (omega arith) (same j (omega arith) ∙ e ∙ sym (same k lt'));
      all = omega (arith, v.all, length-set slots id (Some run), live_slots-set slots id (Some run) lt, ap live_count none);
    }

-- an id that is without a run joins the others
vacant_more : (slots slots' : List (Option Run)) (vacant : List ℕ) (id : ℕ) → IsVacantList slots vacant → length slots ≤ length slots' → id < length slots' → run_at slots' id ≡ None
    → ((k : ℕ) → k < length vacant → slice_index vacant k ≢ id) → ((q : ℕ) → q ≢ id → run_at slots' q ≡ run_at slots q)
    → length vacant + 1 + live_slots slots' ≡ length slots' → IsVacantList slots' (vacant ++ id ∷ [])
vacant_more slots slots' vacant id v longer lt none new others all =
    let size : length (vacant ++ id ∷ []) ≡ length vacant + 1 = length_push vacant id in
    let last : slice_index (vacant ++ id ∷ []) (length vacant) ≡ id = get_or_at vacant id [] 0 (length vacant) refl in
    let same : (k : ℕ) → k < length vacant → slice_index (vacant ++ id ∷ []) k ≡ slice_index vacant k = λ k lt. get_or_append_left vacant (id ∷ []) 0 k lt in
    let each : (P : ℕ → Type 0) → P id → ((k : ℕ) → k < length vacant → P (slice_index vacant k)) → (k : ℕ) → k < length (vacant ++ id ∷ []) → P (slice_index (vacant ++ id ∷ []) k) =
    λ P here before k within. elim (cases_lt k (length vacant)) [
      | inl lt ↦ subst P (sym (same k lt)) (before k lt)
      | inr le ↦ let is : k ≡ length vacant = omega arith in subst P (sym (ap (λ i. slice_index (vacant ++ id ∷ []) i) is ∙ last)) here
    ] in
    record {
      in_table = each (λ i. i < length slots') lt (λ k lt. omega (arith, v.in_table k lt));
      without_run = each (λ i. run_at slots' i ≡ None) none (λ k lt. others (slice_index vacant k) (new k lt) ∙ v.without_run k lt);
      once = λ j k lt within e. elim (cases_lt k (length vacant)) [
        | inl small ↦ v.once j k lt small (sym (same j (omega arith)) ∙ e ∙ same k small)
        | inr le ↦ let is : k ≡ length vacant = omega arith in new j (omega arith) (sym (same j (omega arith)) ∙ e ∙ ap (λ i. slice_index (vacant ++ id ∷ []) i) is ∙ last)
      ];
      all = omega arith;
    }

-- an id is given back
pub vacant-remove : (slots : List (Option Run)) (vacant : List ℕ) (id : ℕ) (run : Run) → IsVacantList slots vacant → id < length slots → run_at slots id ≡ Some run
    → IsVacantList (slice_set slots id None) (vacant ++ id ∷ [])
vacant-remove slots vacant id run v lt is =
    vacant_more slots (slice_set slots id None) vacant id v (omega (arith, length-set slots id None)) (omega (arith, length-set slots id None))
    (get_or-set_same slots id None None lt)
    (λ k within e. none-some run (sym (v.without_run k within) ∙ ap (λ i. run_at slots i) e ∙ is))
    (λ q ne. get_or-set_other slots id q None None ne)
    (omega (arith, v.all, length-set slots id None, live_slots-set slots id None lt, ap live_count is))

-- an id is added to the table
pub vacant_push : (slots : List (Option Run)) (vacant : List ℕ) → IsVacantList slots vacant → IsVacantList (slots ++ None ∷ []) (vacant ++ length slots ∷ [])
vacant_push slots vacant v =
    vacant_more slots (slots ++ None ∷ []) vacant (length slots) v (omega (arith, length_push slots None)) (omega (arith, length_push slots None))
    (run_at_push slots (length slots) ∙ get_or_past slots (length slots) None (omega arith))
    (λ k within e. omega (arith, v.in_table k within))
    (λ q ne. run_at_push slots q)
    (omega (arith, v.all, length_push slots None, live_slots_push slots))

-- the runs of the slots are others of the same lengths
pub vacant_same : {before after : List (Option Run)} (vacant : List ℕ) → HasLengthsOf before after → IsVacantList before vacant → IsVacantList after vacant
vacant_same {before = before} {after = after} vacant h v = record {
  in_table = λ k lt. omega (arith, h.size, v.in_table k lt);
  without_run = λ k lt. no_run (run_at after (slice_index vacant k)) (h.live (slice_index vacant k) ∙ ap is_some (v.without_run k lt));
  once = v.once;
  all = omega (arith, h.size, live_slots_same h, v.all);
}
  where
    no_run : (slot : Option Run) → is_some slot ≡ false → slot ≡ None
    no_run None e = refl
    no_run (Some run) e = absurd (false≢true (sym e))

-- LISTS

-- a run that lies in the region keeps its words when more are appended
run_words_append : (words xs : List ℕ) (run : Run) → run.offset + run.length ≤ length words → run_words (words ++ xs) run ≡ run_words words run
run_words_append words xs run within =
    ap (take run.length) (drop-append-le run.offset words xs (omega arith))
    ∙ take-append-le run.length (drop run.offset words) xs (omega (arith, length-drop run.offset words))

list_in_append : (words xs : List ℕ) (slot : Option Run) → slot_offset slot + slot_length slot ≤ length words → list_in (words ++ xs) slot ≡ list_in words slot
list_in_append words xs None within = refl
list_in_append words xs (Some run) within = ap Some (run_words_append words xs run within)

-- the run at the end of the region has the words that were appended
run_words_last : (words xs : List ℕ) (run : Run) → run.offset ≡ length words → run.length ≡ length xs → run_words (words ++ xs) run ≡ xs
run_words_last words xs run begins size =
    ap (take run.length) (drop_at words xs run.offset (sym begins)) ∙ take_all run.length xs (omega arith)

pub put_lists : (words xs : List ℕ) (slots : List (Option Run)) (id : ℕ) (run : Run) → IsLaidOut words slots → id < length slots
    → run.offset ≡ length words → run.length ≡ length xs → lists_from (words ++ xs) 0 (slice_set slots id (Some run)) ≡ insert (lists_from words 0 slots) id xs
put_lists words xs slots id run laid lt begins size = lists-insert words (words ++ xs) slots (slice_set slots id (Some run)) id xs
    (ap (list_in (words ++ xs)) (get_or-set_same slots id (Some run) None lt) ∙ ap Some (run_words_last words xs run begins size))
    (λ q ne. ap (list_in (words ++ xs)) (get_or-set_other slots id q (Some run) None ne) ∙ list_in_append words xs (run_at slots q) (laid.within q))

pub push_lists : (words : List ℕ) (slots : List (Option Run)) → lists_from words 0 (slots ++ None ∷ []) ≡ lists_from words 0 slots
push_lists words slots = same_lists words words slots (slots ++ None ∷ []) (λ q. ap (list_in words) (run_at_push slots q))
