-- Each id, in turn, is written over the first word of its run.
use Rattle.std.proofs.Common.{◌≡◌, ◌≢◌, ℕ, zero, suc, ◌+◌, ◌<◌, ◌≤◌, List, Option, Some, None, is_some, length, slice_index, slice_set, refl, sym, ap, subst, ◌∙◌, inl, inr, arith}
use Rattle.std.proofs.lemmas.Bool.{cases_eq, cases_lt}
use Rattle.std.proofs.lemmas.List.{get_or-set_same, get_or-set_other, get_or_past, length-set}
use Rattle.word_pool.specs.declared.runs.Run.{Run}
use Rattle.word_pool.specs.Layout.{run_at, slot_offset, slot_length, offset_of, length_of, IsLaidOut}
use Rattle.word_pool.specs.Marks.{slot_head, marked_word, IsMarked, HasLengthsOf}

-- a fact for each id, from the fact for one id and for each other
pub for_each_id : (P : ℕ → Type 0) (n : ℕ) → P n → ((id : ℕ) → id ≢ n → P id) → (id : ℕ) → P id
for_each_id P n here others id = elim (cases_eq id n) [ inl e ↦ subst P (sym e) here | inr ne ↦ others id ne ]

-- the ids below `next` are marked: `old` and `before` are the region and the slots at the start
pub record IsMarkedBelow (old : List ℕ) (before : List (Option Run)) (words : List ℕ) (slots : List (Option Run)) (next : ℕ) : Type 0 where
  pub laid_out : IsLaidOut words slots
  pub lengths : HasLengthsOf before slots
  pub has_id : (id : ℕ) → id < next → 0 < length_of slots id → slice_index words (offset_of slots id) ≡ id
  pub empty_first : (id : ℕ) → id < next → length_of slots id ≡ 0 → offset_of slots id ≡ 0
  pub head : (id : ℕ) → id < next → 0 < length_of slots id → slot_head (run_at slots id) ≡ slice_index old (offset_of before id)
  pub first : (id : ℕ) → next ≤ id → 0 < length_of slots id → slice_index words (offset_of slots id) ≡ slice_index old (offset_of before id)
  pub rest : (id k : ℕ) → 0 < k → k < length_of slots id → slice_index words (offset_of slots id + k) ≡ slice_index old (offset_of before id + k)

-- the id n is marked, and nothing else changes
pub record MarksId (words : List ℕ) (slots : List (Option Run)) (n : ℕ) (words' : List ℕ) (slots' : List (Option Run)) : Type 0 where
  pub size : length words' ≡ length words
  pub lengths : HasLengthsOf slots slots'
  pub offset_le : (id : ℕ) → offset_of slots' id ≤ offset_of slots id
  pub offset : (id : ℕ) → 0 < length_of slots id → offset_of slots' id ≡ offset_of slots id
  pub others : (id : ℕ) → id ≢ n → run_at slots' id ≡ run_at slots id
  pub has_id : 0 < length_of slots n → slice_index words' (offset_of slots n) ≡ n
  pub head : 0 < length_of slots n → slot_head (run_at slots' n) ≡ slice_index words (offset_of slots n)
  pub empty_first : length_of slots n ≡ 0 → offset_of slots' n ≡ 0
  pub elsewhere : (k : ℕ) → (0 < length_of slots n → k ≢ offset_of slots n) → slice_index words' k ≡ slice_index words k

-- no word of a run is the first word of another
begins_elsewhere : {words : List ℕ} {slots : List (Option Run)} → IsLaidOut words slots → (id n k : ℕ) → id ≢ n
    → k < length_of slots id → 0 < length_of slots n → offset_of slots id + k ≢ offset_of slots n
begins_elsewhere {slots = slots} laid id n k ne within pos e =
    let some : 0 < length_of slots id = omega arith in
    let below : offset_of slots id ≤ offset_of slots n = omega arith in
    omega (arith, laid.apart id n ne some pos below)

pub mark_more : {old words words' : List ℕ} {before slots slots' : List (Option Run)} {n : ℕ}
    → IsMarkedBelow old before words slots n → MarksId words slots n words' slots' → IsMarkedBelow old before words' slots' (n + 1)
mark_more {old = old} {words = words} {words' = words'} {before = before} {slots = slots} {slots' = slots'} {n = n} s m =
    let same_word : (id k : ℕ) → id ≢ n → k < length_of slots id → slice_index words' (offset_of slots id + k) ≡ slice_index words (offset_of slots id + k) =
    λ id k ne within. m.elsewhere (offset_of slots id + k) (λ pos. begins_elsewhere s.laid_out id n k ne within pos) in
    let same_first : (id : ℕ) → id ≢ n → 0 < length_of slots id → slice_index words' (offset_of slots id) ≡ slice_index words (offset_of slots id) =
    λ id ne within. let plain : offset_of slots id + 0 ≡ offset_of slots id = omega arith in rw plain at (same_word id 0 ne within) in
    let some : (id : ℕ) → 0 < length_of slots' id → 0 < length_of slots id = λ id pos. omega (arith, m.lengths.lengths id) in
    record {
      laid_out = record {
        within = λ id. omega (arith, m.size, m.lengths.lengths id, m.offset_le id, s.laid_out.within id);
        apart = λ id next ne a b le. let p : 0 < length_of slots id = some id a in let q : 0 < length_of slots next = some next b in
            let below : offset_of slots id ≤ offset_of slots next = omega (arith, m.offset id p, m.offset next q) in
            omega (arith, m.offset id p, m.offset next q, m.lengths.lengths id, s.laid_out.apart id next ne p q below);
      };
      lengths = record {
        size = m.lengths.size ∙ s.lengths.size;
        live = λ id. m.lengths.live id ∙ s.lengths.live id;
        lengths = λ id. m.lengths.lengths id ∙ s.lengths.lengths id;
      };
      has_id = for_each_id (λ id. id < n + 1 → 0 < length_of slots' id → slice_index words' (offset_of slots' id) ≡ id) n
          (λ _ pos. ap (λ o. slice_index words' o) (m.offset n (some n pos)) ∙ m.has_id (some n pos))
          (λ id ne lt pos. ap (λ o. slice_index words' o) (m.offset id (some id pos)) ∙ same_first id ne (some id pos) ∙ s.has_id id (omega arith) (some id pos));
      empty_first = for_each_id (λ id. id < n + 1 → length_of slots' id ≡ 0 → offset_of slots' id ≡ 0) n
          (λ _ none. m.empty_first (sym (m.lengths.lengths n) ∙ none))
          (λ id ne lt none. ap slot_offset (m.others id ne) ∙ s.empty_first id (omega arith) (sym (m.lengths.lengths id) ∙ none));
      head = for_each_id (λ id. id < n + 1 → 0 < length_of slots' id → slot_head (run_at slots' id) ≡ slice_index old (offset_of before id)) n
          (λ _ pos. m.head (some n pos) ∙ s.first n (omega arith) (some n pos))
          (λ id ne lt pos. ap slot_head (m.others id ne) ∙ s.head id (omega arith) (some id pos));
      first = λ id le pos. let ne : id ≢ n = λ e. omega arith in
          ap (λ o. slice_index words' o) (m.offset id (some id pos)) ∙ same_first id ne (some id pos) ∙ s.first id (omega arith) (some id pos);
      rest = for_each_id (λ id. (k : ℕ) → 0 < k → k < length_of slots' id → slice_index words' (offset_of slots' id + k) ≡ slice_index old (offset_of before id + k)) n
          (λ k above within. let inside : k < length_of slots n = omega (arith, m.lengths.lengths n) in let pos : 0 < length_of slots n = omega arith in
          ap (λ o. slice_index words' (o + k)) (m.offset n pos) ∙ m.elsewhere (offset_of slots n + k) (λ _ e. omega arith) ∙ s.rest n k above inside)
          (λ id ne k above within. let inside : k < length_of slots id = omega (arith, m.lengths.lengths id) in let pos : 0 < length_of slots id = omega arith in
          ap (λ o. slice_index words' (o + k)) (m.offset id pos) ∙ same_word id k ne inside ∙ s.rest id k above inside);
    }

-- at the start
pub mark_none : {words : List ℕ} {slots : List (Option Run)} → IsLaidOut words slots → IsMarkedBelow words slots words slots 0
mark_none laid = record {
  laid_out = laid;
  lengths = record { size = refl; live = λ id. refl; lengths = λ id. refl };
  has_id = λ id lt. absurd (omega arith);
  empty_first = λ id lt. absurd (omega arith);
  head = λ id lt. absurd (omega arith);
  first = λ id le pos. refl;
  rest = λ id k above within. refl;
}

-- an id with no run
pub marks_vacant : {words : List ℕ} {slots : List (Option Run)} (n : ℕ) → run_at slots n ≡ None → MarksId words slots n words slots
marks_vacant {slots = slots} n none =
    let no_words : length_of slots n ≡ 0 = ap slot_length none in
    record {
      size = refl;
      lengths = record { size = refl; live = λ id. refl; lengths = λ id. refl };
      offset_le = λ id. omega arith;
      offset = λ id pos. refl;
      others = λ id ne. refl;
      has_id = λ pos. absurd (omega arith);
      head = λ pos. absurd (omega arith);
      empty_first = λ _. ap slot_offset none;
      elsewhere = λ k ne. refl;
    }

-- another run of the same length in the slot of n
pub lengths_set : (slots : List (Option Run)) (n : ℕ) (run run' : Run) → n < length slots → run_at slots n ≡ Some run → run'.length ≡ run.length
    → HasLengthsOf slots (slice_set slots n (Some run'))
lengths_set slots n run run' lt is same =
    let here : run_at (slice_set slots n (Some run')) n ≡ Some run' = get_or-set_same slots n (Some run') None lt in
    record {
      size = length-set slots n (Some run');
      live = for_each_id (λ id. is_some (run_at (slice_set slots n (Some run')) id) ≡ is_some (run_at slots id)) n
          (ap is_some here ∙ sym (ap is_some is))
          (λ id ne. ap is_some (get_or-set_other slots n id (Some run') None ne));
      lengths = for_each_id (λ id. length_of (slice_set slots n (Some run')) id ≡ length_of slots id) n
          (ap slot_length here ∙ same ∙ sym (ap slot_length is))
          (λ id ne. ap slot_length (get_or-set_other slots n id (Some run') None ne));
    }

-- an empty run
pub marks_empty : {words : List ℕ} {slots : List (Option Run)} {n : ℕ} (run run' : Run) → n < length slots → run_at slots n ≡ Some run
    → run.length ≡ 0 → run'.length ≡ run.length → run'.offset ≡ 0 → MarksId words slots n words (slice_set slots n (Some run'))
marks_empty {slots = slots} {n = n} run run' lt is none same first =
    let here : run_at (slice_set slots n (Some run')) n ≡ Some run' = get_or-set_same slots n (Some run') None lt in
    let elsewhere : (id : ℕ) → id ≢ n → run_at (slice_set slots n (Some run')) id ≡ run_at slots id = λ id ne. get_or-set_other slots n id (Some run') None ne in
    let no_words : length_of slots n ≡ 0 = ap slot_length is ∙ none in
    let at_first : offset_of (slice_set slots n (Some run')) n ≡ 0 = ap slot_offset here ∙ first in
    record {
      size = refl;
      lengths = lengths_set slots n run run' lt is same;
      offset_le = for_each_id (λ id. offset_of (slice_set slots n (Some run')) id ≤ offset_of slots id) n
          (omega arith)
          (λ id ne. omega (arith, ap slot_offset (elsewhere id ne)));
      offset = for_each_id (λ id. 0 < length_of slots id → offset_of (slice_set slots n (Some run')) id ≡ offset_of slots id) n
          (λ pos. absurd (omega arith))
          (λ id ne pos. ap slot_offset (elsewhere id ne));
      others = elsewhere;
      has_id = λ pos. absurd (omega arith);
      head = λ pos. absurd (omega arith);
      empty_first = λ _. at_first;
      elsewhere = λ k ne. refl;
    }

-- a run with words
pub marks_words : {words : List ℕ} {slots : List (Option Run)} {n : ℕ} (run run' : Run) → n < length slots → run_at slots n ≡ Some run
    → 0 < run.length → run.offset + run.length ≤ length words → run'.length ≡ run.length → run'.offset ≡ run.offset → run'.head ≡ slice_index words run.offset
    → MarksId words slots n (slice_set words run.offset n) (slice_set slots n (Some run'))
marks_words {words = words} {slots = slots} {n = n} run run' lt is pos within same first head =
    let here : run_at (slice_set slots n (Some run')) n ≡ Some run' = get_or-set_same slots n (Some run') None lt in
    let elsewhere : (id : ℕ) → id ≢ n → run_at (slice_set slots n (Some run')) id ≡ run_at slots id = λ id ne. get_or-set_other slots n id (Some run') None ne in
    let begins : offset_of slots n ≡ run.offset = ap slot_offset is in
    let offsets : (id : ℕ) → offset_of (slice_set slots n (Some run')) id ≡ offset_of slots id =
    for_each_id (λ id. offset_of (slice_set slots n (Some run')) id ≡ offset_of slots id) n
    (ap slot_offset here ∙ first ∙ sym begins)
    (λ id ne. ap slot_offset (elsewhere id ne)) in
    record {
      size = length-set words run.offset n;
      lengths = lengths_set slots n run run' lt is same;
      offset_le = λ id. omega (arith, offsets id);
      offset = λ id _. offsets id;
      others = elsewhere;
      has_id = λ _. ap (λ o. slice_index (slice_set words run.offset n) o) begins ∙ get_or-set_same words run.offset n 0 (omega arith);
      head = λ _. ap slot_head here ∙ head ∙ ap (λ o. slice_index words o) (sym begins);
      empty_first = λ none. let there : length_of slots n ≡ run.length = ap slot_length is in absurd (omega arith);
      elsewhere = λ k ne. get_or-set_other words run.offset k n 0 (λ e. ne (let there : length_of slots n ≡ run.length = ap slot_length is in omega arith) (e ∙ sym begins));
    }

-- an id with words is one of the table
pub in_table : (slots : List (Option Run)) (id : ℕ) → 0 < length_of slots id → id < length slots
in_table slots id pos = elim (cases_lt id (length slots)) [
  | inl lt ↦ lt
  | inr le ↦ let none : length_of slots id ≡ 0 = ap slot_length (get_or_past slots id None le) in absurd (omega arith)
]

-- at the end
pub marked_word_all : {old words : List ℕ} {before slots : List (Option Run)} {n : ℕ} → IsMarkedBelow old before words slots n → length slots ≤ n
    → (id k : ℕ) → k < length_of before id → marked_word words slots id k ≡ slice_index old (offset_of before id + k)
marked_word_all {old = old} {before = before} {slots = slots} s all id zero within =
    let pos : 0 < length_of slots id = omega (arith, s.lengths.lengths id) in
    let plain : offset_of before id ≡ offset_of before id + 0 = omega arith in
    s.head id (omega (arith, in_table slots id pos)) pos ∙ ap (λ o. slice_index old o) plain
marked_word_all {slots = slots} s all id (suc k) within = s.rest id (suc k) (omega arith) (omega (arith, s.lengths.lengths id))

pub marked_all : {old words : List ℕ} {before slots : List (Option Run)} {n : ℕ} → IsMarkedBelow old before words slots n → length slots ≤ n → IsMarked words slots
marked_all {slots = slots} s all = record {
  laid_out = s.laid_out;
  has_id = λ id pos. s.has_id id (omega (arith, in_table slots id pos)) pos;
  empty_first = λ id none. elim (cases_lt id (length slots)) [
    | inl lt ↦ s.empty_first id (omega arith) none
    | inr le ↦ ap slot_offset (get_or_past slots id None le)
  ];
}

-- a run is marked
pub mark_run_more : {old words : List ℕ} {before slots : List (Option Run)} {n : ℕ} → IsMarkedBelow old before words slots n → n < length slots
    → (run run' : Run) (words' : List ℕ) → run_at slots n ≡ Some run
    → (run.length ≡ 0 → (words' ≡ words) × (run' ≡ record run { offset = 0 }))
    → (0 < run.length → (words' ≡ slice_set words run.offset n) × (run' ≡ record run { head = slice_index words run.offset }))
    → IsMarkedBelow old before words' (slice_set slots n (Some run')) (n + 1)
mark_run_more {old = old} {words = words} {before = before} {slots = slots} {n = n} s lt run run' words' is empty marked = elim (cases_eq run.length 0) [
  | inl none ↦
      let e = empty none in
      rw (e.0) (mark_more s (marks_empty run run' lt is none (ap (λ (r : Run). r.length) e.1) (ap (λ (r : Run). r.offset) e.1)))
  | inr some ↦
      let pos : 0 < run.length = omega arith in
      let e = marked pos in
      let there : offset_of slots n + length_of slots n ≡ run.offset + run.length = ap (λ slot. slot_offset slot + slot_length slot) is in
      let inside : run.offset + run.length ≤ length words = omega (arith, s.laid_out.within n) in
      rw (e.0) (mark_more s (marks_words run run' lt is pos inside (ap (λ (r : Run). r.length) e.1) (ap (λ (r : Run). r.offset) e.1) (ap (λ (r : Run). r.head) e.1)))
]
