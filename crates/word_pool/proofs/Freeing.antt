-- Free runs as lists are put and given back.
use Rattle.std.proofs.Common.{◌≡◌, ◌≢◌, ◌⊎◌, ℕ, suc, zero, ◌+◌, ◌<◌, ◌≤◌, List, [], ◌∷◌, ◌++◌, Option, Some, None, length, slice_index, slice_set, refl, sym, ap, subst, ◌∙◌, inl, inr, arith}
use Rattle.std.proofs.lemmas.Bool.{cases_eq, cases_lt}
use Rattle.std.proofs.lemmas.List.{get_or-set_same, get_or-set_other, get_or_append_left, length-set, length-append, ext_get_or}
use Rattle.std.specs.FinMap.{insert, remove}
use Rattle.word_pool.specs.declared.free.TheConstants.{NO_RUN}
use Rattle.word_pool.specs.declared.runs.Run.{Run}
use Rattle.word_pool.specs.Layout.{run_at, slot_offset, slot_length, offset_of, length_of, list_in, lists_from, run_words, IsLaidOut}
use Rattle.word_pool.specs.Free.{IsOneOf, IsOnce, AreLinked, AreApart, IsFree, AddsLengths, ListsRun, WritesList}
use Rattle.word_pool.proofs.Marking.{for_each_id}
use Rattle.word_pool.proofs.Slots.{list_in_same, length-run_words, word_of_run}
use Rattle.word_pool.proofs.Lists.{lists-insert, lists-remove}

-- LINKS

links_same : (words words' : List ℕ) (first : ℕ) (offsets : List ℕ)
    → ((offset : ℕ) → IsOneOf offset offsets → slice_index words' offset ≡ slice_index words offset)
    → AreLinked words first offsets → AreLinked words' first offsets
links_same words words' first [] same l = l
links_same words words' first (offset ∷ offsets) same l = (
  l.0,
  links_same words words' (slice_index words' offset) offsets (λ other is. same other (inr is))
      (subst (λ next. AreLinked words next offsets) (sym (same offset (inl refl))) l.1),
)

-- the offsets after the first
abbrev rest_of : List ℕ → List ℕ
rest_of [] = []
rest_of (offset ∷ offsets) = offsets

begins_with : (words : List ℕ) (first : ℕ) (offsets : List ℕ) → first ≢ NO_RUN → AreLinked words first offsets
    → (offsets ≡ first ∷ rest_of offsets) × AreLinked words (slice_index words first) (rest_of offsets)
begins_with words first [] some l = absurd (some l)
begins_with words first (offset ∷ offsets) some l =
    (ap (λ o. o ∷ offsets) (sym l.0), subst (λ o. AreLinked words (slice_index words o) offsets) (sym l.0) l.1)

none_listed : (offsets : List ℕ) → ((offset : ℕ) → IsOneOf offset offsets → ⊥) → offsets ≡ []
none_listed [] none = refl
none_listed (offset ∷ offsets) none = absurd (none offset (inl refl))

-- THE TABLE

-- no run is listed
pub free_none : (words firsts : List ℕ) (slots : List (Option Run)) → ((size : ℕ) → size < length firsts → slice_index firsts size ≡ NO_RUN)
    → IsFree words firsts slots
free_none words firsts slots none = record {
  runs = λ _. [];
  linked = λ size lt. none size lt;
  listed = λ size offset is. absurd is;
  within = λ size offset is. absurd is;
  not_live = λ size offset id is. absurd is;
  apart = λ size offset size' offset' is. absurd is;
  once = λ size. tt;
}

pub free_longer : {words firsts firsts' : List ℕ} {slots : List (Option Run)} → AddsLengths firsts firsts' → IsFree words firsts slots → IsFree words firsts' slots
free_longer {words = words} {firsts = firsts} {firsts' = firsts'} more f = record {
  runs = f.runs;
  linked = λ size lt. elim (cases_lt size (length firsts)) [
    | inl old ↦ subst (λ first. AreLinked words first (f.runs size)) (sym (more.kept size old)) (f.linked size old)
    | inr new ↦
        let none : f.runs size ≡ [] = none_listed (f.runs size) (λ offset is. let h = f.listed size offset is in omega (arith, h.1)) in
        subst (λ offsets. AreLinked words (slice_index firsts' size) offsets) (sym none) (more.added size new lt)
  ];
  listed = λ size offset is. let h = f.listed size offset is in (h.0, omega (arith, h.1, more.longer));
  within = f.within;
  not_live = f.not_live;
  apart = f.apart;
  once = f.once;
}

pub lengths_none : (firsts : List ℕ) → AddsLengths firsts firsts
lengths_none firsts = record { longer = omega arith; kept = λ size lt. refl; added = λ size le lt. absurd (omega arith) }

pub lengths_push : {old : List ℕ} (new : List ℕ) → AddsLengths old new → AddsLengths old (new ++ NO_RUN ∷ [])
lengths_push {old = old} new a = record {
  longer = omega (arith, a.longer, length-append new (NO_RUN ∷ []));
  kept = λ size lt. get_or_append_left new (NO_RUN ∷ []) 0 size (omega (arith, a.longer)) ∙ a.kept size lt;
  added = λ size le lt. elim (cases_lt size (length new)) [
    | inl here ↦ get_or_append_left new (NO_RUN ∷ []) 0 size here ∙ a.added size le here
    | inr past ↦ last_word new size (omega (arith, length-append new (NO_RUN ∷ [])))
  ];
}
  where
    last_word : (xs : List ℕ) (k : ℕ) → k ≡ length xs → slice_index (xs ++ NO_RUN ∷ []) k ≡ NO_RUN
    last_word [] k e = ap (λ i. slice_index (NO_RUN ∷ []) i) e
    last_word (x ∷ xs) zero e = absurd (omega arith)
    last_word (x ∷ xs) (suc k) e = last_word xs k (omega arith)

-- WHERE NO RUN IS LISTED OR TAKEN

-- the words of the listed runs stay, and no slot has a new run there
pub free_kept : {words firsts : List ℕ} {slots : List (Option Run)} (words' : List ℕ) (slots' : List (Option Run)) → (f : IsFree words firsts slots) → length words ≤ length words'
    → ((size offset : ℕ) → IsOneOf offset (f.runs size) → slice_index words' offset ≡ slice_index words offset)
    → ((size offset id : ℕ) → IsOneOf offset (f.runs size) → 0 < length_of slots' id → AreApart offset size (offset_of slots' id) (length_of slots' id))
    → IsFree words' firsts slots'
free_kept {words = words} {firsts = firsts} words' slots' f longer same live = record {
  runs = f.runs;
  linked = λ size lt. links_same words words' (slice_index firsts size) (f.runs size) (same size) (f.linked size lt);
  listed = f.listed;
  within = λ size offset is. omega (arith, f.within size offset is);
  not_live = live;
  apart = f.apart;
  once = f.once;
}

-- an id is given a run behind the region, which grows by it
pub free_append : {words firsts : List ℕ} {slots : List (Option Run)} (xs : List ℕ) (id : ℕ) (run : Run) → id < length slots → run.offset ≡ length words
    → IsFree words firsts slots → IsFree (words ++ xs) firsts (slice_set slots id (Some run))
free_append {words = words} {slots = slots} xs id run lt begins f =
    free_kept (words ++ xs) (slice_set slots id (Some run)) f (omega (arith, length-append words xs))
    (λ size offset is. let h = f.listed size offset is in get_or_append_left words xs 0 offset (omega (arith, f.within size offset is, h.0)))
    (λ size offset id' is. for_each_id (λ id'. 0 < length_of (slice_set slots id (Some run)) id' → AreApart offset size (offset_of (slice_set slots id (Some run)) id') (length_of (slice_set slots id (Some run)) id')) id
    (λ pos. inl (omega (arith, ap slot_offset (get_or-set_same slots id (Some run) None lt), f.within size offset is)))
    (λ q ne. subst (λ slot. 0 < slot_length slot → AreApart offset size (slot_offset slot) (slot_length slot)) (sym (get_or-set_other slots id q (Some run) None ne)) (f.not_live size offset q is)) id')

-- fewer ids have runs
pub free_part : {words firsts : List ℕ} {slots : List (Option Run)} (slots' : List (Option Run)) → ((q : ℕ) → (run_at slots' q ≡ run_at slots q) ⊎ (run_at slots' q ≡ None))
    → IsFree words firsts slots → IsFree words firsts slots'
free_part {words = words} {slots = slots} slots' part f = free_kept words slots' f (omega arith) (λ size offset is. refl)
    (λ size offset id is. elim (part id) [
      | inl e ↦ subst (λ slot. 0 < slot_length slot → AreApart offset size (slot_offset slot) (slot_length slot)) (sym e) (f.not_live size offset id is)
      | inr e ↦ λ pos. absurd (omega (arith, ap slot_length e))
    ])

pub free_remove : {words firsts : List ℕ} {slots : List (Option Run)} (id : ℕ) → id < length slots → IsFree words firsts slots → IsFree words firsts (slice_set slots id None)
free_remove {slots = slots} id lt f = free_part (slice_set slots id None)
    (for_each_id (λ q. (run_at (slice_set slots id None) q ≡ run_at slots q) ⊎ (run_at (slice_set slots id None) q ≡ None)) id
    (inr (get_or-set_same slots id None None lt)) (λ q ne. inl (get_or-set_other slots id q None None ne))) f

-- THE RUNS OF ONE LENGTH CHANGE

changed : (ℕ → List ℕ) → ℕ → List ℕ → ℕ → List ℕ
changed runs size offsets other = elim (cases_eq other size) [ inl e ↦ offsets | inr ne ↦ runs other ]

changed_same : (runs : ℕ → List ℕ) (size : ℕ) (offsets : List ℕ) → changed runs size offsets size ≡ offsets
unfolding changed
changed_same runs size offsets = elim (cases_eq size size) as (λ c. elim c [ inl e ↦ offsets | inr ne ↦ runs size ] ≡ offsets) [ inl e ↦ refl | inr ne ↦ absurd (ne refl) ]

changed_other : (runs : ℕ → List ℕ) (size : ℕ) (offsets : List ℕ) (other : ℕ) → other ≢ size → changed runs size offsets other ≡ runs other
unfolding changed
changed_other runs size offsets other differs = elim (cases_eq other size) as (λ c. elim c [ inl e ↦ offsets | inr ne ↦ runs other ] ≡ runs other) [ inl e ↦ absurd (differs e) | inr ne ↦ refl ]

-- an offset of the changed runs is one of the new ones, or of another length
one_of_changed : (runs : ℕ → List ℕ) (size : ℕ) (offsets : List ℕ) (other offset : ℕ) → IsOneOf offset (changed runs size offsets other)
    → ((other ≡ size) × IsOneOf offset offsets) ⊎ ((other ≢ size) × IsOneOf offset (runs other))
one_of_changed runs size offsets other offset is = elim (cases_eq other size) [
  | inl e ↦ inl (e, subst (IsOneOf offset) (ap (changed runs size offsets) e ∙ changed_same runs size offsets) is)
  | inr ne ↦ inr (ne, subst (IsOneOf offset) (changed_other runs size offsets other ne) is)
]

-- runs apart from one another, the other way round
turned : (offset size offset' size' : ℕ) → AreApart offset size offset' size' → AreApart offset' size' offset size
turned offset size offset' size' a = elim a [ inl e ↦ inr e | inr e ↦ inl e ]

-- a run with words begins at no offset of a run that is apart from it
begins_apart : (offset size offset' size' : ℕ) → 0 < size → 0 < size' → AreApart offset size offset' size' → offset ≢ offset'
begins_apart offset size offset' size' some some' a e = elim a [ inl le ↦ omega arith | inr le ↦ omega arith ]

-- A RUN IS GIVEN BACK

pub free_list : {words firsts : List ℕ} {slots : List (Option Run)} (id : ℕ) (run : Run) → IsLaidOut words slots → id < length slots → run_at slots id ≡ Some run
    → 0 < run.length → run.length < length firsts → IsFree words firsts slots
    → IsFree (slice_set words run.offset (slice_index firsts run.length)) (slice_set firsts run.length run.offset) (slice_set slots id None)
free_list {words = words} {firsts = firsts} {slots = slots} id run laid lt is some in_table f =
    let here : (offset_of slots id ≡ run.offset) × (length_of slots id ≡ run.length) = (ap slot_offset is, ap slot_length is) in
    let apart : (size offset : ℕ) → IsOneOf offset (f.runs size) → AreApart offset size run.offset run.length =
    λ size offset at. subst (λ slot. AreApart offset size (slot_offset slot) (slot_length slot)) is (f.not_live size offset id at (omega (arith, here.1))) in
    let elsewhere : (size offset : ℕ) → IsOneOf offset (f.runs size) → offset ≢ run.offset =
    λ size offset at. let h = f.listed size offset at in begins_apart offset size run.offset run.length h.0 some (apart size offset at) in
    let words' : List ℕ = slice_set words run.offset (slice_index firsts run.length) in
    let runs' : ℕ → List ℕ = changed f.runs run.length (run.offset ∷ f.runs run.length) in
    let given : (size offset : ℕ) → IsOneOf offset (changed f.runs run.length (run.offset ∷ f.runs run.length) size)
    → ((size ≡ run.length) × (offset ≡ run.offset)) ⊎ IsOneOf offset (f.runs size) =
    λ size offset at. elim (one_of_changed f.runs run.length (run.offset ∷ f.runs run.length) size offset at) [
      | inl new ↦ elim new.1 [ inl e ↦ inl (new.0, e) | inr old ↦ inr (subst (λ s. IsOneOf offset (f.runs s)) (sym new.0) old) ]
      | inr old ↦ inr old.1
    ] in
    let linked_old : (size : ℕ) → size < length firsts → AreLinked (slice_set words run.offset (slice_index firsts run.length)) (slice_index firsts size) (f.runs size) =
    λ size small. links_same words (slice_set words run.offset (slice_index firsts run.length)) (slice_index firsts size) (f.runs size)
    (λ offset at. get_or-set_other words run.offset offset (slice_index firsts run.length) 0 (elsewhere size offset at)) (f.linked size small) in
    let inside : run.offset < length words = omega (arith, laid.within id, here.0, here.1) in
    record {
      runs = changed f.runs run.length (run.offset ∷ f.runs run.length);
      linked = for_each_id (λ size. size < length (slice_set firsts run.length run.offset)
          → AreLinked (slice_set words run.offset (slice_index firsts run.length)) (slice_index (slice_set firsts run.length run.offset) size) (changed f.runs run.length (run.offset ∷ f.runs run.length) size)) run.length
          (λ _. subst (AreLinked (slice_set words run.offset (slice_index firsts run.length)) (slice_index (slice_set firsts run.length run.offset) run.length))
          (sym (changed_same f.runs run.length (run.offset ∷ f.runs run.length))) (
            get_or-set_same firsts run.length run.offset 0 in_table,
            subst (λ next. AreLinked (slice_set words run.offset (slice_index firsts run.length)) next (f.runs run.length))
                (sym (get_or-set_same words run.offset (slice_index firsts run.length) 0 inside)) (linked_old run.length in_table),
          ))
          (λ size ne small. subst (AreLinked (slice_set words run.offset (slice_index firsts run.length)) (slice_index (slice_set firsts run.length run.offset) size))
          (sym (changed_other f.runs run.length (run.offset ∷ f.runs run.length) size ne))
          (subst (λ first. AreLinked (slice_set words run.offset (slice_index firsts run.length)) first (f.runs size))
          (sym (get_or-set_other firsts run.length size run.offset 0 ne)) (linked_old size (omega (arith, length-set firsts run.length run.offset)))));
      listed = λ size offset at. elim (given size offset at) [
        | inl new ↦ (omega (arith, new.0), omega (arith, new.0, length-set firsts run.length run.offset))
        | inr old ↦ let h = f.listed size offset old in (h.0, omega (arith, h.1, length-set firsts run.length run.offset))
      ];
      within = λ size offset at. elim (given size offset at) [
        | inl new ↦ omega (arith, new.0, new.1, laid.within id, here.0, here.1, length-set words run.offset (slice_index firsts run.length))
        | inr old ↦ omega (arith, f.within size offset old, length-set words run.offset (slice_index firsts run.length))
      ];
      not_live = λ size offset id' at. for_each_id (λ id'. 0 < length_of (slice_set slots id None) id'
          → AreApart offset size (offset_of (slice_set slots id None) id') (length_of (slice_set slots id None) id')) id
          (λ pos. absurd (omega (arith, ap slot_length (get_or-set_same slots id None None lt))))
          (λ q ne. subst (λ slot. 0 < slot_length slot → AreApart offset size (slot_offset slot) (slot_length slot)) (sym (get_or-set_other slots id q None None ne))
          (λ pos. elim (given size offset at) [
            | inl new ↦ subst (λ o. AreApart o size (offset_of slots q) (length_of slots q)) (sym new.1)
                (subst (λ s. AreApart run.offset s (offset_of slots q) (length_of slots q)) (sym new.0) (live_apart q ne pos))
            | inr old ↦ f.not_live size offset q old pos
          ])) id';
      apart = λ size offset size' offset' at at' differs. elim (given size offset at) [
        | inl new ↦ elim (given size' offset' at') [
          | inl new' ↦ absurd (elim differs [ inl ne ↦ ne (new.0 ∙ sym new'.0) | inr ne ↦ ne (new.1 ∙ sym new'.1) ])
          | inr old' ↦ subst (λ o. AreApart o size offset' size') (sym new.1) (subst (λ s. AreApart run.offset s offset' size') (sym new.0)
              (turned offset' size' run.offset run.length (apart size' offset' old')))
        ]
        | inr old ↦ elim (given size' offset' at') [
          | inl new' ↦ subst (λ o. AreApart offset size o size') (sym new'.1) (subst (λ s. AreApart offset size run.offset s) (sym new'.0) (apart size offset old))
          | inr old' ↦ f.apart size offset size' offset' old old' differs
        ]
      ];
      once = for_each_id (λ size. IsOnce (changed f.runs run.length (run.offset ∷ f.runs run.length) size)) run.length
          (subst IsOnce (sym (changed_same f.runs run.length (run.offset ∷ f.runs run.length)))
          (λ at. elsewhere run.length run.offset at refl, f.once run.length))
          (λ size ne. subst IsOnce (sym (changed_other f.runs run.length (run.offset ∷ f.runs run.length) size ne)) (f.once size));
    }
  where
    -- no other id has a word of the run
    live_apart : (q : ℕ) → q ≢ id → 0 < length_of slots q → AreApart run.offset run.length (offset_of slots q) (length_of slots q)
    live_apart q ne pos =
        let here : (offset_of slots id ≡ run.offset) × (length_of slots id ≡ run.length) = (ap slot_offset is, ap slot_length is) in
        elim (cases_lt (offset_of slots q) run.offset) [
          | inl before ↦ inr (omega (arith, here.0, here.1, laid.apart q id ne pos (omega (arith, here.1)) (omega (arith, here.0))))
          | inr after ↦ inl (omega (arith, here.0, here.1, laid.apart id q (λ e. ne (sym e)) (omega (arith, here.1)) pos (omega (arith, here.0))))
        ]

pub listed_size : {words firsts words' firsts' : List ℕ} (run : Run) → ListsRun words firsts run words' firsts' → (length words' ≡ length words) × (length firsts' ≡ length firsts)
listed_size {words = words} {firsts = firsts} run listed = elim listed [
  | inl new ↦ (ap length new.2 ∙ length-set words run.offset (slice_index firsts run.length), ap length new.3 ∙ length-set firsts run.length run.offset)
  | inr same ↦ (ap length same.0, ap length same.1)
]

pub laid_out_longer : {words : List ℕ} (words' : List ℕ) (slots : List (Option Run)) → IsLaidOut words slots → length words' ≡ length words → IsLaidOut words' slots
laid_out_longer words' slots laid size = record { within = λ id. omega (arith, laid.within id, size); apart = laid.apart }

pub free_give : {words firsts words' firsts' : List ℕ} {slots : List (Option Run)} (id : ℕ) (run : Run) → IsLaidOut words slots → id < length slots → run_at slots id ≡ Some run
    → ListsRun words firsts run words' firsts' → IsFree words firsts slots → IsFree words' firsts' (slice_set slots id None)
free_give {slots = slots} id run laid lt is listed f = elim listed [
  | inl new ↦ rw (new.2, new.3) (free_list id run laid lt is new.0 new.1 f)
  | inr same ↦ rw (same.0, same.1) (free_remove id lt f)
]

-- A FREE RUN IS TAKEN

-- the first run of a length is listed
pub first_listed : {words firsts : List ℕ} {slots : List (Option Run)} (size first : ℕ) → size < length firsts → slice_index firsts size ≡ first → first ≢ NO_RUN
    → (f : IsFree words firsts slots) → IsOneOf first (f.runs size)
first_listed {words = words} size first in_table is some f =
    let l : AreLinked words first (f.runs size) = subst (λ o. AreLinked words o (f.runs size)) is (f.linked size in_table) in
    subst (IsOneOf first) (sym (begins_with words first (f.runs size) some l).0) (inl refl)

-- an id that had no run is given the first one of a length
pub free_take : {words firsts words' : List ℕ} {slots : List (Option Run)} (first id : ℕ) (list : List ℕ) (run : Run)
    → length list < length firsts → slice_index firsts (length list) ≡ first → first ≢ NO_RUN → id < length slots
    → run.offset ≡ first → run.length ≡ length list → WritesList words first list words' → IsFree words firsts slots
    → IsFree words' (slice_set firsts (length list) (slice_index words first)) (slice_set slots id (Some run))
free_take {words = words} {firsts = firsts} {words' = words'} {slots = slots} first id list run in_table is some lt begins size_is w f =
    let rest : List ℕ = rest_of (f.runs (length list)) in
    let l : AreLinked words first (f.runs (length list)) = subst (λ o. AreLinked words o (f.runs (length list))) is (f.linked (length list) in_table) in
    let b = begins_with words first (f.runs (length list)) some l in
    let first_is : IsOneOf first (f.runs (length list)) = first_listed (length list) first in_table is some f in
    let once : (IsOneOf first (rest_of (f.runs (length list))) → ⊥) × IsOnce (rest_of (f.runs (length list))) = subst IsOnce b.0 (f.once (length list)) in
    let was : (size offset : ℕ) → IsOneOf offset (changed f.runs (length list) (rest_of (f.runs (length list))) size)
    → IsOneOf offset (f.runs size) × ((size ≢ length list) ⊎ (offset ≢ first)) =
    λ size offset at. elim (one_of_changed f.runs (length list) (rest_of (f.runs (length list))) size offset at) [
      | inl same ↦ (
        subst (λ s. IsOneOf offset (f.runs s)) (sym same.0) (subst (IsOneOf offset) (sym b.0) (inr same.1)),
        inr (λ e. once.0 (subst (λ o. IsOneOf o (rest_of (f.runs (length list)))) e same.1)),
      )
      | inr other ↦ (other.1, inl other.0)
    ] in
    let apart : (size offset : ℕ) → IsOneOf offset (changed f.runs (length list) (rest_of (f.runs (length list))) size) → AreApart offset size first (length list) =
    λ size offset at. let h = was size offset at in f.apart size offset (length list) first h.0 first_is h.1 in
    let same : (size offset : ℕ) → IsOneOf offset (changed f.runs (length list) (rest_of (f.runs (length list))) size) → slice_index words' offset ≡ slice_index words offset =
    λ size offset at. let h = f.listed size offset (was size offset at).0 in elim (apart size offset at) [
      | inl before ↦ w.below offset (omega (arith, h.0))
      | inr after ↦ w.above offset after
    ] in
    record {
      runs = changed f.runs (length list) (rest_of (f.runs (length list)));
      linked = for_each_id (λ size. size < length (slice_set firsts (length list) (slice_index words first))
          → AreLinked words' (slice_index (slice_set firsts (length list) (slice_index words first)) size) (changed f.runs (length list) (rest_of (f.runs (length list))) size)) (length list)
          (λ _. links_same words words' (slice_index (slice_set firsts (length list) (slice_index words first)) (length list)) (changed f.runs (length list) (rest_of (f.runs (length list))) (length list))
          (same (length list))
          (subst (AreLinked words (slice_index (slice_set firsts (length list) (slice_index words first)) (length list))) (sym (changed_same f.runs (length list) (rest_of (f.runs (length list)))))
          (subst (λ o. AreLinked words o (rest_of (f.runs (length list)))) (sym (get_or-set_same firsts (length list) (slice_index words first) 0 in_table)) b.1)))
          (λ size ne small. links_same words words' (slice_index (slice_set firsts (length list) (slice_index words first)) size) (changed f.runs (length list) (rest_of (f.runs (length list))) size)
          (same size)
          (subst (AreLinked words (slice_index (slice_set firsts (length list) (slice_index words first)) size)) (sym (changed_other f.runs (length list) (rest_of (f.runs (length list))) size ne))
          (subst (λ o. AreLinked words o (f.runs size)) (sym (get_or-set_other firsts (length list) size (slice_index words first) 0 ne))
          (f.linked size (omega (arith, length-set firsts (length list) (slice_index words first)))))));
      listed = λ size offset at. let h = f.listed size offset (was size offset at).0 in (h.0, omega (arith, h.1, length-set firsts (length list) (slice_index words first)));
      within = λ size offset at. omega (arith, f.within size offset (was size offset at).0, w.same_length);
      not_live = λ size offset id' at. for_each_id (λ id'. 0 < length_of (slice_set slots id (Some run)) id'
          → AreApart offset size (offset_of (slice_set slots id (Some run)) id') (length_of (slice_set slots id (Some run)) id')) id
          (subst (λ slot. 0 < slot_length slot → AreApart offset size (slot_offset slot) (slot_length slot)) (sym (get_or-set_same slots id (Some run) None lt))
          (λ _. subst (λ o. AreApart offset size o run.length) (sym begins) (subst (λ s. AreApart offset size first s) (sym size_is) (apart size offset at))))
          (λ q ne. subst (λ slot. 0 < slot_length slot → AreApart offset size (slot_offset slot) (slot_length slot)) (sym (get_or-set_other slots id q (Some run) None ne))
          (f.not_live size offset q (was size offset at).0)) id';
      apart = λ size offset size' offset' at at' differs. f.apart size offset size' offset' (was size offset at).0 (was size' offset' at').0 differs;
      once = for_each_id (λ size. IsOnce (changed f.runs (length list) (rest_of (f.runs (length list))) size)) (length list)
          (subst IsOnce (sym (changed_same f.runs (length list) (rest_of (f.runs (length list))))) once.1)
          (λ size ne. subst IsOnce (sym (changed_other f.runs (length list) (rest_of (f.runs (length list))) size ne)) (f.once size));
    }

-- a run that shares no word with the others is given to an id
pub laid_out_again : {words : List ℕ} {slots : List (Option Run)} (words' : List ℕ) (id : ℕ) (run : Run) → IsLaidOut words slots → id < length slots → length words ≤ length words'
    → run.offset + run.length ≤ length words' → 0 < run.length
    → ((q : ℕ) → 0 < length_of slots q → AreApart run.offset run.length (offset_of slots q) (length_of slots q))
    → IsLaidOut words' (slice_set slots id (Some run))
laid_out_again {words = words} {slots = slots} words' id run laid lt longer within some apart =
    let here : run_at (slice_set slots id (Some run)) id ≡ Some run = get_or-set_same slots id (Some run) None lt in
    let other : (q : ℕ) → q ≢ id → run_at (slice_set slots id (Some run)) q ≡ run_at slots q = λ q ne. get_or-set_other slots id q (Some run) None ne in
    record {
      within = for_each_id (λ q. offset_of (slice_set slots id (Some run)) q + length_of (slice_set slots id (Some run)) q ≤ length words') id
          (omega (arith, ap slot_offset here, ap slot_length here))
          (λ q ne. omega (arith, ap slot_offset (other q ne), ap slot_length (other q ne), laid.within q));
      apart = for_each_id (λ q. (next : ℕ) → q ≢ next → 0 < length_of (slice_set slots id (Some run)) q → 0 < length_of (slice_set slots id (Some run)) next
          → offset_of (slice_set slots id (Some run)) q ≤ offset_of (slice_set slots id (Some run)) next
          → offset_of (slice_set slots id (Some run)) q + length_of (slice_set slots id (Some run)) q ≤ offset_of (slice_set slots id (Some run)) next) id
          (λ next ne a b le.
          let there = other next (λ e. ne (sym e)) in
          elim (apart next (omega (arith, ap slot_length there))) [
            | inl before ↦ omega (arith, ap slot_offset here, ap slot_length here, ap slot_offset there)
            | inr after ↦ absurd (omega (arith, ap slot_offset here, ap slot_offset there, ap slot_length there))
          ])
          (λ q ne. for_each_id (λ next. q ≢ next → 0 < length_of (slice_set slots id (Some run)) q → 0 < length_of (slice_set slots id (Some run)) next
          → offset_of (slice_set slots id (Some run)) q ≤ offset_of (slice_set slots id (Some run)) next
          → offset_of (slice_set slots id (Some run)) q + length_of (slice_set slots id (Some run)) q ≤ offset_of (slice_set slots id (Some run)) next) id
          (λ _ a b le. elim (apart q (omega (arith, ap slot_length (other q ne)))) [
            | inl before ↦ absurd (omega (arith, ap slot_offset here, ap slot_offset (other q ne)))
            | inr after ↦ omega (arith, ap slot_offset here, ap slot_offset (other q ne), ap slot_length (other q ne))
          ])
          (λ next ne' differ a b le. omega (
            arith,
            ap slot_offset (other q ne),
            ap slot_length (other q ne),
            ap slot_offset (other next ne'),
            laid.apart q next differ (omega (arith, ap slot_length (other q ne))) (omega (arith, ap slot_length (other next ne'))) (omega (arith, ap slot_offset (other q ne), ap slot_offset (other next ne'))),
          )));
    }

-- LISTS

-- a slot's list stays where its words do
list_stays : (words words' : List ℕ) (slot : Option Run) → slot_offset slot + slot_length slot ≤ length words → length words ≤ length words'
    → ((k : ℕ) → slot_offset slot ≤ k → k < slot_offset slot + slot_length slot → slice_index words' k ≡ slice_index words k)
    → list_in words' slot ≡ list_in words slot
list_stays words words' slot within longer same = list_in_same words words' slot slot refl refl within (omega arith) (λ k lt. same (slot_offset slot + k) (omega arith) (omega arith))

pub put_again_lists : {words words' : List ℕ} {slots : List (Option Run)} (first id : ℕ) (list : List ℕ) (run : Run) → IsLaidOut words slots
    → id < length slots → run.offset ≡ first → run.length ≡ length list → first + length list ≤ length words → 0 < length list
    → ((q : ℕ) → 0 < length_of slots q → AreApart run.offset run.length (offset_of slots q) (length_of slots q))
    → WritesList words first list words' → lists_from words' 0 (slice_set slots id (Some run)) ≡ insert (lists_from words 0 slots) id list
put_again_lists {words = words} {words' = words'} {slots = slots} first id list run laid lt begins size_is within some apart w =
    lists-insert words words' slots (slice_set slots id (Some run)) id list
    (ap (list_in words') (get_or-set_same slots id (Some run) None lt)
    ∙ ap Some (ext_get_or 0 (run_words words' run) list
    (length-run_words words' run (omega (arith, w.same_length)) ∙ size_is)
    (λ k small. let size = length-run_words words' run (omega (arith, w.same_length)) in
    word_of_run words' run k (omega arith) ∙ ap (λ o. slice_index words' (o + k)) begins ∙ w.inside k (omega arith))))
    (λ q ne. ap (list_in words') (get_or-set_other slots id q (Some run) None ne)
    ∙ list_stays words words' (run_at slots q) (laid.within q) (omega (arith, w.same_length))
    (λ k le small. elim (apart q (omega arith)) [
      | inl before ↦ w.above k (omega arith)
      | inr after ↦ w.below k (omega arith)
    ]))

-- the lists of the others, where a run that is given back is listed
pub give_back_lists : {words firsts words' firsts' : List ℕ} {slots : List (Option Run)} (id : ℕ) (run : Run) → IsLaidOut words slots → id < length slots → run_at slots id ≡ Some run
    → ListsRun words firsts run words' firsts' → lists_from words' 0 (slice_set slots id None) ≡ remove (lists_from words 0 slots) id
give_back_lists {words = words} {firsts = firsts} {words' = words'} {slots = slots} id run laid lt is listed =
    lists-remove words words' slots (slice_set slots id None) id (get_or-set_same slots id None None lt)
    (λ q ne. ap (list_in words') (get_or-set_other slots id q None None ne) ∙ elim listed [
      | inl new ↦ rw new.2 (list_stays words (slice_set words run.offset (slice_index firsts run.length)) (run_at slots q) (laid.within q)
          (omega (arith, length-set words run.offset (slice_index firsts run.length)))
          (λ k le small. get_or-set_other words run.offset k (slice_index firsts run.length) 0 (λ e. elsewhere q ne new.0 k le small e)))
      | inr same ↦ rw same.0 refl
    ])
  where
    elsewhere : (q : ℕ) → q ≢ id → 0 < run.length → (k : ℕ) → offset_of slots q ≤ k → k < offset_of slots q + length_of slots q → k ≢ run.offset
    elsewhere q ne some k le small e =
        let begins : offset_of slots id ≡ run.offset = ap slot_offset is in
        let size : length_of slots id ≡ run.length = ap slot_length is in
        omega (arith, laid.apart q id ne (omega arith) (omega arith) (omega arith))

-- a list is put into the first free run of its length
pub put_again_all : {words firsts words' firsts' : List ℕ} {slots : List (Option Run)} (first id : ℕ) (list : List ℕ) (run : Run) → IsLaidOut words slots
    → length list < length firsts → slice_index firsts (length list) ≡ first → first ≢ NO_RUN → id < length slots
    → run.offset ≡ first → run.length ≡ length list → WritesList words first list words' → firsts' ≡ slice_set firsts (length list) (slice_index words first)
    → IsFree words firsts slots
    → (IsLaidOut words' (slice_set slots id (Some run))) × (IsFree words' firsts' (slice_set slots id (Some run)))
    × (lists_from words' 0 (slice_set slots id (Some run)) ≡ insert (lists_from words 0 slots) id list)
put_again_all {words = words} {words' = words'} {slots = slots} first id list run laid in_table is some lt begins size_is w next f =
    let at : IsOneOf first (f.runs (length list)) = first_listed (length list) first in_table is some f in
    let pos : 0 < length list = (f.listed (length list) first at).0 in
    let within : first + length list ≤ length words = f.within (length list) first at in
    let apart : (q : ℕ) → 0 < length_of slots q → AreApart run.offset run.length (offset_of slots q) (length_of slots q) =
    λ q live. subst (λ o. AreApart o run.length (offset_of slots q) (length_of slots q)) (sym begins)
    (subst (λ s. AreApart first s (offset_of slots q) (length_of slots q)) (sym size_is) (f.not_live (length list) first q at live)) in (
      laid_out_again words' id run laid lt (omega (arith, w.same_length)) (omega (arith, w.same_length)) (omega arith) apart,
      rw next (free_take first id list run in_table is some lt begins size_is w f),
      put_again_lists first id list run laid lt begins size_is within pos apart w,
    )
