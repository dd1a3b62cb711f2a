-- The table of signals: one more cell, and one more mention.
use Rattle.std.proofs.Common.{◌≡◌, ◌≢◌, ℕ, ◌+◌, ◌<◌, ◌⊎◌, inl, inr, true, false, Option, List, [], ◌∷◌, ◌++◌, length, map, set, get_or, Some, None, refl, sym, ap, ◌∙◌, subst, ⊎_elim, arith}
use Rattle.std.proofs.lemmas.List.{map-set, map_push, length-set, length-map, length_push, set-get_or, get_or-map, get_or-set_same, get_or-set_other, get_or_append_left, get_or_push, ext_get_or}
use Rattle.std.proofs.lemmas.Option.{none-some, same_Some}
use Rattle.std.proofs.lemmas.Bool.{cases_lt, cases_eq}
use Rattle.blif_flattening.specs.declared.model.Signal.{Signal}
use Rattle.blif_flattening.specs.declared.cells.Cell.{Cell}
use Rattle.blif_flattening.specs.Members.{Among, Apart}
use Rattle.blif_flattening.specs.Listing.{number_in_list}
use Rattle.blif_flattening.specs.Numbers.{is_among, onto, place_of}
use Rattle.blif_flattening.specs.Cells.{SignalTable, no_signal, signals_of, signal_in, number_in, seen_of, table_of, IsTable, with_owner}
use Rattle.blif_flattening.proofs.Members.{Among-at, Among-place, from_append, from_map}
use Rattle.blif_flattening.proofs.Numbering.{Among-told, Apart-push, onto-seen, onto-new, place_of-get_or}

-- a place of a list with one more member is old, or the last one
pub pushed_place : (i n : ℕ) → i < n + 1 → (i < n) ⊎ (i ≡ n)
pushed_place i n lt = ⊎_elim (λ below. inl below) (λ above. inr (omega arith)) (cases_lt i n)

-- places with one signal are one
same_place : (xs : List Signal) (i j : ℕ) → Apart xs → i < length xs → j < length xs → signal_in xs i ≡ signal_in xs j → i ≡ j
same_place xs i j apart first second same =
    sym (place_of-get_or xs i no_signal apart first) ∙ ap (place_of xs) same ∙ place_of-get_or xs j no_signal apart second

-- what is read of a cell
pub number_read : (cells : List Cell) (place : ℕ) (cell : Cell) → place < length cells → cell ≡ get_or cells place cell → number_in cells place ≡ cell.number
number_read cells place cell lt is =
    get_or-map (λ (c : Cell). c.number) cells place cell None lt ∙ ap (λ (c : Cell). c.number) (sym is)

signal_read : (cells : List Cell) (place : ℕ) (cell : Cell) → place < length cells → cell ≡ get_or cells place cell
    → signal_in (signals_of cells) place ≡ cell.signal
signal_read cells place cell lt is =
    get_or-map (λ (c : Cell). c.signal) cells place cell no_signal lt ∙ ap (λ (c : Cell). c.signal) (sym is)

-- a cell that is read twice
pub none_again : (cells : List Cell) (place : ℕ) (one other : Cell) → place < length cells → one ≡ get_or cells place one → other ≡ get_or cells place other
    → one.number ≡ None → other.number ≡ None
none_again cells place one other lt first second none =
    sym (number_read cells place other lt second) ∙ number_read cells place one lt first ∙ none

module _ (cells : List Cell) (order : List ℕ) (table : IsTable cells order) where
  seen-size : length (seen_of cells order) ≡ length order
  seen-size = length-map order (signal_in (signals_of cells))

  seen-at : (i : ℕ) → i < length order → signal_in (seen_of cells order) i ≡ signal_in (signals_of cells) (get_or order i 0)
  seen-at i lt = get_or-map (signal_in (signals_of cells)) order i 0 no_signal lt

  owners-size : length (signals_of cells) ≡ length cells
  owners-size = length-map cells (λ (c : Cell). c.signal)

  -- what was mentioned has a cell
  seen-owned : (signal : Signal) → Among signal (seen_of cells order) → Among signal (signals_of cells)
  seen-owned signal there =
      let by = from_map (signal_in (signals_of cells)) signal order there in
      let at = Among-place by.0 0 order by.1 in
      let lt : by.0 < length (signals_of cells) = omega (arith, owners-size, at.2, table.within at.0 at.1) in
      subst (λ s. Among s (signals_of cells)) by.2 (Among-at (signals_of cells) by.0 no_signal lt)

  -- a cell whose signal was mentioned
  module _ (place number : ℕ) (lt : place < length cells) (is : number_in cells place ≡ Some number) where
    seen-number : (number < length (seen_of cells order)) × (signal_in (seen_of cells order) number ≡ signal_in (signals_of cells) place)
    seen-number =
        let at = table.numbered place number lt is in
        (omega (arith, seen-size, at.0), seen-at number at.0 ∙ ap (signal_in (signals_of cells)) at.1)

    pub number-mentioned : number ≡ place_of (seen_of cells order) (signal_in (signals_of cells) place)
    number-mentioned =
        let at = seen-number in
        sym (place_of-get_or (seen_of cells order) number no_signal table.once at.0) ∙ ap (place_of (seen_of cells order)) at.1

    pub seen-mentioned : seen_of cells order ≡ onto (seen_of cells order) (signal_in (signals_of cells) place ∷ [])
    seen-mentioned =
        let at = seen-number in
        sym (onto-seen (seen_of cells order) (signal_in (signals_of cells) place) []
        (subst (λ s. Among s (seen_of cells order)) at.1 (Among-at (seen_of cells order) number no_signal at.0)))

  -- and one whose signal was not
  module _ (place : ℕ) (cell : Cell) (lt : place < length cells) (is : cell ≡ get_or cells place cell) (none : cell.number ≡ None) where
    numbered : Cell
    numbered = record { signal = cell.signal; number = Some (length order) }

    now : List Cell
    now = set cells place numbered

    signal : Signal
    signal = signal_in (signals_of cells) place

    not_seen : Among signal (seen_of cells order) → ⊥
    unfolding signal
    not_seen there = table.unseen place lt (number_read cells place cell lt is ∙ none) there

    owners-now : signals_of now ≡ signals_of cells
    unfolding now numbered
    owners-now =
        map-set (λ (c : Cell). c.signal) cells place numbered
        ∙ ap (λ s. set (signals_of cells) place s) (sym (signal_read cells place cell lt is))
        ∙ set-get_or (signals_of cells) place no_signal

    number-here : number_in now place ≡ Some (length order)
    unfolding now numbered
    number-here =
        ap (λ ns. get_or ns place None) (map-set (λ (c : Cell). c.number) cells place numbered)
        ∙ get_or-set_same (map (λ (c : Cell). c.number) cells) place (Some (length order)) None (omega (arith, length-map cells (λ (c : Cell). c.number)))

    number-there : (other : ℕ) → other ≢ place → number_in now other ≡ number_in cells other
    unfolding now numbered
    number-there other differs =
        ap (λ ns. get_or ns other None) (map-set (λ (c : Cell). c.number) cells place numbered)
        ∙ get_or-set_other (map (λ (c : Cell). c.number) cells) place other (Some (length order)) None differs

    now-size : length now ≡ length cells
    unfolding now
    now-size = length-set cells place numbered

    seen-now : seen_of now (order ++ place ∷ []) ≡ seen_of cells order ++ signal ∷ []
    unfolding signal
    seen-now =
        ap (λ owners. map (signal_in owners) (order ++ place ∷ [])) owners-now ∙ map_push (signal_in (signals_of cells)) order place

    not_here : (other : ℕ) → number_in now other ≡ None → other ≢ place
    not_here other nothing same =
        none-some (length order) (sym (subst (λ p. number_in now p ≡ None) same nothing) ∙ number-here)

    unseen : (other : ℕ) → other < length now → number_in now other ≡ None
        → Among (signal_in (signals_of now) other) (seen_of now (order ++ place ∷ [])) → ⊥
    unfolding signal
    unseen other within nothing there =
        let differs = not_here other nothing in
        let before : other < length cells = omega (arith, now-size) in
        let old : Among (signal_in (signals_of cells) other) (seen_of cells order ++ signal ∷ []) =
        subst (λ xs. Among (signal_in (signals_of cells) other) xs) seen-now
        (subst (λ owners. Among (signal_in owners other) (seen_of now (order ++ place ∷ []))) owners-now there) in
        ⊎_elim (λ first. table.unseen other before (sym (number-there other differs) ∙ nothing) first)
        (λ last. ⊎_elim
        (λ same. differs (same_place (signals_of cells) other place table.apart (omega (arith, owners-size)) (omega (arith, owners-size)) (sym same)))
        (λ no. no) last)
        (from_append (signal_in (signals_of cells) other) (seen_of cells order) (signal ∷ []) old)

    numbers : (other number : ℕ) → other < length now → number_in now other ≡ Some number
        → (number < length (order ++ place ∷ [])) × (get_or (order ++ place ∷ []) number 0 ≡ other)
    numbers other number within some =
        ⊎_elim
        (λ same.
        let mine : Some (length order) ≡ Some number = sym number-here ∙ subst (λ p. number_in now p ≡ Some number) same some in
        let at : length order ≡ number = same_Some (length order) number mine in
        (omega (arith, length_push order place), get_or_push order place 0 number at ∙ sym same))
        (λ differs. let old = table.numbered other number (omega (arith, now-size)) (sym (number-there other differs) ∙ some) in
        (omega (arith, length_push order place, old.0), get_or_append_left order (place ∷ []) 0 number old.0 ∙ old.1))
        (cases_eq other place)

    pub IsTable-mentioned : IsTable (set cells place (record { signal = cell.signal; number = Some (length order) })) (order ++ place ∷ [])
    unfolding now numbered
    IsTable-mentioned = record {
      apart = subst (λ xs. Apart xs) (sym owners-now) table.apart;
      within = λ i within.
          ⊎_elim
          (λ old. rw (get_or_append_left order (place ∷ []) 0 i old) (omega (arith, now-size, table.within i old)))
          (λ last. rw (get_or_push order place 0 i (sym last)) (omega (arith, now-size)))
          (pushed_place i (length order) (omega (arith, within, length_push order place)));
      once = subst (λ xs. Apart xs) (sym seen-now) (Apart-push (seen_of cells order) signal table.once not_seen);
      unseen = unseen;
      numbered = numbers;
    }

    pub owners-mentioned : signals_of (set cells place (record { signal = cell.signal; number = Some (length order) })) ≡ signals_of cells
    unfolding now numbered
    owners-mentioned = owners-now

    pub seen-added : seen_of (set cells place (record { signal = cell.signal; number = Some (length order) })) (order ++ place ∷ [])
        ≡ onto (seen_of cells order) (signal_in (signals_of cells) place ∷ [])
    unfolding now numbered signal
    seen-added = seen-now ∙ sym (onto-new (seen_of cells order) signal [] not_seen)

    pub room-added : length (onto (seen_of cells order) (signal_in (signals_of cells) place ∷ [])) ≡ length order + 1
    unfolding signal
    room-added =
        ap length (onto-new (seen_of cells order) signal [] not_seen) ∙ length_push (seen_of cells order) signal ∙ ap (λ n. n + 1) seen-size

    pub number-added : length order
        ≡ place_of (seen_of (set cells place (record { signal = cell.signal; number = Some (length order) })) (order ++ place ∷ [])) (signal_in (signals_of cells) place)
    unfolding now numbered signal
    number-added =
        let all : List Signal = seen_of cells order ++ signal ∷ [] in
        let last : get_or all (length order) no_signal ≡ signal = get_or_push (seen_of cells order) signal no_signal (length order) seen-size in
        sym (place_of-get_or all (length order) no_signal (Apart-push (seen_of cells order) signal table.once not_seen)
        (omega (arith, seen-size, length_push (seen_of cells order) signal)))
        ∙ ap (place_of all) last ∙ ap (λ xs. place_of xs signal) (sym seen-now)

  -- one more cell
  module _ (signal : Signal) (fresh : Among signal (signals_of cells) → ⊥) where
    more : List Cell
    more = cells ++ record { signal = signal; number = None } ∷ []

    owners-more : signals_of more ≡ signals_of cells ++ signal ∷ []
    unfolding more
    owners-more = map_push (λ (c : Cell). c.signal) cells (record { signal = signal; number = None })

    signal-old : (place : ℕ) → place < length cells → signal_in (signals_of more) place ≡ signal_in (signals_of cells) place
    signal-old place lt =
        ap (λ xs. signal_in xs place) owners-more ∙ get_or_append_left (signals_of cells) (signal ∷ []) no_signal place (omega (arith, owners-size))

    signal-new : (place : ℕ) → place ≡ length cells → signal_in (signals_of more) place ≡ signal
    signal-new place is =
        ap (λ xs. signal_in xs place) owners-more ∙ get_or_push (signals_of cells) signal no_signal place (owners-size ∙ sym is)

    number-old : (place : ℕ) → place < length cells → number_in more place ≡ number_in cells place
    unfolding more
    number-old place lt =
        ap (λ ns. get_or ns place None) (map_push (λ (c : Cell). c.number) cells (record { signal = signal; number = None }))
        ∙ get_or_append_left (map (λ (c : Cell). c.number) cells) (None ∷ []) None place (omega (arith, length-map cells (λ (c : Cell). c.number)))

    number-new : (place : ℕ) → place ≡ length cells → number_in more place ≡ None
    unfolding more
    number-new place is =
        ap (λ ns. get_or ns place None) (map_push (λ (c : Cell). c.number) cells (record { signal = signal; number = None }))
        ∙ get_or_push (map (λ (c : Cell). c.number) cells) None None place (length-map cells (λ (c : Cell). c.number) ∙ sym is)

    more-size : length more ≡ length cells + 1
    unfolding more
    more-size = length_push cells (record { signal = signal; number = None })

    seen-same : seen_of more order ≡ seen_of cells order
    seen-same =
        ext_get_or no_signal (seen_of more order) (seen_of cells order)
        (length-map order (signal_in (signals_of more)) ∙ sym seen-size)
        (λ i lt. let within : i < length order = omega (arith, length-map order (signal_in (signals_of more))) in
        get_or-map (signal_in (signals_of more)) order i 0 no_signal within
        ∙ signal-old (get_or order i 0) (table.within i within) ∙ sym (seen-at i within))

    unseen-more : (place : ℕ) → (place < length cells) ⊎ (place ≡ length cells) → number_in more place ≡ None
        → Among (signal_in (signals_of more) place) (seen_of more order) → ⊥
    unseen-more place (inl old) nothing there =
        table.unseen place old (sym (number-old place old) ∙ nothing)
        (subst (λ s. Among s (seen_of cells order)) (signal-old place old) (subst (λ xs. Among (signal_in (signals_of more) place) xs) seen-same there))
    unseen-more place (inr new) nothing there =
        fresh (seen-owned signal
        (subst (λ s. Among s (seen_of cells order)) (signal-new place new) (subst (λ xs. Among (signal_in (signals_of more) place) xs) seen-same there)))

    numbers-more : (place number : ℕ) → (place < length cells) ⊎ (place ≡ length cells) → number_in more place ≡ Some number
        → (number < length order) × (get_or order number 0 ≡ place)
    numbers-more place number (inl old) some = table.numbered place number old (sym (number-old place old) ∙ some)
    numbers-more place number (inr new) some = absurd (none-some number (sym (number-new place new) ∙ some))

    pub IsTable-added : IsTable (cells ++ record { signal = signal; number = None } ∷ []) order
    unfolding more
    IsTable-added = record {
      apart = subst (λ xs. Apart xs) (sym owners-more) (Apart-push (signals_of cells) signal table.apart fresh);
      within = λ i lt. omega (arith, more-size, table.within i lt);
      once = subst (λ xs. Apart xs) (sym seen-same) table.once;
      unseen = λ place lt nothing there. unseen-more place (pushed_place place (length cells) (omega (arith, more-size))) nothing there;
      numbered = λ place number lt some. numbers-more place number (pushed_place place (length cells) (omega (arith, more-size))) some;
    }

    pub table-added : table_of (cells ++ record { signal = signal; number = None } ∷ []) order ≡ with_owner (table_of cells order) signal
    unfolding more
    table-added =
        let make : List Signal → List Signal → SignalTable = λ owners seen. record { owners = owners; seen = seen } in
        ap (λ owners. make owners (seen_of more order)) owners-more ∙ ap (λ seen. make (signals_of cells ++ signal ∷ []) seen) seen-same

none-among : (xs : List Signal) (x : Signal) → (Among x xs → ⊥) → is_among xs x ≡ false
none-among xs x not = ⊎_elim (λ yes. absurd (not yes.1)) (λ no. no.0) (Among-told xs x)

some-among : (xs : List Signal) (x : Signal) → Among x xs → is_among xs x ≡ true
some-among xs x there = ⊎_elim (λ yes. yes.0) (λ no. absurd (no.1 there)) (Among-told xs x)

-- the number that a cell has is that of its signal, where it was mentioned
pub number-asked : (cells : List Cell) (order : List ℕ) (place : ℕ) (found : Option ℕ) → IsTable cells order → place < length cells → number_in cells place ≡ found
    → found ≡ number_in_list (seen_of cells order) (signal_in (signals_of cells) place)
number-asked cells order place None table lt is =
    rw (none-among (seen_of cells order) (signal_in (signals_of cells) place) (table.unseen place lt is)) refl
number-asked cells order place (Some number) table lt is =
    let seen = seen_of cells order in
    let signal = signal_in (signals_of cells) place in
    let at = table.numbered place number lt is in
    let inside : number < length seen = omega (arith, at.0, length-map order (signal_in (signals_of cells))) in
    let same : signal_in seen number ≡ signal =
    get_or-map (signal_in (signals_of cells)) order number 0 no_signal at.0 ∙ ap (signal_in (signals_of cells)) at.1 in
    rw (some-among seen signal (subst (λ s. Among s seen) same (Among-at seen number no_signal inside)))
    (ap Some (number-mentioned cells order table place number lt is))
