-- A table is met.
use Rattle.std.proofs.Common.{◌≡◌, ◌≢◌, ℕ, ◌+◌, ◌<◌, ◌≤◌, ◌⊎◌, inl, inr, List, [], ◌∷◌, length, get_or, Some, refl, ap, sym, ◌∙◌, subst, ⊎_elim, arith}
use Rattle.std.proofs.lemmas.List.{get_or_append_left, get_or_push, length_push, length-set, get_or-set_same, get_or-set_other}
use Rattle.std.proofs.lemmas.Bool.{cases_lt, cases_eq}
use Rattle.netlist_order.specs.declared.search.Visit.TheVariants.{New, Open, Done}
use Rattle.netlist_order.specs.Graph.{Graph, driver_of, Depends, Occurs}
use Rattle.netlist_order.specs.State.{State, mark_of, next_of, table_at, entered}
use Rattle.netlist_order.specs.Sound.{Joined, IsKnown, IsOpen, IsPath, IsClosed, IsSound, IsFollowed, KeepsMet}
use Rattle.netlist_order.proofs.Lists.{pushed_place, Occurs-push, Occurs-pushed, from_pushed, IsRising-push}

module _ (g : Graph) (s : State) (u : ℕ) (sound : IsSound g s) (is_new : mark_of s u ≡ New) (within : u < length g)
    (leads : (place : ℕ) → place < length s.met → Depends g (table_at s place) u) where
  in_marks : u < length s.marks
  in_marks = omega (arith, within, sound.open_tables.marks_size)

  mark-new : mark_of (entered s u) u ≡ Open (length s.met)
  mark-new = get_or-set_same s.marks u (Open (length s.met)) New in_marks

  mark-other : (v : ℕ) → v ≢ u → mark_of (entered s u) v ≡ mark_of s v
  mark-other v ne = get_or-set_other s.marks u v (Open (length s.met)) New ne

  table-old : (place : ℕ) → place < length s.met → table_at (entered s u) place ≡ table_at s place
  table-old place lt = get_or_append_left s.met (u ∷ []) 0 place lt

  table-new : (place : ℕ) → place ≡ length s.met → table_at (entered s u) place ≡ u
  table-new place is = get_or_push s.met u 0 place (sym is)

  not-done : (v : ℕ) → mark_of s v ≡ Done → v ≢ u
  not-done v done e = let at : mark_of s u ≡ Done = subst (λ w. mark_of s w ≡ Done) e done in cc

  not-open : (v place : ℕ) → mark_of s v ≡ Open place → v ≢ u
  not-open v place opened e = let at : mark_of s u ≡ Open place = subst (λ w. mark_of s w ≡ Open place) e opened in cc

  -- what a mark was
  was_new : (v : ℕ) → mark_of (entered s u) v ≡ New → mark_of s v ≡ New
  was_new v new =
      ⊎_elim (λ same. let at : mark_of (entered s u) u ≡ New = subst (λ w. mark_of (entered s u) w ≡ New) same new in let marked_new = mark-new in cc)
      (λ other. sym (mark-other v other) ∙ new) (cases_eq v u)

  was_done : (v : ℕ) → mark_of (entered s u) v ≡ Done → mark_of s v ≡ Done
  was_done v done =
      ⊎_elim (λ same. let at : mark_of (entered s u) u ≡ Done = subst (λ w. mark_of (entered s u) w ≡ Done) same done in let marked_new = mark-new in cc)
      (λ other. sym (mark-other v other) ∙ done) (cases_eq v u)

  still_done : (v : ℕ) → mark_of s v ≡ Done → mark_of (entered s u) v ≡ Done
  still_done v done = mark-other v (not-done v done) ∙ done

  size : length (entered s u).met ≡ length s.met + 1
  size = length_push s.met u

  by_place : (place : ℕ) → place < length (entered s u).met → (place < length s.met) ⊎ (place ≡ length s.met)
  by_place place lt = pushed_place place (length s.met) (omega (arith, size))

  marked : (place : ℕ) → (place < length s.met) ⊎ (place ≡ length s.met) → mark_of (entered s u) (table_at (entered s u) place) ≡ Open place
  marked place (inl lt) =
      ap (λ t. mark_of (entered s u) t) (table-old place lt)
      ∙ mark-other (table_at s place) (not-open (table_at s place) place (sound.open_tables.marked place lt)) ∙ sound.open_tables.marked place lt
  marked place (inr is) = ap (λ t. mark_of (entered s u) t) (table-new place is) ∙ mark-new ∙ ap Open (sym is)

  placed : (table place : ℕ) → mark_of (entered s u) table ≡ Open place → (table ≡ u) ⊎ (table ≢ u)
      → (place < length (entered s u).met) × (table_at (entered s u) place ≡ table)
  placed table place opened (inl same) =
      let at : mark_of (entered s u) u ≡ Open place = subst (λ w. mark_of (entered s u) w ≡ Open place) same opened in
      let marked_new = mark-new in
      let is : place ≡ length s.met = cc in
      (omega (arith, size), table-new place is ∙ sym same)
  placed table place opened (inr other) =
      let before = sound.open_tables.placed table place (sym (mark-other table other) ∙ opened) in
      (omega (arith, size, before.0), table-old place before.0 ∙ before.1)

  -- what was known stays known
  keep : (place driver : ℕ) → place < length s.met → IsKnown s place driver → IsKnown (entered s u) place driver
  keep place driver lt (inl done) = inl (still_done driver done)
  keep place driver lt (inr at) = inr (record {
    place = at.place;
    open_at = mark-other driver (not-open driver at.place at.open_at) ∙ at.open_at;
    joined = λ head occurs le.
        ⊎_elim (λ old. at.joined head old le) (λ is. absurd (omega arith)) (from_pushed head (length s.met) s.heads occurs);
  })

  pub known-entered : (place : ℕ) → place < length s.met → IsKnown (entered s u) place u
  known-entered place lt = inr (record {
    place = length s.met;
    open_at = mark-new;
    joined = λ head occurs le. omega arith;
  })

  known : (place input driver : ℕ) → (place < length s.met) ⊎ (place ≡ length s.met) → input < next_of (entered s u) (table_at (entered s u) place)
      → driver_of g (table_at (entered s u) place) input ≡ Some driver → IsKnown (entered s u) place driver
  known place input driver (inl lt) less drives =
      keep place driver lt (sound.open_tables.known place input driver lt
      (subst (λ t. input < next_of s t) (table-old place lt) less) (subst (λ t. driver_of g t input ≡ Some driver) (table-old place lt) drives))
  known place input driver (inr is) less drives =
      let none : input < next_of s u = subst (λ t. input < next_of s t) (table-new place is) less in
      absurd (omega (arith, none, sound.open_tables.fresh u is_new))

  table-within : (place : ℕ) → (place < length s.met) ⊎ (place ≡ length s.met) → table_at (entered s u) place < length g
  table-within place (inl lt) = omega (arith, table-old place lt, sound.open_tables.within place lt)
  table-within place (inr is) = omega (arith, table-new place is, within)

  ahead : (place later : ℕ) → place < later → (later < length s.met) ⊎ (later ≡ length s.met)
      → Depends g (table_at (entered s u) place) (table_at (entered s u) later)
  ahead place later less (inl lt) =
      rw (table-old place (omega arith), table-old later lt) (sound.open_tables.ahead place later less lt)
  ahead place later less (inr is) =
      let lt : place < length s.met = omega arith in rw (table-old place lt, table-new later is) (leads place lt)

  back : (place later : ℕ) → place < later → (later < length s.met) ⊎ (later ≡ length s.met) → Joined (entered s u).heads place later
      → Depends g (table_at (entered s u) later) (table_at (entered s u) place)
  back place later less (inl lt) joined =
      rw (table-old place (omega arith), table-old later lt)
      (sound.open_tables.back place later less lt (λ head occurs le. joined head (Occurs-push head (length s.met) s.heads occurs) le))
  back place later less (inr is) joined =
      let le : length s.met ≤ place = joined (length s.met) (Occurs-pushed (length s.met) s.heads) (omega arith) in absurd (omega arith)

  IsOpen-entered : IsOpen g (entered s u)
  IsOpen-entered = record {
    marks_size = length-set s.marks u (Open (length s.met)) ∙ sound.open_tables.marks_size;
    next_size = sound.open_tables.next_size;
    within = λ place lt. table-within place (by_place place lt);
    marked = λ place lt. marked place (by_place place lt);
    placed = λ table place opened. placed table place opened (cases_eq table u);
    fresh = λ table new. sound.open_tables.fresh table (was_new table new);
    known = λ place input driver lt less drives. known place input driver (by_place place lt) less drives;
    ahead = λ place later less lt. ahead place later less (by_place later lt);
    back = λ place later less lt joined. back place later less (by_place later lt) joined;
  }

  path-below : (place : ℕ) → Occurs place s.path → place < length s.met
  path-below place occurs = sound.places.within place occurs

  rest : (place : ℕ) → (place < length s.met) ⊎ (place ≡ length s.met)
      → Occurs place (entered s u).path ⊎ IsFollowed g (entered s u) (table_at (entered s u) place)
  rest place (inl lt) =
      ⊎_elim (λ old. inl (Occurs-push place (length s.met) s.path old))
      (λ followed. inr (subst (λ t. IsFollowed g s t) (sym (table-old place lt)) followed))
      (sound.places.rest place lt)
  rest place (inr is) = inl (subst (λ p. Occurs p (entered s u).path) (sym is) (Occurs-pushed (length s.met) s.path))

  bottom : Occurs 0 (entered s u).heads
  bottom =
      ⊎_elim (λ some. Occurs-push 0 (length s.met) s.heads (sound.places.bottom some))
      (λ none. let is : length s.met ≡ 0 = omega arith in subst (λ p. Occurs p (entered s u).heads) is (Occurs-pushed (length s.met) s.heads))
      (cases_lt 0 (length s.met))

  at : (xs : List ℕ) (i : ℕ) → i < length xs → Occurs (get_or xs i 0) xs
  at xs i lt = record { place = i; within = lt; is = refl }

  IsPath-entered : IsPath g (entered s u)
  IsPath-entered = record {
    on_path = λ head occurs.
        ⊎_elim (λ old. Occurs-push head (length s.met) s.path (sound.places.on_path head old))
        (λ is. subst (λ p. Occurs p (entered s u).path) (sym is) (Occurs-pushed (length s.met) s.path))
        (from_pushed head (length s.met) s.heads occurs);
    heads_rise = IsRising-push s.heads (length s.met) sound.places.heads_rise
        (λ i lt. path-below (get_or s.heads i 0) (sound.places.on_path (get_or s.heads i 0) (at s.heads i lt)));
    path_rises = IsRising-push s.path (length s.met) sound.places.path_rises (λ i lt. path-below (get_or s.path i 0) (at s.path i lt));
    within = λ place occurs.
        ⊎_elim (λ old. let lt = path-below place old in omega (arith, lt, size)) (λ is. omega (arith, size)) (from_pushed place (length s.met) s.path occurs);
    rest = λ place lt. rest place (by_place place lt);
    bottom = λ some. bottom;
  }

  IsClosed-entered : IsClosed g (entered s u)
  IsClosed-entered = record {
    reads = λ table driver done reads. still_done driver (sound.closed_tables.reads table driver (was_done table done) reads);
    listed = λ table done. sound.closed_tables.listed table (was_done table done);
    done = λ table occurs. still_done table (sound.closed_tables.done table occurs);
    once = sound.closed_tables.once;
    after = sound.closed_tables.after;
    clean = λ table done below. sound.closed_tables.clean table (was_done table done) below;
    cyclic = sound.closed_tables.cyclic;
  }

  pub IsSound-entered : IsSound g (entered s u)
  IsSound-entered = record { open_tables = IsOpen-entered; places = IsPath-entered; closed_tables = IsClosed-entered }

  pub KeepsMet-entered : KeepsMet s (entered s u)
  KeepsMet-entered = was_new

  pub met-entered : mark_of (entered s u) u ≡ Open (length s.met)
  met-entered = mark-new
