-- One more input of an open table is followed.
use Rattle.std.proofs.Common.{◌≡◌, ◌≢◌, ℕ, zero, suc, ◌+◌, ◌<◌, ◌≤◌, ◌⊎◌, inl, inr, List, [], ◌∷◌, length, get_or, set, Some, sym, ap, ◌∙◌, subst, ⊎_elim, arith}
use Rattle.std.proofs.lemmas.List.{length-set, get_or-set_same, get_or-set_other}
use Rattle.std.proofs.lemmas.Bool.{cases_eq}
use Rattle.netlist_order.specs.declared.search.Visit.TheVariants.{New}
use Rattle.netlist_order.specs.Graph.{Graph, inputs_of, driver_of}
use Rattle.netlist_order.specs.State.{State, mark_of, next_of, table_at, advanced, unfollowed}
use Rattle.netlist_order.specs.Sound.{IsKnown, IsSound}
use Rattle.netlist_order.proofs.Lists.{pushed_place}

module _ (g : Graph) (s : State) (c : ℕ) (sound : IsSound g s) (lt : c < length s.met)
    (last : (driver : ℕ) → driver_of g (table_at s c) (next_of s (table_at s c)) ≡ Some driver → IsKnown s c driver) where
  in_next : table_at s c < length s.next
  in_next = omega (arith, sound.open_tables.within c lt, sound.open_tables.next_size)

  next-same : next_of (advanced s (table_at s c)) (table_at s c) ≡ next_of s (table_at s c) + 1
  next-same = get_or-set_same s.next (table_at s c) (next_of s (table_at s c) + 1) 0 in_next

  next-other : (v : ℕ) → v ≢ table_at s c → next_of (advanced s (table_at s c)) v ≡ next_of s v
  next-other v ne = get_or-set_other s.next (table_at s c) v (next_of s (table_at s c) + 1) 0 ne

  next-grows : (v : ℕ) → next_of s v ≤ next_of (advanced s (table_at s c)) v
  next-grows v =
      ⊎_elim
      (λ same. let more = next-same in subst (λ w. next_of s w ≤ next_of (advanced s (table_at s c)) w) (sym same) (omega arith))
      (λ other. omega (arith, next-other v other)) (cases_eq v (table_at s c))

  not-new : (v : ℕ) → mark_of s v ≡ New → v ≢ table_at s c
  not-new v new e =
      let fresh : mark_of s (table_at s c) ≡ New = subst (λ w. mark_of s w ≡ New) e new in
      let marked = sound.open_tables.marked c lt in cc

  same-place : (place : ℕ) → place < length s.met → table_at s place ≡ table_at s c → place ≡ c
  same-place place within e =
      let one = sound.open_tables.marked place within in
      let other = sound.open_tables.marked c lt in
      let marks : mark_of s (table_at s place) ≡ mark_of s (table_at s c) = ap (mark_of s) e in
      cc

  known : (place input driver : ℕ) → place < length s.met → (table_at s place ≡ table_at s c) ⊎ (table_at s place ≢ table_at s c)
      → input < next_of (advanced s (table_at s c)) (table_at s place) → driver_of g (table_at s place) input ≡ Some driver → IsKnown s place driver
  known place input driver within (inl same) less drives =
      let is : place ≡ c = same-place place within same in
      let below : input < next_of s (table_at s c) + 1 =
      omega (arith, next-same, subst (λ t. input < next_of (advanced s (table_at s c)) t) same less) in
      let by : driver_of g (table_at s c) input ≡ Some driver = subst (λ t. driver_of g t input ≡ Some driver) same drives in
      subst (λ q. IsKnown s q driver) (sym is)
      (⊎_elim (λ old. sound.open_tables.known c input driver lt old by)
      (λ newest. last driver (subst (λ i. driver_of g (table_at s c) i ≡ Some driver) newest by))
      (pushed_place input (next_of s (table_at s c)) below))
  known place input driver within (inr other) less drives =
      sound.open_tables.known place input driver within (omega (arith, next-other (table_at s place) other)) drives

  keep : (place driver : ℕ) → IsKnown s place driver → IsKnown (advanced s (table_at s c)) place driver
  keep place driver (inl done) = inl done
  keep place driver (inr at) = inr (record { place = at.place; open_at = at.open_at; joined = at.joined })

  pub IsSound-advanced : IsSound g (advanced s (table_at s c))
  IsSound-advanced = record {
    open_tables = record {
      marks_size = sound.open_tables.marks_size;
      next_size = length-set s.next (table_at s c) (next_of s (table_at s c) + 1) ∙ sound.open_tables.next_size;
      within = sound.open_tables.within;
      marked = sound.open_tables.marked;
      placed = sound.open_tables.placed;
      fresh = λ table new. next-other table (not-new table new) ∙ sound.open_tables.fresh table new;
      known = λ place input driver within less drives.
          keep place driver (known place input driver within (cases_eq (table_at s place) (table_at s c)) less drives);
      ahead = sound.open_tables.ahead;
      back = sound.open_tables.back;
    };
    places = record {
      on_path = sound.places.on_path;
      heads_rise = sound.places.heads_rise;
      path_rises = sound.places.path_rises;
      within = sound.places.within;
      rest = λ place within.
          ⊎_elim (λ old. inl old) (λ followed. inr (omega (arith, followed, next-grows (table_at s place)))) (sound.places.rest place within);
      bottom = sound.places.bottom;
    };
    closed_tables = record {
      reads = sound.closed_tables.reads;
      listed = sound.closed_tables.listed;
      done = sound.closed_tables.done;
      once = sound.closed_tables.once;
      after = sound.closed_tables.after;
      clean = sound.closed_tables.clean;
      cyclic = sound.closed_tables.cyclic;
    };
  }

-- one input less is left
pub unfollowed-set : (g : Graph) (next : List ℕ) (table : ℕ) → table < length next → get_or next table 0 < length (inputs_of g table)
    → unfollowed g (set next table (get_or next table 0 + 1)) + 1 ≡ unfollowed g next
unfollowed-set [] next table within less = absurd (omega arith)
unfollowed-set (inputs ∷ g) [] table within less = absurd (omega arith)
unfollowed-set (inputs ∷ g) (count ∷ next) zero within less = omega arith
unfollowed-set (inputs ∷ g) (count ∷ next) (suc table) within less =
    omega (arith, unfollowed-set g next table (omega arith) less)
