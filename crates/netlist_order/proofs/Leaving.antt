-- A place of the path is left, where no component begins.
use Rattle.std.proofs.Common.{◌≢◌, ℕ, ◌-◌, ◌⊎◌, inl, inr, length, sym, subst, ⊎_elim}
use Rattle.std.proofs.lemmas.Bool.{cases_eq}
use Rattle.netlist_order.specs.Graph.{Graph, Occurs}
use Rattle.netlist_order.specs.State.{State, table_at, left, without_last}
use Rattle.netlist_order.specs.Sound.{IsKnown, IsSound, IsLast, IsFollowed}
use Rattle.netlist_order.proofs.Lists.{from_take, IsRising-take, Occurs-without_last}

module _ (g : Graph) (s : State) (c : ℕ) (sound : IsSound g s) (at : IsLast s.path c) (followed : IsFollowed g s (table_at s c))
    (no_head : Occurs c s.heads → ⊥) where
  still_there : (place : ℕ) → place ≢ c → Occurs place s.path → Occurs place (without_last s.path)
  still_there place other occurs = Occurs-without_last place c at.index s.path at.last at.is other occurs

  rest : (place : ℕ) → Occurs place s.path ⊎ IsFollowed g s (table_at s place) → Occurs place (without_last s.path) ⊎ IsFollowed g s (table_at s place)
  rest place (inl occurs) =
      ⊎_elim (λ same. inr (subst (λ q. IsFollowed g s (table_at s q)) (sym same) followed))
      (λ other. inl (still_there place other occurs)) (cases_eq place c)
  rest place (inr done) = inr done

  keep : (place driver : ℕ) → IsKnown s place driver → IsKnown (left s) place driver
  keep place driver (inl done) = inl done
  keep place driver (inr at) = inr (record { place = at.place; open_at = at.open_at; joined = at.joined })

  pub IsSound-left : IsSound g (left s)
  IsSound-left = record {
    open_tables = record {
      marks_size = sound.open_tables.marks_size;
      next_size = sound.open_tables.next_size;
      within = sound.open_tables.within;
      marked = sound.open_tables.marked;
      placed = sound.open_tables.placed;
      fresh = sound.open_tables.fresh;
      known = λ place input driver lt less drives. keep place driver (sound.open_tables.known place input driver lt less drives);
      ahead = sound.open_tables.ahead;
      back = sound.open_tables.back;
    };
    places = record {
      on_path = λ head occurs.
          let other : head ≢ c = λ same. no_head (subst (λ h. Occurs h s.heads) same occurs) in
          still_there head other (sound.places.on_path head occurs);
      heads_rise = sound.places.heads_rise;
      path_rises = IsRising-take s.path (length s.path - 1) sound.places.path_rises;
      within = λ place occurs. sound.places.within place (from_take place (length s.path - 1) s.path occurs);
      rest = λ place lt. rest place (sound.places.rest place lt);
      bottom = sound.places.bottom;
    };
    closed_tables = record {
      reads = sound.closed_tables.reads;
      listed = sound.closed_tables.listed;
      done = sound.closed_tables.done;
      once = sound.closed_tables.once;
      after = sound.closed_tables.after;
      clean = sound.closed_tables.clean;
      cyclic = sound.closed_tables.cyclic;
    };
  }
