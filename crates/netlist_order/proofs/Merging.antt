-- Components are joined: a table that is read is open already.
use Rattle.std.proofs.Common.{◌≡◌, ℕ, ◌+◌, ◌-◌, ◌<◌, ◌≤◌, ◌⊎◌, inl, inr, List, length, get_or, sym, subst, ⊎_elim, arith}
use Rattle.std.proofs.lemmas.Bool.{cases_lt, cases_eq}
use Rattle.netlist_order.specs.declared.search.Visit.TheVariants.{Open}
use Rattle.netlist_order.specs.Graph.{Graph, Reads, Depends, Occurs}
use Rattle.netlist_order.specs.State.{State, mark_of, table_at, with_heads, DropsAbove}
use Rattle.netlist_order.specs.Sound.{Joined, IsKnown, IsSound, IsLast, IsRising}
use Rattle.netlist_order.proofs.Lists.{from_take, Occurs-take, IsRising-take}
use Rattle.netlist_order.proofs.Chains.{Depends-append}
use Rattle.netlist_order.proofs.Leading.{leads}

module _ (g : Graph) (s : State) (c : ℕ) (sound : IsSound g s) (at : IsLast s.path c) (u p : ℕ) (reads : Reads g (table_at s c) u)
    (open_at : mark_of s u ≡ Open p) (heads : List ℕ) (drops : DropsAbove p s.heads heads) where
  was : (head : ℕ) → Occurs head heads → Occurs head s.heads
  was head occurs = from_take head (length heads) s.heads (subst (λ hs. Occurs head hs) drops.kept occurs)

  rises : IsRising heads
  rises = subst (λ hs. IsRising hs) (sym drops.kept) (IsRising-take s.heads (length heads) sound.places.heads_rise)

  upto : (head : ℕ) → Occurs head heads → head ≤ p
  upto head occurs =
      ⊎_elim
      (λ more. let last : get_or heads (length heads - 1) 0 ≤ p = drops.last (length heads - 1) (omega arith) in
      let less = rises occurs.place (length heads - 1) (omega arith) (omega arith) in omega (arith, occurs.is))
      (λ ends. let last : get_or heads occurs.place 0 ≤ p = drops.last occurs.place (omega (arith, occurs.within)) in omega (arith, occurs.is))
      (cases_lt (occurs.place + 1) (length heads))

  stays : (head : ℕ) → Occurs head s.heads → head ≤ p → Occurs head heads
  stays head occurs le =
      ⊎_elim
      (λ lt. subst (λ hs. Occurs head hs) (sym drops.kept) (Occurs-take head (length heads) s.heads occurs lt))
      (λ past. let above : p < get_or s.heads occurs.place 0 = drops.above occurs.place past occurs.within in absurd (omega (arith, occurs.is)))
      (cases_lt occurs.place (length heads))

  there : (p < length s.met) × (table_at s p ≡ u)
  there = sound.open_tables.placed u p open_at

  to-p : (place : ℕ) → place < length s.met → Depends g (table_at s place) (table_at s p)
  to-p place lt = rw there.1 (leads g s c sound at u reads place lt)

  keep : (place driver : ℕ) → IsKnown s place driver → IsKnown (with_heads s heads) place driver
  keep place driver (inl done) = inl done
  keep place driver (inr known) =
      inr (record { place = known.place; open_at = known.open_at; joined = λ head occurs le. known.joined head (was head occurs) le })

  back-upto : (place later : ℕ) → place < later → later < length s.met → Joined heads place later → later ≤ p
      → Depends g (table_at s later) (table_at s place)
  back-upto place later less lt joined le =
      sound.open_tables.back place later less lt (λ head occurs below. joined head (stays head occurs (omega arith)) below)

  from-p : (place later : ℕ) → place < later → later < length s.met → Joined heads place later → p < later
      → (p ≡ place) ⊎ Depends g (table_at s p) (table_at s place)
  from-p place later less lt joined above =
      ⊎_elim (λ before. inr (sound.open_tables.ahead p place before (omega arith)))
      (λ not_before. ⊎_elim (λ same. inl same)
      (λ other. inr (back-upto place p (omega arith) there.0 (λ head occurs le. joined head occurs (omega arith)) (omega arith)))
      (cases_eq p place))
      (cases_lt p place)

  back : (place later : ℕ) → place < later → later < length s.met → Joined heads place later → Depends g (table_at s later) (table_at s place)
  back place later less lt joined =
      ⊎_elim
      (λ above. ⊎_elim (λ same. rw (← same) (to-p later lt)) (λ leading. Depends-append (to-p later lt) leading)
      (from-p place later less lt joined above))
      (λ le. back-upto place later less lt joined le)
      (cases_lt p later)

  pub known-merged : IsKnown (with_heads s heads) c u
  known-merged = inr (record { place = p; open_at = open_at; joined = λ head occurs le. upto head occurs })

  pub IsSound-merged : IsSound g (with_heads s heads)
  IsSound-merged = record {
    open_tables = record {
      marks_size = sound.open_tables.marks_size;
      next_size = sound.open_tables.next_size;
      within = sound.open_tables.within;
      marked = sound.open_tables.marked;
      placed = sound.open_tables.placed;
      fresh = sound.open_tables.fresh;
      known = λ place input driver lt less drives. keep place driver (sound.open_tables.known place input driver lt less drives);
      ahead = sound.open_tables.ahead;
      back = back;
    };
    places = record {
      on_path = λ head occurs. sound.places.on_path head (was head occurs);
      heads_rise = rises;
      path_rises = sound.places.path_rises;
      within = sound.places.within;
      rest = sound.places.rest;
      bottom = λ some. stays 0 (sound.places.bottom some) (omega arith);
    };
    closed_tables = record {
      reads = sound.closed_tables.reads;
      listed = sound.closed_tables.listed;
      done = sound.closed_tables.done;
      once = sound.closed_tables.once;
      after = sound.closed_tables.after;
      clean = sound.closed_tables.clean;
      cyclic = sound.closed_tables.cyclic;
    };
  }
