-- How a search begins, and what it has found once nothing is left.
use Rattle.std.proofs.Common.{◌≡◌, ◌≢◌, ℕ, ◌-◌, ◌<◌, List, [], length, get_or, slice_get, replicate, Some, None, refl, sym, ◌∙◌, subst, ⊎_elim, arith}
use Rattle.std.proofs.lemmas.List.{length-replicate, get_or-replicate, get_or_past, nil_from_length}
use Rattle.std.proofs.lemmas.Option.{none-some, slice_get-get_or}
use Rattle.std.proofs.lemmas.Bool.{cases_lt}
use Rattle.netlist_order.specs.declared.search.Visit.{Visit}
use Rattle.netlist_order.specs.declared.search.Visit.TheVariants.{New, Open, Done}
use Rattle.netlist_order.specs.Graph.{Graph, IsOrder, IsFirstOnCycle, Depends, Occurs}
use Rattle.netlist_order.specs.State.{State, mark_of, table_at, unvisited, entered}
use Rattle.netlist_order.specs.Sound.{IsSound, KeepsMet}
use Rattle.netlist_order.proofs.Chains.{Depends-within}
use Rattle.netlist_order.proofs.Entering.{IsSound-entered, KeepsMet-entered, met-entered}

-- nothing is marked but as new
replicate_new : (count table : ℕ) → get_or (replicate count New) table New ≡ New
replicate_new count table =
    ⊎_elim (λ lt. get_or-replicate count table New New lt)
    (λ past. get_or_past (replicate count New) table New (omega (arith, length-replicate count New))) (cases_lt table count)

replicate_zero : (count table : ℕ) → ◌≡◌ {A = ℕ} (get_or (replicate count 0) table 0) 0
replicate_zero count table =
    ⊎_elim (λ lt. get_or-replicate {A = ℕ} count table 0 0 lt)
    (λ past. get_or_past {X = ℕ} (replicate count 0) table 0 (omega (arith, length-replicate {A = ℕ} count 0))) (cases_lt table count)

module _ (g : Graph) where
  start : State
  start = unvisited (length g)

  all_new : (table : ℕ) → mark_of start table ≡ New
  unfolding start
  all_new table = replicate_new (length g) table

  not_done : (table : ℕ) → mark_of start table ≡ Done → ⊥
  not_done table done = let new = all_new table in cc

  pub IsSound-unvisited : IsSound g (unvisited (length g))
  unfolding start
  IsSound-unvisited = record {
    open_tables = record {
      marks_size = length-replicate (length g) New;
      next_size = length-replicate {A = ℕ} (length g) 0;
      within = λ place lt. absurd (omega arith);
      marked = λ place lt. absurd (omega arith);
      placed = λ table place opened. let new = all_new table in cc;
      fresh = λ table new. replicate_zero (length g) table;
      known = λ place input driver lt less drives. absurd (omega arith);
      ahead = λ place later less lt. absurd (omega arith);
      back = λ place later less lt joined. absurd (omega arith);
    };
    places = record {
      on_path = λ head occurs. occurs;
      heads_rise = λ i j less lt. absurd (omega arith);
      path_rises = λ i j less lt. absurd (omega arith);
      within = λ place occurs. absurd (omega (arith, occurs.within));
      rest = λ place lt. absurd (omega arith);
      bottom = λ some. absurd (omega arith);
    };
    closed_tables = record {
      reads = λ table driver done reads. absurd (not_done table done);
      listed = λ table done. absurd (not_done table done);
      done = λ table occurs. absurd (omega (arith, occurs.within));
      once = λ i j less lt. absurd (omega arith);
      after = λ none i driver lt reads. absurd (omega arith);
      clean = λ table done below chain. not_done table done;
      cyclic = λ table is. absurd (none-some table is);
    };
  }

module _ (g : Graph) (s : State) (sound : IsSound g s) (ended : s.path ≡ []) where
  -- nothing is open
  pub none_open : length s.met ≡ 0
  none_open =
      ⊎_elim (λ some. let occurs = subst (λ path. Occurs 0 path) ended (sound.places.on_path 0 (sound.places.bottom some)) in absurd (omega (arith, occurs.within)))
      (λ none. omega arith) (cases_lt 0 (length s.met))

  -- a search goes on at a table that was not met
  module _ (table : ℕ) (new : mark_of s table ≡ New) (within : table < length g) where
    leading : (place : ℕ) → place < length s.met → Depends g (table_at s place) table
    leading place lt = absurd (omega (arith, none_open))

    pub IsSound-begun : IsSound g (entered s table)
    IsSound-begun = IsSound-entered g s table sound new within leading

    pub KeepsMet-begun : KeepsMet s (entered s table)
    KeepsMet-begun = KeepsMet-entered g s table sound new within leading

    pub met-begun : mark_of (entered s table) table ≢ New
    met-begun is_new = let opened = met-entered g s table sound new within leading in cc

  module _ (met : (table : ℕ) → table < length g → mark_of s table ≢ New) where
    closed_by : (table : ℕ) → table < length g → (mark : Visit) → mark_of s table ≡ mark → mark_of s table ≡ Done
    closed_by table lt New is = absurd (met table lt is)
    closed_by table lt (Open place) is = absurd (omega (arith, (sound.open_tables.placed table place is).0, none_open))
    closed_by table lt Done is = is

    all_closed : (table : ℕ) → table < length g → mark_of s table ≡ Done
    all_closed table lt = closed_by table lt (mark_of s table) refl

    done-within : (table : ℕ) → mark_of s table ≡ Done → table < length g
    done-within table done =
        ⊎_elim (λ lt. lt) (λ past. let none = get_or_past s.marks table New (omega (arith, sound.open_tables.marks_size)) in cc) (cases_lt table (length g))

    pub IsOrder-found : s.first ≡ None → IsOrder g s.order
    IsOrder-found none = record {
      each = λ table lt. sound.closed_tables.listed table (all_closed table lt);
      within = λ i lt. done-within (get_or s.order i 0) (sound.closed_tables.done (get_or s.order i 0) (record { place = i; within = lt; is = refl }));
      once = sound.closed_tables.once;
      after = sound.closed_tables.after none;
    }

    pub IsFirstOnCycle-found : (table : ℕ) → s.first ≡ Some table → IsFirstOnCycle g table
    IsFirstOnCycle-found table is =
        let found = sound.closed_tables.cyclic table is in
        record {
          within = found.0;
          itself = found.1;
          first = λ earlier less chain.
              sound.closed_tables.clean earlier (all_closed earlier (Depends-within chain)) (rw is less) chain;
        }

-- a path without a last place
pub no_path : (path : List ℕ) → slice_get path (length path - 1) ≡ None → path ≡ []
no_path path none =
    ⊎_elim
    (λ some. absurd (none-some (get_or path (length path - 1) 0) (sym none ∙ slice_get-get_or path (length path - 1) 0 (omega arith))))
    (λ no. nil_from_length path (omega arith)) (cases_lt 0 (length path))
