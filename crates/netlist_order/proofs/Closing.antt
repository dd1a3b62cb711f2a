-- The component that begins at the last place of the path is closed.
use Rattle.std.proofs.Common.{◌≡◌, ◌≢◌, ℕ, ◌+◌, ◌-◌, ◌<◌, ◌≤◌, ◌⊎◌, inl, inr, List, ◌++◌, length, drop, get_or, Bool, true, false, IsTrue, ◌↔◌, Some, None, refl, sym, ap, ◌∙◌, subst, ⊎_elim, arith}
use Rattle.std.proofs.lemmas.List.{length-take-le, length-drop, length-append, get_or-take, get_or-drop, get_or_append_left, get_or-append_right}
use Rattle.std.proofs.lemmas.Bool.{cases_lt, cases_eq, false≢true}
use Rattle.netlist_order.specs.declared.search.Visit.TheVariants.{New, Open, Done}
use Rattle.netlist_order.specs.Graph.{Graph, inputs_of, driver_of, Reads, Depends, directly, onwards, Occurs, OccursBefore}
use Rattle.netlist_order.specs.State.{State, mark_of, next_of, table_at, left, closed, mark_done, lowest}
use Rattle.netlist_order.specs.Sound.{IsKnown, IsOpen, IsPath, IsSound, IsLast, IsBelow, IsFollowed, IsCyclic, IsRising, KeepsMet}
use Rattle.netlist_order.proofs.Lists.{from_take, IsRising-take, Occurs-without_last, others_below, last_occurs}
use Rattle.netlist_order.proofs.Chains.{Depends-append, Depends-keeps, input-within}
use Rattle.netlist_order.proofs.Leading.{place-within, path-upto, heads-upto}
use Rattle.netlist_order.proofs.Components.{length-mark_done, still_done, now_done, same_or_in, lowest-within, IsBelow-lowest, below-each, lowest-from}

module _ (g : Graph) (s : State) (c : ℕ) (sound : IsSound g s) (at : IsLast s.path c) (followed : IsFollowed g s (table_at s c))
    (head : IsLast s.heads c) (cyclic : Bool) (says : IsTrue cyclic ↔ IsCyclic g s c) where
  after : State
  after = closed (left s) c cyclic

  component : List ℕ
  component = drop c s.met

  within : c < length s.met
  within = place-within g s c sound at

  head-occurs : Occurs c s.heads
  head-occurs = last_occurs s.heads head.index c head.last head.is

  -- the tables of the component
  size : length component + c ≡ length s.met
  unfolding component
  size = omega (arith, within, length-drop c s.met)

  table-in : (place : ℕ) → c ≤ place → get_or component (place - c) 0 ≡ table_at s place
  unfolding component
  table-in place le = let is : c + (place - c) ≡ place = omega arith in get_or-drop c s.met (place - c) 0 ∙ ap (λ k. get_or s.met k 0) is

  in_component : (place : ℕ) → c ≤ place → place < length s.met → Occurs (table_at s place) component
  in_component place le lt = record { place = place - c; within = omega (arith, size); is = table-in place le }

  -- and where a table of it stands
  abbrev Stands : ℕ → Type 0
  Stands table = (place : ℕ) × (c ≤ place) × (place < length s.met) × (table_at s place ≡ table)

  stands : (table : ℕ) → Occurs table component → Stands table
  stands table occurs =
      let is : (c + occurs.place) - c ≡ occurs.place = omega arith in (
        c + occurs.place,
        omega arith,
        omega (arith, size, occurs.within),
        sym (table-in (c + occurs.place) (omega arith)) ∙ ap (λ k. get_or component k 0) is ∙ occurs.is,
      )

  -- marks before and after
  marks-after : (table : ℕ) → mark_of after table ≡ get_or (mark_done s.marks component) table New
  unfolding after component
  marks-after table = refl

  keeps-done : (table : ℕ) → mark_of s table ≡ Done → mark_of after table ≡ Done
  keeps-done table done = marks-after table ∙ still_done s.marks component table done

  done-at : (place : ℕ) → c ≤ place → place < length s.met → mark_of after (table_at s place) ≡ Done
  done-at place le lt =
      marks-after (table_at s place)
      ∙ now_done s.marks component (table_at s place) (omega (arith, sound.open_tables.within place lt, sound.open_tables.marks_size)) (in_component place le lt)

  same_or_stands : (table : ℕ) → (mark_of after table ≡ mark_of s table) ⊎ Stands table
  same_or_stands table =
      ⊎_elim (λ same. inl (marks-after table ∙ same)) (λ occurs. inr (stands table occurs)) (same_or_in s.marks component table)

  was_done : (table : ℕ) → mark_of after table ≡ Done → (mark_of s table ≡ Done) ⊎ Stands table
  was_done table done = ⊎_elim (λ same. inl (sym same ∙ done)) (λ there. inr there) (same_or_stands table)

  was_new : (table : ℕ) → mark_of after table ≡ New → mark_of s table ≡ New
  was_new table new =
      ⊎_elim (λ same. sym same ∙ new)
      (λ there. let closed_now : mark_of after table ≡ Done = subst (λ t. mark_of after t ≡ Done) there.3 (done-at there.0 there.1 there.2) in cc)
      (same_or_stands table)

  was_open : (table place : ℕ) → mark_of after table ≡ Open place → (mark_of s table ≡ Open place) × (place < c)
  was_open table place opened =
      ⊎_elim
      (λ same. let old : mark_of s table ≡ Open place = sym same ∙ opened in
      let there = sound.open_tables.placed table place old in (
        old,
        ⊎_elim (λ lt. lt)
            (λ le. let closed_now : mark_of after table ≡ Done = subst (λ t. mark_of after t ≡ Done) there.1 (done-at place le there.0) in cc)
            (cases_lt place c),
      ))
      (λ there. let closed_now : mark_of after table ≡ Done = subst (λ t. mark_of after t ≡ Done) there.3 (done-at there.0 there.1 there.2) in cc)
      (same_or_stands table)

  still_open : (table place : ℕ) → mark_of s table ≡ Open place → place < c → mark_of after table ≡ Open place
  still_open table place opened lt =
      ⊎_elim (λ same. same ∙ opened)
      (λ there. let marked = sound.open_tables.marked there.0 there.2 in
      let other : mark_of s table ≡ Open there.0 = subst (λ t. mark_of s t ≡ Open there.0) there.3 marked in
      let is : place ≡ there.0 = cc in absurd (omega (arith, there.1)))
      (same_or_stands table)

  -- what is below the component stays open
  met-size : length after.met ≡ c
  unfolding after
  met-size = length-take-le c s.met (omega (arith, within))

  table-below : (place : ℕ) → place < c → table_at after place ≡ table_at s place
  unfolding after
  table-below place lt = get_or-take c s.met place 0 lt

  head-below : (h : ℕ) → Occurs h after.heads → Occurs h s.heads × (h < c)
  unfolding after
  head-below h occurs = (from_take h (length s.heads - 1) s.heads occurs, others_below s.heads head.index c h sound.places.heads_rise head.last head.is occurs)

  still_head : (h : ℕ) → h ≢ c → Occurs h s.heads → Occurs h after.heads
  unfolding after
  still_head h other occurs = Occurs-without_last h c head.index s.heads head.last head.is other occurs

  place-below : (p : ℕ) → Occurs p after.path → Occurs p s.path × (p < c)
  unfolding after
  place-below p occurs = (from_take p (length s.path - 1) s.path occurs, others_below s.path at.index c p sound.places.path_rises at.last at.is occurs)

  still_place : (p : ℕ) → p ≢ c → Occurs p s.path → Occurs p after.path
  unfolding after
  still_place p other occurs = Occurs-without_last p c at.index s.path at.last at.is other occurs

  keep : (place driver : ℕ) → place < c → IsKnown s place driver → IsKnown after place driver
  keep place driver lt (inl done) = inl (keeps-done driver done)
  keep place driver lt (inr known) =
      ⊎_elim
      (λ below. inr (record {
        place = known.place;
        open_at = still_open driver known.place known.open_at below;
        joined = λ h occurs le. known.joined h (head-below h occurs).0 le;
      }))
      (λ above. let there = sound.open_tables.placed driver known.place known.open_at in
      inl (subst (λ t. mark_of after t ≡ Done) there.1 (done-at known.place above there.0)))
      (cases_lt known.place c)

  lt-met : (place : ℕ) → place < length after.met → place < c
  lt-met place lt = omega (arith, met-size)

  next-after : (table : ℕ) → next_of after table ≡ next_of s table
  unfolding after
  next-after table = refl

  marks-size : length after.marks ≡ length g
  unfolding after component
  marks-size = length-mark_done s.marks component ∙ sound.open_tables.marks_size

  next-size : length after.next ≡ length g
  unfolding after
  next-size = sound.open_tables.next_size

  IsOpen-closed : IsOpen g after
  IsOpen-closed = record {
    marks_size = marks-size;
    next_size = next-size;
    within = λ place lt. let below = lt-met place lt in omega (arith, table-below place below, sound.open_tables.within place (omega (arith, within)));
    marked = λ place lt. let below = lt-met place lt in
        ap (λ t. mark_of after t) (table-below place below)
        ∙ still_open (table_at s place) place (sound.open_tables.marked place (omega (arith, within))) below;
    placed = λ table place opened. let old = was_open table place opened in
        (omega (arith, met-size, old.1), table-below place old.1 ∙ (sound.open_tables.placed table place old.0).1);
    fresh = λ table new. next-after table ∙ sound.open_tables.fresh table (was_new table new);
    known = λ place input driver lt less drives. let below = lt-met place lt in
        keep place driver below (sound.open_tables.known place input driver (omega (arith, within))
        (subst (λ t. input < next_of s t) (table-below place below) (omega (arith, next-after (table_at after place))))
        (subst (λ t. driver_of g t input ≡ Some driver) (table-below place below) drives));
    ahead = λ place later less lt. let below = lt-met later lt in
        rw (table-below place (omega arith), table-below later below) (sound.open_tables.ahead place later less (omega (arith, within)));
    back = λ place later less lt joined. let below = lt-met later lt in
        rw (table-below place (omega arith), table-below later below)
        (sound.open_tables.back place later less (omega (arith, within))
        (λ h occurs le. joined h (still_head h (λ same. absurd (omega arith)) occurs) le));
  }

  heads-rise : IsRising after.heads
  unfolding after
  heads-rise = IsRising-take s.heads (length s.heads - 1) sound.places.heads_rise

  path-rises : IsRising after.path
  unfolding after
  path-rises = IsRising-take s.path (length s.path - 1) sound.places.path_rises

  IsPath-closed : IsPath g after
  IsPath-closed = record {
    on_path = λ h occurs. let old = head-below h occurs in still_place h (λ same. absurd (omega (arith, old.1))) (sound.places.on_path h old.0);
    heads_rise = heads-rise;
    path_rises = path-rises;
    within = λ place occurs. omega (arith, met-size, (place-below place occurs).1);
    rest = λ place lt. let below = lt-met place lt in
        ⊎_elim (λ occurs. inl (still_place place (λ same. absurd (omega arith)) occurs))
        (λ done. inr (subst (λ t. length (inputs_of g t) ≤ next_of after t) (sym (table-below place below)) (omega (arith, done, next-after (table_at s place)))))
        (sound.places.rest place (omega (arith, within)));
    bottom = λ some. still_head 0 (λ same. absurd (omega (arith, met-size))) (sound.places.bottom (omega (arith, within)));
  }

  -- all inputs of the component were followed, and lead to closed tables or into it
  all_followed : (place : ℕ) → c ≤ place → place < length s.met → IsFollowed g s (table_at s place)
  all_followed place le lt =
      ⊎_elim (λ same. subst (λ q. IsFollowed g s (table_at s q)) (sym same) followed)
      (λ other. ⊎_elim (λ occurs. let upto = path-upto g s c sound at place occurs in absurd (omega arith)) (λ done. done)
      (sound.places.rest place lt))
      (cases_eq place c)

  reads-into : (place driver : ℕ) → c ≤ place → place < length s.met → Reads g (table_at s place) driver → (mark_of s driver ≡ Done) ⊎ Stands driver
  reads-into place driver le lt reads =
      let less : reads.place < next_of s (table_at s place) =
      omega (arith, input-within g (table_at s place) reads.place driver reads.drives, all_followed place le lt) in
      ⊎_elim (λ done. inl done)
      (λ known. let there = sound.open_tables.placed driver known.place known.open_at in
      inr (known.place, known.joined c head-occurs le, there.0, there.1))
      (sound.open_tables.known place reads.place driver lt less reads.drives)

  stands-done : (table : ℕ) → Stands table → mark_of after table ≡ Done
  stands-done table there = subst (λ t. mark_of after t ≡ Done) there.3 (done-at there.0 there.1 there.2)

  reads-done : (table driver : ℕ) → mark_of after table ≡ Done → Reads g table driver → mark_of after driver ≡ Done
  reads-done table driver done reads =
      ⊎_elim (λ old. keeps-done driver (sound.closed_tables.reads table driver old reads))
      (λ there. ⊎_elim (λ old. keeps-done driver old) (λ inside. stands-done driver inside)
      (reads-into there.0 driver there.1 there.2 (subst (λ t. Reads g t driver) (sym there.3) reads)))
      (was_done table done)

  -- a component of several tables, or of one that reads itself
  round : (place : ℕ) → c < place → place < length s.met → Depends g (table_at s place) (table_at s place)
  round place more lt =
      Depends-append (sound.open_tables.back c place more lt (λ h occurs le. heads-upto g s c sound at h occurs)) (sound.open_tables.ahead c place more lt)

  on_cycle : (place : ℕ) → c ≤ place → place < length s.met → IsCyclic g s c → Depends g (table_at s place) (table_at s place)
  on_cycle place le lt (inl several) =
      ⊎_elim (λ more. round place more lt)
      (λ upto. let is : place ≡ c = omega arith in
      rw is (Depends-append (sound.open_tables.ahead c (c + 1) (omega arith) several)
      (sound.open_tables.back c (c + 1) (omega arith) several (λ h occurs le. heads-upto g s c sound at h occurs))))
      (cases_lt c place)
  on_cycle place le lt (inr reads) =
      ⊎_elim (λ more. round place more lt) (λ upto. let is : place ≡ c = omega arith in rw is (directly reads)) (cases_lt c place)

  -- a component of one table that does not read itself
  alone : (place : ℕ) → c ≤ place → place < length s.met → (IsCyclic g s c → ⊥) → place ≡ c
  alone place le lt not =
      ⊎_elim (λ more. absurd (not (inl (omega arith)))) (λ upto. omega arith) (cases_lt c place)

  no_chain : (table : ℕ) → mark_of s table ≡ Done → Depends g table (table_at s c) → ⊥
  no_chain table done chain =
      let closed_before = Depends-keeps (λ t. mark_of s t ≡ Done) (λ t d old reads. sound.closed_tables.reads t d old reads) chain done in
      let marked = sound.open_tables.marked c within in cc

  acyclic-step : (IsCyclic g s c → ⊥) → (table end : ℕ) → table ≡ table_at s c → end ≡ table_at s c → Depends g table end → ⊥
  acyclic-step not table end is ends (directly reads) = not (inr (subst (λ t. Reads g t (table_at s c)) is (subst (λ t. Reads g table t) ends reads)))
  acyclic-step not table end is ends (onwards {driver = driver} reads rest) =
      ⊎_elim (λ old. no_chain driver old (subst (λ t. Depends g driver t) ends rest))
      (λ there. let same = alone there.0 there.1 there.2 not in
      let itself : driver ≡ table_at s c = sym there.3 ∙ ap (λ q. table_at s q) same in
      not (inr (subst (λ t. Reads g (table_at s c) t) itself (subst (λ t. Reads g t driver) is reads))))
      (reads-into c driver (omega arith) within (subst (λ t. Reads g t driver) is reads))

  acyclic : (IsCyclic g s c → ⊥) → Depends g (table_at s c) (table_at s c) → ⊥
  acyclic not chain = acyclic-step not (table_at s c) (table_at s c) refl refl chain

  -- the lowest table on a cycle
  first-cyclic : cyclic ≡ true → after.first ≡ lowest s.first component
  unfolding after component
  first-cyclic is = rw is refl

  first-acyclic : cyclic ≡ false → after.first ≡ s.first
  unfolding after
  first-acyclic is = rw is refl

  by_cyclic : (cyclic ≡ true) ⊎ (cyclic ≡ false)
  by_cyclic = elim cyclic as (λ b. (b ≡ true) ⊎ (b ≡ false)) [ true ↦ inl refl | false ↦ inr refl ]

  is_cyclic : cyclic ≡ true → IsCyclic g s c
  is_cyclic is = says.0 is

  not_cyclic : cyclic ≡ false → IsCyclic g s c → ⊥
  not_cyclic is holds = false≢true (sym is ∙ says.1 holds)

  clean : (table : ℕ) → mark_of after table ≡ Done → IsBelow table after.first → Depends g table table → ⊥
  clean table done below chain =
      ⊎_elim
      (λ round_it. let less : IsBelow table (lowest s.first component) = subst (λ f. IsBelow table f) (first-cyclic round_it) below in
      ⊎_elim (λ old. sound.closed_tables.clean table old (IsBelow-lowest table s.first component less) chain)
      (λ there. let itself : table < table =
      below-each table s.first component table less (subst (λ t. Occurs t component) there.3 (in_component there.0 there.1 there.2)) in omega arith)
      (was_done table done))
      (λ no_round. let less : IsBelow table s.first = subst (λ f. IsBelow table f) (first-acyclic no_round) below in
      ⊎_elim (λ old. sound.closed_tables.clean table old less chain)
      (λ there. let same = alone there.0 there.1 there.2 (not_cyclic no_round) in
      let is : table ≡ table_at s c = sym there.3 ∙ ap (λ q. table_at s q) same in
      acyclic (not_cyclic no_round) (subst (λ t. Depends g t t) is chain))
      (was_done table done))
      by_cyclic

  on_a_cycle : (table : ℕ) → after.first ≡ Some table → (table < length g) × Depends g table table
  on_a_cycle table is =
      ⊎_elim
      (λ round_it. ⊎_elim (λ old. sound.closed_tables.cyclic table old)
      (λ occurs. let there = stands table occurs in
      let held = on_cycle there.0 there.1 there.2 (is_cyclic round_it) in
      (subst (λ t. t < length g) there.3 (sound.open_tables.within there.0 there.2), subst (λ t. Depends g t t) there.3 held))
      (lowest-from s.first component table (sym (first-cyclic round_it) ∙ is)))
      (λ no_round. sound.closed_tables.cyclic table (sym (first-acyclic no_round) ∙ is))
      by_cyclic

  -- the order
  order-after : after.order ≡ s.order ++ component
  unfolding after component
  order-after = refl

  order-size : length after.order ≡ length s.order + length component
  order-size = ap length order-after ∙ length-append s.order component

  order-old : (i : ℕ) → i < length s.order → get_or after.order i 0 ≡ get_or s.order i 0
  order-old i lt = ap (λ xs. get_or xs i 0) order-after ∙ get_or_append_left s.order component 0 i lt

  order-new : (i : ℕ) → length s.order ≤ i → get_or after.order i 0 ≡ get_or component (i - length s.order) 0
  order-new i le = ap (λ xs. get_or xs i 0) order-after ∙ get_or-append_right s.order component (length s.order) i 0 refl le

  from_old : (table : ℕ) → Occurs table s.order → Occurs table after.order
  from_old table occurs = record {
    place = occurs.place;
    within = omega (arith, order-size, occurs.within);
    is = order-old occurs.place occurs.within ∙ occurs.is;
  }

  from_component : (table : ℕ) → Occurs table component → Occurs table after.order
  from_component table occurs =
      let is : length s.order + occurs.place - length s.order ≡ occurs.place = omega arith in
      record {
        place = length s.order + occurs.place;
        within = omega (arith, order-size, occurs.within);
        is = order-new (length s.order + occurs.place) (omega arith) ∙ ap (λ k. get_or component k 0) is ∙ occurs.is;
      }

  listed : (table : ℕ) → mark_of after table ≡ Done → Occurs table after.order
  listed table done =
      ⊎_elim (λ old. from_old table (sound.closed_tables.listed table old))
      (λ there. from_component table (subst (λ t. Occurs t component) there.3 (in_component there.0 there.1 there.2)))
      (was_done table done)

  -- the part of the order in which a place is
  stands-new : (i : ℕ) → length s.order ≤ i → i < length after.order → Stands (get_or after.order i 0)
  stands-new i le lt =
      let inside : i - length s.order < length component = omega (arith, order-size) in
      stands (get_or after.order i 0) (record { place = i - length s.order; within = inside; is = sym (order-new i le) })

  done-old : (i : ℕ) → i < length s.order → mark_of s (get_or s.order i 0) ≡ Done
  done-old i lt = sound.closed_tables.done (get_or s.order i 0) (record { place = i; within = lt; is = refl })

  done : (table : ℕ) → Occurs table after.order → mark_of after table ≡ Done
  done table occurs =
      subst (λ t. mark_of after t ≡ Done) occurs.is
      (⊎_elim (λ old. rw (order-old occurs.place old) (keeps-done (get_or s.order occurs.place 0) (done-old occurs.place old)))
      (λ newer. stands-done (get_or after.order occurs.place 0) (stands-new occurs.place newer occurs.within))
      (cases_lt occurs.place (length s.order)))

  table-new : (i : ℕ) → length s.order ≤ i → get_or after.order i 0 ≡ table_at s (c + (i - length s.order))
  table-new i le =
      let is : c + (i - length s.order) - c ≡ i - length s.order = omega arith in
      order-new i le ∙ sym (ap (λ k. get_or component k 0) is) ∙ table-in (c + (i - length s.order)) (omega arith)

  once : (i j : ℕ) → i < j → j < length after.order → get_or after.order i 0 ≢ get_or after.order j 0
  once i j less lt same =
      ⊎_elim
      (λ both. sound.closed_tables.once i j less both (sym (order-old i (omega arith)) ∙ same ∙ order-old j both))
      (λ later. ⊎_elim
      (λ old. let there = stands-new j later lt in
      let marked = sound.open_tables.marked there.0 there.2 in
      let closed_before = done-old i old in
      let is : get_or s.order i 0 ≡ table_at s there.0 = sym (order-old i old) ∙ same ∙ sym there.3 in
      let here : mark_of s (table_at s there.0) ≡ Done = subst (λ t. mark_of s t ≡ Done) is closed_before in cc)
      (λ newer.
      let p : c + (i - length s.order) < length s.met = omega (arith, order-size, size) in
      let q : c + (j - length s.order) < length s.met = omega (arith, order-size, size) in
      let is : table_at s (c + (i - length s.order)) ≡ table_at s (c + (j - length s.order)) = sym (table-new i newer) ∙ same ∙ table-new j later in
      let one = sound.open_tables.marked (c + (i - length s.order)) p in
      let other = sound.open_tables.marked (c + (j - length s.order)) q in
      let here : mark_of s (table_at s (c + (i - length s.order))) ≡ Open (c + (j - length s.order)) = ap (λ t. mark_of s t) is ∙ other in
      let places : c + (i - length s.order) ≡ c + (j - length s.order) = cc in omega arith)
      (cases_lt i (length s.order)))
      (cases_lt j (length s.order))

  after-all : after.first ≡ None → (i driver : ℕ) → i < length after.order → Reads g (get_or after.order i 0) driver → OccursBefore i driver after.order
  after-all none i driver lt reads =
      ⊎_elim
      (λ round_it. absurd (lowest-within s.first component (omega (arith, size, within)) (sym (first-cyclic round_it) ∙ none)))
      (λ no_round. ⊎_elim
      (λ old. let before = sound.closed_tables.after (sym (first-acyclic no_round) ∙ none) i driver old (subst (λ t. Reads g t driver) (order-old i old) reads) in
      record { place = before.place; before = before.before; is = order-old before.place (omega (arith, before.before)) ∙ before.is })
      (λ newer. let there = stands-new i newer lt in
      ⊎_elim
      (λ closed_before. let occurs = sound.closed_tables.listed driver closed_before in
      record { place = occurs.place; before = omega (arith, occurs.within); is = order-old occurs.place occurs.within ∙ occurs.is })
      (λ inside. let one = alone there.0 there.1 there.2 (not_cyclic no_round) in
      let other = alone inside.0 inside.1 inside.2 (not_cyclic no_round) in
      let table-is : get_or after.order i 0 ≡ table_at s c = sym there.3 ∙ ap (λ q. table_at s q) one in
      let driver-is : driver ≡ table_at s c = sym inside.3 ∙ ap (λ q. table_at s q) other in
      absurd (not_cyclic no_round (inr (subst (λ d. Reads g (table_at s c) d) driver-is (subst (λ t. Reads g t driver) table-is reads)))))
      (reads-into there.0 driver there.1 there.2 (subst (λ t. Reads g t driver) (sym there.3) reads)))
      (cases_lt i (length s.order)))
      by_cyclic

  pub IsSound-closed : IsSound g (closed (left s) c cyclic)
  unfolding after
  IsSound-closed =
      record {
        open_tables = IsOpen-closed;
        places = IsPath-closed;
        closed_tables = record { reads = reads-done; listed = listed; done = done; once = once; after = after-all; clean = clean; cyclic = on_a_cycle };
      }

  pub KeepsMet-closed : KeepsMet s (closed (left s) c cyclic)
  unfolding after
  KeepsMet-closed = was_new
