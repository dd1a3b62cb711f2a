-- Levels along an order, and layers as tables are added to them.
use Rattle.std.proofs.Common.{◌≡◌, ℕ, zero, suc, ◌+◌, ◌<◌, eqb, cond, List, [], ◌∷◌, ◌++◌, length, map, filter, get_or, replicate, set, Contains, Option, None, Some, refl, sym, ap, ◌∙◌, subst, inl, inr, ⊎_elim, arith, get_or-set_same, get_or-set_other}
use Rattle.std.specs.List.{flat_map, range_with_len}
use Rattle.std.proofs.lemmas.Bool.{cases_Bool, cases_lt, eqb-true, eqb-false}
use Rattle.std.proofs.lemmas.List.{append-nil, get_or-replicate, get_or_default, get_or_past, length-replicate}
use Rattle.std.proofs.lemmas.List.Elements.{filter-append}
use Rattle.std.proofs.lemmas.List.Folds.{flat_map-map}
use Rattle.std.proofs.lemmas.List.FromFn.{fill_by_all}
use Rattle.netlist.specs.declared.table.Table.{Table}
use Rattle.netlist.specs.Design.{Design}
use Rattle.netlist.specs.Sound.{IsOrder, IsSound, no_table, table_at}
use Rattle.netlist.proofs.Driving.{output-within, outputs-apart}
use Rattle.netlist_order.specs.TableGraph.{driver_in}
use Rattle.gates_order.specs.Depths.{above, depth_of, layer, most, order_of}
use Rattle.gates_order.specs.Kept.{AreLevels, TellDepths}
use Rattle.gates_order.proofs.Depths.{depth-is, most-same}
use Rattle.gates_order.proofs.Places.{driver-before, drives-from, drives-to}

abbrev pub nobody : List ℕ
nobody = []

-- a table that is read with some default
pub table-read : (tables shown : List Table) (number : ℕ) (table : Table) → number < length tables → shown ≡ tables → table ≡ get_or shown number table → table ≡ table_at tables number
table-read tables shown number table lt shown_is is = is ∙ ap (λ ts. get_or ts number table) shown_is ∙ get_or_default tables number table no_table lt

pub level-told : (tables : List Table) (levels : List ℕ) (number : ℕ) (table : Table) → number < length tables → table ≡ get_or tables number table → TellDepths tables levels
    → get_or levels table.output 0 ≡ suc (depth_of tables number)
level-told tables levels number table lt is told = ap (λ (t : Table). get_or levels t.output 0) (is ∙ get_or_default tables number table no_table lt) ∙ told number lt

pub levels-first : (tables : List Table) (order : List ℕ) (signals : ℕ) → AreLevels tables order 0 (replicate signals 0)
levels-first tables order signals = record {
  free = λ signal none.
      ⊎_elim (λ lt. get_or-replicate signals signal 0 0 lt) (λ past. get_or_past (replicate signals 0) signal 0 (omega (arith, length-replicate {A = ℕ} signals 0))) (cases_lt signal signals);
  driven = λ earlier below. absurd (omega arith);
}

module _ (design : Design) (sound : IsSound design) (order : List ℕ) (ordered : IsOrder design.tables order) where
  -- the levels of what the table at a place reads
  level-is : (place : ℕ) (levels : List ℕ) → place < length order → AreLevels design.tables order place levels → (signal : ℕ)
      → Contains (table_at design.tables (get_or order place 0)).inputs signal → get_or levels signal 0 ≡ above (depth_of design.tables) (driver_in design.tables signal)
  level-is place levels lt are signal reads = by_driver (driver_in design.tables signal) refl
    where
      by_driver : (driver : Option ℕ) → driver_in design.tables signal ≡ driver → get_or levels signal 0 ≡ above (depth_of design.tables) driver
      by_driver None is = are.free signal is
      by_driver (Some table) is =
          let at = driver-before design.tables order ordered place signal table lt reads is in
          let driver = drives-from design.tables signal table is in
          let told = are.driven at.earlier at.before in
          let same : get_or levels (table_at design.tables table).output 0 ≡ suc (depth_of design.tables table) =
          subst (λ t. get_or levels (table_at design.tables t).output 0 ≡ suc (depth_of design.tables t)) at.is told in
          subst (λ s. get_or levels s 0 ≡ suc (depth_of design.tables table)) driver.is same

  pub depth-here : (place : ℕ) (levels : List ℕ) → place < length order → AreLevels design.tables order place levels
      → most (map (λ signal. get_or levels signal 0) (table_at design.tables (get_or order place 0)).inputs) ≡ depth_of design.tables (get_or order place 0)
  depth-here place levels lt are =
      most-same (λ signal. get_or levels signal 0) (λ signal. above (depth_of design.tables) (driver_in design.tables signal)) (table_at design.tables (get_or order place 0)).inputs
      (level-is place levels lt are)
      ∙ sym (depth-is design.tables order ordered place lt)

  pub levels-next : (place : ℕ) (levels : List ℕ) → place < length order → length levels ≡ design.signals → AreLevels design.tables order place levels
      → AreLevels design.tables order (place + 1) (set levels (table_at design.tables (get_or order place 0)).output (suc (depth_of design.tables (get_or order place 0))))
  levels-next place levels lt size are = record { free = free; driven = driven }
    where
      number : ℕ
      number = get_or order place 0

      output : ℕ
      output = (table_at design.tables (get_or order place 0)).output

      level : ℕ
      level = suc (depth_of design.tables (get_or order place 0))

      number-in : get_or order place 0 < length design.tables
      number-in = ordered.within place 0 lt

      free : (signal : ℕ) → driver_in design.tables signal ≡ None
          → get_or (set levels (table_at design.tables (get_or order place 0)).output (suc (depth_of design.tables (get_or order place 0)))) signal 0 ≡ 0
      free signal none =
          get_or-set_other levels (table_at design.tables (get_or order place 0)).output signal (suc (depth_of design.tables (get_or order place 0))) 0
          (λ is. (let some = drives-to design sound (get_or order place 0) number-in in
          let other : driver_in design.tables (table_at design.tables (get_or order place 0)).output ≡ None = subst (λ s. driver_in design.tables s ≡ None) is none in
          cc))
          ∙ are.free signal none

      driven : (earlier : ℕ) → earlier < place + 1
          → get_or (set levels (table_at design.tables (get_or order place 0)).output (suc (depth_of design.tables (get_or order place 0)))) (table_at design.tables (get_or order earlier 0)).output 0
          ≡ suc (depth_of design.tables (get_or order earlier 0))
      driven earlier below =
          ⊎_elim
          (λ before.
          get_or-set_other levels (table_at design.tables (get_or order place 0)).output (table_at design.tables (get_or order earlier 0)).output (suc (depth_of design.tables (get_or order place 0))) 0
          (λ is. (let earlier_in = ordered.within earlier 0 (omega arith) in
          let same = outputs-apart design sound (get_or order earlier 0) (get_or order place 0) earlier_in number-in is in
          let place_is = ordered.once earlier place (omega arith) lt same in omega arith))
          ∙ are.driven earlier before)
          (λ here. (let e : place ≡ earlier = omega arith in
          let inside : (table_at design.tables (get_or order place 0)).output < length levels = omega (arith, output-within design sound (get_or order place 0) number-in) in
          subst (λ p. get_or (set levels (table_at design.tables (get_or order place 0)).output (suc (depth_of design.tables (get_or order place 0)))) (table_at design.tables (get_or order p 0)).output 0
          ≡ suc (depth_of design.tables (get_or order p 0))) e
          (get_or-set_same levels (table_at design.tables (get_or order place 0)).output (suc (depth_of design.tables (get_or order place 0))) 0 inside)))
          (cases_lt earlier place)

  -- what was found of the table at a place
  pub depth-found : (place : ℕ) (levels seen inputs : List ℕ) (table : Table) (depth : ℕ) → place < length order → AreLevels design.tables order place levels
      → table ≡ table_at design.tables (get_or order place 0) → seen ≡ levels → inputs ≡ table.inputs → depth ≡ most (map (λ signal. get_or seen signal 0) inputs)
      → depth ≡ depth_of design.tables (get_or order place 0)
  depth-found place levels seen inputs table depth lt are table_is seen_is inputs_is is =
      is
      ∙ ap (λ ls. most (map (λ signal. get_or ls signal 0) inputs)) seen_is
      ∙ ap (λ ns. most (map (λ signal. get_or levels signal 0) ns)) (inputs_is ∙ ap (λ (t : Table). t.inputs) table_is)
      ∙ depth-here place levels lt are

  pub levels-written : (place : ℕ) (levels : List ℕ) (table : Table) (depth : ℕ) → place < length order → length levels ≡ design.signals → AreLevels design.tables order place levels
      → table ≡ table_at design.tables (get_or order place 0) → depth ≡ depth_of design.tables (get_or order place 0)
      → AreLevels design.tables order (place + 1) (set levels table.output (depth + 1))
  levels-written place levels table depth lt size are table_is depth_is =
      let next : depth + 1 ≡ suc (depth_of design.tables (get_or order place 0)) = omega (arith, depth_is) in
      subst (λ (t : Table). AreLevels design.tables order (place + 1) (set levels t.output (depth + 1))) (sym table_is)
      (subst (λ n. AreLevels design.tables order (place + 1) (set levels (table_at design.tables (get_or order place 0)).output n)) (sym next)
      (levels-next place levels lt size are))

  pub levels-tell : (levels : List ℕ) → AreLevels design.tables order (length order) levels → TellDepths design.tables levels
  levels-tell levels are number lt =
      let at = ordered.each number lt in
      let is : get_or order at.0 0 ≡ number = get_or_default order at.0 0 number at.1 ∙ at.2 in
      subst (λ t. get_or levels (table_at design.tables t).output 0 ≡ suc (depth_of design.tables t)) is (are.driven at.0 at.1)

-- the tables of a depth among the first so many
abbrev pub so_far : List Table → ℕ → ℕ → List ℕ
so_far tables some depth = filter (λ number. eqb (depth_of tables number) depth) (range_with_len 0 some)

range-suc : (first count last : ℕ) → first + count ≡ last → range_with_len first (suc count) ≡ range_with_len first count ++ last ∷ []
range-suc first zero last is = (let e : first ≡ last = omega arith in ap (λ n. n ∷ []) e)
range-suc first (suc count) last is = ap (λ ns. first ∷ ns) (range-suc (first + 1) count last (omega arith))

-- one table more is added to its layer
so_far-more : (tables : List Table) (some depth : ℕ) → so_far tables (some + 1) depth ≡ so_far tables some depth ++ cond (eqb (depth_of tables some) depth) (some ∷ []) []
so_far-more tables some depth =
    let next : some + 1 ≡ suc some = omega arith in
    ap (λ n. so_far tables n depth) next
    ∙ ap (filter (λ number. eqb (depth_of tables number) depth)) (range-suc 0 some some (omega arith))
    ∙ filter-append (λ number. eqb (depth_of tables number) depth) (range_with_len 0 some) (some ∷ [])

abbrev pub AreLayers : List Table → ℕ → List (List ℕ) → Type 0
AreLayers tables some layers = (depth : ℕ) → depth < suc (length tables) → get_or layers depth [] ≡ so_far tables some depth

pub layers-first : (tables : List Table) (count : ℕ) → AreLayers tables 0 (replicate count [])
layers-first tables count depth below =
    ⊎_elim (λ lt. get_or-replicate count depth [] [] lt) (λ past. get_or_past (replicate count (nobody)) depth [] (omega (arith, length-replicate count nobody))) (cases_lt depth count)

pub layers-next : (tables : List Table) (layers : List (List ℕ)) (number level : ℕ) (found new : List ℕ) → level < length layers → length layers ≡ suc (length tables)
    → suc level ≡ suc (depth_of tables number) → found ≡ get_or layers level found → new ≡ found ++ number ∷ [] → AreLayers tables number layers
    → AreLayers tables (number + 1) (set layers level new)
layers-next tables layers number level found new inside size is was pushed are depth below =
    elim (cases_Bool (eqb (depth_of tables number) depth)) [
      | inl same ↦
          let here : level ≡ depth = omega (arith, eqb-true (depth_of tables number) depth same) in
          let old : get_or layers depth [] ≡ found = sym (ap (λ d. get_or layers d []) here) ∙ get_or_default layers level [] found inside ∙ sym was in
          ap (λ d. get_or (set layers level new) d []) (sym here)
          ∙ get_or-set_same layers level new [] inside
          ∙ pushed
          ∙ ap (λ ns. ns ++ number ∷ []) (sym old ∙ are depth below)
          ∙ ap (λ b. so_far tables number depth ++ cond b (number ∷ []) []) (sym same)
          ∙ sym (so_far-more tables number depth)
      | inr other ↦
          get_or-set_other layers level depth new [] (λ e. eqb-false (depth_of tables number) depth other (omega arith))
          ∙ are depth below
          ∙ sym (append-nil (so_far tables number depth))
          ∙ ap (λ b. so_far tables number depth ++ cond b (number ∷ []) []) (sym other)
          ∙ sym (so_far-more tables number depth)
    ]

-- the tables of all layers in order
pub layers-joined : (tables seen : List Table) (layers shown : List (List ℕ)) (order : List ℕ) → seen ≡ tables → shown ≡ layers
    → layers ≡ map (layer seen) (range_with_len 0 (suc (length seen))) → order ≡ flat_map (λ l. l) shown → order ≡ order_of tables
layers-joined tables seen layers shown order seen_is shown_is layers_are is =
    is ∙ ap (flat_map (λ l. l)) (shown_is ∙ layers_are) ∙ flat_map-map (λ l. l) (layer seen) (range_with_len 0 (suc (length seen))) ∙ ap order_of seen_is

pub layers-all : (tables : List Table) (layers : List (List ℕ)) → length layers ≡ suc (length tables) → AreLayers tables (length tables) layers
    → layers ≡ map (layer tables) (range_with_len 0 (suc (length tables)))
layers-all tables layers size are = fill_by_all (layer tables) layers (suc (length tables)) [] size are
