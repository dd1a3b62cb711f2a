-- The netlist of a hierarchy is sound.
use Rattle.std.proofs.Common.{◌≡◌, ℕ, ◌+◌, ◌*◌, ◌<◌, ◌≤◌, ◌^◌, inl, inr, eqb, List, [], ◌∷◌, ◌++◌, length, map, sum_by, mul-le-mul_right, All, refl, sym, ap, ◌∙◌, subst, ⊎_elim, arith}
use Rattle.std.proofs.lemmas.Bool.{cases_lt}
use Rattle.std.proofs.lemmas.List.{map-append, length-map}
use Rattle.std.proofs.lemmas.List.Elements.{All-nil, All-cons, All-append}
use Rattle.std.proofs.lemmas.List.Sums.{sum_by-le}
use Rattle.netlist.specs.declared.latch.Latch.{Latch}
use Rattle.netlist.specs.declared.rows.Mark.{Mark}
use Rattle.netlist.specs.declared.table.Table.{Table}
use Rattle.netlist.specs.Design.{driven_signals, free_signals, marks_of}
use Rattle.netlist.specs.Sound.{IsSound}
use Rattle.blif_flattening.specs.Hierarchy.{Placed, items_of, model_at, owner, flat_lines, mentioned_by, mentioned}
use Rattle.blif_flattening.specs.Members.{Among}
use Rattle.blif_flattening.specs.Numbers.{number, signals}
use Rattle.blif_flattening.proofs.Lines.{line_of}
use Rattle.blif_flattening.proofs.Members.{Among-map, Among-flat_map}
use Rattle.blif_flattening.proofs.Numbering.{onto-adds, place-within}
use Rattle.blif_model.specs.declared.line.LineKind.{LineKind}
use Rattle.blif_model.specs.declared.line.LineKind.TheVariants as kinds
use Rattle.blif_model.specs.declared.line.ModelLine.{ModelLine}
use Rattle.blif_hierarchy.specs.Drivers.{times, inputs_in, driven_numbers}
use Rattle.blif_hierarchy.specs.Laws.{AreMentioned}
use Rattle.blif_hierarchy.proofs.Counting.{count_where-append}
use Rattle.blif_hierarchy.proofs.Few.{has_few_signals}
use Rattle.blif_hierarchy.proofs.Once.{is_driven_once, drives_signals}
use Rattle.blif_flat.specs.Flat.{Models, signal_of, numbers_of, flat_inputs, flat_latches, flat_tables, flat_design, AreFormed, AreSound}
use Rattle.blif_flat.specs.Lines.{all_but_last, last_of, latches_by, tables_by, mentions_of, inputs_of, drives_of, IsFormed}
use Rattle.blif_flat.proofs.Counts.{apart-counted, contains-counted, below-counted, few-counted}
use Rattle.blif_flat.proofs.Lines.{front-map, front-among, front-length, inputs-mentioned, drives-mentioned, map-two, line-counted}
use Rattle.blif_flat.proofs.Names.{names-bit, names-all}

pub are-mentioned : AreMentioned mentions_of inputs_of drives_of
are-mentioned = record {
  listed = λ line name there. inputs-mentioned line.kind line.mentions name there;
  driven = λ line name there. drives-mentioned line.kind line.mentions name there;
}

module _ (models : Models) (most : ℕ) (formed : AreFormed models most) where
  times-append : (k : ℕ) (one other : List ℕ) → times k (one ++ other) ≡ times k one + times k other
  times-append k one other = count_where-append (λ n. eqb n k) one other

  -- a flat line is in form
  pub line-formed : (placed : Placed ModelLine) → Among placed (flat_lines models) → IsFormed most placed.1.kind placed.1.mentions
  line-formed placed there =
      let of = line_of models placed.0 placed.1 there in formed (model_at models placed.0) placed.1 of.1

  pub numbers-are : (placed : Placed ModelLine) → numbers_of models placed ≡ map (signal_of models placed.0) placed.1.mentions
  numbers-are placed = map-two (number mentions_of models) (owner models placed.0) placed.1.mentions

  -- what lines drive is as often an output of their latches and tables
  lines-counted : (k : ℕ) (lines : List (Placed ModelLine)) → ((placed : Placed ModelLine) → Among placed lines → Among placed (flat_lines models))
      → times k (map (λ (latch : Latch). latch.output) (flat_latches models lines)) + times k (map (λ (table : Table). table.output) (flat_tables models lines))
      ≡ times k (map (number mentions_of models) (mentioned drives_of models lines))
  lines-counted k [] all = omega arith
  lines-counted k (placed ∷ lines) all =
      let here : times k (map (λ (latch : Latch). latch.output) (latches_by placed.1.kind (numbers_of models placed)))
      + times k (map (λ (table : Table). table.output) (tables_by placed.1.kind (numbers_of models placed)))
      ≡ times k (map (number mentions_of models) (mentioned_by drives_of models placed)) =
      ap (λ numbers. times k (map (λ (latch : Latch). latch.output) (latches_by placed.1.kind numbers))
      + times k (map (λ (table : Table). table.output) (tables_by placed.1.kind numbers))) (numbers-are placed)
      ∙ line-counted most k (signal_of models placed.0) placed.1.kind placed.1.mentions (line-formed placed (all placed (inl refl)))
      ∙ ap (times k) (sym (map-two (number mentions_of models) (owner models placed.0) (drives_of placed.1))) in
      let rest = lines-counted k lines (λ other there. all other (inr there)) in
      let own_latches = latches_by placed.1.kind (numbers_of models placed) in
      let own_tables = tables_by placed.1.kind (numbers_of models placed) in
      let latches = ap (times k) (map-append (λ (latch : Latch). latch.output) own_latches (flat_latches models lines))
      ∙ times-append k (map (λ (latch : Latch). latch.output) own_latches) (map (λ (latch : Latch). latch.output) (flat_latches models lines)) in
      let tables = ap (times k) (map-append (λ (table : Table). table.output) own_tables (flat_tables models lines))
      ∙ times-append k (map (λ (table : Table). table.output) own_tables) (map (λ (table : Table). table.output) (flat_tables models lines)) in
      let driven = ap (times k) (map-append (number mentions_of models) (mentioned_by drives_of models placed) (mentioned drives_of models lines))
      ∙ times-append k (map (number mentions_of models) (mentioned_by drives_of models placed)) (map (number mentions_of models) (mentioned drives_of models lines)) in
      omega (arith, here, rest, latches, tables, driven)

  abbrev all_driven : List ℕ
  all_driven = driven_signals (flat_inputs models) (flat_latches models (flat_lines models)) (flat_tables models (flat_lines models))

  same-inputs : (names : List ℕ) → map (signal_of models []) names ≡ map (number mentions_of models) (map (owner models []) names)
  same-inputs [] = refl
  same-inputs (name ∷ names) = ap (λ rest. signal_of models [] name ∷ rest) (same-inputs names)

  pub driven-counted : (k : ℕ) → times k all_driven ≡ times k (driven_numbers mentions_of inputs_of drives_of models)
  driven-counted k =
      let latches = map (λ (latch : Latch). latch.output) (flat_latches models (flat_lines models)) in
      let tables = map (λ (table : Table). table.output) (flat_tables models (flat_lines models)) in
      let top = map (owner models []) (inputs_in inputs_of (items_of models 0)) in
      let joined = times-append k (flat_inputs models ++ latches) tables in
      let first = times-append k (flat_inputs models) latches in
      let lines = lines-counted k (flat_lines models) (λ placed there. there) in
      let split = ap (times k) (map-append (number mentions_of models) top (mentioned drives_of models (flat_lines models)))
      ∙ times-append k (map (number mentions_of models) top) (map (number mentions_of models) (mentioned drives_of models (flat_lines models))) in
      let inputs = ap (times k) (same-inputs (inputs_in inputs_of (items_of models 0))) in
      omega (arith, joined, first, lines, split, inputs)

  -- what a flat line mentions are signals
  pub mention-below : (placed : Placed ModelLine) → Among placed (flat_lines models) → (name : ℕ) → Among name placed.1.mentions
      → signal_of models placed.0 name < length (signals mentions_of models)
  mention-below placed there name mention =
      place-within (signals mentions_of models) (owner models placed.0 name)
      (onto-adds [] (mentioned mentions_of models (flat_lines models)) (owner models placed.0 name)
      (Among-flat_map (mentioned_by mentions_of models) placed (owner models placed.0 name) (flat_lines models) there
      (Among-map (owner models placed.0) name placed.1.mentions mention)))

  below-by : (limit : ℕ) (f : ℕ → ℕ) (kind : LineKind) (names : List ℕ) → ((name : ℕ) → Among name names → f name < limit)
      → All (λ (latch : Latch). latch.input < limit) (latches_by kind (map f names))
      × All (λ (table : Table). All (λ signal. signal < limit) table.inputs) (tables_by kind (map f names))
  below-by limit f kinds.Inputs names below = (All-nil (λ (latch : Latch). latch.input < limit), All-nil (λ (table : Table). All (λ signal. signal < limit) table.inputs))
  below-by limit f kinds.Outputs names below = (All-nil (λ (latch : Latch). latch.input < limit), All-nil (λ (table : Table). All (λ signal. signal < limit) table.inputs))
  below-by limit f (kinds.Latch init) [] below = (All-nil (λ (latch : Latch). latch.input < limit), All-nil (λ (table : Table). All (λ signal. signal < limit) table.inputs))
  below-by limit f (kinds.Latch init) (a ∷ []) below = (All-nil (λ (latch : Latch). latch.input < limit), All-nil (λ (table : Table). All (λ signal. signal < limit) table.inputs))
  below-by limit f (kinds.Latch init) (a ∷ b ∷ []) below = (
    All-cons (λ (latch : Latch). latch.input < limit) (record { input = f a; output = f b; init = init }) [] (below a (inl refl)) (All-nil (λ (latch : Latch). latch.input < limit)),
    All-nil (λ (table : Table). All (λ signal. signal < limit) table.inputs),
  )
  below-by limit f (kinds.Latch init) (a ∷ b ∷ c ∷ names) below = (All-nil (λ (latch : Latch). latch.input < limit), All-nil (λ (table : Table). All (λ signal. signal < limit) table.inputs))
  below-by limit f (kinds.Table rows) names below = (
    All-nil (λ (latch : Latch). latch.input < limit),
    All-cons (λ (table : Table). All (λ signal. signal < limit) table.inputs)
        (record { inputs = all_but_last (map f names); output = last_of (map f names); rows = rows.rows; value = rows.value }) []
        (subst (λ list. All (λ signal. signal < limit) list) (sym (front-map f names))
        (all-below (all_but_last names) (λ name there. below name (front-among names name there))))
        (All-nil (λ (table : Table). All (λ signal. signal < limit) table.inputs)),
  )
    where
      all-below : (list : List ℕ) → ((name : ℕ) → Among name list → f name < limit) → All (λ signal. signal < limit) (map f list)
      all-below [] each = All-nil (λ signal. signal < limit)
      all-below (name ∷ list) each =
          All-cons (λ signal. signal < limit) (f name) (map f list) (each name (inl refl)) (all-below list (λ other there. each other (inr there)))

  lines-below : (lines : List (Placed ModelLine)) → ((placed : Placed ModelLine) → Among placed lines → Among placed (flat_lines models))
      → All (λ (latch : Latch). latch.input < length (signals mentions_of models)) (flat_latches models lines)
      × All (λ (table : Table). All (λ signal. signal < length (signals mentions_of models)) table.inputs) (flat_tables models lines)
  lines-below [] all = (
    All-nil (λ (latch : Latch). latch.input < length (signals mentions_of models)),
    All-nil (λ (table : Table). All (λ signal. signal < length (signals mentions_of models)) table.inputs),
  )
  lines-below (placed ∷ lines) all =
      let here = subst (λ numbers. All (λ (latch : Latch). latch.input < length (signals mentions_of models)) (latches_by placed.1.kind numbers)
      × All (λ (table : Table). All (λ signal. signal < length (signals mentions_of models)) table.inputs) (tables_by placed.1.kind numbers))
      (sym (numbers-are placed))
      (below-by (length (signals mentions_of models)) (signal_of models placed.0) placed.1.kind placed.1.mentions (mention-below placed (all placed (inl refl)))) in
      let rest = lines-below lines (λ other there. all other (inr there)) in (
        All-append (λ (latch : Latch). latch.input < length (signals mentions_of models)) _ _ here.0 rest.0,
        All-append (λ (table : Table). All (λ signal. signal < length (signals mentions_of models)) table.inputs) _ _ here.1 rest.1,
      )

  -- rows are as wide as their tables, and no table has too many marks
  wide-by : (f : ℕ → ℕ) (kind : LineKind) (names : List ℕ) → IsFormed most kind names
      → All (λ (table : Table). All (λ row. length row ≡ length table.inputs) table.rows) (tables_by kind (map f names))
      × All (λ (table : Table). sum_by (length {A = Mark}) table.rows ≤ most) (tables_by kind (map f names))
  wide-by f kinds.Inputs names formed = (All-nil (λ (table : Table). All (λ row. length row ≡ length table.inputs) table.rows), All-nil (λ (table : Table). sum_by (length {A = Mark}) table.rows ≤ most))
  wide-by f kinds.Outputs names formed = (All-nil (λ (table : Table). All (λ row. length row ≡ length table.inputs) table.rows), All-nil (λ (table : Table). sum_by (length {A = Mark}) table.rows ≤ most))
  wide-by f (kinds.Latch init) names formed = (All-nil (λ (table : Table). All (λ row. length row ≡ length table.inputs) table.rows), All-nil (λ (table : Table). sum_by (length {A = Mark}) table.rows ≤ most))
  wide-by f (kinds.Table rows) [] formed = absurd formed
  wide-by f (kinds.Table rows) (first ∷ names) formed =
      let size : length (all_but_last (map f (first ∷ names))) ≡ length names =
      front-length (f first) (map f names) ∙ length-map names f in (
        All-cons (λ (table : Table). All (λ row. length row ≡ length table.inputs) table.rows)
            (record { inputs = all_but_last (map f (first ∷ names)); output = last_of (map f (first ∷ names)); rows = rows.rows; value = rows.value }) []
            (λ i d lt. formed.0 i d lt ∙ sym size) (All-nil (λ (table : Table). All (λ row. length row ≡ length table.inputs) table.rows)),
        All-cons (λ (table : Table). sum_by (length {A = Mark}) table.rows ≤ most)
            (record { inputs = all_but_last (map f (first ∷ names)); output = last_of (map f (first ∷ names)); rows = rows.rows; value = rows.value }) []
            formed.1 (All-nil (λ (table : Table). sum_by (length {A = Mark}) table.rows ≤ most)),
      )

  lines-wide : (lines : List (Placed ModelLine)) → ((placed : Placed ModelLine) → Among placed lines → Among placed (flat_lines models))
      → All (λ (table : Table). All (λ row. length row ≡ length table.inputs) table.rows) (flat_tables models lines)
      × All (λ (table : Table). sum_by (length {A = Mark}) table.rows ≤ most) (flat_tables models lines)
  lines-wide [] all = (All-nil (λ (table : Table). All (λ row. length row ≡ length table.inputs) table.rows), All-nil (λ (table : Table). sum_by (length {A = Mark}) table.rows ≤ most))
  lines-wide (placed ∷ lines) all =
      let here = subst (λ numbers. All (λ (table : Table). All (λ row. length row ≡ length table.inputs) table.rows) (tables_by placed.1.kind numbers)
      × All (λ (table : Table). sum_by (length {A = Mark}) table.rows ≤ most) (tables_by placed.1.kind numbers))
      (sym (numbers-are placed)) (wide-by (signal_of models placed.0) placed.1.kind placed.1.mentions (line-formed placed (all placed (inl refl)))) in
      let rest = lines-wide lines (λ other there. all other (inr there)) in (
        All-append (λ (table : Table). All (λ row. length row ≡ length table.inputs) table.rows) _ _ here.0 rest.0,
        All-append (λ (table : Table). sum_by (length {A = Mark}) table.rows ≤ most) _ _ here.1 rest.1,
      )

-- the netlist
pub sound : (models : Models) (texts : List (List (List ℕ))) (limit most : ℕ) → AreSound models texts limit most → limit + limit * most < 2 ^ 63
    → IsSound (flat_design models texts)
unfolding flat_design
sound models texts limit most are room =
    let size : ℕ = length (signals mentions_of models) in
    let lines = flat_lines models in
    let once = is_driven_once ModelLine mentions_of models are.whole are.named inputs_of drives_of are-mentioned are.driven in
    let only = drives_signals ModelLine mentions_of models are.whole inputs_of drives_of are-mentioned in
    let counted = driven-counted models most are.formed in
    let most_once : (k : ℕ) → times k (all_driven models most are.formed) ≤ 1 =
    λ k. ⊎_elim (λ below. omega (arith, counted k, once k below)) (λ past. omega (arith, counted k, only k past)) (cases_lt k size) in
    let none : (k : ℕ) → size ≤ k → times k (all_driven models most are.formed) ≡ 0 = λ k past. counted k ∙ only k past in
    let few = has_few_signals ModelLine mentions_of models are.whole are.named in
    let below = lines-below models most are.formed lines (λ placed there. there) in
    let wide = lines-wide models most are.formed lines (λ placed there. there) in
    let outputs = map (λ (table : Table). table.output) (flat_tables models lines) in
    let free = free_signals (flat_inputs models) (flat_latches models lines) in
    let split : (k : ℕ) → times k (free ++ outputs) ≡ times k free + times k outputs = λ k. times-append models most are.formed k free outputs in
    let tables = few-counted outputs size (λ k. omega (arith, most_once k, split k)) (λ k past. omega (arith, none k past, split k)) in
    let number = length-map (flat_tables models lines) (λ (table : Table). table.output) in
    let marks = sum_by-le (λ (table : Table). sum_by (length {A = Mark}) table.rows) most (flat_tables models lines) wide.1 in
    record {
      latch_inputs = below.0;
      table_inputs = below.1;
      driven = below-counted (all_driven models most are.formed) size none;
      once = apart-counted (all_driven models most are.formed) most_once;
      each = λ k lt. contains-counted (all_driven models most are.formed) k (omega (arith, counted k, once k lt));
      marks = wide.0;
      named = names-all models texts are.whole are.named are.titled;
      names = names-bit models texts;
      bulk = bulk-room size (length (flat_tables models lines)) limit most (marks_of (flat_tables models lines)) (omega (arith, few, are.few)) (omega (arith, tables, number)) marks room;
    }
  where
    bulk-room : (size tables limit most marks : ℕ) → size ≤ limit → tables ≤ size → marks ≤ tables * most → limit + limit * most < 2 ^ 63 → size + marks < 2 ^ 63
    bulk-room size tables limit most marks few fewer bound fits =
        let more : tables * most ≤ limit * most = mul-le-mul_right most (omega (arith, few, fewer)) in
        omega (arith, few, bound, more, fits)
