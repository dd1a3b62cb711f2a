-- The worked examples hold.
use Rattle.std.proofs.Common.{◌≡◌, ℕ, zero, suc, ◌<◌, ◌≤◌, inl, inr, nat_lt, Bool, true, false, [], ◌∷◌, length, Some, refl, sym, ap, ◌∙◌, subst, ⊎_elim, arith}
use Rattle.std.proofs.lemmas.Bool.{ltb-true}
use Rattle.std.proofs.lemmas.List.Elements.{All-nil, All-cons}
use Rattle.std.proofs.lemmas.Option.{none-some}
use Rattle.netlist_order.specs.Graph.{Depends, Reads, directly, onwards}
use Rattle.netlist.specs.declared.latch.Init.TheVariants as inits
use Rattle.netlist.specs.declared.rows.Mark.TheVariants as marks
use Rattle.netlist.specs.declared.table.Table.{Table}
use Rattle.netlist.specs.Valuations.{bit, output_by, output_in, IsValuation}
use Rattle.blif_flattening.specs.declared.model.Item.TheVariants.{Own}
use Rattle.blif_flattening.specs.declared.model.Placement.{Placement}
use Rattle.blif_flattening.specs.declared.model.TheConstants.{DEEPEST}
use Rattle.blif_flattening.specs.Hierarchy.{flat_lines, IsInstance, items_at, placement_of}
use Rattle.blif_flattening.specs.Members.{Among}
use Rattle.blif_flattening.specs.Numbers.{signals}
use Rattle.blif_model.specs.declared.line.LineKind.TheVariants as kinds
use Rattle.blif_model.specs.declared.line.ModelLine.{ModelLine}
use Rattle.blif_hierarchy.specs.Depth.{depth_of, IsTooDeep}
use Rattle.blif_hierarchy.specs.Order.{model_graph, IsRecursive}
use Rattle.blif_hierarchy.specs.Sums.{placements_of, size_with, IsPast}
use Rattle.blif_flat.specs.Flat.{flat_design}
use Rattle.blif_flat.specs.Lines.{mentions_of}
use Rattle.blif_flat.specs.Trees.{LineSays}
use Rattle.blif_linking.specs.Examples.{parts_in, turning}
use Rattle.blif_linking.specs.Sizes.{scale_of, starts_of}
use Rattle.blif_laws.specs.Examples.{turned, value_of_q, turned_texts, TurningFits, TurningIsATree, TurningUnfolds, FormalsFollow, TablesHold, LatchesBegin, LatchesMove}
use Rattle.blif_laws.proofs.Hierarchies.{unfolds}

-- the top places the second model, and no other placement is there
only : (model k : ℕ) (placement : Placement) → placement_of turned model k ≡ Some placement → (model ≡ 0) × (placement.model ≡ 1)
only zero zero placement is =
    let same : ◌≡◌ {A = Placement} (record { model = 1; connections = record { formal = 0; actual = 0 } ∷ [] }) placement = cc in
    (refl, ap (λ (p : Placement). p.model) (sym same))
only zero (suc k) placement is = absurd (none-some placement is)
only (suc zero) k placement is = absurd (none-some placement is)
only (suc (suc model)) k placement is = absurd (none-some placement is)

-- from which nothing leads on
no_reads : (driver : ℕ) → Reads (model_graph turned) 1 driver → ⊥
no_reads driver reads = none-some driver reads.drives

leads : (model other : ℕ) → Depends (model_graph turned) model other → model ≡ 1 → ⊥
leads model other (directly reads) is = no_reads other (subst (λ m. Reads (model_graph turned) m other) is reads)
leads model other (onwards {driver = driver} reads rest) is = no_reads driver (subst (λ m. Reads (model_graph turned) m driver) is reads)

not_recursive : (model k : ℕ) → IsRecursive turned model k → ⊥
not_recursive model k is =
    let at = only model k is.placement is.there in
    ⊎_elim (λ same. absurd (omega (arith, same, at.0, at.1))) (λ chain. leads is.placement.model model chain at.1) is.back

not_deep : (model k : ℕ) → IsTooDeep turned model k → ⊥
not_deep model k is =
    let at = only model k is.placement is.there in
    let deep : DEEPEST ≤ depth_of turned DEEPEST 1 = subst (λ m. DEEPEST ≤ depth_of turned DEEPEST m) at.1 is.deep in
    absurd (omega (arith, deep))

few_bytes : nat_lt (size_with turned (starts_of (length turning) (parts_in turning)) 1) 1000 ≡ true
few_bytes = refl

not_past : (k : ℕ) → k < length (placements_of turned 0) → IsPast turned (scale_of turning (parts_in turning)) k → ⊥
not_past zero lt (inl few) = absurd (omega (arith, few))
not_past zero lt (inr (inl few)) = absurd (omega (arith, few))
not_past zero lt (inr (inr few)) =
    let low = ltb-true (size_with turned (starts_of (length turning) (parts_in turning)) 1) 1000 few_bytes in
    absurd (omega (arith, few, low))
not_past (suc k) lt past = absurd (omega (arith, lt))

pub turning_fits : TurningFits
turning_fits = record {
  parts = parts_in turning;
  said = refl;
  known = refl;
  connected = refl;
  models_are = refl;
  texts_are = refl;
  finite = not_recursive;
  shallow = not_deep;
  apart = refl;
  driven = refl;
  few = not_past;
}

abbrev Agrees : Table → Type 0
Agrees table = bit (true ∷ false ∷ []) table.output ≡ output_in (true ∷ false ∷ []) table

is_valuation : IsValuation (flat_design turned turned_texts) (true ∷ false ∷ [])
unfolding flat_design flat_lines
is_valuation = record {
  size = refl;
  tables = All-cons Agrees (record { inputs = 0 ∷ []; output = 1; rows = (marks.Zero ∷ []) ∷ []; value = true }) [] refl (All-nil Agrees);
}

sized : length (true ∷ false ∷ []) ≡ length (signals mentions_of turned)
unfolding flat_lines
sized = refl

pub turning_is_a_tree : TurningIsATree
turning_is_a_tree = ((unfolds turning turned turned_texts turning_fits).valuations (true ∷ false ∷ []) sized).0 is_valuation

pub turning_unfolds : TurningUnfolds
unfolding flat_lines
turning_unfolds = (refl, refl, refl)

-- the instance in the top, and its lines
inner : IsInstance turned (0 ∷ [])
inner = (tt, (record { model = 1; connections = record { formal = 0; actual = 0 } ∷ [] }, refl))

abbrev latch_line : ModelLine
latch_line = record { mentions = 1 ∷ 0 ∷ []; kind = kinds.Latch inits.Zero }

abbrev table_line : ModelLine
table_line = record { mentions = 0 ∷ 1 ∷ []; kind = kinds.Table (record { rows = (marks.Zero ∷ []) ∷ []; value = true; output_at = 72 }) }

has_latch : Among (Own latch_line) (items_at turned (0 ∷ []))
has_latch = inr (inl refl)

has_table : Among (Own table_line) (items_at turned (0 ∷ []))
has_table = inr (inr (inl refl))

pub formals_follow : FormalsFollow
formals_follow tree is = is.connections [] 0 0 0 inner refl

pub tables_hold : TablesHold
tables_hold tree is one =
    let says : LineSays table_line (tree (0 ∷ [])) = is.lines (0 ∷ []) table_line inner has_table in
    says ∙ by_value (value_of_q tree) one
  where
    by_value : (value : Bool) → value ≡ true
        → output_by (record { inputs = 0 ∷ []; output = 1; rows = (marks.Zero ∷ []) ∷ []; value = true }) (value ∷ []) ≡ false
    by_value true is = refl
    by_value false is = cc

pub latches_begin : LatchesBegin
latches_begin tree begins = begins (0 ∷ []) latch_line inner has_latch

pub latches_move : LatchesMove
latches_move earlier later moves = moves (0 ∷ []) latch_line inner has_latch

pub ruleset trees = (turning_fits, turning_is_a_tree, turning_unfolds, formals_follow, tables_hold, latches_begin, latches_move)
