-- How many signals and tables the flat netlist has, and where the outputs of its tables stand in the text.
use Rattle.std.proofs.Common.{◌≡◌, ℕ, ◌+◌, ◌≤◌, inl, eqb, List, [], ◌∷◌, ◌++◌, length, map, All, refl, sym, ◌∙◌, subst, ⊎_elim, arith}
use Rattle.std.proofs.lemmas.Bool.{cases_lt}
use Rattle.std.proofs.lemmas.List.{length-append, length-map}
use Rattle.std.proofs.lemmas.List.Elements.{All-nil, All-cons}
use Rattle.blif_flattening.specs.Hierarchy.{Placed, flat_lines, model_at}
use Rattle.blif_flattening.specs.Members.{Among}
use Rattle.blif_flattening.specs.Numbers.{signals}
use Rattle.blif_flattening.proofs.Lines.{line_of as instance_line}
use Rattle.blif_flattening.proofs.Members.{Among-right, Among-flat_map}
use Rattle.netlist.specs.declared.table.Table.{Table}
use Rattle.netlist.specs.Design.{free_signals}
use Rattle.blif_model.specs.declared.line.LineKind.{LineKind}
use Rattle.blif_model.specs.declared.line.LineKind.TheVariants as kinds
use Rattle.blif_model.specs.declared.line.ModelLine.{ModelLine}
use Rattle.blif_model.specs.Files.{Part}
use Rattle.blif_model.specs.Models.{Mention, Model, Statement, IsInputs, IsOutputs, IsLatch, IsTable, driven, used}
use Rattle.blif_model.specs.Numbered.{line_of}
use Rattle.blif_model.proofs.Held.{PartHolds, PartsHold}
use Rattle.blif_linking.specs.Linked.{linked}
use Rattle.blif_linking.specs.Names.{Parts, mentions_said, names_in}
use Rattle.blif_flat.specs.Flat.{Models, flat_design, flat_inputs, flat_latches, flat_outputs, flat_tables, numbers_of, AreSound}
use Rattle.blif_flat.specs.Lines.{inputs_of, drives_of, mentions_of, outputs_by, tables_by}
use Rattle.blif_flat.proofs.Counts.{few-counted}
use Rattle.blif_flat.proofs.Sound.{are-mentioned, driven-counted}
use Rattle.blif_hierarchy.specs.Drivers.{times}
use Rattle.blif_hierarchy.proofs.Counting.{count_where-append}
use Rattle.blif_hierarchy.proofs.Few.{has_few_signals}
use Rattle.blif_hierarchy.proofs.Once.{is_driven_once, drives_signals}
use Rattle.blif_laws.proofs.Models.{line-from}
use Rattle.blif_laws.proofs.Placings.{Among-get}
use Rattle.blif_laws.proofs.Plain.{all-flat, named-at}
use Rattle.blif_laws.proofs.Saying.{all-said}

module _ (models : Models) (texts : List (List (List ℕ))) (limit most : ℕ) (are : AreSound models texts limit most) where
  pub few-signals : length (signals mentions_of models) ≤ limit
  few-signals =
      let few = has_few_signals ModelLine mentions_of models are.whole are.named in
      let room = are.few in
      omega (arith, few, room)

  -- no table drives what another one drives
  pub few-tables : length (flat_tables models (flat_lines models)) ≤ limit
  few-tables =
      let size : ℕ = length (signals mentions_of models) in
      let lines : List (Placed ModelLine) = flat_lines models in
      let once = is_driven_once ModelLine mentions_of models are.whole are.named inputs_of drives_of are-mentioned are.driven in
      let only = drives_signals ModelLine mentions_of models are.whole inputs_of drives_of are-mentioned in
      let counted = driven-counted models most are.formed in
      let outputs : List ℕ = map (λ (table : Table). table.output) (flat_tables models lines) in
      let free : List ℕ = free_signals (flat_inputs models) (flat_latches models lines) in
      let split : (k : ℕ) → times k (free ++ outputs) ≡ times k free + times k outputs = λ k. count_where-append (λ n. eqb n k) free outputs in
      let all = few-counted outputs size
      (λ k. ⊎_elim (λ below. omega (arith, counted k, once k below, split k)) (λ past. omega (arith, counted k, only k past, split k)) (cases_lt k size))
      (λ k past. omega (arith, counted k, only k past, split k)) in
      omega (arith, all, few-signals, length-map (flat_tables models lines) (λ (table : Table). table.output))

-- each table has a place
place-each : (kind : LineKind) (numbers : List ℕ) → length (outputs_by kind) ≡ length (tables_by kind numbers)
place-each kinds.Inputs numbers = refl
place-each kinds.Outputs numbers = refl
place-each (kinds.Latch init) numbers = refl
place-each (kinds.Table rows) numbers = refl

places-all : (models : Models) (lines : List (Placed ModelLine)) → length (flat_outputs lines) ≡ length (flat_tables models lines)
places-all models [] = refl
places-all models (placed ∷ lines) =
    omega (
      arith,
      place-each placed.1.kind (numbers_of models placed),
      places-all models lines,
      length-append (outputs_by placed.1.kind) (flat_outputs lines),
      length-append (tables_by placed.1.kind (numbers_of models placed)) (flat_tables models lines),
    )

pub as-many-places : (models : Models) (texts : List (List (List ℕ))) → length (flat_outputs (flat_lines models)) ≡ length (flat_design models texts).tables
unfolding flat_design
as-many-places models texts = places-all models (flat_lines models)

-- and it is one of the text
held-at : (size most : ℕ) (parts : Parts) (part : Part Model) → PartsHold size parts most → Among part parts → PartHolds size part most
held-at size most [] part all none = absurd none
held-at size most (first ∷ parts) part all there =
    ⊎_elim (λ here. subst (λ (p : Part Model). PartHolds size p most) here all.0) (λ later. held-at size most parts part all.1 later) there

statement-within : (size most : ℕ) (names : List (List ℕ)) (part : Part Model) → PartHolds size part most → (statement : Statement) → Among statement part.own.statements
    → All (λ at. at ≤ size) (outputs_by (line_of names statement).kind)
statement-within size most names part holds (IsInputs words) there = All-nil (λ at. at ≤ size)
statement-within size most names part holds (IsOutputs words) there = All-nil (λ at. at ≤ size)
statement-within size most names part holds (IsLatch latch) there = All-nil (λ at. at ≤ size)
statement-within size most names part holds (IsTable gate) there =
    let said : Among (driven gate.output) (mentions_said (IsTable gate)) = Among-right (driven gate.output) (map used gate.inputs) (driven gate.output ∷ []) (inl refl) in
    let own : Among (driven gate.output) part.own.mentions =
    subst (λ (mentions : List Mention). Among (driven gate.output) mentions) (sym (holds.own.mentions ∙ all-said part.own.statements))
    (Among-flat_map mentions_said (IsTable gate) (driven gate.output) part.own.statements there said) in
    let word = named-at size part.own.mentions (driven gate.output) holds.own.named own in
    All-cons (λ at. at ≤ size) gate.output.at [] word.within (All-nil (λ at. at ≤ size))

pub places-within : (parts : Parts) (size most : ℕ) → PartsHold size parts most → All (λ at. at ≤ size) (flat_outputs (flat_lines (linked parts)))
places-within parts size most all =
    all-flat (λ at. at ≤ size) (λ (placed : Placed ModelLine). outputs_by placed.1.kind) (flat_lines (linked parts))
    (λ placed there.
    let stands = instance_line (linked parts) placed.0 placed.1 there in
    let of = line-from parts (model_at (linked parts) placed.0) placed.1 stands.1 in
    let part = Among-get parts (model_at (linked parts) placed.0) of.part of.at in
    subst (λ (line : ModelLine). All (λ at. at ≤ size) (outputs_by line.kind)) of.is
    (statement-within size most (names_in parts of.part) of.part (held-at size most parts of.part all part) of.statement of.there))
