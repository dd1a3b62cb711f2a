-- What the own lines of a model say, statement by statement.
use Rattle.std.proofs.Common.{◌≡◌, ℕ, ◌+◌, ◌≤◌, eqb, List, [], ◌∷◌, ◌++◌, length, map, All, None, refl, ap, ◌∙◌, arith}
use Rattle.std.proofs.lemmas.List.{length-map}
use Rattle.std.specs.List.{flat_map, sum_by}
use Rattle.psl_base.specs.Tokens.{PlacedToken}
use Rattle.blif_flattening.specs.Members.{Among}
use Rattle.netlist.specs.declared.rows.Mark.{Mark}
use Rattle.blif_model.specs.declared.line.LineKind.TheVariants as kinds
use Rattle.blif_model.specs.declared.line.TableRows.{TableRows}
use Rattle.blif_model.specs.Models.{Model, Statement, IsInputs, IsOutputs, IsLatch, IsTable, driven, used}
use Rattle.blif_model.specs.Names.{number_of}
use Rattle.blif_model.specs.Numbered.{line_of}
use Rattle.blif_model.specs.Rules.{names_fault}
use Rattle.blif_linking.specs.Names.{mentions_said}
use Rattle.blif_flat.specs.Lines.{drives_by, drives_of, inputs_of, last_of, IsFormed}
use Rattle.blif_hierarchy.specs.Drivers.{times}
use Rattle.blif_hierarchy.proofs.Counting.{one_if, count_where-append}
use Rattle.blif_laws.proofs.Counting.{by_number, drives_number}
use Rattle.blif_laws.proofs.Numbers.{number}

-- a table has a row for each input, and so many marks at most
abbrev pub IsWide : ℕ → Statement → Type 0
IsWide most (IsInputs words) = Unit {0}
IsWide most (IsOutputs words) = Unit {0}
IsWide most (IsLatch latch) = Unit {0}
IsWide most (IsTable gate) =
    All (λ row. length row ≡ length gate.inputs) gate.rows × (sum_by (length {A = Mark}) gate.rows ≤ most)

-- what holds of the own lines of a model that a text of so many bytes says: they mention what is kept of them, no name of
-- them is at fault, and their rows are as wide as their tables
pub record IsSaid (most : ℕ) (model : Model) : Type 0 where
  pub mentions : model.mentions ≡ flat_map mentions_said model.statements
  pub faultless : names_fault [] model.mentions ≡ None
  pub wide : (statement : Statement) → Among statement model.statements → IsWide most statement

-- the numbers of a table's names
last-is : (f : PlacedToken → ℕ) (inputs : List PlacedToken) (output : PlacedToken) → last_of (map f (inputs ++ output ∷ [])) ≡ f output
last-is f [] output = refl
last-is f (word ∷ []) output = refl
last-is f (word ∷ other ∷ words) output = last-is f (other ∷ words) output

more : (words : List PlacedToken) (output : PlacedToken) → length (words ++ output ∷ []) ≡ length words + 1
more [] output = omega arith
more (word ∷ words) output = omega (arith, more words output)

module _ (names : List (List ℕ)) where
  table-formed : (most : ℕ) (rows : TableRows) (inputs : List PlacedToken) (output : PlacedToken)
      → All (λ row. length row ≡ length inputs) rows.rows × (sum_by (length {A = Mark}) rows.rows ≤ most)
      → IsFormed most (kinds.Table rows) (map (number_of names) (inputs ++ output ∷ []))
  table-formed most rows [] output wide = wide
  table-formed most rows (word ∷ words) output wide =
      let size : length (word ∷ words) ≡ length (map (number_of names) (words ++ output ∷ [])) =
      omega (arith, more words output, length-map (words ++ output ∷ []) (number_of names)) in
      (λ i d lt. wide.0 i d lt ∙ size, wide.1)

  pub line-formed : (most : ℕ) (statement : Statement) → IsWide most statement → IsFormed most (line_of names statement).kind (line_of names statement).mentions
  line-formed most (IsInputs words) wide = tt
  line-formed most (IsOutputs words) wide = tt
  line-formed most (IsLatch latch) wide = refl
  line-formed most (IsTable gate) wide =
      table-formed most (record { rows = gate.rows; value = gate.value; output_at = gate.output.at }) gate.inputs gate.output wide

  -- how often words are driven
  driven-words : (k : ℕ) (words : List PlacedToken) → times k (map (number_of names) words) ≡ by_number names k (map driven words)
  driven-words k [] = refl
  driven-words k (word ∷ words) = ap (λ n. one_if (eqb (number names word.text) k) + n) (driven-words k words)

  used-words : (k : ℕ) (words : List PlacedToken) → by_number names k (map used words) ≡ 0
  used-words k [] = refl
  used-words k (word ∷ words) = omega (arith, used-words k words)

  table-drives : (rows : TableRows) (inputs : List PlacedToken) (output : PlacedToken)
      → drives_by (kinds.Table rows) (map (number_of names) (inputs ++ output ∷ [])) ≡ number_of names output ∷ []
  table-drives rows [] output = refl
  table-drives rows (word ∷ words) output = ap (λ n. n ∷ []) (last-is (number_of names) (word ∷ words) output)

  -- what a line lists as inputs, and drives
  pub line-counted : (k : ℕ) (statement : Statement)
      → times k (inputs_of (line_of names statement)) + times k (drives_of (line_of names statement)) ≡ by_number names k (mentions_said statement)
  line-counted k (IsInputs words) = omega (arith, driven-words k words)
  line-counted k (IsOutputs words) = omega (arith, used-words k words)
  line-counted k (IsLatch latch) = omega arith
  line-counted k (IsTable gate) =
      let drives = ap (times k) (table-drives (record { rows = gate.rows; value = gate.value; output_at = gate.output.at }) gate.inputs gate.output) in
      omega (arith, drives, used-words k gate.inputs, count_where-append (drives_number names k) (map used gate.inputs) (driven gate.output ∷ []))
