-- The parts of a netlist, line by line.
use Rattle.std.proofs.Common.{◌≡◌, ℕ, List, [], ◌∷◌, ◌++◌, length, map, refl, sym, ap, ◌∙◌, arith}
use Rattle.std.specs.List.{flat_map}
use Rattle.blif_flattening.specs.Hierarchy.{Placed}
use Rattle.blif_flattening.specs.Numbers.{signals}
use Rattle.blif_flattening.specs.Walks.{placed_view}
use Rattle.blif_model.specs.declared.line.ModelLine.{ModelLine}
use Rattle.blif_flat.specs.Flat.{Models, numbers_of, flat_latches, flat_tables, flat_outputs}
use Rattle.blif_flat.specs.Lines.{all_but_last, last_of, table_by, latches_by, tables_by, outputs_by, mentions_of}
use Rattle.blif_flat.specs.Listing.{View, table_with, latches_in, tables_in, outputs_in}
use Rattle.blif_model.specs.declared.line.TableRows.{TableRows}

front-push : (front : List ℕ) (last : ℕ) → all_but_last (front ++ last ∷ []) ≡ front
front-push [] last = refl
front-push (a ∷ []) last = refl
front-push (a ∷ b ∷ front) last = ap (λ rest. a ∷ rest) (front-push (b ∷ front) last)

last-push : (front : List ℕ) (last : ℕ) → last_of (front ++ last ∷ []) ≡ last
last-push [] last = refl
last-push (a ∷ []) last = refl
last-push (a ∷ b ∷ front) last = last-push (b ∷ front) last

pub table-split : (rows : TableRows) (numbers front : List ℕ) (last : ℕ) → numbers ≡ front ++ last ∷ [] → table_with rows front last ≡ table_by rows numbers
table-split rows numbers front last is =
    let inputs : front ≡ all_but_last numbers = sym (ap all_but_last is ∙ front-push front last) in
    let output : last ≡ last_of numbers = sym (ap last_of is ∙ last-push front last) in
    ap (λ list. table_with rows list last) inputs ∙ ap (λ n. table_with rows (all_but_last numbers) n) output

pub table-none : (rows : TableRows) (numbers : List ℕ) → length numbers ≡ 0 → table_with rows [] 0 ≡ table_by rows numbers
table-none rows [] is = refl
table-none rows (number ∷ numbers) is = absurd (omega (arith, is))

-- what the lines that a walk finds list, is what the flat lines do
pub parts-flat : (models : Models) (lines : List (Placed ModelLine))
    → (flat_map (λ (view : View). latches_in view.0 view.1) (map (placed_view mentions_of models (signals mentions_of models)) lines) ≡ flat_latches models lines)
    × (flat_map (λ (view : View). tables_in view.0 view.1) (map (placed_view mentions_of models (signals mentions_of models)) lines) ≡ flat_tables models lines)
    × (flat_map (λ (view : View). outputs_in view.0) (map (placed_view mentions_of models (signals mentions_of models)) lines) ≡ flat_outputs lines)
parts-flat models [] = (refl, refl, refl)
parts-flat models (placed ∷ lines) =
    let rest = parts-flat models lines in (
      ap (λ list. latches_by placed.1.kind (numbers_of models placed) ++ list) rest.0,
      ap (λ list. tables_by placed.1.kind (numbers_of models placed) ++ list) rest.1,
      ap (λ list. outputs_by placed.1.kind ++ list) rest.2,
    )
