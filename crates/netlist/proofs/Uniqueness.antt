-- Two valuations with the same free values are one.
use Rattle.std.proofs.Common.{◌≡◌, ℕ, zero, suc, ◌<◌, ◌≤◌, Bool, false, List, [], ◌∷◌, length, take, get_or, refl, sym, ap, subst, ◌∙◌, inl, inr, arith}
use Rattle.std.proofs.lemmas.Bool.{cases_lt}
use Rattle.std.proofs.lemmas.List.{get_or-map, get_or-take, length-take-le, ext_get_or}
use Rattle.netlist.specs.declared.table.Table.{Table}
use Rattle.netlist.specs.Design.{Design, free_of}
use Rattle.netlist.specs.Sound.{IsOrder, IsSound, no_table, table_at}
use Rattle.netlist.specs.Valuations.{bit, values, output_by, IsFilled, IsValuation}
use Rattle.netlist.proofs.Driving.{Occurs, occurs-from, contains-from, driver-of}

-- two valuations agree on the outputs of the first tables of the order
record AgreeTo (tables : List Table) (order : List ℕ) (count : ℕ) (left right : List Bool) : Type 0 where
  on : (place : ℕ) → place < count → bit left (table_at tables (get_or order place 0)).output ≡ bit right (table_at tables (get_or order place 0)).output

free-agree : (signals : List ℕ) (left right : List Bool) (signal : ℕ) → values left signals ≡ values right signals → Occurs signal signals → bit left signal ≡ bit right signal
free-agree signals left right signal same found =
    let at = λ (valuation : List Bool). get_or-map (bit valuation) signals found.place 0 false found.within ∙ ap (bit valuation) found.is in
    sym (at left) ∙ ap (λ list. get_or list found.place false) same ∙ at right

values-agree : (signals : List ℕ) (left right : List Bool) → ((place : ℕ) → place < length signals → bit left (get_or signals place 0) ≡ bit right (get_or signals place 0))
    → values left signals ≡ values right signals
values-agree [] left right agree = refl
values-agree (signal ∷ signals) left right agree =
    let first = agree 0 (omega arith) in
    let rest = values-agree signals left right (λ place within. agree (suc place) (omega arith)) in
    cc

agree-more : (design : Design) (order : List ℕ) → IsSound design → IsOrder design.tables order → (left right : List Bool) → IsValuation design left → IsValuation design right
    → values left (free_of design) ≡ values right (free_of design) → (count : ℕ) → count < length order → AgreeTo design.tables order count left right
    → bit left (table_at design.tables (get_or order count 0)).output ≡ bit right (table_at design.tables (get_or order count 0)).output
agree-more design order sound ordered left right is_left is_right free count within agree =
    let number = get_or order count 0 in
    let listed = ordered.within count 0 within in
    let table = table_at design.tables number in
    let inputs = values-agree table.inputs left right (λ place p_in. elim (driver-of design sound (get_or table.inputs place 0) (sound.table_inputs number no_table listed place 0 p_in)) [
      | inl found ↦ free-agree (free_of design) left right (get_or table.inputs place 0) free found
      | inr drives ↦
          let reads = contains-from table.inputs (table_at design.tables drives.table).output (record { place = place; within = p_in; is = sym drives.is }) in
          let before = occurs-from (take count order) drives.table (ordered.after count drives.table within drives.within reads) in
          let early : before.place < count = omega (arith, before.within, length-take-le count order (omega arith)) in
          let driver : get_or order before.place 0 ≡ drives.table = sym (get_or-take count order before.place 0 early) ∙ before.is in
          let output : (table_at design.tables (get_or order before.place 0)).output ≡ get_or table.inputs place 0 = ap (λ t. (table_at design.tables t).output) driver ∙ drives.is in
          ap (bit left) (sym output) ∙ agree.on before.place early ∙ ap (bit right) output
    ]) in
    is_left.tables number no_table listed ∙ ap (output_by table) inputs ∙ sym (is_right.tables number no_table listed)

agree-to : (design : Design) (order : List ℕ) → IsSound design → IsOrder design.tables order → (left right : List Bool) → IsValuation design left → IsValuation design right
    → values left (free_of design) ≡ values right (free_of design) → (count : ℕ) → count ≤ length order → AgreeTo design.tables order count left right
agree-to design order sound ordered left right is_left is_right free zero within = record { on = λ place below. absurd (omega arith) }
agree-to design order sound ordered left right is_left is_right free (suc count) within =
    let before = agree-to design order sound ordered left right is_left is_right free count (omega arith) in
    record {
      on = λ place below. elim (cases_lt place count) [
        | inl early ↦ before.on place early
        | inr late ↦
            let same : count ≡ place = omega arith in
            subst (λ (at : ℕ). bit left (table_at design.tables (get_or order at 0)).output ≡ bit right (table_at design.tables (get_or order at 0)).output) same
            (agree-more design order sound ordered left right is_left is_right free count (omega arith) before)
      ];
    }

pub one-valuation : (design : Design) (order : List ℕ) → IsSound design → IsOrder design.tables order → (free left right : List Bool)
    → IsFilled design free left → IsFilled design free right → left ≡ right
one-valuation design order sound ordered free left right is_left is_right =
    let same = is_left.has ∙ sym is_right.has in
    let agree = agree-to design order sound ordered left right is_left.is is_right.is same (length order) (omega arith) in
    ext_get_or false left right (is_left.is.size ∙ sym is_right.is.size) (λ signal within.
    elim (driver-of design sound signal (omega (arith, is_left.is.size))) [
      | inl found ↦ free-agree (free_of design) left right signal same found
      | inr drives ↦
          let found = occurs-from order drives.table (ordered.each drives.table drives.within) in
          let output : (table_at design.tables (get_or order found.place 0)).output ≡ signal = ap (λ t. (table_at design.tables t).output) found.is ∙ drives.is in
          ap (bit left) (sym output) ∙ agree.on found.place found.within ∙ ap (bit right) output
    ])
