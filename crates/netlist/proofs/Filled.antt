-- Filling a valuation gives the one that has these free values.
use Rattle.std.proofs.Common.{subst, add-one, ◌≡◌, ℕ, zero, suc, ◌+◌, ◌<◌, ◌≤◌, Bool, false, List, [], ◌∷◌, ◌++◌, length, map, take, drop, set, get_or, refl, sym, ap, ◌∙◌, inl, inr, arith, length-append, length-set, get_or-set_same, get_or-set_other}
use Rattle.std.specs.Prelude.{All}
use Rattle.std.proofs.lemmas.Bool.{cases_lt}
use Rattle.std.proofs.lemmas.List.{get_or_default, get_or-take, length-take-le, take-append-drop, take_all}
use Rattle.std.proofs.lemmas.List.Sums.{fold_more}
use Rattle.netlist.specs.declared.table.Table.{Table}
use Rattle.netlist.specs.Design.{Design, free_of}
use Rattle.netlist.specs.Sound.{AreApart, IsOrder, IsSound, no_table, table_at}
use Rattle.netlist.specs.Valuations.{bit, values, output_by, output_in, IsValuation}
use Rattle.netlist.specs.Filling.{with_values, with_output, with_outputs}
use Rattle.netlist.proofs.Driving.{occurs-from, contains-from, outputs-apart, free-apart, frees-apart, free-within, output-within}

pub length-with_values : (signals : List ℕ) (given valuation : List Bool) → length (with_values signals given valuation) ≡ length valuation
length-with_values [] given valuation = refl
length-with_values (signal ∷ signals) [] valuation = refl
length-with_values (signal ∷ signals) (value ∷ given) valuation =
    length-with_values signals given (set valuation signal value) ∙ length-set valuation signal value

-- some signals are set, and then more
pub with_values-append : (signals more : List ℕ) (given rest valuation : List Bool) → length given ≡ length signals
    → with_values (signals ++ more) (given ++ rest) valuation ≡ with_values more rest (with_values signals given valuation)
with_values-append [] more [] rest valuation size = refl
with_values-append [] more (value ∷ given) rest valuation size = absurd (omega arith)
with_values-append (signal ∷ signals) more [] rest valuation size = absurd (omega arith)
with_values-append (signal ∷ signals) more (value ∷ given) rest valuation size =
    with_values-append signals more given rest (set valuation signal value) (omega arith)

-- signals that are not written keep their values
pub values-set : (signals : List ℕ) (valuation : List Bool) (signal : ℕ) (value : Bool) → ((place : ℕ) → place < length signals → get_or signals place 0 ≡ signal → ⊥)
    → values (set valuation signal value) signals ≡ values valuation signals
values-set [] valuation signal value apart = refl
values-set (other ∷ signals) valuation signal value apart =
    let rest = values-set signals valuation signal value (λ place within same. apart (suc place) (omega arith) same) in
    let first : bit (set valuation signal value) other ≡ bit valuation other = get_or-set_other valuation signal other value false (λ same. apart 0 (omega arith) same) in
    cc

bit-with_values : (signals : List ℕ) (given valuation : List Bool) (signal : ℕ) → ((place : ℕ) → place < length signals → get_or signals place 0 ≡ signal → ⊥)
    → bit (with_values signals given valuation) signal ≡ bit valuation signal
bit-with_values [] given valuation signal apart = refl
bit-with_values (other ∷ signals) [] valuation signal apart = refl
bit-with_values (other ∷ signals) (value ∷ given) valuation signal apart =
    bit-with_values signals given (set valuation other value) signal (λ place within same. apart (suc place) (omega arith) same)
    ∙ get_or-set_other valuation other signal value false (λ same. apart 0 (omega arith) (sym same))

-- the signals that are set have the values that were given
pub values-with_values : (signals : List ℕ) (given valuation : List Bool) → length given ≡ length signals → AreApart signals → All (λ signal. signal < length valuation) signals
    → values (with_values signals given valuation) signals ≡ given
values-with_values [] [] valuation size apart within = refl
values-with_values [] (value ∷ given) valuation size apart within = absurd (omega arith)
values-with_values (signal ∷ signals) [] valuation size apart within = absurd (omega arith)
values-with_values (signal ∷ signals) (value ∷ given) valuation size apart within =
    let inside : signal < length valuation = within 0 0 (omega arith) in
    let rest : values (with_values signals given (set valuation signal value)) signals ≡ given =
    values-with_values signals given (set valuation signal value) (omega arith)
    (λ i j i_in j_in same. let e = apart (suc i) (suc j) (omega arith) (omega arith) same in omega arith)
    (λ k d k_in. let h = within (suc k) d (omega arith) in omega (arith, length-set valuation signal value)) in
    let first : bit (with_values signals given (set valuation signal value)) signal ≡ value =
    bit-with_values signals given (set valuation signal value) signal
    (λ place p_in same. let e = apart (suc place) 0 (omega arith) (omega arith) same in absurd (omega arith))
    ∙ get_or-set_same valuation signal value false inside in
    cc

pub length-with_outputs : (tables : List Table) (order : List ℕ) (valuation : List Bool) → length (with_outputs tables order valuation) ≡ length valuation
length-with_outputs tables [] valuation = refl
length-with_outputs tables (number ∷ order) valuation =
    length-with_outputs tables order (with_output tables valuation number)
    ∙ length-set valuation (table_at tables number).output (output_in valuation (table_at tables number))

-- outputs that are set leave the other signals as they are
pub values-with_outputs : (tables : List Table) (order signals : List ℕ) (valuation : List Bool)
    → ((i place : ℕ) → i < length order → place < length signals → get_or signals place 0 ≡ (table_at tables (get_or order i 0)).output → ⊥)
    → values (with_outputs tables order valuation) signals ≡ values valuation signals
values-with_outputs tables [] signals valuation apart = refl
values-with_outputs tables (number ∷ order) signals valuation apart =
    values-with_outputs tables order signals (with_output tables valuation number) (λ i place i_in p_in same. apart (suc i) place (omega arith) p_in same)
    ∙ values-set signals valuation (table_at tables number).output (output_in valuation (table_at tables number)) (λ place p_in same. apart 0 place (omega arith) p_in same)

-- a table that reads what another drives comes after it
not-read : (tables : List Table) (order : List ℕ) → IsOrder tables order → (i j : ℕ) → i < length order → j ≤ i
    → (place : ℕ) → place < length (table_at tables (get_or order j 0)).inputs
    → get_or (table_at tables (get_or order j 0)).inputs place 0 ≡ (table_at tables (get_or order i 0)).output → ⊥
not-read tables order ordered i j i_in below place p_in same =
    let j_in : j < length order = omega arith in
    let reads = contains-from (table_at tables (get_or order j 0)).inputs (table_at tables (get_or order i 0)).output (record { place = place; within = p_in; is = same }) in
    let before = occurs-from (take j order) (get_or order i 0) (ordered.after j (get_or order i 0) j_in (ordered.within i 0 i_in) reads) in
    let size = length-take-le j order (omega arith) in
    let early : before.place < j = omega (arith, before.within) in
    let at = ordered.once before.place i (omega arith) i_in (sym (get_or-take j order before.place 0 early) ∙ before.is) in
    absurd (omega arith)

-- the first tables of the order have the outputs that their rows say
record FilledTo (tables : List Table) (order : List ℕ) (count : ℕ) (valuation : List Bool) : Type 0 where
  says : (place : ℕ) → place < count → bit valuation (table_at tables (get_or order place 0)).output ≡ output_in valuation (table_at tables (get_or order place 0))

filled-keep : (design : Design) (order : List ℕ) → IsSound design → IsOrder design.tables order → (count : ℕ) → count < length order → (valuation : List Bool)
    → (place : ℕ) → place < count → bit valuation (table_at design.tables (get_or order place 0)).output ≡ output_in valuation (table_at design.tables (get_or order place 0))
    → bit (with_output design.tables valuation (get_or order count 0)) (table_at design.tables (get_or order place 0)).output
    ≡ output_in (with_output design.tables valuation (get_or order count 0)) (table_at design.tables (get_or order place 0))
filled-keep design order sound ordered count within valuation place below says =
    let here = table_at design.tables (get_or order count 0) in
    let there = table_at design.tables (get_or order place 0) in
    let apart = λ (same : there.output ≡ here.output).
    let tables = outputs-apart design sound (get_or order place 0) (get_or order count 0) (ordered.within place 0 (omega arith)) (ordered.within count 0 within) same in
    let places = ordered.once place count (omega arith) within tables in
    (let no : ⊥ = omega arith in no) in
    let kept : bit (set valuation here.output (output_in valuation here)) there.output ≡ bit valuation there.output =
    get_or-set_other valuation here.output there.output (output_in valuation here) false apart in
    let inputs = values-set there.inputs valuation here.output (output_in valuation here) (not-read design.tables order ordered count place within (omega arith)) in
    kept ∙ says ∙ sym (ap (output_by there) inputs)

filled-here : (design : Design) (order : List ℕ) → IsSound design → IsOrder design.tables order → (count : ℕ) → count < length order → (valuation : List Bool)
    → length valuation ≡ design.signals
    → bit (with_output design.tables valuation (get_or order count 0)) (table_at design.tables (get_or order count 0)).output
    ≡ output_in (with_output design.tables valuation (get_or order count 0)) (table_at design.tables (get_or order count 0))
filled-here design order sound ordered count within valuation size =
    let here = table_at design.tables (get_or order count 0) in
    let inside : here.output < length valuation = omega (arith, output-within design sound (get_or order count 0) (ordered.within count 0 within)) in
    let inputs = values-set here.inputs valuation here.output (output_in valuation here) (not-read design.tables order ordered count count within (omega arith)) in
    get_or-set_same valuation here.output (output_in valuation here) false inside ∙ sym (ap (output_by here) inputs)

filled-more : (design : Design) (order : List ℕ) → IsSound design → IsOrder design.tables order → (count : ℕ) → count < length order → (valuation : List Bool)
    → length valuation ≡ design.signals → FilledTo design.tables order count valuation
    → FilledTo design.tables order (suc count) (with_output design.tables valuation (get_or order count 0))
filled-more design order sound ordered count within valuation size filled = record {
  says = λ place below. elim (cases_lt place count) [
    | inl early ↦ filled-keep design order sound ordered count within valuation place early (filled.says place early)
    | inr late ↦
        let same : count ≡ place = omega arith in
        subst (λ (at : ℕ). bit (with_output design.tables valuation (get_or order count 0)) (table_at design.tables (get_or order at 0)).output
        ≡ output_in (with_output design.tables valuation (get_or order count 0)) (table_at design.tables (get_or order at 0))) same
        (filled-here design order sound ordered count within valuation size)
  ];
}

filled-to : (design : Design) (order : List ℕ) → IsSound design → IsOrder design.tables order → (count : ℕ) → count ≤ length order → (valuation : List Bool)
    → length valuation ≡ design.signals → FilledTo design.tables order count (with_outputs design.tables (take count order) valuation)
filled-to design order sound ordered zero within valuation size = record { says = λ place below. absurd (omega arith) }
filled-to design order sound ordered (suc count) within valuation size =
    let here : count < length order = omega arith in
    let step = fold_more (with_output design.tables) valuation order count 0 here in
    subst (FilledTo design.tables order (suc count)) (sym step ∙ ap (λ front. with_outputs design.tables front valuation) (ap (λ n. take n order) (add-one count)))
    (filled-more design order sound ordered count here (with_outputs design.tables (take count order) valuation)
    (length-with_outputs design.tables (take count order) valuation ∙ size) (filled-to design order sound ordered count (omega arith) valuation size))

-- setting the outputs of all tables in the order gives a valuation
pub is-valuation : (design : Design) (order : List ℕ) → IsSound design → IsOrder design.tables order → (valuation : List Bool) → length valuation ≡ design.signals
    → IsValuation design (with_outputs design.tables order valuation)
is-valuation design order sound ordered valuation size =
    let whole = take_all (length order) order (omega arith) in
    let filled = subst (λ (front : List ℕ). FilledTo design.tables order (length order) (with_outputs design.tables front valuation)) whole
    (filled-to design order sound ordered (length order) (omega arith) valuation size) in
    record {
      size = length-with_outputs design.tables order valuation ∙ size;
      tables = λ k other within.
          let found = occurs-from order k (ordered.each k within) in
          let says = filled.says found.place found.within in
          subst (λ (table : Table). bit (with_outputs design.tables order valuation) table.output ≡ output_in (with_outputs design.tables order valuation) table)
          (ap (table_at design.tables) found.is ∙ get_or_default design.tables k no_table other within) says;
    }

-- the free signals keep their values
pub free-kept : (design : Design) (order : List ℕ) → IsSound design → IsOrder design.tables order → (valuation : List Bool)
    → values (with_outputs design.tables order valuation) (free_of design) ≡ values valuation (free_of design)
free-kept design order sound ordered valuation =
    values-with_outputs design.tables order (free_of design) valuation
    (λ i place i_in p_in same. free-apart design sound (get_or order i 0) place (ordered.within i 0 i_in) p_in same)

-- the valuation that filling gives
abbrev pub filled : Design → List ℕ → List Bool → List Bool → List Bool
filled design order given valuation = with_outputs design.tables order (with_values (free_of design) given valuation)

-- the inputs are set, then the latches, then the outputs
pub filled-from : (design : Design) (order : List ℕ) (given valuation : List Bool) → length given ≡ length (free_of design)
    → with_outputs design.tables order (with_values (map (λ latch. latch.output) design.latches) (drop (length design.inputs) given) (with_values design.inputs (take (length design.inputs) given) valuation))
    ≡ filled design order given valuation
filled-from design order given valuation fits =
    let outputs = map (λ latch. latch.output) design.latches in
    let some : length design.inputs ≤ length given = omega (arith, length-append design.inputs outputs) in
    let steps = with_values-append design.inputs outputs (take (length design.inputs) given) (drop (length design.inputs) given) valuation (length-take-le (length design.inputs) given some) in
    ap (λ (filling : List Bool). with_outputs design.tables order filling)
    (sym steps ∙ ap (λ (whole : List Bool). with_values (free_of design) whole valuation) (take-append-drop (length design.inputs) given))

pub filled-valuation : (design : Design) (order : List ℕ) → IsSound design → IsOrder design.tables order → (given valuation : List Bool)
    → length valuation ≡ design.signals → IsValuation design (filled design order given valuation)
filled-valuation design order sound ordered given valuation size =
    is-valuation design order sound ordered (with_values (free_of design) given valuation) (length-with_values (free_of design) given valuation ∙ size)

pub filled-free : (design : Design) (order : List ℕ) → IsSound design → IsOrder design.tables order → (given valuation : List Bool)
    → length valuation ≡ design.signals → length given ≡ length (free_of design) → values (filled design order given valuation) (free_of design) ≡ given
filled-free design order sound ordered given valuation size fits =
    free-kept design order sound ordered (with_values (free_of design) given valuation)
    ∙ values-with_values (free_of design) given valuation fits (frees-apart design sound) (λ k d k_in. let h = free-within design sound k d k_in in omega arith)

-- one table more
pub with_outputs-more : (tables : List Table) (order : List ℕ) (place : ℕ) (first valuation : List Bool) (table : Table) (value : Bool) → place < length order
    → valuation ≡ with_outputs tables (take place order) first → get_or order place 0 < length tables → table ≡ get_or tables (get_or order place 0) table → value ≡ output_in valuation table
    → set valuation table.output value ≡ with_outputs tables (take (place + 1) order) first
with_outputs-more tables order place first valuation table value within before listed is says =
    let same : table ≡ table_at tables (get_or order place 0) = is ∙ get_or_default tables (get_or order place 0) table no_table listed in
    ap (set valuation table.output) says
    ∙ ap (λ (t : Table). set valuation t.output (output_in valuation t)) same
    ∙ ap (λ (v : List Bool). with_output tables v (get_or order place 0)) before
    ∙ sym (fold_more (with_output tables) first order place 0 within)
