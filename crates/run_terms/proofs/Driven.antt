-- How many tables and latches a netlist has at most.
use Rattle.std.proofs.Common.{◌≡◌, ℕ, ◌+◌, ◌<◌, ◌≤◌, eqb, map, length, get_or, sym, ap, ◌∙◌, arith}
use Rattle.std.proofs.lemmas.Bool.{eqb-true, ne_eqb}
use Rattle.std.proofs.lemmas.List.{get_or_default, length-append, length-map}
use Rattle.std.proofs.lemmas.List.Folds.{Any-from_list_any}
use Rattle.std.proofs.lemmas.Map.Keys.{IsDistinct-from_apart}
use Rattle.std.proofs.lemmas.Map.Steps.{length-le_from_distinct_below}
use Rattle.netlist.specs.Design.{Design, driven_signals, free_of}
use Rattle.netlist.specs.Sound.{IsSound}

pub driven-few : (design : Design) → IsSound design → length design.inputs + length design.latches + length design.tables ≤ design.signals
driven-few design sound =
    let xs = driven_signals design.inputs design.latches design.tables in
    let at = λ (i : ℕ) (d : ℕ) (within : i < length xs). get_or_default xs i d 0 within in
    let apart = IsDistinct-from_apart eqb xs (λ i j d order within.
    ne_eqb (get_or xs i d) (get_or xs j d) (λ equal.
    let same_place : i ≡ j = sound.once i j (omega arith) within (sym (at i d (omega arith)) ∙ equal ∙ at j d within) in
    omega arith)) in
    let below = length-le_from_distinct_below xs design.signals apart (λ signal among.
    let found = Any-from_list_any (eqb signal) xs among in
    let here : signal ≡ get_or xs found.0 found.1 = eqb-true signal (get_or xs found.0 found.1) (ap (eqb signal) found.3 ∙ found.4) in
    let low = sound.driven found.0 found.1 found.2 in
    omega arith) in
    omega (
      arith,
      below,
      length-append (free_of design) (map (λ table. table.output) design.tables),
      length-append design.inputs (map (λ latch. latch.output) design.latches),
      length-map design.latches (λ latch. latch.output),
      length-map design.tables (λ table. table.output),
    )
