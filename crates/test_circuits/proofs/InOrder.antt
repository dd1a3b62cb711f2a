-- Tables that are listed in an order in which they can be computed, as those of the tests are.
use Rattle.std.proofs.Common.{◌≡◌, ℕ, zero, suc, ◌+◌, ◌<◌, ◌≤◌, List, [], ◌∷◌, ◌++◌, length, map, take, get_or, refl, sym, ap, subst, ◌∙◌, arith, zero-add}
use Rattle.std.specs.Prelude.{All, Contains}
use Rattle.std.specs.List.{range_with_len}
use Rattle.std.proofs.lemmas.List.{length-map, length-take-le, get_or_default, get_or-map, get_or-take}
use Rattle.std.proofs.lemmas.List.FromFn.{length-range_with_len, get_or-range_with_len}
use Rattle.netlist.specs.declared.table.Table.{Table}
use Rattle.netlist.specs.Sound.{AreApart, IsOrder, no_table, table_at}
use Rattle.netlist.proofs.Driving.{occurs-from}

-- numbers in order
pub range-apart : (count : ℕ) → AreApart (range_with_len 0 count)
range-apart count i j i_in j_in same =
    let size = length-range_with_len 0 count in
    let left = get_or-range_with_len 0 count i 0 (omega arith) in
    let right = get_or-range_with_len 0 count j 0 (omega arith) in
    omega arith

pub range-each : (count number : ℕ) → number < count → Contains (range_with_len 0 count) number
range-each count number within =
    (number, rw (length-range_with_len 0 count) within, get_or-range_with_len 0 count number number within ∙ zero-add number)

pub range-below : (count : ℕ) → All (λ number. number < count) (range_with_len 0 count)
range-below count place other within =
    let size = length-range_with_len 0 count in
    let at = get_or-range_with_len 0 count place other (omega arith) in
    omega arith

-- tables whose outputs have the numbers from some on, and that read what has a lower number, are in order
pub in-order : (tables : List Table) (first : ℕ) → map (λ table. table.output) tables ≡ range_with_len first (length tables)
    → ((place : ℕ) → place < length tables → All (λ signal. signal < first + place) (table_at tables place).inputs)
    → IsOrder tables (range_with_len 0 (length tables))
in-order tables first outputs reads = record {
  within = range-below (length tables);
  each = range-each (length tables);
  once = range-apart (length tables);
  after = λ place table in_order listed contains.
      let size = length-range_with_len 0 (length tables) in
      let here : place < length tables = omega arith in
      let number : get_or (range_with_len 0 (length tables)) place 0 ≡ place = get_or-range_with_len 0 (length tables) place 0 here ∙ zero-add place in
      let output : (table_at tables table).output ≡ first + table =
      sym (get_or-map (λ t. t.output) tables table no_table 0 listed) ∙ ap (λ list. get_or list table 0) outputs ∙ get_or-range_with_len first (length tables) table 0 listed in
      let read = occurs-from (table_at tables (get_or (range_with_len 0 (length tables)) place 0)).inputs (table_at tables table).output contains in
      let bound : get_or (table_at tables (get_or (range_with_len 0 (length tables)) place 0)).inputs read.place 0 < first + place =
      subst (λ (n : ℕ). All (λ signal. signal < first + place) (table_at tables n).inputs) (sym number) (reads place here) read.place 0 read.within in
      let early : table < place = omega (arith, read.is) in
      let front = length-take-le place (range_with_len 0 (length tables)) (omega arith) in
      (table, omega arith, get_or-take place (range_with_len 0 (length tables)) table table early ∙ get_or-range_with_len 0 (length tables) table table listed ∙ zero-add table);
}
