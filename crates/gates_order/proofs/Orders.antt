-- The order by depths is one in which the tables can be computed.
use Rattle.std.proofs.Common.{◌≡◌, ℕ, suc, ◌<◌, List, length, get_or, take, Contains, sym, ap, ◌∙◌, subst, ⊎_elim, arith}
use Rattle.std.proofs.lemmas.Bool.{cases_lt}
use Rattle.std.proofs.lemmas.List.{get_or_default, get_or-take, length-take-le}
use Rattle.std.proofs.lemmas.List.Elements.{All-weaker}
use Rattle.netlist.specs.declared.table.Table.{Table}
use Rattle.netlist.specs.Design.{Design}
use Rattle.netlist.specs.Sound.{IsOrder, IsSound, table_at}
use Rattle.gates_order.specs.Depths.{depth_of, order_of}
use Rattle.gates_order.proofs.Depths.{deeper, depth-within}
use Rattle.gates_order.proofs.Rising.{Before, IsFrom, levels-are, levels-have, rise-at}
use Rattle.gates_order.proofs.Places.{drives-to}

module _ (design : Design) (sound : IsSound design) (some : List ℕ) (ordered : IsOrder design.tables some) where
  tables : List Table
  tables = design.tables

  placed : (i j : ℕ) → i < j → j < length (order_of design.tables) → Before (depth_of design.tables) (get_or (order_of design.tables) i 0) (get_or (order_of design.tables) j 0)
  placed i j below lt = rise-at (depth_of design.tables) (order_of design.tables) i j (levels-are (depth_of design.tables) (length design.tables) 0 (suc (length design.tables))).0 below lt

  each : (table : ℕ) → table < length design.tables → Contains (order_of design.tables) table
  each table lt =
      levels-have (depth_of design.tables) (length design.tables) 0 (suc (length design.tables)) table lt (omega arith)
      (omega (arith, depth-within (length design.tables) design.tables table))

  reads-deeper : (reader table : ℕ) → reader < length design.tables → table < length design.tables → Contains (table_at design.tables reader).inputs (table_at design.tables table).output
      → depth_of design.tables table < depth_of design.tables reader
  reads-deeper reader table reader_in table_in reads =
      let at = ordered.each reader reader_in in
      let is : get_or some at.0 0 ≡ reader = get_or_default some at.0 0 reader at.1 ∙ at.2 in
      subst (λ r. depth_of design.tables table < depth_of design.tables r) is
      (deeper design.tables some ordered at.0 (table_at design.tables table).output table at.1
      (subst (λ r. Contains (table_at design.tables r).inputs (table_at design.tables table).output) (sym is) reads) (drives-to design sound table table_in))

  pub is-order : IsOrder design.tables (order_of design.tables)
  is-order = record {
    within = All-weaker (IsFrom (depth_of design.tables) 0 (length design.tables)) (λ table. table < length design.tables) (λ n is. is.1) (order_of design.tables) (levels-are (depth_of design.tables) (length design.tables) 0 (suc (length design.tables))).1;
    each = each;
    once = λ i j i_in j_in same.
        ⊎_elim (λ below. absurd (apart i j below j_in same))
        (λ not_below. ⊎_elim (λ above. absurd (apart j i above i_in (sym same))) (λ not_above. omega arith) (cases_lt j i))
        (cases_lt i j);
    after = after;
  }
    where
      apart : (i j : ℕ) → i < j → j < length (order_of design.tables) → get_or (order_of design.tables) i 0 ≡ get_or (order_of design.tables) j 0 → ⊥
      apart i j below lt same =
          let deep = ap (depth_of design.tables) same in
          ⊎_elim (λ less. omega (arith, less, deep)) (λ equal. omega (arith, equal.1, same)) (placed i j below lt)

      after : (place table : ℕ) → place < length (order_of design.tables) → table < length design.tables
          → Contains (table_at design.tables (get_or (order_of design.tables) place 0)).inputs (table_at design.tables table).output → Contains (take place (order_of design.tables)) table
      after place table place_in table_in reads =
          let order = order_of design.tables in
          let within = (levels-are (depth_of design.tables) (length design.tables) 0 (suc (length design.tables))).1 place 0 place_in in
          let less = reads-deeper (get_or order place 0) table within.1 table_in reads in
          let at = each table table_in in
          let is : get_or order at.0 0 ≡ table = get_or_default order at.0 0 table at.1 ∙ at.2 in
          let deep = ap (depth_of design.tables) is in
          let size : length (take place order) ≡ place = length-take-le place order (omega arith) in
          let earlier : at.0 < place =
          ⊎_elim (λ lt. lt)
          (λ past. ⊎_elim
          (λ later. absurd (⊎_elim (λ l. omega (arith, l, deep, less)) (λ e. omega (arith, e.0, deep, less)) (placed place at.0 later at.1)))
          (λ same. (let e : at.0 ≡ place = omega arith in let f = ap (λ p. depth_of design.tables (get_or order p 0)) e in absurd (omega (arith, f, deep, less))))
          (cases_lt place at.0))
          (cases_lt at.0 place) in
          (at.0, omega arith, get_or-take place order at.0 table earlier ∙ get_or_default order at.0 table 0 at.1 ∙ is)
