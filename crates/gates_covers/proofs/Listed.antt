-- The covers of tables are covers of them.
use Rattle.std.proofs.Common.{◌≡◌, ℕ, zero, suc, ◌<◌, Bool, true, false, cond, nat_le, List, [], ◌∷◌, length, refl, arith, inl, inr}
use Rattle.std.specs.Bool.{IsTrue}
use Rattle.std.proofs.lemmas.Bool.{cases_Bool}
use Rattle.netlist.specs.declared.rows.Mark.{Mark}
use Rattle.netlist.specs.declared.table.Table.{Table}
use Rattle.netlist.specs.Sound.{table_at}
use Rattle.gates_frames.specs.Frames.{AreCovers, IsCover}
use Rattle.gates_nodes.specs.Nodes.{IsExact, cover_at, no_cover}
use Rattle.gates_covers.specs.Greedy.{cover_of, covers_of, opposite, sides}
use Rattle.gates_covers.specs.Points.{AreOpposite}
use Rattle.gates_covers.proofs.Exact.{are-opposite, opposite-back}

no-exact : IsExact no_cover
no-exact = record { one_side = λ a b c d. refl }

exact-sides : (value : Bool) (rows others : List (List Mark)) → AreOpposite rows others → IsExact (sides value rows others)
exact-sides true rows others are = record { one_side = are.one_side }
exact-sides false rows others are = record { one_side = (opposite-back rows others are).one_side }

side-is : (value : Bool) (rows others : List (List Mark)) → cond value (sides value rows others).on (sides value rows others).off ≡ rows
side-is true rows others = refl
side-is false rows others = refl

sides-exact : (table : Table) → IsExact (sides table.value table.rows (opposite table.rows))
sides-exact table = exact-sides table.value table.rows (opposite table.rows) (are-opposite table.rows)

cover-exact : (table : Table) → IsExact (cover_of table)
cover-exact table = elim (cases_Bool (nat_le (length table.inputs) 4)) [
  | inl few ↦ rw few (sides-exact table)
  | inr many ↦ rw many no-exact
]

cover-is : (table : Table) → IsTrue (nat_le (length table.inputs) 4) → IsCover table (cover_of table)
cover-is table few = rw few (record { exact = sides-exact table; rows = side-is table.value table.rows (opposite table.rows) })

each-exact : (tables : List Table) (number : ℕ) → IsExact (cover_at (covers_of tables) number)
each-exact [] number = no-exact
each-exact (table ∷ tables) zero = cover-exact table
each-exact (table ∷ tables) (suc number) = each-exact tables number

each-is : (tables : List Table) (number : ℕ) → number < length tables → IsTrue (nat_le (length (table_at tables number).inputs) 4) → IsCover (table_at tables number) (cover_at (covers_of tables) number)
each-is [] number below few = absurd (omega arith)
each-is (table ∷ tables) zero below few = cover-is table few
each-is (table ∷ tables) (suc number) below few = each-is tables number (omega arith) few

pub covers-are : (tables : List Table) → AreCovers tables (covers_of tables)
covers-are tables = record { each = each-exact tables; are = each-is tables }
