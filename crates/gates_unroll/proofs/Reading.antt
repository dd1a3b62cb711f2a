-- The literals of the inputs of a table.
use Rattle.std.proofs.Common.{◌≡◌, ℕ, ◌+◌, ◌<◌, ℤ, neg_ℤ, Bool, true, false, cond, List, [], ◌∷◌, ◌++◌, get_or, length, map, take, Err, Ok, sym, ap, ◌∙◌, subst}
use Rattle.std.proofs.lemmas.List.{get_or_default, map-append, take_more}
use Rattle.std.specs.Bool.{IsTrue}
use Rattle.clauses.specs.declared.flat.CnfFault.{CnfFault}
use Rattle.clauses.specs.Literals.{is_literal, is_within}
use Rattle.netlist.specs.declared.table.Table.{Table}
use Rattle.gates_nodes.specs.Folding.{Built}
use Rattle.gates_nodes.specs.Nodes.{no, variables_of}
use Rattle.gates_nodes.specs.Tables.{some_row}
use Rattle.gates_builder.specs.Adding.{Adds, Making}
use Rattle.gates_builder.proofs.Growing.{adds-negated}
use Rattle.gates_frames.specs.Frames.{literal_at, signed}

-- the negation, where that is what a table says
pub adds-signed : (old new : Making) (built : Built) (value : Bool) (fits literal : ℤ) → literal ≡ cond value fits (neg_ℤ fits) → IsTrue (is_literal literal)
    → Adds old new built (Ok fits) → Adds old new (signed value built) (Ok literal)
adds-signed old new built true fits literal is names adds = record { making = adds.making; output = is ∙ adds.output; within = subst (λ l. IsTrue (is_within (variables_of new.given new.nodes) l)) (sym is) adds.within; literal = names; large = tt }
adds-signed old new built false fits literal is names adds = adds-negated old new built fits literal is names adds

adds-signed_err : (old new : Making) (built : Built) (value : Bool) (fault : CnfFault) → Adds old new built (Err fault) → Adds old new (signed value built) (Err fault)
adds-signed_err old new built true fault adds = adds
adds-signed_err old new built false fault adds = record { making = tt; output = tt; within = tt; literal = tt; large = adds.large }

-- the rows of a table over the literals that were read
pub some-read : (old new : Making) (table : Table) (read shown literals : List ℤ) (fits literal : ℤ) → shown ≡ read → read ≡ literals
    → literal ≡ cond table.value fits (neg_ℤ fits) → IsTrue (is_literal literal) → Adds old new (some_row old.given old.nodes table.rows shown) (Ok fits)
    → Adds old new (signed table.value (some_row old.given old.nodes table.rows literals)) (Ok literal)
some-read old new table read shown literals fits literal shown_is read_is is names adds =
    adds-signed old new (some_row old.given old.nodes table.rows literals) table.value fits literal is names
    (subst (λ ls. Adds old new (some_row old.given old.nodes table.rows ls) (Ok fits)) (shown_is ∙ read_is) adds)

pub some-fails : (old new : Making) (table : Table) (read shown literals : List ℤ) (fault : CnfFault) → shown ≡ read → read ≡ literals
    → Adds old new (some_row old.given old.nodes table.rows shown) (Err fault)
    → Adds old new (signed table.value (some_row old.given old.nodes table.rows literals)) (Err fault)
some-fails old new table read shown literals fault shown_is read_is adds =
    adds-signed_err old new (some_row old.given old.nodes table.rows literals) table.value fault
    (subst (λ ls. Adds old new (some_row old.given old.nodes table.rows ls) (Err fault)) (shown_is ∙ read_is) adds)

-- one more is read
pub read-more : (given : ℕ) (signals : List ℕ) (literals : List ℤ) (i : ℕ) (read : List ℤ) (d : ℤ) → i < length signals → get_or signals i 0 < length literals
    → read ≡ map (literal_at given literals) (take i signals) → read ++ get_or literals (get_or signals i 0) d ∷ [] ≡ map (literal_at given literals) (take (i + 1) signals)
read-more given signals literals i read d lt within is =
    ap (λ l. read ++ l ∷ []) (get_or_default literals (get_or signals i 0) d (no given) within)
    ∙ ap (λ ls. ls ++ literal_at given literals (get_or signals i 0) ∷ []) is
    ∙ sym (map-append (literal_at given literals) (take i signals) (get_or signals i 0 ∷ []))
    ∙ ap (map (literal_at given literals)) (sym (take_more signals i 0 lt))
