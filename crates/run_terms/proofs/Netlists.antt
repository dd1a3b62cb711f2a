-- What terms say of the tables and latches of a netlist.
use Rattle.std.proofs.Common.{◌≡◌, ℕ, ◌+◌, ◌*◌, ◌≤◌, ◌↔◌, Bool, List, length, Option, Some, None, refl, sym, ◌∙◌, subst, arith}
use Rattle.std.specs.Prelude.{All}
use Rattle.std.specs.Bool.{IsTrue}
use Rattle.std.specs.List.{list_all}
use Rattle.clauses.specs.Models.{Assignment, is_true}
use Rattle.clauses.specs.Literals.{clause_within}
use Rattle.gates_theory.specs.Terms.{value, term_within}
use Rattle.netlist.specs.Design.{Design, marks_of}
use Rattle.netlist.specs.Sound.{IsSound}
use Rattle.netlist.specs.Valuations.{Agree, Begin, Move}
use Rattle.netlist.proofs.Driving.{latches-within, outputs-within}
use Rattle.run_terms.specs.Moves.{move_terms, first_literals}
use Rattle.run_terms.specs.Positions.{had, earlier, current, position_width, HasSizes, IsPosition}
use Rattle.run_terms.specs.Sizes.{terms_size}
use Rattle.run_terms.specs.Tables.{valuation_terms, before_terms}
use Rattle.run_terms.proofs.MoveSizes.{first-within, moves-within}
use Rattle.run_terms.proofs.MoveValues.{LatchOver, moves-follow, follow-moves, first-begins, begins-first}
use Rattle.run_terms.proofs.Positions.{had-within, earlier-within, current-within}
use Rattle.run_terms.proofs.TableSizes.{tables-within, guarded-within, tables-size, guarded-size}
use Rattle.run_terms.proofs.TableValues.{IsOver, IsPlaced, tables-agree, agree-tables, guarded-agree, unguarded-agree}

pub tables-over : (design : Design) → IsSound design → All (IsOver design.signals) design.tables
tables-over design sound place other within = (outputs-within design sound place other within, sound.table_inputs place other within)

pub latches-over : (design : Design) → IsSound design → All (LatchOver design.signals) design.latches
latches-over design sound place other within = (sound.latch_inputs place other within, latches-within design sound place other within)

current-placed : (signals base variables : ℕ) → base + position_width signals ≤ variables → IsPlaced signals variables (current signals base)
current-placed signals base variables fits = record { within = λ signal below. current-within signals base variables signal fits below }

earlier-placed : (signals base variables : ℕ) → base + position_width signals ≤ variables → IsPlaced signals variables (earlier base)
earlier-placed signals base variables fits = record { within = λ signal below. earlier-within signals base variables signal fits below }

-- the tables' terms are true just where the tables agree with the valuation
pub valuation-says : (design : Design) (base : ℕ) (values : Assignment) (before : Option (List Bool)) (valuation : List Bool) → IsSound design
    → IsPosition design.signals base values before valuation → IsTrue (list_all (value values) (valuation_terms design.signals base design.tables)) ↔ Agree design.tables valuation
valuation-says design base values before valuation sound is =
    let n = base + position_width design.signals in
    let placed = current-placed design.signals base n (omega arith) in (
      tables-agree design.signals n values (current design.signals base) valuation design.tables placed is.bits (tables-over design sound),
      agree-tables design.signals n values (current design.signals base) valuation design.tables placed is.bits (tables-over design sound),
    )

-- those over the valuation before are true just where they agree with it, if there is one
pub before-says : (design : Design) (base : ℕ) (values : Assignment) (before : Option (List Bool)) (valuation : List Bool) → IsSound design
    → IsPosition design.signals base values before valuation
    → IsTrue (list_all (value values) (before_terms base design.tables)) ↔ ((previous : List Bool) → before ≡ Some previous → Agree design.tables previous)
before-says design base values None valuation sound is =
    ((λ holds previous some. absurd (cc)), (λ agree. unguarded-agree values (had base) (earlier base) design.tables is.preceded))
before-says design base values (Some before) valuation sound is =
    let n = base + position_width design.signals in
    let placed = earlier-placed design.signals base n (omega arith) in
    let over = tables-over design sound in
    let shows = is.bits_before before refl in
    let same_all = guarded-agree design.signals n values (had base) (earlier base) design.tables is.preceded in (
      λ holds previous some.
          let one : before ≡ previous = cc in
          subst (λ (v : List Bool). Agree design.tables v) one
          (tables-agree design.signals n values (earlier base) before design.tables placed shows over (sym same_all ∙ holds)),
      λ agree. same_all ∙ agree-tables design.signals n values (earlier base) before design.tables placed shows over (agree before refl),
    )

-- the next position follows this one just where the terms of moves are true
pub moves-say : (design : Design) (base next : ℕ) (values : Assignment) (before after : Option (List Bool)) (valuation later : List Bool) → IsSound design
    → IsPosition design.signals base values before valuation → IsPosition design.signals next values after later → HasSizes design.signals before valuation → HasSizes design.signals after later
    → IsTrue (list_all (value values) (move_terms design.signals base next design.latches)) ↔ ((after ≡ Some valuation) × Move design.latches valuation later)
moves-say design base next values before after valuation later sound here there sized also = (
  moves-follow design.signals base next values before after valuation later design.latches here there sized.size also (latches-over design sound),
  λ follows.
      let there_some : IsPosition design.signals next values (Some valuation) later = subst (λ (o : Option (List Bool)). IsPosition design.signals next values o later) follows.0 there in
      follow-moves design.signals base next values before valuation later design.latches here there_some (latches-over design sound) follows.1,
)

-- the literals of the first position are true just where it is one
pub first-says : (design : Design) (base : ℕ) (values : Assignment) (before : Option (List Bool)) (valuation : List Bool) → IsSound design
    → IsPosition design.signals base values before valuation
    → IsTrue (list_all (is_true values) (first_literals design.signals base design.latches)) ↔ ((before ≡ None) × Begin design.latches valuation)
first-says design base values before valuation sound is = (
  first-begins design.signals base values before valuation design.latches is (latches-over design sound),
  λ begins.
      let none : IsPosition design.signals base values None valuation = subst (λ (o : Option (List Bool)). IsPosition design.signals base values o valuation) begins.0 is in
      begins-first design.signals base values valuation design.latches none (latches-over design sound) begins.1,
)

-- all literals are of the position's variables
pub valuation-terms_within : (design : Design) (base variables : ℕ) → IsSound design → base + position_width design.signals ≤ variables
    → IsTrue (list_all (term_within variables) (valuation_terms design.signals base design.tables))
valuation-terms_within design base variables sound fits =
    tables-within design.signals variables (current design.signals base) design.tables (omega arith) (current-placed design.signals base variables fits) (tables-over design sound)

pub before-terms_within : (design : Design) (base variables : ℕ) → IsSound design → base + position_width design.signals ≤ variables
    → IsTrue (list_all (term_within variables) (before_terms base design.tables))
before-terms_within design base variables sound fits =
    guarded-within design.signals variables (had base) (earlier base) design.tables (omega arith) (had-within design.signals base variables fits)
    (earlier-placed design.signals base variables fits) (tables-over design sound)

pub move-terms_within : (design : Design) (base next variables : ℕ) → IsSound design → base + position_width design.signals ≤ variables → next + position_width design.signals ≤ variables
    → IsTrue (list_all (term_within variables) (move_terms design.signals base next design.latches))
move-terms_within design base next variables sound fits also = moves-within design.signals base next variables design.latches fits also (latches-over design sound)

pub first-literals_within : (design : Design) (base variables : ℕ) → IsSound design → base + position_width design.signals ≤ variables
    → IsTrue (clause_within variables (first_literals design.signals base design.latches))
first-literals_within design base variables sound fits = first-within design.signals base variables design.latches fits (latches-over design sound)

-- how many gates they take at most
pub valuation-terms_size : (design : Design) (base : ℕ) → IsSound design
    → terms_size (valuation_terms design.signals base design.tables) ≤ 2 * marks_of design.tables + 4 * length design.tables
valuation-terms_size design base sound = tables-size (current design.signals base) design.tables sound.marks

pub before-terms_size : (design : Design) (base : ℕ) → IsSound design → terms_size (before_terms base design.tables) ≤ 2 * marks_of design.tables + 5 * length design.tables
before-terms_size design base sound =
    omega (arith, tables-size (earlier base) design.tables sound.marks, guarded-size (had base) (earlier base) design.tables)
