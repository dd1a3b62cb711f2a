-- Within which limits certificates are checked.
use Rattle.std.specs.Prelude.{◌≡◌, ◌⊎◌, ◌<◌, ℕ, ℤ, List, [], Some, true, false}
use Rattle.alternating_theory.specs.Obligations.{Automaton}
use Rattle.cert_theory.specs.declared.header.Header.{Header}
use Rattle.cert_theory.specs.Headers.{HasHeader}
use Rattle.cert_theory.specs.Phases.{behind_header}
use Rattle.cert_theory.specs.Phases.Phase.{InClauses}
use Rattle.cert_theory.specs.Texts.{HasClauses}
use Rattle.cert_theory.specs.declared.header.Asked.{Asked}
use Rattle.cert_theory.specs.declared.header.Form.{Form}
use Rattle.cert_theory.specs.declared.header.Form.TheVariants.{Windowed, Clausal}
use Rattle.cert_lines.specs.Readings.{IsAt}
use Rattle.cert_lines.specs.declared.reading.Reading.{Reading}
use Rattle.clauses.specs.declared.flat.TheConstants.{MOST_VARIABLES}
use Rattle.gates_theory.specs.Sizes.{IsTooLarge}
use Rattle.joint_theory.specs.Queries.{joint_size, query, query_variables}
use Rattle.netlist.specs.Design.{Design}
use Rattle.owed.specs.Owed.{plain_owed}
use Rattle.owed.specs.Violations.{violation_of}
use Rattle.psl_tree.specs.declared.directive.Directive.{Directive}
use Rattle.owed.specs.Sized.{IsRefused, IsSized}
use Rattle.psl_tree.specs.declared.limit.Limit.{Limit}
use Rattle.psl_tree.specs.declared.limit.Limit.TheVariants as limits
use Rattle.cert_check.specs.Claims.{asked_of, bad_query, directive_of, initial_query, queries_for, queries_of, step_query}
use Rattle.psl_tree.specs.declared.limit.LimitFault.{LimitFault}
use Rattle.psl_tree.specs.declared.limit.LimitFault.TheVariants.{TooLarge, NoMemory}

-- one of both formulas of a window is too large
abbrev pub AreTooLarge : Design → Automaton → ℕ → ℕ → Type 0
AreTooLarge design automaton visits window =
    IsTooLarge (query_variables design automaton visits window true) (query design automaton visits window true)
    ⊎ IsTooLarge (query_variables design automaton visits window false) (query design automaton visits window false)

-- the circuit of the joint states is too large, or one of the three formulas of clauses
abbrev pub IsCircuitLarge : Design → Automaton → ℕ → Type 0
IsCircuitLarge design automaton visits = MOST_VARIABLES < joint_size design automaton visits

abbrev pub IsInitialLarge : Design → Automaton → ℕ → List (List ℤ) → Type 0
IsInitialLarge design automaton visits clauses =
    IsTooLarge (initial_query design automaton visits clauses).variables (initial_query design automaton visits clauses).clauses

abbrev pub IsStepLarge : Design → Automaton → ℕ → List (List ℤ) → Type 0
IsStepLarge design automaton visits clauses =
    IsTooLarge (step_query design automaton visits clauses).variables (step_query design automaton visits clauses).clauses

abbrev pub IsBadLarge : Design → Automaton → ℕ → List (List ℤ) → Type 0
IsBadLarge design automaton visits clauses =
    IsTooLarge (bad_query design automaton visits clauses).variables (bad_query design automaton visits clauses).clauses

abbrev pub AreClausesTooLarge : Design → Automaton → ℕ → List (List ℤ) → Type 0
AreClausesTooLarge design automaton visits clauses =
    IsCircuitLarge design automaton visits
    ⊎ (IsInitialLarge design automaton visits clauses
    ⊎ (IsStepLarge design automaton visits clauses ⊎ IsBadLarge design automaton visits clauses))

-- what a certificate needs is too large: for its window, or for the clauses that stand behind its header
abbrev pub IsLargeIn : Form → Design → Automaton → Header → (List (List ℤ) → Type 0) → Type 0
IsLargeIn (Windowed version) design automaton header behind = AreTooLarge design automaton header.visits header.window
IsLargeIn Clausal design automaton header behind =
    (clauses : List (List ℤ)) × behind clauses × AreClausesTooLarge design automaton header.visits clauses

abbrev pub IsLarge : Design → Automaton → Header → (List (List ℤ) → Type 0) → Type 0
IsLarge design automaton header behind = IsLargeIn header.form design automaton header behind

-- What is owed is small enough for the window, which is 1 where the certificate has clauses, and so are the formulas.
-- Which clauses stand behind the header is told apart.
pub record FitsLimits (design : Design) (unit : List Directive) (directive : Directive) (header : Header)
    (behind : List (List ℤ) → Type 0) : Type 0 where
  pub sized : IsSized design header.window (plain_owed unit directive)
  pub formulas : IsLarge design (violation_of unit directive) header behind → ⊥

-- the first limit that is passed
abbrev pub IsLimitBehind : Design → List Directive → Directive → Header → (List (List ℤ) → Type 0) → Limit → Type 0
IsLimitBehind design unit directive header behind limits.Sere =
    IsRefused design header.window (plain_owed unit directive) limits.Sere
IsLimitBehind design unit directive header behind limits.Automaton =
    IsRefused design header.window (plain_owed unit directive) limits.Automaton
IsLimitBehind design unit directive header behind limits.Unroll =
    IsRefused design header.window (plain_owed unit directive) limits.Unroll
IsLimitBehind design unit directive header behind limits.Formula =
    IsSized design header.window (plain_owed unit directive) × IsLarge design (violation_of unit directive) header behind

-- such a limit, or want of memory
abbrev pub IsFaultBehind : Design → List Directive → Directive → Header → (List (List ℤ) → Type 0) → LimitFault → Type 0
IsFaultBehind design unit directive header behind (TooLarge limit) = IsLimitBehind design unit directive header behind limit
IsFaultBehind design unit directive header behind NoMemory = Unit {0}

-- the clauses behind a header of a text, for the directive of a number
abbrev pub ClausesIn : Design → List Directive → ℕ → List ℕ → Header → List (List ℤ) → Type 0
ClausesIn design unit number text header clauses =
    HasClauses (asked_of unit number) (queries_of design unit number) text header clauses

-- the text has a header of a certificate of the directive, and this limit is passed
pub record PassesLimit (design : Design) (unit : List Directive) (number : ℕ) (text : List ℕ) (limit : Limit) : Type 0 where
  pub header : Header
  pub directive : Directive
  pub has : HasHeader (asked_of unit number) text header
  pub is : directive_of unit number ≡ Some directive
  pub limit_is : IsLimitBehind design unit directive header (ClausesIn design unit number text header) limit

-- want of memory has no cause
abbrev pub IsFault : Design → List Directive → ℕ → List ℕ → LimitFault → Type 0
IsFault design unit number text (TooLarge limit) = PassesLimit design unit number text limit
IsFault design unit number text NoMemory = Unit {0}

-- the clauses that a text has behind a header, where it was read as far as that header
abbrev pub ClausesFrom : Design → Automaton → Header → Reading → List (List ℤ) → Type 0
ClausesFrom design automaton header reading clauses =
    (asked : Asked) (text : List ℕ) → IsAt asked (queries_for design automaton) text (InClauses header []) reading
    → HasClauses asked (queries_for design automaton) text header clauses

-- they are too large, or whatever clauses the text has are not
abbrev pub ManyClauses : Design → Automaton → Header → Reading → Type 0
ManyClauses design automaton header reading =
    (clauses : List (List ℤ)) × ClausesFrom design automaton header reading clauses
    × AreClausesTooLarge design automaton header.visits clauses

abbrev pub FewClauses : Design → Automaton → Header → Reading → Type 0
FewClauses design automaton header reading =
    (asked : Asked) (text : List ℕ) (clauses : List (List ℤ))
    → IsAt asked (queries_for design automaton) text (InClauses header []) reading
    → HasClauses asked (queries_for design automaton) text header clauses
    → AreClausesTooLarge design automaton header.visits clauses → ⊥

-- what is built behind a header is too large, or not, by the header's form
abbrev pub IsLargeFrom : Form → Design → Automaton → Header → Reading → Type 0
IsLargeFrom (Windowed version) design automaton header reading = AreTooLarge design automaton header.visits header.window
IsLargeFrom Clausal design automaton header reading = ManyClauses design automaton header reading

abbrev pub IsSmallFrom : Form → Design → Automaton → Header → Reading → Type 0
IsSmallFrom (Windowed version) design automaton header reading = AreTooLarge design automaton header.visits header.window → ⊥
IsSmallFrom Clausal design automaton header reading = FewClauses design automaton header reading

-- what a header needs is within the limits, or the first limit is passed, whatever text it is that was read so far
abbrev pub FitsFrom : Design → List Directive → Directive → Header → Reading → Type 0
FitsFrom design unit directive header reading =
    (asked : Asked) (text : List ℕ)
    → IsAt asked (queries_for design (violation_of unit directive)) text (behind_header header) reading
    → FitsLimits design unit directive header (HasClauses asked (queries_for design (violation_of unit directive)) text header)

abbrev pub IsFaultFrom : Design → List Directive → Directive → Header → Reading → LimitFault → Type 0
IsFaultFrom design unit directive header reading fault =
    (asked : Asked) (text : List ℕ)
    → IsAt asked (queries_for design (violation_of unit directive)) text (behind_header header) reading
    → IsFaultBehind design unit directive header (HasClauses asked (queries_for design (violation_of unit directive)) text header) fault

-- a formula is too large, or memory was refused
abbrev pub IsFormulaFault : Type 0 → LimitFault → Type 0
IsFormulaFault large (TooLarge limits.Sere) = ⊥
IsFormulaFault large (TooLarge limits.Automaton) = ⊥
IsFormulaFault large (TooLarge limits.Unroll) = ⊥
IsFormulaFault large (TooLarge limits.Formula) = large
IsFormulaFault large NoMemory = Unit {0}
