-- What holds of a pair of neighbours holds over each slice, so a formula over a slice misses no such pair.
use Rattle.std.proofs.Common.{refl, ℕ, ◌+◌, ◌≤◌, ℤ, Bool as Truth, true, false, cond, List, [], ◌∷◌, ◌++◌, map, arith}
use Rattle.std.specs.Prelude.{IsTrue, filter}
use Rattle.std.specs.List.{list_all, range_with_len}
use Rattle.std.proofs.lemmas.Bool.{and_from, and_parts}
use Rattle.alternating_theory.specs.Obligations.{Automaton}
use Rattle.clauses.specs.Literals.{clause_within, clauses_within}
use Rattle.clauses.specs.Models.{Assignment, IsModel}
use Rattle.gates_theory.specs.Circuits.{AreSame}
use Rattle.gates_theory.specs.Relations.{variables_of, IsClosed}
use Rattle.gates_theory.specs.Terms.{term_within, value, Term}
use Rattle.gates_theory.specs.Terms.Term.{Literal}
use Rattle.joint_selectors.specs.Missed.{values_from}
use Rattle.netlist.specs.Design.{Design}
use Rattle.netlist.specs.Sound as netlists
use Rattle.run_terms.specs.Automata as automata
use Rattle.run_terms.specs.Automata.{TestsSignals}
use Rattle.run_terms.specs.Formulas.{whole}
use Rattle.run_terms.specs.Moves.{latch_term, shift_terms}
use Rattle.run_terms.specs.Positions.{current, earlier, had}
use Rattle.run_terms.specs.Tables.{before_terms, guarded, table_term, valuation_terms}
use Rattle.run_terms.proofs.FormulaSizes.{gates-length}
use Rattle.joint_theory.specs.Bits.{joint_width, numbers_of}
use Rattle.joint_theory.specs.Reaching.{two_states, EntersBy}
use Rattle.joint_theory.specs.Relation.{breakpoint_terms, earlier_terms, met_terms, owed_term, pending_term, put_off_term, state_terms, step_terms, support_terms, unary_terms}
use Rattle.joint_theory.specs.Sets.{bits_of}
use Rattle.joint_theory.specs.Sliced.{asked_terms, earlier_term, kept_latches, kept_signals, kept_tables, own_terms, shift_term, sliced_first, sliced_moves, sliced_next, sliced_pair, sliced_relative, sliced_step, sliced_variables, MissesNone}
use Rattle.joint_theory.specs.declared.path.JointState.{JointState}
use Rattle.joint_theory.proofs.Clauses.{first-length, first-model}
use Rattle.joint_theory.proofs.Pairs.{says-alone, two-closed, written, written-bits, written-related}
use Rattle.joint_theory.proofs.Parts.{append-from, append-parts, one-from}
use Rattle.joint_theory.proofs.ReachModels.{relative-met}
use Rattle.joint_theory.proofs.ReachWithin.{alone-within, relative-behind}

-- what holds of all holds of those that are kept
kept-all : {A B : Type 0} (test : B → Truth) (f : A → B) (keep : A → Truth) (xs : List A) → IsTrue (list_all test (map f xs)) → IsTrue (list_all test (map f (filter keep xs)))
kept-all test f keep [] h = refl
kept-all test f keep (x ∷ xs) h =
    let parts = and_parts (test (f x)) (list_all test (map f xs)) h in
    by (keep x) parts.0 (kept-all test f keep xs parts.1)
  where
    by : (b : Truth) → IsTrue (test (f x)) → IsTrue (list_all test (map f (filter keep xs))) → IsTrue (list_all test (map f (cond b (x ∷ filter keep xs) (filter keep xs))))
    by true first rest = and_from (test (f x)) (list_all test (map f (filter keep xs))) first rest
    by false first rest = rest

module _ (design : Design) (automaton : Automaton) (visits : ℕ) (now before : ℕ → Truth) (test : Term → Truth) where
  abbrev width : ℕ
  width = joint_width design automaton visits

  abbrev pending_list : ℕ → List Term
  pending_list base = map (pending_term design automaton base) (numbers_of automaton)

  -- the parts of a state's terms, one behind another
  record StateKept (base : ℕ) : Type 0 where
    tables : IsTrue (list_all test (valuation_terms design.signals base (kept_tables design now)))
    tables_before : IsTrue (list_all test (before_terms base (kept_tables design before)))
    earlier : IsTrue (list_all test (map (earlier_term base) (kept_signals design before)))
    own : IsTrue (list_all test (own_terms design automaton visits base))

  state-kept : (base : ℕ) → IsTrue (list_all test (state_terms design automaton visits base)) → StateKept base
  state-kept base h =
      let tables_list = valuation_terms design.signals base design.tables in
      let before_list = before_terms base design.tables in
      let earlier_list = earlier_terms design base in
      let a = append-parts test (tables_list ++ before_list ++ earlier_list ++ pending_list base) (unary_terms design automaton visits base) h in
      let b = append-parts test (tables_list ++ before_list ++ earlier_list) (pending_list base) a.0 in
      let c = append-parts test (tables_list ++ before_list) earlier_list b.0 in
      let d = append-parts test tables_list before_list c.0 in
      record {
        tables = kept-all test (table_term (current design.signals base)) (λ table. now table.output) design.tables d.0;
        tables_before = kept-all test (λ table. guarded (had base) (table_term (earlier base) table)) (λ table. before table.output) design.tables d.1;
        earlier = kept-all test (earlier_term base) before (range_with_len 0 design.signals) c.1;
        own = append-from test (pending_list base) (unary_terms design automaton visits base) b.1 a.1;
      }

  first-kept : IsTrue (list_all test (state_terms design automaton visits 0)) → IsTrue (list_all test (sliced_first design automaton visits now before))
  first-kept h =
      let kept = state-kept 0 h in
      let tables_list = valuation_terms design.signals 0 (kept_tables design now) in
      let before_list = before_terms 0 (kept_tables design before) in
      let earlier_list = map (earlier_term 0) (kept_signals design before) in
      append-from test (tables_list ++ before_list ++ earlier_list) (own_terms design automaton visits 0)
      (append-from test (tables_list ++ before_list) earlier_list (append-from test tables_list before_list kept.tables kept.tables_before) kept.earlier) kept.own

  next-kept : IsTrue (list_all test (state_terms design automaton visits width)) → IsTrue (list_all test (sliced_next design automaton visits width now before))
  next-kept h =
      let kept = state-kept width h in
      let tables_list = valuation_terms design.signals width (kept_tables design now) in
      let earlier_list = map (earlier_term width) (kept_signals design before) in
      append-from test (tables_list ++ earlier_list) (own_terms design automaton visits width)
      (append-from test tables_list earlier_list kept.tables kept.earlier) kept.own

  step-kept : IsTrue (list_all test (step_terms design automaton visits width)) → IsTrue (list_all test (sliced_step design automaton visits width now before))
  step-kept h =
      let had_list = Literal (had width) ∷ [] in
      let shift_list = shift_terms design.signals 0 width in
      let latch_list = map (latch_term design.signals 0 width) design.latches in
      let owed_list = map (owed_term design automaton width) (numbers_of automaton) in
      let put_off_list = map (put_off_term design automaton width) (numbers_of automaton) in
      let moves_list = Literal (had width) ∷ shift_list ++ latch_list in
      let breakpoint_list = breakpoint_terms design automaton visits width in
      let a = append-parts test (met_terms design automaton width ++ breakpoint_list) (support_terms design automaton width) h in
      let b = append-parts test (met_terms design automaton width) breakpoint_list a.0 in
      let c = append-parts test (moves_list ++ owed_list) put_off_list b.0 in
      let d = append-parts test moves_list owed_list c.0 in
      let first = and_parts (test (Literal (had width))) (list_all test (shift_list ++ latch_list)) d.0 in
      let e = append-parts test shift_list latch_list first.1 in
      let kept_shift = map (shift_term design width) (kept_signals design before) in
      let kept_latch = map (latch_term design.signals 0 width) (kept_latches design now) in
      append-from test (sliced_moves design width now before ++ asked_terms design automaton width ++ breakpoint_list) (support_terms design automaton width)
      (append-from test (sliced_moves design width now before ++ asked_terms design automaton width) breakpoint_list
      (append-from test (sliced_moves design width now before) (asked_terms design automaton width)
      (append-from test (had_list ++ kept_shift) kept_latch
      (append-from test had_list kept_shift (one-from test (Literal (had width)) first.0)
      (kept-all test (shift_term design width) before (range_with_len 0 design.signals) e.0))
      (kept-all test (latch_term design.signals 0 width) (λ latch. now latch.output) design.latches e.1))
      (append-from test owed_list put_off_list d.1 c.1)) b.1) a.1

  pub pair-kept : IsTrue (list_all test (two_states design automaton visits).holds) → IsTrue (list_all test (sliced_pair design automaton visits now before).holds)
  pair-kept h =
      let a = append-parts test (state_terms design automaton visits 0 ++ state_terms design automaton visits width) (step_terms design automaton visits width) h in
      let b = append-parts test (state_terms design automaton visits 0) (state_terms design automaton visits width) a.0 in
      append-from test (sliced_first design automaton visits now before ++ sliced_next design automaton visits width now before)
      (sliced_step design automaton visits width now before)
      (append-from test (sliced_first design automaton visits now before) (sliced_next design automaton visits width now before) (first-kept b.0) (next-kept b.1))
      (step-kept a.1)

module _ (design : Design) (automaton : Automaton) (visits : ℕ) (now before : ℕ → Truth)
    (sound : netlists.IsSound design) (right : automata.IsSound automaton) (tests : TestsSignals design automaton) where
  abbrev all : ℕ
  all = joint_width design automaton visits

  pub sliced-closed : IsClosed (sliced_pair design automaton visits now before)
  sliced-closed =
      pair-kept design automaton visits now before (term_within (variables_of (two_states design automaton visits)))
      (two-closed design automaton visits sound right tests)

  sliced-fits : all + all ≤ sliced_variables design automaton visits now before
  sliced-fits = omega (arith, gates-length (sliced_pair design automaton visits now before) sliced-closed)

  module _ (frame : List (List ℤ)) (initial : Truth) (cube : List ℤ)
      (within : IsTrue (clauses_within all frame)) (also : IsTrue (clause_within all cube)) where
    abbrev formula : List (List ℤ)
    formula = sliced_relative design automaton visits now before frame initial cube

    abbrev variables : ℕ
    variables = sliced_variables design automaton visits now before

    formula-within : IsTrue (clauses_within variables formula)
    formula-within =
        relative-behind design automaton visits sound right tests frame within variables sliced-fits (whole (sliced_pair design automaton visits now before) 0)
        (alone-within (sliced_pair design automaton visits now before) sliced-closed) initial cube also

    formula-writes : (x y : JointState) → EntersBy design automaton visits frame initial cube x y
        → (values : Assignment) × IsModel values formula
        × AreSame all values (bits_of design automaton visits x)
        × AreSame all (values_from all values) (bits_of design automaton visits y)
    formula-writes x y named =
        let values = written design automaton visits sound right tests x y named.is named.is_next in
        let related = pair-kept design automaton visits now before (value values)
        (written-related design automaton visits sound right tests x y named.is named.is_next named.neighbours) in
        let found = says-alone (sliced_pair design automaton visits now before) values sliced-closed related in
        let same = written-bits design automaton visits sound right tests x y named.is named.is_next found.0 found.2 in (
          found.0,
          relative-met design automaton visits sound right tests frame within initial cube also (whole (sliced_pair design automaton visits now before) 0)
              found.0 x y found.1 same.0 same.1 named,
          same.0,
          same.1,
        )

    pub sliced-misses_none : MissesNone design automaton visits variables formula (EntersBy design automaton visits frame initial cube)
    sliced-misses_none = record {
      within = formula-within;
      writes = formula-writes;
      none = λ without x y named. let found = formula-writes x y named in
          without (λ no. no (map found.0 (range_with_len 1 variables)) (first-length variables found.0)
          (first-model variables formula found.0 formula-within found.1));
    }
