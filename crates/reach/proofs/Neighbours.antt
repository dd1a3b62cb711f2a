-- A neighbour of a state in a cube, by the model of a query whose clauses say the state.
use Rattle.std.proofs.Common.{◌≡◌, sym, ap, ◌∙◌, subst, ℕ, ◌+◌, ◌<◌, ℤ, pos, neg_ℤ, Bool as Truth, false, List, arith}
use Rattle.std.specs.Prelude.{IsTrue}
use Rattle.clauses.specs.Literals.{clause_within, clauses_within, is_within}
use Rattle.joint.specs.Joined.{Joined}
use Rattle.joint.specs.Slices.{bits_from}
use Rattle.joint_theory.specs.Bits.{joint_width}
use Rattle.netlist.specs.Sound as netlists
use Rattle.reach_frames.proofs.Negations.{negation_within}
use Rattle.reach_frames.specs.Bits.{is_in_cube}
use Rattle.reach_frames.specs.declared.stop.ReachQuery.TheVariants.{Relative}
use Rattle.run_terms.proofs.Logic.{pos_within}
use Rattle.run_terms.specs.Automata as automata
use Rattle.run_terms.specs.Automata.{TestsSignals}
use Rattle.reach.specs.Questions.{IsTold}
use Rattle.reach.specs.Systems.{FollowsAs}
use Rattle.reach.specs.declared.asking.Told.TheVariants.{Model}
use Rattle.reach.proofs.ModelReads.{read-entry}

pub next-of : (joined : Joined) (sound : netlists.IsSound joined.design) (right : automata.IsSound joined.automaton)
    (tests : TestsSignals joined.design joined.automaton) (steps : ℕ) (frame : List (List ℤ)) (cube : List ℤ) (values : List Truth) (count : ℕ)
    → count ≡ joint_width joined.design joined.automaton joined.visits → IsTrue (clauses_within count frame) → IsTrue (clause_within count cube)
    → IsTold joined steps (Relative frame false cube) (Model values) → (before next state : List Truth) → before ≡ bits_from values 0 count
    → next ≡ bits_from values count count → before ≡ state → FollowsAs joined state next × IsTrue (is_in_cube cube next)
next-of joined sound right tests steps frame cube values count many within also told before next state first second same =
    let width = joint_width joined.design joined.automaton joined.visits in
    let entry = read-entry joined sound right tests frame (subst (λ (n : ℕ). IsTrue (clauses_within n frame)) many within) false cube
    (subst (λ (n : ℕ). IsTrue (clause_within n cube)) many also) values told.1 in
    let one : bits_from values 0 width ≡ state = sym (first ∙ ap (λ (n : ℕ). bits_from values 0 n) many) ∙ same in
    let two : bits_from values width width ≡ next = sym (second ∙ ap (λ (n : ℕ). bits_from values n n) many) in (
      subst (λ (b : List Truth). FollowsAs joined b next) one
          (subst (λ (b : List Truth). FollowsAs joined (bits_from values 0 width) b) two entry.follows),
      subst (λ (b : List Truth). IsTrue (is_in_cube cube b)) two entry.inside,
    )

pub variable_within : (variables place : ℕ) → place < variables → IsTrue (is_within variables (pos (place + 1)))
variable_within variables place below = pos_within variables (place + 1) (omega arith) (omega arith)

pub denied_within : (variables place : ℕ) → place < variables → IsTrue (is_within variables (neg_ℤ (pos (place + 1))))
denied_within variables place below = sym (negation_within variables (pos (place + 1))) ∙ variable_within variables place below
