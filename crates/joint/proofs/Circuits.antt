-- The circuit of the joint states from gates that were added in two parts, and how many gates it has.
use Rattle.std.proofs.Common.{◌≡◌, ℕ, suc, ◌+◌, ◌<◌, ℤ, negsuc, neg_ℤ, List, [], ◌∷◌, ◌++◌, length, replicate, None, Some, Ok, Err, refl, sym, ap, ◌∙◌, subst, arith, length-append}
use Rattle.std.proofs.lemmas.List.{length-replicate}
use Rattle.std.proofs.lemmas.List.Sums.{sum_by-append, sum_by-cons}
use Rattle.alternating_theory.specs.Obligations.{Automaton}
use Rattle.gates_theory.specs.declared.circuit.Circuit.{Circuit}
use Rattle.gates_theory.specs.declared.circuit.Gate.{Gate}
use Rattle.gates_theory.specs.declared.circuit.Gate.TheVariants.{Free, And}
use Rattle.gates_theory.specs.Distinct.{following}
use Rattle.gates_theory.specs.Terms.{Term, built, built_all, term_size}
use Rattle.gates_theory.specs.Terms.Term.{Literal, Negation, Conjunction, Equality}
use Rattle.clauses.specs.declared.flat.CnfFault.{CnfFault}
use Rattle.clauses.specs.declared.flat.TheConstants.{MOST_VARIABLES}
use Rattle.netlist.specs.Design.{Design}
use Rattle.joint_theory.specs.Bits.{bad_bit, joint_width}
use Rattle.joint_theory.specs.Queries.{joint_circuit, joint_size}
use Rattle.joint_theory.specs.Relation.{state_terms, step_terms, unless_bad}
use Rattle.run_gates.specs.Building.{kept_all, BuildsAll, Holding}
use Rattle.run_terms.specs.Sizes.{terms_size}

-- gates one behind another

built-length : (gates : List Gate) (term : Term) → length (built gates term).gates ≡ length gates + term_size term
built-length gates (Literal literal) = omega arith
built-length gates (Negation term) = built-length gates term
built-length gates (Conjunction first second) =
    let one = built gates first in
    let two = built one.gates second in
    omega (arith, built-length gates first, built-length one.gates second, length-append two.gates (And one.output two.output ∷ []))
built-length gates (Equality first second) =
    let one = built gates first in
    let two = built one.gates second in
    omega (
      arith,
      built-length gates first,
      built-length one.gates second,
      length-append two.gates (And one.output two.output ∷ And (neg_ℤ one.output) (neg_ℤ two.output) ∷ And (negsuc (length two.gates)) (negsuc (suc (length two.gates))) ∷ []),
    )

pub all-length : (gates : List Gate) (terms : List Term) → length (built_all gates terms).gates ≡ length gates + terms_size terms
all-length gates [] = omega arith
all-length gates (term ∷ terms) = omega (arith, built-length gates term, all-length (built gates term).gates terms, sum_by-cons term_size term terms)

all-append : (gates : List Gate) (front back : List Term)
    → ((built_all gates (front ++ back)).gates ≡ (built_all (built_all gates front).gates back).gates)
    × ((built_all gates (front ++ back)).outputs ≡ (built_all gates front).outputs ++ (built_all (built_all gates front).gates back).outputs)
all-append gates [] back = (refl, refl)
all-append gates (term ∷ front) back =
    let rest = all-append (built gates term).gates front back in (rest.0, ap (λ o. (built gates term).output ∷ o) rest.1)

circuit-parts : (g g' : List Gate) (n n' x x' h h' : List ℤ) → g ≡ g' → n ≡ n' → x ≡ x' → h ≡ h'
    → ◌≡◌ {A = Circuit} (record { gates = g; now = n; next = x; hold = h }) (record { gates = g'; now = n'; next = x'; hold = h' })
circuit-parts g g' n n' x x' h h' a b c d = rw (a, b, c, d) refl

module _ (design : Design) (automaton : Automaton) (visits : ℕ) where
  abbrev states : List Term
  states = state_terms design automaton visits 0

  abbrev bad : ℤ
  bad = neg_ℤ (bad_bit design automaton visits)

  -- gates that were added: free ones, those of a state, and those of a step where the state is not bad
  pub record AreAdded (width : ℕ) (free one two : List Gate) (none first guarded second : Holding) : Type 0 where
    pub free_is : free ≡ replicate (width + width + 1) Free
    pub none_is : none ≡ record { guard = None; literals = [] }
    pub state : BuildsAll free one none first (state_terms design automaton visits 0) (Ok tt)
    pub guard : guarded ≡ record { guard = Some (neg_ℤ (bad_bit design automaton visits)); literals = first.literals }
    pub step : BuildsAll one two guarded second (step_terms design automaton visits width) (Ok tt)

  circuit-at : (free one two : List Gate) (none first guarded second : Holding) (circuit : Circuit)
      → AreAdded (joint_width design automaton visits) free one two none first guarded second → circuit.gates ≡ two → circuit.now ≡ following 0 (joint_width design automaton visits)
      → circuit.next ≡ following (joint_width design automaton visits) (joint_width design automaton visits) → circuit.hold ≡ second.literals → circuit ≡ joint_circuit design automaton visits
  circuit-at free one two none first guarded second circuit added gates now next hold =
      let width = joint_width design automaton visits in
      let all = replicate (width + width + 1) Free in
      let steps = step_terms design automaton visits (joint_width design automaton visits) in
      let guards = unless_bad design automaton visits steps in
      let parts = all-append all states guards in
      let one_is : one ≡ (built_all (replicate (joint_width design automaton visits + joint_width design automaton visits + 1) Free) states).gates =
      added.state.gates ∙ ap (λ (h : Holding). (built_all free (kept_all h.guard states)).gates) added.none_is ∙ ap (λ (g : List Gate). (built_all g states).gates) added.free_is in
      let first_is : first.literals ≡ (built_all (replicate (joint_width design automaton visits + joint_width design automaton visits + 1) Free) states).outputs =
      added.state.held ∙ ap (λ (h : Holding). h.literals ++ (built_all free (kept_all h.guard states)).outputs) added.none_is
      ∙ ap (λ (g : List Gate). (built_all g states).outputs) added.free_is in
      let two_is : two ≡ (built_all one (unless_bad design automaton visits (step_terms design automaton visits (joint_width design automaton visits)))).gates =
      added.step.gates ∙ ap (λ (h : Holding). (built_all one (kept_all h.guard steps)).gates) added.guard in
      let second_is : second.literals ≡ first.literals ++ (built_all one (unless_bad design automaton visits (step_terms design automaton visits (joint_width design automaton visits)))).outputs =
      added.step.held ∙ ap (λ (h : Holding). h.literals ++ (built_all one (kept_all h.guard steps)).outputs) added.guard in
      circuit-parts circuit.gates (joint_circuit design automaton visits).gates circuit.now (joint_circuit design automaton visits).now circuit.next (joint_circuit design automaton visits).next
      circuit.hold (joint_circuit design automaton visits).hold
      (gates ∙ two_is ∙ ap (λ (g : List Gate). (built_all g guards).gates) one_is ∙ sym parts.0) now next
      (hold ∙ second_is ∙ ap (λ (l : List ℤ). l ++ (built_all one guards).outputs) first_is
      ∙ ap (λ (g : List Gate). (built_all all states).outputs ++ (built_all g guards).outputs) one_is ∙ sym parts.1)

  pub circuit-is : (width : ℕ) → width ≡ joint_width design automaton visits → (free one two : List Gate) (none first guarded second : Holding) (circuit : Circuit)
      → AreAdded width free one two none first guarded second → circuit.gates ≡ two → circuit.now ≡ following 0 width
      → circuit.next ≡ following width width → circuit.hold ≡ second.literals → circuit ≡ joint_circuit design automaton visits
  circuit-is width e =
      subst (λ (w : ℕ). (free one two : List Gate) (none first guarded second : Holding) (circuit : Circuit)
      → AreAdded w free one two none first guarded second → circuit.gates ≡ two → circuit.now ≡ following 0 w
      → circuit.next ≡ following w w → circuit.hold ≡ second.literals → circuit ≡ joint_circuit design automaton visits) (sym e) circuit-at

  -- how many gates there are

  size-is : joint_size design automaton visits
      ≡ (joint_width design automaton visits + joint_width design automaton visits + 1)
      + (terms_size states + terms_size (unless_bad design automaton visits (step_terms design automaton visits (joint_width design automaton visits))))
  size-is =
      let width = joint_width design automaton visits in
      let guards = unless_bad design automaton visits (step_terms design automaton visits (joint_width design automaton visits)) in
      omega (
        arith,
        all-length (replicate (width + width + 1) Free) (states ++ guards),
        length-replicate (width + width + 1) Free,
        sum_by-append term_size states guards,
      )

  pub size-free : (width : ℕ) → width ≡ joint_width design automaton visits → MOST_VARIABLES < width + width + 1 → MOST_VARIABLES < joint_size design automaton visits
  size-free width e large = omega (arith, size-is)

  pub size-state : (width : ℕ) (free one : List Gate) (none first : Holding) (fault : CnfFault) → width ≡ joint_width design automaton visits → free ≡ replicate (width + width + 1) Free
      → none ≡ record { guard = None; literals = [] } → BuildsAll free one none first states (Err fault) → fault ≡ CnfFault.TooLarge → MOST_VARIABLES < joint_size design automaton visits
  size-state width free one none first fault e free_is none_is failed too =
      let some = ap length free_is ∙ length-replicate (width + width + 1) Free in
      let kept = ap (λ (h : Holding). terms_size (kept_all h.guard states)) none_is in
      omega (arith, size-is, failed.large too, some, kept)

  pub size-step : (width : ℕ) (free one two : List Gate) (none first guarded second : Holding) (fault : CnfFault) → width ≡ joint_width design automaton visits
      → free ≡ replicate (width + width + 1) Free → none ≡ record { guard = None; literals = [] } → BuildsAll free one none first states (Ok tt)
      → guarded ≡ record { guard = Some bad; literals = first.literals } → BuildsAll one two guarded second (step_terms design automaton visits width) (Err fault)
      → fault ≡ CnfFault.TooLarge → MOST_VARIABLES < joint_size design automaton visits
  size-step width free one two none first guarded second fault e free_is none_is state guard failed too =
      let some = ap length free_is ∙ length-replicate (width + width + 1) Free in
      let kept = ap (λ (h : Holding). terms_size (kept_all h.guard states)) none_is in
      let also = ap (λ (h : Holding). terms_size (kept_all h.guard (step_terms design automaton visits width))) guard in
      let moved = ap (λ (w : ℕ). terms_size (unless_bad design automaton visits (step_terms design automaton visits w))) e in
      omega (arith, size-is, failed.large too, some, kept, state.size, also, moved)
