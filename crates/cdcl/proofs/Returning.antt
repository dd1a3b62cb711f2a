-- Going back to the level where a lemma asserts its first literal.
use Rattle.std.proofs.Common.{◌≡◌, ◌≢◌, ℕ, ◌-◌, ◌<◌, ◌≤◌, List, [], ◌∷◌, length, map, take, get_or, slice_index_or, refl, sym, ap, ◌∙◌, subst, arith}
use Rattle.std.specs.List.{All, AllPairs, Contains}
use Rattle.std.proofs.lemmas.List.{get_or-take, length-take, take-take}
use Rattle.std.proofs.lemmas.List.Elements.{All-cons, All-weaker, All-head}
use Rattle.cdcl_trail.specs.Literals.{opposite}
use Rattle.cdcl_trail.specs.Path.{Path, IsPath, start_of, undone, literals_to}
use Rattle.cdcl_propagation.specs.State.{State, IsSettled, CanLearn, CanWatch}
use Rattle.cdcl_conflict_theory.specs.Closing.{negation_at}
use Rattle.cdcl_conflict_theory.specs.Lemmas.{IsAsserting}
use Rattle.cdcl_conflict_theory.proofs.Literals.{opposite-injective, one_place}
use Rattle.cdcl_conflict_theory.proofs.Members.{pairs-head, contains-tail, contains-head}
use Rattle.cdcl_conflict_theory.proofs.Returning.{not_false_before, unit_after}
use Rattle.cdcl.specs.Turns.{steps_at, begin_of, CanAttach, IsLower, IsLevelOf}
use Rattle.cdcl.proofs.Trails.{trail_of, begin_inside, begin_rising}

-- a list of one item, and one of several
pub one_item : (xs : List ℕ) → 1 ≤ length xs → length xs < 2 → xs ≡ slice_index_or xs 0 0 ∷ []
one_item [] some few = absurd (omega (arith, some))
one_item (x ∷ []) some few = refl
one_item (x ∷ (y ∷ rest)) some few = absurd (omega (arith, few))

pub two_items : (xs : List ℕ) → 2 ≤ length xs → (rest : List ℕ) × (xs ≡ slice_index_or xs 0 0 ∷ (slice_index_or xs 1 0 ∷ rest))
two_items [] some = absurd (omega (arith, some))
two_items (x ∷ []) some = absurd (omega (arith, some))
two_items (x ∷ (y ∷ rest)) some = (rest, refl)

-- the first literal of a lemma, and the second
cons_head : {X : Type 0} (x y : X) (xs ys : List X) → x ∷ xs ≡ y ∷ ys → x ≡ y
cons_head x y xs ys same = ap (λ zs. get_or zs 0 x) same

cons_tail : {X : Type 0} (x y : X) (xs ys : List X) → x ∷ xs ≡ y ∷ ys → xs ≡ ys
cons_tail x y xs ys same = cc

pub first_is : (path : Path) (lemma : List ℕ) (first : ℕ) (rest : List ℕ) → (asserting : IsAsserting (steps_at path) lemma) → lemma ≡ first ∷ rest → first ≡ negation_at (steps_at path) asserting.first
first_is path lemma first rest asserting is =
    cons_head first (negation_at (steps_at path) asserting.first) rest (map (λ place. negation_at (steps_at path) place) asserting.others) (sym is ∙ asserting.is)

no_cons : {X : Type 0} (x : X) (xs : List X) → x ∷ xs ≡ [] → ⊥
no_cons x xs same = omega (arith, ap length same)

second_place : (path : Path) (second : ℕ) (rest others : List ℕ) → second ∷ rest ≡ map (λ place. negation_at (steps_at path) place) others
    → (place : ℕ) × (places : List ℕ) × (others ≡ place ∷ places) × (second ≡ negation_at (steps_at path) place)
second_place path second rest [] same = absurd (no_cons second rest same)
second_place path second rest (place ∷ places) same =
    (place, places, refl, cons_head second (negation_at (steps_at path) place) rest (map (λ p. negation_at (steps_at path) p) places) same)

pub second_is : (path : Path) (lemma : List ℕ) (first second : ℕ) (rest : List ℕ) → (asserting : IsAsserting (steps_at path) lemma) → lemma ≡ first ∷ (second ∷ rest)
    → (place : ℕ) × (places : List ℕ) × (asserting.others ≡ place ∷ places) × (second ≡ negation_at (steps_at path) place)
second_is path lemma first second rest asserting is =
    second_place path second rest asserting.others
    (cons_tail first (negation_at (steps_at path) asserting.first) (second ∷ rest) (map (λ place. negation_at (steps_at path) place) asserting.others) (sym is ∙ asserting.is))

-- a lemma has a literal
pub some_literal : (path : Path) (lemma : List ℕ) → IsAsserting (steps_at path) lemma → lemma ≡ [] → ⊥
some_literal path lemma asserting none =
    no_cons (negation_at (steps_at path) asserting.first) (map (λ place. negation_at (steps_at path) place) asserting.others) (sym asserting.is ∙ none)

-- the first is false at no lower level
pub first_not_false : (state : State) (lemma : List ℕ) (first : ℕ) (rest : List ℕ) (level : ℕ) → IsSettled state → CanAttach state lemma → lemma ≡ first ∷ rest → level < length state.path.limits
    → Contains (literals_to state.path level) (opposite first) → ⊥
first_not_false state lemma first rest level is can same inside there =
    let path = state.path in
    let asserting = can.asserting in
    let rising = begin_rising path level (length path.limits - 1) is.path (omega arith) in
    not_false_before state.clauses (steps_at path) asserting.first (start_of path level) (trail_of state is) asserting.within
    (omega (arith, begin_inside path level inside, asserting.current))
    (subst (λ (l : ℕ). Contains (literals_to path level) (opposite l)) (first_is path lemma first rest asserting same) there)

-- the second is false at a lower level
pub lower_second : (state : State) (lemma : List ℕ) (first second : ℕ) (rest : List ℕ) → CanAttach state lemma → lemma ≡ first ∷ (second ∷ rest) → IsLower state.path second
lower_second state lemma first second rest can same =
    let found = second_is state.path lemma first second rest can.asserting same in
    let all : All (λ place. place < begin_of state.path (length state.path.limits - 1)) (found.0 ∷ found.1) = rw found.2 at can.asserting.lower in
    record {
      levels = can.levels;
      place = found.0;
      below = All-head (λ place. place < begin_of state.path (length state.path.limits - 1)) found.0 found.1 all;
      at = found.3;
    }

-- it is the only place of the second
same_place : (state : State) (level second place : ℕ) → IsSettled state → (of : IsLevelOf state.path second level) → place < length state.path.literals → second ≡ negation_at (steps_at state.path) place
    → place ≡ of.place
same_place state level second place is of within at =
    let begun = is.path.begun level of.inside in
    one_place state.clauses (steps_at state.path) place of.place (trail_of state is) within (omega (arith, of.within))
    (opposite-injective (get_or state.path.literals place 0) (get_or state.path.literals of.place 0) (sym at ∙ of.at))

-- the other literals are false up to its level
others_below : (state : State) (lemma : List ℕ) (first second : ℕ) (rest : List ℕ) (level : ℕ) → IsSettled state → (can : CanAttach state lemma) → lemma ≡ first ∷ (second ∷ rest) → IsLevelOf state.path second level
    → All (λ place. place < start_of state.path level) can.asserting.others
others_below state lemma first second rest level is can same of =
    let path = state.path in
    let asserting = can.asserting in
    let found = second_is path lemma first second rest asserting same in
    let lower : All (λ place. place < begin_of path (length path.limits - 1)) (found.0 ∷ found.1) = rw found.2 at asserting.lower in
    let here = All-head (λ place. place < begin_of path (length path.limits - 1)) found.0 found.1 lower in
    let trail = trail_of state is in
    let one : found.0 ≡ of.place = same_place state level second found.0 is of (omega (arith, trail.within)) found.3 in
    let falling : AllPairs (λ place next. next < place) (found.0 ∷ found.1) = rw found.2 at asserting.falling in
    let top : found.0 < start_of path level = omega (arith, of.within) in
    rw found.2 (
    All-cons (λ place. place < start_of path level) found.0 found.1 top
    (All-weaker (λ place. place < found.0) (λ place. place < start_of path level) (λ place below. omega arith) found.1 (pairs-head (λ place next. next < place) found.0 found.1 falling))
    )

-- a lower level of the trail that is left
level_left : (path : Path) (level below : ℕ) → IsPath path → level < length path.limits → below < level → literals_to (undone path level) below ≡ literals_to path below
level_left path level below is inside lower =
    let start : start_of (undone path level) below ≡ start_of path below = get_or-take level path.limits below 0 lower in
    let rising = is.rising below level lower inside in
    ap (λ s. take s (literals_to path level)) start ∙ take-take (start_of path below) (start_of path level) path.literals (omega arith)

-- what is left to do there
pub can_learn : (state : State) (lemma : List ℕ) (first second : ℕ) (rest : List ℕ) (level : ℕ) → IsSettled state → CanAttach state lemma → lemma ≡ first ∷ (second ∷ rest) → IsLevelOf state.path second level
    → CanLearn (undone state.path level) lemma first second
can_learn state lemma first second rest level is can same of =
    let path = state.path in
    let steps = steps_at path in
    let asserting = can.asserting in
    let trail = trail_of state is in
    let rising = begin_rising path level (length path.limits - 1) is.path (omega (arith, of.inside)) in
    let end : start_of path level ≤ steps.start = omega (arith, begin_inside path level of.inside) in
    let unit = unit_after state.clauses steps lemma (start_of path level) trail asserting end (others_below state lemma first second rest level is can same of) in
    let at = first_is path lemma first (second ∷ rest) asserting same in
    let second_at = second_is path lemma first second rest asserting same in
    let lower = lower_second state lemma first second rest can same in
    record {
      has_asserted = rw at unit.member;
      not_true = rw at unit.not_true;
      not_false = rw at unit.not_false;
      others = rw at unit.others;
      has_other = rw same (contains-tail first (second ∷ rest) second (contains-head second rest));
      differs = λ equal.
          let one = one_place state.clauses steps asserting.first lower.place trail asserting.within (omega (arith, lower.below, trail.within))
          (opposite-injective (get_or path.literals asserting.first 0) (get_or path.literals lower.place 0) (sym at ∙ equal ∙ lower.at)) in
          omega (arith, asserting.current, lower.below);
      levels = λ below inside there.
          let under : below < level = omega (arith, length-take level path.limits) in
          let held : Contains (literals_to path below) (opposite second) = subst (λ (ls : List ℕ). Contains ls (opposite second)) (level_left path level below is.path of.inside under) there in
          let begun = is.path.begun level of.inside in
          not_false_before state.clauses steps of.place (start_of path below) trail (omega (arith, of.within)) (of.lower below under)
          (subst (λ (l : ℕ). Contains (literals_to path below) (opposite l)) of.at held);
    }

-- the two can be watched at the lowest level
pub two_differ : (state : State) (lemma : List ℕ) (first second : ℕ) (rest : List ℕ) → IsSettled state → CanAttach state lemma → lemma ≡ first ∷ (second ∷ rest) → first ≢ second
two_differ state lemma first second rest is can same equal =
    let path = state.path in
    let steps = steps_at path in
    let asserting = can.asserting in
    let trail = trail_of state is in
    let lower = lower_second state lemma first second rest can same in
    let at = first_is path lemma first (second ∷ rest) asserting same in
    let one = one_place state.clauses steps asserting.first lower.place trail asserting.within (omega (arith, lower.below, trail.within))
    (opposite-injective (get_or path.literals asserting.first 0) (get_or path.literals lower.place 0) (sym at ∙ equal ∙ lower.at)) in
    omega (arith, asserting.current, lower.below)

second_not_false : (state : State) (lemma : List ℕ) (first second : ℕ) (rest : List ℕ) → IsSettled state → CanAttach state lemma → lemma ≡ first ∷ (second ∷ rest)
    → Contains (literals_to state.path 0) (opposite second) → ⊥
second_not_false state lemma first second rest is can same there =
    let path = state.path in
    let steps = steps_at path in
    let trail = trail_of state is in
    let found = second_is path lemma first second rest can.asserting same in
    let lower : All (λ place. place < steps.start) (found.0 ∷ found.1) = rw found.2 at can.asserting.lower in
    let later : All (λ place. steps.fixed ≤ place) (found.0 ∷ found.1) = rw found.2 at can.asserting.not_fixed in
    let below = All-head (λ place. place < steps.start) found.0 found.1 lower in
    let above = All-head (λ place. steps.fixed ≤ place) found.0 found.1 later in
    not_false_before state.clauses steps found.0 (start_of path 0) trail (omega (arith, below, trail.within))
    (omega (arith, above, begin_inside path 0 can.levels))
    (subst (λ (l : ℕ). Contains (literals_to path 0) (opposite l)) found.3 there)

-- what is not false at the lowest level can be watched there
watch_lowest : (state : State) (literal : ℕ) → IsSettled state → 0 < length state.path.limits → (Contains (literals_to state.path 0) (opposite literal) → ⊥)
    → CanWatch (record state { path = undone state.path 0; head = start_of state.path 0 }) literal
watch_lowest state literal is levels not_false = record {
  ahead = λ there.
      let start = start_of state.path 0 in
      not_false (subst (λ (ls : List ℕ). Contains ls (opposite literal)) (take-take start start state.path.literals (omega arith)) there);
  levels = λ level inside there. absurd (omega arith);
}

pub watch_first : (state : State) (lemma : List ℕ) (first second : ℕ) (rest : List ℕ) → IsSettled state → CanAttach state lemma → lemma ≡ first ∷ (second ∷ rest)
    → CanWatch (record state { path = undone state.path 0; head = start_of state.path 0 }) first
watch_first state lemma first second rest is can same =
    watch_lowest state first is can.levels (first_not_false state lemma first (second ∷ rest) 0 is can same can.levels)

pub watch_second : (state : State) (lemma : List ℕ) (first second : ℕ) (rest : List ℕ) → IsSettled state → CanAttach state lemma → lemma ≡ first ∷ (second ∷ rest)
    → CanWatch (record state { path = undone state.path 0; head = start_of state.path 0 }) second
watch_second state lemma first second rest is can same = watch_lowest state second is can.levels (second_not_false state lemma first second rest is can same)
