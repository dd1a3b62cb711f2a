-- The lemma of closed places is evidence, and where none is kept it is the empty lemma.
use Rattle.std.proofs.Common.{◌≡◌, ◌≢◌, ◌⊎◌, ℕ, ◌<◌, ◌≤◌, List, [], ◌∷◌, ◌++◌, map, get_or, Some, inl, inr, refl, sym, ap, ◌∙◌, subst, arith}
use Rattle.std.specs.List.{All, AllPairs, Contains}
use Rattle.std.proofs.lemmas.List.Elements.{All-contains, Contains-push, Contains-append_left}
use Rattle.clauses.specs.Live.{Numbered, clause_of}
use Rattle.clauses.specs.Passing.{AddsPropagation}
use Rattle.cdcl_trail.specs.Literals.{opposite}
use Rattle.cdcl_conflict_theory.specs.Trails.{Steps, IsTrail, HasEnded, lower_literals, size_of, literal_at, reason_at}
use Rattle.cdcl_conflict_theory.specs.Lemmas.{IsAsserting, IsLearned, IsRefuted}
use Rattle.cdcl_conflict_theory.specs.Closing.{negation_at, lemma_of, hints_of, IsNamed, IsClosed, IsKeeping}
use Rattle.cdcl_conflict_theory.proofs.Literals.{opposite-opposite, opposite-injective, clash, one_place}
use Rattle.cdcl_conflict_theory.proofs.Lower.{lower_contains, lower_at}
use Rattle.cdcl_conflict_theory.proofs.Members.{contains-cons, contains-head, contains-tail, no_member, contains-map, from_map, all_members, pairs-tail, pairs-head, pairs-map}
use Rattle.cdcl_conflict_theory.proofs.Passing.{closed-passes, hints_once}

-- no literal stands twice
literals_once : (clauses : Numbered ℕ) (steps : Steps) (places : List ℕ) → IsTrail clauses steps → All (λ p. p < size_of steps) places → AllPairs (λ p q. q < p) places →
    AllPairs (λ literal other. literal ≢ other) (lemma_of steps places)
literals_once clauses steps places trail within falling =
    pairs-map (λ literal other. literal ≢ other) (negation_at steps) places (λ i j d order inside same.
    let below = falling i j d order inside in
    let one = one_place clauses steps (get_or places i d) (get_or places j d) trail (within i d (omega arith)) (within j d inside)
    (opposite-injective (literal_at steps (get_or places i d)) (literal_at steps (get_or places j d)) same) in
    omega arith)

-- each literal stands in a hinted clause
stands : (clauses : Numbered ℕ) (steps : Steps) (number : ℕ) (kept marks : List ℕ) → IsClosed clauses steps number kept marks → (literal : ℕ) → Contains (lemma_of steps kept) literal →
    (hint : ℕ) × (clause : List ℕ) × Contains (hints_of steps marks number) hint × (clause_of clauses hint ≡ Some clause) × Contains clause literal
stands clauses steps number kept marks closed literal member =
    let found = from_map (negation_at steps) kept literal member in
    let named = All-contains (IsNamed clauses steps number marks) kept found.0 closed.named found.1 in
    let reasons = map (λ p. reason_at steps p) marks in (
      named.0,
      named.1,
      elim named.4 [
        | inl conflict ↦ subst (Contains (reasons ++ number ∷ [])) (sym conflict) (Contains-push reasons number)
        | inr reason ↦ subst (Contains (reasons ++ number ∷ [])) (sym reason.2)
            (Contains-append_left reasons (number ∷ []) (reason_at steps reason.0) (contains-map (λ p. reason_at steps p) marks reason.0 reason.1))
      ],
      named.2,
      subst (Contains named.1) found.2 named.3,
    )

-- the highest of places that fall is the first
first_is : (steps : Steps) (kept : List ℕ) (top : ℕ) → AllPairs (λ p q. q < p) kept → Contains kept top → ((place : ℕ) → Contains kept place → (place ≡ top) ⊎ ((steps.fixed ≤ place) × (place < steps.start))) → steps.start ≤ top →
    (others : List ℕ) × (kept ≡ top ∷ others)
first_is steps [] top falling member others current = absurd (no_member top member)
first_is steps (first ∷ rest) top falling member others current =
    elim (contains-cons first rest top member) [
      | inl here ↦ (rest, ap (λ p. p ∷ rest) here)
      | inr there ↦
          let above = All-contains (λ q. q < first) rest top (pairs-head (λ p q. q < p) first rest falling) there in
          elim (others first (contains-head first rest)) [ inl same ↦ absurd (omega arith) | inr lower ↦ absurd (omega (arith, lower.1)) ]
    ]

asserting : (clauses : Numbered ℕ) (steps : Steps) (number : ℕ) (kept marks : List ℕ) (top : ℕ) → IsClosed clauses steps number kept marks → IsKeeping steps kept top → IsAsserting steps (lemma_of steps kept)
asserting clauses steps number kept marks top closed keeping =
    let first = first_is steps kept top closed.falling keeping.member keeping.others keeping.current in
    let pairs : AllPairs (λ p q. q < p) (top ∷ first.0) = rw first.1 at closed.falling in
    let lower : (place : ℕ) → Contains first.0 place → (steps.fixed ≤ place) × (place < steps.start) = λ place there.
    let below = All-contains (λ q. q < top) first.0 place (pairs-head (λ p q. q < p) top first.0 pairs) there in
    elim (keeping.others place (rw first.1 (contains-tail top first.0 place there))) [ inl same ↦ absurd (omega arith) | inr other ↦ other ] in
    record {
      first = top;
      others = first.0;
      is = ap (lemma_of steps) first.1;
      current = keeping.current;
      within = All-contains (λ p. p < size_of steps) kept top closed.within keeping.member;
      lower = all_members (λ p. p < steps.start) first.0 (λ place there. (lower place there).1);
      not_fixed = all_members (λ p. steps.fixed ≤ p) first.0 (λ place there. (lower place there).0);
      falling = pairs-tail (λ p q. q < p) top first.0 pairs;
    }

-- the lemma adds a propagation
adds : (clauses : Numbered ℕ) (steps : Steps) (number : ℕ) (kept marks : List ℕ) (top : ℕ) → IsTrail clauses steps → HasEnded clauses steps → IsClosed clauses steps number kept marks → IsKeeping steps kept top →
    AddsPropagation opposite (clause_of clauses) (lemma_of steps kept)
adds clauses steps number kept marks top trail ended closed keeping =
    let within = All-contains (λ p. p < size_of steps) kept top closed.within keeping.member in
    record {
      literal = negation_at steps top;
      trail = lower_literals steps;
      in_lemma = contains-map (negation_at steps) kept top keeping.member;
      consistent = λ other there against.
          let here = lower_at clauses steps other trail there in
          let beside = lower_at clauses steps (opposite other) trail against in
          clash clauses steps here.0 beside.0 trail (omega (arith, here.1, trail.within)) (omega (arith, beside.1, trail.within)) (ap opposite here.2 ∙ sym beside.2);
      falsified = all_members (λ other. (other ≡ negation_at steps top) ⊎ Contains (lower_literals steps) (opposite other)) (lemma_of steps kept) (λ other member.
          let found = from_map (negation_at steps) kept other member in
          elim (keeping.others found.0 found.1) [
            | inl same ↦ inl (sym found.2 ∙ ap (negation_at steps) same)
            | inr lower ↦ inr (subst (Contains (lower_literals steps)) (sym (ap opposite (sym found.2) ∙ opposite-opposite (literal_at steps found.0))) (lower_contains clauses steps found.0 trail lower.1))
          ]);
      not_true = λ there.
          let here = lower_at clauses steps (negation_at steps top) trail there in
          clash clauses steps top here.0 trail within (omega (arith, here.1, trail.within)) (sym here.2);
      not_false = λ there.
          let here = lower_at clauses steps (opposite (negation_at steps top)) trail there in
          let same = one_place clauses steps here.0 top trail (omega (arith, here.1, trail.within)) within (here.2 ∙ opposite-opposite (literal_at steps top)) in
          omega (arith, here.1, keeping.current);
      ended = ended;
    }

-- a lemma is learned
pub learned : (clauses : Numbered ℕ) (steps : Steps) (number : ℕ) (kept marks : List ℕ) (top : ℕ) → IsTrail clauses steps → HasEnded clauses steps → IsClosed clauses steps number kept marks → IsKeeping steps kept top →
    IsLearned clauses steps (lemma_of steps kept) (hints_of steps marks number)
learned clauses steps number kept marks top trail ended closed keeping = record {
  passes = closed-passes clauses steps number kept marks trail closed;
  literals_once = literals_once clauses steps kept trail closed.within closed.falling;
  hints_once = hints_once clauses steps number kept marks trail closed;
  stands = stands clauses steps number kept marks closed;
  asserting = asserting clauses steps number kept marks top closed keeping;
  adds = adds clauses steps number kept marks top trail ended closed keeping;
}

-- a formula is refuted
pub refuted : (clauses : Numbered ℕ) (steps : Steps) (number : ℕ) (marks : List ℕ) → IsTrail clauses steps → IsClosed clauses steps number [] marks → IsRefuted clauses [] (hints_of steps marks number)
refuted clauses steps number marks trail closed = record {
  empty = refl;
  passes = closed-passes clauses steps number [] marks trail closed;
  hints_once = hints_once clauses steps number [] marks trail closed;
}
