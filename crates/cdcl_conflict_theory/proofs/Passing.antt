-- The reasons of explained places, as these rise, and then the conflict are hints by which the lemma of the kept places
-- passes, where all of them are closed.
use Rattle.std.proofs.Common.{◌≡◌, ◌≢◌, ◌⊎◌, ℕ, ◌<◌, ◌≤◌, List, [], ◌∷◌, ◌++◌, get_or, map, Option, Some, inl, inr, refl, sym, ap, ◌∙◌, subst, arith}
use Rattle.std.specs.List.{All, AllPairs, Contains}
use Rattle.std.proofs.lemmas.List.Elements.{All-contains, All-cons, All-head, All-tail, All-weaker, All-push, All-append, All-map, All-nil, Contains-push, Contains-append_left}
use Rattle.std.proofs.lemmas.List.Kept.{AllPairs-cons}
use Rattle.clauses.specs.Live.{Numbered, clause_of}
use Rattle.clauses.specs.Passing.{Passes, IsLeft}
use Rattle.cdcl_trail.specs.Literals.{opposite}
use Rattle.cdcl_conflict_theory.specs.Trails.{Steps, IsTrail, size_of, literal_at, reason_at}
use Rattle.cdcl_conflict_theory.specs.Closing.{negation_at, lemma_of, hints_of, IsCovered, IsStep, IsClosed}
use Rattle.cdcl_conflict_theory.proofs.Literals.{clash, one_place}
use Rattle.cdcl_conflict_theory.proofs.Members.{contains-cons, no_member, contains-map, from_map, all_members, pairs-tail, pairs-head}

-- a literal is the negation of a true one
abbrev IsNegation : Steps → ℕ → Type 0
IsNegation steps literal = (place : ℕ) × (place < size_of steps) × (literal ≡ negation_at steps place)

-- a hint in front
passes-cons : (live : ℕ → Option (List ℕ)) (set : List ℕ) (hint : ℕ) (hints clause : List ℕ) (literal : ℕ) → live hint ≡ Some clause → IsLeft set clause literal →
    Passes opposite live (set ++ opposite literal ∷ []) hints → Passes opposite live set (hint ∷ hints)
passes-cons live set hint [] clause literal is left passes = absurd passes
passes-cons live set hint (next ∷ hints) clause literal is left passes = (clause, literal, is, left, passes)

-- the literals that count as false before the last so many marks: the negations of those at kept places, and at the
-- marks in front of these; a mark is an explained place
record IsSet (steps : Steps) (kept marks rest set : List ℕ) : Type 0 where
  pub negations : All (IsNegation steps) set
  pub kept_in : (place : ℕ) → Contains kept place → Contains set (negation_at steps place)
  pub marks_in : (place : ℕ) → Contains marks place → Contains set (negation_at steps place) ⊎ Contains rest place

-- a covered literal is in the set, where no mark that is left is below
covered_in : (steps : Steps) (kept marks rest set : List ℕ) (end literal : ℕ) → IsSet steps kept marks rest set →
    ((place : ℕ) → place < end → Contains rest place → ⊥) → IsCovered steps kept marks end literal → Contains set literal
covered_in steps kept marks rest set end literal known above covered =
    elim covered.3 [
      | inl member ↦ subst (Contains set) (sym covered.2) (known.kept_in covered.0 member)
      | inr mark ↦ elim (known.marks_in covered.0 mark) [
        | inl member ↦ subst (Contains set) (sym covered.2) member
        | inr later ↦ absurd (above covered.0 covered.1 later)
      ]
    ]

-- no mark below the first of those that rise
none_below : (place : ℕ) (rest : List ℕ) → AllPairs (λ p q. p < q) (place ∷ rest) → (other : ℕ) → other < place → Contains (place ∷ rest) other → ⊥
none_below place rest rising other below member =
    elim (contains-cons place rest other member) [
      | inl same ↦ omega arith
      | inr later ↦ omega (arith, All-contains (λ q. place < q) rest other (pairs-head (λ p q. p < q) place rest rising) later)
    ]

left_of : (clauses : Numbered ℕ) (steps : Steps) (kept marks rest set : List ℕ) (place : ℕ) → IsTrail clauses steps → (step : IsStep clauses steps kept marks place) →
    IsSet steps kept marks (place ∷ rest) set → AllPairs (λ p q. p < q) (place ∷ rest) → IsLeft set step.clause (literal_at steps place)
left_of clauses steps kept marks rest set place trail step known rising = record {
  in_clause = step.own;
  not_in_set = λ member.
      let negation = All-contains (IsNegation steps) set (literal_at steps place) known.negations member in
      clash clauses steps negation.0 place trail negation.1 step.within (sym negation.2);
  others = All-weaker
      (λ other. (other ≡ literal_at steps place) ⊎ IsCovered steps kept marks place other)
      (λ other. (other ≡ literal_at steps place) ⊎ Contains set other)
      (λ other there. elim there [
        | inl same ↦ inl same
        | inr covered ↦ inr (covered_in steps kept marks (place ∷ rest) set place other known (none_below place rest rising) covered)
      ])
      step.clause
      step.others;
}

set-push : (steps : Steps) (kept marks rest set : List ℕ) (place : ℕ) → place < size_of steps → IsSet steps kept marks (place ∷ rest) set →
    IsSet steps kept marks rest (set ++ opposite (literal_at steps place) ∷ [])
set-push steps kept marks rest set place within known =
    let new = opposite (literal_at steps place) in
    record {
      negations = All-push (IsNegation steps) set new known.negations (place, within, refl);
      kept_in = λ other member. Contains-append_left set (new ∷ []) (negation_at steps other) (known.kept_in other member);
      marks_in = λ other mark. elim (known.marks_in other mark) [
        | inl member ↦ inl (Contains-append_left set (new ∷ []) (opposite (literal_at steps other)) member)
        | inr later ↦ elim (contains-cons place rest other later) [
          | inl same ↦ inl (subst (λ (p : ℕ). Contains (set ++ new ∷ []) (opposite (literal_at steps p))) same (Contains-push set new))
          | inr rest' ↦ inr rest'
        ]
      ];
    }

passes-rest : (clauses : Numbered ℕ) (steps : Steps) (number : ℕ) (kept marks rest set : List ℕ) → IsTrail clauses steps → IsClosed clauses steps number kept marks →
    IsSet steps kept marks rest set → AllPairs (λ p q. p < q) rest → All (IsStep clauses steps kept marks) rest →
    Passes opposite (clause_of clauses) set (hints_of steps rest number)
passes-rest clauses steps number kept marks [] set trail closed known rising explained = (
  closed.clause,
  closed.live,
  All-weaker (IsCovered steps kept marks (size_of steps)) (Contains set)
      (λ literal covered. covered_in steps kept marks [] set (size_of steps) literal known (λ place below member. no_member place member) covered)
      closed.clause closed.covered,
)
passes-rest clauses steps number kept marks (place ∷ rest) set trail closed known rising explained =
    let step = All-head (IsStep clauses steps kept marks) place rest explained in
    passes-cons (clause_of clauses) set (reason_at steps place) (hints_of steps rest number) step.clause (literal_at steps place) step.live
    (left_of clauses steps kept marks rest set place trail step known rising)
    (passes-rest clauses steps number kept marks rest (set ++ opposite (literal_at steps place) ∷ []) trail closed
    (set-push steps kept marks rest set place step.within known)
    (pairs-tail (λ p q. p < q) place rest rising)
    (All-tail (IsStep clauses steps kept marks) place rest explained))

-- a lemma of closed places passes
pub closed-passes : (clauses : Numbered ℕ) (steps : Steps) (number : ℕ) (kept marks : List ℕ) → IsTrail clauses steps → IsClosed clauses steps number kept marks →
    Passes opposite (clause_of clauses) (lemma_of steps kept) (hints_of steps marks number)
closed-passes clauses steps number kept marks trail closed =
    let lemma = lemma_of steps kept in
    let known : IsSet steps kept marks marks lemma = record {
      negations = all_members (IsNegation steps) lemma (λ literal member.
          let found = from_map (negation_at steps) kept literal member in
          (found.0, All-contains (λ p. p < size_of steps) kept found.0 closed.within found.1, sym found.2));
      kept_in = λ place member. contains-map (negation_at steps) kept place member;
      marks_in = λ place mark. inr mark;
    } in
    passes-rest clauses steps number kept marks marks lemma trail closed known closed.rising closed.each

-- a covered literal is not true
covered_false : (clauses : Numbered ℕ) (steps : Steps) (kept marks : List ℕ) (end place : ℕ) → IsTrail clauses steps → end ≤ size_of steps → place < size_of steps →
    IsCovered steps kept marks end (literal_at steps place) → ⊥
covered_false clauses steps kept marks end place trail low within covered =
    clash clauses steps covered.0 place trail (omega (arith, covered.1)) within (sym covered.2)

-- the reasons of two places differ
reasons_differ : (clauses : Numbered ℕ) (steps : Steps) (kept marks : List ℕ) (place next : ℕ) → IsTrail clauses steps →
    IsStep clauses steps kept marks place → IsStep clauses steps kept marks next → place < next → reason_at steps place ≢ reason_at steps next
reasons_differ clauses steps kept marks place next trail here there order same =
    let clause : here.clause ≡ there.clause =
    let e : Some here.clause ≡ Some there.clause = sym here.live ∙ ap (clause_of clauses) same ∙ there.live in cc in
    let member : Contains here.clause (literal_at steps next) = subst (λ (c : List ℕ). Contains c (literal_at steps next)) (sym clause) there.own in
    elim (All-contains (λ other. (other ≡ literal_at steps place) ⊎ IsCovered steps kept marks place other) here.clause (literal_at steps next) here.others member) [
      | inl one ↦ let e = one_place clauses steps next place trail there.within here.within one in omega arith
      | inr covered ↦ covered_false clauses steps kept marks place next trail (omega (arith, here.within)) there.within covered
    ]

-- and from that of the conflict
conflict_differs : (clauses : Numbered ℕ) (steps : Steps) (number : ℕ) (kept marks : List ℕ) (place : ℕ) → IsTrail clauses steps → IsClosed clauses steps number kept marks →
    IsStep clauses steps kept marks place → reason_at steps place ≢ number
conflict_differs clauses steps number kept marks place trail closed here same =
    let clause : here.clause ≡ closed.clause =
    let e : Some here.clause ≡ Some closed.clause = sym here.live ∙ ap (clause_of clauses) same ∙ closed.live in cc in
    let member : Contains closed.clause (literal_at steps place) = subst (λ (c : List ℕ). Contains c (literal_at steps place)) clause here.own in
    covered_false clauses steps kept marks (size_of steps) place trail (omega arith) here.within
    (All-contains (IsCovered steps kept marks (size_of steps)) closed.clause (literal_at steps place) closed.covered member)

hints_once_rest : (clauses : Numbered ℕ) (steps : Steps) (number : ℕ) (kept marks rest : List ℕ) → IsTrail clauses steps → IsClosed clauses steps number kept marks →
    AllPairs (λ p q. p < q) rest → All (IsStep clauses steps kept marks) rest → AllPairs (λ hint other. hint ≢ other) (hints_of steps rest number)
hints_once_rest clauses steps number kept marks [] trail closed rising explained = λ i j d order within. absurd (omega arith)
hints_once_rest clauses steps number kept marks (place ∷ rest) trail closed rising explained =
    let step = All-head (IsStep clauses steps kept marks) place rest explained in
    let steps_behind = All-tail (IsStep clauses steps kept marks) place rest explained in
    let differs = λ (hint : ℕ). reason_at steps place ≢ hint in
    AllPairs-cons (λ hint other. hint ≢ other) (reason_at steps place) (hints_of steps rest number)
    (All-append differs (map (λ p. reason_at steps p) rest) (number ∷ [])
    (All-map differs (λ p. reason_at steps p) rest
    (λ k d within. reasons_differ clauses steps kept marks place (get_or rest k d) trail step (steps_behind k d within) (pairs-head (λ p q. p < q) place rest rising k d within)))
    (All-cons differs number [] (conflict_differs clauses steps number kept marks place trail closed step) (All-nil differs)))
    (hints_once_rest clauses steps number kept marks rest trail closed (pairs-tail (λ p q. p < q) place rest rising) steps_behind)

-- no hint stands twice
pub hints_once : (clauses : Numbered ℕ) (steps : Steps) (number : ℕ) (kept marks : List ℕ) → IsTrail clauses steps → IsClosed clauses steps number kept marks →
    AllPairs (λ hint other. hint ≢ other) (hints_of steps marks number)
hints_once clauses steps number kept marks trail closed = hints_once_rest clauses steps number kept marks marks trail closed closed.rising closed.each
