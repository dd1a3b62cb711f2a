-- What is worked off along a trail: as the trail grows, and as a clause watches another pair.
use Rattle.std.proofs.Common.{◌≡◌, ◌≢◌, ℕ, ◌<◌, ◌≤◌, List, [], ◌∷◌, ◌++◌, length, set, Some, subst, inl, inr, refl, sym, ap, ◌∙◌}
use Rattle.std.specs.List.{Contains}
use Rattle.std.proofs.lemmas.Bool.{cases_eq}
use Rattle.std.proofs.lemmas.List.{get_or-set_same, get_or-set_other}
use Rattle.std.proofs.lemmas.List.Elements.{Contains-append_left}
use Rattle.clauses.specs.Live.{Numbered, clause_of}
use Rattle.cdcl_trail.specs.Literals.{opposite}
use Rattle.cdcl_trail.specs.Path.{Path, pushed, start_of}
use Rattle.cdcl_propagation.specs.declared.watch.Pair.{Pair}
use Rattle.cdcl_propagation.specs.State.{HasEnded}
use Rattle.cdcl_propagation.specs.Watching.{no_pair, pair_of, Watches, IsPaired, IsWorked, AreLevelsWorked}
use Rattle.cdcl_propagation.proofs.Members.{contains_cases, true-more, take_grown}

pub worked-more : (clauses : Numbered ℕ) (pairs : List Pair) (done trail more : List ℕ) → IsWorked clauses pairs done trail → IsWorked clauses pairs done (trail ++ more)
worked-more clauses pairs done trail more worked = record {
  satisfied = λ number clause literal live watches at. true-more trail more clause (worked.satisfied number clause literal live watches at);
  single = λ number clause live same. Contains-append_left trail more (pair_of pairs number).first (worked.single number clause live same);
}

-- where all is worked off along all of a trail, propagation has ended
pub ended : (clauses : Numbered ℕ) (pairs : List Pair) (codes : ℕ) (trail : List ℕ) → IsPaired clauses pairs codes → IsWorked clauses pairs trail trail → HasEnded clauses trail
ended clauses pairs codes trail paired worked number clause live =
    let pair = pair_of pairs number in
    let first = paired.first number clause live in
    let second = paired.second number clause live in
    elim (cases_eq pair.first pair.second) [
      | inl same ↦ inl (pair.first, first, worked.single number clause live same)
      | inr differs ↦
          elim (contains_cases trail (opposite pair.first)) [
            | inl falsified ↦ inl (worked.satisfied number clause pair.first live (inl refl) falsified)
            | inr not_false ↦
                elim (contains_cases trail (opposite pair.second)) [
                  | inl falsified ↦ inl (worked.satisfied number clause pair.second live (inr refl) falsified)
                  | inr open_too ↦ inr (pair.first, pair.second, first, second, differs, not_false, open_too)
                ]
          ]
    ]

-- the pair of the clause that moved, and of the others
pub pair_here : (pairs : List Pair) (number other : ℕ) (new : Pair) → number < length pairs → other ≡ number → pair_of (set pairs number new) other ≡ new
pair_here pairs number other new within same = rw same (get_or-set_same pairs number new no_pair within)

pub pair_there : (pairs : List Pair) (number other : ℕ) (new : Pair) → other ≢ number → pair_of (set pairs number new) other ≡ pair_of pairs other
pair_there pairs number other new differs = get_or-set_other pairs number other new no_pair differs

pub worked-moved : (clauses : Numbered ℕ) (pairs : List Pair) (number : ℕ) (new : Pair) (done held trail : List ℕ) → number < length pairs → new.first ≢ new.second
    → Watches (pair_of pairs number) new.second → (Contains trail (opposite new.first) → ⊥) → ((literal : ℕ) → Contains done literal → Contains trail literal)
    → IsWorked clauses pairs done held → IsWorked clauses (set pairs number new) done held
worked-moved clauses pairs number new done held trail within differs watched not_false part worked = record {
  satisfied = λ other clause literal live watches at.
      elim (cases_eq other number) [
        | inl same ↦
            let live_here : clause_of clauses number ≡ Some clause = sym (ap (λ n. clause_of clauses n) same) ∙ live in
            let P : Pair → Type 0 = λ pair. Watches pair literal in
            elim (subst P (pair_here pairs number other new within same) watches) [
              | inl first ↦ absurd (not_false (rw first (part (opposite literal) at)))
              | inr second ↦
                  let Q : ℕ → Type 0 = λ l. Watches (pair_of pairs number) l in
                  worked.satisfied number clause literal live_here (subst Q second watched) at
            ]
        | inr others ↦
            let P : Pair → Type 0 = λ pair. Watches pair literal in
            worked.satisfied other clause literal live (subst P (pair_there pairs number other new others) watches) at
      ];
  single = λ other clause live is_single.
      elim (cases_eq other number) [
        | inl same ↦
            let at = pair_here pairs number other new within same in
            absurd (differs (sym (ap (λ (p : Pair). p.first) at) ∙ is_single ∙ ap (λ (p : Pair). p.second) at))
        | inr others ↦
            let at = pair_there pairs number other new others in
            rw at (worked.single other clause live (rw at at is_single))
      ];
}

-- the levels of a trail that grew
pub levels-pushed : (clauses : Numbered ℕ) (pairs : List Pair) (path : Path) (literal reason : ℕ) → ((level : ℕ) → level < length path.limits → start_of path level ≤ length path.literals)
    → AreLevelsWorked clauses pairs path → AreLevelsWorked clauses pairs (pushed path literal reason)
levels-pushed clauses pairs path literal reason begun levels level within =
    rw (take_grown path.literals (literal ∷ []) (start_of path level) (begun level within)) (levels level within)
