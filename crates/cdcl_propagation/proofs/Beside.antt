-- The literals beside a pair, as the clause comes to watch one of them.
use Rattle.std.proofs.Common.{◌≡◌, ℕ, suc, true, List, [], ◌∷◌, map, cond, eqb, subst, inl, inr, refl, ap, sym, ◌∙◌, arith}
use Rattle.std.specs.List.{All, Contains}
use Rattle.std.proofs.lemmas.Bool.{cases_eq, cond-true, cond-false, cond_both, eq-eqb, ne_eqb}
use Rattle.std.proofs.lemmas.List.Elements.{All-map, All-weaker, All-contains}
use Rattle.cdcl_propagation.specs.declared.watch.Pair.{Pair}
use Rattle.cdcl_propagation.specs.declared.watch.Others.{Others}
use Rattle.cdcl_propagation.specs.Watching.{spares_of, Watches, IsAmong, AreOthers, IsPairOf}
use Rattle.cdcl_propagation.proofs.Members.{first_or_later}

contains-map : (f : ℕ → ℕ) (xs : List ℕ) (x : ℕ) → Contains xs x → Contains (map f xs) (f x)
contains-map f [] x member = absurd (omega (arith, member.1))
contains-map f (first ∷ xs) x member =
    elim (first_or_later first xs x member) [
      | inl here ↦ (0, omega arith, ap f here)
      | inr there ↦
          let later = contains-map f xs x there in
          (suc later.0, omega (arith, later.1), later.2)
    ]

-- a literal, or another one in its place where it is the one that is watched
abbrev exchange : ℕ → ℕ → ℕ → ℕ
exchange watched literal spare = cond (eqb spare watched) literal spare

exchange_stands : (clause : List ℕ) (watched literal spare : ℕ) → Contains clause literal → Contains clause spare → Contains clause (exchange watched literal spare)
exchange_stands clause watched literal spare stands is = cond_both (eqb spare watched) literal spare (Contains clause) (λ same. stands) (λ differs. is)

watched_among : (pair : Pair) (literal other found : ℕ) (others : Others) → IsPairOf pair literal other → Contains (spares_of others) literal → (one : ℕ) → Watches pair one
    → IsAmong record { first = found; second = other; others = others } one
watched_among pair literal other found others (inl both) there one (inl is) = inr (subst (Contains (spares_of others)) (sym both.0 ∙ is) there)
watched_among pair literal other found others (inl both) there one (inr is) = inl (inr (sym both.1 ∙ is))
watched_among pair literal other found others (inr both) there one (inl is) = inl (inr (sym both.0 ∙ is))
watched_among pair literal other found others (inr both) there one (inr is) = inr (subst (Contains (spares_of others)) (sym both.1 ∙ is) there)

-- one of the others is watched in place of a literal, which stands among the others then
pub others-exchanged : (clause : List ℕ) (pair : Pair) (literal other found : ℕ) (others : Others) → AreOthers clause pair → IsPairOf pair literal other → Contains clause literal
    → Contains (spares_of pair.others) found → spares_of others ≡ map (exchange found literal) (spares_of pair.others) → others.is_whole ≡ pair.others.is_whole
    → AreOthers clause record { first = found; second = other; others = others }
others-exchanged clause pair literal other found others are is stands there spares whole = record {
  stand =
      subst (All (Contains clause)) (sym spares)
      (All-map (Contains clause) (exchange found literal) (spares_of pair.others)
      (All-weaker (Contains clause) (λ spare. Contains clause (exchange found literal spare)) (λ spare stays. exchange_stands clause found literal spare stands stays) (spares_of pair.others) are.stand));
  whole = λ yes. All-weaker (IsAmong pair) (IsAmong record { first = found; second = other; others = others }) among clause (are.whole (sym whole ∙ yes));
}
  where
    moved : (spare : ℕ) → Contains (spares_of pair.others) spare → Contains (spares_of others) (exchange found literal spare)
    moved spare at = subst (λ (list : List ℕ). Contains list (exchange found literal spare)) (sym spares) (contains-map (exchange found literal) (spares_of pair.others) spare at)

    literal_there : Contains (spares_of others) literal
    literal_there = subst (Contains (spares_of others)) (cond-true (eqb found found) literal found (eq-eqb found found refl)) (moved found there)

    among : (one : ℕ) → IsAmong pair one → IsAmong record { first = found; second = other; others = others } one
    among one (inl watches) = watched_among pair literal other found others is literal_there one watches
    among one (inr spare) =
        elim (cases_eq one found) [
          | inl same ↦ inl (inl (sym same))
          | inr differs ↦ inr (subst (Contains (spares_of others)) (cond-false (eqb one found) literal one (ne_eqb one found differs)) (moved one spare))
        ]

-- nothing but the other watched literal is not false, where that holds of the others and they are all that the clause has
pub others-false : (P : ℕ → Type 0) (clause : List ℕ) (pair : Pair) (literal other : ℕ) → AreOthers clause pair → IsPairOf pair literal other → pair.others.is_whole ≡ true
    → P literal → P other → All P (spares_of pair.others) → All P clause
others-false P clause pair literal other are is whole here there all = All-weaker (IsAmong pair) P holds clause (are.whole whole)
  where
    watched : IsPairOf pair literal other → (one : ℕ) → Watches pair one → P one
    watched (inl both) one (inl is) = subst P (sym both.0 ∙ is) here
    watched (inl both) one (inr is) = subst P (sym both.1 ∙ is) there
    watched (inr both) one (inl is) = subst P (sym both.0 ∙ is) there
    watched (inr both) one (inr is) = subst P (sym both.1 ∙ is) here

    holds : (one : ℕ) → IsAmong pair one → P one
    holds one (inl watches) = watched is one watches
    holds one (inr spare) = All-contains P (spares_of pair.others) one all spare
