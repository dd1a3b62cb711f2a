-- A clause less.
use Rattle.std.proofs.Common.{◌≡◌, ◌≢◌, ℕ, zero, suc, ◌-◌, ◌*◌, ◌<◌, List, [], ◌∷◌, length, get_or, set, Option, Some, None, IsSomeAnd, inl, inr, refl, sym, ap, ◌∙◌, arith}
use Rattle.std.specs.List.{All}
use Rattle.std.proofs.lemmas.Bool.{cases_eq, cases_lt}
use Rattle.std.proofs.lemmas.List.{get_or-set_same, get_or-set_other, get_or_past, length-set}
use Rattle.std.proofs.lemmas.List.Elements.{All-weaker}
use Rattle.clauses.specs.Live.{Numbered, clause_of}
use Rattle.cdcl_trail.specs.Path.{Path}
use Rattle.cdcl_propagation.specs.declared.watch.Pair.{Pair}
use Rattle.cdcl_propagation.specs.declared.watch.Watch.{Watch}
use Rattle.cdcl_propagation.specs.State.{HasReasons}
use Rattle.cdcl_propagation.specs.Watching.{list_of, IsEntry, IsWatched}
use Rattle.cdcl_propagation.proofs.Members.{one_some}

-- the place of a live clause is within
pub live_within : (clauses : Numbered ℕ) (place : ℕ) (clause : List ℕ) → get_or clauses place None ≡ Some clause → place < length clauses
live_within [] place clause live = cc
live_within (first ∷ clauses) zero clause live = omega arith
live_within (first ∷ clauses) (suc place) clause live = let rest = live_within clauses place clause live in omega arith

-- a clause of more than two literals
pub long_clause : (found : Option (List ℕ)) → IsSomeAnd found (λ clause. 2 < length clause) → (clause : List ℕ) × (found ≡ Some clause) × (2 < length clause)
long_clause None is = absurd is
long_clause (Some clause) is = (clause, refl, is)

-- nothing has the number 0
none_zero : (clauses : Numbered ℕ) (number : ℕ) (gone : List ℕ) → clause_of clauses number ≡ Some gone → number ≡ 0 → ⊥
none_zero clauses zero gone is zero_ = cc
none_zero clauses (suc place) gone is zero_ = omega arith

abbrev pub dropped : Numbered ℕ → ℕ → Numbered ℕ
dropped clauses number = set clauses (number - 1) None

-- what is live without a clause was so before, and is another one
was_live : (clauses : Numbered ℕ) (number : ℕ) (gone : List ℕ) → clause_of clauses number ≡ Some gone → (other : ℕ) (clause : List ℕ) → clause_of (dropped clauses number) other ≡ Some clause
    → (clause_of clauses other ≡ Some clause) × (other ≢ number)
was_live clauses zero gone is other clause live = cc
was_live clauses (suc place) gone is zero clause live = cc
was_live clauses (suc place) gone is (suc other) clause live =
    let one : suc place - 1 ≡ place = omega arith in
    let live_there : get_or (set clauses place None) other None ≡ Some clause = rw one at live in
    elim (cases_eq other place) [
      | inl same ↦
          let none = get_or-set_same clauses place None None (live_within clauses place gone is) in
          let here : get_or (set clauses place None) place None ≡ Some clause = sym (ap (λ n. get_or (set clauses place None) n None) same) ∙ live_there in
          cc
      | inr differs ↦ (sym (get_or-set_other clauses place other None None differs) ∙ live_there, λ same. differs (omega arith))
    ]

still_live : (clauses : Numbered ℕ) (number : ℕ) (gone : List ℕ) → clause_of clauses number ≡ Some gone → (other : ℕ) (clause : List ℕ) → clause_of clauses other ≡ Some clause → other ≢ number
    → clause_of (dropped clauses number) other ≡ Some clause
still_live clauses zero gone is other clause live differs = cc
still_live clauses (suc place) gone is zero clause live differs = cc
still_live clauses (suc place) gone is (suc other) clause live differs =
    let one : suc place - 1 ≡ place = omega arith in
    rw one (get_or-set_other clauses place other None None (λ same. differs (ap suc same)) ∙ live)

pub watched-dropped : (clauses : Numbered ℕ) (pairs : List Pair) (lists : List (List Watch)) (path : Path) (head number : ℕ) (gone : List ℕ) → clause_of clauses number ≡ Some gone → 2 < length gone
    → IsWatched clauses pairs lists path head → IsWatched (dropped clauses number) pairs lists path head
watched-dropped clauses pairs lists path head number gone is long at = record {
  paired = record {
    size = rw (length-set clauses (number - 1) None) at.paired.size;
    first = λ other clause live. at.paired.first other clause (was other clause live).0;
    second = λ other clause live. at.paired.second other clause (was other clause live).0;
    single = λ other clause live. at.paired.single other clause (was other clause live).0;
    others = λ other clause live. at.paired.others other clause (was other clause live).0;
    within = at.paired.within;
  };
  within = λ other clause live. at.within other clause (was other clause live).0;
  size = at.size;
  entries = λ literal. All-weaker (IsEntry clauses (length pairs) (2 * path.variables) literal) (IsEntry (dropped clauses number) (length pairs) (2 * path.variables) literal) (entry literal) (list_of lists literal) (at.entries literal);
  listed = λ other clause literal live. at.listed other clause literal (was other clause live).0;
  inside = at.inside;
  reasons = at.reasons;
  begun = at.begun;
  worked = record {
    satisfied = λ other clause literal live. at.worked.satisfied other clause literal (was other clause live).0;
    single = λ other clause live. at.worked.single other clause (was other clause live).0;
  };
  levels = λ level inside. record {
    satisfied = λ other clause literal live. (at.levels level inside).satisfied other clause literal (was other clause live).0;
    single = λ other clause live. (at.levels level inside).single other clause (was other clause live).0;
  };
}
  where
    was : (other : ℕ) (clause : List ℕ) → clause_of (dropped clauses number) other ≡ Some clause → (clause_of clauses other ≡ Some clause) × (other ≢ number)
    was other clause live = was_live clauses number gone is other clause live

    entry : (literal : ℕ) (watch : Watch) → IsEntry clauses (length pairs) (2 * path.variables) literal watch → IsEntry (dropped clauses number) (length pairs) (2 * path.variables) literal watch
    entry literal watch right = record {
      some = right.some;
      number = right.number;
      within = right.within;
      blocks = λ clause live. right.blocks clause (was watch.number clause live).0;
      short = λ short.
          let two = right.short short in
          let size = two.short in
          let differs : watch.number ≢ number = λ same. absurd (omega (arith, ap length (one_some (clause_of clauses number) two.clause gone (sym (ap (λ n. clause_of clauses n) same) ∙ two.live) is))) in
          record { clause = two.clause; live = still_live clauses number gone is watch.number two.clause two.live differs; short = two.short; others = two.others };
    }

pub reasons-dropped : (clauses : Numbered ℕ) (path : Path) (number : ℕ) (gone : List ℕ) → clause_of clauses number ≡ Some gone
    → All (λ reason. reason ≢ number) path.reasons → HasReasons clauses path → HasReasons (dropped clauses number) path
reasons-dropped clauses path number gone is unused reasons place within =
    elim (reasons place within) [
      | inl limit ↦ inl limit
      | inr has ↦
          inr record {
            clause = has.clause;
            live = still_live clauses number gone is (get_or path.reasons place 0) has.clause has.live (differs place);
            stands = has.stands;
            others = has.others;
          }
    ]
  where
    differs : (place : ℕ) → get_or path.reasons place 0 ≢ number
    differs place =
        elim (cases_lt place (length path.reasons)) [
          | inl within ↦ unused place 0 within
          | inr past ↦ λ same. absurd (none_zero clauses number gone is (sym same ∙ get_or_past path.reasons place 0 past))
        ]
