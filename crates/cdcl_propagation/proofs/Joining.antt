-- A clause more, with the pair that it watches.
use Rattle.std.proofs.Common.{◌≡◌, ◌≢◌, ℕ, zero, suc, ◌+◌, ◌-◌, ◌*◌, ◌<◌, List, [], ◌∷◌, ◌++◌, length, get_or, set, take, Option, Some, None, subst, ◌⊎◌, inl, inr, refl, sym, ap, ◌∙◌, arith}
use Rattle.std.specs.List.{All, Contains}
use Rattle.std.proofs.lemmas.Bool.{cases_eq, cases_lt}
use Rattle.std.proofs.lemmas.List.{set-get_or, set-set, take_at, get_or-set_same, get_or-set_other, length_push, get_or_append_left, get_or_past, get_or_push}
use Rattle.std.proofs.lemmas.List.Elements.{All-push, All-weaker, Contains-push}
use Rattle.clauses.specs.Live.{Numbered, clause_of}
use Rattle.cdcl_trail.specs.Literals.{opposite}
use Rattle.cdcl_trail.specs.Path.{Path, literals_to}
use Rattle.cdcl_propagation.specs.declared.watch.Pair.{Pair}
use Rattle.cdcl_propagation.specs.declared.watch.Watch.{Watch}
use Rattle.cdcl_propagation.specs.State.{HasReasons}
use Rattle.cdcl_propagation.specs.Watching.{no_pair, pair_of, list_of, Watches, AreOthers, HasTrue, Names, IsEntry, IsWatched}
use Rattle.cdcl_propagation.specs.Adding.{with_entry}

-- a clause that was live is so with a clause more
pub live-more : (clauses : Numbered ℕ) (new : Option (List ℕ)) (number : ℕ) (clause : List ℕ) → clause_of clauses number ≡ Some clause → clause_of (clauses ++ new ∷ []) number ≡ Some clause
live-more clauses new zero clause live = cc
live-more clauses new (suc place) clause live =
    elim (cases_lt place (length clauses)) [
      | inl within ↦ get_or_append_left clauses (new ∷ []) None place within ∙ live
      | inr past ↦ let none = get_or_past clauses place None past in cc
    ]

-- a live clause was so before, or is the new one
pub live-cases : (clauses : Numbered ℕ) (new : Option (List ℕ)) (number : ℕ) (clause : List ℕ) → clause_of (clauses ++ new ∷ []) number ≡ Some clause
    → ((clause_of clauses number ≡ Some clause) × (number < suc (length clauses))) ⊎ ((number ≡ suc (length clauses)) × (new ≡ Some clause))
live-cases clauses new zero clause live = cc
live-cases clauses new (suc place) clause live =
    elim (cases_lt place (length clauses)) [
      | inl within ↦ inl (sym (get_or_append_left clauses (new ∷ []) None place within) ∙ live, omega arith)
      | inr past ↦
          elim (cases_eq place (length clauses)) [
            | inl same ↦ inr (ap suc same, sym (get_or_push clauses new None place (sym same)) ∙ live)
            | inr differs ↦ let none = get_or_past (clauses ++ new ∷ []) place None (omega (arith, length_push clauses new)) in cc
          ]
    ]

-- what has to hold of the new clause, if there is one
pub record Joins (clause : List ℕ) (pair : Pair) (lists : List (List Watch)) (path : Path) (head number : ℕ) : Type 0 where
  pub within : All (λ literal. literal < 2 * path.variables) clause
  pub first : Contains clause pair.first
  pub second : Contains clause pair.second
  pub alone : pair.first ≡ pair.second → All (λ literal. literal ≡ pair.first) clause
  pub others : AreOthers clause pair
  pub listed : (literal : ℕ) → pair.first ≢ pair.second → Watches pair literal → Names (list_of lists literal) number
  pub satisfied : (literal : ℕ) → Watches pair literal → Contains (take head path.literals) (opposite literal) → HasTrue path.literals clause
  pub single : pair.first ≡ pair.second → Contains path.literals pair.first
  pub levels : (level literal : ℕ) → level < length path.limits → Watches pair literal → Contains (literals_to path level) (opposite literal) → HasTrue (literals_to path level) clause
  pub single_levels : (level : ℕ) → level < length path.limits → pair.first ≡ pair.second → Contains (literals_to path level) pair.first

pub added : (clauses : Numbered ℕ) (pairs : List Pair) (lists lists' : List (List Watch)) (path : Path) (head : ℕ) (new : Option (List ℕ)) (pair : Pair)
    → IsWatched clauses pairs lists path head → length lists' ≡ 2 * path.variables → (pair.first < 2 * path.variables) × (pair.second < 2 * path.variables)
    → ((literal : ℕ) → All (IsEntry (clauses ++ new ∷ []) (length (pairs ++ pair ∷ [])) (2 * path.variables) literal) (list_of lists' literal))
    → ((literal number : ℕ) → Names (list_of lists literal) number → Names (list_of lists' literal) number)
    → ((clause : List ℕ) → new ≡ Some clause → Joins clause pair lists' path head (suc (length clauses)))
    → IsWatched (clauses ++ new ∷ []) (pairs ++ pair ∷ []) lists' path head
added clauses pairs lists lists' path head new pair at size below entries more joins = record {
  paired = record {
    size = omega (arith, length_push clauses new, length_push pairs pair, at.paired.size);
    first = λ number clause live. by_number number clause live (λ p c. Contains c p.first) (λ was. at.paired.first number clause was) (λ is. (joins clause is.1).first);
    second = λ number clause live. by_number number clause live (λ p c. Contains c p.second) (λ was. at.paired.second number clause was) (λ is. (joins clause is.1).second);
    single = λ number clause live.
        by_number number clause live (λ p c. p.first ≡ p.second → All (λ literal. literal ≡ p.first) c) (λ was. at.paired.single number clause was) (λ is. (joins clause is.1).alone);
    others = λ number clause live. by_number number clause live (λ p c. AreOthers c p) (λ was. at.paired.others number clause was) (λ is. (joins clause is.1).others);
    within = λ number some inside. pairs_within number some inside;
  };
  within = λ number clause live. by_number number clause live (λ p c. All (λ literal. literal < 2 * path.variables) c) (λ was. at.within number clause was) (λ is. (joins clause is.1).within);
  size = size;
  entries = entries;
  listed = λ number clause literal live.
      by_number number clause live (λ p c. p.first ≢ p.second → Watches p literal → Names (list_of lists' literal) number)
      (λ was differs watches. more literal number (at.listed number clause literal was differs watches))
      (λ is differs watches. rw is.0 ((joins clause is.1).listed literal differs watches));
  inside = at.inside;
  reasons = at.reasons;
  begun = at.begun;
  worked = record {
    satisfied = λ number clause literal live.
        by_number number clause live (λ p c. Watches p literal → Contains (take head path.literals) (opposite literal) → HasTrue path.literals c)
        (λ was. at.worked.satisfied number clause literal was)
        (λ is. (joins clause is.1).satisfied literal);
    single = λ number clause live.
        by_number number clause live (λ p c. p.first ≡ p.second → Contains path.literals p.first) (λ was. at.worked.single number clause was) (λ is. (joins clause is.1).single);
  };
  levels = λ level inside. record {
    satisfied = λ number clause literal live.
        by_number number clause live (λ p c. Watches p literal → Contains (literals_to path level) (opposite literal) → HasTrue (literals_to path level) c)
        (λ was. (at.levels level inside).satisfied number clause literal was)
        (λ is. (joins clause is.1).levels level literal inside);
    single = λ number clause live.
        by_number number clause live (λ p c. p.first ≡ p.second → Contains (literals_to path level) p.first) (λ was. (at.levels level inside).single number clause was) (λ is. (joins clause is.1).single_levels level inside);
  };
}
  where
    old_pair : (number : ℕ) → number < length pairs → pair_of (pairs ++ pair ∷ []) number ≡ pair_of pairs number
    old_pair number inside = get_or_append_left pairs (pair ∷ []) no_pair number inside

    new_pair : (number : ℕ) → number ≡ suc (length clauses) → pair_of (pairs ++ pair ∷ []) number ≡ pair
    new_pair number is = get_or_push pairs pair no_pair number (omega (arith, at.paired.size))

    by_number : (number : ℕ) (clause : List ℕ) → clause_of (clauses ++ new ∷ []) number ≡ Some clause → (P : Pair → List ℕ → Type 0)
        → (clause_of clauses number ≡ Some clause → P (pair_of pairs number) clause) → ((number ≡ suc (length clauses)) × (new ≡ Some clause) → P pair clause)
        → P (pair_of (pairs ++ pair ∷ []) number) clause
    by_number number clause live P before now =
        let Q : Pair → Type 0 = λ p. P p clause in
        elim (live-cases clauses new number clause live) [
          | inl was ↦ subst Q (sym (old_pair number (omega (arith, at.paired.size, was.1)))) (before was.0)
          | inr is ↦ subst Q (sym (new_pair number is.0)) (now is)
        ]

    pairs_within : (number : ℕ) → 0 < number → number < length (pairs ++ pair ∷ []) → ((pair_of (pairs ++ pair ∷ []) number).first < 2 * path.variables) × ((pair_of (pairs ++ pair ∷ []) number).second < 2 * path.variables)
    pairs_within number some inside =
        let Q : Pair → Type 0 = λ p. (p.first < 2 * path.variables) × (p.second < 2 * path.variables) in
        elim (cases_lt number (length pairs)) [
          | inl before ↦ subst Q (sym (old_pair number before)) (at.paired.within number some before)
          | inr last ↦ subst Q (sym (new_pair number (omega (arith, at.paired.size, length_push pairs pair)))) below
        ]

-- an entry stays right with a clause more
pub entry-more : (clauses : Numbered ℕ) (new : Option (List ℕ)) (size codes literal : ℕ) (watch : Watch) → size ≡ suc (length clauses) → IsEntry clauses size codes literal watch
    → IsEntry (clauses ++ new ∷ []) (size + 1) codes literal watch
entry-more clauses new size codes literal watch same is = record {
  some = is.some;
  number = let below = is.number in omega arith;
  within = is.within;
  blocks = λ clause live.
      elim (live-cases clauses new watch.number clause live) [ inl was ↦ is.blocks clause was.0 | inr now ↦ let below = is.number in absurd (omega (arith, now.0)) ];
  short = λ short.
      let was = is.short short in
      record { clause = was.clause; live = live-more clauses new watch.number was.clause was.live; short = was.short; others = was.others };
}

pub entries-more : (clauses : Numbered ℕ) (pairs : List Pair) (new : Option (List ℕ)) (pair : Pair) (codes literal : ℕ) (list : List Watch) → length pairs ≡ suc (length clauses)
    → All (IsEntry clauses (length pairs) codes literal) list → All (IsEntry (clauses ++ new ∷ []) (length (pairs ++ pair ∷ [])) codes literal) list
entries-more clauses pairs new pair codes literal list same all =
    rw (length_push pairs pair)
    (All-weaker (IsEntry clauses (length pairs) codes literal) (IsEntry (clauses ++ new ∷ []) (length pairs + 1) codes literal) (λ watch is. entry-more clauses new (length pairs) codes literal watch same is) list all)

-- an entry more in one list
pub entries-with : (lists : List (List Watch)) (place : ℕ) (watch : Watch) (P : ℕ → Watch → Type 0) → place < length lists → ((literal : ℕ) → All (P literal) (list_of lists literal)) → P place watch
    → (literal : ℕ) → All (P literal) (list_of (with_entry lists place watch) literal)
entries-with lists place watch P within all is literal =
    elim (cases_eq literal place) [
      | inl same ↦ rw (same, get_or-set_same lists place (list_of lists place ++ watch ∷ []) [] within) (All-push (P place) (list_of lists place) watch (all place) is)
      | inr differs ↦ rw (get_or-set_other lists place literal (list_of lists place ++ watch ∷ []) [] differs) (all literal)
    ]

pub named-with : (lists : List (List Watch)) (place : ℕ) (watch : Watch) → place < length lists → Names (list_of (with_entry lists place watch) place) watch.number
named-with lists place watch within =
    rw (get_or-set_same lists place (list_of lists place ++ watch ∷ []) [] within) (watch, Contains-push (list_of lists place) watch, refl)

-- reasons stay with a clause more
pub reasons-more : (clauses : Numbered ℕ) (path : Path) (new : Option (List ℕ)) → HasReasons clauses path → HasReasons (clauses ++ new ∷ []) path
reasons-more clauses path new reasons place within =
    elim (reasons place within) [
      | inl limit ↦ inl limit
      | inr has ↦ inr record { clause = has.clause; live = live-more clauses new (get_or path.reasons place 0) has.clause has.live; stands = has.stands; others = has.others }
    ]

without_last : (list : List Watch) (watch : Watch) → take (length (list ++ watch ∷ []) - 1) (list ++ watch ∷ []) ≡ list
without_last list watch =
    let size : length (list ++ watch ∷ []) - 1 ≡ length list = omega (arith, length_push list watch) in
    rw size (take_at list (watch ∷ []) (length list) refl)

-- an entry was put into a list and taken away again
pub restored : (lists : List (List Watch)) (first second : ℕ) (one two gone : List Watch) (watch : Watch) → first < length lists → one ≡ list_of lists first ++ watch ∷ []
    → two ≡ list_of (set lists first one) second
    → gone ≡ take (length (list_of (set (set lists first one) second two) first) - 1) (list_of (set (set lists first one) second two) first)
    → set (set (set lists first one) second two) first gone ≡ lists
restored lists first second one two gone watch within added same taken =
    let there : set (set lists first one) second two ≡ set lists first one = ap (λ l. set (set lists first one) second l) same ∙ set-get_or (set lists first one) second [] in
    let one_there : list_of (set lists first one) first ≡ one = get_or-set_same lists first one [] within in
    let was : gone ≡ list_of lists first =
    taken ∙ ap (λ ls. take (length (list_of ls first) - 1) (list_of ls first)) there ∙ ap (λ l. take (length l - 1) l) (one_there ∙ added) ∙ without_last (list_of lists first) watch in
    ap (λ ls. set ls first gone) there ∙ set-set lists first one gone ∙ ap (λ l. set lists first l) was ∙ set-get_or lists first []
