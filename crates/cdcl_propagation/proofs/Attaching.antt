-- Clauses that are added: watched by two literals or by one, or refused.
use Rattle.std.proofs.Common.{◌≡◌, ◌≢◌, ℕ, zero, suc, ◌+◌, ◌*◌, ◌<◌, ◌≤◌, Bool, true, List, [], ◌∷◌, ◌++◌, length, take, Some, None, subst, ◌⊎◌, inl, inr, eqb, refl, sym, ap, ◌∙◌, arith}
use Rattle.std.specs.List.{All, Contains}
use Rattle.std.specs.Prelude.{Result, Ok, Err, OnErr}
use Rattle.std.proofs.lemmas.List.{length-set, length_push, get_or_push, get_or_past, get_or_append_left}
use Rattle.std.proofs.lemmas.Bool.{cases_eq, cases_lt, eqb-true}
use Rattle.std.proofs.lemmas.List.Elements.{All-cons, All-nil, All-contains}
use Rattle.clauses.specs.Live.{Numbered, clause_of}
use Rattle.cdcl_trail.specs.Literals.{opposite}
use Rattle.cdcl_trail.specs.Path.{Path, pushed, start_of, literals_to}
use Rattle.cdcl_propagation.specs.declared.watch.Pair.{Pair}
use Rattle.cdcl_propagation.specs.declared.watch.Watch.{Watch}
use Rattle.cdcl_propagation.specs.declared.watch.Others.{Others}
use Rattle.cdcl_propagation.specs.Watching.{list_of, Watches, AreOthers, HasTrue, Names, IsEntry, IsWatched}
use Rattle.cdcl_propagation.specs.State.{State, HasReasons, CanWatch, CanLearn}
use Rattle.cdcl_propagation.specs.Adding.{with_entry, with_both, IsRefused, KeepsClauses}
use Rattle.cdcl_propagation.proofs.Members.{first_or_later, only_one, one_some, take_grown, take_part}
use Rattle.cdcl_propagation.proofs.Working.{worked-more, levels-pushed}
use Rattle.cdcl_propagation.proofs.Visiting.{list_more}
use Rattle.cdcl_propagation.proofs.Joining.{added, entries-more, entries-with, named-with, reasons-more}

-- the trail grows by a literal
pub watched-pushed : (clauses : Numbered ℕ) (pairs : List Pair) (lists : List (List Watch)) (path : Path) (head literal reason : ℕ)
    → IsWatched clauses pairs lists path head → IsWatched clauses pairs lists (pushed path literal reason) head
watched-pushed clauses pairs lists path head literal reason at = record {
  paired = at.paired;
  within = at.within;
  size = at.size;
  entries = at.entries;
  listed = at.listed;
  inside = let inside = at.inside in omega (arith, length_push path.literals literal);
  worked = rw (take_grown path.literals (literal ∷ []) head at.inside) (worked-more clauses pairs (take head path.literals) path.literals (literal ∷ []) at.worked);
  levels = levels-pushed clauses pairs path literal reason at.begun at.levels;
  reasons = omega (arith, length_push path.literals literal, length_push path.reasons reason, at.reasons);
  begun = λ level inside. let begun = at.begun level inside in omega (arith, length_push path.literals literal);
}

-- a clause of at most two literals, of which two differ, has no other
two_literals : (clause : List ℕ) (first second : ℕ) → length clause ≤ 2 → Contains clause first → Contains clause second → first ≢ second → All (λ other. (other ≡ first) ⊎ (other ≡ second)) clause
two_literals [] first second short has both differs = absurd (omega (arith, has.1))
two_literals (x ∷ []) first second short has both differs = absurd (differs (sym (only_one x first has) ∙ only_one x second both))
two_literals (x ∷ y ∷ []) first second short has both differs =
    let P : ℕ → Type 0 = λ other. (other ≡ first) ⊎ (other ≡ second) in
    elim (first_or_later x (y ∷ []) first has) [
      | inl is_first ↦
          elim (first_or_later x (y ∷ []) second both) [
            | inl is_second ↦ absurd (differs (sym is_first ∙ is_second))
            | inr later ↦ All-cons P x (y ∷ []) (inl is_first) (All-cons P y [] (inr (only_one y second later)) (All-nil P))
          ]
      | inr first_later ↦
          elim (first_or_later x (y ∷ []) second both) [
            | inl is_second ↦ All-cons P x (y ∷ []) (inr is_second) (All-cons P y [] (inl (only_one y first first_later)) (All-nil P))
            | inr later ↦ absurd (differs (sym (only_one y first first_later) ∙ only_one y second later))
          ]
    ]
two_literals (x ∷ y ∷ z ∷ rest) first second short has both differs = absurd (omega arith)

-- the entry of a new clause
new_entry : (clauses : Numbered ℕ) (clause : List ℕ) (size codes literal other : ℕ) (is_short : Bool) → size ≡ suc (suc (length clauses)) → All (λ l. l < codes) clause
    → Contains clause literal → Contains clause other → literal ≢ other → (is_short ≡ true → length clause ≤ 2)
    → IsEntry (clauses ++ Some clause ∷ []) size codes literal record { number = suc (length clauses); blocker = other; is_short = is_short }
new_entry clauses clause size codes literal other is_short same within has both differs short = record {
  some = omega arith;
  number = omega arith;
  within = All-contains (λ l. l < codes) clause other within both;
  blocks = λ found live. rw (one_some (clause_of (clauses ++ Some clause ∷ []) (suc (length clauses))) found clause live new_live) both;
  short = λ is. record { clause = clause; live = new_live; short = short is; others = two_literals clause literal other (short is) has both differs };
}
  where
    new_live : clause_of (clauses ++ Some clause ∷ []) (suc (length clauses)) ≡ Some clause
    new_live = get_or_push clauses (Some clause) None (length clauses) refl

-- the entry of a new clause, with a blocker, and the lists with the first of the two
abbrev entry_for : Numbered ℕ → ℕ → Bool → Watch
entry_for clauses blocker is_short = record { number = suc (length clauses); blocker = blocker; is_short = is_short }

abbrev with_first : Numbered ℕ → List (List Watch) → Pair → Bool → List (List Watch)
with_first clauses lists pair is_short = with_entry lists pair.first (entry_for clauses pair.second is_short)

-- an entry is right where a clause was added
abbrev IsRight : Numbered ℕ → List Pair → List ℕ → Pair → ℕ → ℕ → Watch → Type 0
IsRight clauses pairs clause pair codes literal watch = IsEntry (clauses ++ Some clause ∷ []) (length (pairs ++ pair ∷ [])) codes literal watch

pub attached : (clauses : Numbered ℕ) (pairs : List Pair) (lists : List (List Watch)) (path : Path) (head : ℕ) (clause : List ℕ) (pair : Pair) (is_short : Bool)
    → IsWatched clauses pairs lists path head → All (λ literal. literal < 2 * path.variables) clause → Contains clause pair.first → Contains clause pair.second → pair.first ≢ pair.second → AreOthers clause pair
    → (is_short ≡ true → length clause ≤ 2)
    → ((literal : ℕ) → Watches pair literal → Contains (take head path.literals) (opposite literal) → HasTrue path.literals clause)
    → ((level literal : ℕ) → level < length path.limits → Watches pair literal → Contains (literals_to path level) (opposite literal) → HasTrue (literals_to path level) clause)
    → IsWatched (clauses ++ Some clause ∷ []) (pairs ++ pair ∷ []) (with_both lists (suc (length clauses)) pair is_short) path head
attached clauses pairs lists path head clause pair is_short at within first second differs others short satisfied levels =
    added clauses pairs lists (with_both lists (suc (length clauses)) pair is_short) path head (Some clause) pair at
    (length-set (with_first clauses lists pair is_short) pair.second (list_of (with_first clauses lists pair is_short) pair.second ++ (entry_for clauses pair.first is_short) ∷ []) ∙ length-set lists pair.first (list_of lists pair.first ++ (entry_for clauses pair.second is_short) ∷ []) ∙ at.size)
    (below_first, below_second)
    all_right
    (λ literal n named. list_more (with_first clauses lists pair is_short) pair.second literal ((entry_for clauses pair.first is_short) ∷ []) n second_in (list_more lists pair.first literal ((entry_for clauses pair.second is_short) ∷ []) n first_in named))
    (λ found is. rw (one_some (Some clause) found clause is refl) record {
      within = within;
      first = first;
      second = second;
      alone = λ same. absurd (differs same);
      others = others;
      listed = λ literal different watches. listed literal watches;
      satisfied = satisfied;
      single = λ same. absurd (differs same);
      levels = levels;
      single_levels = λ level inside same. absurd (differs same);
    })
  where
    below_first : pair.first < 2 * path.variables
    below_first = All-contains (λ literal. literal < 2 * path.variables) clause pair.first within first

    below_second : pair.second < 2 * path.variables
    below_second = All-contains (λ literal. literal < 2 * path.variables) clause pair.second within second

    first_in : pair.first < length lists
    first_in = omega (arith, at.size, below_first)

    second_in : pair.second < length (with_first clauses lists pair is_short)
    second_in = omega (arith, at.size, below_second, length-set lists pair.first (list_of lists pair.first ++ (entry_for clauses pair.second is_short) ∷ []))

    size : length (pairs ++ pair ∷ []) ≡ suc (suc (length clauses))
    size = omega (arith, length_push pairs pair, at.paired.size)

    entry_first : IsRight clauses pairs clause pair (2 * path.variables) pair.first (entry_for clauses pair.second is_short)
    entry_first = new_entry clauses clause (length (pairs ++ pair ∷ [])) (2 * path.variables) pair.first pair.second is_short size within first second differs short

    entry_second : IsRight clauses pairs clause pair (2 * path.variables) pair.second (entry_for clauses pair.first is_short)
    entry_second = new_entry clauses clause (length (pairs ++ pair ∷ [])) (2 * path.variables) pair.second pair.first is_short size within second first (λ same. differs (sym same)) short

    all_right : (literal : ℕ) → All (IsRight clauses pairs clause pair (2 * path.variables) literal) (list_of (with_both lists (suc (length clauses)) pair is_short) literal)
    all_right =
        entries-with (with_first clauses lists pair is_short) pair.second (entry_for clauses pair.first is_short) (IsRight clauses pairs clause pair (2 * path.variables)) second_in
        (entries-with lists pair.first (entry_for clauses pair.second is_short) (IsRight clauses pairs clause pair (2 * path.variables)) first_in
        (λ literal. entries-more clauses pairs (Some clause) pair (2 * path.variables) literal (list_of lists literal) at.paired.size (at.entries literal))
        entry_first)
        entry_second

    listed : (literal : ℕ) → Watches pair literal → Names (list_of (with_both lists (suc (length clauses)) pair is_short) literal) (suc (length clauses))
    listed literal (inl is) = rw (sym is) (list_more (with_first clauses lists pair is_short) pair.second pair.first ((entry_for clauses pair.first is_short) ∷ []) (suc (length clauses)) second_in (named-with lists pair.first (entry_for clauses pair.second is_short) first_in))
    listed literal (inr is) = rw (sym is) (named-with (with_first clauses lists pair is_short) pair.second (entry_for clauses pair.first is_short) second_in)

-- a clause of one literal, which is true at the lowest level
pub attached_unit : (clauses : Numbered ℕ) (pairs : List Pair) (lists : List (List Watch)) (path : Path) (head : ℕ) (clause : List ℕ) (literal : ℕ) (others : Others)
    → AreOthers clause record { first = literal; second = literal; others = others }
    → IsWatched clauses pairs lists path head → All (λ other. other < 2 * path.variables) clause → Contains clause literal → All (λ other. other ≡ literal) clause
    → path.limits ≡ [] → Contains path.literals literal
    → IsWatched (clauses ++ Some clause ∷ []) (pairs ++ record { first = literal; second = literal; others = others } ∷ []) lists path head
attached_unit clauses pairs lists path head clause literal others are at within has alone lowest true_ =
    added clauses pairs lists lists path head (Some clause) record { first = literal; second = literal; others = others } at at.size (below, below)
    (λ other. entries-more clauses pairs (Some clause) record { first = literal; second = literal; others = others } (2 * path.variables) other (list_of lists other) at.paired.size (at.entries other))
    (λ other n named. named)
    (λ found is. rw (one_some (Some clause) found clause is refl) record {
      within = within;
      first = has;
      second = has;
      alone = λ same. alone;
      others = are;
      listed = λ other different watches. absurd (different refl);
      satisfied = λ other watches there. (literal, has, true_);
      single = λ same. true_;
      levels = λ level other inside watches there. absurd (omega (arith, ap length lowest));
      single_levels = λ level inside same. absurd (omega (arith, ap length lowest));
    })
  where
    below : literal < 2 * path.variables
    below = All-contains (λ other. other < 2 * path.variables) clause literal within has

-- a clause that was refused leaves a number that no clause has
pub refused : (clauses : Numbered ℕ) (pairs : List Pair) (lists : List (List Watch)) (path : Path) (head : ℕ) (pair : Pair) → IsWatched clauses pairs lists path head
    → (pair.first < 2 * path.variables) × (pair.second < 2 * path.variables) → IsWatched (clauses ++ None ∷ []) (pairs ++ pair ∷ []) lists path head
refused clauses pairs lists path head pair at below =
    added clauses pairs lists lists path head None pair at at.size below
    (λ other. entries-more clauses pairs None pair (2 * path.variables) other (list_of lists other) at.paired.size (at.entries other))
    (λ other n named. named)
    (λ found is. cc)

-- a new clause of which no watched literal is false yet
pub not_yet : (state : State) (clause : List ℕ) (pair : Pair) → CanWatch state pair.first → CanWatch state pair.second → (literal : ℕ) → Watches pair literal
    → Contains (take state.head state.path.literals) (opposite literal) → HasTrue state.path.literals clause
not_yet state clause pair first second literal (inl is) there = absurd (first.ahead (rw is there))
not_yet state clause pair first second literal (inr is) there = absurd (second.ahead (rw is there))

pub not_below : (state : State) (clause : List ℕ) (pair : Pair) → CanWatch state pair.first → CanWatch state pair.second → (level literal : ℕ) → level < length state.path.limits → Watches pair literal
    → Contains (literals_to state.path level) (opposite literal) → HasTrue (literals_to state.path level) clause
not_below state clause pair first second level literal inside (inl is) there = absurd (first.levels level inside (rw is there))
not_below state clause pair first second level literal inside (inr is) there = absurd (second.levels level inside (rw is there))

-- a learned clause: no level below the current one makes a watched literal false
pub learned_below : (path : Path) (clause : List ℕ) (asserted other : ℕ) (others : Others) (reason : ℕ) → ((level : ℕ) → level < length path.limits → start_of path level ≤ length path.literals)
    → CanLearn path clause asserted other → (level literal : ℕ) → level < length path.limits → Watches record { first = asserted; second = other; others = others } literal
    → Contains (literals_to (pushed path asserted reason) level) (opposite literal) → HasTrue (literals_to (pushed path asserted reason) level) clause
learned_below path clause asserted other others reason begun can level literal inside watches there =
    let P : List ℕ → Type 0 = λ ls. Contains ls (opposite literal) in
    let below : Contains (literals_to path level) (opposite literal) = subst P (take_grown path.literals (asserted ∷ []) (start_of path level) (begun level inside)) there in
    elim watches [
      | inl is ↦ absurd (can.not_false (take_part path.literals (start_of path level) (opposite asserted) (rw is below)))
      | inr is ↦ absurd (can.levels level inside (rw is below))
    ]

-- the new clause is live
pub new_live : (clauses : Numbered ℕ) (clause : List ℕ) → clause_of (clauses ++ Some clause ∷ []) (suc (length clauses)) ≡ Some clause
new_live clauses clause = get_or_push clauses (Some clause) None (length clauses) refl

-- a short clause has at most two literals
pub two_at_most : (clause : List ℕ) → eqb (length clause) 2 ≡ true → length clause ≤ 2
two_at_most clause is = let two = eqb-true (length clause) 2 is in omega arith

-- what is kept where a clause was refused
pub record Keeps (clauses : Numbered ℕ) (pairs : List Pair) (lists : List (List Watch)) (path : Path) (head size : ℕ) : Type 0 where
  pub watched : IsWatched clauses pairs lists path head
  pub reasons : HasReasons clauses path
  pub few : length clauses ≤ size + 1

pub refusal : (clauses : Numbered ℕ) (pairs : List Pair) (lists : List (List Watch)) (path : Path) (head : ℕ) (pair : Pair) (clauses' : Numbered ℕ) (pairs' : List Pair)
    → IsWatched clauses pairs lists path head → HasReasons clauses path → (pair.first < 2 * path.variables) × (pair.second < 2 * path.variables)
    → IsRefused clauses pairs pair clauses' pairs' → Keeps clauses' pairs' lists path head (length clauses)
refusal clauses pairs lists path head pair clauses' pairs' at reasons below (inl same) =
    rw (same.0, same.1) record { watched = at; reasons = reasons; few = omega arith }
refusal clauses pairs lists path head pair clauses' pairs' at reasons below (inr adds) =
    rw (adds.new_clauses, adds.new_pairs) record {
      watched = refused clauses pairs lists path head pair at below;
      reasons = reasons-more clauses path None reasons;
      few = omega (arith, length_push clauses None);
    }

none_more : (clauses : Numbered ℕ) (number : ℕ) → clause_of (clauses ++ None ∷ []) number ≡ clause_of clauses number
none_more clauses zero = refl
none_more clauses (suc place) =
    elim (cases_lt place (length clauses)) [
      | inl within ↦ get_or_append_left clauses (None ∷ []) None place within
      | inr past ↦
          elim (cases_eq place (length clauses)) [
            | inl same ↦ get_or_push clauses None None place (sym same) ∙ sym (get_or_past clauses place None past)
            | inr differs ↦ get_or_past (clauses ++ None ∷ []) place None (omega (arith, length_push clauses None)) ∙ sym (get_or_past clauses place None past)
          ]
    ]

pub refusal_keeps : (clauses : Numbered ℕ) (pairs : List Pair) (pair : Pair) (clauses' : Numbered ℕ) (pairs' : List Pair) → IsRefused clauses pairs pair clauses' pairs' → KeepsClauses clauses clauses'
refusal_keeps clauses pairs pair clauses' pairs' (inl same) number = rw same.0 refl
refusal_keeps clauses pairs pair clauses' pairs' (inr adds) number = rw adds.new_clauses (none_more clauses number)

pub on_err : {T E Q : Type 0} → (result : Result T E) → Q → OnErr result Q
on_err (Ok x) is = tt
on_err (Err e) is = is
