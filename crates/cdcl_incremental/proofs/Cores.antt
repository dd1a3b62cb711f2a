-- Flags at places of the trail.
use Rattle.std.proofs.Common.{◌≡◌, ◌≢◌, ◌⊎◌, ℕ, ◌<◌, ◌≤◌, ℤ, Bool, true, false, List, [], ◌∷◌, ◌++◌, length, map, set, take, get_or, ◌+◌, Some, inl, inr, refl, sym, ◌∙◌, subst, arith}
use Rattle.std.specs.Bool.{IsTrue, OnTrue}
use Rattle.std.specs.List.{Contains}
use Rattle.std.proofs.lemmas.Bool.{cases_eq}
use Rattle.std.proofs.lemmas.List.{get_or-set_other, get_or-set_same, get_or_default, take_all}
use Rattle.std.proofs.lemmas.List.Elements.{All-contains, All-push, All-nil, All-more, All-weaker, Contains-append_right, All-same, Contains-append_left}
use Rattle.clauses.specs.Live.{clause_of}
use Rattle.clauses.specs.Models.{Assignment, is_true}
use Rattle.cdcl_conflict_theory.proofs.Members.{contains-map, all_members}
use Rattle.cdcl_trail.specs.Literals.{opposite, signed}
use Rattle.cdcl_trail.specs.Path.{Path}
use Rattle.cdcl_propagation.specs.State.{State}
use Rattle.cdcl_incremental.specs.Cores.{IsFlag, Implies, IsExplained, IsTaken, IsTraced, IsCoreOf}
use Rattle.cdcl_incremental.specs.Questions.{AreTrue}
use Rattle.cdcl_incremental.specs.Standing.{Holds, AreMet}
use Rattle.cdcl_incremental.proofs.Meeting.{not_both, met_by}

-- the literal at a place is true where those are that its reason names
pub explained_holds : (values : Assignment) (state : State) (number : ℕ) (clause : List ℕ) (flags : List Bool) (place : ℕ) → clause_of state.clauses number ≡ Some clause → AreMet values state.clauses
    → IsExplained state.path flags place clause → ((at : ℕ) → at < place → IsFlag flags at → Holds values (get_or state.path.literals at 0)) → Holds values (get_or state.path.literals place 0)
explained_holds values state number clause flags place live met explained before =
    let found = met_by values clause (met number clause live) in
    let P : ℕ → Type 0 = λ l. Holds values l in
    elim (All-contains (λ other. (other ≡ get_or state.path.literals place 0) ⊎ ((at : ℕ) × (at < place) × IsFlag flags at × (get_or state.path.literals at 0 ≡ opposite other))) clause found.0 explained found.1) [
      | inl same ↦ subst P same found.2
      | inr false_ ↦ absurd (not_both values found.0 found.2 (subst P false_.3 (before false_.0 false_.1 false_.2)))
    ]

-- the flag of a place is replaced by those of its reason
pub implies_explained : (state : State) (number : ℕ) (clause : List ℕ) (old flags : List Bool) (place : ℕ) → clause_of state.clauses number ≡ Some clause → IsExplained state.path flags place clause
    → ((at : ℕ) → IsFlag old at → IsFlag flags at) → Implies state old (set flags place false)
implies_explained state number clause old flags place live explained more = λ values met holds.
    let others : (at : ℕ) → at ≢ place → IsFlag flags at → Holds values (get_or state.path.literals at 0) =
    λ at differs flag. holds at (rw get_or-set_other flag) in
    λ at flag. elim (cases_eq at place) [
      | inl same ↦
          let here : Holds values (get_or state.path.literals place 0) =
          explained_holds values state number clause flags place live met explained (λ lower below given. others lower (λ equal. omega arith) given) in
          rw same here
      | inr differs ↦ others at differs (more at flag)
    ]

-- one flag more
pub flag_stays : (flags : List Bool) (place at : ℕ) → place < length flags → IsFlag flags at → IsFlag (set flags place true) at
flag_stays flags place at within flag =
    elim (cases_eq at place) [
      | inl same ↦ rw same (get_or-set_same flags place true false within)
      | inr differs ↦ rw get_or-set_other flag
    ]

-- more of a clause is explained
abbrev IsOther : Path → List Bool → ℕ → ℕ → Type 0
IsOther path flags place other = (other ≡ get_or path.literals place 0) ⊎ ((at : ℕ) × (at < place) × IsFlag flags at × (get_or path.literals at 0 ≡ opposite other))

pub explained_own : (path : Path) (flags : List Bool) (place : ℕ) (clause : List ℕ) (index : ℕ) → index < length clause → get_or clause index 0 ≡ get_or path.literals place 0
    → IsExplained path flags place (take index clause) → IsExplained path flags place (take (index + 1) clause)
explained_own path flags place clause index inside same all = All-more (IsOther path flags place) clause index 0 inside all (inl same)

pub explained_other : (path : Path) (flags : List Bool) (place : ℕ) (clause : List ℕ) (index at : ℕ) → index < length clause → at < place → place < length flags → get_or path.literals at 0 ≡ opposite (get_or clause index 0)
    → IsExplained path flags place (take index clause) → IsExplained path (set flags at true) place (take (index + 1) clause)
explained_other path flags place clause index at inside lower within is all =
    let size : at < length flags = omega arith in
    All-more (IsOther path (set flags at true) place) clause index 0 inside
    (All-weaker (IsOther path flags place) (IsOther path (set flags at true) place)
    (λ other either. elim either [
      | inl own ↦ inl own
      | inr found ↦ inr (found.0, found.1, flag_stays flags at found.0 size found.2, found.3)
    ])
    (take index clause)
    all)
    (inr (at, lower, get_or-set_same flags at true false size, is))

pub explained_all : (path : Path) (flags : List Bool) (place : ℕ) (clause : List ℕ) (index : ℕ) → length clause ≤ index → IsExplained path flags place (take index clause) → IsExplained path flags place clause
explained_all path flags place clause index past all = All-same (IsOther path flags place) clause (take index clause) (sym (take_all index clause past)) all

-- flags of assumed literals are taken
true_front : (values : Assignment) (core : List ℤ) (literal : ℤ) → AreTrue values (core ++ literal ∷ []) → AreTrue values core
true_front values core literal all =
    all_members (λ l. IsTrue (is_true values l)) core
    (λ l there. All-contains (λ m. IsTrue (is_true values m)) (core ++ literal ∷ []) l all (Contains-append_left core (literal ∷ []) l there))

true_last : (values : Assignment) (core : List ℤ) (literal : ℤ) → AreTrue values (core ++ literal ∷ []) → IsTrue (is_true values literal)
true_last values core literal all = All-contains (λ l. IsTrue (is_true values l)) (core ++ literal ∷ []) literal all (Contains-append_right core (literal ∷ []) literal (0, omega arith, refl))

pub taken_more : (path : Path) (assumed : List ℕ) (flags : List Bool) (core : List ℤ) (middle : List Bool) (found : List ℤ) (new : List Bool) (literal : ℕ) → Contains assumed literal → IsTaken path assumed flags core middle found
    → ((at : ℕ) → IsFlag middle at → IsFlag new at ⊎ (get_or path.literals at 0 ≡ literal)) → IsTaken path assumed flags core new (found ++ signed literal ∷ [])
taken_more path assumed flags core middle found new literal there taken step = record {
  among = λ all. All-push (Contains (map signed assumed)) found (signed literal) (taken.among all) (contains-map signed assumed literal there);
  flags_true = λ values all holds. taken.flags_true values (true_front values found (signed literal) all) (λ at flag. elim (step at flag) [
    | inl stays ↦ holds at stays
    | inr same ↦ let P : ℕ → Type 0 = λ l. Holds values l in subst P (sym same) (true_last values found (signed literal) all)
  ]);
  core_true = λ values all. taken.core_true values (true_front values found (signed literal) all);
}

pub taken_same : (path : Path) (assumed : List ℕ) (flags : List Bool) (core : List ℤ) (middle : List Bool) (found : List ℤ) (new : List Bool) → IsTaken path assumed flags core middle found
    → ((at : ℕ) → IsFlag middle at → IsFlag new at) → IsTaken path assumed flags core new found
taken_same path assumed flags core middle found new taken step = record {
  among = taken.among;
  flags_true = λ values all holds. taken.flags_true values all (λ at flag. holds at (step at flag));
  core_true = taken.core_true;
}

pub traced_of : (state : State) (assumed : List ℕ) (flags middle new : List Bool) (core found : List ℤ) → Implies state flags middle → IsTaken state.path assumed middle core new found
    → ((at : ℕ) → IsFlag new at → ⊥) → IsTraced state assumed flags core found
traced_of state assumed flags middle new core found implies taken clear = record {
  among = taken.among;
  follows = λ values met all. implies values met (taken.flags_true values all (λ at flag. absurd (clear at flag)));
  core_true = taken.core_true;
}

pub core_of : (state : State) (assumed : List ℕ) (flags : List Bool) (found : List ℤ) (failed : ℕ) → Contains assumed failed → Contains state.path.literals (opposite failed)
    → ((at : ℕ) → at < length state.path.literals → get_or state.path.literals at 0 ≡ opposite failed → IsFlag flags at) → IsTraced state assumed flags (signed failed ∷ []) found → IsCoreOf state.clauses assumed found
core_of state assumed flags found failed there false_ flag traced = record {
  among = traced.among (All-push (Contains (map signed assumed)) [] (signed failed) (All-nil (Contains (map signed assumed))) (contains-map signed assumed failed there));
  refutes = λ values met all.
      let at : get_or state.path.literals false_.0 0 ≡ opposite failed = get_or_default state.path.literals false_.0 0 (opposite failed) false_.1 ∙ false_.2 in
      let P : ℕ → Type 0 = λ l. Holds values l in
      not_both values failed (true_last values [] (signed failed) (traced.core_true values all)) (subst P at (traced.follows values met all false_.0 (flag false_.0 false_.1 at)));
}

pub on_true_weaker : {P Q : Type 0} (test : Bool) → (P → Q) → OnTrue test P → OnTrue test Q
on_true_weaker true give holds = give holds
on_true_weaker false give holds = tt

-- the only item of a list
pub pushed_one : (new before : List ℤ) (item literal : ℤ) → new ≡ before ++ item ∷ [] → before ≡ [] → item ≡ literal → new ≡ literal ∷ []
pushed_one new before item literal pushed none same = rw (pushed, none, same) refl
