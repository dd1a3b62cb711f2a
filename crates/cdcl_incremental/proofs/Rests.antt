-- What is left of a clause at the lowest level.
use Rattle.std.proofs.Common.{◌≡◌, ◌⊎◌, ℕ, ◌+◌, ◌-◌, ◌*◌, ◌<◌, ◌≤◌, ℤ, List, [], ◌∷◌, ◌++◌, length, map, take, get_or, Some, inl, inr, refl, sym, subst, arith}
use Rattle.std.specs.Bool.{IsTrue}
use Rattle.std.specs.List.{All, Contains}
use Rattle.std.proofs.lemmas.Bool.{false≢true}
use Rattle.std.proofs.lemmas.List.{take_all}
use Rattle.std.proofs.lemmas.List.Elements.{All-nil, All-push, All-more, All-same, All-weaker, All-contains, Contains-append_left, Contains-append_right, Contains-get_or}
use Rattle.clauses.specs.Literals.{clause_within}
use Rattle.clauses.specs.Live.{Numbered}
use Rattle.clauses.specs.Models.{Assignment, is_true, meets}
use Rattle.clauses.proofs.Soundness.{member_from_any, member_within}
use Rattle.cdcl_trail.specs.Literals.{opposite, signed}
use Rattle.cdcl_trail.specs.Path.{IsPath, Path, start_of}
use Rattle.cdcl_trail.proofs.Marks.{take_part}
use Rattle.cdcl_propagation.specs.State.{State, IsSettled, CanWatch}
use Rattle.cdcl_incremental.specs.declared.storing.Stored.{Stored}
use Rattle.cdcl_incremental.specs.declared.storing.Stored.TheVariants as stored
use Rattle.cdcl_conflict_theory.proofs.Members.{all_members, contains-map}
use Rattle.cdcl_incremental.specs.Levels.{true_at, IsOpenIn}
use Rattle.cdcl_incremental.specs.Standing.{Holds, IsMet, AreMet, IsRest, IsStored, IsStoredAs, IsPut}
use Rattle.cdcl_incremental.proofs.Meeting.{not_both, meets_by, lowest_holds}
use Rattle.cdcl_incremental.proofs.Standing.{literal_within}

-- a literal that is read is of one of the variables
pub number_below : (variables : ℕ) (clause : List ℤ) (index number : ℕ) (d : ℤ) → IsTrue (clause_within variables clause) → index < length clause → signed number ≡ get_or clause index d → number < 2 * variables
number_below variables clause index number d within inside is =
    literal_within variables number (rw is (member_within variables clause (get_or clause index d) within (Contains-get_or clause index d inside)))

-- what became of a literal of the clause
abbrev pub IsRead : List ℕ → List ℕ → ℤ → Type 0
IsRead trail rest other = (literal : ℕ) × (signed literal ≡ other) × (Contains rest literal ⊎ Contains trail (opposite literal))

-- the first so many literals of the clause were read, and none of them is true
pub record IsRestTo (trail : List ℕ) (clause : List ℤ) (count : ℕ) (rest : List ℕ) : Type 0 where
  pub among : All (λ literal. Contains clause (signed literal)) rest
  pub not_false : All (λ literal. Contains trail (opposite literal) → ⊥) rest
  pub others : All (IsRead trail rest) (take count clause)

contains-last : (xs : List ℕ) (x : ℕ) → Contains (xs ++ x ∷ []) x
contains-last xs x = Contains-append_right xs (x ∷ []) x (0, omega arith, refl)

read_more : (trail rest : List ℕ) (number : ℕ) (other : ℤ) → IsRead trail rest other → IsRead trail (rest ++ number ∷ []) other
read_more trail rest number other read =
    elim read.2 [
      | inl there ↦ (read.0, read.1, inl (Contains-append_left rest (number ∷ []) read.0 there))
      | inr false_ ↦ (read.0, read.1, inr false_)
    ]

pub rest_false : (trail : List ℕ) (clause : List ℤ) (count number : ℕ) (rest : List ℕ) (d : ℤ) → count < length clause → signed number ≡ get_or clause count d → Contains trail (opposite number)
    → IsRestTo trail clause count rest → IsRestTo trail clause (count + 1) rest
rest_false trail clause count number rest d inside is false_ to = record {
  among = to.among;
  not_false = to.not_false;
  others = All-more (IsRead trail rest) clause count d inside to.others (number, is, inr false_);
}

pub rest_push : (trail : List ℕ) (clause : List ℤ) (count number : ℕ) (rest : List ℕ) (d : ℤ) → count < length clause → signed number ≡ get_or clause count d → (Contains trail (opposite number) → ⊥)
    → IsRestTo trail clause count rest → IsRestTo trail clause (count + 1) (rest ++ number ∷ [])
rest_push trail clause count number rest d inside is not_false to = record {
  among = All-push (λ literal. Contains clause (signed literal)) rest number to.among (rw is (Contains-get_or clause count d inside));
  not_false = All-push (λ literal. Contains trail (opposite literal) → ⊥) rest number to.not_false not_false;
  others =
      All-more (IsRead trail (rest ++ number ∷ [])) clause count d inside
      (All-weaker (IsRead trail rest) (IsRead trail (rest ++ number ∷ [])) (read_more trail rest number) (take count clause) to.others)
      (number, is, inl (contains-last rest number));
}

pub rest_done : (trail : List ℕ) (clause : List ℤ) (count : ℕ) (rest : List ℕ) → length clause ≤ count → IsRestTo trail clause count rest → IsRest trail clause rest
rest_done trail clause count rest past to = record {
  among = to.among;
  not_false = to.not_false;
  others = inr (All-same (IsRead trail rest) clause (take count clause) (sym (take_all count clause past)) to.others);
}

-- a literal that is true is left alone
pub rest_one : (path : Path) (clause : List ℤ) (index number : ℕ) (d : ℤ) → IsPath path → index < length clause → signed number ≡ get_or clause index d → Contains path.literals number → IsRest path.literals clause (number ∷ [])
rest_one path clause index number d is inside same there = record {
  among = All-push (λ literal. Contains clause (signed literal)) [] number (All-nil (λ literal. Contains clause (signed literal))) (rw same (Contains-get_or clause index d inside));
  not_false =
      All-push (λ literal. Contains path.literals (opposite literal) → ⊥) [] number (All-nil (λ literal. Contains path.literals (opposite literal) → ⊥)) (is.consistent number there);
  others = inl (number, (0, omega arith, refl), there);
}

-- what is not false can be watched
pub watch_of : (state : State) (literal : ℕ) → (Contains state.path.literals (opposite literal) → ⊥) → CanWatch state literal
watch_of state literal not_false = record {
  ahead = λ there. not_false (take_part state.path.literals state.head (opposite literal) there);
  levels = λ level inside there. not_false (take_part state.path.literals (start_of state.path level) (opposite literal) there);
}

pub watch_at : (old new : State) (clause : List ℕ) (literal levels : ℕ) → IsOpenIn old.path clause literal levels → 0 < levels → new.path.literals ≡ true_at old.path (levels - 1) → CanWatch new literal
watch_at old new clause literal levels is some literals = watch_of new literal (λ there. is.opens (levels - 1) (omega arith) (rw literals at there))

-- what is left is met where the clause and the others are
pub rest_met : (values : Assignment) (state : State) (clause : List ℤ) (rest : List ℕ) → IsSettled state → state.path.limits ≡ [] → IsRest state.path.literals clause rest → AreMet values state.clauses → IsTrue (meets values clause)
    → IsMet values rest
rest_met values state clause rest settled lowest left met meets_clause =
    let P : ℤ → Type 0 = λ l. IsTrue (is_true values l) in
    elim left.others [
      | inl one ↦ meets_by values rest one.0 one.1 (lowest_holds values state one.0 settled lowest met one.2)
      | inr all ↦
          let found = member_from_any (is_true values) clause meets_clause in
          let read = All-contains (IsRead state.path.literals rest) clause found.0 all found.1 in
          let holds : Holds values read.0 = subst P (sym read.1) found.2 in
          elim read.2 [
            | inl there ↦ meets_by values rest read.0 there holds
            | inr false_ ↦ absurd (not_both values read.0 holds (lowest_holds values state (opposite read.0) settled lowest met false_))
          ]
    ]

pub stored_of : (state : State) (clause : List ℤ) (rest : List ℕ) (new : Numbered ℕ) → IsSettled state → state.path.limits ≡ [] → IsRest state.path.literals clause rest
    → (stored : Stored) → IsPut state.clauses rest new stored → IsStored state.clauses clause new stored
stored_of state clause rest new settled lowest left stored.Clause put =
    (rest, record { clauses = put; among = left.among; same = λ values met meets_clause. rest_met values state clause rest settled lowest left met meets_clause })
stored_of state clause rest new settled lowest left stored.Refuted put =
    (put.0, λ values met meets_clause. let P : List ℕ → Type 0 = λ r. IsMet values r in false≢true (subst P put.1 (rest_met values state clause rest settled lowest left met meets_clause)))
stored_of state clause rest new settled lowest left stored.Full put = put

-- a clause that is stored as it is
pub stored_whole : (old : Numbered ℕ) (clause : List ℤ) (numbers : List ℕ) (new : Numbered ℕ) → map signed numbers ≡ clause → new ≡ old ++ Some numbers ∷ [] → IsStoredAs old clause numbers new
stored_whole old clause numbers new is stored = record {
  clauses = stored;
  among = rw (← is) (all_members (λ literal. Contains (map signed numbers) (signed literal)) numbers (contains-map signed numbers));
  same = λ values met meets_clause. rw (← is) at meets_clause;
}
