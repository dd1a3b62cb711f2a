-- A list is taken out to be worked on, and put back.
use Rattle.std.proofs.Common.{◌≡◌, ℕ, ◌+◌, ◌*◌, ◌<◌, List, [], ◌++◌, length, get_or, set, take, Some, subst, inl, inr, sym, ap, ◌∙◌, arith}
use Rattle.std.specs.List.{Contains}
use Rattle.std.proofs.lemmas.Bool.{cases_eq}
use Rattle.std.proofs.lemmas.List.{get_or-set_same, get_or-set_other, length-set, take_more}
use Rattle.std.proofs.lemmas.List.Elements.{All-nil, All-append, Contains-push_cases}
use Rattle.clauses.specs.Live.{Numbered, clause_of}
use Rattle.cdcl_trail.specs.Literals.{opposite}
use Rattle.cdcl_trail.specs.Path.{Path}
use Rattle.cdcl_trail.proofs.Numbers.{opposite-opposite}
use Rattle.cdcl_propagation.specs.declared.watch.Pair.{Pair}
use Rattle.cdcl_propagation.specs.declared.watch.Watch.{Watch}
use Rattle.cdcl_propagation.specs.Watching.{pair_of, list_of, Watches, HasTrue, IsEntry, IsWorked, IsWatched, IsVisiting}

pub taken : (clauses : Numbered ℕ) (pairs : List Pair) (lists : List (List Watch)) (path : Path) (head literal : ℕ) (any : List Watch)
    → Contains path.literals (opposite literal) → IsWatched clauses pairs lists path head
    → IsVisiting clauses pairs (set lists literal any) path head literal [] (list_of lists literal)
taken clauses pairs lists path head literal any falsified at = record {
  paired = at.paired;
  within = at.within;
  size = rw (length-set lists literal any) at.size;
  entries = λ other differs. rw (get_or-set_other lists literal other any [] differs) (at.entries other);
  seen_entries = All-nil (IsEntry clauses (length pairs) (2 * path.variables) literal);
  rest_entries = at.entries literal;
  listed = λ number clause other live differs watches elsewhere.
      rw (get_or-set_other lists literal other any [] elsewhere) (at.listed number clause other live differs watches);
  listed_here = λ number clause live differs watches. at.listed number clause literal live differs watches;
  left = λ number clause live differs watches. inr (at.listed number clause literal live differs watches);
  false_ = falsified;
  reasons = at.reasons;
  inside = at.inside;
  begun = at.begun;
  worked = at.worked;
  levels = at.levels;
}

-- put back before its end
pub put_back : (clauses : Numbered ℕ) (pairs : List Pair) (lists : List (List Watch)) (path : Path) (head literal : ℕ) (seen rest : List Watch) → literal < length lists
    → IsVisiting clauses pairs lists path head literal seen rest → IsWatched clauses pairs (set lists literal (seen ++ rest)) path head
put_back clauses pairs lists path head literal seen rest below at = record {
  paired = at.paired;
  within = at.within;
  size = rw (length-set lists literal (seen ++ rest)) at.size;
  entries = λ other.
      elim (cases_eq other literal) [
        | inl same ↦ rw (same, get_or-set_same lists literal (seen ++ rest) [] below) (All-append (IsEntry clauses (length pairs) (2 * path.variables) literal) seen rest at.seen_entries at.rest_entries)
        | inr differs ↦ rw (get_or-set_other lists literal other (seen ++ rest) [] differs) (at.entries other differs)
      ];
  listed = λ number clause other live differs watches.
      elim (cases_eq other literal) [
        | inl same ↦
            let P : ℕ → Type 0 = λ l. Watches (pair_of pairs number) l in
            rw (same, get_or-set_same lists literal (seen ++ rest) [] below) (at.listed_here number clause live differs (subst P same watches))
        | inr elsewhere ↦ rw (get_or-set_other lists literal other (seen ++ rest) [] elsewhere) (at.listed number clause other live differs watches elsewhere)
      ];
  inside = at.inside;
  reasons = at.reasons;
  begun = at.begun;
  worked = at.worked;
  levels = at.levels;
}

-- a list that was visited to its end: its literal is worked off
worked_off : (clauses : Numbered ℕ) (pairs : List Pair) (lists : List (List Watch)) (path : Path) (head literal : ℕ) (seen : List Watch) → head < length path.literals
    → literal ≡ opposite (get_or path.literals head 0) → IsVisiting clauses pairs lists path head literal seen []
    → IsWorked clauses pairs (take (head + 1) path.literals) path.literals
worked_off clauses pairs lists path head literal seen inside is at = record {
  satisfied = λ number clause watched live watches there.
      let P : List ℕ → Type 0 = λ xs. Contains xs (opposite watched) in
      let last = get_or path.literals head 0 in
      elim (Contains-push_cases (take head path.literals) last (opposite watched) (subst P (take_more path.literals head 0 inside) there)) [
        | inl before ↦ at.worked.satisfied number clause watched live watches before
        | inr now ↦
            let same : watched ≡ literal = sym (opposite-opposite watched) ∙ ap opposite (sym now) ∙ sym is in
            let Q : ℕ → Type 0 = λ l. Watches (pair_of pairs number) l in
            visited number clause live (subst Q same watches)
      ];
  single = at.worked.single;
}
  where
    visited : (number : ℕ) (clause : List ℕ) → clause_of clauses number ≡ Some clause → Watches (pair_of pairs number) literal → HasTrue path.literals clause
    visited number clause live watches =
        elim (cases_eq (pair_of pairs number).first (pair_of pairs number).second) [
          | inl same ↦ ((pair_of pairs number).first, at.paired.first number clause live, at.worked.single number clause live same)
          | inr differs ↦
              elim (at.left number clause live differs watches) [
                | inl has ↦ has
                | inr named ↦ let within = named.1.1 in absurd (omega arith)
              ]
        ]

-- put back at its end
pub put_back_done : (clauses : Numbered ℕ) (pairs : List Pair) (lists : List (List Watch)) (path : Path) (head literal : ℕ) (seen : List Watch) → literal < length lists
    → head < length path.literals → literal ≡ opposite (get_or path.literals head 0) → IsVisiting clauses pairs lists path head literal seen []
    → IsWatched clauses pairs (set lists literal (seen ++ [])) path (head + 1)
put_back_done clauses pairs lists path head literal seen below inside is at =
    let back = put_back clauses pairs lists path head literal seen [] below at in
    record {
      paired = back.paired;
      within = back.within;
      size = back.size;
      entries = back.entries;
      listed = back.listed;
      inside = omega arith;
      reasons = back.reasons;
      begun = back.begun;
      worked = worked_off clauses pairs lists path head literal seen inside is at;
      levels = back.levels;
    }
