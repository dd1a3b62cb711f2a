-- In the middle of a list: what stays as its entries are visited, one after another.
use Rattle.std.proofs.Common.{◌≡◌, ◌≢◌, ℕ, ◌*◌, ◌<◌, false, List, [], ◌∷◌, ◌++◌, length, set, take, Some, subst, inl, inr, sym, ap, ◌∙◌, arith}
use Rattle.std.specs.List.{All, Contains}
use Rattle.std.proofs.lemmas.Bool.{cases_eq}
use Rattle.std.proofs.lemmas.List.{get_or-set_same, get_or-set_other, length-set, length_push}
use Rattle.std.proofs.lemmas.List.Elements.{All-tail, All-push, All-contains, Contains-append_left, Contains-push}
use Rattle.clauses.specs.Live.{Numbered, clause_of}
use Rattle.cdcl_trail.specs.Literals.{opposite}
use Rattle.cdcl_trail.specs.Path.{Path, pushed, start_of, literals_to}
use Rattle.cdcl_propagation.specs.declared.watch.Pair.{Pair}
use Rattle.cdcl_propagation.specs.declared.watch.Watch.{Watch}
use Rattle.cdcl_propagation.specs.Watching.{pair_of, list_of, Watches, AreOthers, Names, IsEntry, IsVisiting}
use Rattle.cdcl_propagation.specs.Visits.{IsGone, CanMove, Moves, StaysTrue}
use Rattle.cdcl_propagation.proofs.Members.{take_part, take_grown, true-more, names-later, names-replaced, names-removed, names-more, one_some}
use Rattle.cdcl_propagation.proofs.Working.{worked-more, worked-moved, levels-pushed, pair_here, pair_there}

-- the entry stays, and its clause is true
pub visiting-kept : (clauses : Numbered ℕ) (pairs : List Pair) (lists : List (List Watch)) (path : Path) (head literal : ℕ) (seen rest : List Watch) (old new : Watch)
    → IsVisiting clauses pairs lists path head literal seen (old ∷ rest) → StaysTrue clauses (length pairs) (2 * path.variables) path literal old new
    → IsVisiting clauses pairs lists path head literal (seen ++ new ∷ []) rest
visiting-kept clauses pairs lists path head literal seen rest old new at stays = record {
  paired = at.paired;
  within = at.within;
  size = at.size;
  entries = at.entries;
  seen_entries = All-push (IsEntry clauses (length pairs) (2 * path.variables) literal) seen new at.seen_entries stays.entry;
  rest_entries = All-tail (IsEntry clauses (length pairs) (2 * path.variables) literal) old rest at.rest_entries;
  listed = at.listed;
  listed_here = λ number clause live differs watches.
      names-replaced seen rest old new number stays.number (at.listed_here number clause live differs watches);
  left = λ number clause live differs watches.
      elim (at.left number clause live differs watches) [
        | inl has ↦ inl has
        | inr named ↦
            elim (names-later old rest number named) [
              | inl is ↦
                  let live_here = ap (λ n. clause_of clauses n) (stays.number ∙ is) ∙ live in
                  inl (new.blocker, stays.entry.blocks clause live_here, stays.true_)
              | inr later ↦ inr later
            ]
      ];
  false_ = at.false_;
  reasons = at.reasons;
  inside = at.inside;
  begun = at.begun;
  worked = at.worked;
  levels = at.levels;
}

-- the entry goes, since its clause does not watch the literal
pub visiting-gone : (clauses : Numbered ℕ) (pairs : List Pair) (lists : List (List Watch)) (path : Path) (head literal : ℕ) (seen rest : List Watch) (old : Watch)
    → IsVisiting clauses pairs lists path head literal seen (old ∷ rest) → IsGone clauses pairs literal old.number
    → IsVisiting clauses pairs lists path head literal seen rest
visiting-gone clauses pairs lists path head literal seen rest old at gone = record {
  paired = at.paired;
  within = at.within;
  size = at.size;
  entries = at.entries;
  seen_entries = at.seen_entries;
  rest_entries = All-tail (IsEntry clauses (length pairs) (2 * path.variables) literal) old rest at.rest_entries;
  listed = at.listed;
  listed_here = λ number clause live differs watches.
      elim (names-removed seen rest old number (at.listed_here number clause live differs watches)) [
        | inl is ↦ absurd (other number clause live watches is)
        | inr named ↦ named
      ];
  left = λ number clause live differs watches.
      elim (at.left number clause live differs watches) [
        | inl has ↦ inl has
        | inr named ↦ elim (names-later old rest number named) [ inl is ↦ absurd (other number clause live watches is) | inr later ↦ inr later ]
      ];
  false_ = at.false_;
  reasons = at.reasons;
  inside = at.inside;
  begun = at.begun;
  worked = at.worked;
  levels = at.levels;
}
  where
    other : (number : ℕ) (clause : List ℕ) → clause_of clauses number ≡ Some clause → Watches (pair_of pairs number) literal → old.number ≡ number → ⊥
    other number clause live watches is =
        let P : ℕ → Type 0 = λ n. Watches (pair_of pairs n) literal in
        gone clause (ap (λ n. clause_of clauses n) is ∙ live) (subst P (sym is) watches)

-- a literal is put on the trail
pub visiting-pushed : (clauses : Numbered ℕ) (pairs : List Pair) (lists : List (List Watch)) (path : Path) (head literal : ℕ) (seen rest : List Watch) (new reason : ℕ)
    → IsVisiting clauses pairs lists path head literal seen rest → IsVisiting clauses pairs lists (pushed path new reason) head literal seen rest
visiting-pushed clauses pairs lists path head literal seen rest new reason at = record {
  paired = at.paired;
  within = at.within;
  size = at.size;
  entries = at.entries;
  seen_entries = at.seen_entries;
  rest_entries = at.rest_entries;
  listed = at.listed;
  listed_here = at.listed_here;
  left = λ number clause live differs watches.
      elim (at.left number clause live differs watches) [ inl has ↦ inl (true-more path.literals (new ∷ []) clause has) | inr named ↦ inr named ];
  false_ = Contains-append_left path.literals (new ∷ []) (opposite literal) at.false_;
  reasons = omega (arith, length_push path.literals new, length_push path.reasons reason, at.reasons);
  inside = let inside = at.inside in omega (arith, length_push path.literals new);
  begun = λ level within. let begun = at.begun level within in omega (arith, length_push path.literals new);
  worked = rw (take_grown path.literals (new ∷ []) head at.inside) (worked-more clauses pairs (take head path.literals) path.literals (new ∷ []) at.worked);
  levels = levels-pushed clauses pairs path new reason at.begun at.levels;
}

-- a list that got an entry more names what it named
pub list_more : (lists : List (List Watch)) (place other : ℕ) (more : List Watch) (number : ℕ) → place < length lists → Names (list_of lists other) number
    → Names (list_of (set lists place (list_of lists place ++ more)) other) number
list_more lists place other more number within named =
    elim (cases_eq other place) [
      | inl same ↦
          let P : ℕ → Type 0 = λ l. Names (list_of (set lists place (list_of lists place ++ more)) l) number in
          let named_here : Names (list_of lists place) number = rw (sym same) named in
          subst P (sym same) (rw (get_or-set_same lists place (list_of lists place ++ more) [] within) (names-more (list_of lists place) more number named_here))
      | inr differs ↦ rw (get_or-set_other lists place other (list_of lists place ++ more) [] differs) named
    ]

-- the entry of a clause in the list of the literal that it watches instead
abbrev pub moved_entry : Watch → Pair → Watch
moved_entry old new = record { number = old.number; blocker = new.second; is_short = false }

-- the clause of the entry watches another pair
pub visiting-moved : (clauses : Numbered ℕ) (pairs : List Pair) (lists : List (List Watch)) (path : Path) (head literal : ℕ) (seen rest : List Watch) (old : Watch) (new : Pair)
    → (pairs' : List Pair) (lists' : List (List Watch)) → IsVisiting clauses pairs lists path head literal seen (old ∷ rest)
    → CanMove clauses pairs path literal old.number new → Moves pairs lists old.number new pairs' lists'
    → IsVisiting clauses pairs' lists' path head literal seen rest
visiting-moved clauses pairs lists path head literal seen rest old new pairs' lists' at can moves =
    rw (moves.new_pairs, moves.new_lists) record {
      paired = record {
        size = rw (length-set pairs old.number new) at.paired.size;
        first = λ other clause live. by_pair other (λ pair. Contains clause pair.first) (λ same. rw (one clause other live same) can.first) (at.paired.first other clause live);
        second = λ other clause live. by_pair other (λ pair. Contains clause pair.second) (λ same. rw (one clause other live same) second_stands) (at.paired.second other clause live);
        single = λ other clause live. by_pair other (λ pair. pair.first ≡ pair.second → All (λ l. l ≡ pair.first) clause) (λ same is. absurd (can.differs is)) (at.paired.single other clause live);
        others = λ other clause live. by_pair other (λ pair. AreOthers clause pair) (λ same. rw (one clause other live same) can.others) (at.paired.others other clause live);
        within = λ other some below.
            by_pair other (λ pair. (pair.first < 2 * path.variables) × (pair.second < 2 * path.variables)) (λ same. (first_within, second_within)) (at.paired.within other some (rw (length-set pairs old.number new) at below));
      };
      within = at.within;
      size = rw (length-set lists new.first (list_of lists new.first ++ moved_entry old new ∷ [])) at.size;
      entries = λ other differs. rw (length-set pairs old.number new) (entries_at other differs);
      seen_entries = rw (length-set pairs old.number new) at.seen_entries;
      rest_entries = rw (length-set pairs old.number new) (All-tail (IsEntry clauses (length pairs) (2 * path.variables) literal) old rest at.rest_entries);
      listed = λ other clause l live differs watches elsewhere. listed_at other clause l live differs watches elsewhere;
      listed_here = λ other clause live differs watches.
          let there = elsewhere_here other watches in
          let was = was_pair other there in
          let P : Pair → Type 0 = λ pair. pair.first ≢ pair.second in
          let Q : Pair → Type 0 = λ pair. Watches pair literal in
          elim (names-removed seen rest old other (at.listed_here other clause live (subst P was differs) (subst Q was watches))) [
            | inl is ↦ absurd (there (sym is))
            | inr named ↦ named
          ];
      left = λ other clause live differs watches.
          let there = elsewhere_here other watches in
          let was = was_pair other there in
          let P : Pair → Type 0 = λ pair. pair.first ≢ pair.second in
          let Q : Pair → Type 0 = λ pair. Watches pair literal in
          elim (at.left other clause live (subst P was differs) (subst Q was watches)) [
            | inl has ↦ inl has
            | inr named ↦ elim (names-later old rest other named) [ inl is ↦ absurd (there (sym is)) | inr later ↦ inr later ]
          ];
      false_ = at.false_;
      reasons = at.reasons;
      inside = at.inside;
      begun = at.begun;
      worked = worked-moved clauses pairs old.number new (take head path.literals) path.literals path.literals below can.differs watched can.not_false (take_part path.literals head) at.worked;
      levels = λ level inside. worked-moved clauses pairs old.number new (literals_to path level) (literals_to path level) path.literals below can.differs watched can.not_false (take_part path.literals (start_of path level)) (at.levels level inside);
    }
  where
    head_entry : IsEntry clauses (length pairs) (2 * path.variables) literal old
    head_entry = at.rest_entries 0 old (omega arith)

    below : old.number < length pairs
    below = head_entry.number

    watched : Watches (pair_of pairs old.number) new.second
    watched = elim can.was [ inl both ↦ inr both.1 | inr both ↦ inl both.0 ]

    second_stands : Contains can.clause new.second
    second_stands =
        elim watched [
          | inl is ↦ rw (sym is) (at.paired.first old.number can.clause can.live)
          | inr is ↦ rw (sym is) (at.paired.second old.number can.clause can.live)
        ]

    first_within : new.first < 2 * path.variables
    first_within = All-contains (λ l. l < 2 * path.variables) can.clause new.first (at.within old.number can.clause can.live) can.first

    second_within : new.second < 2 * path.variables
    second_within = All-contains (λ l. l < 2 * path.variables) can.clause new.second (at.within old.number can.clause can.live) second_stands

    -- the other literal is not this one, or the clause had no literal that is not false
    other_differs : new.second ≢ literal
    other_differs is =
        let P : ℕ → Type 0 = λ l. Contains path.literals (opposite l) in
        let single : (pair_of pairs old.number).first ≡ (pair_of pairs old.number).second = elim can.was [ inl both ↦ both.0 ∙ sym is ∙ sym both.1 | inr both ↦ both.0 ∙ is ∙ sym both.1 ] in
        let all = at.paired.single old.number can.clause can.live single in
        let first_is : new.first ≡ (pair_of pairs old.number).first = All-contains (λ l. l ≡ (pair_of pairs old.number).first) can.clause new.first all can.first in
        let pair_is : (pair_of pairs old.number).first ≡ literal = elim can.was [ inl both ↦ both.0 | inr both ↦ both.0 ∙ is ] in
        can.not_false (subst P (sym (first_is ∙ pair_is)) at.false_)

    first_differs : new.first ≢ literal
    first_differs is =
        let P : ℕ → Type 0 = λ l. Contains path.literals (opposite l) in
        can.not_false (subst P (sym is) at.false_)

    one : (clause : List ℕ) (other : ℕ) → clause_of clauses other ≡ Some clause → other ≡ old.number → clause ≡ can.clause
    one clause other live same = one_some (clause_of clauses old.number) clause can.clause (sym (ap (λ n. clause_of clauses n) same) ∙ live) can.live

    was_pair : (other : ℕ) → other ≢ old.number → pair_of (set pairs old.number new) other ≡ pair_of pairs other
    was_pair other there = pair_there pairs old.number other new there

    by_pair : (other : ℕ) (P : Pair → Type 0) → (other ≡ old.number → P new) → P (pair_of pairs other) → P (pair_of (set pairs old.number new) other)
    by_pair other P here there =
        elim (cases_eq other old.number) [
          | inl same ↦ subst P (sym (pair_here pairs old.number other new below same)) (here same)
          | inr differs ↦ subst P (sym (was_pair other differs)) there
        ]

    -- a clause that watches the literal now is another one
    elsewhere_here : (other : ℕ) → Watches (pair_of (set pairs old.number new) other) literal → other ≢ old.number
    elsewhere_here other watches same =
        let P : Pair → Type 0 = λ pair. Watches pair literal in
        elim (subst P (pair_here pairs old.number other new below same) watches) [ inl is ↦ first_differs is | inr is ↦ other_differs is ]

    new_entry : IsEntry clauses (length pairs) (2 * path.variables) new.first (moved_entry old new)
    new_entry = record {
      some = head_entry.some;
      number = below;
      within = second_within;
      blocks = λ clause live. rw (one_some (clause_of clauses old.number) clause can.clause live can.live) second_stands;
      short = λ is. cc;
    }

    entries_at : (other : ℕ) → other ≢ literal → All (IsEntry clauses (length pairs) (2 * path.variables) other) (list_of (set lists new.first (list_of lists new.first ++ moved_entry old new ∷ [])) other)
    entries_at other differs =
        elim (cases_eq other new.first) [
          | inl same ↦
              rw (same, get_or-set_same lists new.first (list_of lists new.first ++ moved_entry old new ∷ []) [] (omega (arith, at.size, first_within)))
              (All-push (IsEntry clauses (length pairs) (2 * path.variables) new.first) (list_of lists new.first) (moved_entry old new) (at.entries new.first first_differs) new_entry)
          | inr elsewhere ↦ rw (get_or-set_other lists new.first other (list_of lists new.first ++ moved_entry old new ∷ []) [] elsewhere) (at.entries other differs)
        ]

    more : (other n : ℕ) → Names (list_of lists other) n → Names (list_of (set lists new.first (list_of lists new.first ++ moved_entry old new ∷ [])) other) n
    more other n named = list_more lists new.first other (moved_entry old new ∷ []) n (omega (arith, at.size, first_within)) named

    listed_new : (l n : ℕ) → old.number ≡ n → new.first ≡ l → Names (list_of (set lists new.first (list_of lists new.first ++ moved_entry old new ∷ [])) l) n
    listed_new l n same is =
        rw (sym is, get_or-set_same lists new.first (list_of lists new.first ++ moved_entry old new ∷ []) [] (omega (arith, at.size, first_within))) (moved_entry old new, Contains-push (list_of lists new.first) (moved_entry old new), same)

    old_differs : (pair_of pairs old.number).first ≢ (pair_of pairs old.number).second
    old_differs single = other_differs (elim can.was [ inl both ↦ sym both.1 ∙ sym single ∙ both.0 | inr both ↦ sym both.0 ∙ single ∙ both.1 ])

    listed_at : (other : ℕ) (clause : List ℕ) (l : ℕ) → clause_of clauses other ≡ Some clause
        → (pair_of (set pairs old.number new) other).first ≢ (pair_of (set pairs old.number new) other).second → Watches (pair_of (set pairs old.number new) other) l → l ≢ literal
        → Names (list_of (set lists new.first (list_of lists new.first ++ moved_entry old new ∷ [])) l) other
    listed_at other clause l live differs watches elsewhere =
        let P : Pair → Type 0 = λ pair. pair.first ≢ pair.second in
        let Q : Pair → Type 0 = λ pair. Watches pair l in
        elim (cases_eq other old.number) [
          | inr there ↦ more l other (at.listed other clause l live (subst P (was_pair other there) differs) (subst Q (was_pair other there) watches) elsewhere)
          | inl same ↦
              elim (subst Q (pair_here pairs old.number other new below same) watches) [
                | inl is ↦ listed_new l other (sym same) is
                | inr is ↦
                    let R : ℕ → Type 0 = λ w. Watches (pair_of pairs old.number) w in
                    let S : ℕ → Type 0 = λ n. Names (list_of lists l) n in
                    more l other (subst S (sym same) (at.listed old.number can.clause l can.live old_differs (subst R is watched) elsewhere))
              ]
        ]
