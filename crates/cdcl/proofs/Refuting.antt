-- A clause that is false by the clauses of one literal before it refutes the formula.
use Rattle.std.proofs.Common.{◌≡◌, ℕ, zero, suc, ◌+◌, ◌<◌, ◌≤◌, ℤ, neg_ℤ, false, List, [], ◌∷◌, ◌++◌, length, map, take, get_or, Option, Some, None, ◌⊎◌, inl, inr, refl, sym, ap, ◌∙◌, subst, arith}
use Rattle.std.specs.List.{All, AllPairs, Contains}
use Rattle.std.proofs.lemmas.Bool.{cases_lt}
use Rattle.std.proofs.lemmas.List.{map_push, length_push, take_more, take_all, get_or_push, length-map}
use Rattle.std.proofs.lemmas.List.Elements.{All-nil, All-push, All-weaker, All-contains, Contains-push, Contains-append_left}
use Rattle.std.proofs.lemmas.List.Quantifiers.{all_pairs_push}
use Rattle.clauses.specs.declared.cnf.Cnf.{Cnf}
use Rattle.clauses.specs.Literals.{clause_words}
use Rattle.clauses.specs.Live.{Numbered, clause_of, all_live}
use Rattle.clauses.specs.Passing.{Passes}
use Rattle.clauses.specs.Logs.{is_lemma, is_empty_lemma, LemmaPasses}
use Rattle.clauses.specs.Logs.LogEntry.{Lemma}
use Rattle.cdcl_trail.specs.Literals.{opposite, signed}
use Rattle.cdcl_trail.proofs.Renaming.{passes-map, signed-opposite, signed-apart}
use Rattle.cdcl_propagation.specs.State.{State, IsSettled}
use Rattle.cdcl_propagation.proofs.Joining.{live-more}
use Rattle.cdcl_conflict_theory.specs.Trails.{Steps, IsTrail, HasReason, IsFalseBelow, size_of, reason_at, literal_at}
use Rattle.cdcl_conflict_theory.specs.Closing.{IsCovered, IsNamed, IsStep, IsClosed}
use Rattle.cdcl_conflict_theory.specs.Lemmas.{IsRefuted}
use Rattle.cdcl_conflict_theory.proofs.Learning.{refuted}
use Rattle.cdcl_conflict_theory.proofs.Members.{all_members}
use Rattle.cdcl.specs.Evidence.{IsHalfLive}
use Rattle.cdcl.specs.Answers.{IsRefutation}
use Rattle.cdcl.specs.Solving.{signed_clauses}
use Rattle.cdcl.specs.Turns.{steps_at}
use Rattle.cdcl.specs.Loading.{IsLoading, IsFalseAt}
use Rattle.cdcl.proofs.Trails.{trail_of, begin_past, false_below}
use Rattle.cdcl.proofs.Loading.{signed_more, place_few}
use Rattle.cdcl.proofs.Logging.{renames}
use Rattle.cdcl.proofs.Stepping.{hints_live, hints_few, half_push, words_push, lemmas_push}

-- the first so many places, in order
places : ℕ → List ℕ
places zero = []
places (suc end) = places end ++ end ∷ []

length_places : (end : ℕ) → length (places end) ≡ end
unfolding places
length_places zero = refl
length_places (suc end) = omega (arith, length_push (places end) end, length_places end)

has_place : (end place : ℕ) → place < end → Contains (places end) place
unfolding places
has_place zero place below = absurd (omega arith)
has_place (suc end) place below =
    elim (cases_lt place end) [
      | inl before ↦ Contains-append_left (places end) (end ∷ []) place (has_place end place before)
      | inr last ↦ let is : place ≡ end = omega arith in rw is (Contains-push (places end) end)
    ]

places_below : (end : ℕ) → All (λ place. place < end) (places end)
unfolding places
places_below zero = All-nil (λ place. place < 0)
places_below (suc end) =
    All-push (λ place. place < suc end) (places end) end
    (All-weaker (λ place. place < end) (λ place. place < suc end) (λ place below. omega arith) (places end) (places_below end)) (omega arith)

places_rise : (end : ℕ) → AllPairs (λ place next. place < next) (places end)
unfolding places
places_rise zero = λ i j d order within. absurd (omega arith)
places_rise (suc end) =
    all_pairs_push (λ place next. place < next) (places end) end (places_rise end) (λ k d within. places_below end k d within)

reasons_at : (reasons : List ℕ) (end : ℕ) → end ≤ length reasons → map (λ place. get_or reasons place 0) (places end) ≡ take end reasons
unfolding places
reasons_at reasons zero within = refl
reasons_at reasons (suc end) within =
    let next : suc end ≡ end + 1 = omega arith in
    map_push (λ place. get_or reasons place 0) (places end) end
    ∙ ap (λ (rs : List ℕ). rs ++ get_or reasons end 0 ∷ []) (reasons_at reasons end (omega arith))
    ∙ sym (take_more reasons end 0 (omega arith))
    ∙ ap (λ n. take n reasons) (sym next)

-- the trail with one clause more
reason_more : (clauses : Numbered ℕ) (new : Option (List ℕ)) (steps : Steps) (place : ℕ) → HasReason clauses steps place → HasReason (clauses ++ new ∷ []) steps place
reason_more clauses new steps place has = record {
  clause = has.clause;
  live = live-more clauses new (reason_at steps place) has.clause has.live;
  own = has.own;
  others = has.others;
}

trail_more : (clauses : Numbered ℕ) (new : Option (List ℕ)) (steps : Steps) → IsTrail clauses steps → IsTrail (clauses ++ new ∷ []) steps
trail_more clauses new steps trail = record {
  apart = trail.apart;
  reasons = trail.reasons;
  order = trail.order;
  within = trail.within;
  reasoned = λ place within some. reason_more clauses new steps place (trail.reasoned place within some);
  fixed = trail.fixed;
  current = trail.current;
}

new_live : (clauses : Numbered ℕ) (clause : List ℕ) → clause_of (clauses ++ Some clause ∷ []) (suc (length clauses)) ≡ Some clause
new_live clauses clause = get_or_push clauses (Some clause) None (length clauses) refl

covered : (steps : Steps) (end place literal : ℕ) → end ≤ place → IsFalseBelow steps end literal → IsCovered steps [] (places place) end literal
covered steps end place literal order (other, below, is) = (other, below, is, inr (has_place place other (omega arith)))

-- all places are explained
closed : (clauses : Numbered ℕ) (steps : Steps) (clause : List ℕ) → IsTrail clauses steps → steps.fixed ≡ size_of steps → All (IsFalseBelow steps (size_of steps)) clause
    → IsClosed (clauses ++ Some clause ∷ []) steps (suc (length clauses)) [] (places (size_of steps))
closed clauses steps clause trail fixed falses =
    let size = size_of steps in
    let more = trail_more clauses (Some clause) steps trail in
    record {
      within = All-nil (λ place. place < size);
      falling = λ i j d order within. absurd (omega arith);
      rising = places_rise size;
      each = All-weaker (λ place. place < size) (IsStep (clauses ++ Some clause ∷ []) steps [] (places size))
          (λ place below.
          let has = more.reasoned place below (more.fixed place (omega arith)) in
          record {
            within = below;
            clause = has.clause;
            live = has.live;
            own = has.own;
            others = All-weaker (λ other. (other ≡ literal_at steps place) ⊎ IsFalseBelow steps place other) (λ other. (other ≡ literal_at steps place) ⊎ IsCovered steps [] (places size) place other)
                (λ other either. elim either [ inl same ↦ inl same | inr before ↦ inr (covered steps place size other (omega arith) before) ])
                has.clause has.others;
          })
          (places size) (places_below size);
      named = All-nil (IsNamed (clauses ++ Some clause ∷ []) steps (suc (length clauses)) (places size));
      clause = clause;
      live = new_live clauses clause;
      covered = All-weaker (IsFalseBelow steps size) (IsCovered steps [] (places size) size) (λ literal before. covered steps size size literal (omega arith) before) clause falses;
    }

-- a lemma passes over more clauses
passes_more : (live more : ℕ → Option (List ℤ)) → ((number : ℕ) (clause : List ℤ) → live number ≡ Some clause → more number ≡ Some clause) → (set : List ℤ) (hints : List ℕ)
    → Passes neg_ℤ live set hints → Passes neg_ℤ more set hints
passes_more live more keeps set [] passes = passes
passes_more live more keeps set (hint ∷ []) passes = (passes.0, keeps hint passes.0 passes.1, passes.2)
passes_more live more keeps set (hint ∷ (next ∷ hints)) passes =
    (passes.0, passes.1, keeps hint passes.0 passes.2, passes.3, passes_more live more keeps (set ++ neg_ℤ passes.1 ∷ []) (next ∷ hints) passes.4)

live_take : (formula : List (List ℤ)) (count place : ℕ) (clause : List ℤ) → get_or (all_live (take count formula)) place None ≡ Some clause → get_or (all_live formula) place None ≡ Some clause
live_take formula zero place clause at = cc
live_take [] (suc count) place clause at = at
live_take (first ∷ formula) (suc count) zero clause at = at
live_take (first ∷ formula) (suc count) (suc place) clause at = live_take formula count place clause at

number_take : (formula : List (List ℤ)) (count number : ℕ) (clause : List ℤ) → clause_of (all_live (take count formula)) number ≡ Some clause → clause_of (all_live formula) number ≡ Some clause
number_take formula count zero clause at = cc
number_take formula count (suc place) clause at = live_take formula count place clause at

-- the clauses up to the one that is false refute the formula
pub record IsRefutedAt (cnf : Cnf) (state : State) (place : ℕ) : Type 0 where
  pub clauses : Numbered ℕ
  pub size : length clauses ≡ place + 1
  pub named : signed_clauses clauses ≡ all_live (take (place + 1) cnf.clauses)
  pub refuted : IsRefuted clauses [] (state.path.reasons ++ (place + 1) ∷ [])

pub refuted_at : (cnf : Cnf) (state : State) (place : ℕ) → IsSettled state → IsLoading cnf place state → IsFalseAt cnf state place → IsRefutedAt cnf state place
refuted_at cnf state place settled loading false_ =
    let path = state.path in
    let steps = steps_at path in
    let trail = trail_of state settled in
    let fixed : steps.fixed ≡ size_of steps = begin_past path 0 (omega (arith, ap length loading.limits)) in
    let falses : All (IsFalseBelow steps (size_of steps)) false_.clause =
    all_members (IsFalseBelow steps (size_of steps)) false_.clause (λ literal there.
    let opposed : Contains path.literals (opposite literal) = All-contains (λ l. Contains path.literals (opposite l)) false_.clause literal false_.false_ there in
    false_below path (length path.literals) literal (omega arith) (subst (λ (ls : List ℕ). Contains ls (opposite literal)) (sym (take_all (length path.literals) path.literals (omega arith))) opposed)) in
    let by = refuted (state.clauses ++ Some false_.clause ∷ []) steps (suc (length state.clauses)) (places (size_of steps)) (trail_more state.clauses (Some false_.clause) steps trail)
    (closed state.clauses steps false_.clause trail fixed falses) in
    let reasons : map (λ p. get_or path.reasons p 0) (places (size_of steps)) ≡ path.reasons =
    reasons_at path.reasons (size_of steps) (omega (arith, trail.reasons)) ∙ take_all (size_of steps) path.reasons (omega (arith, trail.reasons)) in
    let number : suc (length state.clauses) ≡ place + 1 = omega (arith, loading.numbers) in
    record {
      clauses = state.clauses ++ Some false_.clause ∷ [];
      size = omega (arith, length_push state.clauses (Some false_.clause), loading.numbers);
      named = signed_more cnf place state.clauses false_.clause false_.within false_.is loading.clauses_are;
      refuted = rw (reasons, number) at by;
    }

-- the numbers and words of the log
pub at_once_live : (cnf : Cnf) (state : State) (place : ℕ) → (at : IsRefutedAt cnf state place) → All (λ hint. (0 < hint) × (hint ≤ place + 1)) (state.path.reasons ++ (place + 1) ∷ [])
at_once_live cnf state place at =
    let live = hints_live at.clauses [] (state.path.reasons ++ (place + 1) ∷ []) at.refuted.passes in
    rw at.size at live

pub at_once_few : (cnf : Cnf) (state : State) (place : ℕ) → (at : IsRefutedAt cnf state place) → length (state.path.reasons ++ (place + 1) ∷ []) ≤ place + 2
at_once_few cnf state place at =
    let hints = state.path.reasons ++ (place + 1) ∷ [] in
    omega (arith, hints_few at.clauses hints (hints_live at.clauses [] hints at.refuted.passes) at.refuted.hints_once, at.size)

half_none : (formula : List (List ℤ)) → IsHalfLive formula []
half_none formula zero = omega arith
half_none formula (suc count) = omega arith

pub refutation_at : (cnf : Cnf) (state : State) (place : ℕ) → clause_words cnf.clauses ≤ 400000000 → place < length cnf.clauses → IsRefutedAt cnf state place
    → IsRefutation cnf 1 (Lemma [] (state.path.reasons ++ (place + 1) ∷ []) ∷ [])
refutation_at cnf state place small within at =
    let hints = state.path.reasons ++ (place + 1) ∷ [] in
    let entry = Lemma [] hints in
    let named = all_live (take (place + 1) cnf.clauses) in
    let passes : Passes neg_ℤ (clause_of named) [] hints =
    passes-map signed opposite neg_ℤ signed-opposite signed-apart (clause_of at.clauses) (clause_of named) [] hints (renames at.clauses named at.named) at.refuted.passes in
    let all : LemmaPasses cnf.variables cnf.clauses [] [] hints = record {
      none_empty = All-nil (λ entry. is_empty_lemma entry ≡ false);
      within = refl;
      refuted = passes_more (clause_of named) (clause_of (all_live cnf.clauses)) (number_take cnf.clauses (place + 1)) [] hints passes;
    } in
    record {
      refutes = record {
        all_pass = (all, tt);
        before = [];
        hints = hints;
        behind = [];
        is = refl;
        last = All-nil (λ entry. is_lemma entry ≡ false);
      };
      words = omega (arith, small, words_push [] entry, at_once_few cnf state place at, place_few cnf.clauses place within);
      few = omega (arith, lemmas_push [] entry);
      tidy = record {
        drops_live = tt;
        half_live = half_push cnf.clauses [] [] hints (omega (arith, length-map cnf.clauses (λ (c : List ℤ). Some c))) (half_none cnf.clauses);
        empty_last = All-nil (λ entry. is_empty_lemma entry ≡ false);
      };
    }
