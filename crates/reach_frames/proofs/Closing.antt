-- Cubes that are kept out, and the clauses that keep them out.
use Rattle.std.proofs.Common.{◌≡◌, ℕ, zero, suc, ◌+◌, ◌<◌, ◌≤◌, ℤ, Bool, true, false, not, eqb, eq-eqb, List, [], ◌∷◌, ◌++◌, length, get_or, set, map, take, drop, None, refl, sym, ap, ◌∙◌, inl, inr, arith, add-one}
use Rattle.std.proofs.lemmas.Bool.{and_right, cases_Bool, eqb-true, false≢true, true≢false, false_from_ne_true, not-true}
use Rattle.std.proofs.lemmas.List.Elements.{All-contains}
use Rattle.std.proofs.lemmas.List.Sums.{AllPass-from_list_all, list_all-from_AllPass}
use Rattle.clauses.specs.declared.flat.TheConstants.{MOST_VARIABLES}
use Rattle.clauses.specs.Literals.{clause_within, clauses_within}
use Rattle.clauses.specs.Models.{meets}
use Rattle.clauses.proofs.Soundness.{member_from_any}
use Rattle.reach_frames.specs.Bits.{values_of, is_met, is_in_cube}
use Rattle.reach_frames.specs.Cubes.{IsCube, IsFrame, negated}
use Rattle.reach_frames.specs.Entries.{HasNoEntry}
use Rattle.reach_frames.specs.Marks.{is_part, has_part, without_weaker}
use Rattle.reach_frames.specs.Searches.{frame_in, frame_before, AreReady, AreNarrowed, IsClosed, IsKeptOut, IsShut, IsWithin}
use Rattle.reach_frames.specs.Systems.{System}
use Rattle.reach_frames.specs.declared.level.KeptClause.{KeptClause}
use Rattle.reach_frames.proofs.Changes.{grown, grown_with}
use Rattle.reach_frames.proofs.Cubes.{within_more}
use Rattle.reach_frames.proofs.LevelFrames.{met_later}
use Rattle.reach_frames.proofs.Narrowing.{MayBeAdded, add_sound, narrowed_none}
use Rattle.reach_frames.proofs.Negations.{meets_negated, negated-IsCube}
use Rattle.reach_frames.proofs.Parts.{part_meets}

-- the literals of frames can be written
frame_fits : (width : ℕ) (clauses : List (List ℤ)) → width ≤ MOST_VARIABLES → IsFrame width clauses → clauses_within MOST_VARIABLES clauses ≡ true
frame_fits width clauses few frame =
    list_all-from_AllPass (clause_within MOST_VARIABLES) clauses (λ k d end. within_more width MOST_VARIABLES (get_or clauses k d) few (frame.each k d end).within)

pub ready_fits : (system : System) (levels : List (List KeptClause)) (place : ℕ) → AreReady system levels → clauses_within MOST_VARIABLES (frame_in levels place) ≡ true
ready_fits system levels place ready = frame_fits system.width (frame_in levels place) ready.few (ready.sound.framed place)

pub before_fits : (system : System) (levels : List (List KeptClause)) (place : ℕ) → AreReady system levels → clauses_within MOST_VARIABLES (frame_before levels place) ≡ true
before_fits system levels zero ready = refl
before_fits system levels (suc place) ready = ready_fits system levels place ready

pub before_framed : (system : System) (levels : List (List KeptClause)) (place : ℕ) → AreReady system levels → IsFrame system.width (frame_before levels place)
before_framed system levels zero ready = record {
  each = λ k d end. absurd (omega (arith, end));
  once = λ i j d before end. absurd (omega (arith, end));
}
before_framed system levels (suc place) ready = ready.sound.framed place

-- what nothing leads into, as a law of neighbours
pub closed_from_shut : (system : System) (levels : List (List KeptClause)) (place : ℕ) (cube : List ℤ) → IsShut system (frame_before levels place) (eqb place 0) cube → IsClosed system levels place cube
closed_from_shut system levels place cube shut = record {
  is_cube = shut.is_cube;
  unbegun = shut.unbegun;
  closed = λ state next met outside begins follows.
      false_from_ne_true (is_in_cube cube next) (λ inside.
      shut.closed (record { before = state; after = next })
      (record { follows = follows; meets = met; outside = outside; inside = inside; begins = λ first. begins (eqb-true place 0 first) }));
}

-- and the other way round
pub shut_from_closed : (system : System) (levels : List (List KeptClause)) (place : ℕ) (cube : List ℤ) → IsClosed system levels place cube → IsShut system (frame_before levels place) (eqb place 0) cube
shut_from_closed system levels place cube closed = record {
  is_cube = closed.is_cube;
  unbegun = closed.unbegun;
  closed = λ entry is. false≢true (sym (closed.closed entry.before entry.after is.meets is.outside (λ first. is.begins (eq-eqb place 0 first)) is.follows) ∙ is.inside);
}

pub closed_further : (system : System) (levels : List (List KeptClause)) (place : ℕ) (cube : List ℤ) → IsClosed system levels place cube → HasNoEntry system (frame_in levels place) false cube
    → IsClosed system levels (suc place) cube
closed_further system levels place cube closed none = record {
  is_cube = closed.is_cube;
  unbegun = closed.unbegun;
  closed = λ state next met outside begins follows.
      false_from_ne_true (is_in_cube cube next) (λ inside.
      none (record { before = state; after = next })
      (record { follows = follows; meets = met; outside = outside; inside = inside; begins = λ no. absurd (false≢true no) }));
}

-- the clause of a cube is missed in it
pub missed_in_cube : (width : ℕ) (cube : List ℤ) (state : List Bool) → IsCube width cube → is_in_cube cube state ≡ true → meets (values_of state) (negated cube) ≡ false
missed_in_cube width cube state is inside = meets_negated (values_of state) width cube is.within ∙ ap not inside

met_outside : (width : ℕ) (cube : List ℤ) (state : List Bool) → IsCube width cube → is_in_cube cube state ≡ false → meets (values_of state) (negated cube) ≡ true
met_outside width cube state is outside = meets_negated (values_of state) width cube is.within ∙ ap not outside

outside_where_met : (width : ℕ) (cube : List ℤ) (state : List Bool) → IsCube width cube → meets (values_of state) (negated cube) ≡ true → is_in_cube cube state ≡ false
outside_where_met width cube state is met = not-true (is_in_cube cube state) (sym (meets_negated (values_of state) width cube is.within) ∙ met)

pub may_from_closed : (system : System) (levels : List (List KeptClause)) (top : ℕ) (cube : List ℤ) → IsClosed system levels top cube → MayBeAdded system levels top (negated cube)
may_from_closed system levels top cube closed = record {
  begun = λ state begins. met_outside system.width cube state closed.is_cube (closed.unbegun state begins);
  step = λ state next met clause begins follows.
      met_outside system.width cube next closed.is_cube
      (closed.closed state next met (outside_where_met system.width cube state closed.is_cube clause) begins follows);
}

-- a frame that has a part of a cube's clause keeps the cube out
pub out_by_part : (width : ℕ) (clauses : List (List ℤ)) (cube : List ℤ) → IsCube width cube → has_part clauses (negated cube) ≡ true → IsKeptOut clauses cube
out_by_part width clauses cube is has = λ state inside.
    false_from_ne_true (is_met clauses state) (λ met.
    let found = member_from_any (λ other. is_part other (negated cube)) clauses has in
    let part = All-contains (λ clause. meets (values_of state) clause ≡ true) clauses found.0 (AllPass-from_list_all (meets (values_of state)) clauses met) found.1 in
    true≢false (sym (part_meets (values_of state) found.0 (negated cube) found.2 part) ∙ missed_in_cube width cube state is inside))

-- a cube that is kept out of a frame is kept out of the earlier ones
pub out_earlier : (levels : List (List KeptClause)) (place later : ℕ) (cube : List ℤ) → place ≤ later → IsKeptOut (frame_in levels later) cube → IsKeptOut (frame_in levels place) cube
out_earlier levels place later cube less out = λ state inside.
    false_from_ne_true (is_met (frame_in levels place) state) (λ met.
    true≢false (sym (met_later levels place later state less met) ∙ out state inside))

pub out_within : (clauses : List (List ℤ)) (cube other : List ℤ) → IsWithin cube other → IsKeptOut clauses other → IsKeptOut clauses cube
out_within clauses cube other within out = λ state inside. out state (within state inside)

-- the levels after the clause of a cube was added, if it says more than what is there
abbrev pub AreAdded : List (List KeptClause) → List (List KeptClause) → ℕ → List ℤ → Type 0
AreAdded old new top clause =
    (has_part (frame_in old top) clause ≡ true → new ≡ old)
    × (has_part (frame_in old top) clause ≡ false → new ≡ set (map (without_weaker clause) (take (top + 1) old) ++ drop (top + 1) old) top
    (without_weaker clause (get_or old top []) ++ record { clause = clause; witness = None } ∷ []))

grown_is : (old new : List (List KeptClause)) (top : ℕ) (clause : List ℤ) → AreAdded old new top clause → has_part (frame_in old top) clause ≡ false → new ≡ grown old top (record { clause = clause; witness = None })
grown_is old new top clause added none =
    added.1 none
    ∙ ap (λ (n : ℕ). set (map (without_weaker clause) (take n old) ++ drop n old) top (without_weaker clause (get_or old top []) ++ record { clause = clause; witness = None } ∷ [])) (add-one top)

pub added_narrows : (system : System) (old new : List (List KeptClause)) (top : ℕ) (cube : List ℤ) → AreReady system old → top < length old → IsClosed system old top cube → AreAdded old new top (negated cube) → AreNarrowed system old new
added_narrows system old new top cube ready within closed added =
    let clause = negated cube in
    elim (cases_Bool (has_part (frame_in old top) clause)) [
      | inl has ↦ rw (added.0 has) (narrowed_none system old ready)
      | inr none ↦
          let kept : KeptClause = record { clause = clause; witness = None } in
          let is = grown_with system old top kept within refl none (negated-IsCube system.width cube closed.is_cube) (ready.sound.framed 0) ready.witnessed in
          rw (grown_is old new top clause added none) (add_sound system old (grown old top kept) clause top ready is (may_from_closed system old top cube closed))
    ]

pub added_keeps_out : (system : System) (old new : List (List KeptClause)) (place top : ℕ) (cube : List ℤ) → AreReady system old → top < length old → place ≤ top → IsClosed system old top cube → AreAdded old new top (negated cube)
    → IsKeptOut (frame_in new place) cube
added_keeps_out system old new place top cube ready within less closed added =
    let clause = negated cube in
    elim (cases_Bool (has_part (frame_in old top) clause)) [
      | inl has ↦ rw (added.0 has) (out_earlier old place top cube less (out_by_part system.width (frame_in old top) cube closed.is_cube has))
      | inr none ↦
          let kept : KeptClause = record { clause = clause; witness = None } in
          let is = grown_with system old top kept within refl none (negated-IsCube system.width cube closed.is_cube) (ready.sound.framed 0) ready.witnessed in
          rw (grown_is old new top clause added none) (λ state inside. is.below place state less ∙ and_right _ _ (missed_in_cube system.width cube state closed.is_cube inside))
    ]
