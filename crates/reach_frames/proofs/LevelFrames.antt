-- Frames of levels: what a level adds, and what changes with one.
use Rattle.std.proofs.Common.{◌≡◌, ◌≢◌, ℕ, zero, suc, ◌+◌, ◌-◌, ◌<◌, ◌≤◌, ℤ, Bool, true, ◌&&◌, ◌||◌, List, [], ◌∷◌, ◌++◌, length, get_or, set, refl, sym, ap, ◌∙◌, subst, arith, append_assoc, length-append, add-zero, add-suc}
use Rattle.std.specs.List.{list_all, list_any, All, Contains}
use Rattle.std.proofs.lemmas.Bool.{and_parts}
use Rattle.std.proofs.lemmas.List.{length-map}
use Rattle.std.proofs.lemmas.List.Elements.{All-contains_itself, All-weaker, Contains-append_right}
use Rattle.std.proofs.lemmas.List.Folds.{list_all-append, list_any-append}
use Rattle.clauses.specs.Models.{meets}
use Rattle.reach_frames.specs.Bits.{values_of, is_met}
use Rattle.reach_frames.specs.Cubes.{IsCube, IsFrame}
use Rattle.reach_frames.specs.Levels.{clauses_of, frames_of}
use Rattle.reach_frames.specs.Searches.{frame_in}
use Rattle.reach_frames.specs.declared.level.KeptClause.{KeptClause}
use Rattle.reach_frames.proofs.Insertions.{IsInserted, all_right, pairs_right}

pub frame_count : (levels : List (List KeptClause)) → length (frames_of levels) ≡ length levels
frame_count [] = refl
frame_count (level ∷ levels) = ap suc (frame_count levels)

-- a frame is the clauses of its level, and then those of the next frame
pub frame_tail : (levels : List (List KeptClause)) (place : ℕ) → frame_in levels place ≡ clauses_of (get_or levels place []) ++ frame_in levels (suc place)
frame_tail [] place = refl
frame_tail (level ∷ levels) zero = refl
frame_tail (level ∷ levels) (suc place) = frame_tail levels place

-- behind the last frame there are no clauses
pub frame_past : (levels : List (List KeptClause)) (place : ℕ) → length levels ≤ place → frame_in levels place ≡ []
frame_past [] place past = refl
frame_past (level ∷ levels) zero past = absurd (omega arith)
frame_past (level ∷ levels) (suc place) past = frame_past levels place (omega (arith, past))

-- the last frame has the clauses of the last level
pub last_frame : (levels : List (List KeptClause)) (place : ℕ) → suc place ≡ length levels → length (frame_in levels place) ≡ length (get_or levels place [])
last_frame levels place last =
    let whole : frame_in levels place ≡ clauses_of (get_or levels place []) ++ [] =
    frame_tail levels place ∙ ap (λ (rest : List (List ℤ)). clauses_of (get_or levels place []) ++ rest) (frame_past levels (suc place) (omega (arith, last))) in
    omega (arith, ap length whole, length-append (clauses_of (get_or levels place [])) [], length-map (get_or levels place []) (λ kept. kept.clause))

pub frame_among : (levels : List (List KeptClause)) (place : ℕ) → All (Contains (frame_in levels place)) (frame_in levels (suc place))
frame_among levels place =
    let next = frame_in levels (suc place) in
    let level = clauses_of (get_or levels place []) in
    rw (frame_tail levels place) (All-weaker (Contains next) (Contains (level ++ next)) (λ clause member. Contains-append_right level next clause member) next (All-contains_itself next))

test_tail : (p : List ℤ → Bool) (levels : List (List KeptClause)) (place : ℕ) → list_all p (frame_in levels place) ≡ (list_all p (clauses_of (get_or levels place [])) && list_all p (frame_in levels (suc place)))
test_tail p levels place =
    ap (list_all p) (frame_tail levels place) ∙ list_all-append p (clauses_of (get_or levels place [])) (frame_in levels (suc place))

test_further : (p : List ℤ → Bool) (levels : List (List KeptClause)) (place more : ℕ) → list_all p (frame_in levels place) ≡ true → list_all p (frame_in levels (place + more)) ≡ true
test_further p levels place zero all = rw add-zero all
test_further p levels place (suc more) all =
    let here = test_further p levels place more all in
    let parts = and_parts _ _ (sym (test_tail p levels (place + more)) ∙ here) in
    rw add-suc parts.1

-- what each clause of a frame passes, each of a later frame and of its level does
pub test_later : (p : List ℤ → Bool) (levels : List (List KeptClause)) (place later : ℕ) → place ≤ later → list_all p (frame_in levels place) ≡ true → list_all p (frame_in levels later) ≡ true
test_later p levels place later less all =
    let at : place + (later - place) ≡ later = omega arith in
    subst (λ k. list_all p (frame_in levels k) ≡ true) at (test_further p levels place (later - place) all)

pub test_level : (p : List ℤ → Bool) (levels : List (List KeptClause)) (place later : ℕ) → place ≤ later → list_all p (frame_in levels place) ≡ true → list_all p (clauses_of (get_or levels later [])) ≡ true
test_level p levels place later less all = (and_parts _ _ (sym (test_tail p levels later) ∙ test_later p levels place later less all)).0

-- a state that meets a frame meets each later one
pub met_later : (levels : List (List KeptClause)) (place later : ℕ) (state : List Bool) → place ≤ later → is_met (frame_in levels place) state ≡ true → is_met (frame_in levels later) state ≡ true
met_later levels place later state less met = test_later (meets (values_of state)) levels place later less met

-- where the first frame is one, each is
pub frames_from_first : (width : ℕ) (levels : List (List KeptClause)) (place : ℕ) → IsFrame width (frame_in levels 0) → IsFrame width (frame_in levels place)
frames_from_first width levels zero is = is
frames_from_first width levels (suc place) is =
    let before = frames_from_first width levels place is in
    let level = clauses_of (get_or levels place []) in
    let next = frame_in levels (suc place) in
    record {
      each = all_right (IsCube width) level next (rw (frame_tail levels place) at before.each);
      once = pairs_right (λ a b. a ≢ b) level next (rw (frame_tail levels place) at before.once);
    }

-- a clause more at one level is one more in each frame up to it, and the others stay
pub inserted_in : (levels : List (List KeptClause)) (top : ℕ) (level : List KeptClause) (clause : List ℤ) → top < length levels
    → IsInserted clause (clauses_of (get_or levels top [])) (clauses_of level) → (place : ℕ) → place ≤ top → IsInserted clause (frame_in levels place) (frame_in (set levels top level) place)
inserted_in [] top level clause within is place below = absurd (omega arith)
inserted_in (first ∷ levels) zero level clause within is zero below = record {
  front = is.front;
  behind = is.behind ++ frame_in levels 0;
  old_is = ap (λ clauses. clauses ++ frame_in levels 0) is.old_is ∙ append_assoc is.front is.behind (frame_in levels 0);
  new_is = ap (λ clauses. clauses ++ frame_in levels 0) is.new_is ∙ append_assoc is.front (clause ∷ is.behind) (frame_in levels 0);
}
inserted_in (first ∷ levels) zero level clause within is (suc place) below = absurd (omega arith)
inserted_in (first ∷ levels) (suc top) level clause within is zero below =
    let rest = inserted_in levels top level clause (omega (arith, within)) is 0 (omega arith) in
    record {
      front = clauses_of first ++ rest.front;
      behind = rest.behind;
      old_is = ap (λ clauses. clauses_of first ++ clauses) rest.old_is ∙ sym (append_assoc (clauses_of first) rest.front rest.behind);
      new_is = ap (λ clauses. clauses_of first ++ clauses) rest.new_is ∙ sym (append_assoc (clauses_of first) rest.front (clause ∷ rest.behind));
    }
inserted_in (first ∷ levels) (suc top) level clause within is (suc place) below =
    inserted_in levels top level clause (omega (arith, within)) is place (omega (arith, below))

pub above_set : (levels : List (List KeptClause)) (top : ℕ) (level : List KeptClause) (place : ℕ) → top < place → frame_in (set levels top level) place ≡ frame_in levels place
above_set [] top level place above = refl
above_set (first ∷ levels) top level zero above = absurd (omega arith)
above_set (first ∷ levels) zero level (suc place) above = refl
above_set (first ∷ levels) (suc top) level (suc place) above = above_set levels top level place (omega (arith, above))

-- a frame behind the others changes none
pub frame_more : (levels : List (List KeptClause)) (place : ℕ) → frame_in (levels ++ [] ∷ []) place ≡ frame_in levels place
frame_more [] zero = refl
frame_more [] (suc place) = refl
frame_more (level ∷ levels) zero = ap (λ clauses. clauses_of level ++ clauses) (frame_more levels 0)
frame_more (level ∷ levels) (suc place) = frame_more levels place

-- a level of the same clauses changes no frame
pub same_set : (levels : List (List KeptClause)) (top : ℕ) (level : List KeptClause) (place : ℕ) → top < length levels → clauses_of level ≡ clauses_of (get_or levels top []) → frame_in (set levels top level) place ≡ frame_in levels place
same_set [] top level place within same = absurd (omega arith)
same_set (first ∷ levels) zero level zero within same = ap (λ clauses. clauses ++ frame_in levels 0) same
same_set (first ∷ levels) zero level (suc place) within same = refl
same_set (first ∷ levels) (suc top) level zero within same = ap (λ clauses. clauses_of first ++ clauses) (same_set levels top level 0 (omega (arith, within)) same)
same_set (first ∷ levels) (suc top) level (suc place) within same = same_set levels top level place (omega (arith, within)) same

-- a frame has a part of a clause, if its level or the next frame has
pub part_tail : (p : List ℤ → Bool) (levels : List (List KeptClause)) (place : ℕ) → list_any p (frame_in levels place) ≡ (list_any p (clauses_of (get_or levels place [])) || list_any p (frame_in levels (suc place)))
part_tail p levels place =
    ap (list_any p) (frame_tail levels place) ∙ list_any-append p (clauses_of (get_or levels place [])) (frame_in levels (suc place))
