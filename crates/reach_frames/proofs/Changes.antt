-- A clause more in the frames up to a place: by adding it, and by moving it one level on.
use Rattle.std.proofs.Common.{◌≡◌, ◌≢◌, ℕ, suc, ◌+◌, ◌<◌, ◌≤◌, ℤ, Bool, true, false, not, ◌&&◌, List, [], ◌∷◌, ◌++◌, length, get_or, set, map, take, drop, Some, None, refl, sym, ap, ◌∙◌, subst, inl, inr, arith, add-one, length-set}
use Rattle.std.specs.List.{remove, slice_get, All, Contains}
use Rattle.std.proofs.lemmas.Bool.{and_right, cases_lt, cases_Bool, true≢false}
use Rattle.std.proofs.lemmas.List.{append-nil, map-append, set-get_or, set-set, get_or-set_same, get_or-set_other, take-append-drop, drop_more}
use Rattle.std.proofs.lemmas.List.Elements.{All-append, All-contains, All-drop, All-filter, All-get_or, All-map, All-push, All-set, All-take, All-weaker}
use Rattle.std.proofs.lemmas.Option.{get_or_from_slice_get, slice_get_within}
use Rattle.clauses.specs.Models.{meets}
use Rattle.clauses.proofs.Soundness.{none_from_any}
use Rattle.reach_frames.specs.Bits.{values_of, is_met}
use Rattle.reach_frames.specs.Cubes.{IsCube, IsFrame}
use Rattle.reach_frames.specs.Levels.{clauses_of, AreWitnesses, IsWitnessed}
use Rattle.reach_frames.specs.Marks.{is_part, has_part, without_weaker}
use Rattle.reach_frames.specs.Searches.{frame_in}
use Rattle.reach_frames.specs.Systems.{System}
use Rattle.reach_frames.specs.declared.level.KeptClause.{KeptClause}
use Rattle.reach_frames.proofs.Insertions.{IsInserted, all_inserted, all_taken, member_inserted, once_inserted, once_taken, fresh_taken, test_inserted}
use Rattle.reach_frames.proofs.LevelFrames.{inserted_in, above_set}
use Rattle.reach_frames.proofs.Parts.{part_itself}
use Rattle.reach_frames.proofs.Sifting.{sifted, above_sifted, all_sifted, count_sifted, fresh_sifted, level_at_sifted, met_sifted, once_sifted}

-- a clause more, in the frames up to a place
pub record IsWith (system : System) (old new : List (List KeptClause)) (clause : List ℤ) (top : ℕ) : Type 0 where
  pub many : length new ≡ length old
  pub below : (place : ℕ) (state : List Bool) → place ≤ top
      → is_met (frame_in new place) state ≡ (is_met (frame_in old place) state && meets (values_of state) clause)
  pub above : (place : ℕ) (state : List Bool) → top < place → is_met (frame_in new place) state ≡ is_met (frame_in old place) state
  pub framed : IsFrame system.width (frame_in new 0)
  pub witnessed : AreWitnesses system new

last_inserted : (level : List KeptClause) (kept : KeptClause) → IsInserted kept.clause (clauses_of level) (clauses_of (level ++ kept ∷ []))
last_inserted level kept = record {
  front = clauses_of level;
  behind = [];
  old_is = sym (append-nil (clauses_of level));
  new_is = map-append (λ k. k.clause) level (kept ∷ []);
}

-- a frame that keeps no part of a clause does not have it
fresh_by_part : (clauses : List (List ℤ)) (clause : List ℤ) → has_part clauses clause ≡ false → Contains clauses clause → ⊥
fresh_by_part clauses clause none member =
    let no = All-contains (λ other. is_part other clause ≡ false) clauses clause (none_from_any (λ other. is_part other clause) clauses none) member in
    true≢false (sym (part_itself clause) ∙ no)

inserted_frame : (width : ℕ) (clause : List ℤ) (old new : List (List ℤ)) → IsInserted clause old new → IsFrame width old → IsCube width clause → (Contains old clause → ⊥) → IsFrame width new
inserted_frame width clause old new is frame cube fresh = record {
  each = all_inserted (IsCube width) clause old new is frame.each cube;
  once = once_inserted clause old new is frame.once fresh;
}

-- the levels after a clause was added
abbrev pub grown : List (List KeptClause) → ℕ → KeptClause → List (List KeptClause)
grown levels top kept = set (sifted kept.clause top levels) top (without_weaker kept.clause (get_or levels top []) ++ kept ∷ [])

each_sifted : (system : System) (clause : List ℤ) (levels : List (List KeptClause)) → AreWitnesses system levels → AreWitnesses system (map (without_weaker clause) levels)
each_sifted system clause levels all =
    let W : List KeptClause → Type 0 = All (IsWitnessed system) in
    All-map W (without_weaker clause) levels
    (All-weaker W (λ level. W (without_weaker clause level)) (λ level each. All-filter (λ kept. not (is_part clause kept.clause)) (IsWitnessed system) level each) levels all)

pub grown_with : (system : System) (levels : List (List KeptClause)) (top : ℕ) (kept : KeptClause) → top < length levels → kept.witness ≡ None → has_part (frame_in levels top) kept.clause ≡ false
    → IsCube system.width kept.clause → IsFrame system.width (frame_in levels 0) → AreWitnesses system levels → IsWith system levels (grown levels top kept) kept.clause top
grown_with system levels top kept within bare none cube frame witnessed =
    let clause = kept.clause in
    let base = sifted clause top levels in
    let level = without_weaker clause (get_or levels top []) ++ kept ∷ [] in
    let inside : top < length base = omega (arith, count_sifted clause top levels) in
    let inserted : IsInserted clause (clauses_of (get_or base top [])) (clauses_of level) =
    rw (level_at_sifted clause top levels) (last_inserted (without_weaker clause (get_or levels top [])) kept) in
    let W : List KeptClause → Type 0 = All (IsWitnessed system) in
    record {
      many = length-set base top level ∙ count_sifted clause top levels;
      below = λ place state less.
          test_inserted (meets (values_of state)) clause (frame_in base place) (frame_in (set base top level) place) (inserted_in base top level clause inside inserted place less)
          ∙ both_with clause top levels place state;
      above = λ place state more. ap (λ clauses. is_met clauses state) (above_set base top level place more ∙ above_sifted clause top levels place more);
      framed = inserted_frame system.width clause (frame_in base 0) (frame_in (set base top level) 0) (inserted_in base top level clause inside inserted 0 (omega arith))
          (record { each = all_sifted (IsCube system.width) clause top levels frame.each; once = once_sifted clause top levels frame.once })
          cube (fresh_sifted clause top levels (fresh_by_part (frame_in levels top) clause none));
      witnessed = All-set W base top level
          (All-push (IsWitnessed system) (without_weaker clause (get_or levels top [])) kept
          (All-filter (λ k. not (is_part clause k.clause)) (IsWitnessed system) (get_or levels top []) (All-get_or W levels top [] within witnessed))
          (unwitnessed system kept bare))
          (All-append W (map (without_weaker clause) (take (suc top) levels)) (drop (suc top) levels)
          (each_sifted system clause (take (suc top) levels) (All-take W (suc top) levels witnessed))
          (All-drop W (suc top) levels witnessed));
    }
  where
    unwitnessed : (system : System) (kept : KeptClause) → kept.witness ≡ None → IsWitnessed system kept
    unwitnessed system kept bare = rw bare tt

    both_with : (clause : List ℤ) (top : ℕ) (levels : List (List KeptClause)) (place : ℕ) (state : List Bool)
        → (is_met (frame_in (sifted clause top levels) place) state && meets (values_of state) clause) ≡ (is_met (frame_in levels place) state && meets (values_of state) clause)
    both_with clause top levels place state =
        elim (cases_Bool (meets (values_of state) clause)) [
          | inl met ↦ ap (λ b. b && meets (values_of state) clause) (met_sifted clause top levels place state met)
          | inr missed ↦ and_right _ _ missed ∙ sym (and_right _ _ missed)
        ]

-- the levels after a clause moved one on
abbrev pub moved : List (List KeptClause) → ℕ → ℕ → KeptClause → List (List KeptClause)
moved levels place index kept = set (set levels place (remove (get_or levels place []) index)) (suc place) (get_or levels (suc place) [] ++ kept ∷ [])

level_split : (level : List KeptClause) (index : ℕ) (kept : KeptClause) → slice_get level index ≡ Some kept → level ≡ take index level ++ kept ∷ drop (suc index) level
level_split level index kept at =
    sym (take-append-drop index level)
    ∙ ap (λ rest. take index level ++ rest)
    (drop_more level index kept (slice_get_within level index kept at)
    ∙ ap (λ k. k ∷ drop (index + 1) level) (get_or_from_slice_get level index kept kept at)
    ∙ ap (λ n. kept ∷ drop n level) (add-one index))

-- a clause taken out of its level
taken_out : (level : List KeptClause) (index : ℕ) (kept : KeptClause) → slice_get level index ≡ Some kept → IsInserted kept.clause (clauses_of (remove level index)) (clauses_of level)
taken_out level index kept at = record {
  front = clauses_of (take index level);
  behind = clauses_of (drop (suc index) level);
  old_is = map-append (λ k. k.clause) (take index level) (drop (suc index) level);
  new_is = ap clauses_of (level_split level index kept at) ∙ map-append (λ k. k.clause) (take index level) (kept ∷ drop (suc index) level);
}

and_again : (a b : Bool) → (a && b) ≡ ((a && b) && b)
and_again true true = refl
and_again true false = refl
and_again false b = refl

each_moved : (system : System) (levels : List (List KeptClause)) (place index : ℕ) (kept : KeptClause) → suc place < length levels → slice_get (get_or levels place []) index ≡ Some kept
    → AreWitnesses system levels → AreWitnesses system (moved levels place index kept)
each_moved system levels place index kept within at witnessed =
    let W : KeptClause → Type 0 = IsWitnessed system in
    let level = get_or levels place [] in
    let next = get_or levels (suc place) [] in
    let here : All W level = All-get_or (All W) levels place [] (omega arith) witnessed in
    let there : All W next = All-get_or (All W) levels (suc place) [] within witnessed in
    let mine : W kept = subst W (get_or_from_slice_get level index kept kept at) (All-get_or W level index kept (slice_get_within level index kept at) here) in
    All-set (All W) (set levels place (remove level index)) (suc place) (next ++ kept ∷ []) (All-push W next kept there mine)
    (All-set (All W) levels place (remove level index) (All-append W (take index level) (drop (suc index) level) (All-take W index level here) (All-drop W (suc index) level here)) witnessed)

pub moved_with : (system : System) (levels : List (List KeptClause)) (place index : ℕ) (kept : KeptClause) → suc place < length levels → slice_get (get_or levels place []) index ≡ Some kept
    → IsFrame system.width (frame_in levels 0) → AreWitnesses system levels → IsWith system levels (moved levels place index kept) kept.clause (suc place)
moved_with system levels place index kept within at frame witnessed =
    let clause = kept.clause in
    let level = get_or levels place [] in
    let rest = remove level index in
    let base = set levels place rest in
    let next = get_or levels (suc place) [] in
    let new = set base (suc place) (next ++ kept ∷ []) in
    let count : length base ≡ length levels = length-set levels place rest in
    let first : place < length levels = omega arith in
    let apart : suc place ≢ place = omega arith in
    let restored : set base place level ≡ levels = set-set levels place rest level ∙ set-get_or levels place [] in
    let taken : (p : ℕ) → p ≤ place → IsInserted clause (frame_in base p) (frame_in levels p) = λ p less.
    subst (λ ls. IsInserted clause (frame_in base p) (frame_in ls p)) restored
    (inserted_in base place level clause (omega (arith, count)) (rw (get_or-set_same levels place rest [] first) (taken_out level index kept at)) p less) in
    let given : (p : ℕ) → p ≤ suc place → IsInserted clause (frame_in base p) (frame_in new p) = λ p less.
    inserted_in base (suc place) (next ++ kept ∷ []) clause (omega (arith, count)) (rw (get_or-set_other levels place (suc place) rest [] apart) (last_inserted next kept)) p less in
    record {
      many = length-set base (suc place) (next ++ kept ∷ []) ∙ count;
      below = λ p state less.
          let met = meets (values_of state) in
          let now = test_inserted met clause (frame_in base p) (frame_in new p) (given p less) in
          elim (cases_lt place p) [
            | inl more ↦ now ∙ ap (λ clauses. is_met clauses state && met clause) (above_set levels place rest p more)
            | inr up ↦
                let was = test_inserted met clause (frame_in base p) (frame_in levels p) (taken p up) in
                now ∙ and_again (is_met (frame_in base p) state) (met clause) ∙ ap (λ b. b && met clause) (sym was)
          ];
      above = λ p state more.
          ap (λ clauses. is_met clauses state)
          (above_set base (suc place) (next ++ kept ∷ []) p more ∙ above_set levels place rest p (omega (arith, more)));
      framed = record {
        each = all_inserted (IsCube system.width) clause (frame_in base 0) (frame_in new 0) (given 0 (omega arith))
            (all_taken (IsCube system.width) clause (frame_in base 0) (frame_in levels 0) (taken 0 (omega arith)) frame.each)
            (All-contains (IsCube system.width) (frame_in levels 0) clause frame.each (member_inserted clause (frame_in base 0) (frame_in levels 0) (taken 0 (omega arith))));
        once = once_inserted clause (frame_in base 0) (frame_in new 0) (given 0 (omega arith))
            (once_taken clause (frame_in base 0) (frame_in levels 0) (taken 0 (omega arith)) frame.once)
            (fresh_taken clause (frame_in base 0) (frame_in levels 0) (taken 0 (omega arith)) frame.once);
      };
      witnessed = each_moved system levels place index kept within at witnessed;
    }
