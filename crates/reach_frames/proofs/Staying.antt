-- Clauses that move one frame on, and those that stay, each with a stuck state.
use Rattle.std.proofs.Common.{◌≡◌, ℕ, zero, suc, ◌+◌, ◌<◌, ◌≤◌, ℤ, Bool, true, false, not, ◌&&◌, List, [], ◌∷◌, ◌++◌, length, get_or, set, Option, Some, None, IfNone, is_some, refl, sym, ap, ◌∙◌, subst, inl, inr, arith, add-one, length-set}
use Rattle.std.specs.List.{slice_get, All, Contains}
use Rattle.std.proofs.lemmas.Bool.{cases_lt, false≢true, true≢false, false_from_ne_true, not-true, true_from_ne_false}
use Rattle.std.proofs.lemmas.List.{get_or-map, get_or_append_left, get_or_push, nil_from_length, get_or-set_same, length-map, map-set, set-get_or}
use Rattle.std.proofs.lemmas.List.Elements.{All-contains, All-get_or, All-set, Contains-append_left}
use Rattle.std.proofs.lemmas.List.Sums.{AllPass-from_list_all}
use Rattle.std.proofs.lemmas.Option.{get_or_from_slice_get, slice_get_within}
use Rattle.clauses.specs.Models.{meets}
use Rattle.reach_frames.specs.Bits.{values_of, is_met, is_in_cube}
use Rattle.reach_frames.specs.Cubes.{IsCube, negated}
use Rattle.reach_frames.specs.Entries.{HasNoEntry}
use Rattle.reach_frames.specs.Levels.{clauses_of, frames_of, IsWitnessed, NotedBeside}
use Rattle.reach_frames.specs.Searches.{frame_in, AreReady, AreSettled}
use Rattle.reach_frames.specs.Systems.{System, frame_at, AreSound, IsEntry, IsStuck}
use Rattle.reach_frames.specs.declared.entry.Entry.{Entry}
use Rattle.reach_frames.specs.declared.level.KeptClause.{KeptClause}
use Rattle.reach_frames.proofs.Changes.{moved, moved_with}
use Rattle.reach_frames.proofs.LevelFrames.{frame_tail, met_later}
use Rattle.reach_frames.proofs.Narrowing.{MayBeAdded, add_sound}
use Rattle.reach_frames.proofs.Negations.{in_negated}

-- a clause of a level stands in its frame
pub kept_in : (levels : List (List KeptClause)) (place index : ℕ) (kept : KeptClause) → slice_get (get_or levels place []) index ≡ Some kept → Contains (frame_in levels place) kept.clause
kept_in levels place index kept at =
    let level = get_or levels place [] in
    let within = slice_get_within level index kept at in
    let here : Contains (clauses_of level) kept.clause = (
      index,
      omega (arith, within, length-map level (λ (k : KeptClause). k.clause)),
      get_or-map (λ (k : KeptClause). k.clause) level index kept kept.clause within ∙ ap (λ (k : KeptClause). k.clause) (get_or_from_slice_get level index kept kept at),
    ) in
    rw (frame_tail levels place) (Contains-append_left (clauses_of level) (frame_in levels (suc place)) kept.clause here)

kept_met : (clauses : List (List ℤ)) (clause : List ℤ) (state : List Bool) → Contains clauses clause → is_met clauses state ≡ true → meets (values_of state) clause ≡ true
kept_met clauses clause state member met =
    All-contains (λ c. meets (values_of state) c ≡ true) clauses clause (AllPass-from_list_all (meets (values_of state)) clauses met) member

missed_by : (clauses : List (List ℤ)) (clause : List ℤ) (state : List Bool) → Contains clauses clause → meets (values_of state) clause ≡ false → is_met clauses state ≡ false
missed_by clauses clause state member missed =
    false_from_ne_true (is_met clauses state) (λ met. true≢false (sym (kept_met clauses clause state member met) ∙ missed))

-- a clause that holds one frame on may be added there
may_move : (system : System) (levels : List (List KeptClause)) (frame : List (List ℤ)) (place : ℕ) (clause : List ℤ) → AreReady system levels → Contains (frame_in levels place) clause
    → ((state : List Bool) → is_met frame state ≡ is_met (frame_in levels place) state) → HasNoEntry system frame false (negated clause) → MayBeAdded system levels (suc place) clause
may_move system levels frame place clause ready member same none =
    let is : IsCube system.width clause = All-contains (IsCube system.width) (frame_in levels place) clause (ready.sound.framed place).each member in
    record {
      begun = λ state begins. kept_met (frame_in levels place) clause state member (ready.sound.begun place state begins);
      step = λ state next met here begins follows.
          true_from_ne_false (meets (values_of next) clause) (λ missed.
          none (record { before = state; after = next })
          (record {
            follows = follows;
            meets = same state ∙ met;
            outside = in_negated (values_of state) system.width clause is.within ∙ ap not here;
            inside = in_negated (values_of next) system.width clause is.within ∙ ap not missed;
            begins = λ no. absurd (false≢true no);
          }));
    }

and_absorbs : (a b : Bool) → (a ≡ true → b ≡ true) → (a && b) ≡ a
and_absorbs true b more = more refl
and_absorbs false b more = refl

pub moved_settles : (system : System) (levels : List (List KeptClause)) (frame : List (List ℤ)) (place index : ℕ) (kept : KeptClause) → AreReady system levels → suc place < length levels
    → slice_get (get_or levels place []) index ≡ Some kept → ((state : List Bool) → is_met frame state ≡ is_met (frame_in levels place) state) → HasNoEntry system frame false (negated kept.clause)
    → AreSettled system place levels (moved levels place index kept)
moved_settles system levels frame place index kept ready within at same none =
    let clause = kept.clause in
    let new = moved levels place index kept in
    let member = kept_in levels place index kept at in
    let is = moved_with system levels place index kept within at (ready.sound.framed 0) ready.witnessed in
    record {
      narrowed = add_sound system levels new clause (suc place) ready is (may_move system levels frame place clause ready member same none);
      same = λ other state less.
          is.below other state (omega (arith, less))
          ∙ and_absorbs (is_met (frame_in levels other) state) (meets (values_of state) clause)
          (λ met. kept_met (frame_in levels place) clause state member (met_later levels other place state less met));
    }

-- a clause whose witness is noted
abbrev pub noted : List (List KeptClause) → ℕ → ℕ → KeptClause → Entry → List (List KeptClause)
noted levels place index kept witness = set levels place (set (get_or levels place []) index (record kept { witness = Some witness }))

frames_same : (levels : List (List KeptClause)) (top : ℕ) (level : List KeptClause) → top < length levels → clauses_of level ≡ clauses_of (get_or levels top []) → frames_of (set levels top level) ≡ frames_of levels
frames_same [] top level within same = absurd (omega (arith, within))
frames_same (first ∷ levels) zero level within same = ap (λ clauses. (clauses ++ frame_at (frames_of levels) 0) ∷ frames_of levels) same
frames_same (first ∷ levels) (suc top) level within same =
    ap (λ frames. (clauses_of first ++ frame_at frames 0) ∷ frames) (frames_same levels top level (omega (arith, within)) same)

same_clauses : (level : List KeptClause) (index : ℕ) (kept : KeptClause) (witness : Entry) → slice_get level index ≡ Some kept → clauses_of (set level index (record kept { witness = Some witness })) ≡ clauses_of level
same_clauses level index kept witness at =
    let clause : KeptClause → List ℤ = λ k. k.clause in
    let within = slice_get_within level index kept at in
    map-set clause level index (record kept { witness = Some witness })
    ∙ ap (set (clauses_of level) index) (sym (get_or-map clause level index kept kept.clause within ∙ ap clause (get_or_from_slice_get level index kept kept at)))
    ∙ set-get_or (clauses_of level) index kept.clause

pub noted_settles : (system : System) (levels : List (List KeptClause)) (place index : ℕ) (kept : KeptClause) (witness : Entry) → AreReady system levels → place < length levels
    → slice_get (get_or levels place []) index ≡ Some kept → system.follows witness.before witness.after → meets (values_of witness.after) kept.clause ≡ false
    → AreSettled system place levels (noted levels place index kept witness)
noted_settles system levels place index kept witness ready within at follows missed =
    let W : KeptClause → Type 0 = IsWitnessed system in
    let level = get_or levels place [] in
    let new = set level index (record kept { witness = Some witness }) in
    let same : frames_of (set levels place new) ≡ frames_of levels = frames_same levels place new within (same_clauses level index kept witness at) in
    record {
      narrowed = record {
        ready = record {
          few = ready.few;
          sound = subst (AreSound system) (sym same) ready.sound;
          witnessed = All-set (All W) levels place new (All-set W level index (record kept { witness = Some witness }) (follows, missed) (All-get_or (All W) levels place [] within ready.witnessed)) ready.witnessed;
        };
        many = length-set levels place new;
        less = λ other state met. ap (λ frames. is_met (frame_at frames other) state) (sym same) ∙ met;
      };
      same = λ other state less. ap (λ frames. is_met (frame_at frames other) state) same;
    }

pub noted_count : (levels : List (List KeptClause)) (place index : ℕ) (kept : KeptClause) (witness : Entry) → place < length levels → length (get_or (noted levels place index kept witness) place []) ≡ length (get_or levels place [])
noted_count levels place index kept witness within =
    let level = get_or levels place [] in
    let new = set level index (record kept { witness = Some witness }) in
    ap length (get_or-set_same levels place new [] within) ∙ length-set level index (record kept { witness = Some witness })

-- the second state of a witness whose first still meets the frame is stuck
pub stuck_by : (system : System) (levels : List (List KeptClause)) (frame : List (List ℤ)) (place index : ℕ) (kept : KeptClause) (entry : Entry) → AreReady system levels → place < length levels
    → slice_get (get_or levels place []) index ≡ Some kept → kept.witness ≡ Some entry → ((state : List Bool) → is_met frame state ≡ is_met (frame_in levels place) state) → is_met frame entry.before ≡ true
    → IsStuck system frame entry.after
stuck_by system levels frame place index kept entry ready within at noted same met =
    let W : KeptClause → Type 0 = IsWitnessed system in
    let level = get_or levels place [] in
    let mine : W kept = subst W (get_or_from_slice_get level index kept kept at)
    (All-get_or W level index kept (slice_get_within level index kept at) (All-get_or (All W) levels place [] within ready.witnessed)) in
    let beside : NotedBeside system kept.clause (Some entry) = subst (NotedBeside system kept.clause) noted mine in
    record {
      before = entry.before;
      meets = met;
      follows = beside.0;
      misses = same entry.after ∙ missed_by (frame_in levels place) kept.clause entry.after (kept_in levels place index kept at) beside.1;
    }

-- a state that misses the clause, as the second of an entry into its cube does
pub missed_in : (system : System) (levels : List (List KeptClause)) (place : ℕ) (clause : List ℤ) (state : List Bool) → AreReady system levels → Contains (frame_in levels place) clause → is_in_cube (negated clause) state ≡ true
    → meets (values_of state) clause ≡ false
missed_in system levels place clause state ready member inside =
    let is : IsCube system.width clause = All-contains (IsCube system.width) (frame_in levels place) clause (ready.sound.framed place).each member in
    not-true (meets (values_of state) clause) (sym (in_negated (values_of state) system.width clause is.within) ∙ inside)

pub stuck_found : (system : System) (levels : List (List KeptClause)) (frame : List (List ℤ)) (place : ℕ) (clause : List ℤ) (entry : Entry) → AreReady system levels → Contains (frame_in levels place) clause
    → ((state : List Bool) → is_met frame state ≡ is_met (frame_in levels place) state) → IsEntry system frame false (negated clause) entry → IsStuck system frame entry.after
stuck_found system levels frame place clause entry ready member same is = record {
  before = entry.before;
  meets = is.meets;
  follows = is.follows;
  misses = same entry.after ∙ missed_by (frame_in levels place) clause entry.after member (missed_in system levels place clause entry.after ready member is.inside);
}

-- what a frame says is all that being stuck hangs on
pub stuck_same : (system : System) (old new : List (List ℤ)) (state : List Bool) → ((other : List Bool) → is_met new other ≡ is_met old other) → IsStuck system old state → IsStuck system new state
stuck_same system old new state same stuck = record {
  before = stuck.before;
  meets = same stuck.before ∙ stuck.meets;
  follows = stuck.follows;
  misses = same state ∙ stuck.misses;
}

-- a level that has no clause left, since none stayed
pub none_left : (levels : List (List KeptClause)) (place index : ℕ) (found : Option (List Bool)) → (0 < index → is_some found ≡ true) → length (get_or levels place []) ≤ index
    → IfNone found (frame_in levels place ≡ frame_in levels (place + 1))
none_left levels place index (Some state) some end = tt
none_left levels place index None some end =
    let none : length (get_or levels place []) ≡ 0 =
    elim (cases_lt 0 index) [
      | inl more ↦ absurd (false≢true (some more))
      | inr first ↦ omega (arith, end, first)
    ] in
    frame_tail levels place
    ∙ ap (λ level. clauses_of level ++ frame_in levels (suc place)) (nil_from_length (get_or levels place []) none)
    ∙ ap (frame_in levels) (sym (add-one place))

-- one stuck state more
pub stuck_more : (system : System) (mid new : List (List KeptClause)) (place : ℕ) (stuck : List (List Bool)) (state : List Bool) → AreSettled system place mid new → length stuck ≡ place
    → ((other : ℕ) → other < place → IsStuck system (frame_in mid other) (get_or stuck other [])) → IsStuck system (frame_in new place) state
    → (other : ℕ) → other < place + 1 → IsStuck system (frame_in new other) (get_or (stuck ++ state ∷ []) other [])
stuck_more system mid new place stuck state settled count each here other below =
    elim (cases_lt other place) [
      | inl less ↦
          let old = stuck_same system (frame_in mid other) (frame_in new other) (get_or stuck other []) (λ s. settled.same other s (omega (arith, less))) (each other less) in
          subst (IsStuck system (frame_in new other)) (sym (get_or_append_left stuck (state ∷ []) [] other (omega (arith, less, count)))) old
      | inr last ↦
          let at : other ≡ place = omega (arith, below, last) in
          let P : ℕ → Type 0 = λ k. IsStuck system (frame_in new k) (get_or (stuck ++ state ∷ []) k []) in
          subst P (sym at) (subst (IsStuck system (frame_in new place)) (sym (get_or_push stuck state [] place count)) here)
    ]
