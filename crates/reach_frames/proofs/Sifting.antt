-- Dropping the clauses of which one is a part, from the levels up to one.
use Rattle.std.proofs.Common.{◌≡◌, ◌≢◌, ℕ, zero, suc, ◌+◌, ◌<◌, ℤ, Bool, true, not, ◌&&◌, List, [], ◌∷◌, ◌++◌, length, get_or, set, map, take, drop, refl, sym, ap, ◌∙◌, inl, inr, arith, append_assoc}
use Rattle.std.specs.List.{filter, All, AllPairs, Contains}
use Rattle.std.proofs.lemmas.Bool.{cases_Bool, false≢true}
use Rattle.std.proofs.lemmas.List.{length-map, length-take, drop_more, get_or_at, map_more, set_at}
use Rattle.std.proofs.lemmas.List.Elements.{All-append, All-contains, All-contains_itself, All-filter, Contains-append_right, Contains-append_cases, filter_passes}
use Rattle.std.proofs.lemmas.List.Folds.{list_all-append}
use Rattle.std.proofs.lemmas.List.Kept.{AllPairs-filter}
use Rattle.clauses.specs.Models.{meets}
use Rattle.reach_frames.specs.Bits.{values_of, is_met}
use Rattle.reach_frames.specs.Levels.{clauses_of}
use Rattle.reach_frames.specs.Marks.{is_part, without_weaker}
use Rattle.reach_frames.specs.Searches.{frame_in}
use Rattle.reach_frames.specs.declared.level.KeptClause.{KeptClause}
use Rattle.reach_frames.proofs.Insertions.{all_left, all_right, pairs_append, pairs_left, pairs_right, pairs_cross}
use Rattle.reach_frames.proofs.Parts.{part_itself, part_meets}

abbrev pub sifted : List ℤ → ℕ → List (List KeptClause) → List (List KeptClause)
sifted clause top levels = map (without_weaker clause) (take (suc top) levels) ++ drop (suc top) levels

-- a state that meets the clause meets what was dropped
level_sifted : (clause : List ℤ) (level : List KeptClause) (state : List Bool) → meets (values_of state) clause ≡ true → is_met (clauses_of (without_weaker clause level)) state ≡ is_met (clauses_of level) state
level_sifted clause [] state met = refl
level_sifted clause (kept ∷ level) state met =
    elim (cases_Bool (is_part clause kept.clause)) [
      | inl weaker ↦
          let here = part_meets (values_of state) clause kept.clause weaker met in
          rw (weaker, here) (level_sifted clause level state met)
      | inr other ↦ rw other (ap (λ b. meets (values_of state) kept.clause && b) (level_sifted clause level state met))
    ]

pub met_sifted : (clause : List ℤ) (top : ℕ) (levels : List (List KeptClause)) (place : ℕ) (state : List Bool) → meets (values_of state) clause ≡ true
    → is_met (frame_in (sifted clause top levels) place) state ≡ is_met (frame_in levels place) state
met_sifted clause top [] place state met = refl
met_sifted clause zero (level ∷ levels) zero state met =
    list_all-append (meets (values_of state)) (clauses_of (without_weaker clause level)) (frame_in levels 0)
    ∙ ap (λ b. b && is_met (frame_in levels 0) state) (level_sifted clause level state met)
    ∙ sym (list_all-append (meets (values_of state)) (clauses_of level) (frame_in levels 0))
met_sifted clause zero (level ∷ levels) (suc place) state met = refl
met_sifted clause (suc top) (level ∷ levels) zero state met =
    list_all-append (meets (values_of state)) (clauses_of (without_weaker clause level)) (frame_in (sifted clause top levels) 0)
    ∙ ap (λ b. b && is_met (frame_in (sifted clause top levels) 0) state) (level_sifted clause level state met)
    ∙ ap (λ b. is_met (clauses_of level) state && b) (met_sifted clause top levels 0 state met)
    ∙ sym (list_all-append (meets (values_of state)) (clauses_of level) (frame_in levels 0))
met_sifted clause (suc top) (level ∷ levels) (suc place) state met = met_sifted clause top levels place state met

pub above_sifted : (clause : List ℤ) (top : ℕ) (levels : List (List KeptClause)) (place : ℕ) → top < place → frame_in (sifted clause top levels) place ≡ frame_in levels place
above_sifted clause top [] place above = refl
above_sifted clause top (level ∷ levels) zero above = absurd (omega arith)
above_sifted clause zero (level ∷ levels) (suc place) above = refl
above_sifted clause (suc top) (level ∷ levels) (suc place) above = above_sifted clause top levels place (omega (arith, above))

pub count_sifted : (clause : List ℤ) (top : ℕ) (levels : List (List KeptClause)) → length (sifted clause top levels) ≡ length levels
count_sifted clause top [] = refl
count_sifted clause zero (level ∷ levels) = refl
count_sifted clause (suc top) (level ∷ levels) = ap suc (count_sifted clause top levels)

pub level_at_sifted : (clause : List ℤ) (top : ℕ) (levels : List (List KeptClause)) → get_or (sifted clause top levels) top [] ≡ without_weaker clause (get_or levels top [])
level_at_sifted clause top [] = refl
level_at_sifted clause zero (level ∷ levels) = refl
level_at_sifted clause (suc top) (level ∷ levels) = level_at_sifted clause top levels

-- the clauses that stay
clauses_without : (clause : List ℤ) (level : List KeptClause) → clauses_of (without_weaker clause level) ≡ filter (λ other. not (is_part clause other)) (clauses_of level)
clauses_without clause [] = refl
clauses_without clause (kept ∷ level) =
    elim (cases_Bool (is_part clause kept.clause)) [
      | inl weaker ↦ rw weaker (clauses_without clause level)
      | inr other ↦ rw other (ap (λ clauses. kept.clause ∷ clauses) (clauses_without clause level))
    ]

-- what holds of each clause
level_all : (P : List ℤ → Type 0) (clause : List ℤ) (level : List KeptClause) → All P (clauses_of level) → All P (clauses_of (without_weaker clause level))
level_all P clause level all = rw (clauses_without clause level) (All-filter (λ other. not (is_part clause other)) P (clauses_of level) all)

pub all_sifted : (P : List ℤ → Type 0) (clause : List ℤ) (top : ℕ) (levels : List (List KeptClause)) → All P (frame_in levels 0) → All P (frame_in (sifted clause top levels) 0)
all_sifted P clause top [] all = all
all_sifted P clause zero (level ∷ levels) all =
    let next = frame_in levels 0 in
    All-append P (clauses_of (without_weaker clause level)) next (level_all P clause level (all_left P (clauses_of level) next all)) (all_right P (clauses_of level) next all)
all_sifted P clause (suc top) (level ∷ levels) all =
    let next = frame_in levels 0 in
    All-append P (clauses_of (without_weaker clause level)) (frame_in (sifted clause top levels) 0)
    (level_all P clause level (all_left P (clauses_of level) next all))
    (all_sifted P clause top levels (all_right P (clauses_of level) next all))

abbrev Once : List (List ℤ) → Type 0
Once clauses = AllPairs (λ clause other. clause ≢ other) clauses

member_sifted : (clause : List ℤ) (top : ℕ) (levels : List (List KeptClause)) (other : List ℤ) → Contains (frame_in (sifted clause top levels) 0) other → Contains (frame_in levels 0) other
member_sifted clause top levels other member =
    All-contains (Contains (frame_in levels 0)) (frame_in (sifted clause top levels) 0) other (all_sifted (Contains (frame_in levels 0)) clause top levels (All-contains_itself (frame_in levels 0))) member

member_level : (clause : List ℤ) (level : List KeptClause) (other : List ℤ) → Contains (clauses_of (without_weaker clause level)) other → Contains (clauses_of level) other
member_level clause level other member =
    All-contains (Contains (clauses_of level)) (clauses_of (without_weaker clause level)) other (level_all (Contains (clauses_of level)) clause level (All-contains_itself (clauses_of level))) member

level_once : (clause : List ℤ) (level : List KeptClause) → Once (clauses_of level) → Once (clauses_of (without_weaker clause level))
level_once clause level once = rw (clauses_without clause level) (AllPairs-filter (λ a b. a ≢ b) (λ other. not (is_part clause other)) (clauses_of level) once)

pub once_sifted : (clause : List ℤ) (top : ℕ) (levels : List (List KeptClause)) → Once (frame_in levels 0) → Once (frame_in (sifted clause top levels) 0)
once_sifted clause top [] once = once
once_sifted clause zero (level ∷ levels) once =
    let R : List ℤ → List ℤ → Type 0 = λ a b. a ≢ b in
    let next = frame_in levels 0 in
    pairs_append R (clauses_of (without_weaker clause level)) next
    (level_once clause level (pairs_left R (clauses_of level) next once)) (pairs_right R (clauses_of level) next once)
    (λ a b here there. pairs_cross R (clauses_of level) next once a b (member_level clause level a here) there)
once_sifted clause (suc top) (level ∷ levels) once =
    let R : List ℤ → List ℤ → Type 0 = λ a b. a ≢ b in
    let next = frame_in levels 0 in
    pairs_append R (clauses_of (without_weaker clause level)) (frame_in (sifted clause top levels) 0)
    (level_once clause level (pairs_left R (clauses_of level) next once)) (once_sifted clause top levels (pairs_right R (clauses_of level) next once))
    (λ a b here there. pairs_cross R (clauses_of level) next once a b (member_level clause level a here) (member_sifted clause top levels b there))

-- the clause itself is dropped, if it stands in none of the levels above
level_fresh : (clause : List ℤ) (level : List KeptClause) → Contains (clauses_of (without_weaker clause level)) clause → ⊥
level_fresh clause level member =
    let test : List ℤ → Bool = λ other. not (is_part clause other) in
    let member : Contains (filter test (clauses_of level)) clause = rw (clauses_without clause level) at member in
    let passes : test clause ≡ true = All-contains (λ other. test other ≡ true) (filter test (clauses_of level)) clause (filter_passes test (clauses_of level)) member in
    false≢true (ap not (sym (part_itself clause)) ∙ passes)

pub fresh_sifted : (clause : List ℤ) (top : ℕ) (levels : List (List KeptClause)) → (Contains (frame_in levels top) clause → ⊥) → Contains (frame_in (sifted clause top levels) 0) clause → ⊥
fresh_sifted clause top [] absent (place, within, at) = omega (arith, within)
fresh_sifted clause zero (level ∷ levels) absent member =
    elim (Contains-append_cases (clauses_of (without_weaker clause level)) (frame_in levels 0) clause member) [
      | inl here ↦ level_fresh clause level here
      | inr there ↦ absent (Contains-append_right (clauses_of level) (frame_in levels 0) clause there)
    ]
fresh_sifted clause (suc top) (level ∷ levels) absent member =
    elim (Contains-append_cases (clauses_of (without_weaker clause level)) (frame_in (sifted clause top levels) 0) clause member) [
      | inl here ↦ level_fresh clause level here
      | inr there ↦ fresh_sifted clause top levels absent there
    ]

-- one level more
pub sifted_more : (clause : List ℤ) (old levels : List (List KeptClause)) (at : ℕ) → at < length old → levels ≡ map (without_weaker clause) (take at old) ++ drop at old
    → set levels at (without_weaker clause (get_or levels at [])) ≡ map (without_weaker clause) (take (at + 1) old) ++ drop (at + 1) old
sifted_more clause old levels at within is =
    let front = map (without_weaker clause) (take at old) in
    let level = get_or old at [] in
    let size : length front ≡ at = omega (arith, within, length-map (take at old) (without_weaker clause), length-take at old) in
    let split : levels ≡ front ++ level ∷ drop (at + 1) old = is ∙ ap (λ rest. front ++ rest) (drop_more old at [] within) in
    let here : get_or levels at [] ≡ level = ap (λ ls. get_or ls at []) split ∙ get_or_at front level (drop (at + 1) old) [] at size in
    ap (λ l. set levels at (without_weaker clause l)) here
    ∙ ap (λ ls. set ls at (without_weaker clause level)) split
    ∙ set_at front level (drop (at + 1) old) (without_weaker clause level) at size
    ∙ sym (append_assoc front (without_weaker clause level ∷ []) (drop (at + 1) old))
    ∙ ap (λ ls. ls ++ drop (at + 1) old) (sym (map_more (without_weaker clause) old at [] within))
