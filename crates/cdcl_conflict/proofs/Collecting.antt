-- The places that were reached, in order.
use Rattle.std.proofs.Common.{◌≡◌, ◌≢◌, ℕ, ◌+◌, ◌<◌, ◌≤◌, true, false, cond, List, [], ◌∷◌, ◌++◌, length, map, take, get_or, refl, sym, ap, ◌∙◌, arith}
use Rattle.std.specs.List.{All, filter}
use Rattle.std.specs.List.Sorted.{IsPermutation}
use Rattle.std.proofs.lemmas.List.{map-append, append-nil}
use Rattle.std.proofs.lemmas.List.Elements.{filter_more}
use Rattle.std.proofs.lemmas.List.Sorted.{All-permutation}
use Rattle.cdcl_conflict.specs.declared.standing.Standing.{Standing}
use Rattle.cdcl_conflict.specs.declared.standing.Standing.TheVariants.{Untouched, Waiting, Explained, Kept}
use Rattle.cdcl_trail.specs.Literals.{opposite}
use Rattle.cdcl_conflict.specs.Standings.{standing_at, is_kept, literals_at, IsListed}

-- one place more
literals_more : (standings : List Standing) (literals places : List ℕ) (count place : ℕ) → count < length places → place ≡ get_or places count place →
    literals_at standings literals (take (count + 1) places)
    ≡ literals_at standings literals (take count places) ++ map (λ p. opposite (get_or literals p 0)) (cond (is_kept (standing_at standings place)) (place ∷ []) [])
literals_more standings literals places count place within is =
    ap (map (λ p. opposite (get_or literals p 0)))
    (filter_more (λ p. is_kept (standing_at standings p)) places count place within
    ∙ ap (λ p. filter (λ p. is_kept (standing_at standings p)) (take count places) ++ cond (is_kept (standing_at standings p)) (p ∷ []) []) (sym is))
    ∙ map-append (λ p. opposite (get_or literals p 0)) (filter (λ p. is_kept (standing_at standings p)) (take count places)) (cond (is_kept (standing_at standings place)) (place ∷ []) [])

kept_one : (standing : Standing) → standing ≡ Kept → is_kept standing ≡ true
kept_one standing kept = rw kept

kept_none : (standing : Standing) → standing ≢ Kept → is_kept standing ≡ false
kept_none Untouched differs = refl
kept_none Waiting differs = refl
kept_none Explained differs = refl
kept_none Kept differs = absurd (differs refl)

pub literals_more_kept : (standings : List Standing) (literals places : List ℕ) (count place : ℕ) → count < length places → place ≡ get_or places count place → standing_at standings place ≡ Kept →
    literals_at standings literals (take (count + 1) places) ≡ literals_at standings literals (take count places) ++ opposite (get_or literals place 0) ∷ []
literals_more_kept standings literals places count place within is kept =
    literals_more standings literals places count place within is
    ∙ ap (λ b. literals_at standings literals (take count places) ++ map (λ p. opposite (get_or literals p 0)) (cond b (place ∷ []) [])) (kept_one (standing_at standings place) kept)

pub literals_more_other : (standings : List Standing) (literals places : List ℕ) (count place : ℕ) → count < length places → place ≡ get_or places count place → standing_at standings place ≢ Kept →
    literals_at standings literals (take (count + 1) places) ≡ literals_at standings literals (take count places)
literals_more_other standings literals places count place within is other =
    literals_more standings literals places count place within is
    ∙ ap (λ b. literals_at standings literals (take count places) ++ map (λ p. opposite (get_or literals p 0)) (cond b (place ∷ []) [])) (kept_none (standing_at standings place) other)
    ∙ append-nil (literals_at standings literals (take count places))

-- the places are within, in any order
pub permuted_within : (size room : ℕ) (standings : List Standing) (reached places : List ℕ) → size ≤ room → IsListed size standings reached → IsPermutation reached places → All (λ place. place < room) places
permuted_within size room standings reached places few listed permutation =
    All-permutation (λ place. place < room) reached places permutation (λ k d within. let below = listed.within k d within in omega arith)
