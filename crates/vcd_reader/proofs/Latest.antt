-- The latest change of a list, by the place where the later ones begin.
use Rattle.std.proofs.Common.{◌≡◌, ◌∙◌, sym, ℕ, suc, zero, ◌-◌, ◌<◌, ◌≤◌, true, false, leb, List, [], ◌∷◌, length, get_or, Option, None, Some, refl, arith}
use Rattle.std.proofs.lemmas.Bool.{le-leb, lt-leb}
use Rattle.std.specs.Prelude.{slice_get}
use Rattle.std.specs.List.{AllWithin}
use Rattle.std.specs.List.Sorted.{IsNonDecreasingBy, IsPartitionPoint}
use Rattle.vcd_reader.specs.declared.changes.Change.{Change}
use Rattle.vcd_reader.specs.Changes.{IsCount, last_of, latest_change}

-- the change before a place, or an older one
abbrev pub before : Option Change → ℕ → List Change → Option Change
before old zero changes = old
before old (suc n) [] = old
before old (suc n) (change ∷ changes) = before (Some change) n changes

-- the test fails at each change: the older one is the latest
none_later : (old : Option Change) (m : ℕ) (changes : List Change) → AllWithin (λ change. leb change.sample m ≡ false) changes 0 (length changes) → latest_change old m changes ≡ old
none_later old m [] late = refl
none_later old m (change ∷ changes) late =
    let first : leb change.sample m ≡ false = late 0 change (omega arith) (omega arith) in
    rw first (none_later old m changes (λ k d low high. late (suc k) d (omega arith) (omega arith)))

-- the changes below the place pass the test and the others fail it
pub latest_change-before : (old : Option Change) (m i : ℕ) (changes : List Change) → i ≤ length changes → IsPartitionPoint (λ change. leb change.sample m ≡ true) (λ change. leb change.sample m ≡ false) changes i → latest_change old m changes ≡ before old i changes
latest_change-before old m zero changes within parted = none_later old m changes parted.1
latest_change-before old m (suc i) [] within parted = absurd (omega arith)
latest_change-before old m (suc i) (change ∷ changes) within parted =
    let first : leb change.sample m ≡ true = parted.0 0 change (omega arith) (omega arith) in
    rw first (latest_change-before (Some change) m i changes (omega arith)
    ((λ k d low high. parted.0 (suc k) d (omega arith) (omega arith)), (λ k d low high. parted.1 (suc k) d (omega arith) (omega arith))))

-- the change before a place is the last of so many
before-last_of : (old : Option Change) (count : ℕ) (changes : List Change) → count < length changes → before old (suc count) changes ≡ slice_get changes count
before-last_of old count [] within = absurd (omega arith)
before-last_of old zero (change ∷ changes) within = refl
before-last_of old (suc count) (change ∷ changes) within = before-last_of (Some change) count changes (omega arith)

before-none : (count : ℕ) (changes : List Change) → count ≤ length changes → before None count changes ≡ last_of count changes
before-none zero changes within = refl
before-none (suc count) changes within = before-last_of None count changes (omega arith)

-- where the changes below a place pass the test and the others fail it, the place is their count
pub counted : (sample count : ℕ) (changes : List Change) → count ≤ length changes → IsPartitionPoint (λ change. leb change.sample sample ≡ true) (λ change. leb change.sample sample ≡ false) changes count → IsCount sample count changes
counted sample count changes within parted = record {
  within = within;
  last = sym (before-none count changes within) ∙ sym (latest_change-before None sample count changes within parted);
}

-- of changes in order it is enough to look at those on both sides of the place
pub counted_there : (sample count : ℕ) (changes : List Change) → IsNonDecreasingBy (λ (change : Change). change.sample) changes → count ≤ length changes
    → ((other : Change) → 0 < count → (get_or changes (count - 1) other).sample ≤ sample)
    → ((other : Change) → count < length changes → sample < (get_or changes count other).sample) → IsCount sample count changes
counted_there sample count changes ordered within early late = counted sample count changes within (
  (λ k other low high. le-leb _ _ (let last = early other (omega arith) in let rises = ordered k (count - 1) other (omega arith) (omega arith) in omega arith)),
  (λ k other low high. lt-leb _ _ (let first = late other (omega arith) in let rises = ordered count k other low high in omega arith)),
)
