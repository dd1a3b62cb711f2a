-- Tight satisfaction: which finite lists of letters a sequence describes, without a clock and under
-- one (IEEE 1850, Annex B, tight satisfaction).
use Rattle.std.specs.Prelude.{◌≡◌, ◌⊎◌, List, [], ◌∷◌, ◌++◌, IsTrue, Option, None, Some}
use Rattle.psl_tree.specs.Tick.{IsTickWith}
use Rattle.psl_tree.specs.Holds.{holds}
use Rattle.psl_tree.specs.Trees.{Boolean, Sequence, Empty, One, Concat, Fuse, Either, Both, Star, Clocked}
use Rattle.psl_tree.specs.declared.letter.Letter.{Letter}

-- the list is empty, or a non-empty list with P and then a list that repeats P
pub data Repeats (P : List Letter → Type 0) : List Letter → Type 0 where
  no_part : {all : List Letter} → all ≡ [] → Repeats P all
  one_more : {all : List Letter} (x : Letter) (part rest : List Letter) → all ≡ (x ∷ part) ++ rest → P (x ∷ part) → Repeats P rest → Repeats P all

-- The list satisfies the sequence tightly, under the clock or without one. Each clause is a row:
abbrev pub Tight : Option Boolean → Sequence → List Letter → Type 0
-- b: the list has length 1 and its letter satisfies b
Tight None (One test) all = (x : Letter) × (all ≡ x ∷ []) × IsTrue (holds x test)
-- b under a clock: the list is a tick of the clock and its last letter satisfies b
Tight (Some clock) (One test) all = IsTickWith clock test all
-- [*0]: the list is empty
Tight _ Empty all = all ≡ []
-- r1 ; r2: the list is one of r1 followed by one of r2
Tight clock (Concat left right) all = (u v : List Letter) × (all ≡ u ++ v) × Tight clock left u × Tight clock right v
-- r1 : r2: the list is u l v with one letter l, where u l satisfies r1 and l v satisfies r2
Tight clock (Fuse left right) all =
    (u : List Letter) × (l : Letter) × (v : List Letter) × (all ≡ u ++ l ∷ v) × Tight clock left (u ++ l ∷ []) × Tight clock right (l ∷ v)
-- r1 | r2: the list satisfies one of them
Tight clock (Either left right) all = Tight clock left all ⊎ Tight clock right all
-- r1 && r2: the list satisfies both
Tight clock (Both left right) all = Tight clock left all × Tight clock right all
-- r[*]: the list is empty, or a non-empty list of r followed by a list of r[*]
Tight clock (Star part) all = Repeats (Tight clock part) all
-- r @ d: r under d, whatever the clock is
Tight _ (Clocked part inner) all = Tight (Some inner) part all
