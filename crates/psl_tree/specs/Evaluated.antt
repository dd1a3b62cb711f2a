-- A test that computes whether a finite word, with what follows it for ever, satisfies a formula that
-- has no sequence. Past the word all suffixes are alike, so each "some place" is looked for up to there.
use Rattle.std.specs.Prelude.{Bool as Truth, false, not, ◌&&◌, ◌||◌, List, [], ◌∷◌, map, is_some, Option, None, Some}
use Rattle.psl_tree.specs.Followed.{Past, Tops, past_at, dual_past}
use Rattle.psl_tree.specs.Trace.{dual_letter, dual_at, holds_where}
use Rattle.psl_tree.specs.Holds.{holds}
use Rattle.psl_tree.specs.Trees.{Boolean, Formula, Now, NowStrong, Weak, Strong, Not, And, Next, Until, Suffix, Abort, SyncAbort, Clocked}
use Rattle.psl_tree.specs.declared.letter.Letter.{Letter}

-- the formula has no sequence
abbrev pub HasNoSequence : Formula → Type 0
HasNoSequence (Now _) = Unit {0}
HasNoSequence (NowStrong _) = Unit {0}
HasNoSequence (Weak _) = ⊥
HasNoSequence (Strong _) = ⊥
HasNoSequence (Not part) = HasNoSequence part
HasNoSequence (And left right) = HasNoSequence left × HasNoSequence right
HasNoSequence (Next part) = HasNoSequence part
HasNoSequence (Until left right) = HasNoSequence left × HasNoSequence right
HasNoSequence (Suffix _ _) = ⊥
HasNoSequence (Abort part _) = HasNoSequence part
HasNoSequence (SyncAbort part _) = HasNoSequence part
HasNoSequence (Clocked part _) = HasNoSequence part

-- what stands first
abbrev pub front : List Letter → Past → Option Letter
front [] past = past_at past
front (letter ∷ _) _ = Some letter

-- the letters behind the first
abbrev pub rest : List Letter → List Letter
rest [] = []
rest (_ ∷ letters) = letters

-- some suffix passes `right`, and each one before it passes `left`
abbrev pub reaches : (List Letter → Truth) → (List Letter → Truth) → Past → List Letter → Truth
reaches left right past [] = is_some (past_at past) && right []
reaches left right past (letter ∷ letters) =
    right (letter ∷ letters) || (left (letter ∷ letters) && reaches left right past letters)

-- the letters up to some place are a tick of the clock, and the suffix from that place passes the test
abbrev pub ticks_at : Boolean → (List Letter → Truth) → Past → List Letter → Truth
ticks_at clock test past [] = holds_where (past_at past) clock && test []
ticks_at clock test past (letter ∷ letters) =
    (holds letter clock && test (letter ∷ letters)) || (holds letter (Not clock) && ticks_at clock test past letters)

-- some suffix whose first letter holds the clock passes `right`, and each one before it passes `left`
-- where the dual of its first letter holds the clock
abbrev pub reaches_ticking : Boolean → (List Letter → Truth) → (List Letter → Truth) → Past → List Letter → Truth
reaches_ticking clock left right past [] = holds_where (past_at past) clock && right []
reaches_ticking clock left right past (letter ∷ letters) =
    (holds letter clock && right (letter ∷ letters))
    || ((not (holds (dual_letter letter) clock) || left (letter ∷ letters)) && reaches_ticking clock left right past letters)

-- some letter passes, and the letters before it pass the test
abbrev pub cuts : (Option Letter → Truth) → (List Letter → Truth) → Past → List Letter → Truth
cuts stops test past [] = stops (past_at past) && test []
cuts stops test past (letter ∷ letters) =
    (stops (Some letter) && test []) || cuts stops (λ before. test (letter ∷ before)) past letters

-- the word and what follows it satisfy the formula, under the clock or without one
abbrev pub value : Formula → Option Boolean → List Letter → Past → Truth
value (NowStrong test) None letters past = holds_where (front letters past) test
value (NowStrong test) (Some clock) letters past = ticks_at clock (λ from. holds_where (front from past) test) past letters
value (Now test) None letters past = not (is_some (front letters past)) || holds_where (front letters past) test
value (Now test) (Some clock) letters past =
    not (ticks_at clock (λ from. not (holds_where (dual_at (front from (dual_past past))) test)) (dual_past past) (map dual_letter letters))
value (Not part) clock letters past = not (value part clock (map dual_letter letters) (dual_past past))
value (And left right) clock letters past = value left clock letters past && value right clock letters past
value (Next part) None letters past = is_some (front (rest letters) past) && value part None (rest letters) past
value (Next part) (Some clock) letters past =
    ticks_at clock (λ from. ticks_at clock (λ then. value part (Some clock) then past) past (rest from)) past letters
value (Until left right) None letters past =
    reaches (λ from. value left None from past) (λ from. value right None from past) past letters
value (Until left right) (Some clock) letters past =
    reaches_ticking clock (λ from. value left (Some clock) from past) (λ from. value right (Some clock) from past) past letters
value (Abort part test) clock letters past =
    value part clock letters past || cuts (λ at. holds_where at test) (λ before. value part clock before Tops) past letters
value (SyncAbort part test) None letters past =
    value part None letters past || cuts (λ at. holds_where at test) (λ before. value part None before Tops) past letters
value (SyncAbort part test) (Some clock) letters past =
    value part (Some clock) letters past
    || cuts (λ at. holds_where at clock && holds_where at test) (λ before. value part (Some clock) before Tops) past letters
value (Clocked part inner) _ letters past = value part (Some inner) letters past
value (Weak _) _ _ _ = false
value (Strong _) _ _ _ = false
value (Suffix _ _) _ _ _ = false
