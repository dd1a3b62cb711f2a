-- The pieces that are left of a text, as it is gone over.
use Rattle.std.specs.Prelude.{◌≡◌, ℕ, ◌+◌, ◌≤◌, false, List, [], ◌∷◌, drop, length, map, slice_range, None, Some}
use Rattle.psl_base.specs.Places.{place_at}
use Rattle.psl_base.specs.Tokens.{PlacedToken, token_at}
use Rattle.blif_model.specs.declared.class.Class.{Class}
use Rattle.blif_model.specs.declared.class.Class.TheVariants as classes
use Rattle.blif_model.specs.declared.pieces.Found.{Found}
use Rattle.blif_model.specs.declared.pieces.Found.TheVariants as founds
use Rattle.blif_model.specs.declared.pieces.Span.{Span}
use Rattle.blif_model.specs.declared.pieces.Taken.{Taken}
use Rattle.blif_model.specs.declared.pieces.Taken.TheVariants as takens
use Rattle.blif_model.specs.Lines.{lines_from}
use Rattle.blif_model.specs.Pieces.{Piece, Word, LineEnd, Backslash, pieces_from}

-- what is left of a text: its pieces, beside the text
pub record PiecesLeft : Type 0 where
  pub whole : List ℕ
  pub pieces : List Piece

abbrev pub left_at : List ℕ → ℕ → PiecesLeft
left_at whole at = record { whole = whole; pieces = pieces_from whole at false (drop at whole) }

-- the word that a span is
abbrev pub word_of : List ℕ → Span → PlacedToken
word_of whole span = token_at whole span.at (slice_range whole span.at (span.at + span.len))

-- a span of the text
abbrev pub IsWithin : List ℕ → Span → Type 0
IsWithin whole span = span.at + span.len ≤ length whole

abbrev pub IsFoundWithin : List ℕ → Found → Type 0
IsFoundWithin whole (founds.Word span) = IsWithin whole span
IsFoundWithin whole founds.LineEnd = Unit {0}
IsFoundWithin whole (founds.Backslash at) = at ≤ length whole
IsFoundWithin whole founds.Nothing = Unit {0}

-- the first piece was taken, or there is none
abbrev pub IsNext : Found → List ℕ → List Piece → List Piece → Type 0
IsNext (founds.Word span) whole old new = old ≡ Word (word_of whole span) ∷ new
IsNext founds.LineEnd whole old new = old ≡ LineEnd ∷ new
IsNext (founds.Backslash at) whole old new = (old ≡ Backslash (place_at whole at) ∷ []) × (new ≡ [])
IsNext founds.Nothing whole old new = (old ≡ []) × (new ≡ [])

-- a byte with which a piece begins
abbrev pub IsPieceStart : Class → Type 0
IsPieceStart classes.LineFeed = Unit {0}
IsPieceStart classes.Stray = Unit {0}
IsPieceStart classes.Part = Unit {0}
IsPieceStart class = ⊥

-- a line was taken with these words, or there is none
abbrev pub IsTaken : Taken → List ℕ → List Span → List Piece → List Piece → Type 0
IsTaken takens.Line whole words old new = lines_from [] old ≡ record { words = map (word_of whole) words; stray = None } ∷ lines_from [] new
IsTaken (takens.Stray at) whole words old new =
    (lines_from [] old ≡ record { words = map (word_of whole) words; stray = Some (place_at whole at) } ∷ []) × (new ≡ [])
IsTaken takens.Nothing whole words old new = (lines_from [] old ≡ []) × (new ≡ [])

abbrev pub IsTakenWithin : List ℕ → Taken → Type 0
IsTakenWithin whole (takens.Stray at) = at ≤ length whole
IsTakenWithin whole taken = Unit {0}
