-- What stands between tokens: white space and comments (IEEE 1850, clause 4.2).
use Rattle.std.specs.Prelude.{◌≡◌, ℕ, ◌≤◌, List, [], ◌∷◌, ◌++◌, length, IsTrue}
use Rattle.std.specs.List.{list_all}
use Rattle.psl_lexer.specs.Bytes.{is_white, is_inline}
use Rattle.psl_lexer.specs.Tokens.{Stops}

-- a byte of white space, or a comment by what stands in it
pub data Gap : Type 0 where
  White : ℕ → Gap
  -- `//` and what follows on the line
  LineComment : List ℕ → Gap
  -- `/*` and what follows up to `*/`
  BlockComment : List ℕ → Gap

abbrev pub gap_bytes : Gap → List ℕ
gap_bytes (White byte) = byte ∷ []
gap_bytes (LineComment inside) = 47 ∷ 47 ∷ inside
gap_bytes (BlockComment inside) = 47 ∷ 42 ∷ (inside ++ 42 ∷ 47 ∷ [])

-- A gap may stand before what follows: `//` goes to the end of its line, and `/*` to the next `*/`.
abbrev pub IsGap : Gap → List ℕ → Type 0
IsGap (White byte) after = IsTrue (is_white byte)
IsGap (LineComment inside) after = IsTrue (list_all is_inline inside) × Stops is_inline after
IsGap (BlockComment inside) after =
    (other rest : List ℕ) → other ++ 42 ∷ 47 ∷ rest ≡ inside ++ 42 ∷ 47 ∷ after → length inside ≤ length other
