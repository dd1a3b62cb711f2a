-- The range of indices at the end of a reference (IEEE 1364, clause 18.2.3.7).
use Rattle.std.specs.Prelude.{ℕ, ◌+◌, ◌-◌, ◌==◌, ◌&&◌, nat_lt, cond, List, [], ◌∷◌, length, take, drop, slice_index, Option, None, Some}
use Rattle.std.specs.List.{position_from}
use Rattle.std.specs.Option.{option_map, option_and_then}
use Rattle.psl_base.specs.Decimals.{decimal_upto}
use Rattle.psl_tree.specs.Ranges.{index_count}
use Rattle.vcd_reader.specs.declared.ranges.TheConstants.{MOST_INDEX}

-- the highest index
abbrev pub index_most : ℕ
index_most = MOST_INDEX

-- the place of the last `[` of a text, before which so many bytes stand, or an older one
abbrev pub last_bracket : Option ℕ → ℕ → List ℕ → Option ℕ
last_bracket old at [] = old
last_bracket old at (byte ∷ bytes) = last_bracket (cond (byte == 91) (Some at) old) (at + 1) bytes

-- a left and a right index, where both are there
abbrev pub pair_of : Option ℕ → Option ℕ → Option (ℕ × ℕ)
pair_of None right = None
pair_of (Some left) right = option_map (λ index. (left, index)) right

-- the index before `]`, where that is the last byte
abbrev pub index_before_end : List ℕ → Option ℕ
index_before_end text = cond (nat_lt 0 (length text) && (slice_index text (length text - 1) == 93)) (decimal_upto index_most (take (length text - 1) text)) None

-- `m:l]`, two indices: what stands before the first `:` and what stands behind it
abbrev pub indices_of : List ℕ → Option (ℕ × ℕ)
indices_of text =
    option_and_then (λ colon. pair_of (decimal_upto index_most (take colon text)) (index_before_end (drop (colon + 1) text)))
    (position_from (λ byte. byte == 58) 0 text)

-- the range `[m:l]` at a text's end, and where it begins: numbers have no `[`, so it is the last one
abbrev pub range_at_end : List ℕ → Option (ℕ × (ℕ × ℕ))
range_at_end text = option_and_then (λ at. option_map (λ range. (at, range)) (indices_of (drop (at + 1) text))) (last_bracket None 0 text)

-- what a reference says: the text without its range, and the range
pub record Reference : Type 0 where
  pub text : List ℕ
  pub left : ℕ
  pub right : ℕ

abbrev pub reference_with : List ℕ → ℕ → Option (ℕ × (ℕ × ℕ)) → Reference
reference_with text size None = record { text = text; left = size - 1; right = 0 }
reference_with text size (Some range) =
    cond (index_count range.1.0 range.1.1 == size)
    (record { text = take range.0 text; left = range.1.0; right = range.1.1 })
    (record { text = text; left = size - 1; right = 0 })

-- A reference of a signal of so many bits, its tokens joined. A range counts only where it has as many
-- indices; otherwise it is part of the text, and the range is from the size less one down to 0.
abbrev pub reference_of : List ℕ → ℕ → Reference
reference_of text size = reference_with text size (range_at_end text)
