-- Where a byte of a text stands.
use Rattle.std.specs.Prelude.{ℕ, suc, List, take, count_by, reverse, not, ◌==◌}
use Rattle.std.specs.List.{prefix_len}
use Rattle.psl_base.specs.declared.place.Place.{Place}
use Rattle.psl_base.specs.declared.place.TheConstants.{FILE_LIMIT}

-- how many bytes a file has at most, and so a text
abbrev pub file_limit : ℕ
file_limit = FILE_LIMIT

-- the place behind these bytes: the line feeds among them, and the bytes after the last of these, give
-- its line and its column, both counted from 1
abbrev pub place_after : List ℕ → Place
place_after bytes = record {
  line = suc (count_by (λ byte. byte == 10) bytes);
  column = suc (prefix_len (λ byte. not (byte == 10)) (reverse bytes));
}

-- the place of the byte before which so many bytes of a text stand
abbrev pub place_at : List ℕ → ℕ → Place
place_at text offset = place_after (take offset text)
