-- What a token is by its text alone (IEEE 1364, clause 18.2).
use Rattle.std.specs.Prelude.{ℕ, ◌==◌, Bool, true, false, ◌&&◌, ◌||◌, cond, List, [], ◌∷◌, codes}
use Rattle.std.specs.List.{list_all}
use Rattle.std.specs.Str.{bytes_eq}
use Rattle.vcd_reader.specs.declared.shape.Shape.{Shape}
use Rattle.vcd_reader.specs.declared.shape.Shape.TheVariants.{End, Comment, Header, Scope, Upscope, Var, EndDefinitions, Dump, Unknown, Time, Vector, Unread, Scalar, Other}

abbrev pub is_end : List ℕ → Bool
is_end text = bytes_eq text (codes "$end")

-- a section of the definitions whose tokens say nothing here, other than a comment
abbrev pub is_header : List ℕ → Bool
is_header text = bytes_eq text (codes "$date") || bytes_eq text (codes "$version") || bytes_eq text (codes "$timescale")

-- the beginning of a block of changes
abbrev pub is_dump : List ℕ → Bool
is_dump text = bytes_eq text (codes "$dumpvars") || bytes_eq text (codes "$dumpall") || bytes_eq text (codes "$dumpon") || bytes_eq text (codes "$dumpoff")

-- a token that begins with `$`
unfoldable pub keyword_of : List ℕ → Shape
keyword_of text =
    cond (is_end text) End
    (cond (bytes_eq text (codes "$comment")) Comment
    (cond (is_header text) Header
    (cond (bytes_eq text (codes "$scope")) Scope
    (cond (bytes_eq text (codes "$upscope")) Upscope
    (cond (bytes_eq text (codes "$var")) Var
    (cond (bytes_eq text (codes "$enddefinitions")) EndDefinitions
    (cond (is_dump text) Dump Unknown)))))))

-- a letter that a value may have: `0 1 x X z Z`, and of nine-valued logic `u U w W l L h H -`
abbrev pub is_value : ℕ → Bool
is_value byte =
    byte == 48 || byte == 49 || byte == 120 || byte == 88 || byte == 122 || byte == 90 || byte == 117 || byte == 85
    || byte == 119 || byte == 87 || byte == 108 || byte == 76 || byte == 104 || byte == 72 || byte == 45

abbrev pub has_more : List ℕ → Bool
has_more [] = false
has_more (byte ∷ bytes) = true

-- one letter or more, and no other byte
abbrev pub are_values : List ℕ → Bool
are_values bytes = has_more bytes && list_all is_value bytes

-- What a token is: `$` begins a keyword, `#` a time, `b` and `B` a vector's value, `r R s S` a real or
-- string change, which is not read. A letter and a code are a change of one letter.
unfoldable pub shape_of : List ℕ → Shape
shape_of [] = Other
shape_of (first ∷ rest) =
    cond (first == 36) (keyword_of (first ∷ rest))
    (cond (first == 35) Time
    (cond (first == 98 || first == 66) (cond (are_values rest) Vector Other)
    (cond (first == 114 || first == 82 || first == 115 || first == 83) Unread
    (cond (is_value first && has_more rest) Scalar Other))))
