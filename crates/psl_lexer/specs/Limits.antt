-- How large a text may be.
use Rattle.std.specs.Prelude.{ℕ}
use Rattle.psl_base.specs.Places.{file_limit}

-- how many bytes a text has at most
abbrev pub text_limit : ℕ
text_limit = file_limit

-- how many tokens there are at most: each has a byte of its own
abbrev pub token_limit : ℕ
token_limit = text_limit
