-- How keywords and punctuation are spelled (IEEE 1850, clause 4.2).
use Rattle.std.specs.Prelude.{ℕ, List, [], ◌∷◌, Option, None, Some, if◌then◌else◌, codes, unwrap_or}
use Rattle.std.specs.Str.{bytes_eq}
use Rattle.psl_lexer.specs.declared.kind.TokenKind.{TokenKind}
use Rattle.psl_lexer.specs.declared.kind.TokenKind.TheVariants.{Name, Always, Never, Next, NextA, NextE, NextEvent, NextEventA, NextEventE, Until, UntilOverlap, Before, BeforeOverlap, Abort, AsyncAbort, SyncAbort, Within, Inf, True, False, Posedge, Negedge, Assert, Assume, Cover, Report, Vunit, Sequence, Property, Default, Clock, NextStrong, NextAStrong, NextEStrong, NextEventStrong, NextEventAStrong, NextEventEStrong, EventuallyStrong, UntilStrong, BeforeStrong, UntilStrongOverlap, BeforeStrongOverlap, Implies, ImpliesNext, Iff, GotoOpen, PlusRepeat, StarOpen, EqualsOpen, Arrow, AndAnd, OrOr, EqualEqual, NotEqual, LessEqual, GreaterEqual, ParenOpen, ParenClose, BraceOpen, BraceClose, BracketOpen, BracketClose, Semicolon, Colon, Dot, At, Not, Ampersand, Bar, Equals, Less, Greater}

-- spellings, each with what it is
abbrev pub Spellings : Type 0
Spellings = List (List ℕ × TokenKind)

-- what these bytes are, if a row spells them
abbrev pub kind_in : Spellings → List ℕ → Option TokenKind
kind_in [] bytes = None
kind_in (row ∷ rows) bytes = if bytes_eq row.0 bytes then Some row.1 else kind_in rows bytes

-- The keywords that have the form of a name. A reserved word of the standard that is not listed is a
-- name here.
unfoldable pub words : Spellings
words =
    (codes "always", Always)
    ∷ (codes "never", Never)
    ∷ (codes "next", Next)
    ∷ (codes "next_a", NextA)
    ∷ (codes "next_e", NextE)
    ∷ (codes "next_event", NextEvent)
    ∷ (codes "next_event_a", NextEventA)
    ∷ (codes "next_event_e", NextEventE)
    ∷ (codes "until", Until)
    ∷ (codes "until_", UntilOverlap)
    ∷ (codes "before", Before)
    ∷ (codes "before_", BeforeOverlap)
    ∷ (codes "abort", Abort)
    ∷ (codes "async_abort", AsyncAbort)
    ∷ (codes "sync_abort", SyncAbort)
    ∷ (codes "within", Within)
    ∷ (codes "inf", Inf)
    ∷ (codes "true", True)
    ∷ (codes "false", False)
    ∷ (codes "posedge", Posedge)
    ∷ (codes "negedge", Negedge)
    ∷ (codes "assert", Assert)
    ∷ (codes "assume", Assume)
    ∷ (codes "cover", Cover)
    ∷ (codes "report", Report)
    ∷ (codes "vunit", Vunit)
    ∷ (codes "sequence", Sequence)
    ∷ (codes "property", Property)
    ∷ (codes "default", Default)
    ∷ (codes "clock", Clock)
    ∷ []

-- the words that are a keyword with a `!` directly behind them
unfoldable pub strong_words : Spellings
strong_words =
    (codes "next", NextStrong)
    ∷ (codes "next_a", NextAStrong)
    ∷ (codes "next_e", NextEStrong)
    ∷ (codes "next_event", NextEventStrong)
    ∷ (codes "next_event_a", NextEventAStrong)
    ∷ (codes "next_event_e", NextEventEStrong)
    ∷ (codes "eventually", EventuallyStrong)
    ∷ (codes "until", UntilStrong)
    ∷ (codes "before", BeforeStrong)
    ∷ []

-- the words that are a keyword with `!_` directly behind them
unfoldable pub overlapping_words : Spellings
overlapping_words =
    (codes "until", UntilStrongOverlap)
    ∷ (codes "before", BeforeStrongOverlap)
    ∷ []

-- the punctuation, longest first
unfoldable pub marks : Spellings
marks =
    (codes "|->", Implies)
    ∷ (codes "|=>", ImpliesNext)
    ∷ (codes "<->", Iff)
    ∷ (codes "[->", GotoOpen)
    ∷ (codes "[+]", PlusRepeat)
    ∷ (codes "[*", StarOpen)
    ∷ (codes "[=", EqualsOpen)
    ∷ (codes "->", Arrow)
    ∷ (codes "&&", AndAnd)
    ∷ (codes "||", OrOr)
    ∷ (codes "==", EqualEqual)
    ∷ (codes "!=", NotEqual)
    ∷ (codes "<=", LessEqual)
    ∷ (codes ">=", GreaterEqual)
    ∷ (codes "(", ParenOpen)
    ∷ (codes ")", ParenClose)
    ∷ (codes "{", BraceOpen)
    ∷ (codes "}", BraceClose)
    ∷ (codes "[", BracketOpen)
    ∷ (codes "]", BracketClose)
    ∷ (codes ";", Semicolon)
    ∷ (codes ":", Colon)
    ∷ (codes ".", Dot)
    ∷ (codes "@", At)
    ∷ (codes "!", Not)
    ∷ (codes "&", Ampersand)
    ∷ (codes "|", Bar)
    ∷ (codes "=", Equals)
    ∷ (codes "<", Less)
    ∷ (codes ">", Greater)
    ∷ []

-- what a word is: a keyword, or else a name
abbrev pub word_kind : List ℕ → TokenKind
word_kind word = unwrap_or (kind_in words word) Name
