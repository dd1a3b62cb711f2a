-- The faults of a recording's text, each a test of a token and of what the tokens before it say (IEEE 1364,
-- clause 18.2). Of several at one token the one that stands first in this file is named.
use Rattle.std.specs.Prelude.{ℕ, nat_lt, nat_le, ◌==◌, Bool, true, false, not, ◌&&◌, ◌||◌, cond, List, [], ◌∷◌, length, drop, Option, None, Some, is_none}
use Rattle.psl_base.specs.declared.place.Place.{Place}
use Rattle.vcd_reader.specs.declared.shape.Shape.{Shape}
use Rattle.vcd_reader.specs.declared.shape.Shape.TheVariants.{End, Header, Scope, Upscope, Var, EndDefinitions, Dump, Unknown, Time, Vector, Unread, Scalar, Other}
use Rattle.vcd_reader.specs.declared.body.TheConstants.{SAMPLE_LIMIT}
use Rattle.vcd_reader.specs.declared.fault.VcdFault.{VcdFault}
use Rattle.vcd_reader.specs.declared.fault.VcdFault.TheVariants.{UnknownKeyword, MissingEnd, BadVar, CodeSizeDiffers, ScopeNotOpen, BadTime, TimeFalls, CodeNotDeclared, BadValue, VectorTooLong, ChangeBeforeDefinitionsEnd, TooManySamples, TooManySignals}
use Rattle.vcd_reader.specs.Declarations.{Declared, is_size, of_signal, declared_with, bits_of, bits_most}
use Rattle.vcd_reader.specs.Events.{is_last, falls}
use Rattle.vcd_reader.specs.Labels.{is_code, place_of, is_new}
use Rattle.vcd_reader.specs.Shapes.{shape_of, is_end}
use Rattle.vcd_reader.specs.Standing.{Told, Part, Defining, Telling, Open, Ready, WantsScopeType, WantsScopeName, WantsScopeEnd, WantsUpscopeEnd, WantsDefinitionsEnd, WantsType, WantsSize, WantsCode, WantsReference, InReference, WantsVectorCode, WantsUnreadCode, time_of, size_of}

-- how many samples a recording has at most
abbrev pub sample_limit : ℕ
sample_limit = SAMPLE_LIMIT

-- UnknownKeyword: begins with `$` where a section or a change is wanted, and is none that may stand in
-- that part. A word that begins a block is another fault in the definitions.
abbrev pub is_strange_section : Shape → Bool
is_strange_section Unknown = true
is_strange_section End = true
is_strange_section shape = false

abbrev pub is_strange_change : Bool → Shape → Bool
is_strange_change in_block Unknown = true
is_strange_change in_block Header = true
is_strange_change in_block Scope = true
is_strange_change in_block Upscope = true
is_strange_change in_block Var = true
is_strange_change in_block EndDefinitions = true
is_strange_change in_block End = not in_block
is_strange_change in_block shape = false

abbrev pub is_unknown_keyword : Part → Open → List ℕ → Bool
is_unknown_keyword Defining Ready text = is_strange_section (shape_of text)
is_unknown_keyword (Telling told) Ready text = is_strange_change told.in_block (shape_of text)
is_unknown_keyword part opened text = false

-- MissingEnd: not `$end` where a section wants it; or a time, or a keyword other than `$end` and
-- `$comment`, inside a block of changes
abbrev pub is_no_change : Shape → Bool
is_no_change Time = true
is_no_change Unknown = true
is_no_change Header = true
is_no_change Scope = true
is_no_change Upscope = true
is_no_change Var = true
is_no_change EndDefinitions = true
is_no_change Dump = true
is_no_change shape = false

abbrev pub is_missing_end : Part → Open → List ℕ → Bool
is_missing_end part (WantsScopeEnd name) text = not (is_end text)
is_missing_end part WantsUpscopeEnd text = not (is_end text)
is_missing_end part WantsDefinitionsEnd text = not (is_end text)
is_missing_end (Telling told) Ready text = told.in_block && is_no_change (shape_of text)
is_missing_end part opened text = false

-- BadVar: a size that is none, a code with another byte than `!` to `~`, or `$end` where a `$var` or a
-- `$scope` wants another token
abbrev pub is_bad_var : Open → List ℕ → Bool
is_bad_var WantsScopeType text = is_end text
is_bad_var WantsScopeName text = is_end text
is_bad_var WantsType text = is_end text
is_bad_var (WantsSize unread) text = not (is_size unread (size_of text))
is_bad_var (WantsCode unread size) text = is_end text || not (is_code text)
is_bad_var (WantsReference variable) text = is_end text
is_bad_var opened text = false

-- CodeSizeDiffers: the code in a `$var` is declared with another size
abbrev pub differs_in_size : Declared → Open → List ℕ → Bool
differs_in_size declared (WantsCode unread size) text = of_signal (λ signal. not (signal.size == size)) declared (place_of declared.codes text)
differs_in_size declared opened text = false

-- ScopeNotOpen: `$upscope` where no scope is open
abbrev pub has_none : List (List ℕ) → Bool
has_none [] = true
has_none (x ∷ xs) = false

abbrev pub closes_none : Declared → Shape → Bool
closes_none declared Upscope = has_none declared.scopes
closes_none declared shape = false

abbrev pub is_scope_not_open : Declared → Part → Open → List ℕ → Bool
is_scope_not_open declared Defining Ready text = closes_none declared (shape_of text)
is_scope_not_open declared part opened text = false

-- whether a time, where the token is one, is at fault
abbrev pub of_time : (Option ℕ → Bool) → Shape → List ℕ → Bool
of_time test Time text = test (time_of text)
of_time test shape text = false

-- BadTime: no number behind `#`, or one past the highest time
abbrev pub is_bad_time : Part → Open → List ℕ → Bool
is_bad_time (Telling told) Ready text = of_time is_none (shape_of text) text
is_bad_time part opened text = false

-- TimeFalls: a time that is lower than the one before it
abbrev pub is_lower : Told → Option ℕ → Bool
is_lower told None = false
is_lower told (Some time) = falls told.last time

abbrev pub is_falling : Part → Open → List ℕ → Bool
is_falling (Telling told) Ready text = of_time (is_lower told) (shape_of text) text
is_falling part opened text = false

-- CodeNotDeclared: a change of a code without a `$var`
abbrev pub changes_unknown : Declared → Shape → List ℕ → Bool
changes_unknown declared Scalar text = is_new declared.codes (drop 1 text)
changes_unknown declared shape text = false

abbrev pub is_undeclared : Declared → Part → Open → List ℕ → Bool
is_undeclared declared (Telling told) Ready text = changes_unknown declared (shape_of text) text
is_undeclared declared part (WantsVectorCode start value) text = is_new declared.codes text
is_undeclared declared part WantsUnreadCode text = is_new declared.codes text
is_undeclared declared part opened text = false

-- BadValue: in the body, neither a keyword nor a time nor a change
abbrev pub is_other : Shape → Bool
is_other Other = true
is_other shape = false

abbrev pub is_bad_value : Part → Open → List ℕ → Bool
is_bad_value (Telling told) Ready text = is_other (shape_of text)
is_bad_value part opened text = false

-- VectorTooLong: more letters than the signal has bits, where it is read
abbrev pub is_too_long : Declared → Open → List ℕ → Bool
is_too_long declared (WantsVectorCode start value) text =
    of_signal (λ signal. not signal.unread && nat_lt signal.size (length value)) declared (place_of declared.codes text)
is_too_long declared opened text = false

-- ChangeBeforeDefinitionsEnd: where a section of the definitions is wanted, a dump word or a token that begins with no `$`
abbrev pub is_no_section : Shape → Bool
is_no_section Dump = true
is_no_section Time = true
is_no_section Vector = true
is_no_section Unread = true
is_no_section Scalar = true
is_no_section Other = true
is_no_section shape = false

abbrev pub is_early : Part → Open → List ℕ → Bool
is_early Defining Ready text = is_no_section (shape_of text)
is_early part opened text = false

-- TooManySamples: a time that would begin a sample past the limit
abbrev pub is_past_samples : Told → Option ℕ → Bool
is_past_samples told None = false
is_past_samples told (Some time) = not (is_last told.last time) && nat_le sample_limit told.samples

abbrev pub begins_too_many : Part → Open → List ℕ → Bool
begins_too_many (Telling told) Ready text = of_time (is_past_samples told) (shape_of text) text
begins_too_many part opened text = false

-- TooManySignals: the `$end` of a `$var` with which the bits of all codes pass the limit
abbrev pub declares_too_many : Declared → Open → List ℕ → Bool
declares_too_many declared (InReference variable joined) text = is_end text && nat_lt bits_most (bits_of (declared_with declared variable joined).signals)
declares_too_many declared opened text = false

-- the first fault of a token, where it has one: it wants its place
abbrev pub rule_at : Declared → Part → Open → List ℕ → Option (Place → VcdFault)
rule_at declared part opened text =
    cond (is_unknown_keyword part opened text) (Some UnknownKeyword)
    (cond (is_missing_end part opened text) (Some MissingEnd)
    (cond (is_bad_var opened text) (Some BadVar)
    (cond (differs_in_size declared opened text) (Some CodeSizeDiffers)
    (cond (is_scope_not_open declared part opened text) (Some ScopeNotOpen)
    (cond (is_bad_time part opened text) (Some BadTime)
    (cond (is_falling part opened text) (Some TimeFalls)
    (cond (is_undeclared declared part opened text) (Some CodeNotDeclared)
    (cond (is_bad_value part opened text) (Some BadValue)
    (cond (is_too_long declared opened text) (Some VectorTooLong)
    (cond (is_early part opened text) (Some ChangeBeforeDefinitionsEnd)
    (cond (begins_too_many part opened text) (Some TooManySamples)
    (cond (declares_too_many declared opened text) (Some TooManySignals) None))))))))))))

-- the text may end there: not before the definitions end, and inside nothing
abbrev pub may_end : Part → Open → Bool
may_end (Telling told) Ready = not told.in_block
may_end part opened = false
