-- What the definitions of a recording declare (IEEE 1364, clause 18.2.3).
use Rattle.std.specs.Prelude.{ℕ, ◌-◌, nat_lt, Bool, true, false, ◌||◌, cond, List, [], ◌∷◌, ◌++◌, length, take, sum_by, slice_index_or, Option, None, Some, codes}
use Rattle.std.specs.List.{flat_map}
use Rattle.std.specs.Str.{bytes_eq}
use Rattle.psl_tree.specs.declared.name.Name.{Name}
use Rattle.vcd_reader.specs.declared.definitions.TheConstants.{MOST_BITS, MOST_SIZE}
use Rattle.vcd_reader.specs.declared.signal.Declaration.{Declaration}
use Rattle.vcd_reader.specs.declared.signal.Signal.{Signal}
use Rattle.vcd_reader.specs.Labels.{place_of}
use Rattle.vcd_reader.specs.Ranges.{Reference, reference_of}

-- The distinct codes, in the order of their first `$var`, and the signal of each. The names, one for
-- each `$var` of a signal whose values are read, in order. The scopes that are open, the outermost first.
pub record Declared : Type 0 where
  pub codes : List (List ℕ)
  pub signals : List Signal
  pub names : List Name
  pub scopes : List (List ℕ)

abbrev pub nothing_declared : Declared
nothing_declared = record { codes = []; signals = []; names = []; scopes = [] }

-- how many bits one signal has at most, and all signals together
abbrev pub size_most : ℕ
size_most = MOST_SIZE

abbrev pub bits_most : ℕ
bits_most = MOST_BITS

-- a type whose values are not read
abbrev pub is_unread_type : List ℕ → Bool
is_unread_type text = bytes_eq text (codes "real") || bytes_eq text (codes "realtime") || bytes_eq text (codes "string")

-- a size that a signal may have: a signal that is read has a bit
abbrev pub is_size : Bool → Option ℕ → Bool
is_size unread None = false
is_size unread (Some size) = unread || nat_lt 0 size

-- what a `$var` says before its reference
pub record Variable : Type 0 where
  pub unread : Bool
  pub size : ℕ
  pub code : List ℕ

abbrev pub variable_of : Declaration → Variable
variable_of declaration = record { unread = declaration.unread; size = declaration.size; code = declaration.code.now }

abbrev pub no_signal : Signal
no_signal = record { size = 0; unread = true }

-- the signal of a number
abbrev pub signal_at : Declared → ℕ → Signal
signal_at declared number = slice_index_or declared.signals number no_signal

-- whether a code, where it has a signal, has one with a property
abbrev pub of_signal : (Signal → Bool) → Declared → Option ℕ → Bool
of_signal test declared None = false
of_signal test declared (Some number) = test (signal_at declared number)

-- how many bits the signals have together
abbrev pub bits_of : List Signal → ℕ
bits_of signals = sum_by (λ signal. signal.size) signals

-- a name's text: the scopes and the reference, joined by dots
abbrev pub path_of : List (List ℕ) → List ℕ → List ℕ
path_of scopes text = flat_map (λ scope. scope ++ 46 ∷ []) scopes ++ text

abbrev pub name_with : List (List ℕ) → ℕ → Reference → Name
name_with scopes number reference = record { text = path_of scopes reference.text; signal = number; left = reference.left; right = reference.right }

-- the name that a `$var` gives a signal
abbrev pub name_of : List (List ℕ) → ℕ → ℕ → List ℕ → Name
name_of scopes number size text = name_with scopes number (reference_of text size)

-- a signal more
abbrev pub with_signal : Declared → Variable → Declared
with_signal declared variable = record declared {
  codes = declared.codes ++ variable.code ∷ [];
  signals = declared.signals ++ record { size = variable.size; unread = variable.unread } ∷ [];
}

-- a name more of a signal, where that is read
abbrev pub with_name : Declared → ℕ → ℕ → List ℕ → Declared
with_name declared number size text = record declared {
  names = cond (signal_at declared number).unread declared.names (declared.names ++ name_of declared.scopes number size text ∷ []);
}

-- what is declared with one `$var` more, whose code is that of a signal or is new
abbrev pub declared_by : Declared → Variable → List ℕ → Option ℕ → Declared
declared_by declared variable text None = with_name (with_signal declared variable) (length declared.codes) variable.size text
declared_by declared variable text (Some number) = with_name declared number variable.size text

abbrev pub declared_with : Declared → Variable → List ℕ → Declared
declared_with declared variable text = declared_by declared variable text (place_of declared.codes variable.code)

abbrev pub with_scope : Declared → List ℕ → Declared
with_scope declared name = record declared { scopes = declared.scopes ++ name ∷ [] }

-- the innermost scope is closed
abbrev pub without_scope : Declared → Declared
without_scope declared = record declared { scopes = take (length declared.scopes - 1) declared.scopes }
