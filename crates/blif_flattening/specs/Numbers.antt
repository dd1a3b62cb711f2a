-- Signals by number: in the order in which lines first mention them.
use Rattle.std.specs.Prelude.{ℕ, suc, ◌==◌, Bool, false, ◌&&◌, ◌||◌, cond, List, [], ◌∷◌, ◌++◌}
use Rattle.std.specs.Str.{bytes_eq}
use Rattle.blif_flattening.specs.declared.model.Model.{Model}
use Rattle.blif_flattening.specs.declared.model.Signal.{Signal}
use Rattle.blif_flattening.specs.Hierarchy.{flat_lines, mentioned}

-- two signals are one
abbrev pub same_signal : Signal → Signal → Bool
same_signal one other = (one.name == other.name) && bytes_eq one.path other.path

-- a signal is one of a list
abbrev pub is_among : List Signal → Signal → Bool
is_among [] signal = false
is_among (first ∷ signals) signal = same_signal first signal || is_among signals signal

-- a list and the signals of another one that are not there yet
abbrev pub onto : List Signal → List Signal → List Signal
onto seen [] = seen
onto seen (signal ∷ signals) = onto (cond (is_among seen signal) seen (seen ++ signal ∷ [])) signals

-- the place of a signal in a list: the first that is equal, or else the length
abbrev pub place_of : List Signal → Signal → ℕ
place_of [] signal = 0
place_of (first ∷ signals) signal = cond (same_signal first signal) 0 (suc (place_of signals signal))

-- the signals of a hierarchy, each once, in the order in which its flat lines first mention them
abbrev pub signals : {Line : Type 0} → (Line → List ℕ) → List (Model Line) → List Signal
signals mentions models = onto [] (mentioned mentions models (flat_lines models))

-- the number of a signal
abbrev pub number : {Line : Type 0} → (Line → List ℕ) → List (Model Line) → Signal → ℕ
number mentions models signal = place_of (signals mentions models) signal
