-- What the words after the name of the program `sat` ask for.
use Rattle.std.specs.Prelude.{ℕ, Bool, cond, ◌&&◌, List, [], ◌∷◌, Option, Some, None, codes}
use Rattle.std.specs.Option.{option_map}
use Rattle.std.specs.Str.{bytes_eq}
use Rattle.psl_base.specs.Decimals.{plain_upto}
use Rattle.sat_command.specs.declared.words.Request.{Request}

-- the file of a formula, the limit of the lemmas, and the file of the log
pub record Asked : Type 0 where
  pub file : List ℕ
  pub steps : Option ℕ
  pub log : Option (List ℕ)

abbrev pub asked_by : Request → Asked
asked_by request = record { file = request.file.now; steps = request.steps; log = option_map (λ name. name.now) request.log }

-- the file of the log that was asked for
abbrev pub log_asked : Option Asked → Option (List ℕ)
log_asked None = None
log_asked (Some asked) = asked.log

abbrev pub is_steps : List ℕ → Bool
is_steps word = bytes_eq word (codes "--steps")

abbrev pub is_log : List ℕ → Bool
is_log word = bytes_eq word (codes "--log")

abbrev pub with_steps : List ℕ → List ℕ → Option (List ℕ) → Option Asked
with_steps file steps log = option_map (λ number. record { file = file; steps = Some number; log = log }) (plain_upto 18446744073709551615 steps)

abbrev pub with_option : List ℕ → List ℕ → List ℕ → Option Asked
with_option file name value =
    cond (is_steps name) (with_steps file value None)
    (cond (is_log name) (Some (record { file = file; steps = None; log = Some value })) None)

abbrev pub with_options : List ℕ → List ℕ → List ℕ → List ℕ → List ℕ → Option Asked
with_options file name value other second =
    cond (is_steps name && is_log other) (with_steps file value (Some second))
    (cond (is_log name && is_steps other) (with_steps file second (Some value)) None)

-- `FILE`, with `--steps N` or `--log FILE` or both behind it
abbrev pub request_of : List (List ℕ) → Option Asked
request_of (file ∷ []) = Some (record { file = file; steps = None; log = None })
request_of (file ∷ name ∷ value ∷ []) = with_option file name value
request_of (file ∷ name ∷ value ∷ other ∷ second ∷ []) = with_options file name value other second
request_of words = None
