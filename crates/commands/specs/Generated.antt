-- `gen SEED SAMPLES`: the verdict of `assert always (req -> next! ack);` on a recording that is made from the seed.
use Rattle.std.specs.Prelude.{◌≡◌, ℕ, List, [], ◌∷◌, length, None, Result, Ok}
use Rattle.psl_tree.specs.Sugar.{always, implication, next_strong}
use Rattle.psl_tree.specs.declared.atom.Atom.{Atom}
use Rattle.psl_tree.specs.declared.atom.Edge.TheVariants.{Value}
use Rattle.psl_tree.specs.declared.directive.Directive.{Directive}
use Rattle.psl_tree.specs.declared.directive.Kind.TheVariants.{Assert}
use Rattle.psl_tree.specs.Trees.{Formula, Test, Now, formula_of}
use Rattle.commands.specs.declared.outcome.Fault.{Fault}
use Rattle.commands.specs.declared.outcome.Outcome.{Outcome}
use Rattle.commands.specs.declared.outcome.Outcome.TheVariants.{Made}
use Rattle.vcd_writer.specs.Made.{made_sampled, made_text}
use Rattle.vcd_reader.specs.declared.unknown.Unknown.TheVariants.{Zero}
use Rattle.vcd_reader.specs.Meaning.{reading}
use Rattle.vcd_reader.specs.Sampled.{Sampled, letters_of}
use Rattle.wave_judge.specs.Judged.{AreVerdicts}
use Rattle.wave_judge.specs.declared.verdict.Verdict.{Verdict}

-- the value of a signal of one bit
abbrev pub value_of : ℕ → Atom
value_of signal = record { signal = signal; bit = 0; edge = Value }

-- `always (req -> next! ack)`, where `req` is the first signal and `ack` the second
abbrev pub answered : Formula
answered = always (implication (Now (Test (value_of 0))) (next_strong (Now (Test (value_of 1)))))

-- the one directive: `assert` of that
pub record IsAnswered (directive : Directive) : Type 0 where
  pub number : directive.number ≡ 1
  pub kind : directive.kind ≡ Assert
  pub label : directive.label ≡ None
  pub formula : formula_of directive.formula ≡ answered

-- the directives: that one alone
abbrev pub AreAnswered : List Directive → Type 0
AreAnswered directives = (directive : Directive) × (directives ≡ directive ∷ []) × IsAnswered directive

-- a recording says what the made text says
pub record IsMade (seed samples : ℕ) (recording : Sampled) : Type 0 where
  pub sampled : recording ≡ made_sampled Zero seed samples

-- the verdicts on the letters of the made recording, as it is read from its text
pub record AreMade (seed samples : ℕ) (verdicts : List Verdict) : Type 0 where
  pub sampled : Sampled
  pub read : reading Zero (made_text seed samples) ≡ Ok sampled
  pub directives : List Directive
  pub are_answered : AreAnswered directives
  pub judged : AreVerdicts (letters_of sampled) directives verdicts

-- what the command gives, whatever the files tell: it is never refused
abbrev pub GeneratedStage : ℕ → ℕ → Result Outcome Fault → Type 0
GeneratedStage seed samples result =
    (verdicts : List Verdict) × AreMade seed samples verdicts × (result ≡ Ok (Made seed samples (length (made_text seed samples)) verdicts))
