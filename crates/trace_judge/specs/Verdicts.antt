-- What the trace of a run says of a directive.
use Rattle.std.specs.Prelude.{◌≡◌, ℕ, ◌<◌, ◌≤◌, length, Option, None, Some}
use Rattle.netlist.specs.Design.{Design}
use Rattle.netlist.specs.Runs.{IsMade, word}
use Rattle.netlist.specs.declared.run.Run.{Run}
use Rattle.psl_tree.specs.Trace.{first, trace_of}
use Rattle.psl_tree.specs.declared.directive.Directive.{Directive}
use Rattle.trace.specs.Trace.{count_of, trace_text}
use Rattle.trace.specs.Words.{HasWords}
use Rattle.trace_judge.specs.declared.judging.JudgedTrace.{JudgedTrace}
use Rattle.vcd_reader.specs.Declarations.{bits_most}
use Rattle.vcd_reader.specs.Rules.{sample_limit}
use Rattle.wave_judge.specs.Judged.{IsVerdict}
use Rattle.wave_judge.specs.declared.verdict.Verdict.{Verdict}

-- the trace of a stem and a loop of valuations, as of a run, its loop so many times, is one that can be read as a recording
pub record IsReadable (design : Design) (run : Run) (loops : ℕ) : Type 0 where
  pub is : IsMade design run
  pub words : HasWords design
  pub signals : design.signals ≤ bits_most
  pub samples : count_of run loops ≤ sample_limit

-- the verdict of a directive on the first letters of the word of a stem and a loop, as many as its trace has samples. Where
-- the loop is written no time, these are the letters of the stem, whatever the loop is.
abbrev pub IsTraceVerdict : Design → Run → ℕ → Directive → Verdict → Type 0
IsTraceVerdict design run loops directive = IsVerdict (first (count_of run loops) (trace_of (word design run))) directive

-- the trace, how many samples it has, and what it says of the directive
pub record IsJudged (design : Design) (run : Run) (loops : ℕ) (directive : Directive) (judged : JudgedTrace) : Type 0 where
  pub text : judged.text ≡ trace_text design run loops
  pub samples : judged.samples ≡ count_of run loops
  pub verdict : IsTraceVerdict design run loops directive judged.verdict

-- the same where the trace has at most so many bytes, and none where it has more
abbrev pub IsJudgedUpTo : ℕ → Design → Run → ℕ → Directive → Option JudgedTrace → Type 0
IsJudgedUpTo most design run loops directive None = most < length (trace_text design run loops)
IsJudgedUpTo most design run loops directive (Some judged) =
    (length (trace_text design run loops) ≤ most) × IsJudged design run loops directive judged
