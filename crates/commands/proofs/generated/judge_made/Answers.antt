use Rattle.std.proofs.Common.{◌≡◌, ap, sym, ◌∙◌, ℕ, List, length}
use Rattle.commands.proofs.Generating.{answered-in-range, answered-small, made-verdicts, memory-alone}
use Rattle.commands.proofs.generated.judge_made.Goals as goal
use Rattle.vcd_reader.specs.Sampled.{Sampled}
use Rattle.psl_tree.specs.declared.limit.UnitFault.TheVariants.{NoMemory, TooLarge}

pub judge-requires-clause-in_range : goal.judge-requires-clause-in_range
judge-requires-clause-in_range c =
    answered-in-range c.in_ok-recording.recording.names c.in_ok-directives.directives (ap (λ (s : Sampled). s.names) c.in_ok-recording.ensures.sampled) c.in_ok-directives.ensures

pub judge-requires-clause-small : goal.judge-requires-clause-small
judge-requires-clause-small c = answered-small c.in_ok-directives.directives c.in_ok-directives.ensures

pub returns-in-Ok-clause-verdicts : goal.returns-in-Ok-clause-verdicts
returns-in-Ok-clause-verdicts c =
    made-verdicts c.args.seed c.args.samples c.in_ok-recording.recording c.in_ok-directives.directives c.in-Ok.verdicts c.requires c.in_ok-recording.ensures.sampled
    c.in_ok-directives.ensures c.in-Ok.ensures.verdicts

pub returns-in-Ok-clause-bytes : goal.returns-in-Ok-clause-bytes
returns-in-Ok-clause-bytes c = c.len-bytes.ensures ∙ ap (λ (bytes : List ℕ). length bytes) c.in_ok-text.ensures

pub unreachable-requires : goal.unreachable-requires
unreachable-requires c =
    let memory = memory-alone c.in_ok-directives.directives c.in-Err-TooLarge.field-0 c.in_ok-directives.ensures c.in-Err-TooLarge.ensures.fault in
    let wrong : TooLarge c.in-Err-TooLarge.field-0-0 c.in-Err-TooLarge.field-0-1 ≡ NoMemory = sym c.in-Err-TooLarge.field-0-is ∙ memory in cc
