use Rattle.std.proofs.Common.{◌≡◌, map, Some, inr, sym, ap, ◌∙◌}
use Rattle.std.specs.Option.{option_map}
use Rattle.blif_model.specs.Known.{head_fault_in, said_fault}
use Rattle.blif_model.specs.Rules.{head_rule_by}
use Rattle.blif_model.specs.Scanning.{word_of}
use Rattle.blif_model.proofs.Mentioning.{either}
use Rattle.blif_model.proofs.reader.Reader.command.Goals as goal

pub returns-in-Some-clause-fault : goal.returns-in-Some-clause-fault
returns-in-Some-clause-fault c =
    let known = c.args.self.now in
    let words = map (word_of known.named.whole) c.args.words.now in
    let whole : c.whole.result.now ≡ known.named.whole = c.whole.ensures.is ∙ ap (λ k. k.named.whole) c.self.view_is in
    let head : head_fault_in known c.args.command (word_of known.named.whole c.args.head) words ≡ Some c.in-Some.fault =
    sym (c.in-Some.ensures
    ∙ ap (λ w. option_map (λ rule. rule (word_of w c.args.head).place) (head_rule_by c.flags-flags.result c.args.command (map (word_of w) c.args.words.now))) whole
    ∙ ap (λ flags. option_map (λ rule. rule (word_of known.named.whole c.args.head).place) (head_rule_by flags c.args.command words)) c.flags-flags.ensures) in
    inr (either (head_fault_in known c.args.command (word_of known.named.whole c.args.head) words) (said_fault known c.args.command words) c.in-Some.fault head)
