use Rattle.std.proofs.Common.{◌≡◌, rules, None, Some, true, false, map, [], ◌∷◌, ◌++◌, sym, ap, ◌∙◌, append_assoc}
use Rattle.blif_model.specs.declared.fault.BlifFault.{BlifFault}
use Rattle.blif_model.specs.Models.{mention_as}
use Rattle.blif_model.specs.Names.{Named, mention_fault, names_fault_in, with_mention, with_mentions, numbers_in, number_of}
use Rattle.blif_model.specs.Scanning.{word_of}
use Rattle.blif_model.specs.Words.{mention_in, table_mentions}
use Rattle.blif_model.proofs.Mentioning.{fault-before, fault-behind, numbers-append, with-append}
use Rattle.blif_model.proofs.tail.mention_table.Goals as goal

pub returns-in_err-mention_all-clause-fault : goal.returns-in_err-mention_all-clause-fault
returns-in_err-mention_all-clause-fault c = search (rules, fault-before)

pub returns-in_err-mention_one-clause-fault : goal.returns-in_err-mention_one-clause-fault
returns-in_err-mention_one-clause-fault c =
    let old = c.args.signals.now in
    let before = map (mention_as false) (map (word_of old.whole) c.args.inputs.now) in
    let behind : (fault : BlifFault) → mention_fault c.mention_all.new.signals (mention_in c.mention_all.new.signals.whole true c.args.output) ≡ Some fault
    → names_fault_in old (table_mentions old.whole c.args.inputs.now c.args.output) ≡ Some fault = λ fault is.
    fault-behind old before (mention_in old.whole true c.args.output) (Some fault) c.in_ok-mention_all.ensures.faultless
    (sym (ap (λ w. mention_fault c.mention_all.new.signals (mention_in w true c.args.output)) c.mention_all.ensures.whole
    ∙ ap (λ n. mention_fault n (mention_in old.whole true c.args.output)) c.in_ok-mention_all.ensures.named) ∙ is) in
    search (rules, behind)

is-named : (c : goal.In_ok-mention_one) → c.mention_one.new.signals ≡ with_mention (with_mentions c.args.signals.now (map (mention_as false) (map (word_of c.args.signals.now.whole) c.args.inputs.now))) (mention_in c.args.signals.now.whole true c.args.output)
is-named c =
    c.in_ok-mention_one.ensures.named
    ∙ ap (λ w. with_mention c.mention_all.new.signals (mention_in w true c.args.output)) c.mention_all.ensures.whole
    ∙ ap (λ n. with_mention n (mention_in c.args.signals.now.whole true c.args.output)) c.in_ok-mention_all.ensures.named

pub returns-clause-named : goal.returns-clause-named
returns-clause-named c =
    let old = c.args.signals.now in
    is-named c ∙ sym (with-append old (map (mention_as false) (map (word_of old.whole) c.args.inputs.now)) (mention_in old.whole true c.args.output ∷ []))

pub returns-clause-numbers : goal.returns-clause-numbers
returns-clause-numbers c =
    let old = c.args.signals.now in
    let before = map (mention_as false) (map (word_of old.whole) c.args.inputs.now) in
    let mention = mention_in old.whole true c.args.output in
    let last = number_of (with_mention (with_mentions old before) mention).names (word_of old.whole c.args.output) ∷ [] in
    c.in_ok-mention_one.ensures.numbers
    ∙ ap (λ w. c.mention_all.new.numbers ++ number_of c.mention_one.new.signals.names (word_of w c.args.output) ∷ []) c.mention_all.ensures.whole
    ∙ ap (λ (n : Named). c.mention_all.new.numbers ++ number_of n.names (word_of old.whole c.args.output) ∷ []) (is-named c)
    ∙ ap (λ numbers. numbers ++ last) c.in_ok-mention_all.ensures.numbers
    ∙ append_assoc c.args.numbers.now (numbers_in old before) last
    ∙ ap (λ numbers. c.args.numbers.now ++ numbers) (sym (numbers-append old before (mention ∷ [])))

pub returns-clause-faultless : goal.returns-clause-faultless
returns-clause-faultless c =
    let old = c.args.signals.now in
    let before = map (mention_as false) (map (word_of old.whole) c.args.inputs.now) in
    fault-behind old before (mention_in old.whole true c.args.output) None c.in_ok-mention_all.ensures.faultless
    (sym (ap (λ w. mention_fault c.mention_all.new.signals (mention_in w true c.args.output)) c.mention_all.ensures.whole
    ∙ ap (λ n. mention_fault n (mention_in old.whole true c.args.output)) c.in_ok-mention_all.ensures.named) ∙ c.in_ok-mention_one.ensures.faultless)
