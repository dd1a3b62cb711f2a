use Rattle.std.proofs.Common.{◌≡◌, ◌⊎◌, None, Some, sym, subst, IfErr, OnOk}
use Rattle.blif_model.specs.declared.fault.BlifFault.TheVariants.{NoMemory}
use Rattle.blif_model.specs.Names.{names_fault_in}
use Rattle.blif_model.specs.Scanning.{word_of}
use Rattle.blif_model.proofs.Mentioning.{names-known, names-mentions}
use Rattle.blif_model.proofs.reader.Reader.names.Goals as goal

pub returns-in-Some-clause-said : goal.returns-in-Some-clause-said
returns-in-Some-clause-said c =
    let known = c.args.self.now in
    subst (λ after. OnOk c.add_table.result (c.add_table.new.self ≡ after))
    (sym (names-known known (word_of known.named.whole) c.args.words.now c.in-Some.inputs.now c.in-Some.output.now c.in-Some.ensures.cases.0)) c.add_table.ensures.said

pub returns-in-Some-clause-faultless : goal.returns-in-Some-clause-faultless
returns-in-Some-clause-faultless c =
    let known = c.args.self.now in
    subst (λ mentions. OnOk c.add_table.result (names_fault_in known.named mentions ≡ None))
    (sym (names-mentions (word_of known.named.whole) c.args.words.now c.in-Some.inputs.now c.in-Some.output.now c.in-Some.ensures.cases.0)) c.add_table.ensures.faultless

pub returns-in-Some-clause-fault : goal.returns-in-Some-clause-fault
returns-in-Some-clause-fault c =
    let known = c.args.self.now in
    subst (λ mentions. IfErr c.add_table.result (λ fault. (fault ≡ NoMemory) ⊎ (names_fault_in known.named mentions ≡ Some fault)))
    (sym (names-mentions (word_of known.named.whole) c.args.words.now c.in-Some.inputs.now c.in-Some.output.now c.in-Some.ensures.cases.0)) c.add_table.ensures.fault
