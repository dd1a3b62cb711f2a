use Rattle.std.proofs.lemmas.Result.{err_from_is_err_and}
use Rattle.std.proofs.Common.{◌≡◌, ◌⊎◌, ◌∙◌, Some, ap, map, sym, subst, All}
use Rattle.blif_model.specs.declared.fault.BlifFault.TheVariants.{NoMemory}
use Rattle.blif_model.specs.FileKnown.{FileKnown, known_own}
use Rattle.blif_model.specs.Known.{Known, command_fault_in}
use Rattle.blif_model.specs.Scanning.{IsWithin, word_of}
use Rattle.blif_model.proofs.Keeping.{kept-with, say-is}
use Rattle.blif_model.proofs.Stepping.{command-whole}
use Rattle.blif_model.proofs.file_reader.FileReader.say.Goals as goal

pub invariant_of-self : goal.invariant_of-self
invariant_of-self c =
    let inside = c.self.inside in
    let whole = inside.own.named.whole in
    let kept = c.self.invariant in
    let same : c.args.self.own.named.whole ≡ whole = sym (ap (λ (file : FileKnown). file.own.named.whole) c.self.view_is) in
    kept-with whole c.command.new.self.named.whole inside.earlier inside.title inside.clocks inside.placements inside.title c.add_clocks.new.clocks
    (ap (λ (known : Known). known.named.whole) c.in_ok-command.ensures.known ∙ command-whole inside.own c.args.command (map (word_of whole) c.args.words.now))
    kept kept.1 (c.in_ok-add_clocks.ensures.within whole kept.2 (subst (λ w. All (IsWithin w) c.args.words.now) same c.requires.words))

pub returns-in_err-command-clause-fault : goal.returns-in_err-command-clause-fault
returns-in_err-command-clause-fault c =
    let p = err_from_is_err_and c.from_residual.result c.from_residual.ensures.1 in
    rw (p.1, p.2)
    (subst (λ (file : FileKnown). (c.in_err-command.field-0.0 ≡ NoMemory) ⊎ (command_fault_in file.own c.args.command (word_of file.own.named.whole c.args.head) (map (word_of file.own.named.whole) c.args.words.now) ≡ Some c.in_err-command.field-0.0))
    c.self.view_is c.in_err-command.ensures.fault)

pub returns-clause-known : goal.returns-clause-known
returns-clause-known c =
    let inside = c.self.inside in
    let whole = inside.own.named.whole in
    let words = map (word_of whole) c.args.words.now in
    say-is inside.earlier inside.titles inside.title inside.own c.command.new.self inside.clocks c.add_clocks.new.clocks inside.placements c.args.command words
    c.in_ok-command.ensures.known
    (ap (λ (known : Known). known.named.whole) c.in_ok-command.ensures.known ∙ command-whole inside.own c.args.command words)
    (c.in_ok-add_clocks.ensures.added whole)
    ∙ ap (λ (file : FileKnown). known_own file c.args.command (map (word_of file.own.named.whole) c.args.words.now)) c.self.view_is
