use Rattle.std.proofs.Common.{◌∙◌, sym, ap, length, arith}
use Rattle.std.specs.Option.{option_map}
use Rattle.vcd_reader.proofs.Rows.{length-rows_of, value_in-rows, has_changes, change-inside, length-letters_in}
use Rattle.vcd_reader.specs.Sampled.{Sampled, letter_in}
use Rattle.vcd_reader.specs.Changes.{letters_in}
use Rattle.vcd_reader.proofs.recording.Recording.letter_near.Goals as goal

pub overflow_add-sample : goal.overflow_add-sample
overflow_add-sample c =
    let count = sym (length-rows_of c.self.inside.bytes c.self.inside.samples c.self.inside.changes.items) ∙ ap (λ (recording : Sampled). length recording.samples) c.self.view_is in
    omega (arith, count, c.self.invariant.few)

pub letters-requires : goal.letters-requires
letters-requires c =
    let names = ap (λ (recording : Sampled). recording.names) c.self.view_is in
    let in_changes = has_changes c.self.inside.names c.self.inside.bytes c.self.inside.samples c.self.inside.changes.items c.self.inside.starts.items c.args.signal c.self.invariant (rw names c.requires.signal) in
    rw c.as_slice.ensures (change-inside c.self.inside.bytes c.self.inside.changes.items c.args.signal _ c.index-changes.result.now c.in-Some.change c.self.invariant.inside in_changes c.index-changes.ensures c.in-Some.ensures).1

pub letter-requires : goal.letter-requires
letter-requires c =
    let names = ap (λ (recording : Sampled). recording.names) c.self.view_is in
    let in_changes = has_changes c.self.inside.names c.self.inside.bytes c.self.inside.samples c.self.inside.changes.items c.self.inside.starts.items c.args.signal c.self.invariant (rw names c.requires.signal) in
    let here = change-inside c.self.inside.bytes c.self.inside.changes.items c.args.signal _ c.index-changes.result.now c.in-Some.change c.self.invariant.inside in_changes c.index-changes.ensures c.in-Some.ensures in
    let sized = length-letters_in c.self.inside.bytes c.in-Some.change here.1 in
    rw (c.letters.ensures, c.as_slice.ensures) (omega (arith, sized, here.0))

pub returns-in-None : goal.returns-in-None
returns-in-None c =
    let names = ap (λ (recording : Sampled). recording.names) c.self.view_is in
    let in_changes = has_changes c.self.inside.names c.self.inside.bytes c.self.inside.samples c.self.inside.changes.items c.self.inside.starts.items c.args.signal c.self.invariant (rw names c.requires.signal) in
    let value = value_in-rows c.args.self.now c.self.inside.names c.self.inside.bytes c.self.inside.samples c.self.inside.changes.items c.self.inside.starts.items c.self.inside.unknown c.args.sample c.args.signal c.index-changes.result.now c.self.view_is c.requires.sample in_changes c.index-changes.ensures in
    sym (ap (λ o. letter_in o c.args.bit) (value ∙ ap (option_map (letters_in c.self.inside.bytes)) (sym c.in-None.ensures)))

pub returns-in-Some : goal.returns-in-Some
returns-in-Some c =
    let names = ap (λ (recording : Sampled). recording.names) c.self.view_is in
    let in_changes = has_changes c.self.inside.names c.self.inside.bytes c.self.inside.samples c.self.inside.changes.items c.self.inside.starts.items c.args.signal c.self.invariant (rw names c.requires.signal) in
    let value = value_in-rows c.args.self.now c.self.inside.names c.self.inside.bytes c.self.inside.samples c.self.inside.changes.items c.self.inside.starts.items c.self.inside.unknown c.args.sample c.args.signal c.index-changes.result.now c.self.view_is c.requires.sample in_changes c.index-changes.ensures in
    let read = ap (λ o. letter_in o c.args.bit) (value ∙ ap (option_map (letters_in c.self.inside.bytes)) (sym c.in-Some.ensures)) in
    rw (c.letter.ensures, c.letters.ensures, c.as_slice.ensures) (sym read)
