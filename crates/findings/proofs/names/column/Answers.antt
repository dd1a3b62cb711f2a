use Rattle.std.proofs.Common.{◌<◌, ◌≤◌, length, sym, ◌∙◌, Some, ap, arith}
use Rattle.std.specs.Prelude.{slice_index}
use Rattle.std.proofs.lemmas.Option.{slice_get-get_or, slice_get_past}
use Rattle.trace.proofs.FirstNames.{has-first}
use Rattle.findings.proofs.names.column.Goals as goal

pub unreachable-requires : goal.unreachable-requires
unreachable-requires c =
    let past : length c.args.names.now ≤ slice_index c.args.first.now c.args.signal = grind (arith, c.in-None.ensures.lookup) in
    has-first c.args.names.now c.args.signal c.requires.named
    (c.requires.first c.args.signal c.requires.signal ∙ slice_get_past c.args.names.now (slice_index c.args.first.now c.args.signal) past)

pub returns : goal.returns
returns c =
    let found = c.in-Some.ensures.lookup in
    let name = c.in-Some.name.now in
    let place = slice_index c.args.first.now c.args.signal in
    let within : place < length c.args.names.now = grind (arith, found.0) in
    ap (λ text. Some (record name { text = text })) c.in_ok-copy-in-Some.ensures
    ∙ ap Some found.1
    ∙ sym (slice_get-get_or c.args.names.now place name within)
    ∙ sym (c.requires.first c.args.signal c.requires.signal)
