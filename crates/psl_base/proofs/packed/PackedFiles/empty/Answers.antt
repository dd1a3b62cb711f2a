use Rattle.std.proofs.Common.{◌≡◌, ◌-◌, ◌≤◌, ◌<◌, length, take, sym, ap, ◌∙◌, arith}
use Rattle.std.proofs.lemmas.List.{length-take-le}
use Rattle.psl_base.specs.Packed.{covered}
use Rattle.psl_base.proofs.Packing.{files_in_empty, length_files_in, span_at}
use Rattle.psl_base.proofs.packed.PackedFiles.empty.Goals as goal

pub slice_bounds-covered-end : goal.slice_bounds-covered-end
slice_bounds-covered-end c =
    let count = ap (λ store. length store.files) c.self.view_is in
    let within : c.args.place ≤ length c.deref.result.now = rw c.deref.ensures.value (omega (arith, c.requires, count, length_files_in c.self.inside.spans.items c.self.inside.bytes.items)) in
    sym (length-take-le c.args.place c.deref.result.now within)

pub move_to_end-requires : goal.move_to_end-requires
move_to_end-requires c =
    let spans = c.self.inside.spans.items in
    let bytes = c.self.inside.bytes.items in
    let count = ap (λ store. length store.files) c.self.view_is in
    let within : c.args.place < length spans = omega (arith, c.requires, count, length_files_in spans bytes) in
    rw c.self.inside.bytes.ok.0 (span_at spans bytes c.args.place c.covered-start.result c.remove-span.result c.self.invariant.covers within c.remove-span.ensures.value
    (c.covered-start.ensures ∙ ap (λ xs. covered (take c.args.place xs)) c.deref.ensures.value)).1

pub returns-clause-empties : goal.returns-clause-empties
returns-clause-empties c file filed =
    let spans = c.self.inside.spans.items in
    let bytes = c.self.inside.bytes.items in
    let place = c.args.place in
    let span = c.remove-span.result in
    let start = c.covered-start.result in
    let files = ap (λ store. store.files) c.self.view_is in
    let count = ap (λ store. length store.files) c.self.view_is in
    let within : place < length spans = omega (arith, c.requires, count, length_files_in spans bytes) in
    let starts : start ≡ covered (take place spans) = c.covered-start.ensures ∙ ap (λ xs. covered (take place xs)) c.deref.ensures.value in
    let at = span_at spans bytes place start span c.self.invariant.covers within c.remove-span.ensures.value starts in
    rw (← files, c.push_within.ensures.items, c.remove-span.ensures.items)
    (files_in_empty spans bytes place span file start (c.len.result - span.content) c.truncate.new.self.items c.self.invariant.covers at.0 (rw files filed) starts
    (ap (λ size. size - span.content) (c.len.ensures ∙ c.move_to_end.ensures.len ∙ c.self.inside.bytes.ok.0)) (c.truncate.ensures.items ∙ ap (take (c.len.result - span.content)) c.move_to_end.ensures.items))
