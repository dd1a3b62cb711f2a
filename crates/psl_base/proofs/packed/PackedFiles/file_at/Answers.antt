use Rattle.std.proofs.Common.{◌≡◌, ◌<◌, ◌≤◌, length, take, sym, ap, ◌∙◌, arith}
use Rattle.std.proofs.lemmas.List.{length-take-le}
use Rattle.psl_base.specs.Packed.{covered}
use Rattle.psl_base.proofs.Packing.{length_files_in, span_at, slice_get-files_in}
use Rattle.psl_base.proofs.packed.PackedFiles.file_at.Goals as goal

pub slice_bounds-covered-end : goal.slice_bounds-covered-end
slice_bounds-covered-end c =
    let count = ap (λ store. length store.files) c.self.view_is in
    let within : c.args.place ≤ length c.deref.result.now = rw c.deref.ensures.value (omega (arith, c.requires, count, length_files_in c.self.inside.spans.items c.self.inside.bytes.items)) in
    sym (length-take-le c.args.place c.deref.result.now within)

pub two_parts-requires : goal.two_parts-requires
two_parts-requires c =
    let spans = c.self.inside.spans.items in
    let bytes = c.self.inside.bytes.items in
    let count = ap (λ store. length store.files) c.self.view_is in
    let within : c.args.place < length spans = omega (arith, c.requires, count, length_files_in spans bytes) in
    rw c.deref-2.ensures.value (span_at spans bytes c.args.place c.covered-start.result c.index-span.result.now c.self.invariant.covers within c.index-span.ensures
    (c.covered-start.ensures ∙ ap (λ xs. covered (take c.args.place xs)) c.deref.ensures.value)).1

pub returns : goal.returns
returns c =
    let spans = c.self.inside.spans.items in
    let bytes = c.self.inside.bytes.items in
    let count = ap (λ store. length store.files) c.self.view_is in
    let within : c.args.place < length spans = omega (arith, c.requires, count, length_files_in spans bytes) in
    let starts : c.covered-start.result ≡ covered (take c.args.place spans) = c.covered-start.ensures ∙ ap (λ xs. covered (take c.args.place xs)) c.deref.ensures.value in
    let at = (span_at spans bytes c.args.place c.covered-start.result c.index-span.result.now c.self.invariant.covers within c.index-span.ensures starts).0 in
    rw (c.two_parts.ensures.first, c.two_parts.ensures.second, c.deref-2.ensures.value, starts, ← ap (λ store. store.files) c.self.view_is)
    (slice_get-files_in spans bytes c.args.place c.index-span.result.now at)
