use Rattle.std.proofs.Common.{◌≡◌, ◌<◌, ◌+◌, ◌-◌, suc, length, ap, arith, length-append, length-set}
use Rattle.psl_base.specs.Files.{bytes_of}
use Rattle.psl_base.proofs.Packing.{files_in_grow, length_files_in, bytes_of_files_in, covered_grow, read_at}
use Rattle.psl_base.proofs.packed.PackedFiles.grow_last.Goals as goal

pub invariant_of-self : goal.invariant_of-self
invariant_of-self c =
    let spans = c.self.inside.spans.items in
    let bytes = c.self.inside.bytes.items in
    let last = c.len-last.result - 1 in
    let span = c.index_mut.result.now in
    let count = ap (λ store. length store.files) c.self.view_is in
    let size = ap (λ store. bytes_of store.files) c.self.view_is in
    let rooms = ap (λ store. store.byte_room) c.self.view_is in
    let longer = length-append bytes c.args.more.now in
    let fits = bytes_of_files_in spans bytes c.self.invariant.covers in
    let within : last < length spans = omega (arith, c.requires.some, count, length_files_in spans bytes, c.len-last.ensures, c.self.inside.spans.ok.0) in
    record {
      covers = rw c.extend_within.ensures.items (omega (arith, c.self.invariant.covers, longer, covered_grow spans last (length c.args.more.now) span (read_at spans last span within c.index_mut.ensures.value)));
      files_fit = rw (length-set spans last (record { name = span.name; content = span.content + length c.args.more.now })) c.self.invariant.files_fit;
      bytes_fit = rw c.extend_within.ensures.items (omega (arith, longer, size, rooms, c.requires.room, fits));
      files_taken = c.self.invariant.files_taken;
      bytes_taken = omega (arith, c.self.invariant.bytes_taken, c.extend_within.ensures.room);
    }

pub returns-clause-grows : goal.returns-clause-grows
returns-clause-grows c =
    let spans = c.self.inside.spans.items in
    let bytes = c.self.inside.bytes.items in
    let last = c.len-last.result - 1 in
    let span = c.index_mut.result.now in
    let count = ap (λ store. length store.files) c.self.view_is in
    let within : last < length spans = omega (arith, c.requires.some, count, length_files_in spans bytes, c.len-last.ensures, c.self.inside.spans.ok.0) in
    let whole : length spans ≡ suc last = omega (arith, c.requires.some, count, length_files_in spans bytes, c.len-last.ensures, c.self.inside.spans.ok.0) in
    rw (← ap (λ store. store.files) c.self.view_is, c.extend_within.ensures.items)
    (files_in_grow spans bytes c.args.more.now last span c.self.invariant.covers whole (read_at spans last span within c.index_mut.ensures.value))
