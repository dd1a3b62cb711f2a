use Rattle.std.proofs.Common.{◌+◌, length, ap, arith, length-append}
use Rattle.std.proofs.lemmas.List.{length_push}
use Rattle.std.proofs.lemmas.List.Sums.{sum_by_push}
use Rattle.psl_base.specs.Files.{bytes_of}
use Rattle.psl_base.proofs.Packing.{files_in_add, length_files_in, bytes_of_files_in}
use Rattle.psl_base.proofs.packed.PackedFiles.add.Goals as goal

pub invariant_of-self : goal.invariant_of-self
invariant_of-self c =
    let spans = c.self.inside.spans.items in
    let bytes = c.self.inside.bytes.items in
    let count = ap (λ store. length store.files) c.self.view_is in
    let size = ap (λ store. bytes_of store.files) c.self.view_is in
    let rooms = ap (λ store. store.byte_room) c.self.view_is in
    let places = ap (λ store. store.file_room) c.self.view_is in
    let more = length_push spans (record { name = length c.args.name.now; content = 0 }) in
    let longer = length-append bytes c.args.name.now in
    let fits = bytes_of_files_in spans bytes c.self.invariant.covers in
    record {
      covers = rw (c.extend_within.ensures.items, c.push_within.ensures.items) (omega (arith, c.self.invariant.covers, longer, sum_by_push (λ s. s.name + s.content) spans (record { name = length c.args.name.now; content = 0 })));
      files_fit = rw c.push_within.ensures.items (omega (arith, more, count, places, c.requires.file_room, length_files_in spans bytes));
      bytes_fit = rw c.extend_within.ensures.items (omega (arith, longer, size, rooms, c.requires.byte_room, fits));
      files_taken = omega (arith, c.self.invariant.files_taken, c.push_within.ensures.room);
      bytes_taken = omega (arith, c.self.invariant.bytes_taken, c.extend_within.ensures.room);
    }

pub returns : goal.returns
returns c =
    rw (← c.self.view_is, c.extend_within.ensures.items, c.push_within.ensures.items, files_in_add c.self.inside.spans.items c.self.inside.bytes.items c.args.name.now c.self.invariant.covers)
