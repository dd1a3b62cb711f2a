-- What reading piece by piece knows of the selected name's content.
use Rattle.std.proofs.Common.{◌≡◌, ℕ, ◌+◌, ◌<◌, ◌≤◌, List, ◌++◌, length, take, drop, sym, ap, ◌∙◌, arith, length-append}
use Rattle.std.proofs.Math.Seq.{take-add}
use Rattle.std.proofs.lemmas.List.{take_all, length-take-le}
use Rattle.psl_base.specs.Shelf.{ShelfState, OfSelected, OnlyReads, Reads, Takes}

-- a fact of the selected content holds before reads where it holds after them
at_start : (fact : List ℕ → Type 0) (bytes : List ℕ) (old now : ShelfState) → Takes bytes old now → OfSelected now fact → OfSelected old fact
at_start fact bytes old now taken holds contents name content told selected found =
    holds contents name content (taken.only_reads.told ∙ told) (taken.selected ∙ selected) found

-- the front of a list and the piece behind it
next_piece : (bytes more content : List ℕ) (count place : ℕ) → place ≡ length bytes → length more ≡ count → take (length bytes) content ≡ bytes → take count (drop place content) ≡ more → take (length (bytes ++ more)) content ≡ bytes ++ more
next_piece bytes more content count place at_end sized front back =
    let sum : length (bytes ++ more) ≡ length bytes + count = omega (arith, length-append bytes more) in
    ap (λ n. take n content) sum ∙ take-add (length bytes) count content
    ∙ ap (λ xs. xs ++ take count (drop (length bytes) content)) front
    ∙ ap (λ n. bytes ++ take count (drop n content)) (sym at_end) ∙ ap (λ xs. bytes ++ xs) back

-- one more piece was taken
pub takes_more : (bytes buffer : List ℕ) (count : ℕ) (old now new : ShelfState) → Takes bytes old now → Reads count buffer now new → OnlyReads now new → Takes (bytes ++ take count buffer) old new
takes_more bytes buffer count old now new taken read only_reads =
    let fits : count ≤ length buffer = read.fits in
    let sized : length (take count buffer) ≡ count = length-take-le count buffer fits in
    let more = at_start (λ content. take count (drop now.cursor content) ≡ take count buffer) bytes old now taken read.bytes in
    record {
      front = λ contents name content told selected found.
          next_piece bytes (take count buffer) content count now.cursor taken.cursor sized
          (taken.front contents name content told selected found) (more contents name content told selected found);
      cursor = omega (arith, sized, length-append bytes (take count buffer), read.cursor, taken.cursor);
      selected = read.selected ∙ taken.selected;
      only_reads = record {
        told = only_reads.told ∙ taken.only_reads.told;
        created = only_reads.created ∙ taken.only_reads.created;
        write_faults = only_reads.write_faults ∙ taken.only_reads.write_faults;
        read_faults = omega (arith, only_reads.read_faults, taken.only_reads.read_faults);
      };
    }

-- nothing is left: the bytes are the whole content
pub takes_all : (bytes buffer : List ℕ) (count : ℕ) (old now new : ShelfState) → count ≡ 0 → Takes bytes old now → Reads count buffer now new → OfSelected old (λ content. content ≡ bytes)
takes_all bytes buffer count old now new none taken read contents name content told selected found =
    let short = at_start (λ xs. length xs ≤ now.cursor) bytes old now taken (read.end none) contents name content told selected found in
    let whole : length content ≤ length bytes = omega (arith, short, taken.cursor) in
    sym (take_all (length bytes) content whole) ∙ taken.front contents name content told selected found

-- the content goes on past the limit
pub takes_past : (bytes buffer : List ℕ) (count limit : ℕ) (old now new : ShelfState) → limit < length bytes + count → Takes bytes old now → Reads count buffer now new → OfSelected old (λ content. limit < length content)
takes_past bytes buffer count limit old now new past taken read contents name content told selected found =
    let within = at_start (λ xs. new.cursor ≤ length xs) bytes old now taken read.within contents name content told selected found in
    omega (arith, within, read.cursor, taken.cursor)
