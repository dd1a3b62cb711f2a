use Rattle.std.proofs.Common.{ℕ, ◌≤◌, List, ◌++◌, length, drop, arith, length-append}
use Rattle.std.proofs.lemmas.List.{take-append-le}
use Rattle.std.proofs.lemmas.Result.{IfOk-weaker}
use Rattle.psl_base.specs.MemShelfState.{shelf_state}
use Rattle.psl_base.specs.Shelf.{ShelfState, Reads}
use Rattle.cases.proofs.pieces.PiecesShelf.read.Goals as goal

wider : (count : ℕ) (front rest : List ℕ) (old new : ShelfState) → Reads count front old new → Reads count (front ++ rest) old new
wider count front rest old new reads =
    let fits : count ≤ length front = reads.fits in
    record {
      fits = omega (arith, fits, length-append front rest);
      bytes = λ contents name content told selected here. rw take-append-le (reads.bytes contents name content told selected here);
      within = reads.within;
      end = reads.end;
      cursor = reads.cursor;
      selected = reads.selected;
      read_faults = reads.read_faults;
    }

pub returns-clause-ok : goal.returns-clause-ok
returns-clause-ok c =
    IfOk-weaker c.read.result (λ count. Reads count c.read.new.into (shelf_state c.args.self.now.shelf) (shelf_state c.read.new.self)) _
    (λ count reads. wider count c.read.new.into (drop c.if-self-into.most c.args.into.now) _ _ reads) c.read.ensures.ok
