use Rattle.std.proofs.Common.{◌≤◌, ◌≡◌, ◌+◌, length, take, arith, length-append, ◌∙◌}
use Rattle.std.proofs.lemmas.List.{length-take-le}
use Rattle.psl_base.proofs.Taking.{takes_more, takes_all, takes_past}
use Rattle.psl_base.proofs.reading.read_rest.Goals as goal

pub returns-then-count-eq0-clause-whole : goal.returns-then-count-eq0-clause-whole
returns-then-count-eq0-clause-whole g c =
    rw c.from_vec.ensures (takes_all c.loop-bytes.bytes.items c.read.new.into c.in_ok-count.count _ _ _
    c.if-count-eq0.true c.loop-bytes.invariant.taken c.in_ok-count.ensures.ok)

pub returns-then-count-limit-clause-longer : goal.returns-then-count-limit-clause-longer
returns-then-count-limit-clause-longer g c _ =
    takes_past c.loop-bytes.bytes.items c.read.new.into c.in_ok-count.count c.args.limit _ _ _
    (omega arith) c.loop-bytes.invariant.taken c.in_ok-count.ensures.ok

pub loop-bytes-preserved : goal.loop-bytes-preserved
loop-bytes-preserved g c =
    let count = c.in_ok-count.count in
    let buffer = c.read.new.into in
    let bytes = c.loop-bytes.bytes.items in
    let sized : length (take count buffer) ≡ count = length-take-le count buffer c.in_ok-count.ensures.ok.fits in
    let sum : length bytes + count ≤ c.args.limit = omega arith in
    rw c.in_ok-extend_from_slice.ensures.items record {
      taken = takes_more bytes buffer count _ _ _ c.loop-bytes.invariant.taken c.in_ok-count.ensures.ok c.read.ensures.rest;
      within = omega (arith, sized, sum, length-append bytes (take count buffer));
      still = c.in_ok-count.ensures.ok.read_faults ∙ c.loop-bytes.invariant.still;
    }
