use Rattle.std.proofs.Common.{◌≡◌, ◌+◌, ◌-◌, sym, arith}
use Rattle.std.specs.Cmp.Lexicographic.{same_text}
use Rattle.psl_base.proofs.Counting.{found_from, none_more}
use Rattle.psl_base.proofs.packed.PackedFiles.find.Goals as goal

pub returns-then-eq-clause-found : goal.returns-then-eq-clause-found
returns-then-eq-clause-found c =
    let next : c.loop-place.place ≡ c.loop-place.place - 1 + 1 = omega arith in
    found_from c.args.self.now.files (c.loop-place.place - 1) c.loop-place.place c.args.name.now c.file_at.result.0.now c.file_at.result.1.now next
    c.file_at.ensures (same_text _ _ c.if-eq.ensures) c.loop-place.invariant

pub loop-place-preserved : goal.loop-place-preserved
loop-place-preserved c =
    let next : c.loop-place.place ≡ c.loop-place.place - 1 + 1 = omega arith in
    none_more c.args.self.now.files (c.loop-place.place - 1) c.loop-place.place _ c.args.name.now next c.file_at.ensures
    (sym c.if-eq.ensures) c.loop-place.invariant
