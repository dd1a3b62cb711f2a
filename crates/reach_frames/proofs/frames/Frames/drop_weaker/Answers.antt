use Rattle.std.proofs.Common.{◌<◌, length, map, take, drop, ap, ◌∙◌, arith, length-append}
use Rattle.std.proofs.lemmas.List.{length-drop, length-map, length-take}
use Rattle.reach_frames.specs.Marks.{without_weaker}
use Rattle.reach_frames.proofs.Sifting.{sifted_more}
use Rattle.reach_frames.proofs.frames.Frames.drop_weaker.Goals as goal

pub drop_weaker_at-requires : goal.drop_weaker_at-requires
drop_weaker_at-requires c =
    let old = c.args.self.now in
    let at = c.loop-at.at in
    let clause = c.args.clause.now in
    omega (
      arith,
      c.loop-at-test.true,
      c.len-at-end.ensures,
      ap length c.loop-at.invariant.is,
      length-append (map (without_weaker clause) (take at old)) (drop at old),
      length-map (take at old) (without_weaker clause),
      length-take at old,
      length-drop at old,
    )

pub loop-at-preserved : goal.loop-at-preserved
loop-at-preserved c =
    let within : c.loop-at.at < length c.args.self.now = omega (arith, c.loop-at-test.true, c.len-at-end.ensures) in
    record {
      within = omega (arith, c.if-at-level.false);
      is = c.drop_weaker_at.ensures ∙ sifted_more c.args.clause.now c.args.self.now c.loop-at.self c.loop-at.at within c.loop-at.invariant.is;
    }
