use Rattle.std.proofs.Common.{suc, ◌||◌, ℤ, Bool, List, sym, ap, ◌∙◌, add-one, arith}
use Rattle.std.specs.List.{list_any}
use Rattle.std.proofs.lemmas.Bool.{or_left}
use Rattle.reach_frames.specs.Marks.{has_part, is_part}
use Rattle.reach_frames.specs.Searches.{frame_in}
use Rattle.reach_frames.proofs.LevelFrames.{frame_past, part_tail}
use Rattle.reach_frames.proofs.frames.Frames.has_part.Goals as goal

pub returns-then-level_has_part : goal.returns-then-level_has_part
returns-then-level_has_part c =
    let levels = c.args.self.now in
    let at = c.loop-at.at in
    let test : List ℤ → Bool = λ other. is_part other c.args.clause.now in
    let here = sym c.level_has_part.ensures ∙ c.if-level_has_part.true in
    sym (sym c.loop-at.invariant ∙ part_tail test levels at ∙ or_left _ _ here)

pub loop-at-preserved : goal.loop-at-preserved
loop-at-preserved c =
    let levels = c.args.self.now in
    let at = c.loop-at.at in
    let clause = c.args.clause.now in
    let test : List ℤ → Bool = λ other. is_part other clause in
    let none = sym c.level_has_part.ensures ∙ c.if-level_has_part.false in
    let rest = list_any test (frame_in levels (suc at)) in
    ap (λ next. has_part (frame_in levels next) clause) (add-one at)
    ∙ ap (λ b. b || rest) (sym none)
    ∙ sym (part_tail test levels at)
    ∙ c.loop-at.invariant

pub returns : goal.returns
returns c =
    let past = frame_past c.args.self.now c.loop-at.at (omega (arith, c.loop-at-test.false, c.len-at-end.ensures)) in
    ap (λ clauses. has_part clauses c.args.clause.now) (sym past) ∙ c.loop-at.invariant
