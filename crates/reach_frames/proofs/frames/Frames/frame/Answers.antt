use Rattle.std.proofs.Common.{◌+◌, ◌++◌, [], get_or, sym, ap, ◌∙◌, add-one, append_assoc, arith}
use Rattle.std.proofs.lemmas.List.{append-nil}
use Rattle.clauses.specs.declared.flat.TheConstants.{MOST_VARIABLES}
use Rattle.clauses.specs.Literals.{clause_within}
use Rattle.reach_frames.specs.Levels.{clauses_of}
use Rattle.reach_frames.specs.Searches.{frame_in}
use Rattle.reach_frames.proofs.LevelFrames.{frame_past, frame_tail, test_level}
use Rattle.reach_frames.proofs.frames.Frames.frame.Goals as goal

pub add_level-requires-clause-within : goal.add_level-requires-clause-within
add_level-requires-clause-within c =
    test_level (clause_within MOST_VARIABLES) c.args.self.now c.args.place c.loop-at.at c.loop-at.auto.at c.requires

pub loop-at-preserved : goal.loop-at-preserved
loop-at-preserved c =
    let levels = c.args.self.now in
    let at = c.loop-at.at in
    ap (λ clauses. clauses ++ frame_in levels (at + 1)) c.in_ok-add_level.ensures
    ∙ append_assoc c.loop-at.clauses (clauses_of (get_or levels at [])) (frame_in levels (at + 1))
    ∙ ap (λ next. c.loop-at.clauses ++ (clauses_of (get_or levels at []) ++ frame_in levels next)) (add-one at)
    ∙ ap (λ rest. c.loop-at.clauses ++ rest) (sym (frame_tail levels at))
    ∙ c.loop-at.invariant

pub returns : goal.returns
returns c =
    let past = frame_past c.args.self.now c.loop-at.at (omega (arith, c.loop-at-test.false, c.len-at-end.ensures)) in
    sym (append-nil c.loop-at.clauses) ∙ ap (λ rest. c.loop-at.clauses ++ rest) (sym past) ∙ c.loop-at.invariant
