use Rattle.std.proofs.Common.{◌≡◌, ◌<◌, ◌≤◌, ℕ, Bool, true, false, List, [], ◌∷◌, subst, sym, refl, ◌∙◌, length, arith}
use Rattle.std.proofs.lemmas.Bool.{true≢false}
use Rattle.reach_frames.specs.declared.level.KeptClause.{KeptClause}
use Rattle.reach.specs.Progress.{IsProgress}
use Rattle.reach.proofs.More.{more-fewer, more-good}
use Rattle.reach.proofs.stepping.strengthen.Goals.{then-wants_frame+in_ok-open, else-wants_frame}
use Rattle.reach.proofs.stepping.strengthen.Goals as goal

-- where none is to be added, there is one
some-frames : (levels : List (List KeptClause)) (wants : Bool) (wanted : ℕ) → 1 ≤ wanted → (levels ≡ [] → 1 ≤ wanted → wants ≡ true) → wants ≡ false
    → 0 < length levels
some-frames [] wants wanted some first none = absurd (true≢false (sym (first refl some) ∙ none))
some-frames (level ∷ levels) wants wanted some first none = omega arith

pub loop-reached-init : goal.loop-reached-init
loop-reached-init c = elim c.if-wants_frame.branch [
  | then-wants_frame+in_ok-open w ↦
      let both = more-good c.args.machine.now.joint.now c.args.pace.most c.args.sought.now.frames w.open.new.self c.requires.good
      (omega (arith, c.wants_frame.ensures.few w.if-wants_frame.true, c.requires.few)) w.in_ok-open.ensures.ok in
      rw w.sought-is (record { good = both.0; some = both.1; more = c.requires.more; few = c.requires.fewer; held = c.requires.held })
  | else-wants_frame w ↦
      rw w.sought-is (record {
        good = c.requires.good;
        some = some-frames c.args.sought.now.frames c.wants_frame.result c.args.wanted c.requires.some c.wants_frame.ensures.first w.if-wants_frame.false;
        more = c.requires.more;
        few = c.requires.fewer;
        held = c.requires.held;
      })
]

pub loop-reached-smaller : goal.loop-reached-smaller
loop-reached-smaller c =
    let cleared : length c.step.new.sought.frames < c.args.pace.most =
    subst (IsProgress c.args.machine.now.joint.now c.args.machine.now.steps c.args.pace.most c.args.pace.budget c.step.new.sought.frames)
    c.in-Cleared.is c.in_ok-reached.ensures.progress in
    more-fewer c.args.pace.most c.loop-reached.sought.frames c.step.new.sought.frames c.open-in-loop-reached.new.self
    c.in_ok-reached.ensures.many cleared c.in_ok-open-2.ensures.ok

pub loop-reached-preserved : goal.loop-reached-preserved
loop-reached-preserved c =
    let cleared : length c.step.new.sought.frames < c.args.pace.most =
    subst (IsProgress c.args.machine.now.joint.now c.args.machine.now.steps c.args.pace.most c.args.pace.budget c.step.new.sought.frames)
    c.in-Cleared.is c.in_ok-reached.ensures.progress in
    let both = more-good c.args.machine.now.joint.now c.args.pace.most c.step.new.sought.frames c.open-in-loop-reached.new.self
    c.in_ok-reached.ensures.good cleared c.in_ok-open-2.ensures.ok in
    record {
      good = both.0;
      some = both.1;
      more = c.in_ok-reached.ensures.more;
      few = c.in_ok-reached.ensures.fewer;
      held = c.in_ok-reached.ensures.held;
    }
