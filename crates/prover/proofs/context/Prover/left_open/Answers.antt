use Rattle.std.proofs.Common.{◌≡◌, ◌∙◌, subst, sym, ℕ, suc, ◌+◌, ◌-◌, arith}
use Rattle.prover.proofs.Evidence.{none-fewer}
use Rattle.prover.proofs.Kept.{kept-stays, reaches-on, undecided}
use Rattle.prover.proofs.Opened.{first-look, none-below-one, sought}
use Rattle.prover.proofs.context.Prover.left_open.Goals as goal
use Rattle.prover.proofs.context.Prover.left_open.Goals.{else-loop-window-test, then-loop-window-test+in_ok-held-2+in_ok-paths-2+in_ok-reaching-2+else-window-window-end, then-searched-window+in_ok-searched-2, else-searched-window}
use Rattle.prover.specs.Glances.{IsSearchedTo}
use Rattle.prover.specs.Kept.{AreKeptFor}
use Rattle.prover.specs.Reaching.{IsReaching}
use Rattle.prover.specs.declared.reaching.Reaching.{Reaching}
use Rattle.prover.specs.declared.searching.Searched.{Searched}

pub search_at-requires-clause-sought : goal.search_at-requires-clause-sought
search_at-requires-clause-sought g c = sought c.args.self.task.netlist.now c.args.self.task.unit.now c.args.self.task.directive.now c.args.self.task.options
    1 (omega arith) c.requires.ready.provable.depth
    (none-below-one c.args.self.task.netlist.now c.args.self.task.unit.now c.args.self.task.directive.now)
    (λ more. absurd (omega (arith, more)))

pub open_first-requires-clause-looked_at : goal.open_first-requires-clause-looked_at
open_first-requires-clause-looked_at g c = first-look c.args.self.task.netlist.now c.args.self.task.unit.now c.args.self.task.directive.now c.args.self.task.options
    1 (sought c.args.self.task.netlist.now c.args.self.task.unit.now c.args.self.task.directive.now c.args.self.task.options
    1 (omega arith) c.requires.ready.provable.depth
    (none-below-one c.args.self.task.netlist.now c.args.self.task.unit.now c.args.self.task.directive.now)
    (λ more. absurd (omega (arith, more))))
    (none-fewer c.args.self.task.netlist.now c.args.self.task.unit.now c.args.self.task.directive.now
    (suc c.in_ok-searched.searched.none_within) 2 (omega (arith, c.in_ok-searched.ensures.searched.reaches))
    c.in_ok-searched.ensures.searched.none)

pub search_at-requires-then-searched-window-clause-sought : goal.search_at-requires-then-searched-window-clause-sought
search_at-requires-then-searched-window-clause-sought g c = sought c.args.self.task.netlist.now c.args.self.task.unit.now c.args.self.task.directive.now
    c.args.self.task.options c.loop-window.window (omega (arith, c.loop-window.invariant.some)) c.loop-window-test.true
    (none-fewer c.args.self.task.netlist.now c.args.self.task.unit.now c.args.self.task.directive.now
    (suc c.loop-window.searched.none_within) c.loop-window.window (omega (arith, c.loop-window.invariant.searched.reaches))
    c.loop-window.invariant.searched.none)
    (λ more. kept-stays c.args.self.task (suc c.args.self.task.options.visits) (c.loop-window.window - 1) c.loop-window.paths
    c.loop-window.invariant.paths)

pub hold_ahead-requires-in-loop-window-clause-searched : goal.hold_ahead-requires-in-loop-window-clause-searched
hold_ahead-requires-in-loop-window-clause-searched g c =
    let to : IsSearchedTo c.args.self.task c.loop-window.window c.if-searched-window.searched = elim c.if-searched-window.branch [
      | then-searched-window+in_ok-searched-2 w ↦ subst (λ (s : Searched). IsSearchedTo c.args.self.task c.loop-window.window s)
          (sym w.searched-is) w.in_ok-searched-2.ensures.searched
      | else-searched-window w ↦ reaches-on c.args.self.task c.loop-window.window c.loop-window.searched c.if-searched-window.searched
          w.if-searched-window.false c.loop-window.invariant.searched w.searched-is
    ] in
    to.none

pub keep_on-requires-clause-looked_at : goal.keep_on-requires-clause-looked_at
keep_on-requires-clause-looked_at g c =
    let to : IsSearchedTo c.args.self.task c.loop-window.window c.if-searched-window.searched = elim c.if-searched-window.branch [
      | then-searched-window+in_ok-searched-2 w ↦ subst (λ (s : Searched). IsSearchedTo c.args.self.task c.loop-window.window s)
          (sym w.searched-is) w.in_ok-searched-2.ensures.searched
      | else-searched-window w ↦ reaches-on c.args.self.task c.loop-window.window c.loop-window.searched c.if-searched-window.searched
          w.if-searched-window.false c.loop-window.invariant.searched w.searched-is
    ] in
    first-look c.args.self.task.netlist.now c.args.self.task.unit.now c.args.self.task.directive.now c.args.self.task.options
    c.loop-window.window
    (sought c.args.self.task.netlist.now c.args.self.task.unit.now c.args.self.task.directive.now
    c.args.self.task.options c.loop-window.window (omega (arith, c.loop-window.invariant.some)) c.loop-window-test.true
    (none-fewer c.args.self.task.netlist.now c.args.self.task.unit.now c.args.self.task.directive.now
    (suc c.loop-window.searched.none_within) c.loop-window.window (omega (arith, c.loop-window.invariant.searched.reaches))
    c.loop-window.invariant.searched.none)
    (λ more. kept-stays c.args.self.task (suc c.args.self.task.options.visits) (c.loop-window.window - 1) c.loop-window.paths
    c.loop-window.invariant.paths))
    (none-fewer c.args.self.task.netlist.now c.args.self.task.unit.now c.args.self.task.directive.now
    (suc c.if-searched-window.searched.none_within) (suc c.loop-window.window) (omega (arith, to.reaches)) to.none)

pub joints-requires-clause-open : goal.joints-requires-clause-open
joints-requires-clause-open g c = kept-stays c.args.self.task (suc c.args.self.task.options.visits) 1 c.in_ok-paths.paths c.in_ok-paths.ensures.paths

pub loop-window-preserved : goal.loop-window-preserved
loop-window-preserved g c =
    let to : IsSearchedTo c.args.self.task c.loop-window.window c.if-searched-window.searched = elim c.if-searched-window.branch [
      | then-searched-window+in_ok-searched-2 w ↦ subst (λ (s : Searched). IsSearchedTo c.args.self.task c.loop-window.window s)
          (sym w.searched-is) w.in_ok-searched-2.ensures.searched
      | else-searched-window w ↦ reaches-on c.args.self.task c.loop-window.window c.loop-window.searched c.if-searched-window.searched
          w.if-searched-window.false c.loop-window.invariant.searched w.searched-is
    ] in
    let before : c.loop-window.window ≡ c.loop-window.window + 1 - 1 = omega arith in
    record {
      some = omega (arith, c.loop-window.invariant.some);
      end = omega (arith, c.loop-window-test.true);
      searched = subst (λ (n : ℕ). IsSearchedTo c.args.self.task n c.if-searched-window.searched) before to;
      paths = subst (λ (n : ℕ). AreKeptFor c.args.self.task (suc c.args.self.task.options.visits) n c.in_ok-paths-2.paths) before
          c.in_ok-paths-2.ensures.paths;
      reaching = c.in_ok-reaching-2.ensures.reaching;
      prefixes = c.in_ok-held-2.ensures.netlist ∙ c.loop-window.invariant.prefixes;
      opens = c.in_ok-paths-2.ensures.netlist ∙ c.loop-window.invariant.opens;
      told = c.in_ok-reaching-2.ensures.told;
    }

pub reach_out-requires-clause-known : goal.reach_out-requires-clause-known
reach_out-requires-clause-known g c = elim c.loop-window-test.branch [
  | else-loop-window-test w ↦ subst (λ (r : Reaching). IsReaching c.args.self.task r) (sym w.reaching-is) c.loop-window.invariant.reaching
  | then-loop-window-test+in_ok-held-2+in_ok-paths-2+in_ok-reaching-2+else-window-window-end w ↦
      subst (λ (r : Reaching). IsReaching c.args.self.task r) (sym w.reaching-is) w.in_ok-reaching-2.ensures.reaching
]

pub undecided-requires-clause-paths : goal.undecided-requires-clause-paths
undecided-requires-clause-paths g c = elim c.loop-window-test.branch [
  | else-loop-window-test w ↦ undecided c.args.self.task (c.loop-window.window - 1) c.loop-window.searched c.loop-window.paths
      c.loop-window-test.paths (omega (arith, c.loop-window.invariant.some, c.loop-window.invariant.end, w.loop-window-test.false))
      c.loop-window.invariant.searched c.loop-window.invariant.paths w.paths-is
  | then-loop-window-test+in_ok-held-2+in_ok-paths-2+in_ok-reaching-2+else-window-window-end w ↦ elim w.if-searched-window.branch [
    | then-searched-window+in_ok-searched-2 v ↦ undecided c.args.self.task c.loop-window.window v.in_ok-searched-2.searched
        w.in_ok-paths-2.paths c.loop-window-test.paths (omega arith) v.in_ok-searched-2.ensures.searched w.in_ok-paths-2.ensures.paths w.paths-is
    | else-searched-window v ↦ undecided c.args.self.task c.loop-window.window w.if-searched-window.searched
        w.in_ok-paths-2.paths c.loop-window-test.paths (omega arith)
        (reaches-on c.args.self.task c.loop-window.window c.loop-window.searched w.if-searched-window.searched
        v.if-searched-window.false c.loop-window.invariant.searched v.searched-is)
        w.in_ok-paths-2.ensures.paths w.paths-is
  ]
]

pub hold_ahead-requires-in-loop-window-clause-told : goal.hold_ahead-requires-in-loop-window-clause-told
hold_ahead-requires-in-loop-window-clause-told g c = elim c.if-searched-window.branch [
  | then-searched-window+in_ok-searched-2 w ↦ rw w.err-is w.in_ok-searched-2.ensures.told
  | else-searched-window w ↦ rw w.err-is c.loop-window.invariant.told
]

pub reach_out-requires-clause-told : goal.reach_out-requires-clause-told
reach_out-requires-clause-told g c = elim c.loop-window-test.branch [
  | else-loop-window-test w ↦ rw w.err-is c.loop-window.invariant.told
  | then-loop-window-test+in_ok-held-2+in_ok-paths-2+in_ok-reaching-2+else-window-window-end w ↦ rw w.err-is w.in_ok-reaching-2.ensures.told
]
