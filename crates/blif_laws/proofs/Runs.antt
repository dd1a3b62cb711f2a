-- The runs of the flat netlist are those of its hierarchy.
use Rattle.std.proofs.Common.{◌≡◌, ◌↔◌, ℕ, zero, suc, ◌<◌, inl, inr, Bool, false, List, [], ◌∷◌, ◌++◌, length, map, take, get_or, refl, sym, ap, ◌∙◌, subst, arith}
use Rattle.std.proofs.lemmas.List.{get_or-map, length-append, length-map, map-append, take-map}
use Rattle.blif_flattening.specs.Members.{Among}
use Rattle.blif_flattening.specs.Numbers.{signals}
use Rattle.blif_flattening.specs.Trees.{Tree, IsWhole, Same, folded}
use Rattle.blif_flattening.proofs.Unfolding.{IsFlat-folded, IsTree-unfold_of, Same-folded}
use Rattle.netlist.specs.declared.run.Run.{Run}
use Rattle.netlist.specs.Runs.{AreSized, IsRun, valuation_at, walk_of}
use Rattle.netlist.specs.Valuations.{MayBegin, IsValuation}
use Rattle.blif_model.specs.declared.line.LineKind.{LineKind}
use Rattle.blif_model.specs.declared.line.LineKind.TheVariants as kinds
use Rattle.blif_model.specs.declared.line.ModelLine.{ModelLine}
use Rattle.blif_flat.specs.Flat.{Models, flat_design, AreFormed}
use Rattle.blif_flat.specs.Lines.{mentions_of}
use Rattle.blif_flat.specs.Trees.{LineSays, IsInstanceTree, LatchBegins, TreeBegins, LatchMoves, TreeMoves, unfolded, IsUnfolded}
use Rattle.blif_flat.proofs.Unfolded.{is-unfolded, of-mentions}
use Rattle.blif_laws.specs.Runs.{HasRuns, IsTreeRun, no_tree, tree_at, trees_of, unfolded_all}

-- a walk through a stem and a loop, and what is made of each place of it
walk-map : {X Y : Type 0} (f : X → Y) (stem looped : List X) → map f stem ++ map f looped ++ take 1 (map f looped) ≡ map f (stem ++ looped ++ take 1 looped)
walk-map f stem looped =
    ap (λ rest. map f stem ++ map f looped ++ rest) (take-map f 1 looped)
    ∙ ap (λ first. first ++ map f (take 1 looped)) (sym (map-append f stem looped))
    ∙ sym (map-append f (stem ++ looped) (take 1 looped))

walk-two : {X : Type 0} (stem looped : List X) → 0 < length looped → 1 < length (stem ++ looped ++ take 1 looped)
walk-two stem [] loops = absurd (omega arith)
walk-two stem (x ∷ looped) loops =
    let one : length (take 1 (x ∷ looped)) ≡ suc (length (take 0 looped)) = refl in
    omega (arith, one, length-append (stem ++ x ∷ looped) (take 1 (x ∷ looped)), length-append stem (x ∷ looped))

-- what latches say depends on the names of their lines alone
begins-same : (kind : LineKind) (names : List ℕ) (one other : ℕ → Bool) → ((name : ℕ) → Among name names → one name ≡ other name)
    → LatchBegins kind names one → LatchBegins kind names other
begins-same kinds.Inputs names one other same says = tt
begins-same kinds.Outputs names one other same says = tt
begins-same (kinds.Latch init) [] one other same says = tt
begins-same (kinds.Latch init) (a ∷ []) one other same says = tt
begins-same (kinds.Latch init) (a ∷ b ∷ []) one other same says = subst (MayBegin init) (same b (inr (inl refl))) says
begins-same (kinds.Latch init) (a ∷ b ∷ c ∷ names) one other same says = tt
begins-same (kinds.Table rows) names one other same says = tt

moves-same : (kind : LineKind) (names : List ℕ) (one other two another : ℕ → Bool) → ((name : ℕ) → Among name names → one name ≡ other name)
    → ((name : ℕ) → Among name names → two name ≡ another name) → LatchMoves kind names one two → LatchMoves kind names other another
moves-same kinds.Inputs names one other two another first second says = tt
moves-same kinds.Outputs names one other two another first second says = tt
moves-same (kinds.Latch init) [] one other two another first second says = tt
moves-same (kinds.Latch init) (a ∷ []) one other two another first second says = tt
moves-same (kinds.Latch init) (a ∷ b ∷ []) one other two another first second says =
    sym (second b (inr (inl refl))) ∙ says ∙ first a (inl refl)
moves-same (kinds.Latch init) (a ∷ b ∷ c ∷ names) one other two another first second says = tt
moves-same (kinds.Table rows) names one other two another first second says = tt

module _ (models : Models) where
  tree-begins : (one other : Tree Bool) → Same mentions_of models one other → TreeBegins models one → TreeBegins models other
  tree-begins one other same begins path line instance there =
      begins-same line.kind line.mentions (one path) (other path) (λ name mention. same path name instance (inl (line, there, mention)))
      (begins path line instance there)

  tree-moves : (one other two another : Tree Bool) → Same mentions_of models one other → Same mentions_of models two another
      → TreeMoves models one two → TreeMoves models other another
  tree-moves one other two another first second moves path line instance there =
      moves-same line.kind line.mentions (one path) (other path) (two path) (another path)
      (λ name mention. first path name instance (inl (line, there, mention)))
      (λ name mention. second path name instance (inl (line, there, mention)))
      (moves path line instance there)

  flip : (one other : Tree Bool) → Same mentions_of models one other → Same mentions_of models other one
  flip one other same path name instance named = sym (same path name instance named)

  module _ (texts : List (List (List ℕ))) (most : ℕ) (whole : IsWhole mentions_of models) (formed : AreFormed models most) where
    unfolds : IsUnfolded models texts
    unfolds = is-unfolded models texts most whole formed

    sized : (valuation : List Bool) → length valuation ≡ (flat_design models texts).signals → length valuation ≡ length (signals mentions_of models)
    unfolding flat_design
    sized valuation is = is

    -- a run, and its unfolding
    module _ (run : Run) (sizes : AreSized (flat_design models texts) run) where
      stem : List (Tree Bool)
      stem = unfolded_all models run.stem

      looped : List (Tree Bool)
      looped = unfolded_all models run.loop_part

      steps-many : length (trees_of stem looped) ≡ length (walk_of run)
      unfolding stem looped
      steps-many =
          ap (length {A = Tree Bool}) (walk-map (unfolded models) run.stem run.loop_part) ∙ length-map (walk_of run) (unfolded models)

      tree-is : (place : ℕ) → place < length (walk_of run) → unfolded models (valuation_at run place) ≡ tree_at stem looped place
      unfolding stem looped
      tree-is place lt =
          sym (ap (λ (trees : List (Tree Bool)). get_or trees place no_tree) (walk-map (unfolded models) run.stem run.loop_part)
          ∙ get_or-map (unfolded models) (walk_of run) place [] no_tree lt)

      size-at : (place : ℕ) → place < length (walk_of run) → length (valuation_at run place) ≡ length (signals mentions_of models)
      size-at place lt = sized (valuation_at run place) (sizes place lt)

      valuation-there : IsRun (flat_design models texts) run → (place : ℕ) → place < length (walk_of run)
          → IsValuation (flat_design models texts) (valuation_at run place)
      valuation-there is zero lt = (is.steps 0 (walk-two run.stem run.loop_part is.loops)).before
      valuation-there is (suc place) lt = (is.steps place lt).after

      to-trees : IsRun (flat_design models texts) run → IsTreeRun models stem looped
      unfolding stem looped
      to-trees is = record {
        loops = (let loops = is.loops in omega (arith, loops, length-map run.loop_part (unfolded models)));
        trees = λ place lt.
            let here : place < length (walk_of run) = omega (arith, lt, steps-many) in
            subst (λ (tree : Tree Bool). IsInstanceTree models tree) (tree-is place here)
            ((unfolds.valuations (valuation_at run place) (size-at place here)).0 (valuation-there is place here));
        begins =
            let here : 0 < length (walk_of run) = (let two = walk-two run.stem run.loop_part is.loops in omega (arith, two)) in
            subst (λ (tree : Tree Bool). TreeBegins models tree) (tree-is 0 here)
            ((unfolds.initial (valuation_at run 0) (size-at 0 here)).0 is.begins).1;
        steps = λ place lt.
            let next : suc place < length (walk_of run) = omega (arith, lt, steps-many) in
            let here : place < length (walk_of run) = omega (arith, next) in
            subst (λ (tree : Tree Bool). TreeMoves models (tree_at stem looped place) tree) (tree-is (suc place) next)
            (subst (λ (tree : Tree Bool). TreeMoves models tree (unfolded models (valuation_at run (suc place)))) (tree-is place here)
            ((unfolds.step (valuation_at run place) (valuation_at run (suc place)) (size-at place here) (size-at (suc place) next)).0 (is.steps place next)).2);
      }

      from-trees : IsTreeRun models stem looped → IsRun (flat_design models texts) run
      unfolding stem looped
      from-trees is = record {
        loops = loops;
        begins =
            let here : 0 < length (walk_of run) = (let two = walk-two run.stem run.loop_part loops in omega (arith, two)) in
            (unfolds.initial (valuation_at run 0) (size-at 0 here)).1 (
              tree-there 0 here,
              subst (λ (tree : Tree Bool). TreeBegins models tree) (sym (tree-is 0 here)) is.begins,
            );
        steps = λ place next.
            let here : place < length (walk_of run) = omega (arith, next) in
            let trees : suc place < length (trees_of stem looped) = omega (arith, next, steps-many) in
            (unfolds.step (valuation_at run place) (valuation_at run (suc place)) (size-at place here) (size-at (suc place) next)).1 (
              tree-there place here,
              tree-there (suc place) next,
              subst (λ (tree : Tree Bool). TreeMoves models (unfolded models (valuation_at run place)) tree) (sym (tree-is (suc place) next))
                  (subst (λ (tree : Tree Bool). TreeMoves models tree (tree_at stem looped (suc place))) (sym (tree-is place here)) (is.steps place trees)),
            );
      }
        where
          loops : 0 < length run.loop_part
          loops = let loops = is.loops in omega (arith, loops, length-map run.loop_part (unfolded models))

          tree-there : (place : ℕ) → place < length (walk_of run) → IsInstanceTree models (unfolded models (valuation_at run place))
          tree-there place here =
              subst (λ (tree : Tree Bool). IsInstanceTree models tree) (sym (tree-is place here)) (is.trees place (omega (arith, here, steps-many)))

      pub run-kept : IsRun (flat_design models texts) run ↔ IsTreeRun models (unfolded_all models run.stem) (unfolded_all models run.loop_part)
      unfolding stem looped
      run-kept = (to-trees, from-trees)

    -- the valuation of an instance tree
    record IsFoldOf (tree : Tree Bool) (valuation : List Bool) : Type 0 where
      size : length valuation ≡ length (signals mentions_of models)
      same : Same mentions_of models (unfolded models valuation) tree
      instance_tree : IsInstanceTree models (unfolded models valuation)

    fold-of : (tree : Tree Bool) → IsInstanceTree models tree → IsFoldOf tree (folded mentions_of models tree)
    fold-of tree is =
        let flat = IsFlat-folded ModelLine mentions_of models Bool LineSays false whole of-mentions tree is in
        record {
          size = flat.size;
          same = Same-folded ModelLine mentions_of models Bool LineSays false whole tree is;
          instance_tree = IsTree-unfold_of ModelLine mentions_of models Bool LineSays false whole (folded mentions_of models tree) flat;
        }

    -- a run of the hierarchy is the unfolding of one of the netlist
    module _ (stem looped : List (Tree Bool)) (is : IsTreeRun models stem looped) where
      abbrev run : Run
      run = record { stem = map (folded mentions_of models) stem; loop_part = map (folded mentions_of models) looped }

      as-many : length (walk_of run) ≡ length (trees_of stem looped)
      as-many =
          ap (length {A = List Bool}) (walk-map (folded mentions_of models) stem looped) ∙ length-map (trees_of stem looped) (folded mentions_of models)

      fold-at : (place : ℕ) → place < length (trees_of stem looped) → IsFoldOf (tree_at stem looped place) (valuation_at run place)
      fold-at place lt =
          let here : valuation_at run place ≡ folded mentions_of models (tree_at stem looped place) =
          ap (λ (valuations : List (List Bool)). get_or valuations place []) (walk-map (folded mentions_of models) stem looped)
          ∙ get_or-map (folded mentions_of models) (trees_of stem looped) place no_tree [] lt in
          subst (λ (valuation : List Bool). IsFoldOf (tree_at stem looped place) valuation) (sym here) (fold-of (tree_at stem looped place) (is.trees place lt))

      run-is : IsRun (flat_design models texts) run
      run-is = record {
        loops = (let loops = is.loops in omega (arith, loops, length-map looped (folded mentions_of models)));
        begins =
            let here : 0 < length (trees_of stem looped) = (let two = walk-two stem looped is.loops in omega (arith, two)) in
            let of = fold-at 0 here in
            let begins = tree-begins (tree_at stem looped 0) (unfolded models (valuation_at run 0)) (flip (unfolded models (valuation_at run 0)) (tree_at stem looped 0) of.same) is.begins in
            (unfolds.initial (valuation_at run 0) of.size).1 (of.instance_tree, begins);
        steps = λ place next.
            let later : suc place < length (trees_of stem looped) = omega (arith, next, as-many) in
            let first = fold-at place (omega (arith, later)) in
            let second = fold-at (suc place) later in
            let moves = tree-moves (tree_at stem looped place) (unfolded models (valuation_at run place)) (tree_at stem looped (suc place)) (unfolded models (valuation_at run (suc place)))
            (flip (unfolded models (valuation_at run place)) (tree_at stem looped place) first.same)
            (flip (unfolded models (valuation_at run (suc place))) (tree_at stem looped (suc place)) second.same) (is.steps place later) in
            (unfolds.step (valuation_at run place) (valuation_at run (suc place)) first.size second.size).1 (first.instance_tree, second.instance_tree, moves);
      }

      pub tree-run : (found : Run) × IsRun (flat_design models texts) found × (length found.stem ≡ length stem) × (length found.loop_part ≡ length looped)
          × ((place : ℕ) → place < length (trees_of stem looped) → Same mentions_of models (unfolded models (valuation_at found place)) (tree_at stem looped place))
      tree-run = (
        run,
        run-is,
        length-map stem (folded mentions_of models),
        length-map looped (folded mentions_of models),
        λ place lt. (fold-at place lt).same,
      )

    pub has-runs : HasRuns models texts
    has-runs = record { kept = λ run sizes. run-kept run sizes; each = λ stem looped is. tree-run stem looped is }
