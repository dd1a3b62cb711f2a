use Rattle.std.proofs.Common.{rules, ◌+◌, ◌-◌, ◌/◌, ℕ, List, map, length, refl, subst, ap, sym, ◌∙◌, arith, length-set, Bor}
use Rattle.blif_hierarchy.proofs.Halving.{Halves, halves-begin, halves-first, halves-second, halves-earlier, list-read, list-written, model-within}
use Rattle.blif_hierarchy.proofs.recursion.first_back.Goals as goal

pub loop-low-init : goal.loop-low-init
loop-low-init c =
    let within = model-within c.args.lists.now.items c.args.drivers.now c.args.model c.requires.first in
    let first : List (List ℕ) = map (λ (list : Bor (List ℕ)). list.now) c.args.lists.now.items in
    let all = list-read c.args.lists.now.items c.args.model c.index-all.result.now within.0 (search rules) in
    record {
      size = refl;
      halves = subst (λ n. Halves first first c.args.drivers.now c.args.model 0 n) (sym (ap (λ (xs : List ℕ). length xs) all))
          (halves-begin first c.args.drivers.now c.args.model within.1 c.requires.first.itself);
    }

pub comes_back-requires-clause-first : goal.comes_back-requires-clause-first
comes_back-requires-clause-first c =
    let within = model-within c.args.lists.now.items c.args.drivers.now c.args.model c.requires.first in
    let middle : ℕ = c.loop-low.low + (c.loop-low.high - c.loop-low.low) / 2 in
    let all = list-read c.args.lists.now.items c.args.model c.index-all.result.now within.0 (search rules) in
    halves-earlier (map (λ (list : Bor (List ℕ)). list.now) c.args.lists.now.items) c.args.drivers.now c.args.model within.1
    (map (λ (list : Bor (List ℕ)). list.now) c.loop-low.lists.items) _ c.loop-low.low c.loop-low.high middle c.loop-low.invariant.halves
    (rw c.deref.ensures.value (list-written c.loop-low.lists.items c.args.model middle _ c.index-all.result.now.now _ refl all))
    c.requires.first.first

pub loop-low-preserved-then-branch : goal.loop-low-preserved-then-branch
loop-low-preserved-then-branch c =
    let within = model-within c.args.lists.now.items c.args.drivers.now c.args.model c.requires.first in
    let middle : ℕ = c.loop-low.low + (c.loop-low.high - c.loop-low.low) / 2 in
    let all = list-read c.args.lists.now.items c.args.model c.index-all.result.now within.0 (search rules) in
    record {
      size = length-set _ _ _ ∙ c.loop-low.invariant.size;
      halves = halves-first (map (λ (list : Bor (List ℕ)). list.now) c.args.lists.now.items) c.args.drivers.now c.args.model within.1
          (map (λ (list : Bor (List ℕ)). list.now) c.loop-low.lists.items) _ c.loop-low.low c.loop-low.high middle c.loop-low.invariant.halves
          (list-written c.loop-low.lists.items c.args.model middle _ c.index-all.result.now.now _ refl all)
          (omega (arith, c.loop-low-test.true)) (omega (arith, c.loop-low-test.true)) (search rules);
    }

pub loop-low-preserved : goal.loop-low-preserved
loop-low-preserved c =
    let within = model-within c.args.lists.now.items c.args.drivers.now c.args.model c.requires.first in
    let middle : ℕ = c.loop-low.low + (c.loop-low.high - c.loop-low.low) / 2 in
    let all = list-read c.args.lists.now.items c.args.model c.index-all.result.now within.0 (search rules) in
    record {
      size = length-set _ _ _ ∙ c.loop-low.invariant.size;
      halves = halves-second (map (λ (list : Bor (List ℕ)). list.now) c.args.lists.now.items) c.args.drivers.now c.args.model within.1
          (map (λ (list : Bor (List ℕ)). list.now) c.loop-low.lists.items) _ c.loop-low.low c.loop-low.high middle c.loop-low.invariant.halves
          (list-written c.loop-low.lists.items c.args.model middle _ c.index-all.result.now.now _ refl all)
          (omega (arith, c.loop-low-test.true)) (omega (arith, c.loop-low-test.true)) (search rules);
    }
