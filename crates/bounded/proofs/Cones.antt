-- What the cone of a search has, and the frames that stand on it.
use Rattle.std.proofs.Common.{ℕ, zero, suc, ◌<◌, List, [], ◌∷◌, ◌++◌, length, map, subst, arith}
use Rattle.std.specs.Bool.{IsTrue}
use Rattle.std.specs.List.{All, flat_map}
use Rattle.std.proofs.lemmas.List.Elements.{All-append, All-cons, All-head, All-map, All-nil, All-tail}
use Rattle.alternating_theory.specs.Atoms.{AtomsOfObligations, AtomsOfPositive}
use Rattle.alternating_theory.specs.Obligations.{Automaton, Obligation, obligation_at}
use Rattle.alternating_theory.specs.Positive as positives
use Rattle.alternating_theory.specs.Positive.{Positive}
use Rattle.gates_cone.specs.Cones.{HasAll, IsLeast, with_latches}
use Rattle.gates_cone.proofs.Feeding.{fed-least}
use Rattle.gates_covers.specs.Greedy.{covers_of}
use Rattle.gates_covers.proofs.Listed.{covers-are}
use Rattle.gates_frames.proofs.Shown.{Setting}
use Rattle.gates_order.specs.Depths.{order_of}
use Rattle.gates_order.proofs.Orders.{is-order}
use Rattle.netlist.specs.Design.{Design}
use Rattle.netlist.specs.Sound as netlists
use Rattle.netlist.specs.Sound.{IsOrder, NamesBit}
use Rattle.netlist.specs.declared.latch.Latch.{Latch}
use Rattle.netlist.proofs.Driving.{latches-within}
use Rattle.psl_tree.specs.Atoms.{AtomsOfBoolean}
use Rattle.psl_tree.specs.Names.{AtomInRange}
use Rattle.psl_tree.specs.Trees as trees
use Rattle.psl_tree.specs.Trees.{Boolean}
use Rattle.psl_tree.specs.declared.atom.Atom.{Atom}
use Rattle.psl_tree.specs.declared.name.Name.{Name}
use Rattle.run_terms.specs.Automata.{IsSound, TestsSignals}
use Rattle.bounded.specs.Searches.{search_cone}
use Rattle.bounded.specs.Tested.{signals_of, signals_of_boolean, signals_of_positive}

pub split : {X : Type 0} (P : X → Type 0) (xs ys : List X) → All P (xs ++ ys) → All P xs × All P ys
split P [] ys all = (All-nil P, all)
split P (x ∷ xs) ys all =
    let rest = split P xs ys (All-tail P x (xs ++ ys) all) in
    (All-cons P x xs (All-head P x (xs ++ ys) all) rest.0, rest.1)

-- what all signals have, all atoms have
module _ (P : ℕ → Type 0) where
  boolean-atoms : (test : Boolean) → All P (signals_of_boolean test) → AtomsOfBoolean (λ atom. P atom.signal) test
  boolean-atoms (trees.Const value) all = tt
  boolean-atoms (trees.Test atom) all = All-head P atom.signal [] all
  boolean-atoms (trees.Not part) all = boolean-atoms part all
  boolean-atoms (trees.And left right) all =
      let parts = split P (signals_of_boolean left) (signals_of_boolean right) all in (boolean-atoms left parts.0, boolean-atoms right parts.1)
  boolean-atoms (trees.Or left right) all =
      let parts = split P (signals_of_boolean left) (signals_of_boolean right) all in (boolean-atoms left parts.0, boolean-atoms right parts.1)

  positive-atoms : (positive : Positive) → All P (signals_of_positive positive) → AtomsOfPositive (λ atom. P atom.signal) positive
  positive-atoms (positives.Const value) all = tt
  positive-atoms (positives.Holds test) all = boolean-atoms test all
  positive-atoms (positives.Owed number) all = tt
  positive-atoms (positives.And left right) all =
      let parts = split P (signals_of_positive left) (signals_of_positive right) all in (positive-atoms left parts.0, positive-atoms right parts.1)
  positive-atoms (positives.Or left right) all =
      let parts = split P (signals_of_positive left) (signals_of_positive right) all in (positive-atoms left parts.0, positive-atoms right parts.1)

  obligation-atoms : (obligations : List Obligation) (q : ℕ) → q < length obligations → All P (flat_map (λ obligation. signals_of_positive obligation.delta) obligations)
      → AtomsOfPositive (λ atom. P atom.signal) (obligation_at obligations q).delta
  obligation-atoms [] q low all = absurd (omega arith)
  obligation-atoms (o ∷ obligations) zero low all =
      positive-atoms o.delta (split P (signals_of_positive o.delta) (flat_map (λ obligation. signals_of_positive obligation.delta) obligations) all).0
  obligation-atoms (o ∷ obligations) (suc q) low all =
      obligation-atoms obligations q (omega arith) (split P (signals_of_positive o.delta) (flat_map (λ obligation. signals_of_positive obligation.delta) obligations) all).1

  -- and the other way round
  module _ (Q : Atom → Type 0) (gives : (atom : Atom) → Q atom → P atom.signal) where
    boolean-signals : (test : Boolean) → AtomsOfBoolean Q test → All P (signals_of_boolean test)
    boolean-signals (trees.Const value) atoms = All-nil P
    boolean-signals (trees.Test atom) atoms = All-cons P atom.signal [] (gives atom atoms) (All-nil P)
    boolean-signals (trees.Not part) atoms = boolean-signals part atoms
    boolean-signals (trees.And left right) atoms =
        All-append P (signals_of_boolean left) (signals_of_boolean right) (boolean-signals left atoms.0) (boolean-signals right atoms.1)
    boolean-signals (trees.Or left right) atoms =
        All-append P (signals_of_boolean left) (signals_of_boolean right) (boolean-signals left atoms.0) (boolean-signals right atoms.1)

    positive-signals : (positive : Positive) → AtomsOfPositive Q positive → All P (signals_of_positive positive)
    positive-signals (positives.Const value) atoms = All-nil P
    positive-signals (positives.Holds test) atoms = boolean-signals test atoms
    positive-signals (positives.Owed number) atoms = All-nil P
    positive-signals (positives.And left right) atoms =
        All-append P (signals_of_positive left) (signals_of_positive right) (positive-signals left atoms.0) (positive-signals right atoms.1)
    positive-signals (positives.Or left right) atoms =
        All-append P (signals_of_positive left) (signals_of_positive right) (positive-signals left atoms.0) (positive-signals right atoms.1)

    obligations-signals : (obligations : List Obligation) → AtomsOfObligations Q obligations → All P (flat_map (λ obligation. signals_of_positive obligation.delta) obligations)
    obligations-signals [] atoms = All-nil P
    obligations-signals (o ∷ obligations) atoms =
        All-append P (signals_of_positive o.delta) (flat_map (λ obligation. signals_of_positive obligation.delta) obligations)
        (positive-signals o.delta atoms.0) (obligations-signals obligations atoms.1)

-- what a search stands on
pub record Premises (d : Design) (a : Automaton) : Type 0 where
  pub sound : netlists.IsSound d
  pub good : IsSound a
  pub tests : TestsSignals d a
  pub some : List ℕ
  pub ordered : IsOrder d.tables some

-- the signals of atoms are those of the netlist
module _ (d : Design) (sound : netlists.IsSound d) where
  in-range : (atom : Atom) → AtomInRange d.names atom → atom.signal < d.signals
  in-range atom range =
      let found = range.named in
      let bit = sound.names found.0 found.1 found.2 in
      subst (λ k. k < d.signals) found.4 (subst (λ (name : Name). name.signal < d.signals) found.3 bit.signal)

  pub tested-within : (a : Automaton) → TestsSignals d a → All (λ signal. signal < d.signals) (signals_of a)
  tested-within a tests = obligations-signals (λ signal. signal < d.signals) (AtomInRange d.names) in-range a.obligations tests

module _ (d : Design) (a : Automaton) (on : Premises d a) where
  all-within : All (λ signal. signal < d.signals) (with_latches d (signals_of a))
  all-within =
      All-append (λ signal. signal < d.signals) (signals_of a) (map (λ latch. latch.output) d.latches)
      (tested-within d on.sound a on.tests)
      (All-map (λ signal. signal < d.signals) (λ (latch : Latch). latch.output) d.latches (latches-within d on.sound))

  pub cone-least : IsLeast d (with_latches d (signals_of a)) (search_cone d a)
  cone-least = fed-least d (with_latches d (signals_of a)) on.sound all-within

  has-parts : HasAll (search_cone d a) (signals_of a) × HasAll (search_cone d a) (map (λ latch. latch.output) d.latches)
  has-parts = split (λ signal. IsTrue (search_cone d a signal)) (signals_of a) (map (λ latch. latch.output) d.latches) cone-least.has

  -- the cone has all atoms, and all latches
  pub has-atoms : (q : ℕ) → q < length a.obligations → AtomsOfPositive (λ atom. IsTrue (search_cone d a atom.signal)) (obligation_at a.obligations q).delta
  has-atoms q low = obligation-atoms (λ signal. IsTrue (search_cone d a signal)) a.obligations q low has-parts.0

  pub has-latches : HasAll (search_cone d a) (map (λ latch. latch.output) d.latches)
  has-latches = has-parts.1

  pub in-order : IsOrder d.tables (order_of d.tables)
  in-order = is-order d on.sound on.some on.ordered

  pub setting : Setting (covers_of d.tables) d (order_of d.tables) (search_cone d a)
  setting = record { sound = on.sound; ordered = in-order; closed = cone-least.closed; covered = covers-are d.tables }
