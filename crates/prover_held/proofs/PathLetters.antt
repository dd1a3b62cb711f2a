-- Atoms and Booleans at the places of a path.
use Rattle.std.proofs.Common.{subst, ◌≡◌, ℕ, zero, suc, ◌-◌, ◌<◌, Bool, not, ◌&&◌, List, [], length, refl, sym, ap, ◌∙◌, arith}
use Rattle.std.specs.Prelude.{nat_lt}
use Rattle.std.proofs.lemmas.Bool.{lt-ltb}
use Rattle.netlist.specs.Design.{Design}
use Rattle.netlist.specs.Sound.{IsSound}
use Rattle.netlist.specs.Valuations.{bit}
use Rattle.psl_tree.specs.Holds.{holds}
use Rattle.psl_tree.specs.Letters.{atom_at, edge_at}
use Rattle.psl_tree.specs.Names.{AtomInRange}
use Rattle.psl_tree.specs.Trees as trees
use Rattle.psl_tree.specs.declared.atom.Atom.{Atom}
use Rattle.psl_tree.specs.declared.atom.Edge.{Edge}
use Rattle.psl_tree.specs.declared.atom.Edge.TheVariants.{Value, Rise, Fall}
use Rattle.run_terms.specs.Letters.{bits_after, sample_after}
use Rattle.run_terms.proofs.Asked.{among-passed}
use Rattle.run_terms.proofs.BooleanValues.{signal-below}
use Rattle.gates_frames.specs.Paths.{valuation_of}
use Rattle.prover_held.specs.Judged.{atom_in, HaveSignals}
use Rattle.prover_held.specs.Lasting.{before_in, letter_in}

module _ (path : List (List Bool)) where
  abbrev at : ℕ → ℕ → Bool
  at place signal = bit (valuation_of path place) signal

  abbrev edge_in : Edge → ℕ → ℕ → ℕ → Bool
  edge_in edge place signal index = edge_at edge (bits_after (before_in path place) (valuation_of path place)) (sample_after (before_in path place)) signal index

  pub value-in : (place signal index : ℕ) → edge_in Value place signal index ≡ at place signal
  value-in zero signal index = refl
  value-in (suc place) signal index = refl

  back : (place : ℕ) → suc place - 1 ≡ place
  back place = omega arith

  pub rise-in : (place signal index : ℕ) → edge_in Rise place signal index ≡ (nat_lt 0 place && (not (at (place - 1) signal) && at place signal))
  rise-in zero signal index = refl
  rise-in (suc place) signal index =
      sym (ap (λ b. b && (not (at (suc place - 1) signal) && at (suc place) signal)) (lt-ltb 0 (suc place) (omega arith))
      ∙ ap (λ p. not (at p signal) && at (suc place) signal) (back place))

  pub fall-in : (place signal index : ℕ) → edge_in Fall place signal index ≡ (nat_lt 0 place && (at (place - 1) signal && not (at place signal)))
  fall-in zero signal index = refl
  fall-in (suc place) signal index =
      sym (ap (λ b. b && (at (suc place - 1) signal && not (at (suc place) signal))) (lt-ltb 0 (suc place) (omega arith))
      ∙ ap (λ p. at p signal && not (at (suc place) signal)) (back place))

-- an atom in range is of a signal that each valuation has
pub atom-within : (d : Design) (path : List (List Bool)) (atom : Atom) → IsSound d → HaveSignals d path → AtomInRange d.names atom
    → (place : ℕ) → place < length path → atom.signal < length (valuation_of path place)
atom-within d path atom sound is named place low =
    subst (λ n. atom.signal < n) (sym (is place [] low)) (signal-below d.signals d.names atom sound.names named)

pub test-in : (d : Design) (path : List (List Bool)) (place : ℕ) (atom : Atom) → AtomInRange d.names atom
    → holds (letter_in d path place) (trees.Test atom) ≡ atom_in path place atom
test-in d path place atom named = among-passed (atom_at (bits_after (before_in path place) (valuation_of path place)) (sample_after (before_in path place))) d.names atom named
