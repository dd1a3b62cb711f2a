-- Atoms and Booleans as terms over the bits of a position.
use Rattle.std.specs.Prelude.{ℕ, pos, Bool as Truth, true, false}
use Rattle.psl_tree.specs.Trees as trees
use Rattle.psl_tree.specs.Trees.{Boolean}
use Rattle.psl_tree.specs.declared.atom.Atom.{Atom}
use Rattle.psl_tree.specs.declared.atom.Edge.{Edge}
use Rattle.psl_tree.specs.declared.atom.Edge.TheVariants.{Value, Rise, Fall}
use Rattle.gates_theory.specs.Terms.{Term, Literal, Negation, Conjunction}
use Rattle.run_terms.specs.Positions.{had, earlier, current}

-- one of two terms
abbrev pub either : Term → Term → Term
either first second = Negation (Conjunction (Negation first) (Negation second))

-- a constant: a bit and its negation are not both true
abbrev pub contradiction : Term
contradiction = Conjunction (Literal (pos 1)) (Negation (Literal (pos 1)))

abbrev pub constant : Truth → Term
constant false = contradiction
constant true = Negation contradiction

-- a term or its negation
abbrev pub signed : Truth → Term → Term
signed true term = term
signed false term = Negation term

-- a bit is 1; or it was 0 and is 1, or was 1 and is 0, which no bit did where there is no valuation before
abbrev pub edge_term : ℕ → ℕ → Edge → ℕ → Term
edge_term signals base Value signal = Literal (current signals base signal)
edge_term signals base Rise signal =
    Conjunction (Literal (had base))
    (Conjunction (Negation (Literal (earlier base signal))) (Literal (current signals base signal)))
edge_term signals base Fall signal =
    Conjunction (Literal (had base))
    (Conjunction (Literal (earlier base signal)) (Negation (Literal (current signals base signal))))

abbrev pub atom_term : ℕ → ℕ → Atom → Term
atom_term signals base atom = edge_term signals base atom.edge atom.signal

-- a Boolean on the letter of the position
abbrev pub boolean_term : ℕ → ℕ → Boolean → Term
boolean_term signals base (trees.Const value) = constant value
boolean_term signals base (trees.Test atom) = atom_term signals base atom
boolean_term signals base (trees.Not part) = Negation (boolean_term signals base part)
boolean_term signals base (trees.And left right) =
    Conjunction (boolean_term signals base left) (boolean_term signals base right)
boolean_term signals base (trees.Or left right) =
    either (boolean_term signals base left) (boolean_term signals base right)
