-- Booleans as terms: their values, literals and sizes.
use Rattle.std.proofs.Common.{◌≡◌, ℕ, ◌+◌, ◌*◌, ◌<◌, ◌≤◌, Bool, true, false, not, ◌&&◌, List, Option, Some, None, get_or, refl, sym, ap, ◌∙◌, arith}
use Rattle.std.specs.Prelude.{All}
use Rattle.std.specs.Bool.{IsTrue}
use Rattle.std.proofs.lemmas.Bool.{and_from}
use Rattle.clauses.specs.Literals.{is_within}
use Rattle.clauses.specs.Models.{Assignment}
use Rattle.gates_theory.specs.Terms.{value, term_within, term_size}
use Rattle.psl_tree.specs.Atoms.{AtomsOfBoolean}
use Rattle.psl_tree.specs.Counts.{boolean_size}
use Rattle.psl_tree.specs.Holds.{holds}
use Rattle.psl_tree.specs.Letters.{atom_at, edge_at}
use Rattle.psl_tree.specs.Names.{AtomInRange}
use Rattle.psl_tree.specs.Trees as trees
use Rattle.psl_tree.specs.Trees.{Boolean}
use Rattle.psl_tree.specs.declared.atom.Atom.{Atom}
use Rattle.psl_tree.specs.declared.atom.Edge.{Edge}
use Rattle.psl_tree.specs.declared.atom.Edge.TheVariants.{Value, Rise, Fall}
use Rattle.psl_tree.specs.declared.name.Name.{Name}
use Rattle.netlist.specs.Sound.{NamesBit}
use Rattle.run_terms.specs.Booleans.{edge_term, boolean_term, constant}
use Rattle.run_terms.specs.Letters.{bits_after, sample_after, letter_after}
use Rattle.run_terms.specs.Positions.{had, earlier, current, position_width, IsPosition}
use Rattle.run_terms.proofs.Asked.{among-passed}
use Rattle.run_terms.proofs.Logic.{either-value, constant-value, constant-within, both_within}
use Rattle.run_terms.proofs.Positions.{had-within, earlier-within, current-within}

-- the atoms of a Boolean are in range of names
abbrev pub InRange : List Name → Boolean → Type 0
InRange names test = AtomsOfBoolean (AtomInRange names) test

-- an atom in range is of a signal that there is
pub signal-below : (signals : ℕ) (names : List Name) (atom : Atom) → All (NamesBit signals) names → AtomInRange names atom → atom.signal < signals
signal-below signals names atom named in_range =
    let k = in_range.named.0 in
    let name = in_range.named.1 in
    let at : (get_or names k name).signal ≡ atom.signal = ap (λ (n : Name). n.signal) in_range.named.3 ∙ in_range.named.4 in
    omega (arith, at, (named k name in_range.named.2).signal)

edge-value : (signals base : ℕ) (values : Assignment) (before : Option (List Bool)) (valuation : List Bool) (edge : Edge) (signal place : ℕ)
    → IsPosition signals base values before valuation → signal < signals
    → value values (edge_term signals base edge signal) ≡ edge_at edge (bits_after before valuation) (sample_after before) signal place
edge-value signals base values None valuation Value signal place is below = is.bits signal below
edge-value signals base values None valuation Rise signal place is below = rw is.preceded refl
edge-value signals base values None valuation Fall signal place is below = rw is.preceded refl
edge-value signals base values (Some before) valuation Value signal place is below = is.bits signal below
edge-value signals base values (Some before) valuation Rise signal place is below =
    rw (is.preceded, is.bits_before before refl signal below, is.bits signal below) refl
edge-value signals base values (Some before) valuation Fall signal place is below =
    rw (is.preceded, is.bits_before before refl signal below, is.bits signal below) refl

-- a Boolean's term says whether it holds on the letter
pub boolean-value : (signals base : ℕ) (names : List Name) (values : Assignment) (before : Option (List Bool)) (valuation : List Bool) (test : Boolean)
    → All (NamesBit signals) names → InRange names test → IsPosition signals base values before valuation
    → value values (boolean_term signals base test) ≡ holds (letter_after names before valuation) test
boolean-value signals base names values before valuation (trees.Const truth) named in_range is = constant-value values truth
boolean-value signals base names values before valuation (trees.Test atom) named in_range is =
    edge-value signals base values before valuation atom.edge atom.signal atom.bit is (signal-below signals names atom named in_range)
    ∙ sym (among-passed (atom_at (bits_after before valuation) (sample_after before)) names atom in_range)
boolean-value signals base names values before valuation (trees.Not part) named in_range is =
    ap not (boolean-value signals base names values before valuation part named in_range is)
boolean-value signals base names values before valuation (trees.And left right) named in_range is =
    let a = boolean-value signals base names values before valuation left named in_range.0 is in
    let b = boolean-value signals base names values before valuation right named in_range.1 is in
    rw (a, b) refl
boolean-value signals base names values before valuation (trees.Or left right) named in_range is =
    let a = boolean-value signals base names values before valuation left named in_range.0 is in
    let b = boolean-value signals base names values before valuation right named in_range.1 is in
    either-value values (boolean_term signals base left) (boolean_term signals base right) ∙ rw (a, b) refl

edge-within : (signals base variables : ℕ) (edge : Edge) (signal : ℕ) → base + position_width signals ≤ variables → signal < signals → IsTrue (term_within variables (edge_term signals base edge signal))
edge-within signals base variables Value signal fits below = current-within signals base variables signal fits below
edge-within signals base variables Rise signal fits below =
    and_from (is_within variables (had base)) (is_within variables (earlier base signal) && is_within variables (current signals base signal)) (had-within signals base variables fits)
    (and_from (is_within variables (earlier base signal)) (is_within variables (current signals base signal)) (earlier-within signals base variables signal fits below) (current-within signals base variables signal fits below))
edge-within signals base variables Fall signal fits below =
    and_from (is_within variables (had base)) (is_within variables (earlier base signal) && is_within variables (current signals base signal)) (had-within signals base variables fits)
    (and_from (is_within variables (earlier base signal)) (is_within variables (current signals base signal)) (earlier-within signals base variables signal fits below) (current-within signals base variables signal fits below))

pub boolean-within : (signals base variables : ℕ) (names : List Name) (test : Boolean) → All (NamesBit signals) names → InRange names test → base + position_width signals ≤ variables
    → IsTrue (term_within variables (boolean_term signals base test))
boolean-within signals base variables names (trees.Const truth) named in_range fits = constant-within variables truth (omega arith)
boolean-within signals base variables names (trees.Test atom) named in_range fits =
    edge-within signals base variables atom.edge atom.signal fits (signal-below signals names atom named in_range)
boolean-within signals base variables names (trees.Not part) named in_range fits = boolean-within signals base variables names part named in_range fits
boolean-within signals base variables names (trees.And left right) named in_range fits =
    both_within variables (boolean_term signals base left) (boolean_term signals base right)
    (boolean-within signals base variables names left named in_range.0 fits) (boolean-within signals base variables names right named in_range.1 fits)
boolean-within signals base variables names (trees.Or left right) named in_range fits =
    both_within variables (boolean_term signals base left) (boolean_term signals base right)
    (boolean-within signals base variables names left named in_range.0 fits) (boolean-within signals base variables names right named in_range.1 fits)

pub constant-size : (truth : Bool) → term_size (constant truth) ≤ 2
constant-size true = omega arith
constant-size false = omega arith

edge-size : (signals base : ℕ) (edge : Edge) (signal : ℕ) → term_size (edge_term signals base edge signal) ≤ 2
edge-size signals base Value signal = omega arith
edge-size signals base Rise signal = omega arith
edge-size signals base Fall signal = omega arith

-- at most two gates for each constructor
pub boolean-gates : (signals base : ℕ) (test : Boolean) → term_size (boolean_term signals base test) ≤ 2 * boolean_size test
boolean-gates signals base (trees.Const truth) = constant-size truth
boolean-gates signals base (trees.Test atom) = edge-size signals base atom.edge atom.signal
boolean-gates signals base (trees.Not part) = omega (arith, boolean-gates signals base part)
boolean-gates signals base (trees.And left right) = omega (arith, boolean-gates signals base left, boolean-gates signals base right)
boolean-gates signals base (trees.Or left right) = omega (arith, boolean-gates signals base left, boolean-gates signals base right)
