-- What the literals of edges and Booleans say.
use Rattle.std.proofs.Common.{◌≡◌, ℕ, ℤ, neg_ℤ, Bool, ◌&&◌, ◌||◌, List, map, Option, None, Some, refl, sym, ◌∙◌, arith}
use Rattle.std.specs.Bool.{IsTrue}
use Rattle.std.specs.Option.{option_map}
use Rattle.clauses.specs.Literals.{clause_within, is_within}
use Rattle.clauses.specs.Models.{Assignment, is_true}
use Rattle.gates_theory.proofs.Literals.{true-neg}
use Rattle.gates_theory.proofs.Within.{negated_within}
use Rattle.netlist.specs.Valuations.{bit}
use Rattle.psl_tree.specs.Atoms.{AtomsOfBoolean}
use Rattle.psl_tree.specs.Holds.{holds}
use Rattle.psl_tree.specs.Letters.{atom_at, edge_at}
use Rattle.psl_tree.specs.Names.{AtomInRange}
use Rattle.psl_tree.specs.Trees as trees
use Rattle.psl_tree.specs.Trees.{Boolean}
use Rattle.psl_tree.specs.declared.atom.Edge.{Edge}
use Rattle.psl_tree.specs.declared.atom.Edge.TheVariants.{Value, Rise, Fall}
use Rattle.psl_tree.specs.declared.name.Name.{Name}
use Rattle.gates_nodes.specs.declared.cover.Cover.{Cover}
use Rattle.gates_nodes.specs.declared.node.Node.{Node}
use Rattle.gates_nodes.specs.Folding.{conjoined, either}
use Rattle.gates_nodes.specs.Makes.{AreSound, Makes}
use Rattle.gates_nodes.specs.Nodes.{variables_of}
use Rattle.gates_nodes.proofs.Folds.{makes-conjoined, makes-either, makes-no}
use Rattle.gates_nodes.proofs.Literals.{positive}
use Rattle.gates_nodes.proofs.Making.{makes-as, makes-negated}
use Rattle.gates_frames.specs.Frames.{literal_at}
use Rattle.gates_frames.proofs.Shown.{at_within}
use Rattle.run_terms.specs.Letters.{bits_after, sample_after}
use Rattle.run_terms.proofs.Asked.{among-passed}
use Rattle.gates_letters.specs.Booleans.{boolean_built, edge_built}
use Rattle.gates_letters.specs.Letters.{FramesWithin, letter_of}
use Rattle.gates_letters.proofs.Parts.{at-value, frames-wider, made-more, makes-at, makes-constant, makes-joined}

-- what an edge asks of the values of the literals of two frames
abbrev edge_value : Option (List ℤ) → List ℤ → Edge → ℕ → ℕ → Assignment → Bool
edge_value before now edge signal place v =
    edge_at edge (bits_after (option_map (map (is_true v)) before) (map (is_true v) now)) (sample_after (option_map (map (is_true v)) before)) signal place

module _ (covers : List Cover) (given : ℕ) where
  value-made : (nodes : List Node) (literals : List ℤ) (signal : ℕ) (meaning : Assignment → Bool) → AreSound given nodes → IsTrue (clause_within (variables_of given nodes) literals) →
      ((v : Assignment) → bit (map (is_true v) literals) signal ≡ meaning v) →
      Makes covers given nodes (record { nodes = nodes; output = literal_at given literals signal }) meaning
  value-made nodes literals signal meaning sound within same =
      makes-as covers given nodes (record { nodes = nodes; output = literal_at given literals signal }) (λ v. is_true v (literal_at given literals signal)) meaning
      (makes-at covers given nodes literals signal sound within) (λ source v is. at-value v given literals signal is.yes ∙ same v)

  edge-made : (nodes : List Node) (before : Option (List ℤ)) (now : List ℤ) (edge : Edge) (signal place : ℕ) → AreSound given nodes → FramesWithin (variables_of given nodes) before now →
      Makes covers given nodes (edge_built given before now edge signal nodes) (edge_value before now edge signal place)
  edge-made nodes None now Value signal place sound within = value-made nodes now signal (edge_value None now Value signal place) sound within.now (λ v. refl)
  edge-made nodes None now Rise signal place sound within = makes-no covers given nodes sound
  edge-made nodes None now Fall signal place sound within = makes-no covers given nodes sound
  edge-made nodes (Some before) now Value signal place sound within = value-made nodes now signal (edge_value (Some before) now Value signal place) sound within.now (λ v. refl)
  edge-made nodes (Some before) now Rise signal place sound within =
      let n = variables_of given nodes in
      let a = literal_at given before signal in
      let b = literal_at given now signal in
      let first : IsTrue (is_within n a) = at_within n given before signal (omega arith) within.before in
      let second : IsTrue (is_within n b) = at_within n given now signal (omega arith) within.now in
      makes-as covers given nodes (conjoined given nodes (neg_ℤ a) b) (λ v. is_true v (neg_ℤ a) && is_true v b) (edge_value (Some before) now Rise signal place)
      (makes-conjoined covers given nodes (neg_ℤ a) b sound (negated_within n a first) second)
      (λ source v is. rw (true-neg v a (positive n a first), at-value v given before signal is.yes, at-value v given now signal is.yes) refl)
  edge-made nodes (Some before) now Fall signal place sound within =
      let n = variables_of given nodes in
      let a = literal_at given before signal in
      let b = literal_at given now signal in
      let first : IsTrue (is_within n a) = at_within n given before signal (omega arith) within.before in
      let second : IsTrue (is_within n b) = at_within n given now signal (omega arith) within.now in
      makes-as covers given nodes (conjoined given nodes a (neg_ℤ b)) (λ v. is_true v a && is_true v (neg_ℤ b)) (edge_value (Some before) now Fall signal place)
      (makes-conjoined covers given nodes a (neg_ℤ b) sound first (negated_within n b second))
      (λ source v is. rw (true-neg v b (positive n b second), at-value v given before signal is.yes, at-value v given now signal is.yes) refl)

  -- a Boolean's literal says whether it holds on the letter
  pub boolean-made : (nodes : List Node) (names : List Name) (before : Option (List ℤ)) (now : List ℤ) (test : Boolean) → AreSound given nodes → FramesWithin (variables_of given nodes) before now →
      AtomsOfBoolean (AtomInRange names) test → Makes covers given nodes (boolean_built given before now test nodes) (λ v. holds (letter_of names v before now) test)
  boolean-made nodes names before now (trees.Const value) sound within in_range = makes-constant covers given nodes value sound
  boolean-made nodes names before now (trees.Test atom) sound within in_range =
      makes-as covers given nodes (edge_built given before now atom.edge atom.signal nodes) (edge_value before now atom.edge atom.signal atom.bit)
      (λ v. holds (letter_of names v before now) (trees.Test atom)) (edge-made nodes before now atom.edge atom.signal atom.bit sound within)
      (λ source v is. sym (among-passed (atom_at (bits_after (option_map (map (is_true v)) before) (map (is_true v) now)) (sample_after (option_map (map (is_true v)) before))) names atom in_range))
  boolean-made nodes names before now (trees.Not part) sound within in_range =
      makes-negated covers given nodes (boolean_built given before now part nodes) (λ v. holds (letter_of names v before now) part)
      (boolean-made nodes names before now part sound within in_range)
  boolean-made nodes names before now (trees.And left right) sound within in_range =
      let one = boolean_built given before now left nodes in
      let m = λ (v : Assignment). holds (letter_of names v before now) left in
      let a = boolean-made nodes names before now left sound within in_range.0 in
      let wide = frames-wider (variables_of given nodes) (variables_of given one.nodes) before now (made-more covers given nodes one m a) within in
      makes-joined covers given (conjoined given) (λ x y. x && y) nodes (boolean_built given before now left) (boolean_built given before now right) m (λ v. holds (letter_of names v before now) right)
      (makes-conjoined covers given) a (boolean-made one.nodes names before now right a.sound wide in_range.1)
  boolean-made nodes names before now (trees.Or left right) sound within in_range =
      let one = boolean_built given before now left nodes in
      let m = λ (v : Assignment). holds (letter_of names v before now) left in
      let a = boolean-made nodes names before now left sound within in_range.0 in
      let wide = frames-wider (variables_of given nodes) (variables_of given one.nodes) before now (made-more covers given nodes one m a) within in
      makes-joined covers given (either given) (λ x y. x || y) nodes (boolean_built given before now left) (boolean_built given before now right) m (λ v. holds (letter_of names v before now) right)
      (makes-either covers given) a (boolean-made one.nodes names before now right a.sound wide in_range.1)
