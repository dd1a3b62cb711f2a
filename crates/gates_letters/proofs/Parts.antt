-- Parts one behind another, and what they make.
use Rattle.std.proofs.Common.{◌≡◌, ℕ, zero, suc, ◌≤◌, ℤ, Bool, true, false, List, [], ◌∷◌, ◌++◌, map, Option, None, Some, refl, ap, ◌∙◌, arith, append_assoc}
use Rattle.std.specs.Bool.{IsTrue}
use Rattle.clauses.specs.Literals.{clause_within, is_within}
use Rattle.clauses.specs.Models.{Assignment, is_true}
use Rattle.gates_theory.proofs.Within.{wider}
use Rattle.netlist.specs.Valuations.{bit}
use Rattle.gates_nodes.specs.declared.cover.Cover.{Cover}
use Rattle.gates_nodes.specs.declared.node.Node.{Node}
use Rattle.gates_nodes.specs.Folding.{Built}
use Rattle.gates_nodes.specs.Makes.{AreSound, Makes}
use Rattle.gates_nodes.specs.Nodes.{variables_of}
use Rattle.gates_nodes.proofs.Folds.{makes-no, makes-yes, no-false}
use Rattle.gates_nodes.proofs.Making.{makes-as, makes-literal, makes-then, names-kept, value-kept}
use Rattle.gates_nodes.proofs.Values.{variables-more}
use Rattle.gates_frames.specs.Frames.{literal_at}
use Rattle.gates_frames.proofs.Shown.{at_within}
use Rattle.gates_letters.specs.Booleans.{constant_built, joined}
use Rattle.gates_letters.specs.Letters.{FramesWithin}

-- the literal of a signal has the value that the signal has among the values of all literals
pub at-value : (v : Assignment) (given : ℕ) (literals : List ℤ) (signal : ℕ) → v (suc given) ≡ true → is_true v (literal_at given literals signal) ≡ bit (map (is_true v) literals) signal
at-value v given [] signal truth = no-false v given truth
at-value v given (l ∷ literals) zero truth = refl
at-value v given (l ∷ literals) (suc signal) truth = at-value v given literals signal truth

pub frames-wider : (few more : ℕ) (before : Option (List ℤ)) (now : List ℤ) → few ≤ more → FramesWithin few before now → FramesWithin more before now
frames-wider few more None now order within = record { before = tt; now = wider few more order now within.now }
frames-wider few more (Some before) now order within = record { before = wider few more order before within.before; now = wider few more order now within.now }

module _ (covers : List Cover) (given : ℕ) where
  pub made-more : (nodes : List Node) (built : Built) (meaning : Assignment → Bool) → Makes covers given nodes built meaning → variables_of given nodes ≤ variables_of given built.nodes
  made-more nodes built meaning makes = rw makes.grown (variables-more given nodes makes.more)

  pub makes-constant : (nodes : List Node) (value : Bool) → AreSound given nodes → Makes covers given nodes (constant_built given value nodes) (λ v. value)
  makes-constant nodes true sound = makes-yes covers given nodes sound
  makes-constant nodes false sound = makes-no covers given nodes sound

  -- a literal of a list
  pub makes-at : (nodes : List Node) (literals : List ℤ) (signal : ℕ) → AreSound given nodes → IsTrue (clause_within (variables_of given nodes) literals) →
      Makes covers given nodes (record { nodes = nodes; output = literal_at given literals signal }) (λ v. is_true v (literal_at given literals signal))
  makes-at nodes literals signal sound within =
      makes-literal covers given nodes (literal_at given literals signal) (λ v. is_true v (literal_at given literals signal)) sound
      (at_within (variables_of given nodes) given literals signal (omega arith) within) (λ source v is. refl)

  -- two parts and what joins them
  abbrev pub Joins : (List Node → ℤ → ℤ → Built) → (Bool → Bool → Bool) → Type 0
  Joins join says =
      (nodes : List Node) (a b : ℤ) → AreSound given nodes → IsTrue (is_within (variables_of given nodes) a) → IsTrue (is_within (variables_of given nodes) b)
      → Makes covers given nodes (join nodes a b) (λ v. says (is_true v a) (is_true v b))

  pub makes-joined : (join : List Node → ℤ → ℤ → Built) (says : Bool → Bool → Bool) (nodes : List Node) (first second : List Node → Built) (meaning other : Assignment → Bool) → Joins join says →
      Makes covers given nodes (first nodes) meaning → Makes covers given (first nodes).nodes (second (first nodes).nodes) other →
      Makes covers given nodes (joined join first second nodes) (λ v. says (meaning v) (other v))
  makes-joined join says nodes first second meaning other joins a b =
      let one = first nodes in
      let two = second one.nodes in
      let three = join two.nodes one.output two.output in
      let both = λ (v : Assignment). says (is_true v one.output) (is_true v two.output) in
      let c : Makes covers given two.nodes three both = joins two.nodes one.output two.output b.sound (names-kept covers given one.nodes b.more two.nodes one.output b.grown a.names) b.names in
      let grown : three.nodes ≡ one.nodes ++ (b.more ++ c.more) = c.grown ∙ ap (λ n. n ++ c.more) b.grown ∙ append_assoc one.nodes b.more c.more in
      makes-as covers given nodes three both (λ v. says (meaning v) (other v))
      (makes-then covers given nodes two three other both (makes-then covers given nodes one two meaning other a b) c)
      (λ source v is. rw (value-kept covers given nodes one meaning (b.more ++ c.more) three.nodes a grown source v is, value-kept covers given one.nodes two other c.more three.nodes b c.grown source v is) refl)
