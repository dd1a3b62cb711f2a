-- Nodes only become more, and what was added one behind another.
use Rattle.std.proofs.Common.{◌≡◌, ℕ, ◌≤◌, ℤ, neg_ℤ, Bool, true, false, List, [], ◌∷◌, ◌++◌, length, Option, None, Some, Err, Ok, refl, sym, ap, ◌∙◌, subst, arith, append_assoc, length-append}
use Rattle.std.specs.Option.{IfSome}
use Rattle.std.specs.Prelude.{Result}
use Rattle.alternating_theory.specs.Positive as positives
use Rattle.alternating_theory.specs.Positive.{Positive}
use Rattle.clauses.specs.declared.flat.CnfFault.{CnfFault}
use Rattle.psl_tree.specs.Trees as trees
use Rattle.psl_tree.specs.Trees.{Boolean}
use Rattle.psl_tree.specs.declared.atom.Edge.{Edge}
use Rattle.psl_tree.specs.declared.atom.Edge.TheVariants.{Value, Rise, Fall}
use Rattle.gates_nodes.specs.declared.node.Node.{Node}
use Rattle.gates_nodes.specs.declared.node.Node.TheVariants.{And}
use Rattle.gates_nodes.specs.Folding.{Built, at_place, conjoined, either, folded, higher, lower, place_of, unless_folded}
use Rattle.gates_nodes.specs.Nodes.{variables_of}
use Rattle.gates_builder.specs.Adding.{Adds, AreOf, Making, with_nodes}
use Rattle.gates_builder.proofs.Growing.{adds-as, adds-fails, all-more, more-added, more-conjoined}
use Rattle.gates_builder.proofs.Loops.{adds-from}
use Rattle.gates_frames.specs.Frames.{literal_at}
use Rattle.gates_letters.specs.Booleans.{boolean_built, constant_built, edge_built, joined}
use Rattle.gates_letters.specs.Combinations.{combination_by}
use Rattle.gates_letters.specs.Extending.{Extends, extends-same}

-- a part that only adds nodes, and one that joins two literals
abbrev pub Grows : ℕ → (List Node → Built) → Type 0
Grows given part = (nodes : List Node) → variables_of given nodes ≤ variables_of given (part nodes).nodes

abbrev pub JoinGrows : ℕ → (List Node → ℤ → ℤ → Built) → Type 0
JoinGrows given join = (nodes : List Node) (a b : ℤ) → variables_of given nodes ≤ variables_of given (join nodes a b).nodes

module _ (given : ℕ) where
  pub more-either : JoinGrows given (either given)
  more-either nodes a b = more-conjoined given nodes (neg_ℤ a) (neg_ℤ b)

-- nodes that there are stay
pub extends-then : (a b c : List Node) → Extends a b → Extends b c → Extends a c
extends-then a b c first second = record { more = first.more ++ second.more; is = second.is ∙ ap (λ l. l ++ second.more) first.is ∙ append_assoc a first.more second.more }

pub more-extends : (given : ℕ) (old new : List Node) → Extends old new → variables_of given old ≤ variables_of given new
more-extends given old new extends = omega (arith, ap (λ (l : List Node). length l) extends.is, length-append old extends.more)

abbrev pub PartExtends : (List Node → Built) → Type 0
PartExtends part = (nodes : List Node) → Extends nodes (part nodes).nodes

abbrev pub JoinExtends : (List Node → ℤ → ℤ → Built) → Type 0
JoinExtends join = (nodes : List Node) (a b : ℤ) → Extends nodes (join nodes a b).nodes

module _ (given : ℕ) where
  extends-place : (place : Option ℕ) (nodes : List Node) (a b : ℤ) → Extends nodes (at_place given nodes a b place).nodes
  extends-place None nodes a b = record { more = And a b ∷ []; is = refl }
  extends-place (Some place) nodes a b = extends-same nodes

  extends-unless : (literal : Option ℤ) (nodes : List Node) (a b : ℤ) → Extends nodes (unless_folded given nodes a b literal).nodes
  extends-unless None nodes a b = extends-place (place_of (lower a b) (higher a b) nodes) nodes (lower a b) (higher a b)
  extends-unless (Some l) nodes a b = extends-same nodes

  pub extends-conjoined : JoinExtends (conjoined given)
  extends-conjoined nodes a b = extends-unless (folded given a b) nodes a b

  pub extends-either : JoinExtends (either given)
  extends-either nodes a b = extends-conjoined nodes (neg_ℤ a) (neg_ℤ b)

  pub extends-joined : (join : List Node → ℤ → ℤ → Built) (first second : List Node → Built) → JoinExtends join → PartExtends first → PartExtends second → PartExtends (joined join first second)
  extends-joined join first second joins one two nodes =
      let front = first nodes in
      let back = second front.nodes in
      extends-then nodes back.nodes (join back.nodes front.output back.output).nodes (extends-then nodes front.nodes back.nodes (one nodes) (two front.nodes)) (joins back.nodes front.output back.output)

  pub extends-constant : (value : Bool) → PartExtends (constant_built given value)
  extends-constant true nodes = extends-same nodes
  extends-constant false nodes = extends-same nodes

  pub extends-edge : (before : Option (List ℤ)) (now : List ℤ) (edge : Edge) (signal : ℕ) → PartExtends (edge_built given before now edge signal)
  extends-edge before now Value signal nodes = extends-same nodes
  extends-edge None now Rise signal nodes = extends-same nodes
  extends-edge None now Fall signal nodes = extends-same nodes
  extends-edge (Some before) now Rise signal nodes = extends-conjoined nodes (neg_ℤ (literal_at given before signal)) (literal_at given now signal)
  extends-edge (Some before) now Fall signal nodes = extends-conjoined nodes (literal_at given before signal) (neg_ℤ (literal_at given now signal))

  pub extends-boolean : (before : Option (List ℤ)) (now : List ℤ) (test : Boolean) → PartExtends (boolean_built given before now test)
  extends-boolean before now (trees.Const value) nodes = extends-constant value nodes
  extends-boolean before now (trees.Test atom) nodes = extends-edge before now atom.edge atom.signal nodes
  extends-boolean before now (trees.Not part) nodes = extends-boolean before now part nodes
  extends-boolean before now (trees.And left right) nodes =
      extends-joined (conjoined given) (boolean_built given before now left) (boolean_built given before now right) extends-conjoined (extends-boolean before now left) (extends-boolean before now right) nodes
  extends-boolean before now (trees.Or left right) nodes =
      extends-joined (either given) (boolean_built given before now left) (boolean_built given before now right) extends-either (extends-boolean before now left) (extends-boolean before now right) nodes

  pub more-boolean : (before : Option (List ℤ)) (now : List ℤ) (test : Boolean) → Grows given (boolean_built given before now test)
  more-boolean before now test nodes = more-extends given nodes (boolean_built given before now test nodes).nodes (extends-boolean before now test nodes)

  module _ (before : Option (List ℤ)) (now : List ℤ) (later : ℕ → List Node → Built) (grows : (number : ℕ) → PartExtends (later number)) where
    pub extends-combination : (positive : Positive) → PartExtends (combination_by given before now later positive)
    extends-combination (positives.Const value) nodes = extends-constant value nodes
    extends-combination (positives.Holds test) nodes = extends-boolean before now test nodes
    extends-combination (positives.Owed number) nodes = grows number nodes
    extends-combination (positives.And left right) nodes =
        extends-joined (conjoined given) (combination_by given before now later left) (combination_by given before now later right) extends-conjoined (extends-combination left) (extends-combination right) nodes
    extends-combination (positives.Or left right) nodes =
        extends-joined (either given) (combination_by given before now later left) (combination_by given before now later right) extends-either (extends-combination left) (extends-combination right) nodes

    pub more-combination : (positive : Positive) → Grows given (combination_by given before now later positive)
    more-combination positive nodes = more-extends given nodes (combination_by given before now later positive nodes).nodes (extends-combination positive nodes)

-- the literals of a frame before stay those of variables
pub before-more : {X : Type 0} (old new : Making) (list : X → List ℤ) (before : Option X) → variables_of old.given old.nodes ≤ variables_of new.given new.nodes → IfSome before (λ x. AreOf old (list x)) → IfSome before (λ x. AreOf new (list x))
before-more old new list None more of = tt
before-more old new list (Some x) more of = all-more old new (list x) more of

pub ready-still : (ready : Making → Type 0) (old new : Making) (nodes : List Node) → new ≡ with_nodes old nodes → ready (with_nodes old nodes) → ready new
ready-still ready old new nodes e before = subst ready (sym e) before

kept_by : (old new : Making) (built : Built) → new ≡ with_nodes old built.nodes → new ≡ with_nodes old new.nodes
kept_by old new built e = e ∙ ap (with_nodes old) (sym (ap (λ m. m.nodes) e))

module _ (join : ℕ → List Node → ℤ → ℤ → Built) (first second : ℕ → List Node → Built) where
  pub adds-joined : (old mid next new : Making) (a b : ℤ) (result : Result ℤ CnfFault) → Adds old mid (first old.given old.nodes) (Ok a) → Adds mid next (second mid.given mid.nodes) (Ok b) →
      Adds next new (join next.given next.nodes a b) result → Adds old new (joined (join old.given) (first old.given) (second old.given) old.nodes) result
  adds-joined old mid next new a b result one two three =
      let given = old.given in
      let front = first given old.nodes in
      let back = second given front.nodes in
      let second_adds = adds-from old mid next (λ g. second g mid.nodes) (Ok b) (kept_by old mid front one.making) two in
      let last = adds-from old next new (λ g. join g next.nodes a b) result (kept_by old next (second given mid.nodes) second_adds.making) three in
      let start : mid.nodes ≡ front.nodes = ap (λ m. m.nodes) one.making in
      let nodes : next.nodes ≡ back.nodes = ap (λ m. m.nodes) second_adds.making ∙ ap (λ n. (second given n).nodes) start in
      let output : b ≡ back.output = second_adds.output ∙ ap (λ n. (second given n).output) start in
      let same : join given next.nodes a b ≡ join given back.nodes front.output back.output =
      ap (λ n. join given n a b) nodes ∙ ap (λ x. join given back.nodes x b) one.output ∙ ap (λ y. join given back.nodes front.output y) output in
      adds-as old new (join given next.nodes a b) (join given back.nodes front.output back.output) result same last

  -- one of the parts fails
  pub first-fails : (old new : Making) (fault : CnfFault) → JoinGrows old.given (join old.given) → Grows old.given (second old.given) → Adds old new (first old.given old.nodes) (Err fault) →
      Adds old new (joined (join old.given) (first old.given) (second old.given) old.nodes) (Err fault)
  first-fails old new fault joins grows failed =
      let front = first old.given old.nodes in
      let back = second old.given front.nodes in
      adds-fails old new front (join old.given back.nodes front.output back.output) fault (omega (arith, grows front.nodes, joins back.nodes front.output back.output)) failed

  pub second-fails : (old mid new : Making) (a : ℤ) (fault : CnfFault) → JoinGrows old.given (join old.given) → Adds old mid (first old.given old.nodes) (Ok a) →
      Adds mid new (second mid.given mid.nodes) (Err fault) → Adds old new (joined (join old.given) (first old.given) (second old.given) old.nodes) (Err fault)
  second-fails old mid new a fault joins one failed =
      let given = old.given in
      let front = first given old.nodes in
      let back = second given front.nodes in
      let start : mid.nodes ≡ front.nodes = ap (λ m. m.nodes) one.making in
      let here = adds-from old mid new (λ g. second g mid.nodes) (Err fault) (kept_by old mid front one.making) failed in
      adds-fails old new back (join given back.nodes front.output back.output) fault (joins back.nodes front.output back.output)
      (adds-as old new (second given mid.nodes) back (Err fault) (ap (second given) start) here)

-- so the nodes became more when a part was added
pub more-by : (old new : Making) (part : ℕ → List Node → Built) (l : ℤ) → Grows old.given (part old.given) → Adds old new (part old.given old.nodes) (Ok l) → variables_of old.given old.nodes ≤ variables_of new.given new.nodes
more-by old new part l grows adds = more-added old new (part old.given old.nodes) l (grows old.nodes) adds
