-- Nodes only become more, so that a part is too large only where the whole is.
use Rattle.std.proofs.Common.{◌≡◌, ℕ, suc, ◌+◌, ◌<◌, ◌≤◌, ℤ, neg_ℤ, true, false, cond, List, [], ◌∷◌, ◌++◌, length, get_or, fold, Option, None, Some, Err, Ok, sym, ap, ◌∙◌, subst, arith, length-append}
use Rattle.std.specs.Bool.{IsTrue}
use Rattle.std.specs.Prelude.{Result, int_lt}
use Rattle.std.proofs.lemmas.Bool.{and_from}
use Rattle.clauses.specs.declared.flat.CnfFault.{CnfFault}
use Rattle.clauses.specs.declared.flat.TheConstants.{MOST_VARIABLES}
use Rattle.clauses.specs.Literals.{is_literal, is_within}
use Rattle.gates_theory.proofs.Within.{negated_within}
use Rattle.netlist.specs.declared.rows.Mark.{Mark}
use Rattle.gates_nodes.specs.declared.node.Node.{Node}
use Rattle.gates_nodes.specs.declared.node.Node.TheVariants.{And}
use Rattle.gates_nodes.specs.Folding.{Built, at_place, conjoined, conjoined_all, folded, higher, lower, place_of, shared, unless_folded}
use Rattle.gates_nodes.specs.Makes.{AreSound}
use Rattle.gates_nodes.specs.Nodes.{node_within, variables_of}
use Rattle.gates_nodes.proofs.Literals.{wider_literal}
use Rattle.gates_nodes.proofs.Values.{nodes_within-append}
use Rattle.gates_nodes.specs.Tables.{asked, with_row}
use Rattle.gates_builder.specs.Adding.{Adds, AreLiterals, AreOf, IsOf, Making, with_nodes}

module _ (given : ℕ) where
  pub more-push : (nodes : List Node) (node : Node) → variables_of given (nodes ++ node ∷ []) ≡ suc (variables_of given nodes)
  more-push nodes node = omega (arith, length-append nodes (node ∷ []))

  more-place : (place : Option ℕ) (nodes : List Node) (a b : ℤ) → variables_of given nodes ≤ variables_of given (at_place given nodes a b place).nodes
  more-place None nodes a b = omega (arith, more-push nodes (And a b))
  more-place (Some place) nodes a b = omega arith

  more-unless : (o : Option ℤ) (nodes : List Node) (a b : ℤ) → variables_of given nodes ≤ variables_of given (unless_folded given nodes a b o).nodes
  more-unless None nodes a b = more-place (place_of (lower a b) (higher a b) nodes) nodes (lower a b) (higher a b)
  more-unless (Some l) nodes a b = omega arith

  pub more-conjoined : (nodes : List Node) (a b : ℤ) → variables_of given nodes ≤ variables_of given (conjoined given nodes a b).nodes
  more-conjoined nodes a b = more-unless (folded given a b) nodes a b

  -- conjunctions one behind another
  pub more-all : (now : Built) (literals : List ℤ) → variables_of given now.nodes ≤ variables_of given (fold (λ built l. conjoined given built.nodes built.output l) now literals).nodes
  more-all now [] = omega arith
  more-all now (l ∷ literals) = omega (arith, more-conjoined now.nodes now.output l, more-all (conjoined given now.nodes now.output l) literals)

  pub more-row : (now : Built) (literals : List ℤ) (row : List Mark) → variables_of given now.nodes ≤ variables_of given (with_row given literals now row).nodes
  more-row now literals row =
      let all = conjoined_all given now.nodes (asked given row literals) in
      omega (arith, more-all (record { nodes = now.nodes; output = Rattle.gates_nodes.specs.Nodes.yes given }) (asked given row literals), more-conjoined all.nodes (neg_ℤ now.output) (neg_ℤ all.output))

  pub more-rows : (now : Built) (literals : List ℤ) (rows : List (List Mark)) → variables_of given now.nodes ≤ variables_of given (fold (with_row given literals) now rows).nodes
  more-rows now literals [] = omega arith
  more-rows now literals (row ∷ rows) = omega (arith, more-row now literals row, more-rows (with_row given literals now row) literals rows)

  pub conjoined-low : (nodes : List Node) (a b : ℤ) → folded given a b ≡ None → int_lt a b ≡ true → shared given nodes a b ≡ conjoined given nodes a b
  conjoined-low nodes a b none order = sym (ap (unless_folded given nodes a b) none ∙ ap (λ t. shared given nodes (cond t a b) (cond t b a)) order)

  pub conjoined-high : (nodes : List Node) (a b : ℤ) → folded given a b ≡ None → int_lt a b ≡ false → shared given nodes b a ≡ conjoined given nodes a b
  conjoined-high nodes a b none order = sym (ap (unless_folded given nodes a b) none ∙ ap (λ t. shared given nodes (cond t a b) (cond t b a)) order)

-- the same literal under another name
pub adds-as : (old new : Making) (built other : Built) (result : Result ℤ CnfFault) → built ≡ other → Adds old new built result → Adds old new other result
adds-as old new built other result e adds = subst (λ b. Adds old new b result) e adds

-- a literal that needs no node
pub adds-none : (old : Making) (built : Built) (l : ℤ) → IsOf old l → record { nodes = old.nodes; output = l } ≡ built → Adds old old built (Ok l)
adds-none old built l of e = subst (λ b. Adds old old b (Ok l)) e (record { making = refl_making; output = refl_literal; within = of.within; literal = of.literal; large = tt })
  where
    refl_making : old ≡ with_nodes old old.nodes
    refl_making = Rattle.std.proofs.Common.refl

    refl_literal : l ≡ l
    refl_literal = Rattle.std.proofs.Common.refl

-- where the first part fails
pub adds-fails : (old new : Making) (part whole : Built) (fault : CnfFault) → variables_of old.given part.nodes ≤ variables_of old.given whole.nodes → Adds old new part (Err fault) → Adds old new whole (Err fault)
adds-fails old new part whole fault more adds =
    record { making = tt; output = tt; within = tt; literal = tt; large = λ is. (let large : MOST_VARIABLES < variables_of old.given part.nodes = adds.large is in omega arith) }

-- the negation of a literal that was added
pub adds-negated : (old new : Making) (built : Built) (l opposite : ℤ) → opposite ≡ neg_ℤ l → IsTrue (is_literal opposite) → Adds old new built (Ok l) →
    Adds old new (record { nodes = built.nodes; output = neg_ℤ built.output }) (Ok opposite)
adds-negated old new built l opposite e literal adds = record { making = adds.making; output = e ∙ ap neg_ℤ adds.output; within = subst (λ x. IsTrue (is_within (variables_of new.given new.nodes) x)) (sym e) (negated_within (variables_of new.given new.nodes) l adds.within); literal = literal; large = tt }

-- a literal stays one of the variables while nodes become more
pub of-more : (old new : Making) (l : ℤ) → variables_of old.given old.nodes ≤ variables_of new.given new.nodes → IsOf old l → IsOf new l
of-more old new l more of = record { within = wider_literal (variables_of old.given old.nodes) (variables_of new.given new.nodes) more l of.within; literal = of.literal }

pub of-added : (old new : Making) (built : Built) (l : ℤ) → Adds old new built (Ok l) → IsOf new l
of-added old new built l adds = record { within = adds.within; literal = adds.literal }

pub all-more : (old new : Making) (literals : List ℤ) → variables_of old.given old.nodes ≤ variables_of new.given new.nodes → AreOf old literals → AreOf new literals
all-more old new literals more of = λ k d below. of-more old new (get_or literals k d) more (of k d below)

pub all-literals : (making : Making) (literals : List ℤ) → AreOf making literals → AreLiterals literals
all-literals making literals of = λ k d below. (of k d below).literal

pub negated-of : (making : Making) (l : ℤ) → IsTrue (is_literal (neg_ℤ l)) → IsOf making l → IsOf making (neg_ℤ l)
negated-of making l literal of = record { within = negated_within (variables_of making.given making.nodes) l of.within; literal = literal }

-- so they do when some were added
pub more-added : (old new : Making) (built : Built) (l : ℤ) → variables_of old.given old.nodes ≤ variables_of old.given built.nodes → Adds old new built (Ok l) →
    variables_of old.given old.nodes ≤ variables_of new.given new.nodes
more-added old new built l more adds = omega (arith, more, ap (λ (m : Making). variables_of m.given m.nodes) adds.making)

-- one node more names earlier literals
pub sound-push : (given : ℕ) (nodes : List Node) (node : Node) → AreSound given nodes → IsTrue (node_within (variables_of given nodes) node) → AreSound given (nodes ++ node ∷ [])
sound-push given nodes node sound within =
    nodes_within-append (suc given) (variables_of given nodes) nodes (node ∷ []) (omega arith) sound (and_from (node_within (variables_of given nodes) node) true within (let one : true ≡ true = Rattle.std.proofs.Common.refl in one))
