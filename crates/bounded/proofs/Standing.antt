-- The literals of places' bits stand among the variables that there are.
use Rattle.std.proofs.Common.{◌≡◌, ℕ, suc, ◌<◌, ◌||◌, ℤ, neg_ℤ, Bool, true, false, cond, List, get_or, length, sym, ap, subst, arith}
use Rattle.std.specs.Bool.{IsTrue}
use Rattle.std.specs.List.{All}
use Rattle.alternating_theory.specs.Obligations.{Automaton, obligation_at}
use Rattle.clauses.specs.Literals.{is_literal, is_within}
use Rattle.gates_builder.specs.Adding.{AreOf, IsOf, Making, with_nodes}
use Rattle.gates_builder.proofs.Growing.{all-more}
use Rattle.gates_letters.specs.Extending.{Extends}
use Rattle.gates_nodes.specs.declared.node.Node.{Node}
use Rattle.gates_nodes.specs.Folding.{Built, conjoined}
use Rattle.gates_nodes.specs.Nodes.{variables_of}
use Rattle.bounded.specs.Extending.{has-still}
use Rattle.bounded.specs.Obligations.{exceeds, falls, served, unless_exceeded}
use Rattle.bounded.specs.Places.{number_at, owed_at}
use Rattle.bounded.specs.Serving.{HasPlaces}
use Rattle.bounded.proofs.Additions.{more-still}
use Rattle.bounded.proofs.Blocks.{owed-in}

pub owed-of : (a : Automaton) (n before : ℕ) (making : Making) (p q : ℕ) (l : ℤ) → HasPlaces a n before making → p < suc (suc n) → q < length a.obligations → IsTrue (is_literal l)
    → l ≡ owed_at a before p q → IsOf making l
owed-of a n before making p q l has low below literal is =
    let variables = variables_of making.given making.nodes in
    let same = ap (λ g. variables_of g making.nodes) has.given in
    record {
      within = subst (λ x. IsTrue (is_within variables x)) (sym is) (owed-in a n before variables (omega (arith, has.many, same)) p q low below);
      literal = literal;
    }

abbrev accepted : Automaton → ℕ → ℕ → Bool
accepted a q r = (obligation_at a.obligations q).accepting || (obligation_at a.obligations r).accepting

-- one of both obligations is accepting, or none is
module _ (a : Automaton) (n before p q r : ℕ) (nodes : List Node) where
  abbrev over : Built
  over = exceeds (falls n p) (number_at a before (suc p) r) (number_at a before p q) nodes

  pub served-free : accepted a q r ≡ true → record { nodes = nodes; output = owed_at a before (suc p) r } ≡ served a n before p q r nodes
  served-free e = sym (ap (λ b. cond b (record { nodes = nodes; output = owed_at a before (suc p) r }) (unless_exceeded (owed_at a before (suc p) r) over)) e)

  pub served-kept : accepted a q r ≡ false → conjoined 0 over.nodes (owed_at a before (suc p) r) (neg_ℤ over.output) ≡ served a n before p q r nodes
  served-kept e = sym (ap (λ b. cond b (record { nodes = nodes; output = owed_at a before (suc p) r }) (unless_exceeded (owed_at a before (suc p) r) over)) e)

-- while nodes follow, all stays so
pub places-still : (a : Automaton) (n before : ℕ) (old mid : Making) → mid ≡ with_nodes old mid.nodes → Extends old.nodes mid.nodes → HasPlaces a n before old → HasPlaces a n before mid
places-still a n before old mid kept extends has = subst (HasPlaces a n before) (sym kept) (has-still a n before old mid.nodes has extends)

pub frames-still : (old mid : Making) (frames : List (List ℤ)) → mid ≡ with_nodes old mid.nodes → Extends old.nodes mid.nodes → All (AreOf old) frames → All (AreOf mid) frames
frames-still old mid frames kept extends are = λ k d low. all-more old mid (get_or frames k d) (more-still old mid mid.nodes extends kept) (are k d low)
