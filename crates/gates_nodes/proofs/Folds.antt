-- Conjunctions that are folded.
use Rattle.std.proofs.Common.{◌≡◌, inl, inr, ℕ, suc, ◌<◌, ◌≤◌, ℤ, neg_ℤ, Bool, true, false, not, cond, ◌&&◌, ◌||◌, List, [], ◌∷◌, fold, Option, None, Some, refl, sym, ap, ◌∙◌, arith}
use Rattle.std.specs.Bool.{IsTrue}
use Rattle.std.specs.List.{list_all}
use Rattle.std.specs.Option.{IfSome}
use Rattle.std.specs.Ordering.{int_eq}
use Rattle.std.specs.Prelude.{int_lt}
use Rattle.std.proofs.lemmas.Bool.{and_from, cond_both, or_cases}
use Rattle.std.proofs.lemmas.Bool.Decides.{Decides-int_eq}
use Rattle.clauses.specs.Literals.{clause_within, is_within, variable_of}
use Rattle.clauses.specs.Models.{Assignment, is_true}
use Rattle.gates_theory.proofs.Literals.{not_not, true-neg}
use Rattle.gates_theory.proofs.Within.{negated_within, wider}
use Rattle.gates_nodes.specs.declared.cover.Cover.{Cover}
use Rattle.gates_nodes.specs.declared.node.Node.{Node}
use Rattle.gates_nodes.specs.declared.node.Node.TheVariants.{And}
use Rattle.gates_nodes.specs.Folding.{Built, conjoined, conjoined_all, either, folded, higher, lower, shared, unless_folded}
use Rattle.gates_nodes.specs.Makes.{AreSound, Makes}
use Rattle.gates_nodes.specs.Nodes.{no, node_within, variables_of, yes}
use Rattle.gates_nodes.proofs.Literals.{and_assoc, and_true, first_within, no-within, positive, rest_within, yes-within}
use Rattle.gates_nodes.proofs.Making.{makes-as, makes-literal, makes-negated, makes-shared, makes-then, value-kept}
use Rattle.gates_nodes.proofs.Values.{variables-more}

-- pairs of values
twice : (a : Bool) → a ≡ (a && a)
twice true = refl
twice false = refl

opposite : (a : Bool) → false ≡ (not a && a)
opposite true = refl
opposite false = refl

swapped : (a b : Bool) → (b && a) ≡ (a && b)
swapped true true = refl
swapped true false = refl
swapped false true = refl
swapped false false = refl

and_false : (a : Bool) → false ≡ (a && false)
and_false true = refl
and_false false = refl

neither : (a b : Bool) → not (not a && not b) ≡ (a || b)
neither true b = refl
neither false b = not_not b

pub no-false : (v : Assignment) (given : ℕ) → v (suc given) ≡ true → is_true v (no given) ≡ false
no-false v given e = ap not e

-- the literal that a conjunction is folded to
pub folded-value : (v : Assignment) (given : ℕ) (a b : ℤ) → v (suc given) ≡ true → 0 < variable_of b → IfSome (folded given a b) (λ l. is_true v l ≡ (is_true v a && is_true v b))
folded-value v given a b e some =
    let is : ℤ → Type 0 = λ l. is_true v l ≡ (is_true v a && is_true v b) in
    let P : Option ℤ → Type 0 = λ o. IfSome o is in
    cond_both (int_eq a b) (Some a) _ P (λ t. let ab : a ≡ b = (Decides-int_eq a b).0 t in twice (is_true v a) ∙ ap (λ l. is_true v a && is_true v l) ab)
    (λ _. cond_both (int_eq a (neg_ℤ b)) (Some (no given)) _ P (λ t. let ab : a ≡ neg_ℤ b = (Decides-int_eq a (neg_ℤ b)).0 t in
    no-false v given e ∙ opposite (is_true v b) ∙ ap (λ x. x && is_true v b) (sym (ap (is_true v) ab ∙ true-neg v b some)))
    (λ _. cond_both (int_eq a (yes given)) (Some b) _ P (λ t. let ay : a ≡ yes given = (Decides-int_eq a (yes given)).0 t in
    ap (λ x. x && is_true v b) (sym (ap (is_true v) ay ∙ e)))
    (λ _. cond_both (int_eq b (yes given)) (Some a) _ P (λ t. let by : b ≡ yes given = (Decides-int_eq b (yes given)).0 t in
    sym (and_true (is_true v a)) ∙ ap (λ x. is_true v a && x) (sym (ap (is_true v) by ∙ e)))
    (λ _. cond_both (int_eq a (no given) || int_eq b (no given)) (Some (no given)) None P (λ t. elim (or_cases (int_eq a (no given)) (int_eq b (no given)) t) [
      | inl first ↦ let an : a ≡ no given = (Decides-int_eq a (no given)).0 first in
          no-false v given e ∙ ap (λ x. x && is_true v b) (sym (ap (is_true v) an ∙ no-false v given e))
      | inr second ↦ let bn : b ≡ no given = (Decides-int_eq b (no given)).0 second in
          no-false v given e ∙ and_false (is_true v a) ∙ ap (λ x. is_true v a && x) (sym (ap (is_true v) bn ∙ no-false v given e))
    ]) (λ _. tt)))))

folded-within : (n given : ℕ) (a b : ℤ) → suc given ≤ n → IsTrue (is_within n a) → IsTrue (is_within n b) → IfSome (folded given a b) (λ l. IsTrue (is_within n l))
folded-within n given a b few first second =
    let is : ℤ → Type 0 = λ l. IsTrue (is_within n l) in
    let P : Option ℤ → Type 0 = λ o. IfSome o is in
    cond_both (int_eq a b) (Some a) _ P (λ _. first)
    (λ _. cond_both (int_eq a (neg_ℤ b)) (Some (no given)) _ P (λ _. no-within n given few)
    (λ _. cond_both (int_eq a (yes given)) (Some b) _ P (λ _. second)
    (λ _. cond_both (int_eq b (yes given)) (Some a) _ P (λ _. first)
    (λ _. cond_both (int_eq a (no given) || int_eq b (no given)) (Some (no given)) None P (λ _. no-within n given few) (λ _. tt)))))

module _ (covers : List Cover) (given : ℕ) where
  ordered-value : (v : Assignment) (a b : ℤ) → (is_true v (lower a b) && is_true v (higher a b)) ≡ (is_true v a && is_true v b)
  ordered-value v a b = by_order (int_lt a b)
    where
      by_order : (t : Bool) → (is_true v (cond t a b) && is_true v (cond t b a)) ≡ (is_true v a && is_true v b)
      by_order true = refl
      by_order false = swapped (is_true v a) (is_true v b)

  ordered-within : (n : ℕ) (a b : ℤ) → IsTrue (is_within n a) → IsTrue (is_within n b) → IsTrue (node_within n (And (lower a b) (higher a b)))
  ordered-within n a b first second = by_order (int_lt a b)
    where
      by_order : (t : Bool) → IsTrue (is_within n (cond t a b) && is_within n (cond t b a))
      by_order true = and_from (is_within n a) (is_within n b) first second
      by_order false = and_from (is_within n b) (is_within n a) second first

  unless : (o : Option ℤ) (nodes : List Node) (a b : ℤ) → AreSound given nodes → IsTrue (is_within (variables_of given nodes) a) → IsTrue (is_within (variables_of given nodes) b) →
      ((v : Assignment) → v (suc given) ≡ true → IfSome o (λ l. is_true v l ≡ (is_true v a && is_true v b))) → IfSome o (λ l. IsTrue (is_within (variables_of given nodes) l)) →
      Makes covers given nodes (unless_folded given nodes a b o) (λ v. is_true v a && is_true v b)
  unless None nodes a b sound first second value within =
      makes-as covers given nodes (shared given nodes (lower a b) (higher a b)) (λ v. is_true v (lower a b) && is_true v (higher a b)) (λ v. is_true v a && is_true v b)
      (makes-shared covers given nodes (lower a b) (higher a b) sound (ordered-within (variables_of given nodes) a b first second))
      (λ source v is. ordered-value v a b)
  unless (Some l) nodes a b sound first second value within =
      makes-literal covers given nodes l (λ v. is_true v a && is_true v b) sound within (λ source v is. value v is.yes)

  pub makes-conjoined : (nodes : List Node) (a b : ℤ) → AreSound given nodes → IsTrue (is_within (variables_of given nodes) a) → IsTrue (is_within (variables_of given nodes) b) →
      Makes covers given nodes (conjoined given nodes a b) (λ v. is_true v a && is_true v b)
  makes-conjoined nodes a b sound first second =
      unless (folded given a b) nodes a b sound first second
      (λ v e. folded-value v given a b e (positive (variables_of given nodes) b second)) (folded-within (variables_of given nodes) given a b (omega arith) first second)

  pub makes-either : (nodes : List Node) (a b : ℤ) → AreSound given nodes → IsTrue (is_within (variables_of given nodes) a) → IsTrue (is_within (variables_of given nodes) b) →
      Makes covers given nodes (either given nodes a b) (λ v. is_true v a || is_true v b)
  makes-either nodes a b sound first second =
      let n = variables_of given nodes in
      let both = makes-conjoined nodes (neg_ℤ a) (neg_ℤ b) sound (negated_within n a first) (negated_within n b second) in
      makes-as covers given nodes (either given nodes a b) (λ v. not (is_true v (neg_ℤ a) && is_true v (neg_ℤ b))) (λ v. is_true v a || is_true v b)
      (makes-negated covers given nodes (conjoined given nodes (neg_ℤ a) (neg_ℤ b)) (λ v. is_true v (neg_ℤ a) && is_true v (neg_ℤ b)) both)
      (λ source v is. rw (true-neg v a (positive n a first), true-neg v b (positive n b second)) (neither (is_true v a) (is_true v b)))

  -- a conjunction with one more literal
  pub makes-also : (old : List Node) (now : Built) (meaning : Assignment → Bool) (l : ℤ) → Makes covers given old now meaning → IsTrue (is_within (variables_of given now.nodes) l) →
      Makes covers given old (conjoined given now.nodes now.output l) (λ v. meaning v && is_true v l)
  makes-also old now meaning l makes within =
      let one = makes-conjoined now.nodes now.output l makes.sound makes.names within in
      let new = conjoined given now.nodes now.output l in
      makes-as covers given old new (λ v. is_true v now.output && is_true v l) (λ v. meaning v && is_true v l)
      (makes-then covers given old now new meaning (λ v. is_true v now.output && is_true v l) makes one)
      (λ source v is. ap (λ x. x && is_true v l) (value-kept covers given old now meaning one.more new.nodes makes one.grown source v is))

  pub makes-or : (old : List Node) (now : Built) (meaning : Assignment → Bool) (l : ℤ) → Makes covers given old now meaning → IsTrue (is_within (variables_of given now.nodes) l) →
      Makes covers given old (either given now.nodes now.output l) (λ v. meaning v || is_true v l)
  makes-or old now meaning l makes within =
      let one = makes-either now.nodes now.output l makes.sound makes.names within in
      let new = either given now.nodes now.output l in
      makes-as covers given old new (λ v. is_true v now.output || is_true v l) (λ v. meaning v || is_true v l)
      (makes-then covers given old now new meaning (λ v. is_true v now.output || is_true v l) makes one)
      (λ source v is. ap (λ x. x || is_true v l) (value-kept covers given old now meaning one.more new.nodes makes one.grown source v is))

  -- all of some literals
  all-so_far : (old : List Node) (now : Built) (meaning : Assignment → Bool) (literals : List ℤ) → Makes covers given old now meaning →
      IsTrue (clause_within (variables_of given now.nodes) literals) →
      Makes covers given old (fold (λ built l. conjoined given built.nodes built.output l) now literals) (λ v. meaning v && list_all (is_true v) literals)
  all-so_far old now meaning [] makes within = makes-as covers given old now meaning (λ v. meaning v && true) makes (λ source v is. sym (and_true (meaning v)))
  all-so_far old now meaning (l ∷ literals) makes within =
      let n = variables_of given now.nodes in
      let new = conjoined given now.nodes now.output l in
      let first = first_within n l literals within in
      let one = makes-conjoined now.nodes now.output l makes.sound makes.names first in
      let order : n ≤ variables_of given new.nodes = rw one.grown (variables-more given now.nodes one.more) in
      let m = λ (v : Assignment). meaning v && is_true v l in
      let rest = all-so_far old new m literals (makes-also old now meaning l makes first) (wider n (variables_of given new.nodes) order literals (rest_within n l literals within)) in
      makes-as covers given old (fold (λ built l. conjoined given built.nodes built.output l) new literals) (λ v. m v && list_all (is_true v) literals)
      (λ v. meaning v && list_all (is_true v) (l ∷ literals)) rest (λ source v is. and_assoc (meaning v) (is_true v l) (list_all (is_true v) literals))

  pub makes-yes : (nodes : List Node) → AreSound given nodes → Makes covers given nodes (record { nodes = nodes; output = yes given }) (λ v. true)
  makes-yes nodes sound = makes-literal covers given nodes (yes given) (λ v. true) sound (yes-within (variables_of given nodes) given (omega arith)) (λ source v is. is.yes)

  pub makes-no : (nodes : List Node) → AreSound given nodes → Makes covers given nodes (record { nodes = nodes; output = no given }) (λ v. false)
  makes-no nodes sound = makes-literal covers given nodes (no given) (λ v. false) sound (no-within (variables_of given nodes) given (omega arith)) (λ source v is. no-false v given is.yes)

  pub makes-all : (nodes : List Node) (literals : List ℤ) → AreSound given nodes → IsTrue (clause_within (variables_of given nodes) literals) →
      Makes covers given nodes (conjoined_all given nodes literals) (λ v. list_all (is_true v) literals)
  makes-all nodes literals sound within =
      all-so_far nodes (record { nodes = nodes; output = yes given }) (λ v. true) literals (makes-yes nodes sound) within
