-- What the literal of a comparison says.
use Rattle.std.proofs.Common.{◌≡◌, ℤ, neg_ℤ, Bool, true, false, not, ◌&&◌, ◌||◌, List, [], ◌∷◌, map, length, refl, sym, ap, ◌∙◌, arith}
use Rattle.std.specs.Bool.{IsTrue}
use Rattle.clauses.specs.Literals.{clause_within, is_within}
use Rattle.clauses.specs.Models.{Assignment, is_true}
use Rattle.gates_letters.proofs.Parts.{makes-joined, made-more}
use Rattle.gates_nodes.specs.declared.cover.Cover.{Cover}
use Rattle.gates_nodes.specs.declared.node.Node.{Node}
use Rattle.gates_nodes.specs.Folding.{conjoined, either}
use Rattle.gates_nodes.specs.Makes.{AreSound, Makes}
use Rattle.gates_nodes.specs.Nodes.{variables_of}
use Rattle.gates_nodes.proofs.Folds.{makes-conjoined, makes-either}
use Rattle.gates_nodes.proofs.Literals.{first_within, positive, rest_within}
use Rattle.gates_nodes.proofs.Making.{makes-as, makes-literal, makes-then, names-kept, value-kept}
use Rattle.gates_theory.proofs.Literals.{true-neg}
use Rattle.gates_theory.proofs.Within.{negated_within, wider}
use Rattle.gates_theory.specs.Terms.Term.{Literal}
use Rattle.run_terms.specs.Numbers.{number_of}
use Rattle.run_terms.proofs.NumberValues.{at_most-value, compared}
use Rattle.bounded.specs.Obligations.{digit_exceeds, exceeds, not_less}

-- what a digit adds to what is known of those before
abbrev above : Bool → Bool → Bool → Bool
above over a b = (a && not b) || (over && (a || not b))

same_above : (over a b : Bool) → not (not (over && not (not a && b)) && not (a && not b)) ≡ above over a b
same_above true true true = refl
same_above true true false = refl
same_above true false true = refl
same_above true false false = refl
same_above false true true = refl
same_above false true false = refl
same_above false false true = refl
same_above false false false = refl

none-compared : (over : Bool) → over ≡ not (compared over 0 0)
none-compared true = refl
none-compared false = refl

-- a comparison digit by digit
compared-next : (v : Assignment) (over first second : ℤ) (firsts seconds : List ℤ) → length firsts ≡ length seconds
    → compared (is_true v over) (number_of (map (is_true v) (first ∷ firsts))) (number_of (map (is_true v) (second ∷ seconds)))
    ≡ compared (above (is_true v over) (is_true v first) (is_true v second)) (number_of (map (is_true v) firsts)) (number_of (map (is_true v) seconds))
compared-next v over first second firsts seconds e =
    sym (at_most-value v (Literal over) (first ∷ firsts) (second ∷ seconds) (omega arith))
    ∙ at_most-value v _ firsts seconds e
    ∙ ap (λ b. compared b (number_of (map (is_true v) firsts)) (number_of (map (is_true v) seconds))) (same_above (is_true v over) (is_true v first) (is_true v second))

module _ (covers : List Cover) where
  or_not : (nodes : List Node) (a b : ℤ) → AreSound 0 nodes → IsTrue (is_within (variables_of 0 nodes) a) → IsTrue (is_within (variables_of 0 nodes) b)
      → Makes covers 0 nodes (either 0 nodes a (neg_ℤ b)) (λ v. is_true v a || not (is_true v b))
  or_not nodes a b sound one two =
      makes-as covers 0 nodes (either 0 nodes a (neg_ℤ b)) (λ v. is_true v a || is_true v (neg_ℤ b)) (λ v. is_true v a || not (is_true v b))
      (makes-either covers 0 nodes a (neg_ℤ b) sound one (negated_within (variables_of 0 nodes) b two))
      (λ source v is. ap (λ x. is_true v a || x) (true-neg v b (positive (variables_of 0 nodes) b two)))

  pub and_not : (nodes : List Node) (a b : ℤ) → AreSound 0 nodes → IsTrue (is_within (variables_of 0 nodes) a) → IsTrue (is_within (variables_of 0 nodes) b)
      → Makes covers 0 nodes (conjoined 0 nodes a (neg_ℤ b)) (λ v. is_true v a && not (is_true v b))
  and_not nodes a b sound one two =
      makes-as covers 0 nodes (conjoined 0 nodes a (neg_ℤ b)) (λ v. is_true v a && is_true v (neg_ℤ b)) (λ v. is_true v a && not (is_true v b))
      (makes-conjoined covers 0 nodes a (neg_ℤ b) sound one (negated_within (variables_of 0 nodes) b two))
      (λ source v is. ap (λ x. is_true v a && x) (true-neg v b (positive (variables_of 0 nodes) b two)))

  makes-not_less : (nodes : List Node) (over a b : ℤ) → AreSound 0 nodes → IsTrue (is_within (variables_of 0 nodes) over) → IsTrue (is_within (variables_of 0 nodes) a) → IsTrue (is_within (variables_of 0 nodes) b)
      → Makes covers 0 nodes (not_less over a b nodes) (λ v. is_true v over && (is_true v a || not (is_true v b)))
  makes-not_less nodes over a b sound zero one two =
      let part = either 0 nodes a (neg_ℤ b) in
      let m = λ (v : Assignment). is_true v a || not (is_true v b) in
      let made : Makes covers 0 nodes part m = or_not nodes a b sound one two in
      let both = λ (v : Assignment). is_true v over && is_true v part.output in
      let last : Makes covers 0 part.nodes (not_less over a b nodes) both =
      makes-conjoined covers 0 part.nodes over part.output made.sound (names-kept covers 0 nodes made.more part.nodes over made.grown zero) made.names in
      makes-as covers 0 nodes (not_less over a b nodes) both (λ v. is_true v over && m v)
      (makes-then covers 0 nodes part (not_less over a b nodes) m both made last)
      (λ source v is. ap (λ x. is_true v over && x) (value-kept covers 0 nodes part m last.more (not_less over a b nodes).nodes made last.grown source v is))

  pub makes-digit : (nodes : List Node) (over a b : ℤ) → AreSound 0 nodes → IsTrue (is_within (variables_of 0 nodes) over) → IsTrue (is_within (variables_of 0 nodes) a) → IsTrue (is_within (variables_of 0 nodes) b)
      → Makes covers 0 nodes (digit_exceeds over a b nodes) (λ v. above (is_true v over) (is_true v a) (is_true v b))
  makes-digit nodes over a b sound zero one two =
      let first = λ (others : List Node). conjoined 0 others a (neg_ℤ b) in
      let m = λ (v : Assignment). is_true v a && not (is_true v b) in
      let made : Makes covers 0 nodes (first nodes) m = and_not nodes a b sound one two in
      let wide = λ (l : ℤ) (within : IsTrue (is_within (variables_of 0 nodes) l)). names-kept covers 0 nodes made.more (first nodes).nodes l made.grown within in
      makes-joined covers 0 (either 0) (λ x y. x || y) nodes first (not_less over a b) m (λ v. is_true v over && (is_true v a || not (is_true v b)))
      (makes-either covers 0) made
      (makes-not_less (first nodes).nodes over a b made.sound (wide over zero) (wide a one) (wide b two))

  -- the comparison of two numbers of as many digits
  pub makes-exceeds : (firsts seconds : List ℤ) (nodes : List Node) (over : ℤ) → length firsts ≡ length seconds → AreSound 0 nodes → IsTrue (is_within (variables_of 0 nodes) over)
      → IsTrue (clause_within (variables_of 0 nodes) firsts) → IsTrue (clause_within (variables_of 0 nodes) seconds)
      → Makes covers 0 nodes (exceeds over firsts seconds nodes)
      (λ v. not (compared (is_true v over) (number_of (map (is_true v) firsts)) (number_of (map (is_true v) seconds))))
  makes-exceeds [] [] nodes over e sound here firsts_in seconds_in =
      makes-literal covers 0 nodes over (λ v. not (compared (is_true v over) 0 0)) sound here (λ source v is. none-compared (is_true v over))
  makes-exceeds [] (b ∷ seconds) nodes over e sound here firsts_in seconds_in = absurd (omega arith)
  makes-exceeds (a ∷ firsts) [] nodes over e sound here firsts_in seconds_in = absurd (omega arith)
  makes-exceeds (a ∷ firsts) (b ∷ seconds) nodes over e sound here firsts_in seconds_in =
      let n = variables_of 0 nodes in
      let part = digit_exceeds over a b nodes in
      let m = λ (v : Assignment). above (is_true v over) (is_true v a) (is_true v b) in
      let made : Makes covers 0 nodes part m = makes-digit nodes over a b sound here (first_within n a firsts firsts_in) (first_within n b seconds seconds_in) in
      let more = made-more covers 0 nodes part m made in
      let whole = exceeds part.output firsts seconds part.nodes in
      let rest_says = λ (v : Assignment). not (compared (is_true v part.output) (number_of (map (is_true v) firsts)) (number_of (map (is_true v) seconds))) in
      let rest : Makes covers 0 part.nodes whole rest_says =
      makes-exceeds firsts seconds part.nodes part.output (omega arith) made.sound made.names
      (wider n (variables_of 0 part.nodes) more firsts (rest_within n a firsts firsts_in))
      (wider n (variables_of 0 part.nodes) more seconds (rest_within n b seconds seconds_in)) in
      makes-as covers 0 nodes whole rest_says
      (λ v. not (compared (is_true v over) (number_of (map (is_true v) (a ∷ firsts))) (number_of (map (is_true v) (b ∷ seconds)))))
      (makes-then covers 0 nodes part whole m rest_says made rest)
      (λ source v is. ap (λ x. not (compared x (number_of (map (is_true v) firsts)) (number_of (map (is_true v) seconds))))
      (value-kept covers 0 nodes part m rest.more whole.nodes made rest.grown source v is)
      ∙ ap not (sym (compared-next v over a b firsts seconds (omega arith))))
