-- Values computed node by node.
use Rattle.std.proofs.Common.{◌≡◌, ℕ, suc, ◌≤◌, ◌==◌, Bool, true, ◌&&◌, List, [], ◌∷◌, refl, sym, ap, ◌∙◌, arith}
use Rattle.std.specs.Bool.{IsTrue}
use Rattle.std.proofs.lemmas.Bool.{and_from, and_parts, cond-false, cond-true, eq-eqb, ne_eqb}
use Rattle.clauses.specs.Literals.{is_within}
use Rattle.clauses.specs.Models.{Assignment, is_true}
use Rattle.gates_theory.specs.Circuits.{AreSame, same}
use Rattle.gates_theory.proofs.Agreement.{same-fewer, same-literal, same-values}
use Rattle.gates_theory.proofs.Parts.{same-from}
use Rattle.gates_nodes.specs.declared.cover.Cover.{Cover}
use Rattle.gates_nodes.specs.declared.node.Node.{Node}
use Rattle.gates_nodes.specs.declared.node.Node.TheVariants.{Free, And, Lut}
use Rattle.gates_nodes.specs.Clauses.{evaluated, with_value}
use Rattle.gates_nodes.specs.Makes.{AreSound}
use Rattle.gates_nodes.specs.Nodes.{IsEvaluation, Source, any, cover_at, fits_some, node_value, node_within, nodes_hold, nodes_within, told}

pub with_value-here : (v : Assignment) (variable : ℕ) (value : Bool) → with_value v variable value variable ≡ value
with_value-here v variable value = cond-true (variable == variable) value (v variable) (eq-eqb variable variable refl)

pub with_value-there : (v : Assignment) (variable other : ℕ) (value : Bool) → (other ≡ variable → ⊥) → with_value v variable value other ≡ v other
with_value-there v variable other value apart = cond-false (other == variable) value (v other) (ne_eqb other variable apart)

-- a source that is asked twice says the same
pub record IsSteady (source : Source) : Type 0 where
  pub again : (frame bit : ℕ) (value : Bool) → source frame bit (source frame bit value) ≡ source frame bit value

pub any-steady : IsSteady any
any-steady = record { again = λ frame bit value. refl }

pub told-steady : (bits : ℕ → ℕ → Bool) → IsSteady (told bits)
told-steady bits = record { again = λ frame bit value. refl }

module _ (covers : List Cover) (source : Source) where
  -- variables before the nodes keep their values
  pub evaluated-before : (v : Assignment) (before : ℕ) (nodes : List Node) (k : ℕ) → k ≤ before → evaluated covers source v before nodes k ≡ v k
  evaluated-before v before [] k few = refl
  evaluated-before v before (node ∷ nodes) k few =
      let value = node_value covers source v before node in
      evaluated-before (with_value v (suc before) value) (suc before) nodes k (omega arith)
      ∙ with_value-there v (suc before) k value (λ e. omega arith)

  pub evaluated-same : (v : Assignment) (before : ℕ) (nodes : List Node) → AreSame before (evaluated covers source v before nodes) v
  evaluated-same v before nodes k some few = evaluated-before v before nodes k few

  -- the value of a node hangs on what it names
  node-same : (v w : Assignment) (before : ℕ) (node : Node) → AreSame before v w → IsTrue (node_within before node) → v (suc before) ≡ w (suc before) →
      node_value covers source v before node ≡ node_value covers source w before node
  node-same v w before (Free frame bit) agree within here = ap (source frame bit) here
  node-same v w before (And first second) agree within here =
      let parts = and_parts (is_within before first) (is_within before second) within in
      rw (same-literal before v w agree first parts.0, same-literal before v w agree second parts.1) refl
  node-same v w before (Lut cover a b c d) agree within here =
      ap (fits_some (cover_at covers cover).on) (same-values before v w agree (a ∷ b ∷ c ∷ d ∷ []) within)

  -- once a node has its value, it should have it
  node-steady : (v : Assignment) (before : ℕ) (node : Node) → IsSteady source → IsTrue (node_within before node) →
      node_value covers source (with_value v (suc before) (node_value covers source v before node)) before node ≡ node_value covers source v before node
  node-steady v before (Free frame bit) steady within =
      ap (source frame bit) (with_value-here v (suc before) (source frame bit (v (suc before)))) ∙ steady.again frame bit (v (suc before))
  node-steady v before (And first second) steady within =
      let value = is_true v first && is_true v second in
      let agree : AreSame before (with_value v (suc before) value) v = λ k some few. with_value-there v (suc before) k value (λ e. omega arith) in
      let parts = and_parts (is_within before first) (is_within before second) within in
      rw (same-literal before (with_value v (suc before) value) v agree first parts.0, same-literal before (with_value v (suc before) value) v agree second parts.1) refl
  node-steady v before (Lut cover a b c d) steady within =
      let value = node_value covers source v before (Lut cover a b c d) in
      let agree : AreSame before (with_value v (suc before) value) v = λ k some few. with_value-there v (suc before) k value (λ e. omega arith) in
      ap (fits_some (cover_at covers cover).on) (same-values before (with_value v (suc before) value) v agree (a ∷ b ∷ c ∷ d ∷ []) within)

  pub evaluated-hold : (v : Assignment) (before : ℕ) (nodes : List Node) → IsSteady source → IsTrue (nodes_within before nodes) →
      IsTrue (nodes_hold covers source (evaluated covers source v before nodes) before nodes)
  evaluated-hold v before [] steady within = refl
  evaluated-hold v before (node ∷ nodes) steady within =
      let parts = and_parts (node_within before node) (nodes_within (suc before) nodes) within in
      let value = node_value covers source v before node in
      let u = with_value v (suc before) value in
      let w = evaluated covers source u (suc before) nodes in
      let here : w (suc before) ≡ u (suc before) = evaluated-before u (suc before) nodes (suc before) (omega arith) in
      let agree : AreSame before w u = same-fewer before (suc before) w u (omega arith) (evaluated-same u (suc before) nodes) in
      and_from (same (w (suc before)) (node_value covers source w before node)) (nodes_hold covers source w (suc before) nodes)
      (same-from (w (suc before)) (node_value covers source w before node)
      (here ∙ with_value-here v (suc before) value ∙ sym (node-same w u before node agree parts.0 here ∙ node-steady v before node steady parts.0)))
      (evaluated-hold u (suc before) nodes steady parts.1)

  pub evaluated-is : (given : ℕ) (v : Assignment) (nodes : List Node) → IsSteady source → AreSound given nodes → v (suc given) ≡ true →
      IsEvaluation covers given source (evaluated covers source v (suc given) nodes) nodes
  evaluated-is given v nodes steady sound e = record {
    yes = evaluated-before v (suc given) nodes (suc given) (omega arith) ∙ e;
    hold = evaluated-hold v (suc given) nodes steady sound;
  }

  pub agree-node : (v w : Assignment) (before : ℕ) (node : Node) → AreSame before v w → IsTrue (node_within before node) → v (suc before) ≡ w (suc before) →
      node_value covers source v before node ≡ node_value covers source w before node
  agree-node = node-same
