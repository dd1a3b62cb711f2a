-- A relation at positions of which the last one is held too: its models are the chains whose last values are related.
use Rattle.std.proofs.Common.{◌≡◌, ℕ, zero, suc, ◌+◌, ◌*◌, ◌<◌, ◌≤◌, ℤ, pos, Bool, true, false, List, [], ◌∷◌, ◌++◌, map, length, replicate, inl, inr, refl, sym, ap, ◌∙◌, subst, arith}
use Rattle.std.specs.Prelude.{◌==◌, if◌then◌else◌}
use Rattle.std.specs.Bool.{IsTrue}
use Rattle.std.specs.List.{list_all}
use Rattle.std.proofs.lemmas.Bool.{and_from, and_parts, cases_lt, eq-eqb, ne_eqb}
use Rattle.std.proofs.lemmas.List.{length-replicate}
use Rattle.std.proofs.lemmas.List.Folds.{list_all-append}
use Rattle.clauses.specs.Models.{Assignment, IsModel, is_true, meets}
use Rattle.gates_theory.specs.declared.circuit.Gate.{Gate}
use Rattle.gates_theory.specs.declared.circuit.Gate.TheVariants.{Free}
use Rattle.gates_theory.specs.Circuits.{AreSame, gates_hold, literal_values, IsPath}
use Rattle.gates_theory.specs.Distinct.{following}
use Rattle.gates_theory.specs.Relations.{Relation, IsChain, IsClosed, circuit_of, is_related, variables_of}
use Rattle.gates_theory.specs.Terms.{Term, built, built_all, term_within, value}
use Rattle.gates_theory.specs.Unrolled.{links, position_clauses, positions_of, units, unrolled, gates_clauses}
use Rattle.gates_theory.proofs.Chains.{path-chain, relation-sound, chain-model}
use Rattle.gates_theory.proofs.Models.{model-path}
use Rattle.gates_theory.proofs.Parts.{units-met}
use Rattle.gates_theory.proofs.TermValues.{term-built, term-value}
use Rattle.run_terms.specs.Formulas.{whole}

-- values over positions that are related at each of the first so many, each of which the one before gives
pub record IsWhole (relation : Relation) (last : ℕ) (values : ℕ → Assignment) : Type 0 where
  pub related : (position : ℕ) → position ≤ last → IsTrue (is_related relation (values position))
  pub moves : (position bit : ℕ) → position < last → bit < relation.width
      → values (suc position) (suc bit) ≡ values position (suc (relation.width + bit))

-- the literals of bits one by one
pub same-bits : (v w : Assignment) (count low high : ℕ) → literal_values v (following low count) ≡ literal_values w (following high count)
    → (k : ℕ) → k < count → v (suc (low + k)) ≡ w (suc (high + k))
same-bits v w zero low high e k below = absurd (omega arith)
same-bits v w (suc count) low high e zero below =
    let first : v (suc low) ≡ w (suc high) = cc in ap (λ n. v (suc n)) (omega arith) ∙ first ∙ ap (λ n. w (suc n)) (omega arith)
same-bits v w (suc count) low high e (suc k) below =
    let rest : literal_values v (following (suc low) count) ≡ literal_values w (following (suc high) count) = cc in
    ap (λ n. v (suc n)) (omega arith) ∙ same-bits v w count (suc low) (suc high) rest k (omega arith) ∙ ap (λ n. w (suc n)) (omega arith)

pub bits-same : (v w : Assignment) (count low high : ℕ) → ((k : ℕ) → k < count → v (suc (low + k)) ≡ w (suc (high + k)))
    → literal_values v (following low count) ≡ literal_values w (following high count)
bits-same v w zero low high each = refl
bits-same v w (suc count) low high each =
    let first : v (suc low) ≡ w (suc high) = ap (λ n. v (suc n)) (omega arith) ∙ each 0 (omega arith) ∙ ap (λ n. w (suc n)) (omega arith) in
    let rest = bits-same v w count (suc low) (suc high)
    (λ k below. ap (λ n. v (suc n)) (omega arith) ∙ each (suc k) (omega arith) ∙ ap (λ n. w (suc n)) (omega arith)) in
    rw (first, rest)

-- a position of a circuit at one place: its gates alone
pub chain-moves : (r : Relation) (positions : ℕ) (values : ℕ → Assignment) → IsChain r positions values
    → (i k : ℕ) → suc i < positions → k < r.width → values (suc i) (suc k) ≡ values i (suc (r.width + k))
chain-moves r positions values chain i k below low =
    ap (λ n. values (suc i) (suc n)) (omega arith) ∙ same-bits (values (suc i)) (values i) r.width 0 r.width (chain.moves i below) k low

-- where the gates of terms are as they should be, their literals have the values of the terms
all-values : (values : Assignment) (variables : ℕ) (gates : List Gate) (terms : List Term) → IsTrue (list_all (term_within variables) terms) → variables ≤ length gates
    → IsTrue (gates_hold values 0 (built_all gates terms).gates)
    → (list_all (is_true values) (built_all gates terms).outputs ≡ list_all (value values) terms) × IsTrue (gates_hold values 0 gates)
all-values values variables gates [] within few hold = (refl, hold)
all-values values variables gates (term ∷ terms) within few hold =
    let parts = and_parts (term_within variables term) (list_all (term_within variables) terms) within in
    let a = term-built variables gates term parts.0 few in
    let rest = all-values values variables (built gates term).gates terms parts.1 (omega (arith, a.length_is)) hold in
    let here = term-value values variables gates term parts.0 few rest.1 in
    (rw (here.0, rest.0), here.1)

pub held-related : (r : Relation) (values : Assignment) → IsClosed r → IsTrue (gates_hold values 0 (circuit_of r).gates)
    → list_all (is_true values) (circuit_of r).hold ≡ is_related r values
held-related r values closed gates =
    (all-values values (variables_of r) (replicate (variables_of r) Free) r.holds closed
    (omega (arith, length-replicate (variables_of r) Free)) gates).0

pub whole-says : (r : Relation) (last : ℕ) (values : Assignment) → IsClosed r → IsModel values (whole r last)
    → IsWhole r last (positions_of (circuit_of r) values)
whole-says r last values closed model =
    let c = circuit_of r in
    let parts = and_parts (list_all (meets values) (unrolled c (suc last))) (list_all (meets values) (units (last * length c.gates) c.hold))
    (sym (list_all-append (meets values) (unrolled c (suc last)) (units (last * length c.gates) c.hold)) ∙ model) in
    let path = model-path c (suc last) values (relation-sound r closed) parts.0 in
    let chain = path-chain r (suc last) (positions_of c values) closed path in
    record {
      related = λ i below. elim (cases_lt i last) [
        | inl lower ↦ chain.related i (omega arith)
        | inr upper ↦ let e : last ≡ i = omega arith in
            subst (λ k. IsTrue (is_related r (positions_of c values k))) e
            (sym (held-related r (positions_of c values last) closed (path.gates last (omega arith)))
            ∙ sym (units-met values (last * length c.gates) c.hold) ∙ parts.1)
      ];
      moves = λ i k below low. chain-moves r (suc last) (positions_of c values) chain i k (omega arith) low;
    }

-- one position more, whose state is what comes after the last
after_last : Relation → ℕ → (ℕ → Assignment) → ℕ → Assignment
after_last r last values i = if i == suc last then (λ variable. values last (r.width + variable)) else values i

module _ (r : Relation) (last : ℕ) (values : ℕ → Assignment) where
  after_last-before : (i : ℕ) → i ≤ last → after_last r last values i ≡ values i
  unfolding after_last
  after_last-before i below = rw (ne_eqb i (suc last) (λ e. omega arith)) refl

  after_last-at : after_last r last values (suc last) ≡ (λ variable. values last (r.width + variable))
  unfolding after_last
  after_last-at = rw (eq-eqb (suc last) (suc last) refl) refl

  one-more : IsWhole r last values → IsChain r (suc (suc last)) (after_last r last values)
  one-more is = record {
    related = λ i below. rw (after_last-before i (omega arith)) (is.related i (omega arith));
    moves = λ i below. rw (after_last-before i (omega arith)) (elim (cases_lt i last) as (λ _. literal_values (after_last r last values (suc i)) (following 0 r.width) ≡ literal_values (values i) (following r.width r.width)) [
      | inl lower ↦ rw (after_last-before (suc i) lower) (bits-same (values (suc i)) (values i) r.width 0 r.width
          (λ k low. ap (λ n. values (suc i) (suc n)) (omega arith) ∙ is.moves i k lower low))
      | inr upper ↦ let e : i ≡ last = omega arith in
          rw (e, after_last-at) (bits-same (λ variable. values last (r.width + variable)) (values last) r.width 0 r.width
          (λ k low. ap (λ n. values last n) (omega arith)))
    ]);
  }

pub says-whole : (r : Relation) (last : ℕ) (values : ℕ → Assignment) → IsClosed r → IsWhole r last values
    → (model : Assignment) × IsModel model (whole r last)
    × ((i : ℕ) → i ≤ last → AreSame (variables_of r) (positions_of (circuit_of r) model i) (values i))
says-whole r last values closed is =
    let c = circuit_of r in
    let some = chain-model r (suc (suc last)) (after_last r last values) closed (one-more r last values is) in
    let all : IsTrue (list_all (meets some.0) (unrolled c (suc last) ++ position_clauses c (suc last))) = some.1 in
    let first = and_parts (list_all (meets some.0) (unrolled c (suc last))) (list_all (meets some.0) (position_clauses c (suc last)))
    (sym (list_all-append (meets some.0) (unrolled c (suc last)) (position_clauses c (suc last))) ∙ all) in
    let held = units (last * length c.gates) c.hold in
    let linked = links (suc last * length c.gates) (last * length c.gates) c.now c.next in
    let gated = gates_clauses (suc last * length c.gates) 0 c.gates in
    let outer = and_parts (list_all (meets some.0) (held ++ linked)) (list_all (meets some.0) gated)
    (sym (list_all-append (meets some.0) (held ++ linked) gated) ∙ first.1) in
    let second = and_parts (list_all (meets some.0) held) (list_all (meets some.0) linked)
    (sym (list_all-append (meets some.0) held linked) ∙ outer.0) in (
      some.0,
      list_all-append (meets some.0) (unrolled c (suc last)) held
          ∙ and_from (list_all (meets some.0) (unrolled c (suc last))) (list_all (meets some.0) held) first.0 second.0,
      λ i below. subst (λ v. AreSame (variables_of r) (positions_of c some.0 i) v) (after_last-before r last values i below) (some.2 i),
    )
