-- The paths of a relation's circuit are its chains.
use Rattle.std.proofs.Common.{◌≡◌, ℕ, zero, suc, ◌+◌, ◌<◌, ◌≤◌, ℤ, pos, true, List, [], ◌∷◌, ◌++◌, length, replicate, slice_get, Some, refl, sym, ap, ◌∙◌, subst, arith, length-append, append_assoc}
use Rattle.std.specs.Bool.{IsTrue}
use Rattle.std.specs.List.{list_all, All}
use Rattle.std.proofs.lemmas.Bool.{and_from, and_parts}
use Rattle.std.proofs.lemmas.List.{append-nil, length-replicate}
use Rattle.std.proofs.lemmas.List.Elements.{All-cons, All-nil}
use Rattle.clauses.specs.Literals.{is_within, clause_within}
use Rattle.clauses.specs.Models.{Assignment, IsModel, is_true}
use Rattle.gates_theory.specs.declared.circuit.Gate.{Gate}
use Rattle.gates_theory.specs.declared.circuit.Gate.TheVariants.{Free}
use Rattle.gates_theory.specs.Circuits.{AreSame, IsPath, IsSound, IsStateBit, gates_hold, gates_within}
use Rattle.gates_theory.specs.Distinct.{following}
use Rattle.gates_theory.specs.Relations.{Relation, IsChain, IsClosed, circuit_of, variables_of}
use Rattle.gates_theory.specs.Terms.{Term, value, term_within, built, built_all}
use Rattle.gates_theory.specs.Unrolled.{positions_of, unrolled}
use Rattle.gates_theory.proofs.Agreement.{same-fewer, same-values}
use Rattle.gates_theory.proofs.Completions.{filled-gates, frees-hold, frees-within}
use Rattle.gates_theory.proofs.Joining.{path-some_model}
use Rattle.gates_theory.proofs.Models.{model-path}
use Rattle.gates_theory.proofs.Sizes.{length-following}
use Rattle.gates_theory.proofs.TermValues.{gates_hold-append, same-value, term-built, term-value}
use Rattle.gates_theory.proofs.Within.{following-within, wider}

-- the gates of all terms behind others
record AreBuilt (gates new : List Gate) (outputs : List ℤ) : Type 0 where
  more : List Gate
  behind : new ≡ gates ++ more
  outputs_within : IsTrue (clause_within (length new) outputs)
  within : IsTrue (gates_within 0 gates) → IsTrue (gates_within 0 new)

no_fewer : (gates more new : List Gate) → new ≡ gates ++ more → length gates ≤ length new
no_fewer gates more new e = omega (arith, ap length e, length-append gates more)

all-built : (variables : ℕ) (gates : List Gate) (terms : List Term) → IsTrue (list_all (term_within variables) terms) → variables ≤ length gates →
    AreBuilt gates (built_all gates terms).gates (built_all gates terms).outputs
all-built variables gates [] within few = record { more = []; behind = sym (append-nil gates); outputs_within = refl; within = λ old. old }
all-built variables gates (term ∷ terms) within few =
    let parts = and_parts (term_within variables term) (list_all (term_within variables) terms) within in
    let first = built gates term in
    let a = term-built variables gates term parts.0 few in
    let b = all-built variables first.gates terms parts.1 (omega (arith, a.length_is)) in
    let all = (built_all first.gates terms).gates in
    let order = no_fewer first.gates b.more all b.behind in
    let outputs = (built_all first.gates terms).outputs in
    let one = wider (length first.gates) (length all) order (first.output ∷ []) (and_from (is_within (length first.gates) first.output) true a.output_within refl) in
    record {
      more = a.more ++ b.more;
      behind = b.behind ∙ ap (λ g. g ++ b.more) a.behind ∙ append_assoc gates a.more b.more;
      outputs_within = and_from (is_within (length all) first.output) (clause_within (length all) outputs)
          (and_parts (is_within (length all) first.output) true one).0 b.outputs_within;
      within = λ old. b.within (a.within old);
    }

-- the literals have the values of the terms
all-values : (values : Assignment) (variables : ℕ) (gates : List Gate) (terms : List Term) → IsTrue (list_all (term_within variables) terms) → variables ≤ length gates →
    IsTrue (gates_hold values 0 (built_all gates terms).gates) →
    (list_all (is_true values) (built_all gates terms).outputs ≡ list_all (value values) terms) × IsTrue (gates_hold values 0 gates)
all-values values variables gates [] within few hold = (refl, hold)
all-values values variables gates (term ∷ terms) within few hold =
    let parts = and_parts (term_within variables term) (list_all (term_within variables) terms) within in
    let a = term-built variables gates term parts.0 few in
    let rest = all-values values variables (built gates term).gates terms parts.1 (omega (arith, a.length_is)) hold in
    let here = term-value values variables gates term parts.0 few rest.1 in
    (rw (here.0, rest.0), here.1)

all-same : (n : ℕ) (v w : Assignment) → AreSame n v w → (terms : List Term) → IsTrue (list_all (term_within n) terms) → list_all (value v) terms ≡ list_all (value w) terms
all-same n v w agree [] within = refl
all-same n v w agree (term ∷ terms) within =
    let parts = and_parts (term_within n term) (list_all (term_within n) terms) within in
    rw (same-value n v w agree term parts.0, all-same n v w agree terms parts.1)

abbrev frees_of : Relation → List Gate
frees_of r = replicate (variables_of r) Free

frees-length : (r : Relation) → variables_of r ≤ length (frees_of r)
frees-length r = omega (arith, length-replicate (variables_of r) Free)

relation-built : (r : Relation) → IsClosed r → AreBuilt (frees_of r) (circuit_of r).gates (circuit_of r).hold
relation-built r closed = all-built (variables_of r) (frees_of r) r.holds closed (frees-length r)

-- the state bits
free-at : (count k : ℕ) (more : List Gate) → k < count → slice_get (replicate count Free ++ more) k ≡ Some Free
free-at zero k more below = absurd (omega arith)
free-at (suc count) zero more below = refl
free-at (suc count) (suc k) more below = free-at count k more (omega arith)

bits-free : (gates more : List Gate) (count first width : ℕ) → gates ≡ replicate count Free ++ more → first + width ≤ count → All (IsStateBit gates) (following first width)
bits-free gates more count first zero e few = All-nil (IsStateBit gates)
bits-free gates more count first (suc width) e few =
    All-cons (IsStateBit gates) (pos (suc first)) (following (suc first) width)
    (first, refl, ap (λ g. slice_get g first) e ∙ free-at count first more (omega arith))
    (bits-free gates more count (suc first) width e (omega arith))

relation-few : (r : Relation) → IsClosed r → variables_of r ≤ length (circuit_of r).gates
relation-few r closed =
    let b = relation-built r closed in omega (arith, frees-length r, no_fewer (frees_of r) b.more (circuit_of r).gates b.behind)

pub relation-sound : (r : Relation) → IsClosed r → IsSound (circuit_of r)
relation-sound r closed =
    let b = relation-built r closed in
    let gates = (circuit_of r).gates in
    record {
      gates = b.within (frees-within 0 (variables_of r));
      now = bits-free gates b.more (variables_of r) 0 r.width b.behind (omega arith);
      next = following-within (length gates) r.width r.width (omega (arith, relation-few r closed));
      each = length-following r.width r.width ∙ sym (length-following 0 r.width);
      hold = b.outputs_within;
    }

-- a path is a chain
pub path-chain : (r : Relation) (positions : ℕ) (values : ℕ → Assignment) → IsClosed r → IsPath (circuit_of r) positions values → IsChain r positions values
path-chain r positions values closed path = record {
  related = λ i below.
      sym (all-values (values i) (variables_of r) (frees_of r) r.holds closed (frees-length r) (path.gates i (omega arith))).0 ∙ path.hold i below;
  moves = path.moves;
}

-- and the values of a chain go on to all gates
fill : (r : Relation) (values : Assignment) → IsClosed r →
    (further : Assignment) × AreSame (variables_of r) further values × IsTrue (gates_hold further 0 (circuit_of r).gates)
fill r values closed =
    let n = variables_of r in
    let b = relation-built r closed in
    let size : length (frees_of r) ≡ n = length-replicate n Free in
    let all : IsTrue (gates_within 0 (frees_of r ++ b.more)) = subst (λ g. IsTrue (gates_within 0 g)) b.behind (b.within (frees-within 0 n)) in
    let new = filled-gates values n b.more (rest_within n (frees_of r) b.more size all) in
    let hold : IsTrue (gates_hold new.0 0 (frees_of r ++ b.more)) =
    gates_hold-append new.0 0 n (frees_of r) b.more (omega (arith, size))
    ∙ and_from (gates_hold new.0 0 (frees_of r)) (gates_hold new.0 n b.more) (frees-hold new.0 0 n) new.2 in
    (new.0, new.1, subst (λ g. IsTrue (gates_hold new.0 0 g)) (sym b.behind) hold)
  where
    rest_from : (before after : ℕ) (gates more : List Gate) → after ≡ before + length gates → IsTrue (gates_within before (gates ++ more)) → IsTrue (gates_within after more)
    rest_from before after [] more e within = let same_place : before ≡ after = omega arith in subst (λ k. IsTrue (gates_within k more)) same_place within
    rest_from before after (gate ∷ gates) more e within = rest_from (suc before) after gates more (omega arith) (and_parts _ _ within).1

    rest_within : (n : ℕ) (gates more : List Gate) → length gates ≡ n → IsTrue (gates_within 0 (gates ++ more)) → IsTrue (gates_within n more)
    rest_within n gates more size within = rest_from 0 n gates more (omega arith) within

chain-path : (r : Relation) (positions : ℕ) (values : ℕ → Assignment) (closed : IsClosed r) → IsChain r positions values →
    IsPath (circuit_of r) positions (λ i. (fill r (values i) closed).0)
chain-path r positions values closed chain =
    let n = variables_of r in
    let made : ℕ → Assignment = λ i. (fill r (values i) closed).0 in
    let same : (i : ℕ) → AreSame n (made i) (values i) = λ i. (fill r (values i) closed).1 in
    let hold : (i : ℕ) → IsTrue (gates_hold (made i) 0 (circuit_of r).gates) = λ i. (fill r (values i) closed).2 in
    record {
      gates = λ i below. hold i;
      hold = λ i below.
          (all-values (made i) n (frees_of r) r.holds closed (frees-length r) (hold i)).0
          ∙ all-same n (made i) (values i) (same i) r.holds closed
          ∙ chain.related i below;
      moves = λ i below.
          same-values n (made (suc i)) (values (suc i)) (same (suc i)) (following 0 r.width) (following-within n 0 r.width (omega arith))
          ∙ chain.moves i below
          ∙ sym (same-values n (made i) (values i) (same i) (following r.width r.width) (following-within n r.width r.width (omega arith)));
    }

pub model-chain : (r : Relation) (positions : ℕ) (values : Assignment) → IsClosed r → IsModel values (unrolled (circuit_of r) positions) →
    IsChain r positions (positions_of (circuit_of r) values)
model-chain r positions values closed model =
    path-chain r positions (positions_of (circuit_of r) values) closed (model-path (circuit_of r) positions values (relation-sound r closed) model)

pub chain-model : (r : Relation) (positions : ℕ) (chain : ℕ → Assignment) → IsClosed r → IsChain r positions chain →
    (values : Assignment) × IsModel values (unrolled (circuit_of r) positions) × ((i : ℕ) → AreSame (variables_of r) (positions_of (circuit_of r) values i) (chain i))
chain-model r positions chain closed is =
    let c = circuit_of r in
    let made : ℕ → Assignment = λ i. (fill r (chain i) closed).0 in
    let some = path-some_model c positions made (relation-sound r closed) (chain-path r positions chain closed is) in (
      some.0,
      some.1,
      λ i k low high. same-fewer (variables_of r) (length c.gates) (positions_of c some.0 i) (made i) (relation-few r closed) (some.2 i) k low high
          ∙ (fill r (chain i) closed).1 k low high,
    )
