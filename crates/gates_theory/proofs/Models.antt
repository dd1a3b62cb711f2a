-- The models of an unrolled circuit are its paths.
use Rattle.std.proofs.Common.{◌≡◌, ℕ, zero, suc, ◌*◌, ◌<◌, ℤ, pos, Bool, ◌&&◌, List, [], ◌∷◌, ◌++◌, length, slice_get, Some, refl, sym, ap, ◌∙◌, subst, arith}
use Rattle.std.specs.Bool.{IsTrue}
use Rattle.std.specs.List.{list_all, All}
use Rattle.std.proofs.lemmas.Bool.{and_from, and_parts}
use Rattle.std.proofs.lemmas.List.Folds.{list_all-append}
use Rattle.clauses.specs.Literals.{is_within, clause_within}
use Rattle.clauses.specs.Models.{Assignment, IsModel, is_true, meets}
use Rattle.gates_theory.specs.declared.circuit.Circuit.{Circuit}
use Rattle.gates_theory.specs.declared.circuit.Gate.{Gate}
use Rattle.gates_theory.specs.declared.circuit.Gate.TheVariants.{Free}
use Rattle.gates_theory.specs.Circuits.{IsSound, IsStateBit, IsPath, gates_hold, state_of, literal_values}
use Rattle.gates_theory.specs.Unrolled.{gates_clauses, units, links, position_clauses, unrolled, positions_of}
use Rattle.gates_theory.proofs.Literals.{shifted, within_from}
use Rattle.gates_theory.proofs.Parts.{meets_all, all-up_to, up_to-all, gates-met, units-met, links-moves, moves-links}

-- the state bits are gates
some_within : (gates : List Gate) (before : ℕ) → slice_get gates before ≡ Some Free → before < length gates
some_within [] before found = cc
some_within (gate ∷ gates) zero found = omega arith
some_within (gate ∷ gates) (suc before) found = omega (arith, some_within gates before found)

bit_within : (gates : List Gate) (literal : ℤ) → IsStateBit gates literal → IsTrue (is_within (length gates) literal)
bit_within gates literal bit =
    let few = some_within gates bit.0 bit.2 in
    subst (λ l. IsTrue (is_within (length gates) l)) (sym bit.1) (within_from (length gates) (pos (suc bit.0)) (omega arith) (omega arith))

bits_within : (gates : List Gate) (literals : List ℤ) → All (IsStateBit gates) literals → IsTrue (clause_within (length gates) literals)
bits_within gates [] bits = refl
bits_within gates (literal ∷ literals) bits =
    and_from (is_within (length gates) literal) (clause_within (length gates) literals)
    (bit_within gates literal (bits 0 literal (omega arith))) (bits_within gates literals (λ k d below. bits (suc k) d (omega arith)))

pub now_within : (c : Circuit) → IsSound c → IsTrue (clause_within (length c.gates) c.now)
now_within c sound = bits_within c.gates c.now sound.now

-- what a position adds
record Added (c : Circuit) (values : Assignment) (position : ℕ) : Type 0 where
  gates : IsTrue (gates_hold (positions_of c values (suc position)) 0 c.gates)
  hold : IsTrue (list_all (is_true (positions_of c values position)) c.hold)
  moves : state_of c (positions_of c values (suc position)) ≡ literal_values (positions_of c values position) c.next

-- the three parts of what a position adds
abbrev g_of : Circuit → ℕ
g_of c = length c.gates

abbrev moves_of : Circuit → Assignment → ℕ → Bool
moves_of c values position =
    meets_all values (units (position * g_of c) c.hold)
    && meets_all values (links (suc position * g_of c) (position * g_of c) c.now c.next)

abbrev gates_of : Circuit → Assignment → ℕ → Bool
gates_of c values position = meets_all values (gates_clauses (suc position * g_of c) 0 c.gates)

position-parts : (c : Circuit) (values : Assignment) (position : ℕ) →
    meets_all values (position_clauses c (suc position)) ≡ (moves_of c values position && gates_of c values position)
position-parts c values position =
    let held = units (position * g_of c) c.hold in
    let linked = links (suc position * g_of c) (position * g_of c) c.now c.next in
    let gated = gates_clauses (suc position * g_of c) 0 c.gates in
    list_all-append (meets values) (held ++ linked) gated
    ∙ ap (λ b. b && meets_all values gated) (list_all-append (meets values) held linked)

added : (c : Circuit) (values : Assignment) (position : ℕ) → IsSound c →
    IsTrue (meets_all values (position_clauses c (suc position))) → Added c values position
added c values position sound met =
    let low = position * g_of c in
    let high = suc position * g_of c in
    let outer = and_parts (moves_of c values position) (gates_of c values position)
    (sym (position-parts c values position) ∙ met) in
    let inner = and_parts (meets_all values (units low c.hold)) (meets_all values (links high low c.now c.next)) outer.0 in
    record {
      gates = sym (gates-met values high 0 c.gates sound.gates) ∙ outer.1;
      hold = sym (units-met values low c.hold) ∙ inner.0;
      moves = links-moves values (g_of c) high low c.now c.next sound.each (now_within c sound) sound.next inner.1;
    }

adds : (c : Circuit) (values : Assignment) (position : ℕ) → IsSound c → Added c values position →
    IsTrue (meets_all values (position_clauses c (suc position)))
adds c values position sound new =
    let low = position * g_of c in
    let high = suc position * g_of c in
    position-parts c values position
    ∙ and_from (moves_of c values position) (gates_of c values position)
    (and_from (meets_all values (units low c.hold)) (meets_all values (links high low c.now c.next))
    (units-met values low c.hold ∙ new.hold)
    (moves-links values (g_of c) high low c.now c.next sound.each (now_within c sound) sound.next new.moves))
    (gates-met values high 0 c.gates sound.gates ∙ new.gates)

-- the gates at the first position
first-met : (c : Circuit) (values : Assignment) → IsSound c → meets_all values (position_clauses c 0) ≡ gates_hold (positions_of c values 0) 0 c.gates
first-met c values sound =
    let e : 0 * g_of c ≡ 0 = omega arith in
    gates-met values 0 0 c.gates sound.gates ∙ ap (λ base. gates_hold (shifted base values) 0 c.gates) (sym e)

pub model-path : (c : Circuit) (positions : ℕ) (values : Assignment) → IsSound c → IsModel values (unrolled c positions) → IsPath c positions (positions_of c values)
model-path c positions values sound model =
    let each : (i : ℕ) → i < positions → IsTrue (meets_all values (position_clauses c i)) = all-up_to (meets values) positions (position_clauses c) model in
    record {
      gates = gates each;
      hold = λ position below. (added c values position sound (each (suc position) below)).hold;
      moves = λ position below. (added c values position sound (each (suc position) below)).moves;
    }
  where
    gates : ((i : ℕ) → i < positions → IsTrue (meets_all values (position_clauses c i))) → (i : ℕ) → i < positions → IsTrue (gates_hold (positions_of c values i) 0 c.gates)
    gates each zero below = sym (first-met c values sound) ∙ each 0 below
    gates each (suc i) below = (added c values i sound (each (suc i) below)).gates

pub path-model : (c : Circuit) (positions : ℕ) (values : Assignment) → IsSound c → IsPath c positions (positions_of c values) → IsModel values (unrolled c positions)
path-model c positions values sound path = up_to-all (meets values) positions (position_clauses c) each
  where
    each : (i : ℕ) → i < positions → IsTrue (meets_all values (position_clauses c i))
    each zero below = first-met c values sound ∙ path.gates 0 below
    each (suc i) below = adds c values i sound (record { gates = path.gates (suc i) below; hold = path.hold i below; moves = path.moves i below })
