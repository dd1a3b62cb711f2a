-- What the parts of an unrolled circuit say: its gates, the held literals, and the links from position to position.
use Rattle.std.proofs.Common.{◌≡◌, ℕ, zero, suc, ◌+◌, ◌<◌, inl, inr, ℤ, pos, Bool, true, false, not, ◌&&◌, ◌||◌, List, [], ◌∷◌, length, refl, sym, ◌∙◌, subst, arith}
use Rattle.std.specs.Bool.{IsTrue}
use Rattle.std.specs.List.{list_all}
use Rattle.std.proofs.lemmas.Bool.{and_from, and_parts, cases_lt}
use Rattle.std.proofs.lemmas.List.Folds.{list_all-append}
use Rattle.clauses.specs.Literals.{variable_of, is_within, clause_within}
use Rattle.clauses.specs.Models.{Assignment, is_true, meets}
use Rattle.gates_theory.specs.declared.circuit.Gate.{Gate}
use Rattle.gates_theory.specs.declared.circuit.Gate.TheVariants.{Free, And}
use Rattle.gates_theory.specs.Circuits.{gate_within, gates_within, same, gate_holds, gates_hold, literal_values}
use Rattle.gates_theory.specs.Unrolled.{up_to, moved, equality, conjunction, gate_clauses, gates_clauses, units, links}
use Rattle.gates_theory.proofs.Literals.{shifted, true-neg, true-moved, some_moved}

-- each clause is met
abbrev pub meets_all : Assignment → List (List ℤ) → Bool
meets_all values clauses = list_all (meets values) clauses

-- lists one behind another
pub all-up_to : {A : Type 0} (test : A → Bool) (count : ℕ) (list : ℕ → List A) → IsTrue (list_all test (up_to count list)) →
    (i : ℕ) → i < count → IsTrue (list_all test (list i))
all-up_to test zero list all i below = absurd (omega arith)
all-up_to test (suc count) list all i below =
    let parts = and_parts (list_all test (up_to count list)) (list_all test (list count)) (sym (list_all-append test (up_to count list) (list count)) ∙ all) in
    elim (cases_lt i count) [
      | inl lower ↦ all-up_to test count list parts.0 i lower
      | inr upper ↦ let e : count ≡ i = omega arith in subst (λ k. IsTrue (list_all test (list k))) e parts.1
    ]

pub up_to-all : {A : Type 0} (test : A → Bool) (count : ℕ) (list : ℕ → List A) → ((i : ℕ) → i < count → IsTrue (list_all test (list i))) →
    IsTrue (list_all test (up_to count list))
up_to-all test zero list each = refl
up_to-all test (suc count) list each =
    list_all-append test (up_to count list) (list count)
    ∙ and_from (list_all test (up_to count list)) (list_all test (list count)) (up_to-all test count list (λ i below. each i (omega arith))) (each count (omega arith))

-- the clauses of a conjunction
conjunction_table : (c a b : Bool) → ((not c || (a || false)) && ((not c || (b || false)) && ((c || (not a || (not b || false))) && true))) ≡ same c (a && b)
conjunction_table true true true = refl
conjunction_table true true false = refl
conjunction_table true false true = refl
conjunction_table true false false = refl
conjunction_table false true true = refl
conjunction_table false true false = refl
conjunction_table false false true = refl
conjunction_table false false false = refl

pub conjunction-met : (values : Assignment) (c a b : ℤ) → 0 < variable_of c → 0 < variable_of a → 0 < variable_of b →
    meets_all values (conjunction c a b) ≡ same (is_true values c) (is_true values a && is_true values b)
conjunction-met values c a b some_c some_a some_b =
    rw (true-neg values c some_c, true-neg values a some_a, true-neg values b some_b) (conjunction_table (is_true values c) (is_true values a) (is_true values b))

-- the clauses of an equality
equality_table : (a b : Bool) → ((not a || (b || false)) && ((a || (not b || false)) && true)) ≡ same a b
equality_table true true = refl
equality_table true false = refl
equality_table false true = refl
equality_table false false = refl

pub equality-met : (values : Assignment) (a b : ℤ) → 0 < variable_of a → 0 < variable_of b → meets_all values (equality a b) ≡ same (is_true values a) (is_true values b)
equality-met values a b some_a some_b = rw (true-neg values a some_a, true-neg values b some_b) (equality_table (is_true values a) (is_true values b))

pub same-is : (a b : Bool) → same a b ≡ true → a ≡ b
same-is true true e = refl
same-is true false e = sym e
same-is false true e = e
same-is false false e = refl

pub same-from : (a b : Bool) → a ≡ b → same a b ≡ true
same-from true true e = refl
same-from true false e = sym e
same-from false true e = e
same-from false false e = refl

-- the clauses of gates
pub gate-met : (values : Assignment) (base before : ℕ) (gate : Gate) → IsTrue (gate_within before gate) →
    meets_all values (gate_clauses base before gate) ≡ gate_holds (shifted base values) before gate
gate-met values base before Free within = refl
gate-met values base before (And first second) within =
    let parts = and_parts (is_within before first) (is_within before second) within in
    conjunction-met values (pos (base + suc before)) (moved base first) (moved base second) (omega arith) (some_moved before base first parts.0) (some_moved before base second parts.1)
    ∙ rw (true-moved values base first, true-moved values base second)

pub gates-met : (values : Assignment) (base before : ℕ) (gates : List Gate) → IsTrue (gates_within before gates) →
    meets_all values (gates_clauses base before gates) ≡ gates_hold (shifted base values) before gates
gates-met values base before [] within = refl
gates-met values base before (gate ∷ gates) within =
    let parts = and_parts (gate_within before gate) (gates_within (suc before) gates) within in
    list_all-append (meets values) (gate_clauses base before gate) (gates_clauses base (suc before) gates)
    ∙ rw (gate-met values base before gate parts.0, gates-met values base (suc before) gates parts.1)

-- the clauses of held literals
unit_table : (a b : Bool) → ((a || false) && b) ≡ (a && b)
unit_table true b = refl
unit_table false b = refl

pub units-met : (values : Assignment) (base : ℕ) (literals : List ℤ) → meets_all values (units base literals) ≡ list_all (is_true (shifted base values)) literals
units-met values base [] = refl
units-met values base (literal ∷ literals) =
    rw (true-moved values base literal, units-met values base literals) (unit_table (is_true (shifted base values) literal) (list_all (is_true (shifted base values)) literals))

-- the clauses of links
module _ (values : Assignment) (variables base base_before : ℕ) where
  link-met : (literal other : ℤ) → IsTrue (is_within variables literal) → IsTrue (is_within variables other) →
      meets_all values (equality (moved base literal) (moved base_before other)) ≡ same (is_true (shifted base values) literal) (is_true (shifted base_before values) other)
  link-met literal other here there =
      equality-met values (moved base literal) (moved base_before other) (some_moved variables base literal here) (some_moved variables base_before other there)
      ∙ rw (true-moved values base literal, true-moved values base_before other)

  pub links-moves : (literals others : List ℤ) → length others ≡ length literals → IsTrue (clause_within variables literals) → IsTrue (clause_within variables others) →
      IsTrue (meets_all values (links base base_before literals others)) → literal_values (shifted base values) literals ≡ literal_values (shifted base_before values) others
  links-moves [] [] sizes here there met = refl
  links-moves [] (other ∷ others) sizes here there met = absurd (omega arith)
  links-moves (literal ∷ literals) [] sizes here there met = absurd (omega arith)
  links-moves (literal ∷ literals) (other ∷ others) sizes here there met =
      let now = and_parts (is_within variables literal) (clause_within variables literals) here in
      let next = and_parts (is_within variables other) (clause_within variables others) there in
      let both = and_parts (meets_all values (equality (moved base literal) (moved base_before other))) (meets_all values (links base base_before literals others))
      (sym (list_all-append (meets values) (equality (moved base literal) (moved base_before other)) (links base base_before literals others)) ∙ met) in
      let first = same-is (is_true (shifted base values) literal) (is_true (shifted base_before values) other) (sym (link-met literal other now.0 next.0) ∙ both.0) in
      let rest = links-moves literals others (omega arith) now.1 next.1 both.1 in
      rw (first, rest)

  pub moves-links : (literals others : List ℤ) → length others ≡ length literals → IsTrue (clause_within variables literals) → IsTrue (clause_within variables others) →
      literal_values (shifted base values) literals ≡ literal_values (shifted base_before values) others → IsTrue (meets_all values (links base base_before literals others))
  moves-links [] others sizes here there moves = refl
  moves-links (literal ∷ literals) [] sizes here there moves = absurd (omega arith)
  moves-links (literal ∷ literals) (other ∷ others) sizes here there moves =
      let now = and_parts (is_within variables literal) (clause_within variables literals) here in
      let next = and_parts (is_within variables other) (clause_within variables others) there in
      let first : is_true (shifted base values) literal ≡ is_true (shifted base_before values) other = cc in
      let rest : literal_values (shifted base values) literals ≡ literal_values (shifted base_before values) others = cc in
      list_all-append (meets values) (equality (moved base literal) (moved base_before other)) (links base base_before literals others)
      ∙ and_from (meets_all values (equality (moved base literal) (moved base_before other))) (meets_all values (links base base_before literals others))
      (link-met literal other now.0 next.0 ∙ same-from (is_true (shifted base values) literal) (is_true (shifted base_before values) other) first)
      (moves-links literals others (omega arith) now.1 next.1 rest)
