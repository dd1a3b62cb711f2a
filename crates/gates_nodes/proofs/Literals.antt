-- Literals of the first so many variables.
use Rattle.std.proofs.Common.{◌≡◌, ℕ, suc, ◌<◌, ◌≤◌, ℤ, pos, negsuc, Bool, true, false, ◌&&◌, ◌||◌, List, ◌∷◌, refl, sym, arith}
use Rattle.std.specs.Bool.{IsTrue}
use Rattle.std.proofs.lemmas.Bool.{and_from, and_parts}
use Rattle.clauses.specs.Literals.{clause_within, is_within, variable_of}
use Rattle.gates_theory.proofs.Literals.{within_from, within_is}
use Rattle.gates_nodes.specs.Nodes.{yes, no}

pub positive : (n : ℕ) (literal : ℤ) → IsTrue (is_within n literal) → 0 < variable_of literal
positive n literal within = (within_is n literal within).0

pub wider_literal : (few more : ℕ) → few ≤ more → (literal : ℤ) → IsTrue (is_within few literal) → IsTrue (is_within more literal)
wider_literal few more order literal within = let parts = within_is few literal within in within_from more literal parts.0 (omega (arith, parts.1))

pub first_within : (n : ℕ) (literal : ℤ) (literals : List ℤ) → IsTrue (clause_within n (literal ∷ literals)) → IsTrue (is_within n literal)
first_within n literal literals within = (and_parts (is_within n literal) (clause_within n literals) within).0

pub rest_within : (n : ℕ) (literal : ℤ) (literals : List ℤ) → IsTrue (clause_within n (literal ∷ literals)) → IsTrue (clause_within n literals)
rest_within n literal literals within = (and_parts (is_within n literal) (clause_within n literals) within).1

pub more_within : (n : ℕ) (literal : ℤ) (literals : List ℤ) → IsTrue (is_within n literal) → IsTrue (clause_within n literals) → IsTrue (clause_within n (literal ∷ literals))
more_within n literal literals first rest = and_from (is_within n literal) (clause_within n literals) first rest

-- the constants
pub yes-within : (n given : ℕ) → suc given ≤ n → IsTrue (is_within n (yes given))
yes-within n given some = within_from n (pos (suc given)) (omega arith) some

pub no-within : (n given : ℕ) → suc given ≤ n → IsTrue (is_within n (no given))
no-within n given some = within_from n (negsuc given) (omega arith) some

-- two values
pub absorbed : (a b : Bool) → (a ≡ true → b ≡ true) → a ≡ (a && b)
absorbed true b holds = sym (holds refl)
absorbed false b holds = refl

pub clashing : (a b : Bool) → (a ≡ true → b ≡ false) → false ≡ (a && b)
clashing true b fails = sym (fails refl)
clashing false b fails = refl

pub and_true : (a : Bool) → (a && true) ≡ a
and_true true = refl
and_true false = refl

pub or_false : (a : Bool) → (a || false) ≡ a
or_false true = refl
or_false false = refl

pub and_assoc : (a b c : Bool) → ((a && b) && c) ≡ (a && (b && c))
and_assoc true b c = refl
and_assoc false b c = refl
