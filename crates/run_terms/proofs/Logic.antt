-- The values and the literals of the terms that others are made of.
use Rattle.std.proofs.Common.{◌≡◌, ℕ, ◌<◌, ◌≤◌, ℤ, pos, Bool, true, false, not, ◌&&◌, ◌||◌, refl, ap, arith}
use Rattle.std.specs.Bool.{IsTrue}
use Rattle.std.proofs.lemmas.Bool.{and_from}
use Rattle.clauses.specs.Literals.{is_within}
use Rattle.clauses.specs.Models.{Assignment, is_true}
use Rattle.gates_theory.specs.Circuits.{same}
use Rattle.gates_theory.specs.Terms.{Term, value, term_within}
use Rattle.gates_theory.proofs.Literals.{within_from}
use Rattle.run_terms.specs.Booleans.{constant, either, signed}
use Rattle.run_terms.specs.Tables.{guarded}

or_by_and : (a b : Bool) → not (not a && not b) ≡ (a || b)
or_by_and true b = refl
or_by_and false true = refl
or_by_and false false = refl

pub either-value : (values : Assignment) (first second : Term) → value values (either first second) ≡ (value values first || value values second)
either-value values first second = or_by_and (value values first) (value values second)

never_both : (a : Bool) → (a && not a) ≡ false
never_both true = refl
never_both false = refl

pub constant-value : (values : Assignment) (truth : Bool) → value values (constant truth) ≡ truth
constant-value values false = never_both (values 1)
constant-value values true = ap not (never_both (values 1))

-- a term of the sign is true where the value is the sign
pub signed-value : (values : Assignment) (sign : Bool) (term : Term) → value values (signed sign term) ≡ same sign (value values term)
signed-value values true term = refl
signed-value values false term = refl

guards : (guard b : Bool) → IsTrue (not (guard && not b)) → guard ≡ true → b ≡ true
guards true true holds on = refl
guards true false holds on = holds
guards false b holds on = absurd (cc)

unguarded : (guard b : Bool) → (guard ≡ true → b ≡ true) → IsTrue (not (guard && not b))
unguarded true true holds = refl
unguarded true false holds = holds refl
unguarded false b holds = refl

pub guarded-says : (values : Assignment) (guard : ℤ) (term : Term) → IsTrue (value values (guarded guard term)) → is_true values guard ≡ true → IsTrue (value values term)
guarded-says values guard term = guards (is_true values guard) (value values term)

pub guarded-from : (values : Assignment) (guard : ℤ) (term : Term) → (is_true values guard ≡ true → IsTrue (value values term)) → IsTrue (value values (guarded guard term))
guarded-from values guard term = unguarded (is_true values guard) (value values term)

-- literals of the first variables
pub both_within : (variables : ℕ) (first second : Term) → IsTrue (term_within variables first) → IsTrue (term_within variables second)
    → IsTrue (term_within variables first && term_within variables second)
both_within variables first second a b = and_from (term_within variables first) (term_within variables second) a b

pub pos_within : (variables n : ℕ) → 0 < n → n ≤ variables → IsTrue (is_within variables (pos n))
pos_within variables n some few = within_from variables (pos n) some few

pub constant-within : (variables : ℕ) (truth : Bool) → 0 < variables → IsTrue (term_within variables (constant truth))
constant-within variables false some =
    and_from (is_within variables (pos 1)) (is_within variables (pos 1)) (pos_within variables 1 (omega arith) (omega arith)) (pos_within variables 1 (omega arith) (omega arith))
constant-within variables true some =
    and_from (is_within variables (pos 1)) (is_within variables (pos 1)) (pos_within variables 1 (omega arith) (omega arith)) (pos_within variables 1 (omega arith) (omega arith))

pub signed-within : (variables : ℕ) (sign : Bool) (term : Term) → IsTrue (term_within variables term) → IsTrue (term_within variables (signed sign term))
signed-within variables true term within = within
signed-within variables false term within = within
