-- The gates of a term compute its value.
use Rattle.std.proofs.Common.{◌≡◌, ℕ, suc, ◌+◌, ◌<◌, ◌≤◌, ℤ, pos, negsuc, neg_ℤ, Bool, true, false, not, ◌&&◌, List, [], ◌∷◌, ◌++◌, length, refl, sym, ap, ◌∙◌, subst, arith, length-append, append_assoc}
use Rattle.std.specs.Bool.{IsTrue}
use Rattle.std.proofs.lemmas.Bool.{and_from, and_parts}
use Rattle.std.proofs.lemmas.List.{append-nil}
use Rattle.clauses.specs.Literals.{variable_of, is_within}
use Rattle.clauses.specs.Models.{Assignment, is_true}
use Rattle.gates_theory.specs.declared.circuit.Gate.{Gate}
use Rattle.gates_theory.specs.declared.circuit.Gate.TheVariants.{And}
use Rattle.gates_theory.specs.Circuits.{gate_within, gates_within, same, gate_holds, gates_hold, AreSame}
use Rattle.gates_theory.specs.Terms.{Term, value, term_within, term_size, built, with_conjunction, with_equality}
use Rattle.gates_theory.specs.Terms.Term.{Literal, Negation, Conjunction, Equality}
use Rattle.gates_theory.proofs.Literals.{true-neg, within_is, within_from}
use Rattle.gates_theory.proofs.Parts.{same-is}
use Rattle.gates_theory.proofs.Within.{negated_within}
use Rattle.gates_theory.proofs.Agreement.{same-literal}

-- gates behind others
pub gates_hold-append : (values : Assignment) (before after : ℕ) (gates more : List Gate) → after ≡ before + length gates →
    gates_hold values before (gates ++ more) ≡ (gates_hold values before gates && gates_hold values after more)
gates_hold-append values before after [] more e = let same_place : before ≡ after = omega arith in ap (λ n. gates_hold values n more) same_place
gates_hold-append values before after (gate ∷ gates) more e =
    ap (λ b. gate_holds values before gate && b) (gates_hold-append values (suc before) after gates more (omega arith))
    ∙ assoc (gate_holds values before gate) (gates_hold values (suc before) gates) (gates_hold values after more)
  where
    assoc : (a b c : Bool) → (a && (b && c)) ≡ ((a && b) && c)
    assoc true b c = refl
    assoc false b c = refl

pub gates_within-append : (before after : ℕ) (gates more : List Gate) → after ≡ before + length gates → IsTrue (gates_within before gates) → IsTrue (gates_within after more) →
    IsTrue (gates_within before (gates ++ more))
gates_within-append before after [] more e first second = let same_place : after ≡ before = omega arith in subst (λ n. IsTrue (gates_within n more)) same_place second
gates_within-append before after (gate ∷ gates) more e first second =
    let parts = and_parts (gate_within before gate) (gates_within (suc before) gates) first in
    and_from (gate_within before gate) (gates_within (suc before) (gates ++ more)) parts.0 (gates_within-append (suc before) after gates more (omega arith) parts.1 second)

both_hold : (values : Assignment) (gates more : List Gate) → IsTrue (gates_hold values 0 (gates ++ more)) → IsTrue (gates_hold values 0 gates) × IsTrue (gates_hold values (length gates) more)
both_hold values gates more hold =
    and_parts (gates_hold values 0 gates) (gates_hold values (length gates) more) (sym (gates_hold-append values 0 (length gates) gates more (omega arith)) ∙ hold)

within_more : (few more : ℕ) (literal : ℤ) → few ≤ more → IsTrue (is_within few literal) → IsTrue (is_within more literal)
within_more few more literal order within = let parts = within_is few literal within in within_from more literal parts.0 (omega (arith, parts.1))

-- what the gates of a term keep
pub record IsBuilt (gates : List Gate) (size : ℕ) (new : List Gate) (output : ℤ) : Type 0 where
  pub more : List Gate
  pub behind : new ≡ gates ++ more
  pub length_is : length new ≡ length gates + size
  pub output_within : IsTrue (is_within (length new) output)
  pub within : IsTrue (gates_within 0 gates) → IsTrue (gates_within 0 new)

conjunction-built : (gates : List Gate) (first second : ℤ) → IsTrue (is_within (length gates) first) → IsTrue (is_within (length gates) second) →
    IsBuilt gates 1 (with_conjunction gates first second).gates (with_conjunction gates first second).output
conjunction-built gates first second a b =
    let size : length (gates ++ And first second ∷ []) ≡ length gates + 1 = omega (arith, length-append gates (And first second ∷ [])) in
    record {
      more = And first second ∷ [];
      behind = refl;
      length_is = size;
      output_within = within_from (length (gates ++ And first second ∷ [])) (pos (suc (length gates))) (omega arith) (omega arith);
      within = λ old. gates_within-append 0 (length gates) gates (And first second ∷ []) (omega arith) old
          (and_from (is_within (length gates) first && is_within (length gates) second) true
          (and_from (is_within (length gates) first) (is_within (length gates) second) a b) refl);
    }

equality-built : (gates : List Gate) (first second : ℤ) → IsTrue (is_within (length gates) first) → IsTrue (is_within (length gates) second) →
    IsBuilt gates 3 (with_equality gates first second).gates (with_equality gates first second).output
equality-built gates first second a b =
    let n = length gates in
    let x = And first second in
    let y = And (neg_ℤ first) (neg_ℤ second) in
    let z = And (negsuc n) (negsuc (suc n)) in
    let size : length (gates ++ x ∷ y ∷ z ∷ []) ≡ n + 3 = omega (arith, length-append gates (x ∷ y ∷ z ∷ [])) in
    let in_x : IsTrue (gate_within n x) = and_from (is_within n first) (is_within n second) a b in
    let in_y : IsTrue (gate_within (suc n) y) =
    and_from (is_within (suc n) (neg_ℤ first)) (is_within (suc n) (neg_ℤ second))
    (negated_within (suc n) first (within_more n (suc n) first (omega arith) a)) (negated_within (suc n) second (within_more n (suc n) second (omega arith) b)) in
    let in_z : IsTrue (gate_within (suc (suc n)) z) =
    and_from (is_within (suc (suc n)) (negsuc n)) (is_within (suc (suc n)) (negsuc (suc n)))
    (within_from (suc (suc n)) (negsuc n) (omega arith) (omega arith)) (within_from (suc (suc n)) (negsuc (suc n)) (omega arith) (omega arith)) in
    record {
      more = x ∷ y ∷ z ∷ [];
      behind = refl;
      length_is = size;
      output_within = within_from (length (gates ++ x ∷ y ∷ z ∷ [])) (negsuc (suc (suc n))) (omega arith) (omega arith);
      within = λ old. gates_within-append 0 n gates (x ∷ y ∷ z ∷ []) (omega arith) old
          (and_from (gate_within n x) (gates_within (suc n) (y ∷ z ∷ [])) in_x
          (and_from (gate_within (suc n) y) (gates_within (suc (suc n)) (z ∷ [])) in_y
          (and_from (gate_within (suc (suc n)) z) true in_z refl)));
    }

-- terms one behind another
built-then : (gates mid new : List Gate) (size more : ℕ) (first second : ℤ) → IsBuilt gates size mid first → IsBuilt mid more new second → IsBuilt gates (size + more) new second
built-then gates mid new size more first second a b = record {
  more = a.more ++ b.more;
  behind = b.behind ∙ ap (λ g. g ++ b.more) a.behind ∙ append_assoc gates a.more b.more;
  length_is = omega (arith, a.length_is, b.length_is);
  output_within = b.output_within;
  within = λ old. b.within (a.within old);
}

pub term-built : (variables : ℕ) (gates : List Gate) (term : Term) → IsTrue (term_within variables term) → variables ≤ length gates →
    IsBuilt gates (term_size term) (built gates term).gates (built gates term).output
term-built variables gates (Literal literal) within few = record {
  more = [];
  behind = sym (append-nil gates);
  length_is = omega arith;
  output_within = within_more variables (length gates) literal few within;
  within = λ old. old;
}
term-built variables gates (Negation term) within few =
    let inner = term-built variables gates term within few in
    record {
      more = inner.more;
      behind = inner.behind;
      length_is = inner.length_is;
      output_within = negated_within (length (built gates term).gates) (built gates term).output inner.output_within;
      within = inner.within;
    }
term-built variables gates (Conjunction first second) within few =
    let parts = and_parts (term_within variables first) (term_within variables second) within in
    let a = term-built variables gates first parts.0 few in
    let A = built gates first in
    let b = term-built variables A.gates second parts.1 (omega (arith, a.length_is)) in
    let B = built A.gates second in
    let output = within_more (length A.gates) (length B.gates) A.output (omega (arith, b.length_is)) a.output_within in
    let both = built-then gates A.gates B.gates (term_size first) (term_size second) A.output B.output a b in
    built-then gates B.gates (with_conjunction B.gates A.output B.output).gates (term_size first + term_size second) 1 B.output (with_conjunction B.gates A.output B.output).output both
    (conjunction-built B.gates A.output B.output output b.output_within)
term-built variables gates (Equality first second) within few =
    let parts = and_parts (term_within variables first) (term_within variables second) within in
    let a = term-built variables gates first parts.0 few in
    let A = built gates first in
    let b = term-built variables A.gates second parts.1 (omega (arith, a.length_is)) in
    let B = built A.gates second in
    let output = within_more (length A.gates) (length B.gates) A.output (omega (arith, b.length_is)) a.output_within in
    let both = built-then gates A.gates B.gates (term_size first) (term_size second) A.output B.output a b in
    built-then gates B.gates (with_equality B.gates A.output B.output).gates (term_size first + term_size second) 3 B.output (with_equality B.gates A.output B.output).output both
    (equality-built B.gates A.output B.output output b.output_within)

-- the values
conjunction-value : (values : Assignment) (gates : List Gate) (first second : ℤ) → IsTrue (gates_hold values 0 (with_conjunction gates first second).gates) →
    (is_true values (with_conjunction gates first second).output ≡ (is_true values first && is_true values second)) × IsTrue (gates_hold values 0 gates)
conjunction-value values gates first second hold =
    let parts = both_hold values gates (And first second ∷ []) hold in
    let gate = and_parts (same (values (suc (length gates))) (is_true values first && is_true values second)) true parts.1 in
    (same-is (values (suc (length gates))) (is_true values first && is_true values second) gate.0, parts.0)

equality_table : (a b x y z : Bool) → x ≡ (a && b) → y ≡ (not a && not b) → z ≡ (not x && not y) → not z ≡ same a b
equality_table true true x y z ex ey ez = rw (ez, ey, ex)
equality_table true false x y z ex ey ez = rw (ez, ey, ex)
equality_table false true x y z ex ey ez = rw (ez, ey, ex)
equality_table false false x y z ex ey ez = rw (ez, ey, ex)

equality-value : (values : Assignment) (gates : List Gate) (first second : ℤ) → 0 < variable_of first → 0 < variable_of second → IsTrue (gates_hold values 0 (with_equality gates first second).gates) →
    (is_true values (with_equality gates first second).output ≡ same (is_true values first) (is_true values second)) × IsTrue (gates_hold values 0 gates)
equality-value values gates first second some_first some_second hold =
    let n = length gates in
    let a = is_true values first in
    let b = is_true values second in
    let x = And first second in
    let y = And (neg_ℤ first) (neg_ℤ second) in
    let z = And (negsuc n) (negsuc (suc n)) in
    let parts = both_hold values gates (x ∷ y ∷ z ∷ []) hold in
    let one = and_parts (gate_holds values n x) (gates_hold values (suc n) (y ∷ z ∷ [])) parts.1 in
    let two = and_parts (gate_holds values (suc n) y) (gates_hold values (suc (suc n)) (z ∷ [])) one.1 in
    let three = and_parts (gate_holds values (suc (suc n)) z) true two.1 in
    let ex : values (suc n) ≡ (a && b) = same-is (values (suc n)) (a && b) one.0 in
    let ey : values (suc (suc n)) ≡ (not a && not b) =
    same-is (values (suc (suc n))) (is_true values (neg_ℤ first) && is_true values (neg_ℤ second)) two.0
    ∙ rw (true-neg values first some_first, true-neg values second some_second) in
    let ez : values (suc (suc (suc n))) ≡ (not (values (suc n)) && not (values (suc (suc n)))) =
    same-is (values (suc (suc (suc n)))) (not (values (suc n)) && not (values (suc (suc n)))) three.0 in
    (equality_table a b (values (suc n)) (values (suc (suc n))) (values (suc (suc (suc n)))) ex ey ez, parts.0)

pub term-value : (values : Assignment) (variables : ℕ) (gates : List Gate) (term : Term) → IsTrue (term_within variables term) → variables ≤ length gates →
    IsTrue (gates_hold values 0 (built gates term).gates) → (is_true values (built gates term).output ≡ value values term) × IsTrue (gates_hold values 0 gates)
term-value values variables gates (Literal literal) within few hold = (refl, hold)
term-value values variables gates (Negation term) within few hold =
    let inner = term-value values variables gates term within few hold in
    let output = term-built variables gates term within few in
    (true-neg values (built gates term).output (within_is (length (built gates term).gates) (built gates term).output output.output_within).0 ∙ ap not inner.0, inner.1)
term-value values variables gates (Conjunction first second) within few hold =
    let parts = and_parts (term_within variables first) (term_within variables second) within in
    let a = term-built variables gates first parts.0 few in
    let A = built gates first in
    let B = built A.gates second in
    let last = conjunction-value values B.gates A.output B.output hold in
    let right = term-value values variables A.gates second parts.1 (omega (arith, a.length_is)) last.1 in
    let left = term-value values variables gates first parts.0 few right.1 in
    (last.0 ∙ rw (left.0, right.0), left.1)
term-value values variables gates (Equality first second) within few hold =
    let parts = and_parts (term_within variables first) (term_within variables second) within in
    let a = term-built variables gates first parts.0 few in
    let A = built gates first in
    let b = term-built variables A.gates second parts.1 (omega (arith, a.length_is)) in
    let B = built A.gates second in
    let some_first = (within_is (length A.gates) A.output a.output_within).0 in
    let some_second = (within_is (length B.gates) B.output b.output_within).0 in
    let last = equality-value values B.gates A.output B.output some_first some_second hold in
    let right = term-value values variables A.gates second parts.1 (omega (arith, a.length_is)) last.1 in
    let left = term-value values variables gates first parts.0 few right.1 in
    (last.0 ∙ rw (left.0, right.0), left.1)

-- a term needs the variables of its literals alone
pub same-value : (n : ℕ) (v w : Assignment) → AreSame n v w → (term : Term) → IsTrue (term_within n term) → value v term ≡ value w term
same-value n v w agree (Literal literal) within = same-literal n v w agree literal within
same-value n v w agree (Negation term) within = ap not (same-value n v w agree term within)
same-value n v w agree (Conjunction first second) within =
    let parts = and_parts (term_within n first) (term_within n second) within in
    rw (same-value n v w agree first parts.0, same-value n v w agree second parts.1)
same-value n v w agree (Equality first second) within =
    let parts = and_parts (term_within n first) (term_within n second) within in
    rw (same-value n v w agree first parts.0, same-value n v w agree second parts.1)
