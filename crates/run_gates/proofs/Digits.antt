-- The comparison of two numbers, digit by digit.
use Rattle.std.proofs.Common.{◌≡◌, ℕ, zero, suc, ◌+◌, ◌-◌, ◌*◌, ◌<◌, ℤ, pos, neg_ℤ, List, [], ◌∷◌, length, Ok, Err, refl, sym, ap, ◌∙◌, arith}
use Rattle.std.specs.Bool.{IsTrue}
use Rattle.clauses.specs.declared.flat.CnfFault.{CnfFault}
use Rattle.clauses.specs.Literals.{is_literal}
use Rattle.gates_theory.specs.declared.circuit.Gate.{Gate}
use Rattle.gates_theory.specs.Distinct.{following}
use Rattle.gates_theory.specs.Terms.{Term, Built, built, term_size}
use Rattle.gates_theory.specs.Terms.Term.{Literal}
use Rattle.run_gates.specs.Building.{Builds, digit_term}
use Rattle.run_terms.specs.Numbers.{at_most}
use Rattle.run_terms.proofs.NumberValues.{at_most-size}

-- what is left does not ask how the digits so far were compared
at_most-literal : (gates : List Gate) (above : Term) (firsts seconds : List ℤ)
    → built gates (at_most above firsts seconds) ≡ built (built gates above).gates (at_most (Literal (built gates above).output) firsts seconds)
at_most-literal gates above [] seconds = refl
at_most-literal gates above (first ∷ firsts) [] = refl
at_most-literal gates above (first ∷ firsts) (second ∷ seconds) =
    at_most-literal gates (digit_term above first second) firsts seconds
    ∙ sym (at_most-literal (built gates above).gates (digit_term (Literal (built gates above).output) first second) firsts seconds)

-- the digits from one on are left
pub record ComparedSoFar (old gates : List Gate) (strict above : ℤ) (first second width digit : ℕ) : Type 0 where
  pub built_is : built gates (at_most (Literal above) (following (first + digit) (width - digit)) (following (second + digit) (width - digit)))
      ≡ built old (at_most (Literal strict) (following first width) (following second width))
  pub size_is : length gates + 4 * (width - digit) ≡ length old + 4 * width
  pub literal : IsTrue (is_literal above)

following-next : (variables width digit : ℕ) → digit < width → following (variables + digit) (width - digit) ≡ pos (suc (variables + digit)) ∷ following (variables + (digit + 1)) (width - (digit + 1))
following-next variables width digit below =
    let e : width - digit ≡ suc (width - (digit + 1)) = omega arith in
    let d : suc (variables + digit) ≡ variables + (digit + 1) = omega arith in
    ap (following (variables + digit)) e ∙ ap (λ n. pos (suc (variables + digit)) ∷ following n (width - (digit + 1))) d

pub compared-init : (old : List Gate) (strict : ℤ) (first second width : ℕ) → IsTrue (is_literal strict) → ComparedSoFar old old strict strict first second width 0
compared-init old strict first second width literal = record {
  built_is =
      let a : first + 0 ≡ first = omega arith in
      let b : second + 0 ≡ second = omega arith in
      let w : width - 0 ≡ width = omega arith in
      rw (a, b, w) refl;
  size_is = omega arith;
  literal = literal;
}

pub compared-step : (old gates new : List Gate) (strict above output : ℤ) (first second width digit : ℕ) → digit < width → ComparedSoFar old gates strict above first second width digit
    → Builds gates new (digit_term (Literal above) (pos (suc (first + digit))) (pos (suc (second + digit)))) (Ok output)
    → ComparedSoFar old new strict output first second width (digit + 1)
compared-step old gates new strict above output first second width digit below sofar builds =
    let xs = following (first + (digit + 1)) (width - (digit + 1)) in
    let ys = following (second + (digit + 1)) (width - (digit + 1)) in
    let term = digit_term (Literal above) (pos (suc (first + digit))) (pos (suc (second + digit))) in
    let here : built gates (at_most term xs ys) ≡ built old (at_most (Literal strict) (following first width) (following second width)) =
    rw (following-next first width digit below, following-next second width digit below) at sofar.built_is in
    record {
      built_is =
          ap (λ g. built g (at_most (Literal output) xs ys)) builds.gates
          ∙ ap (λ o. built (built gates term).gates (at_most (Literal o) xs ys)) builds.output
          ∙ sym (at_most-literal gates term xs ys)
          ∙ here;
      size_is = omega (arith, sofar.size_is, builds.size);
      literal = builds.literal;
    }

following-length : (variables width : ℕ) → length (following variables width) ≡ width
following-length variables zero = refl
following-length variables (suc width) = ap suc (following-length (suc variables) width)

compared-size : (strict : ℤ) (first second width : ℕ) → term_size (at_most (Literal strict) (following first width) (following second width)) ≡ 4 * width
compared-size strict first second width =
    omega (arith, at_most-size (Literal strict) (following first width) (following second width) (following-length first width ∙ sym (following-length second width)), following-length first width)

-- no digit is left
pub compared-end : (old gates : List Gate) (strict above output : ℤ) (first second width : ℕ) → ComparedSoFar old gates strict above first second width width → output ≡ neg_ℤ above
    → IsTrue (is_literal output) → Builds old gates (at_most (Literal strict) (following first width) (following second width)) (Ok output)
compared-end old gates strict above output first second width sofar is literal =
    let none : width - width ≡ 0 = omega arith in
    let here = rw none at sofar.built_is in
    record {
      gates = ap (λ (b : Built). b.gates) here;
      output = is ∙ ap (λ (b : Built). b.output) here;
      literal = literal;
      size = omega (arith, sofar.size_is, compared-size strict first second width);
      large = tt;
    }

-- the fault of one digit
pub compared-err : (old gates new : List Gate) (strict above : ℤ) (first second width digit : ℕ) (fault : CnfFault) → digit < width → ComparedSoFar old gates strict above first second width digit
    → Builds gates new (digit_term (Literal above) (pos (suc (first + digit))) (pos (suc (second + digit)))) (Err fault)
    → Builds old new (at_most (Literal strict) (following first width) (following second width)) (Err fault)
compared-err old gates new strict above first second width digit fault below sofar failed =
    record { gates = tt; output = tt; literal = tt; size = tt; large = λ e. omega (arith, failed.large e, sofar.size_is, compared-size strict first second width) }
