use Rattle.std.proofs.Common.{◌≡◌, ◌∙◌, suc, ◌+◌, ◌*◌, false, get_or, ap, arith}
use Rattle.bounded_theory.specs.Found.{first_passing}
use Rattle.bounded_theory.specs.Digits.{number_width}
use Rattle.clauses.specs.Models.{is_true}
use Rattle.run_terms.specs.Formulas.{values_of}
use Rattle.bounded.specs.Places.{begins_at, bits_of, place_bits}
use Rattle.bounded.proofs.FirstPlaces.{begins-read, first-same}
use Rattle.bounded.proofs.runs.loop_place.Goals as goal

pub first_true-requires : goal.first_true-requires
first_true-requires c =
    let a = c.args.violation.now in
    let n = c.args.n in
    let width = c.number_width.ensures.is ∙ ap number_width c.len.ensures in
    let bits : c.bits_of-bits.result ≡ place_bits a = c.bits_of-bits.ensures ∙ ap (λ w. bits_of w a.obligations) width in
    let two : n + 2 ≡ suc (suc n) = omega arith in
    let all : (n + 2) * c.bits_of-bits.result ≡ suc (suc n) * place_bits a = ap (λ k. k * c.bits_of-bits.result) two ∙ ap (λ b. suc (suc n) * b) bits in
    omega (arith, all, c.requires)

pub returns-clause-is : goal.returns-clause-is
returns-clause-is c =
    let a = c.args.violation.now in
    let n = c.args.n in
    let values = c.args.values.now in
    let width = c.number_width.ensures.is ∙ ap number_width c.len.ensures in
    let bits : c.bits_of-bits.result ≡ place_bits a = c.bits_of-bits.ensures ∙ ap (λ w. bits_of w a.obligations) width in
    let two : n + 2 ≡ suc (suc n) = omega arith in
    let all : c.args.before + (n + 2) * c.bits_of-bits.result ≡ c.args.before + suc (suc n) * place_bits a =
    ap (λ k. c.args.before + k * c.bits_of-bits.result) two ∙ ap (λ b. c.args.before + suc (suc n) * b) bits in
    c.first_true.ensures.is ∙ ap (λ b. first_passing n (λ place. get_or values (b + place) false)) all
    ∙ first-same n (λ place. get_or values (c.args.before + suc (suc n) * place_bits a + place) false) (λ place. is_true (values_of values) (begins_at a n c.args.before place))
    (λ k. begins-read a n c.args.before k values)
