use Rattle.std.proofs.Common.{◌≡◌, ◌∙◌, suc, ◌+◌, ◌*◌, ◌≤◌, ◌++◌, map, take, length, sym, ap, subst, arith, length-append}
use Rattle.std.specs.List.{range_with_len}
use Rattle.std.proofs.lemmas.Result.{err_from_is_err_and}
use Rattle.bounded_theory.specs.Digits.{number_width}
use Rattle.clauses.specs.declared.flat.TheConstants.{MOST_VARIABLES}
use Rattle.gates_builder.specs.Adding.{Making}
use Rattle.gates_nodes.specs.Nodes.{variables_of}
use Rattle.bounded.specs.Adding.{nodes_of_places}
use Rattle.bounded.specs.Places.{bits_of, place_bits, place_nodes}
use Rattle.bounded.proofs.Blocks.{places-length, places-many}
use Rattle.bounded.proofs.formula.placed.Goals as goal

pub returns-then-bits-from-clause-large : goal.returns-then-bits-from-clause-large
returns-then-bits-from-clause-large c =
    let a = c.args.violation.now in
    let n = c.args.n in
    let nodes = c.args.builder.now.nodes in
    let width : c.number_width-digits.result ≡ number_width (length a.obligations) = c.number_width-digits.ensures.is ∙ ap number_width c.len.ensures in
    let bits : c.bits_of-bits.result ≡ place_bits a = c.bits_of-bits.ensures ∙ ap (λ w. bits_of w a.obligations) width in
    let many = places-many a n in
    let both = length-append nodes (place_nodes a n) in
    λ e. omega (arith, c.if-bits-from.true, c.from.ensures, bits, many, both)

pub returns-in_err-add_places-clause-large : goal.returns-in_err-add_places-clause-large
returns-in_err-add_places-clause-large c =
    let a = c.args.violation.now in
    let n = c.args.n in
    let nodes = c.args.builder.now.nodes in
    let width : c.number_width-digits.result ≡ number_width (length a.obligations) = c.number_width-digits.ensures.is ∙ ap number_width c.len.ensures in
    let bits : c.bits_of-bits.result ≡ place_bits a = c.bits_of-bits.ensures ∙ ap (λ w. bits_of w a.obligations) width in
    let given = ap (λ g. variables_of g (nodes ++ nodes_of_places c.bits_of-bits.result n)) c.requires.given in
    let same = ap (λ b. variables_of 0 (nodes ++ nodes_of_places b n)) bits in
    let p = err_from_is_err_and c.from_residual.result c.from_residual.ensures.1 in
    rw (p.1, p.2) (λ e. (let large = c.in_err-add_places.ensures.adds.large e in omega (arith, large, given, same)))

pub invariant_of-result : goal.invariant_of-result
invariant_of-result c =
    let a = c.args.violation.now in
    let n = c.args.n in
    let old = c.args.builder.now in
    let new = c.add_places.new.builder in
    let width : c.number_width-digits.result ≡ number_width (length a.obligations) = c.number_width-digits.ensures.is ∙ ap number_width c.len.ensures in
    let bits : c.bits_of-bits.result ≡ place_bits a = c.bits_of-bits.ensures ∙ ap (λ w. bits_of w a.obligations) width in
    let grown : new.nodes ≡ old.nodes ++ place_nodes a n = c.in_ok-add_places.ensures.adds.ok ∙ ap (λ b. old.nodes ++ nodes_of_places b n) bits in
    let given : new.given ≡ old.given = ap (λ (m : Making). m.given) c.in_ok-add_places.ensures.kept in
    let many : variables_of new.given new.nodes ≡ variables_of old.given (old.nodes ++ place_nodes a n) = ap (λ g. variables_of g new.nodes) given ∙ ap (variables_of old.given) grown in
    let room : c.variables-before.result + (suc (suc n) * place_bits a + n) ≤ MOST_VARIABLES =
    omega (arith, many, length-append old.nodes (place_nodes a n), places-length a n, c.variables-before.ensures.is, c.variables-few.ensures.is, c.variables-few.ensures.few) in
    record {
      bits_are = bits;
      digits_are = width;
      starts_are = c.in_ok-starts.ensures ∙ ap (λ w. map (λ number. bits_of w (take number a.obligations)) (range_with_len 0 (length a.obligations))) width;
      room = subst (λ b. c.variables-before.result + (suc (suc n) * b + n) ≤ MOST_VARIABLES) (sym bits) room;
    }
