use Rattle.std.proofs.Common.{◌≡◌, ◌∙◌, sym, ap, subst, ◌∷◌, []}
use Rattle.std.proofs.lemmas.Result.{err_from_is_err_and}
use Rattle.psl_base.specs.Tokens.{TokensLeft}
use Rattle.sat_dimacs.specs.declared.fault.DimacsFault.TheVariants as faults
use Rattle.sat_dimacs.specs.Faults.{IsFault}
use Rattle.sat_dimacs.specs.Formulas.{p_text, cnf_text}
use Rattle.sat_dimacs.proofs.Stopping.{no_header_word, p_taken, no_cnf_end, no_cnf_word, cnf_taken, took_more, header_read, first_count_fault, second_count_fault}
use Rattle.sat_dimacs.proofs.header.read_header.Goals as goal

pub returns-then-not-is_byte-clause-err : goal.returns-then-not-is_byte-clause-err
returns-then-not-is_byte-clause-err c = rw c.place.ensures (no_header_word c.in-Some.first c.in-Some.ensures (λ same. let yes = c.is_byte.ensures.1 (c.text.ensures ∙ same) in cc))

pub returns-in_default-next-clause-err : goal.returns-in_default-next-clause-err
returns-in_default-next-clause-err c =
    let p_is : c.in-Some.first.text ≡ p_text = sym c.text.ensures ∙ c.is_byte.ensures.0 cc in
    subst (λ place. IsFault c.args.words.now (faults.BadHeader place)) (sym (c.end-in_default-next.ensures ∙ ap (λ (l : TokensLeft). l.end) c.in_default-next.ensures.1))
    (no_cnf_end (p_taken c.in-Some.first c.in-Some.ensures) (ap (λ t. t ∷ []) p_is) c.in_default-next.ensures.0)

pub returns-then-not-is_cnf-clause-err : goal.returns-then-not-is_cnf-clause-err
returns-then-not-is_cnf-clause-err c =
    let p_is : c.in-Some.first.text ≡ p_text = sym c.text.ensures ∙ c.is_byte.ensures.0 cc in
    rw c.place-then-not-is_cnf.ensures (no_cnf_word c.in-Some-next.second (p_taken c.in-Some.first c.in-Some.ensures) (ap (λ t. t ∷ []) p_is) c.in-Some-next.ensures
    (λ same. let yes = c.is_cnf.ensures.1 (c.text-2.ensures ∙ same) in cc))

pub returns-in_err-variables-clause-err : goal.returns-in_err-variables-clause-err
returns-in_err-variables-clause-err c =
    let p_is : c.in-Some.first.text ≡ p_text = sym c.text.ensures ∙ c.is_byte.ensures.0 cc in
    let cnf_is : c.in-Some-next.second.text ≡ cnf_text = sym c.text-2.ensures ∙ c.is_cnf.ensures.0 cc in
    let took = took_more c.in-Some-next.second (p_taken c.in-Some.first c.in-Some.ensures) c.in-Some-next.ensures in
    let is = cnf_taken (c.in-Some.first ∷ []) c.in-Some-next.second (ap (λ t. t ∷ []) p_is) cnf_is in
    let p = err_from_is_err_and c.from_residual.result c.from_residual.ensures.1 in
    rw (p.1, p.2) (first_count_fault c.in_err-variables.field-0.0 took is c.in_err-variables.ensures.err)

pub returns-in_err-clauses-clause-err : goal.returns-in_err-clauses-clause-err
returns-in_err-clauses-clause-err c =
    let p_is : c.in-Some.first.text ≡ p_text = sym c.text.ensures ∙ c.is_byte.ensures.0 cc in
    let cnf_is : c.in-Some-next.second.text ≡ cnf_text = sym c.text-2.ensures ∙ c.is_cnf.ensures.0 cc in
    let took = took_more c.in-Some-next.second (p_taken c.in-Some.first c.in-Some.ensures) c.in-Some-next.ensures in
    let is = cnf_taken (c.in-Some.first ∷ []) c.in-Some-next.second (ap (λ t. t ∷ []) p_is) cnf_is in
    let p = err_from_is_err_and c.from_residual-in_err-clauses.result c.from_residual-in_err-clauses.ensures.1 in
    rw (p.1, p.2) (second_count_fault c.in_ok-variables.variables c.in_err-clauses.field-0.0 took is c.in_ok-variables.ensures.ok c.in_err-clauses.ensures.err)

pub returns-clause-ok : goal.returns-clause-ok
returns-clause-ok c =
    let p_is : c.in-Some.first.text ≡ p_text = sym c.text.ensures ∙ c.is_byte.ensures.0 cc in
    let cnf_is : c.in-Some-next.second.text ≡ cnf_text = sym c.text-2.ensures ∙ c.is_cnf.ensures.0 cc in
    let took = took_more c.in-Some-next.second (p_taken c.in-Some.first c.in-Some.ensures) c.in-Some-next.ensures in
    let is = cnf_taken (c.in-Some.first ∷ []) c.in-Some-next.second (ap (λ t. t ∷ []) p_is) cnf_is in
    header_read c.in_ok-variables.variables c.in_ok-clauses.clauses took is c.in_ok-variables.ensures.ok c.in_ok-clauses.ensures.ok
