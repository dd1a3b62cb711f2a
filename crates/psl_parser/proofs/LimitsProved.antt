-- The laws.
use Rattle.std.proofs.Common.{◌≡◌, refl, sym, ◌∙◌, ap, subst, ℕ, ◌<◌, List, arith}
use Rattle.psl_lexer.specs.declared.token.Token.{Token}
use Rattle.psl_parser.specs.declared.limit.Limit.{Limit}
use Rattle.psl_parser.specs.declared.limit.Limit.TheVariants as limits
use Rattle.psl_parser.specs.declared.limit.Passed.{Passed}
use Rattle.psl_parser.specs.Limits.{PassesAt, IsFirstPassed}
use Rattle.psl_parser.specs.LimitLaws.{OneFirst, NoneOrFirst}

same-token : (tokens : List Token) (first second : Passed) → IsFirstPassed tokens first → IsFirstPassed tokens second → first.token ≡ second.token
same-token tokens first second h g =
    let low : first.token < second.token → ⊥ = λ l. g.first first.token first.limit l h.passes in
    let high : second.token < first.token → ⊥ = λ l. h.first second.token second.limit l g.passes in
    grind arith

same-limit : (tokens : List Token) (token : ℕ) (first second : Limit) → PassesAt tokens token first → PassesAt tokens token second →
    (first ≡ limits.Length → PassesAt tokens token limits.Nesting → ⊥) → (second ≡ limits.Length → PassesAt tokens token limits.Nesting → ⊥) → first ≡ second
same-limit tokens token limits.Nesting limits.Nesting h g f s = refl
same-limit tokens token limits.Nesting limits.Length h g f s = absurd (s refl h)
same-limit tokens token limits.Length limits.Nesting h g f s = absurd (f refl g)
same-limit tokens token limits.Length limits.Length h g f s = refl

same-passed : (first second : Passed) → first.token ≡ second.token → first.limit ≡ second.limit → first ≡ second
same-passed first second e l =
    ap (λ (n : ℕ). record { token = n; limit = first.limit }) e ∙ ap (λ (m : Limit). record { token = second.token; limit = m }) l

pub one_first : OneFirst
one_first tokens first second h g =
    let e : first.token ≡ second.token = same-token tokens first second h g in
    same-passed first second e (
    same-limit tokens first.token first.limit second.limit h.passes
    (subst (λ (i : ℕ). PassesAt tokens i second.limit) (sym e) g.passes)
    h.level_first
    (λ x p. g.level_first x (subst (λ (i : ℕ). PassesAt tokens i limits.Nesting) e p)))

pub none_or_first : NoneOrFirst
none_or_first tokens first h g = h first.token first.limit g.within g.passes
