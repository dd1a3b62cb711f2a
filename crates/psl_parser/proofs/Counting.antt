-- What the numbers of a statement's tokens say of the token behind them.
use Rattle.std.proofs.Common.{◌≡◌, sym, ◌∙◌, ap, subst, ℕ, ◌+◌, ◌-◌, ◌<◌, ◌≤◌, ◌⊎◌, inl, inr, Bool, true, false, if◌then◌else◌, List, [], ◌∷◌, ◌++◌, length, arith}
use Rattle.std.specs.List.{count_by}
use Rattle.std.proofs.lemmas.Grind.{common_steps}
use Rattle.psl_lexer.specs.declared.token.Token.{Token}
use Rattle.psl_parser.specs.declared.limit.Limit.TheVariants as limits
use Rattle.psl_parser.specs.declared.state.Counts.{Counts}
use Rattle.psl_parser.specs.Statements.{opens, closes}
use Rattle.psl_parser.specs.Limits.{Passes, level_limit, length_limit}
use Rattle.psl_parser.specs.Counted.{counts_of, PassesNone, IsNamed}

-- one more element counts where it passes the test
count-more : {X : Type 0} (p : X → Bool) (xs : List X) (x : X) → count_by p (xs ++ x ∷ []) ≡ (if p x then count_by p xs + 1 else count_by p xs)
count-more p [] x = grind (arith, common_steps)
count-more p (y ∷ xs) x = grind (arith, common_steps, count-more p xs x)

length-more : {X : Type 0} (xs : List X) (x : X) → length (xs ++ x ∷ []) ≡ length xs + 1
length-more xs x = grind (arith, common_steps)

same-counts : (a b : Counts) → a.tokens ≡ b.tokens → a.opened ≡ b.opened → a.closed ≡ b.closed → a ≡ b
same-counts a b t o c =
    ap (λ (n : ℕ). record { tokens = n; opened = a.opened; closed = a.closed }) t ∙
    (ap (λ (n : ℕ). record { tokens = b.tokens; opened = n; closed = a.closed }) o ∙
    ap (λ (n : ℕ). record { tokens = b.tokens; opened = b.opened; closed = n }) c)

-- the numbers with one more token are those of the tokens with it
pub more : (self counts : Counts) (before : List Token) (token : Token) → self ≡ counts_of before →
    counts.tokens ≡ self.tokens + 1 →
    counts.opened ≡ (if opens token then self.opened + 1 else self.opened) →
    counts.closed ≡ (if closes token then self.closed + 1 else self.closed) →
    counts ≡ counts_of (before ++ token ∷ [])
more self counts before token e t o c =
    same-counts counts (counts_of (before ++ token ∷ []))
    (t ∙ (ap (λ (x : Counts). x.tokens + 1) e ∙ sym (length-more before token)))
    (o ∙ (ap (λ (x : Counts). if opens token then x.opened + 1 else x.opened) e ∙ sym (count-more opens before token)))
    (c ∙ (ap (λ (x : Counts). if closes token then x.closed + 1 else x.closed) e ∙ sym (count-more closes before token)))

pub named-nesting : (counts : Counts) (before : List Token) (token : Token) → counts ≡ counts_of (before ++ token ∷ []) →
    opens token ≡ true → level_limit < counts.opened - counts.closed → IsNamed limits.Nesting before token
named-nesting counts before token e o l = record {
  passes = (o, subst (λ (x : Counts). level_limit < x.opened - x.closed) e l);
  level_first = λ other _. absurd (cc);
}

apart : (b : Bool) → b ≡ false → b ≡ true → ⊥
apart b e h = let s : false ≡ true = sym e ∙ h in cc

-- the token opens no level too many
not-nested : (counts : Counts) (before : List Token) (token : Token) → counts ≡ counts_of (before ++ token ∷ []) →
    (opens token ≡ false) ⊎ (counts.opened - counts.closed ≤ level_limit) → Passes limits.Nesting before token → ⊥
not-nested counts before token e h p = go h (subst (λ (x : Counts). level_limit < x.opened - x.closed) (sym e) p.1)
  where
    go : (opens token ≡ false) ⊎ (counts.opened - counts.closed ≤ level_limit) → level_limit < counts.opened - counts.closed → ⊥
    go (inl shut) deep = apart (opens token) shut p.0
    go (inr low) deep = omega arith

pub named-length : (counts : Counts) (before : List Token) (token : Token) → counts ≡ counts_of (before ++ token ∷ []) →
    (opens token ≡ false) ⊎ (counts.opened - counts.closed ≤ level_limit) → length_limit < counts.tokens → IsNamed limits.Length before token
named-length counts before token e h l = record {
  passes = subst (λ (x : Counts). length_limit < x.tokens) e l;
  level_first = λ _. not-nested counts before token e h;
}

pub passes-none : (counts : Counts) (before : List Token) (token : Token) → counts ≡ counts_of (before ++ token ∷ []) →
    (opens token ≡ false) ⊎ (counts.opened - counts.closed ≤ level_limit) → counts.tokens ≤ length_limit → PassesNone before token
passes-none counts before token e h l limits.Nesting p = not-nested counts before token e h p
passes-none counts before token e h l limits.Length p =
    let long : length_limit < counts.tokens = subst (λ (x : Counts). length_limit < x.tokens) (sym e) p in
    omega arith
