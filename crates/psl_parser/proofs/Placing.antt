-- Where tokens stand, token by token.
use Rattle.std.proofs.Common.{◌≡◌, ◌≢◌, refl, sym, ◌∙◌, ap, subst, ℕ, ◌+◌, ◌<◌, ◌⊎◌, inl, inr, Bool, true, false, ◌&&◌, ◌||◌, ◌==◌, cond, List, [], ◌∷◌, ◌++◌, length, take, get_or, Option, None, Some, Result, Ok, Err, arith, add-one}
use Rattle.std.proofs.Math.Seq.{take-suc}
use Rattle.std.proofs.lemmas.Option.{slice_get_read}
use Rattle.std.proofs.lemmas.Grind.{common_steps}
use Rattle.std.specs.List.{slice_get}
use Rattle.psl_lexer.specs.declared.kind.TokenKind.TheVariants as kinds
use Rattle.psl_lexer.specs.declared.token.Token.{Token}
use Rattle.psl_parser.specs.declared.limit.Limit.{Limit}
use Rattle.psl_parser.specs.declared.limit.Limit.TheVariants as limits
use Rattle.psl_parser.specs.declared.state.Counts.{Counts}
use Rattle.psl_parser.specs.declared.state.State as code
use Rattle.psl_parser.specs.declared.state.State.TheVariants as states
use Rattle.psl_parser.specs.Statements.{is, level, own, behind_own, behind, behind_all, state_of}
use Rattle.psl_parser.specs.Statements as text
use Rattle.psl_parser.specs.Limits.{Passes, PassesAt, NonePasses, IsFirstPassed}
use Rattle.psl_parser.specs.Counted.{counts_of, counted, PassesNone, PassesNoneAt, IsNamedAt, StepsBehind, StepsFrom}

-- one more token
pub behind-more : (from : text.State) (before : List Token) (token : Token) → behind_all from (before ++ token ∷ []) ≡ behind (behind_all from before) token
behind-more from [] token = refl
behind-more from (first ∷ before) token = behind-more (behind from first) before token

pub both-true : (a : Bool) (n : ℕ) → a ≡ true → n ≡ 0 → (a && (n == 0)) ≡ true
both-true a n e l = grind (arith, common_steps)

pub one-false : (a : Bool) (n : ℕ) → (a ≡ false) ⊎ (n ≢ 0) → (a && (n == 0)) ≡ false
one-false a n (inl e) = grind (arith, common_steps)
one-false a n (inr l) = grind (arith, common_steps)

-- a `;` at level 0 ends the statement
pub ends : (before : List Token) (token : Token) → is kinds.Semicolon token ≡ true → level before ≡ 0 → states.Outside ≡ counted (behind_own before token)
ends before token e l =
    ap (λ (b : Bool). counted (cond b text.Outside (text.Inside (before ++ token ∷ [])))) (sym (both-true (is kinds.Semicolon token) (level before) e l))

-- another token does not
pub goes : (counts : Counts) (before : List Token) (token : Token) → (is kinds.Semicolon token ≡ false) ⊎ (level before ≢ 0) →
    counts ≡ counts_of (before ++ token ∷ []) → states.Inside counts ≡ counted (behind_own before token)
goes counts before token h e =
    ap (λ (x : Counts). states.Inside x) e ∙
    ap (λ (b : Bool). counted (cond b text.Outside (text.Inside (before ++ token ∷ [])))) (sym (one-false (is kinds.Semicolon token) (level before) h))

pub behind-outside : (token : Token) → is kinds.Vunit token ≡ false → is kinds.BraceClose token ≡ false → behind text.Outside token ≡ behind_own [] token
behind-outside token v b =
    ap (λ (x : Bool). cond x text.InHead (cond (is kinds.BraceClose token) text.Outside (behind_own [] token))) v ∙
    ap (λ (x : Bool). cond x text.Outside (behind_own [] token)) b

own-outside : (token : Token) → is kinds.Vunit token ≡ false → is kinds.BraceClose token ≡ false → own text.Outside token ≡ Some []
own-outside token v b =
    let none : Option (List Token) = None in
    let some : Option (List Token) = Some [] in
    ap (λ (x : Bool). cond (x || is kinds.BraceClose token) none some) v ∙
    ap (λ (x : Bool). cond (false || x) none some) b

some-same : {X : Type 0} (x y : X) (o : Option X) → o ≡ Some x → o ≡ Some y → x ≡ y
some-same x y o e h = let s : Some x ≡ Some y = sym e ∙ h in cc

-- outside of statements another token than `vunit` and `}` begins a statement
pub begins : (from : text.State) (token : Token) (result : Result code.State Limit) → states.Outside ≡ counted from →
    is kinds.Vunit token ≡ false → is kinds.BraceClose token ≡ false →
    StepsBehind [] token result → StepsFrom from token result
begins text.Outside token (Ok state) e v b h = (
  h.0 ∙ ap counted (sym (behind-outside token v b)),
  λ before o. subst (λ (xs : List Token). PassesNone xs token) (some-same [] before _ (own-outside token v b) o) h.1,
)
begins text.Outside token (Err limit) e v b h = ([], own-outside token v b, h)
begins text.InHead token result e v b h = absurd (cc)
begins (text.Inside before) token result e v b h = absurd (cc)

-- where the next token stands behind one more token of a list
pub state-more : (tokens : List Token) (index : ℕ) (token : Token) → index < length tokens → token ≡ get_or tokens index token →
    state_of (take (index + 1) tokens) ≡ behind (state_of (take index tokens)) token
state-more tokens index token l e =
    let longer : take (index + 1) tokens ≡ take index tokens ++ token ∷ [] =
    ap (λ (n : ℕ). take n tokens) (add-one index) ∙
    (take-suc tokens index token l ∙ ap (λ (x : Token). take index tokens ++ x ∷ []) (sym e)) in
    ap state_of longer ∙ behind-more text.Outside (take index tokens) token

stands : (tokens : List Token) (index : ℕ) (token : Token) → index < length tokens → token ≡ get_or tokens index token → slice_get tokens index ≡ Some token
stands tokens index token l e = slice_get_read tokens (length tokens) index token refl l e

-- what a token passes is told behind the tokens of its statement
told : (tokens : List Token) (index : ℕ) (token : Token) (limit : Limit) → index < length tokens → token ≡ get_or tokens index token →
    PassesAt tokens index limit → (before : List Token) × (own (state_of (take index tokens)) token ≡ Some before) × Passes limit before token
told tokens index token limit l e h =
    let same : h.token ≡ token = some-same h.token token (slice_get tokens index) h.stands (stands tokens index token l e) in (
      h.before,
      subst (λ (x : Token). own (state_of (take index tokens)) x ≡ Some h.before) same h.statement,
      subst (λ (x : Token). Passes limit h.before x) same h.passes,
    )

low-or-same : (other index : ℕ) → other < index + 1 → (other < index) ⊎ (other ≡ index)
low-or-same other index l = grind arith

-- one more token passes no limit
pub none-more : (tokens : List Token) (index : ℕ) (token : Token) → index < length tokens → token ≡ get_or tokens index token →
    NonePasses tokens index → PassesNoneAt (state_of (take index tokens)) token → NonePasses tokens (index + 1)
none-more tokens index token l e h n other limit u p = go (low-or-same other index u)
  where
    here : PassesAt tokens index limit → ⊥
    here q = let t = told tokens index token limit l e q in n t.0 t.1 limit t.2

    go : (other < index) ⊎ (other ≡ index) → ⊥
    go (inl low) = h other limit low p
    go (inr same) = here (subst (λ (i : ℕ). PassesAt tokens i limit) same p)

-- the next token passes a limit, and none before it does
pub first-named : (tokens : List Token) (index : ℕ) (token : Token) (limit : Limit) → index < length tokens → token ≡ get_or tokens index token →
    NonePasses tokens index → IsNamedAt limit (state_of (take index tokens)) token → IsFirstPassed tokens (record { token = index; limit = limit })
first-named tokens index token limit l e h n = record {
  within = l;
  passes = record { token = token; before = n.0; stands = stands tokens index token l e; statement = n.1; passes = n.2.passes };
  first = h;
  level_first = λ long p.
      let t = told tokens index token limits.Nesting l e p in
      n.2.level_first long (subst (λ (xs : List Token). Passes limits.Nesting xs token) (some-same t.0 n.0 _ t.1 n.1) t.2);
}
