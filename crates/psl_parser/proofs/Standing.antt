-- The laws of statements, heads and units.
use Rattle.std.proofs.Common.{◌≡◌, ◌≢◌, refl, sym, ◌∙◌, ap, subst, ◌⊎◌, inl, inr, Bool, true, false, ◌||◌, cond, List, [], ◌∷◌, ◌++◌, append_assoc}
use Rattle.std.proofs.lemmas.List.{append-nil}
use Rattle.std.specs.List.{list_any}
use Rattle.psl_lexer.specs.declared.kind.TokenKind.TheVariants as kinds
use Rattle.psl_lexer.specs.declared.token.Token.{Token}
use Rattle.psl_parser.specs.Statements.{State, Outside, InHead, Inside, is, level, behind_own, behind, behind_all}
use Rattle.psl_parser.specs.LimitLaws.{NoneEnds, StatementsGoOn, StatementsEnd, HeadsGoOn, HeadsEnd, UnitsEnd}
use Rattle.psl_parser.proofs.Placing.{behind-more, both-true, one-false, behind-outside}

behind-append : (from : State) (front back : List Token) → behind_all from (front ++ back) ≡ behind_all (behind_all from front) back
behind-append from [] back = refl
behind-append from (token ∷ front) back = behind-append (behind from token) front back

goes-on : (before : List Token) (token : Token) → (is kinds.Semicolon token ≡ false) ⊎ (level before ≢ 0) → behind_own before token ≡ Inside (before ++ token ∷ [])
goes-on before token h =
    ap (λ (b : Bool). cond b Outside (Inside (before ++ token ∷ []))) (one-false (is kinds.Semicolon token) (level before) h)

ends-there : (before : List Token) (token : Token) → is kinds.Semicolon token ≡ true → level before ≡ 0 → behind_own before token ≡ Outside
ends-there before token e l =
    ap (λ (b : Bool). cond b Outside (Inside (before ++ token ∷ []))) (both-true (is kinds.Semicolon token) (level before) e l)

either : (b : Bool) → (b ≡ true) ⊎ (b ≡ false)
either true = inl refl
either false = inr refl

-- the first of the tokens that follow ends no statement
first-stays : (before : List Token) (token : Token) (after : List Token) → NoneEnds (before ++ token ∷ after) →
    (is kinds.Semicolon token ≡ false) ⊎ (level before ≢ 0)
first-stays before token after h = elim (either (is kinds.Semicolon token)) [
  | inl e ↦ inr (h before token after refl e)
  | inr e ↦ inl e
]

stays : (before after : List Token) → NoneEnds (before ++ after) → behind_all (Inside before) after ≡ Inside (before ++ after)
stays before [] h = ap Inside (sym (append-nil before))
stays before (token ∷ after) h =
    let again : (before ++ token ∷ []) ++ after ≡ before ++ token ∷ after = append_assoc before (token ∷ []) after in
    ap (λ (s : State). behind_all s after) (goes-on before token (first-stays before token after h)) ∙
    (stays (before ++ token ∷ []) after (subst (λ (ts : List Token). NoneEnds ts) (sym again) h) ∙ ap Inside again)

pub statements_go_on : StatementsGoOn
statements_go_on text first more o b h =
    behind-append Outside text (first ∷ more) ∙
    (ap (λ (s : State). behind_all (behind s first) more) o ∙
    (ap (λ (s : State). behind_all s more) (behind-outside first b.no_head b.no_end ∙ goes-on [] first (first-stays [] first more h)) ∙
    stays (first ∷ []) more h))

pub statements_end : StatementsEnd
statements_end text statement last o e l =
    behind-more Outside text last ∙ (ap (λ (s : State). behind s last) o ∙ ends-there statement last e l)

or-left : (a b : Bool) → (a || b) ≡ false → a ≡ false
or-left true b e = e
or-left false b e = refl

or-right : (a b : Bool) → (a || b) ≡ false → b ≡ false
or-right true b e = let t : true ≡ false = e in absurd (cc)
or-right false b e = e

head-stays : (name : List Token) → list_any (is kinds.BraceOpen) name ≡ false → behind_all InHead name ≡ InHead
head-stays [] h = refl
head-stays (token ∷ name) h =
    ap (λ (b : Bool). behind_all (cond b Outside InHead) name) (or-left (is kinds.BraceOpen token) _ h) ∙
    head-stays name (or-right (is kinds.BraceOpen token) _ h)

head-opens : (word : Token) → is kinds.Vunit word ≡ true → behind Outside word ≡ InHead
head-opens word e = ap (λ (b : Bool). cond b InHead (cond (is kinds.BraceClose word) Outside (behind_own [] word))) e

pub heads_go_on : HeadsGoOn
heads_go_on text word name o e h =
    behind-append Outside text (word ∷ name) ∙
    (ap (λ (s : State). behind_all (behind s word) name) o ∙
    (ap (λ (s : State). behind_all s name) (head-opens word e) ∙ head-stays name h))

pub heads_end : HeadsEnd
heads_end text brace o e =
    behind-more Outside text brace ∙ (ap (λ (s : State). behind s brace) o ∙ ap (λ (b : Bool). cond b Outside InHead) e)

pub units_end : UnitsEnd
units_end text brace o v e =
    behind-more Outside text brace ∙ (ap (λ (s : State). behind s brace) o ∙
    (ap (λ (b : Bool). cond b InHead (cond (is kinds.BraceClose brace) Outside (behind_own [] brace))) v ∙
    ap (λ (b : Bool). cond b Outside (behind_own [] brace)) e))
