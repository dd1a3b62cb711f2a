-- Lists of kinds: what their tests say.
use Rattle.std.proofs.Common.{◌≡◌, refl, sym, ◌∙◌, subst, Bool, true, false, not, ◌&&◌, ◌||◌, if◌then◌else◌, ◌⊎◌, inl, inr, List, [], ◌∷◌, ◌++◌, rules}
use denote.Enum.Bare.{sameb, same_true, true_same}
use Rattle.psl_lexer.specs.contracts.kind.TokenKind.{the_type}
use Rattle.psl_lexer.specs.declared.kind.TokenKind.{TokenKind}
use Rattle.psl_grammar.specs.Firsts.{has, at}
use Rattle.psl_grammar.specs.Trees.{Token}
use Rattle.psl_grammar.proofs.Decided.{within, apart, shares}

-- tests that hold and do not

pub clash : {A : Type 0} {b : Bool} → b ≡ true → b ≡ false → A
clash p q = absurd (apart_of (sym p ∙ q))
  where
    apart_of : true ≡ false → ⊥
    apart_of e = cc

pub and-left : (a b : Bool) → a && b ≡ true → a ≡ true
and-left true b p = refl
and-left false b p = p

pub and-right : (a b : Bool) → a && b ≡ true → b ≡ true
and-right true b p = p
and-right false b p = clash refl (sym p)

pub and-true : (a b : Bool) → a ≡ true → b ≡ true → a && b ≡ true
and-true true b p q = q
and-true false b p q = p

pub or-either : (a b : Bool) → a || b ≡ true → (a ≡ true) ⊎ (b ≡ true)
or-either true b p = inl refl
or-either false b p = inr p

pub or-left : (a b : Bool) → a ≡ true → a || b ≡ true
or-left true b p = refl
or-left false b p = clash refl (sym p)

pub or-right : (a b : Bool) → b ≡ true → a || b ≡ true
or-right true b p = refl
or-right false b p = p

pub not-true : (a : Bool) → not a ≡ true → a ≡ false
not-true true p = sym p
not-true false p = refl

-- a test holds or does not
pub decided : (a : Bool) → (a ≡ true) ⊎ (a ≡ false)
decided true = inl refl
decided false = inr refl

-- kinds

same-of : (j k : TokenKind) → sameb the_type j k ≡ true → j ≡ k
same-of j k p = same_true the_type (search rules) j k p

pub has-self : (k : TokenKind) → has k (k ∷ []) ≡ true
has-self k = or-left _ _ (true_same the_type k k refl)

pub has-one : (j k : TokenKind) → j ≡ k → has j (k ∷ []) ≡ true
has-one j k e = or-left _ _ (true_same the_type j k e)

pub kind-of_one : (j k : TokenKind) → has j (k ∷ []) ≡ true → j ≡ k
kind-of_one j k p = go (or-either (sameb the_type j k) false p)
  where
    go : (sameb the_type j k ≡ true) ⊎ (false ≡ true) → j ≡ k
    go (inl h) = same-of j k h
    go (inr h) = clash refl (sym h)

pub has-append_left : (k : TokenKind) (xs ys : List TokenKind) → has k xs ≡ true → has k (xs ++ ys) ≡ true
has-append_left k [] ys p = clash p refl
has-append_left k (x ∷ xs) ys p =
    elim (or-either (sameb the_type k x) _ p) [
      | inl h ↦ or-left (sameb the_type k x) _ h
      | inr h ↦ or-right (sameb the_type k x) _ (has-append_left k xs ys h)
    ]

pub has-append_right : (k : TokenKind) (xs ys : List TokenKind) → has k ys ≡ true → has k (xs ++ ys) ≡ true
has-append_right k [] ys p = p
has-append_right k (x ∷ xs) ys p = or-right _ _ (has-append_right k xs ys p)

pub has-append : (k : TokenKind) (xs ys : List TokenKind) → has k (xs ++ ys) ≡ true → (has k xs ≡ true) ⊎ (has k ys ≡ true)
has-append k [] ys p = inr p
has-append k (x ∷ xs) ys p = go (or-either _ _ p) (has-append k xs ys)
  where
    go : (sameb the_type k x ≡ true) ⊎ (has k (xs ++ ys) ≡ true) → (has k (xs ++ ys) ≡ true → (has k xs ≡ true) ⊎ (has k ys ≡ true))
        → (sameb the_type k x || has k xs ≡ true) ⊎ (has k ys ≡ true)
    go (inl h) more = inl (or-left _ _ h)
    go (inr h) more = elim (more h) [ inl p ↦ inl (or-right _ _ p) | inr q ↦ inr q ]

pub has-within : (k : TokenKind) (xs ys : List TokenKind) → within xs ys ≡ true → has k xs ≡ true → has k ys ≡ true
has-within k [] ys w p = clash p refl
has-within k (x ∷ xs) ys w p =
    elim (or-either _ _ p) [
      | inl h ↦ subst (λ j. has j ys ≡ true) (sym (same-of k x h)) (and-left _ _ w)
      | inr h ↦ has-within k xs ys (and-right (has x ys) _ w) h
    ]

pub has-apart : {A : Type 0} (k : TokenKind) (xs ys : List TokenKind) → apart xs ys ≡ true → has k xs ≡ true → has k ys ≡ true → A
has-apart k [] ys w p q = clash p refl
has-apart k (x ∷ xs) ys w p q =
    elim (or-either _ _ p) [
      | inl h ↦ clash (subst (λ j. has j ys ≡ true) (same-of k x h) q) (not-true _ (and-left _ _ w))
      | inr h ↦ has-apart k xs ys (and-right (not (has x ys)) _ w) h q
    ]

pub has-shares : (k : TokenKind) (xs ys both : List TokenKind) → shares xs ys both ≡ true → has k xs ≡ true → has k ys ≡ true → has k both ≡ true
has-shares k [] ys both w p q = clash p refl
has-shares k (x ∷ xs) ys both w p q =
    elim (or-either _ _ p) [
      | inl h ↦ here (same-of k x h) (or-either _ _ (and-left _ _ w))
      | inr h ↦ has-shares k xs ys both (and-right (not (has x ys) || has x both) _ w) h q
    ]
  where
    here : k ≡ x → (not (has x ys) ≡ true) ⊎ (has x both ≡ true) → has k both ≡ true
    here e (inl n) = clash (subst (λ j. has j ys ≡ true) e q) (not-true _ n)
    here e (inr h) = subst (λ j. has j both ≡ true) (sym e) h

-- the next token

pub at-left : (ts : List Token) (xs ys : List TokenKind) → at ts xs ≡ true → at ts (xs ++ ys) ≡ true
at-left [] xs ys p = p
at-left (t ∷ ts) xs ys p = has-append_left t.kind xs ys p

pub at-right : (ts : List Token) (xs ys : List TokenKind) → at ts ys ≡ true → at ts (xs ++ ys) ≡ true
at-right [] xs ys p = p
at-right (t ∷ ts) xs ys p = has-append_right t.kind xs ys p

pub at-append : (ts : List Token) (xs ys : List TokenKind) → at ts (xs ++ ys) ≡ true → (at ts xs ≡ true) ⊎ (at ts ys ≡ true)
at-append [] xs ys p = inl p
at-append (t ∷ ts) xs ys p = has-append t.kind xs ys p

pub at-within : (ts : List Token) (xs ys : List TokenKind) → within xs ys ≡ true → at ts xs ≡ true → at ts ys ≡ true
at-within [] xs ys w p = p
at-within (t ∷ ts) xs ys w p = has-within t.kind xs ys w p

pub at-apart : {A : Type 0} (ts : List Token) (xs ys : List TokenKind) → apart xs ys ≡ true → at ts xs ≡ true → at ts ys ≡ true → A
at-apart [] xs ys w p q = clash p refl
at-apart (t ∷ ts) xs ys w p q = has-apart t.kind xs ys w p q

pub at-shares : (ts : List Token) (xs ys both : List TokenKind) → shares xs ys both ≡ true → at ts xs ≡ true → at ts ys ≡ true → at ts both ≡ true
at-shares [] xs ys both w p q = p
at-shares (t ∷ ts) xs ys both w p q = has-shares t.kind xs ys both w p q

-- no token is of a kind of the empty list
pub at-none : {A : Type 0} (ts : List Token) → at ts [] ≡ true → A
at-none [] p = clash p refl
at-none (t ∷ ts) p = clash p refl

-- kinds that stand in the list only where a test holds

pub at-if : (ts : List Token) (b : Bool) (xs : List TokenKind) → b ≡ true → at ts xs ≡ true → at ts (if b then xs else []) ≡ true
at-if ts true xs p q = q
at-if ts false xs p q = clash refl (sym p)

pub at-of_if : (ts : List Token) (b : Bool) (xs : List TokenKind) → at ts (if b then xs else []) ≡ true → (b ≡ true) × (at ts xs ≡ true)
at-of_if ts true xs p = (refl, p)
at-of_if ts false xs p = at-none ts p

pub if-true : (b c : Bool) → (if b then c else true) ≡ true → b ≡ true → c ≡ true
if-true true c p q = p
if-true false c p q = clash refl (sym q)
