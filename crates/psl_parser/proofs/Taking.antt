-- A token that is taken, and one that is not, as steps of a reader of the grammar.
use Rattle.std.proofs.Common.{◌≡◌, refl, sym, ap, subst, Bool, true, false, not, ◌&&◌, ◌||◌, ◌⊎◌, inl, inr, List, [], ◌∷◌, ◌++◌}
use Rattle.psl_grammar.proofs.Decided.{apart}
use Rattle.psl_grammar.proofs.NextToken.{clash, and-left, and-right, decided, kind-of_one, at-none, at-left, at-apart, at-append}
use Rattle.psl_grammar.proofs.Past.{right-starts}
use Rattle.psl_grammar.specs.Firsts.{at, has, before_bracket, firsts, goes_left}
use Rattle.psl_grammar.specs.Parts.{Part, Quoted, ◌//◌}
use Rattle.psl_grammar.specs.Reading.{State, Left, Right, Reads, Reads as reads, Stops, Stops as stops, Syntax, Limit}
use Rattle.psl_grammar.specs.Trees.{Token, Tok}
use Rattle.psl_lexer.specs.declared.kind.TokenKind.{TokenKind}
use Rattle.psl_parser.specs.declared.fault.Fault.{Fault}
use Rattle.psl_parser.specs.Steps.{reason, Took, Reached, TookNot, TookNot as took_not}

-- which side of a choice is taken

and-no : (a b : Bool) → a ≡ false → a && b ≡ false
and-no true b p = clash refl p
and-no false b p = refl

pub chosen : {a b : Part} {from : State} → apart (firsts a) (firsts b) ≡ true → at from.tokens (firsts a) ≡ true → Left a b from
chosen {a = a} {b = b} {from = from} w p = record { holds = left (at from.tokens (firsts a)) (at from.tokens (firsts b)) (before_bracket from.tokens) p (no_other (decided (at from.tokens (firsts b)))) }
  where
    no_other : (at from.tokens (firsts b) ≡ true) ⊎ (at from.tokens (firsts b) ≡ false) → at from.tokens (firsts b) ≡ false
    no_other (inl q) = at-apart from.tokens (firsts a) (firsts b) w p q
    no_other (inr q) = q

    left : (x y z : Bool) → x ≡ true → y ≡ false → x && not (y && z) ≡ true
    left true false z e f = refl
    left true true z e f = clash refl f
    left false y z e f = clash e refl

pub other : {a b : Part} {from : State} → at from.tokens (firsts a) ≡ false → Right a b from
other {a = a} {from = from} p = record { holds = and-no (at from.tokens (firsts a)) _ p }

-- one of some kinds

abbrev pub choice : TokenKind → List TokenKind → Part
choice k [] = Quoted k
choice k (j ∷ js) = Quoted k // choice j js

firsts-choice : (k : TokenKind) (ks : List TokenKind) → firsts (choice k ks) ≡ k ∷ ks
firsts-choice k [] = refl
firsts-choice k (j ∷ js) = ap (λ xs. k ∷ xs) (firsts-choice j js)

choice-walk : (Q : Part → Type 0) (from : State) (k : TokenKind) (ks : List TokenKind) → at from.tokens (k ∷ ks) ≡ true →
    ((j : TokenKind) → at from.tokens (j ∷ []) ≡ true → Q (Quoted j)) →
    ((a b : Part) → Left a b from → Q a → Q (a // b)) → ((a b : Part) → Right a b from → Q b → Q (a // b)) → Q (choice k ks)
choice-walk Q from k [] p one left right = one k p
choice-walk Q from k (j ∷ js) p one left right =
    go (decided (goes_left (Quoted k) (choice j js) from.tokens)) (λ q. choice-walk Q from j js q one left right)
  where
    starts : at from.tokens (firsts (Quoted k // choice j js)) ≡ true
    starts = subst (λ xs. at from.tokens xs ≡ true) (sym (firsts-choice k (j ∷ js))) p

    go : (goes_left (Quoted k) (choice j js) from.tokens ≡ true) ⊎ (goes_left (Quoted k) (choice j js) from.tokens ≡ false) →
        (at from.tokens (j ∷ js) ≡ true → Q (choice j js)) → Q (Quoted k // choice j js)
    go (inl e) later = left (Quoted k) (choice j js) (record { holds = e }) (one k (and-left (at from.tokens (k ∷ [])) _ e))
    go (inr e) later =
        right (Quoted k) (choice j js) (record { holds = e })
        (later (subst (λ xs. at from.tokens xs ≡ true) (firsts-choice j js) (right-starts (Quoted k) (choice j js) from.tokens e starts)))

-- one of some kinds, or something else

abbrev pub beside : List TokenKind → Part → Part
beside [] p = p
beside (k ∷ ks) p = Quoted k // beside ks p

firsts-beside : (ks : List TokenKind) (p : Part) → firsts (beside ks p) ≡ ks ++ firsts p
firsts-beside [] p = refl
firsts-beside (k ∷ ks) p = ap (λ xs. k ∷ xs) (firsts-beside ks p)

beside-walk : (Q : Part → Type 0) (from : State) (ks : List TokenKind) (p : Part) → apart ks (firsts p) ≡ true → at from.tokens ks ≡ true →
    ((j : TokenKind) → at from.tokens (j ∷ []) ≡ true → Q (Quoted j)) →
    ((a b : Part) → Left a b from → Q a → Q (a // b)) → ((a b : Part) → Right a b from → Q b → Q (a // b)) → Q (beside ks p)
beside-walk Q from [] p w h one left right = at-none from.tokens h
beside-walk Q from (k ∷ ks) p w h one left right =
    go (decided (goes_left (Quoted k) (beside ks p) from.tokens)) (λ q. beside-walk Q from ks p (and-right (not (has k (firsts p))) _ w) q one left right)
  where
    starts : at from.tokens (firsts (Quoted k // beside ks p)) ≡ true
    starts = subst (λ xs. at from.tokens xs ≡ true) (sym (firsts-beside (k ∷ ks) p)) (at-left from.tokens (k ∷ ks) (firsts p) h)

    behind : (at from.tokens ks ≡ true) ⊎ (at from.tokens (firsts p) ≡ true) → at from.tokens ks ≡ true
    behind (inl q) = q
    behind (inr q) = at-apart from.tokens (k ∷ ks) (firsts p) w h q

    go : (goes_left (Quoted k) (beside ks p) from.tokens ≡ true) ⊎ (goes_left (Quoted k) (beside ks p) from.tokens ≡ false) →
        (at from.tokens ks ≡ true → Q (beside ks p)) → Q (Quoted k // beside ks p)
    go (inl e) later = left (Quoted k) (beside ks p) (record { holds = e }) (one k (and-left (at from.tokens (k ∷ [])) _ e))
    go (inr e) later =
        right (Quoted k) (beside ks p) (record { holds = e })
        (later (behind (at-append from.tokens ks (firsts p) (subst (λ xs. at from.tokens xs ≡ true) (firsts-beside ks p) (right-starts (Quoted k) (beside ks p) from.tokens e starts)))))

-- a token that is taken

took-at : {ks : List TokenKind} {from to : State} {t : Token} → Took ks from t to → at from.tokens ks ≡ true
took-at {ks = ks} h = subst (λ ts. at ts ks ≡ true) (sym h.front) h.kind

took-one : {ks : List TokenKind} {from to : State} {t : Token} → Took ks from t to → (j : TokenKind) → at from.tokens (j ∷ []) ≡ true → Reads (Quoted j) from (Tok t ∷ []) to
took-one {t = t} h j p =
    reads.quoted (record { front = h.front; kind = kind-of_one t.kind j (subst (λ ts. at ts (j ∷ []) ≡ true) h.front p); below = h.below; limit = h.limit })

pub taken : {k : TokenKind} {ks : List TokenKind} {from to : State} {t : Token} → Took (k ∷ ks) from t to → Reads (choice k ks) from (Tok t ∷ []) to
taken {k = k} {ks = ks} {from = from} {to = to} {t = t} h =
    choice-walk (λ part. Reads part from (Tok t ∷ []) to) from k ks (took-at h) (took-one h) (λ a b. reads.left) (λ a b. reads.right)

pub taken-beside : {ks : List TokenKind} {from to : State} {t : Token} (p : Part) → apart ks (firsts p) ≡ true → Took ks from t to → Reads (beside ks p) from (Tok t ∷ []) to
taken-beside {ks = ks} {from = from} {to = to} {t = t} p w h =
    beside-walk (λ part. Reads part from (Tok t ∷ []) to) from ks p w (took-at h) (took-one h) (λ a b. reads.left) (λ a b. reads.right)

-- a token that is not taken

reached-at : {ks : List TokenKind} {from to : State} → Reached ks from to → at from.tokens ks ≡ true
reached-at {ks = ks} h = subst (λ ts. at ts ks ≡ true) (sym h.front) h.kind

reached-one : {ks : List TokenKind} {from to : State} → Reached ks from to → (j : TokenKind) → at from.tokens (j ∷ []) ≡ true → Stops Limit (Quoted j) from to
reached-one h j p =
    stops.passed (record {
      token = h.token;
      rest = h.rest;
      front = h.front;
      kind = kind-of_one h.token.kind j (subst (λ ts. at ts (j ∷ []) ≡ true) h.front p);
      reached = h.reached;
      stays = h.stays;
    })

or-first : (a b : Bool) → a || b ≡ false → a || false ≡ false
or-first true b p = p
or-first false b p = refl

or-second : (a b : Bool) → a || b ≡ false → b ≡ false
or-second true b p = clash refl p
or-second false b p = p

pub missed-first : (ts : List Token) (k : TokenKind) (ks : List TokenKind) → at ts (k ∷ ks) ≡ false → at ts (k ∷ []) ≡ false
missed-first [] k ks p = refl
missed-first (t ∷ ts) k ks p = or-first _ (has t.kind ks) p

pub missed-later : (ts : List Token) (k : TokenKind) (ks : List TokenKind) → at ts (k ∷ ks) ≡ false → at ts ks ≡ false
missed-later [] k ks p = refl
missed-later (t ∷ ts) k ks p = or-second _ (has t.kind ks) p

missed-all : {from to : State} (k : TokenKind) (ks : List TokenKind) → at from.tokens (k ∷ ks) ≡ false → from ≡ to → Stops Syntax (choice k ks) from to
missed-all k [] p e = stops.quoted p e
missed-all {from = from} k (j ∷ js) p e =
    stops.right (other (missed-first from.tokens k (j ∷ js) p)) (missed-all j js (missed-later from.tokens k (j ∷ js) p) e)

pub stopped : {k : TokenKind} {ks : List TokenKind} {from to : State} {e : Fault} → TookNot (k ∷ ks) from e to → Stops (reason e) (choice k ks) from to
stopped {k = k} {ks = ks} (took_not.missed h) = missed-all k ks h.misses h.stays
stopped {k = k} {ks = ks} {from = from} {to = to} (took_not.reached h) =
    choice-walk (λ part. Stops Limit part from to) from k ks (reached-at h) (reached-one h) (λ a b. stops.left) (λ a b. stops.right)

pub stopped-beside : {ks : List TokenKind} {from to : State} {e : Fault} (p : Part) → apart ks (firsts p) ≡ true → at from.tokens ks ≡ true → TookNot ks from e to → Stops (reason e) (beside ks p) from to
stopped-beside p w q (took_not.missed h) = clash q h.misses
stopped-beside {ks = ks} {from = from} {to = to} p w q (took_not.reached h) =
    beside-walk (λ part. Stops Limit part from to) from ks p w (reached-at h) (reached-one h) (λ a b. stops.left) (λ a b. stops.right)
