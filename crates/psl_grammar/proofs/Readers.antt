-- What is read is derived; where a reader stops its symbol is begun up to there.
use Rattle.std.proofs.Common.{◌≡◌, refl, sym, ◌∙◌, ap, subst, ℕ, ◌≤◌, List, [], ◌∷◌, length, arith}
use Rattle.psl_grammar.specs.Derivation.{Derives, Derives as derived, Begins, Begins as begun}
use Rattle.psl_grammar.specs.Parts.{Part, Quoted}
use Rattle.psl_grammar.specs.Reading.{State, Takes, Passes, Reads, Reads as reads, Stops, Stops as stops, Syntax, Limit}
use Rattle.psl_grammar.specs.Trees.{Token, Item, Tok}
use Rattle.psl_lexer.specs.declared.kind.TokenKind.{TokenKind}
use Rattle.psl_grammar.proofs.Lengths.{Taken, Taken-shrinks, derived-starts}

take-quoted : {k : TokenKind} {from to : State} {t : Token} → Takes k from t to → Derives (Quoted k) from.tokens (Tok t ∷ []) to.tokens
take-quoted {k = k} {to = to} {t = t} h = subst (λ ts. Derives (Quoted k) ts (Tok t ∷ []) to.tokens) (sym h.front) (derived.quoted h.kind)

pub read-derived : {a : Part} {from to : State} {f : List Item} → Reads a from f to → Derives a from.tokens f to.tokens
read-derived (reads.quoted h) = take-quoted h
read-derived (reads.symbol x e) = derived.symbol (read-derived x) e
read-derived (reads.both x y e) = derived.both (read-derived x) (read-derived y) e
read-derived (reads.left h x) = derived.left (read-derived x)
read-derived (reads.right h x) = derived.right (read-derived x)
read-derived (reads.end h) = derived.end
read-derived (reads.more h x y e) = derived.more (read-derived x) (read-derived y) e
read-derived (reads.without h) = derived.without
read-derived (reads.with h x) = derived.with (read-derived x)

pub read-starts : {a : Part} {from to : State} {f : List Item} → Reads a from f to → Taken a from.tokens to.tokens
read-starts x = derived-starts (read-derived x)

pub read-shrinks : {a : Part} {from to : State} {f : List Item} → Reads a from f to → length to.tokens ≤ length from.tokens
read-shrinks {a = a} {from = from} {to = to} x = Taken-shrinks a from.tokens to.tokens (read-starts x)

-- the place of a limit stays
pub read-limit : {a : Part} {from to : State} {f : List Item} → Reads a from f to → to.limit ≡ from.limit
read-limit (reads.quoted h) = h.limit
read-limit (reads.symbol x e) = read-limit x
read-limit (reads.both x y e) = read-limit y ∙ read-limit x
read-limit (reads.left h x) = read-limit x
read-limit (reads.right h x) = read-limit x
read-limit (reads.end h) = refl
read-limit (reads.more h x y e) = read-limit y ∙ read-limit x
read-limit (reads.without h) = refl
read-limit (reads.with h x) = read-limit x

-- where a reader stops

pub stop-begins : {a : Part} {from stop : State} → Stops Syntax a from stop → Begins a from.tokens stop.tokens
stop-begins (stops.quoted {k = k} {from = from} h e) = subst (λ x. Begins (Quoted k) from.tokens x.tokens) e begun.nothing
stop-begins (stops.symbol x) = begun.symbol (stop-begins x)
stop-begins (stops.first x) = begun.first (stop-begins x)
stop-begins (stops.next f x y) = begun.next f (read-derived x) (stop-begins y)
stop-begins (stops.left h x) = begun.left (stop-begins x)
stop-begins (stops.right h x) = begun.right (stop-begins x)
stop-begins (stops.now h x) = begun.now (stop-begins x)
stop-begins (stops.later f h x y) = begun.later f (read-derived x) (stop-begins y)
stop-begins (stops.maybe h x) = begun.maybe (stop-begins x)

-- A limit stands at a token that fits: with it the part is still begun.
pub record PassesAt (a : Part) (from stop : State) : Type 0 where
  pub token : Token
  pub rest : List Token
  pub front : stop.tokens ≡ token ∷ rest
  pub reached : length rest ≡ stop.limit
  pub begun : Begins a from.tokens rest

passes-quoted : {k : TokenKind} {from stop : State} → Passes k from stop → PassesAt (Quoted k) from stop
passes-quoted {k = k} {from = from} {stop = stop} h =
    record {
      token = h.token;
      rest = h.rest;
      front = ap (λ x. x.tokens) h.stays ∙ h.front;
      reached = h.reached ∙ sym (ap (λ x. x.limit) h.stays);
      begun = subst (λ ts. Begins (Quoted k) ts h.rest) (sym h.front) (begun.quoted h.kind);
    }

-- what passes a limit in one part passes it in another that this part's beginnings begin
passes-in : {a c : Part} {from mid stop : State} → ((rest : List Token) → Begins a mid.tokens rest → Begins c from.tokens rest) → PassesAt a mid stop → PassesAt c from stop
passes-in f h = record { token = h.token; rest = h.rest; front = h.front; reached = h.reached; begun = f h.rest h.begun }

pub limit-begins : {a : Part} {from stop : State} → Stops Limit a from stop → PassesAt a from stop
limit-begins (stops.passed h) = passes-quoted h
limit-begins (stops.symbol x) = passes-in (λ rest. begun.symbol) (limit-begins x)
limit-begins (stops.first x) = passes-in (λ rest. begun.first) (limit-begins x)
limit-begins (stops.next f x y) = passes-in (λ rest. begun.next f (read-derived x)) (limit-begins y)
limit-begins (stops.left h x) = passes-in (λ rest. begun.left) (limit-begins x)
limit-begins (stops.right h x) = passes-in (λ rest. begun.right) (limit-begins x)
limit-begins (stops.now h x) = passes-in (λ rest. begun.now) (limit-begins x)
limit-begins (stops.later f h x y) = passes-in (λ rest. begun.later f (read-derived x)) (limit-begins y)
limit-begins (stops.maybe h x) = passes-in (λ rest. begun.maybe) (limit-begins x)

down : {k m n : ℕ} → k ≤ m → m ≤ n → k ≤ n
down h g = omega arith

pub stop-shrinks : {a : Part} {from stop : State} → Stops Syntax a from stop → length stop.tokens ≤ length from.tokens
stop-shrinks (stops.quoted {k = k} {from = from} h e) = subst (λ x. length x.tokens ≤ length from.tokens) e (omega arith)
stop-shrinks (stops.symbol x) = stop-shrinks x
stop-shrinks (stops.first x) = stop-shrinks x
stop-shrinks (stops.next f x y) = down (stop-shrinks y) (read-shrinks x)
stop-shrinks (stops.left h x) = stop-shrinks x
stop-shrinks (stops.right h x) = stop-shrinks x
stop-shrinks (stops.now h x) = stop-shrinks x
stop-shrinks (stops.later f h x y) = down (stop-shrinks y) (read-shrinks x)
stop-shrinks (stops.maybe h x) = stop-shrinks x
