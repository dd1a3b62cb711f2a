-- Pieces that follow one another.
use Rattle.std.proofs.Common.{◌≡◌, ℕ, ◌+◌, ◌-◌, ◌<◌, ◌≤◌, ◌⊎◌, false, List, [], ◌∷◌, ◌++◌, length, take, drop, refl, sym, ap, subst, ◌∙◌, ⊎_elim, arith}
use Rattle.std.proofs.lemmas.List.{append-nil}
use Rattle.psl_lexer.specs.declared.kind.TokenKind.{TokenKind}
use Rattle.psl_lexer.specs.declared.kind.TokenKind.TheVariants.{Name}
use Rattle.psl_lexer.specs.declared.token.Token.{Token}
use Rattle.psl_lexer.specs.declared.front.Front.TheVariants as fronts
use Rattle.psl_lexer.specs.Tokens.{Lexeme, bytes_of, text_of, IsToken, IsFirst, is_too_large}
use Rattle.psl_lexer.specs.Gaps.{gap_bytes}
use Rattle.psl_base.specs.Places.{place_at}
use Rattle.psl_lexer.specs.Lexed.{Piece, Between, Lexed, token_at, Follow, IsReadTo}
use Rattle.psl_lexer.specs.Faults.{HasBadByte, HasUnended, HasTooLarge}
use Rattle.psl_lexer.specs.Fronts.{HasToken, Stands, IsFront}

-- one piece more
more_pieces : (text : List ℕ) (start middle end : ℕ) (pieces : List Piece) (piece : Piece) (tokens others : List Token) →
    Follow text start pieces tokens middle → Follow text middle (piece ∷ []) others end → Follow text start (pieces ++ piece ∷ []) (tokens ++ others) end
more_pieces text start middle end [] piece tokens others done last =
    rw done.1 (subst (λ (n : ℕ). Follow text n (piece ∷ []) others end) (sym done.0) last)
more_pieces text start middle end (Between gap ∷ pieces) piece tokens others done last =
    (done.0, done.1, done.2, more_pieces text (start + length (gap_bytes gap)) middle end pieces piece tokens others done.3 last)
more_pieces text start middle end (Lexed lexeme kind ∷ pieces) piece tokens others done last =
    (done.0, done.1 ++ others, done.2, done.3, done.4, rw done.5 refl, more_pieces text (start + length (bytes_of lexeme)) middle end pieces piece done.1 others done.6 last)

pub read_none : (text : List ℕ) → IsReadTo text [] 0
read_none text = record { pieces = []; follow = (refl, refl) }

pub read_gap : (text : List ℕ) (tokens : List Token) (at len : ℕ) → IsReadTo text tokens at → Stands (drop at text) (fronts.Skip len) → IsReadTo text tokens (at + len)
read_gap text tokens at len before stands =
    let last : Follow text at (Between stands.0 ∷ []) [] (at + len) = (stands.1, stands.2, stands.3, (ap (λ n. at + n) (sym stands.4), refl)) in
    record {
      pieces = before.pieces ++ Between stands.0 ∷ [];
      follow = subst (λ (t : List Token). Follow text 0 (before.pieces ++ Between stands.0 ∷ []) t (at + len)) (append-nil tokens)
          (more_pieces text 0 at (at + len) before.pieces (Between stands.0) tokens [] before.follow last);
    }

no_longer : (n len : ℕ) {P : Type 0} → (n < len) ⊎ ((n ≡ len) × P) → n ≤ len
no_longer n len h = ⊎_elim (λ lt. omega (arith, lt)) (λ e. let same = e.0 in omega (arith, same)) h

exact_or : (n len : ℕ) {A B C : Type 0} → (n < len) ⊎ ((n ≡ len) × A × B × C) → n ≤ len
exact_or n len h = ⊎_elim (λ lt. omega (arith, lt)) (λ e. let same = e.0 in omega (arith, same)) h

-- a token that stands where nothing longer does is the first
first_of : (rest : List ℕ) (lexeme : Lexeme) (kind : TokenKind) (len : ℕ) (has : HasToken rest lexeme kind len) →
    ((other : Lexeme) (other_kind : TokenKind) (after : List ℕ) → rest ≡ bytes_of other ++ after → IsToken other other_kind after → length (bytes_of other) ≤ len) →
    IsFirst lexeme kind has.after
first_of rest lexeme kind len has longest = record {
  token = has.token;
  longest = λ other other_kind after is token. let less = longest other other_kind after (has.is ∙ sym is) token in omega (arith, less, has.len_is);
}

read_lexeme : (text : List ℕ) (tokens : List Token) (at len : ℕ) (lexeme : Lexeme) (kind : TokenKind) → IsReadTo text tokens at → (has : HasToken (drop at text) lexeme kind len) →
    IsFirst lexeme kind has.after → is_too_large lexeme ≡ false → IsReadTo text (tokens ++ token_at text at lexeme kind ∷ []) (at + len)
read_lexeme text tokens at len lexeme kind before has first small =
    let last : Follow text at (Lexed lexeme kind ∷ []) (token_at text at lexeme kind ∷ []) (at + len) =
    (has.after, [], has.is, first, small, refl, (ap (λ n. at + n) (sym has.len_is), refl)) in
    record {
      pieces = before.pieces ++ Lexed lexeme kind ∷ [];
      follow = more_pieces text 0 at (at + len) before.pieces (Lexed lexeme kind) tokens (token_at text at lexeme kind ∷ []) before.follow last;
    }

-- the token as the code makes it
made : (text said : List ℕ) (at len : ℕ) (lexeme : Lexeme) (kind : TokenKind) → text_of lexeme ≡ said → len ≡ length (bytes_of lexeme) →
    token_at text at lexeme kind ≡ record { kind = kind; text = said; start = at; end = at + len; place = place_at text at }
made text said at len lexeme kind says size = rw (says, size) refl

pub read_token : (text : List ℕ) (tokens : List Token) (at len : ℕ) (kind : TokenKind) → IsReadTo text tokens at → IsFront (drop at text) (fronts.Token kind len) →
    IsReadTo text (tokens ++ record { kind = kind; text = take len (drop at text); start = at; end = at + len; place = place_at text at } ∷ []) (at + len)
read_token text tokens at len kind before front =
    let stands = front.stands in
    let first = first_of (drop at text) stands.0 kind len stands.1 (λ other other_kind after is token. exact_or (length (bytes_of other)) len (front.covers other other_kind after is token)) in
    subst (λ (t : Token). IsReadTo text (tokens ++ t ∷ []) (at + len)) (made text (take len (drop at text)) at len stands.0 kind stands.3 stands.1.len_is)
    (read_lexeme text tokens at len stands.0 kind before stands.1 first stands.2)

pub read_escaped : (text : List ℕ) (tokens : List Token) (at len : ℕ) → IsReadTo text tokens at → IsFront (drop at text) (fronts.Escaped len) →
    IsReadTo text (tokens ++ record { kind = Name; text = take (len - 2) (drop 1 (drop at text)); start = at; end = at + len; place = place_at text at } ∷ []) (at + len)
read_escaped text tokens at len before front =
    let stands = front.stands in
    let first = first_of (drop at text) stands.0 Name len stands.1 (λ other other_kind after is token. let c = front.covers other other_kind after is token in let e = c.0 in omega (arith, e)) in
    subst (λ (t : Token). IsReadTo text (tokens ++ t ∷ []) (at + len)) (made text (take (len - 2) (drop 1 (drop at text))) at len stands.0 Name stands.3 stands.1.len_is)
    (read_lexeme text tokens at len stands.0 Name before stands.1 first stands.2)

pub bad_at : (text : List ℕ) (tokens : List Token) (at offset : ℕ) → IsReadTo text tokens at → Stands (drop at text) (fronts.Bad offset) → HasBadByte text (place_at text (at + offset))
bad_at text tokens at offset before stands = record {
  offset = at;
  site = stands.0;
  reached = record { tokens = tokens; is_read = before; rest = stands.1 };
  bad = stands.2;
  at = ap (λ n. place_at text (at + n)) stands.3;
}

pub unended_at : (text : List ℕ) (tokens : List Token) (at : ℕ) → IsReadTo text tokens at → Stands (drop at text) fronts.Unended → HasUnended text (place_at text at)
unended_at text tokens at before stands = record {
  offset = at;
  site = stands.0;
  reached = record { tokens = tokens; is_read = before; rest = stands.1 };
  open_ended = stands.2;
  at = refl;
}

pub too_large_at : (text : List ℕ) (tokens : List Token) (at len : ℕ) → IsReadTo text tokens at → IsFront (drop at text) (fronts.TooLarge len) → HasTooLarge text (place_at text at)
too_large_at text tokens at len before front =
    let stands = front.stands in
    record {
      offset = at;
      lexeme = stands.0;
      kind = stands.1;
      after = stands.2.after;
      reached = record { tokens = tokens; is_read = before; rest = stands.2.is };
      first = first_of (drop at text) stands.0 stands.1 len stands.2 (λ other other_kind after is token. no_longer (length (bytes_of other)) len (front.covers other other_kind after is token));
      too_large = stands.3;
      at = refl;
    }
