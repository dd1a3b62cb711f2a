-- A text has one list of tokens at most, or one fault.
use Rattle.std.proofs.Common.{◌≡◌, ℕ, ◌+◌, ◌-◌, ◌<◌, true, false, List, [], ◌∷◌, ◌++◌, length, take, drop, Option, Some, None, refl, sym, ap, subst, ◌∙◌, ⊎_elim, length-append, arith}
use Rattle.std.proofs.lemmas.List.{length-drop, drop_all}
use Rattle.std.proofs.lemmas.Option.{same_Some}
use Rattle.psl_lexer.specs.declared.kind.TokenKind.{TokenKind}
use Rattle.psl_lexer.specs.declared.kind.TokenKind.TheVariants.{Name}
use Rattle.psl_lexer.specs.declared.token.Token.{Token}
use Rattle.psl_lexer.specs.declared.fault.LexFault.{LexFault}
use Rattle.psl_lexer.specs.declared.fault.LexFault.TheVariants as faults
use Rattle.psl_lexer.specs.declared.front.Front.{Front}
use Rattle.psl_lexer.specs.declared.front.Front.TheVariants as fronts
use Rattle.psl_lexer.specs.Bytes.{is_white, is_digit}
use Rattle.psl_lexer.specs.Tokens.{Lexeme, bytes_of, text_of, IsToken, IsFirst, IsNumber, is_too_large}
use Rattle.psl_lexer.specs.Gaps.{Gap, White, LineComment, BlockComment, gap_bytes, IsGap}
use Rattle.psl_base.specs.Places.{place_at}
use Rattle.psl_lexer.specs.Lexed.{Piece, Between, Lexed, token_at, Follow, IsReadTo, IsLexed}
use Rattle.psl_lexer.specs.Faults.{BadSite, Foreign, NoBase, NoDigit, bad_bytes, bad_offset, IsBad, BeginsComment, OpenSite, OpenText, OpenComment, OpenName, OpenSize, OpenBase, open_bytes, IsOpen, IsFirstFault}
use Rattle.psl_lexer.specs.Fronts.{HasToken, Stands, Covers}
use Rattle.psl_lexer.specs.Reading.{front_of}
use Rattle.psl_lexer.proofs.NumberReads.{no_base_read, no_digit_read, open_size_read, open_base_read}
use Rattle.psl_lexer.proofs.TextReads.{open_text_read, line_read, block_read, open_comment_read, open_name_read}
use Rattle.psl_lexer.proofs.FrontReads.{front_stands, covers_at}
use Rattle.psl_lexer.proofs.Withins.{token_some}

-- WHAT STANDS AT THE FRONT, BY WHAT IS READ

white_read : (b : ℕ) (after : List ℕ) → is_white b ≡ true → front_of (b ∷ after) ≡ fronts.Skip 1
unfolding front_of
white_read b after h = rw h refl

gap_read : (gap : Gap) (after : List ℕ) → IsGap gap after → front_of (gap_bytes gap ++ after) ≡ fronts.Skip (length (gap_bytes gap))
gap_read (White b) after h = white_read b after h
gap_read (LineComment inside) after h = line_read inside after h
gap_read (BlockComment inside) after h = block_read inside after h

gap_at : (rest : List ℕ) (gap : Gap) (after : List ℕ) → rest ≡ gap_bytes gap ++ after → IsGap gap after → front_of rest ≡ fronts.Skip (length (gap_bytes gap))
gap_at rest gap after is h = ap front_of is ∙ gap_read gap after h

-- a token with its length and its text
pub record Said : Type 0 where
  len : ℕ
  kind : TokenKind
  text : List ℕ

abbrev said_of : ℕ → TokenKind → List ℕ → Said
said_of len kind text = record { len = len; kind = kind; text = text }

abbrev said : Front → List ℕ → Option Said
said (fronts.Skip len) rest = None
said (fronts.Token kind len) rest = Some (record { len = len; kind = kind; text = take len rest })
said (fronts.Escaped len) rest = Some (record { len = len; kind = Name; text = take (len - 2) (drop 1 rest) })
said (fronts.Bad offset) rest = None
said fronts.Unended rest = None
said (fronts.TooLarge len) rest = None

some_left : (rest : List ℕ) (lexeme : Lexeme) (kind : TokenKind) (after : List ℕ) → rest ≡ bytes_of lexeme ++ after → IsToken lexeme kind after → 0 < length rest
some_left rest lexeme kind after is token = let some = token_some lexeme kind after token in omega (arith, some, ap length is, length-append (bytes_of lexeme) after)

-- no token that stands there is longer than the first
is_longest : (rest : List ℕ) (lexeme : Lexeme) (kind : TokenKind) (after : List ℕ) → rest ≡ bytes_of lexeme ++ after → IsFirst lexeme kind after →
    (other : Lexeme) (other_kind : TokenKind) (len : ℕ) → HasToken rest other other_kind len → length (bytes_of lexeme) < len → ⊥
is_longest rest lexeme kind after is first other other_kind len has lt =
    let less = first.longest other other_kind has.after (sym has.is ∙ is) has.token in
    omega (arith, less, lt, has.len_is)

same_said : (n len : ℕ) (kind found : TokenKind) (t text : List ℕ) → n ≡ len → kind ≡ found → text ≡ t → Some (record { len = len; kind = found; text = t }) ≡ Some (said_of n kind text)
same_said n len kind found t text a b c = rw (a, b, c) refl

lexeme_said : (rest : List ℕ) (lexeme : Lexeme) (kind : TokenKind) (after : List ℕ) → rest ≡ bytes_of lexeme ++ after → IsFirst lexeme kind after → is_too_large lexeme ≡ false →
    (f : Front) → Covers rest lexeme kind f → Stands rest f → said f rest ≡ Some (said_of (length (bytes_of lexeme)) kind (text_of lexeme))
lexeme_said rest lexeme kind after is first small (fronts.Skip len) covers stands = elim covers [ ]
lexeme_said rest lexeme kind after is first small (fronts.Token found len) covers stands =
    ⊎_elim (λ lt. absurd (is_longest rest lexeme kind after is first stands.0 found len stands.1 lt))
    (λ e. same_said (length (bytes_of lexeme)) len kind found (take len rest) (text_of lexeme) e.0 e.1 e.3) covers
lexeme_said rest lexeme kind after is first small (fronts.Escaped len) covers stands =
    same_said (length (bytes_of lexeme)) len kind Name (take (len - 2) (drop 1 rest)) (text_of lexeme) covers.0 covers.1 covers.3
lexeme_said rest lexeme kind after is first small (fronts.Bad offset) covers stands = elim covers [ ]
lexeme_said rest lexeme kind after is first small fronts.Unended covers stands = elim covers [ ]
lexeme_said rest lexeme kind after is first small (fronts.TooLarge len) covers stands =
    absurd (⊎_elim (λ lt. is_longest rest lexeme kind after is first stands.0 stands.1 len stands.2 lt) (λ e. let large = e.1 in cc) covers)

token_read : (rest : List ℕ) (lexeme : Lexeme) (kind : TokenKind) (after : List ℕ) → rest ≡ bytes_of lexeme ++ after → IsFirst lexeme kind after → is_too_large lexeme ≡ false →
    said (front_of rest) rest ≡ Some (said_of (length (bytes_of lexeme)) kind (text_of lexeme))
token_read rest lexeme kind after is first small =
    lexeme_said rest lexeme kind after is first small (front_of rest) (covers_at rest lexeme kind after is first.token) (front_stands rest (some_left rest lexeme kind after is first.token))

large_cases : (rest : List ℕ) (lexeme : Lexeme) (kind : TokenKind) (after : List ℕ) → rest ≡ bytes_of lexeme ++ after → IsFirst lexeme kind after → is_too_large lexeme ≡ true →
    (f : Front) → Covers rest lexeme kind f → Stands rest f → (len : ℕ) × (f ≡ fronts.TooLarge len)
large_cases rest lexeme kind after is first large (fronts.Skip len) covers stands = elim covers [ ]
large_cases rest lexeme kind after is first large (fronts.Token found len) covers stands =
    absurd (⊎_elim (λ lt. is_longest rest lexeme kind after is first stands.0 found len stands.1 lt) (λ e. let small = e.2 in cc) covers)
large_cases rest lexeme kind after is first large (fronts.Escaped len) covers stands = let small = covers.2 in cc
large_cases rest lexeme kind after is first large (fronts.Bad offset) covers stands = elim covers [ ]
large_cases rest lexeme kind after is first large fronts.Unended covers stands = elim covers [ ]
large_cases rest lexeme kind after is first large (fronts.TooLarge len) covers stands = (len, refl)

-- A BAD BYTE

number_first : (size after : List ℕ) (b : ℕ) (bs : List ℕ) → IsNumber size → b ∷ bs ≡ size ++ after → is_digit b ≡ false → ⊥
number_first [] after b bs number is h = elim number [ ]
number_first (x ∷ size) after b bs number is h =
    let same : b ≡ x = cc in
    let no_digit : is_digit x ≡ false = subst (λ (n : ℕ). is_digit n ≡ false) same h in
    let digit = number.0 in
    cc

first_is : (b c : ℕ) (bs cs : List ℕ) → b ∷ bs ≡ c ∷ cs → (b ≡ c) × (bs ≡ cs)
first_is b c bs cs h = (cc, cc)

comment_begins : (b c : ℕ) (bs cs : List ℕ) → b ∷ bs ≡ 47 ∷ c ∷ cs → ((c ≡ 47 → ⊥) → c ≡ 42) → BeginsComment b bs
comment_begins b c [] cs h e = let both = first_is b 47 [] (c ∷ cs) h in let nil = both.1 in cc
comment_begins b c (x ∷ bs) cs h e =
    let both = first_is b 47 (x ∷ bs) (c ∷ cs) h in
    let second = first_is x c bs cs both.1 in
    (both.0, λ other. second.0 ∙ e (λ same. other (second.0 ∙ same)))

foreign_cases : (b : ℕ) (bs : List ℕ) → IsBad (Foreign b bs) → (f : Front) → Stands (b ∷ bs) f → f ≡ fronts.Bad 0
foreign_cases b bs bad (fronts.Skip len) stands = at stands.0 stands.2 stands.3 where
  at : (gap : Gap) → b ∷ bs ≡ gap_bytes gap ++ stands.1 → IsGap gap stands.1 → fronts.Skip len ≡ fronts.Bad 0
  at (White w) is h = let same : w ≡ b = cc in let white : is_white b ≡ true = subst (λ (n : ℕ). is_white n ≡ true) same h in let none = bad.1 in cc
  at (LineComment inside) is h = absurd (bad.2 (comment_begins b 47 bs (inside ++ stands.1) is (λ other. absurd (other refl))))
  at (BlockComment inside) is h = absurd (bad.2 (comment_begins b 42 bs ((inside ++ 42 ∷ 47 ∷ []) ++ stands.1) is (λ other. refl)))
foreign_cases b bs bad (fronts.Token kind len) stands = absurd (bad.0 stands.0 kind stands.1.after (sym stands.1.is) stands.1.token)
foreign_cases b bs bad (fronts.Escaped len) stands = absurd (bad.0 stands.0 Name stands.1.after (sym stands.1.is) stands.1.token)
foreign_cases b bs bad (fronts.Bad offset) stands = at stands.0 stands.1 stands.2 stands.3 where
  at : (site : BadSite) → b ∷ bs ≡ bad_bytes site → IsBad site → offset ≡ bad_offset site → fronts.Bad offset ≡ fronts.Bad 0
  at (Foreign c cs) is h zero = ap (λ n. fronts.Bad n) zero
  at (NoBase size c cs) is h zero = absurd (number_first size (39 ∷ c ∷ cs) b bs h.0 is bad.4)
  at (NoDigit size letter base c cs) is h zero = absurd (number_first size (39 ∷ letter ∷ c ∷ cs) b bs h.0 is bad.4)
foreign_cases b bs bad fronts.Unended stands = at stands.0 stands.1 stands.2 where
  at : (site : OpenSite) → b ∷ bs ≡ open_bytes site → IsOpen site → fronts.Unended ≡ fronts.Bad 0
  at (OpenText behind) is h = absurd (bad.3 (first_is b 34 bs behind is).0)
  at (OpenComment behind) is h = absurd (bad.2 (comment_begins b 42 bs behind is (λ other. refl)))
  at (OpenName behind) is h = let both = first_is b 92 bs behind is in absurd (bad.5 both.0 (rw both.1 h))
  at (OpenSize size) is h = absurd (number_first size (39 ∷ []) b bs h is bad.4)
  at (OpenBase size letter base) is h = absurd (number_first size (39 ∷ letter ∷ []) b bs h.0 is bad.4)
foreign_cases b bs bad (fronts.TooLarge len) stands = absurd (bad.0 stands.0 stands.1 stands.2.after (sym stands.2.is) stands.2.token)

bad_read : (site : BadSite) → IsBad site → front_of (bad_bytes site) ≡ fronts.Bad (bad_offset site)
bad_read (Foreign b bs) bad = foreign_cases b bs bad (front_of (b ∷ bs)) (front_stands (b ∷ bs) (omega arith))
bad_read (NoBase size b bs) bad = no_base_read size b bs bad.0 bad.1
bad_read (NoDigit size letter base b bs) bad = no_digit_read size letter base b bs bad.0 bad.1 bad.2

open_read : (site : OpenSite) → IsOpen site → front_of (open_bytes site) ≡ fronts.Unended
open_read (OpenText behind) h = open_text_read behind h
open_read (OpenComment behind) h = open_comment_read behind h
open_read (OpenName behind) h = open_name_read behind h
open_read (OpenSize size) h = open_size_read size h
open_read (OpenBase size letter base) h = open_base_read size letter base h.0 h.1

bad_some : (site : BadSite) → 0 < length (bad_bytes site)
bad_some (Foreign b bs) = omega arith
bad_some (NoBase size b bs) = omega (arith, length-append size (39 ∷ b ∷ bs))
bad_some (NoDigit size letter base b bs) = omega (arith, length-append size (39 ∷ letter ∷ b ∷ bs))

open_some : (site : OpenSite) → 0 < length (open_bytes site)
open_some (OpenText behind) = omega arith
open_some (OpenComment behind) = omega arith
open_some (OpenName behind) = omega arith
open_some (OpenSize size) = omega (arith, length-append size (39 ∷ []))
open_some (OpenBase size letter base) = omega (arith, length-append size (39 ∷ letter ∷ []))

-- ONE READING

-- nothing is read here
abbrev stays : Front → Type 0
stays (fronts.Skip len) = ⊥
stays (fronts.Token kind len) = ⊥
stays (fronts.Escaped len) = ⊥
stays (fronts.Bad offset) = Unit {0}
stays fronts.Unended = Unit {0}
stays (fronts.TooLarge len) = Unit {0}

stays_said : (f : Front) (rest : List ℕ) (s : Said) → said f rest ≡ Some s → stays f → ⊥
stays_said (fronts.Skip len) rest s h e = e
stays_said (fronts.Token kind len) rest s h e = e
stays_said (fronts.Escaped len) rest s h e = e
stays_said (fronts.Bad offset) rest s h e = cc
stays_said fronts.Unended rest s h e = cc
stays_said (fronts.TooLarge len) rest s h e = cc

abbrev Stays : List ℕ → ℕ → Type 0
Stays text at = stays (front_of (drop at text))

gap_goes : (text : List ℕ) (at : ℕ) (gap : Gap) (after : List ℕ) → drop at text ≡ gap_bytes gap ++ after → IsGap gap after → Stays text at → ⊥
gap_goes text at gap after is h e = subst (λ (f : Front). stays f) (gap_at (drop at text) gap after is h) e

token_goes : (text : List ℕ) (at : ℕ) (lexeme : Lexeme) (kind : TokenKind) (after : List ℕ) → drop at text ≡ bytes_of lexeme ++ after → IsFirst lexeme kind after → is_too_large lexeme ≡ false → Stays text at → ⊥
token_goes text at lexeme kind after is first small e = stays_said (front_of (drop at text)) (drop at text) (said_of (length (bytes_of lexeme)) kind (text_of lexeme)) (token_read (drop at text) lexeme kind after is first small) e

gap_no_token : (rest : List ℕ) (gap : Gap) (gap_after : List ℕ) (lexeme : Lexeme) (kind : TokenKind) (after : List ℕ) → rest ≡ gap_bytes gap ++ gap_after → IsGap gap gap_after →
    rest ≡ bytes_of lexeme ++ after → IsFirst lexeme kind after → is_too_large lexeme ≡ false → ⊥
gap_no_token rest gap gap_after lexeme kind after is h token_is first small =
    let read = token_read rest lexeme kind after token_is first small in
    let none : said (front_of rest) rest ≡ None = ap (λ f. said f rest) (gap_at rest gap gap_after is h) in
    cc

same_token : (text : List ℕ) (at : ℕ) (x y : Lexeme) (k j : TokenKind) → length (bytes_of x) ≡ length (bytes_of y) → k ≡ j → text_of x ≡ text_of y → token_at text at x k ≡ token_at text at y j
same_token text at x y k j a b c = rw (a, b, c) refl

pub record SameSaid (x y : Lexeme) (k j : TokenKind) : Type 0 where
  len : length (bytes_of x) ≡ length (bytes_of y)
  kind : k ≡ j
  text : text_of x ≡ text_of y

one_token : (rest : List ℕ) (x y : Lexeme) (k j : TokenKind) (a b : List ℕ) → rest ≡ bytes_of x ++ a → IsFirst x k a → is_too_large x ≡ false → rest ≡ bytes_of y ++ b → IsFirst y j b → is_too_large y ≡ false → SameSaid x y k j
one_token rest x y k j a b xs xf xl ys yf yl =
    let same = same_Some _ _ (sym (token_read rest x k a xs xf xl) ∙ token_read rest y j b ys yf yl) in
    record { len = ap (λ s. s.len) same; kind = ap (λ s. s.kind) same; text = ap (λ s. s.text) same }

pub one_reading : (text : List ℕ) (start first second : ℕ) (ps qs : List Piece) (ts us : List Token) → Follow text start ps ts first → Follow text start qs us second →
    Stays text first → Stays text second → (first ≡ second) × (ts ≡ us)
one_reading text start first second [] [] ts us p q s t = (sym p.0 ∙ q.0, p.1 ∙ sym q.1)
one_reading text start first second [] (Between gap ∷ qs) ts us p q s t = absurd (gap_goes text start gap q.0 q.1 q.2 (subst (λ (n : ℕ). Stays text n) (sym p.0) s))
one_reading text start first second [] (Lexed lexeme kind ∷ qs) ts us p q s t = absurd (token_goes text start lexeme kind q.0 q.2 q.3 q.4 (subst (λ (n : ℕ). Stays text n) (sym p.0) s))
one_reading text start first second (Between gap ∷ ps) [] ts us p q s t = absurd (gap_goes text start gap p.0 p.1 p.2 (subst (λ (n : ℕ). Stays text n) (sym q.0) t))
one_reading text start first second (Lexed lexeme kind ∷ ps) [] ts us p q s t = absurd (token_goes text start lexeme kind p.0 p.2 p.3 p.4 (subst (λ (n : ℕ). Stays text n) (sym q.0) t))
one_reading text start first second (Between gap ∷ ps) (Lexed lexeme kind ∷ qs) ts us p q s t = absurd (gap_no_token (drop start text) gap p.0 lexeme kind q.0 p.1 p.2 q.2 q.3 q.4)
one_reading text start first second (Lexed lexeme kind ∷ ps) (Between gap ∷ qs) ts us p q s t = absurd (gap_no_token (drop start text) gap q.0 lexeme kind p.0 q.1 q.2 p.2 p.3 p.4)
one_reading text start first second (Between x ∷ ps) (Between y ∷ qs) ts us p q s t =
    let skips = sym (gap_at (drop start text) x p.0 p.1 p.2) ∙ gap_at (drop start text) y q.0 q.1 q.2 in
    let same : length (gap_bytes y) ≡ length (gap_bytes x) = cc in
    one_reading text (start + length (gap_bytes x)) first second ps qs ts us p.3 (subst (λ (n : ℕ). Follow text (start + n) qs us second) same q.3) s t
one_reading text start first second (Lexed x k ∷ ps) (Lexed y j ∷ qs) ts us p q s t =
    let same = one_token (drop start text) x y k j p.0 q.0 p.2 p.3 p.4 q.2 q.3 q.4 in
    let rest = one_reading text (start + length (bytes_of x)) first second ps qs p.1 q.1 p.6 (subst (λ (n : ℕ). Follow text (start + n) qs q.1 second) (sym same.len) q.6) s t in
    let token = same_token text start x y k j same.len same.kind same.text in
    (rest.0, p.5 ∙ rw (token, rest.1) (sym q.5))

-- THE LAWS

ends_here : (text : List ℕ) → Stays text (length text)
unfolding front_of
ends_here text = rw (drop_all (length text) text (omega arith)) tt

pub one_list : (text : List ℕ) (first second : List Token) → IsLexed text first → IsLexed text second → first ≡ second
one_list text first second a b = (one_reading text 0 (length text) (length text) a.pieces b.pieces first second a.follow b.follow (ends_here text) (ends_here text)).1

abbrev fault_of : List ℕ → ℕ → Front → LexFault
fault_of text at (fronts.Skip len) = faults.NoMemory
fault_of text at (fronts.Token kind len) = faults.NoMemory
fault_of text at (fronts.Escaped len) = faults.NoMemory
fault_of text at (fronts.Bad offset) = faults.BadByte (place_at text (at + offset))
fault_of text at fronts.Unended = faults.Unended (place_at text at)
fault_of text at (fronts.TooLarge len) = faults.NumberTooLarge (place_at text at)

-- a text is read up to where a fault stands
pub record Blocked (text : List ℕ) (fault : LexFault) : Type 0 where
  offset : ℕ
  tokens : List Token
  is_read : IsReadTo text tokens offset
  stops : Stays text offset
  some : 0 < length (drop offset text)
  fault_is : fault ≡ fault_of text offset (front_of (drop offset text))

bad_blocks : (text : List ℕ) (offset : ℕ) (tokens : List Token) (f : Front) (fault : LexFault) → IsReadTo text tokens offset → front_of (drop offset text) ≡ f → stays f → 0 < length (drop offset text) → fault ≡ fault_of text offset f → Blocked text fault
bad_blocks text offset tokens f fault is_read front stops some is = record {
  offset = offset;
  tokens = tokens;
  is_read = is_read;
  stops = subst (λ (g : Front). stays g) (sym front) stops;
  some = some;
  fault_is = is ∙ ap (fault_of text offset) (sym front);
}

left_some : (text bytes : List ℕ) (offset : ℕ) → drop offset text ≡ bytes → 0 < length bytes → 0 < length (drop offset text)
left_some text bytes offset is h = omega (arith, ap length is, h)

blocks : (text : List ℕ) (fault : LexFault) → (fault ≡ faults.NoMemory → ⊥) → IsFirstFault text fault → Blocked text fault
blocks text (faults.BadByte place) some h =
    bad_blocks text h.offset h.reached.tokens (fronts.Bad (bad_offset h.site)) (faults.BadByte place) h.reached.is_read
    (ap front_of h.reached.rest ∙ bad_read h.site h.bad) tt (left_some text (bad_bytes h.site) h.offset h.reached.rest (bad_some h.site)) (ap (λ p. faults.BadByte p) h.at)
blocks text (faults.Unended place) some h =
    bad_blocks text h.offset h.reached.tokens fronts.Unended (faults.Unended place) h.reached.is_read
    (ap front_of h.reached.rest ∙ open_read h.site h.open_ended) tt (left_some text (open_bytes h.site) h.offset h.reached.rest (open_some h.site)) (ap (λ p. faults.Unended p) h.at)
blocks text (faults.NumberTooLarge place) some h =
    let rest = drop h.offset text in
    let left = some_left rest h.lexeme h.kind h.after h.reached.rest h.first.token in
    let front = large_cases rest h.lexeme h.kind h.after h.reached.rest h.first h.too_large (front_of rest) (covers_at rest h.lexeme h.kind h.after h.reached.rest h.first.token) (front_stands rest left) in
    bad_blocks text h.offset h.reached.tokens (fronts.TooLarge front.0) (faults.NumberTooLarge place) h.reached.is_read front.1 tt left (ap (λ p. faults.NumberTooLarge p) h.at)
blocks text faults.NoMemory some h = absurd (some refl)

pub one_fault : (text : List ℕ) (first second : LexFault) → (first ≡ faults.NoMemory → ⊥) → (second ≡ faults.NoMemory → ⊥) → IsFirstFault text first → IsFirstFault text second → first ≡ second
one_fault text first second a b x y =
    let p = blocks text first a x in
    let q = blocks text second b y in
    let same = one_reading text 0 p.offset q.offset p.is_read.pieces q.is_read.pieces p.tokens q.tokens p.is_read.follow q.is_read.follow p.stops q.stops in
    p.fault_is ∙ ap (λ n. fault_of text n (front_of (drop n text))) same.0 ∙ sym q.fault_is

pub not_both : (text : List ℕ) (tokens : List Token) (fault : LexFault) → IsLexed text tokens → (fault ≡ faults.NoMemory → ⊥) → IsFirstFault text fault → ⊥
not_both text tokens fault a b x =
    let p = blocks text fault b x in
    let same = one_reading text 0 (length text) p.offset a.pieces p.is_read.pieces tokens p.tokens a.follow p.is_read.follow (ends_here text) p.stops in
    let left = length-drop p.offset text in
    let at = same.0 in
    let some = p.some in
    omega (arith, left, at, some)
