-- A formula that is read word by word, and what it is where reading stops.
use Rattle.std.proofs.Common.{◌≡◌, ◌≢◌, ◌∙◌, ap, sym, refl, subst, inl, inr, ℕ, ◌+◌, ◌<◌, ◌≤◌, ℤ, true, List, [], ◌∷◌, ◌++◌, length, decimal, Option, Some, None, arith, append_assoc}
use Rattle.std.specs.Fmt.{signed_decimal}
use Rattle.std.proofs.lemmas.Bool.{and_from}
use Rattle.std.proofs.lemmas.List.{map-append, length_push, append-nil}
use Rattle.std.proofs.lemmas.List.Folds.{list_all-append}
use Rattle.std.proofs.lemmas.List.Sums.{sum_by-append, sum_by-cons}
use Rattle.psl_base.specs.declared.place.Place.{Place}
use Rattle.psl_base.specs.Tokens.{PlacedToken, TokensLeft, ◌▸◌}
use Rattle.clauses.specs.Literals.{is_within, clause_within, clauses_within}
use Rattle.clauses.specs.declared.flat.TheConstants.{MOST_VARIABLES}
use Rattle.sat_dimacs.specs.declared.fault.DimacsFault.{DimacsFault}
use Rattle.sat_dimacs.specs.declared.fault.DimacsFault.TheVariants as faults
use Rattle.sat_dimacs.specs.declared.header.Header.{Header}
use Rattle.sat_dimacs.specs.Words.{all_words}
use Rattle.sat_dimacs.specs.Formulas.{texts, p_text, cnf_text, zero_text, header_texts, literal_texts, clause_texts, StandsFor}
use Rattle.sat_dimacs.specs.Faults.{StandsAt, IsFault, HasRead, StopsAt}
use Rattle.sat_dimacs.specs.Reading.{Took, IsCount, IsNoCountFault, IsHeader, AddsWord, IsWordFault}

-- WORDS THAT WERE TAKEN

pub took_none : (all : TokensLeft) → Took all all []
took_none all = record { is = refl; end = refl }

pub took_more : {all left left' : TokensLeft} {before : List PlacedToken} (word : PlacedToken) → Took all left before → left ≡ word ▸ left' → Took all left' (before ++ word ∷ [])
took_more {all = all} {left = left} {left' = left'} {before = before} word took next = record {
  is = took.is ∙ ap (λ (l : TokensLeft). before ++ l.tokens) next ∙ sym (append_assoc before (word ∷ []) left'.tokens);
  end = sym (ap (λ (l : TokensLeft). l.end) next) ∙ took.end;
}

pub took_after : {all left left' : TokensLeft} {before more : List PlacedToken} → Took all left before → Took left left' more → Took all left' (before ++ more)
took_after {left' = left'} {before = before} {more = more} took then = record {
  is = took.is ∙ ap (λ ts. before ++ ts) then.is ∙ sym (append_assoc before more left'.tokens);
  end = then.end ∙ took.end;
}

pub at_word : {all left left' : TokensLeft} {before : List PlacedToken} (word : PlacedToken) → Took all left before → left ≡ word ▸ left' → StandsAt all before (Some word.text) word.place
at_word {left' = left'} {before = before} word took next =
    (word, left'.tokens, took.is ∙ ap (λ (l : TokensLeft). before ++ l.tokens) next, refl, refl)

pub at_end : {all left : TokensLeft} {before : List PlacedToken} → Took all left before → left.tokens ≡ [] → StandsAt all before None left.end
at_end {before = before} took none = (took.is ∙ ap (λ ts. before ++ ts) none ∙ append-nil before, took.end)

-- a place behind more words
pub stands_after : {all left : TokensLeft} {before : List PlacedToken} (word : Option (List ℕ)) (place : Place) → Took all left before → StandsAt left [] word place → StandsAt all before word place
stands_after {before = before} None place took at = (took.is ∙ ap (λ ts. before ++ ts) at.0 ∙ append-nil before, at.1 ∙ took.end)
stands_after {before = before} (Some text) place took at = (at.0, at.1, took.is ∙ ap (λ ts. before ++ ts) at.2, at.3, at.4)

texts_push : (before : List PlacedToken) (word : PlacedToken) → texts (before ++ word ∷ []) ≡ texts before ++ word.text ∷ []
texts_push before word = map-append (λ (w : PlacedToken). w.text) before (word ∷ [])

-- a text is not another
not_some : (text other : List ℕ) → (text ≡ other → ⊥) → Some text ≢ Some other
not_some text other differs same = differs cc

-- THE HEADER

pub no_header_word : {all left : TokensLeft} (word : PlacedToken) → all ≡ word ▸ left → (word.text ≡ p_text → ⊥) → IsFault all (faults.NoHeader word.place)
no_header_word {all = all} word next other = (Some word.text, at_word word (took_none all) next, not_some word.text p_text other)

pub p_taken : {all left : TokensLeft} (word : PlacedToken) → all ≡ word ▸ left → Took all left (word ∷ [])
p_taken {all = all} word next = took_more word (took_none all) next

pub no_cnf_end : {all left : TokensLeft} {before : List PlacedToken} → Took all left before → texts before ≡ p_text ∷ [] → left.tokens ≡ [] → IsFault all (faults.BadHeader left.end)
no_cnf_end {before = before} took is none = (before, None, at_end took none, inl (is, λ e. cc))

pub no_cnf_word : {all left left' : TokensLeft} {before : List PlacedToken} (word : PlacedToken) → Took all left before → texts before ≡ p_text ∷ [] → left ≡ word ▸ left'
    → (word.text ≡ cnf_text → ⊥) → IsFault all (faults.BadHeader word.place)
no_cnf_word {before = before} word took is next other = (before, Some word.text, at_word word took next, inl (is, not_some word.text cnf_text other))

pub cnf_taken : (before : List PlacedToken) (word : PlacedToken) → texts before ≡ p_text ∷ [] → word.text ≡ cnf_text → texts (before ++ word ∷ []) ≡ p_text ∷ cnf_text ∷ []
cnf_taken before word is same = texts_push before word ∙ ap (λ ts. ts ++ word.text ∷ []) is ∙ ap (λ t. p_text ∷ t ∷ []) same

pub no_count_word : {all left : TokensLeft} (word : PlacedToken) → all ≡ word ▸ left → ((count : ℕ) → count ≤ MOST_VARIABLES → word.text ≡ decimal count → ⊥)
    → IsNoCountFault all (faults.BadHeader word.place)
no_count_word {all = all} word next none =
    (Some word.text, at_word word (took_none all) next, λ count few. not_some word.text (decimal count) (none count few))

pub header_read : {all left left' left'' : TokensLeft} {before : List PlacedToken} (variables clauses : ℕ) → Took all left before → texts before ≡ p_text ∷ cnf_text ∷ []
    → IsCount left left' variables → IsCount left' left'' clauses → IsHeader all left'' (record { variables = variables; clauses = clauses })
header_read {before = before} variables clauses took is first second =
    let one = first.1 in
    let two = second.1 in (
      first.0,
      second.0,
      (
        (before ++ one.0 ∷ []) ++ two.0 ∷ [],
        took_after (took_after took one.1) two.1,
        texts_push (before ++ one.0 ∷ []) two.0
            ∙ ap (λ ts. ts ++ two.0.text ∷ []) (texts_push before one.0)
            ∙ ap (λ ts. (ts ++ one.0.text ∷ []) ++ two.0.text ∷ []) is
            ∙ ap (λ t. p_text ∷ cnf_text ∷ t ∷ two.0.text ∷ []) one.2
            ∙ ap (λ t. p_text ∷ cnf_text ∷ decimal variables ∷ t ∷ []) two.2,
      ),
    )

pub first_count_fault : {all left : TokensLeft} {before : List PlacedToken} (fault : DimacsFault) → Took all left before → texts before ≡ p_text ∷ cnf_text ∷ []
    → IsNoCountFault left fault → IsFault all fault
first_count_fault {before = before} (faults.BadHeader place) took is none =
    (before, none.0, stands_after none.0 place took none.1, inr (inl (is, none.2)))
first_count_fault (faults.NoHeader place) took is none = absurd none
first_count_fault (faults.SecondHeader place) took is none = absurd none
first_count_fault (faults.NotALiteral place) took is none = absurd none
first_count_fault (faults.LiteralTooLarge place) took is none = absurd none
first_count_fault (faults.MoreClauses place) took is none = absurd none
first_count_fault (faults.FewerClauses place) took is none = absurd none
first_count_fault (faults.OpenClause place) took is none = absurd none
first_count_fault (faults.TooLarge place) took is none = absurd none
first_count_fault faults.NoMemory took is none = absurd none

pub second_count_fault : {all left left' : TokensLeft} {before : List PlacedToken} (variables : ℕ) (fault : DimacsFault) → Took all left before → texts before ≡ p_text ∷ cnf_text ∷ []
    → IsCount left left' variables → IsNoCountFault left' fault → IsFault all fault
second_count_fault {before = before} variables (faults.BadHeader place) took is first none =
    let one = first.1 in (
      before ++ one.0 ∷ [],
      none.0,
      stands_after none.0 place (took_after took one.1) none.1,
      inr (inr (variables, first.0, texts_push before one.0 ∙ ap (λ ts. ts ++ one.0.text ∷ []) is ∙ ap (λ t. p_text ∷ cnf_text ∷ t ∷ []) one.2, none.2)),
    )
second_count_fault variables (faults.NoHeader place) took is first none = absurd none
second_count_fault variables (faults.SecondHeader place) took is first none = absurd none
second_count_fault variables (faults.NotALiteral place) took is first none = absurd none
second_count_fault variables (faults.LiteralTooLarge place) took is first none = absurd none
second_count_fault variables (faults.MoreClauses place) took is first none = absurd none
second_count_fault variables (faults.FewerClauses place) took is first none = absurd none
second_count_fault variables (faults.OpenClause place) took is first none = absurd none
second_count_fault variables (faults.TooLarge place) took is first none = absurd none
second_count_fault variables faults.NoMemory took is first none = absurd none

-- THE CLAUSES

clause_texts_push : (clauses : List (List ℤ)) (clause : List ℤ) → clause_texts (clauses ++ clause ∷ []) ≡ clause_texts clauses ++ (literal_texts clause ++ zero_text ∷ [])
clause_texts_push [] clause = refl
clause_texts_push (first ∷ clauses) clause =
    ap (λ ts. literal_texts first ++ (zero_text ∷ ts)) (clause_texts_push clauses clause)
    ∙ sym (append_assoc (literal_texts first) (zero_text ∷ clause_texts clauses) (literal_texts clause ++ zero_text ∷ []))

-- so much was read of a text
pub record ReadsTo (all left : TokensLeft) (variables wanted : ℕ) (clauses : List (List ℤ)) (begun : List ℤ) : Type 0 where
  pub before : List PlacedToken
  pub took : Took all left before
  pub read : HasRead (texts before) variables wanted clauses begun

pub reads_header : {all left : TokensLeft} (header : Header) → IsHeader all left header → ReadsTo all left header.variables header.clauses [] []
reads_header header h = record {
  before = h.2.0;
  took = h.2.1;
  read = record {
    words = h.2.2;
    few_variables = h.0;
    few_clauses = h.1;
    within = refl;
    begun_within = refl;
    few_words = omega arith;
    at_most = omega arith;
  };
}

-- a word more
pub reads_more : {all left left' : TokensLeft} {variables wanted : ℕ} {clauses : List (List ℤ)} {begun : List ℤ} (clauses' : List (List ℤ)) (begun' : List ℤ) (word : PlacedToken)
    → ReadsTo all left variables wanted clauses begun → left ≡ word ▸ left' → length clauses < wanted → AddsWord variables clauses begun word.text clauses' begun'
    → ReadsTo all left' variables wanted clauses' begun'
reads_more {variables = variables} {wanted = wanted} {clauses = clauses} {begun = begun} clauses' begun' word r next fits adds = record {
  before = r.before ++ word ∷ [];
  took = took_more word r.took next;
  read = elim adds [
    | inl ends ↦ rw (ends.1.0, ends.1.1) (record {
      words = texts_push r.before word ∙ ap (λ ts. ts ++ word.text ∷ []) r.read.words ∙ ap (λ t. (header_texts variables wanted ++ (clause_texts clauses ++ literal_texts begun)) ++ t ∷ []) ends.0
          ∙ ap (λ ts. header_texts variables wanted ++ ts) (append_assoc (clause_texts clauses) (literal_texts begun) (zero_text ∷ []) ∙ sym (clause_texts_push clauses begun)
          ∙ sym (append-nil (clause_texts (clauses ++ begun ∷ []))));
      few_variables = r.read.few_variables;
      few_clauses = r.read.few_clauses;
      within = list_all-append (clause_within variables) clauses (begun ∷ [])
          ∙ and_from (clauses_within variables clauses) (clauses_within variables (begun ∷ [])) r.read.within (and_from (clause_within variables begun) true r.read.begun_within refl);
      begun_within = refl;
      few_words = omega (arith, ends.1.2, sum_by-append (λ (clause : List ℤ). length clause + 1) clauses (begun ∷ []), sum_by-cons (λ (clause : List ℤ). length clause + 1) begun []);
      at_most = omega (arith, length_push clauses begun);
    })
    | inr more ↦ rw (more.3, more.4) (record {
      words = texts_push r.before word ∙ ap (λ ts. ts ++ word.text ∷ []) r.read.words
          ∙ ap (λ t. (header_texts variables wanted ++ (clause_texts clauses ++ literal_texts begun)) ++ t ∷ []) more.2
          ∙ ap (λ ts. header_texts variables wanted ++ ts) (append_assoc (clause_texts clauses) (literal_texts begun) (signed_decimal more.0 ∷ [])
          ∙ ap (λ ts. clause_texts clauses ++ ts) (sym (map-append (λ (literal : ℤ). signed_decimal literal) begun (more.0 ∷ []))));
      few_variables = r.read.few_variables;
      few_clauses = r.read.few_clauses;
      within = r.read.within;
      begun_within = list_all-append (is_within variables) begun (more.0 ∷ [])
          ∙ and_from (clause_within variables begun) (clause_within variables (more.0 ∷ [])) r.read.begun_within (and_from (is_within variables more.0) true more.1 refl);
      few_words = r.read.few_words;
      at_most = r.read.at_most;
    })
  ];
}

-- reading stops at a word
stops_at_word : {all left left' : TokensLeft} {variables wanted : ℕ} {clauses : List (List ℤ)} {begun : List ℤ} {P : ℕ → ℕ → List (List ℤ) → List ℤ → Option (List ℕ) → Type 0}
    (word : PlacedToken) (place : Place) → ReadsTo all left variables wanted clauses begun → left ≡ word ▸ left' → place ≡ word.place → P variables wanted clauses begun (Some word.text) → StopsAt all place P
stops_at_word {all = all} {variables = variables} {wanted = wanted} {clauses = clauses} {begun = begun} word place r next is why = record {
  before = r.before;
  variables = variables;
  wanted = wanted;
  clauses = clauses;
  begun = begun;
  word = Some word.text;
  read = r.read;
  at = subst (StandsAt all r.before (Some word.text)) (sym is) (at_word word r.took next);
  why = why;
}

stops_at_end : {all left : TokensLeft} {variables wanted : ℕ} {clauses : List (List ℤ)} {begun : List ℤ} {P : ℕ → ℕ → List (List ℤ) → List ℤ → Option (List ℕ) → Type 0}
    → ReadsTo all left variables wanted clauses begun → left.tokens ≡ [] → P variables wanted clauses begun None → StopsAt all left.end P
stops_at_end {variables = variables} {wanted = wanted} {clauses = clauses} {begun = begun} r none why = record {
  before = r.before;
  variables = variables;
  wanted = wanted;
  clauses = clauses;
  begun = begun;
  word = None;
  read = r.read;
  at = at_end r.took none;
  why = why;
}

pub word_fault : {all left left' : TokensLeft} {variables wanted : ℕ} {clauses : List (List ℤ)} {begun : List ℤ} (word : PlacedToken) (fault : DimacsFault)
    → ReadsTo all left variables wanted clauses begun → left ≡ word ▸ left' → IsWordFault variables wanted clauses begun word fault → IsFault all fault
word_fault word (faults.SecondHeader place) r next f = stops_at_word word place r next f.0 (f.1, ap (λ t. Some t) f.2)
word_fault word (faults.NotALiteral place) r next f = stops_at_word word place r next f.0 (f.1, (word.text, refl, f.2))
word_fault word (faults.LiteralTooLarge place) r next f = stops_at_word word place r next f.0 (f.1, (f.2.0, f.2.1, f.2.2, ap (λ t. Some t) f.2.3))
word_fault word (faults.MoreClauses place) r next f = stops_at_word word place r next f.0 (omega (arith, f.1, r.read.at_most), refl)
word_fault word (faults.TooLarge place) r next f = stops_at_word word place r next f.0 (f.1, ap (λ t. Some t) f.2, f.3)
word_fault word faults.NoMemory r next f = tt
word_fault word (faults.NoHeader place) r next f = absurd f
word_fault word (faults.BadHeader place) r next f = absurd f
word_fault word (faults.FewerClauses place) r next f = absurd f
word_fault word (faults.OpenClause place) r next f = absurd f

pub open_fault : {all left : TokensLeft} {variables wanted : ℕ} {clauses : List (List ℤ)} {begun : List ℤ} → ReadsTo all left variables wanted clauses begun → left.tokens ≡ [] → 0 < length begun
    → IsFault all (faults.OpenClause left.end)
open_fault r none some = stops_at_end r none (some, refl)

pub fewer_fault : {all left : TokensLeft} {variables wanted : ℕ} {clauses : List (List ℤ)} {begun : List ℤ} → ReadsTo all left variables wanted clauses begun → left.tokens ≡ [] → begun ≡ []
    → length clauses < wanted → IsFault all (faults.FewerClauses left.end)
fewer_fault r none empty few = stops_at_end r none (few, empty, refl)

pub stands_for : {text : List ℕ} {left : TokensLeft} {variables wanted : ℕ} {clauses : List (List ℤ)} {begun : List ℤ} → ReadsTo (all_words text) left variables wanted clauses begun → left.tokens ≡ []
    → begun ≡ [] → wanted ≤ length clauses → StandsFor text variables clauses
stands_for {variables = variables} {wanted = wanted} {clauses = clauses} {begun = begun} r none empty enough =
    let all_taken = at_end r.took none in
    let count : wanted ≡ length clauses = omega (arith, r.read.at_most) in
    record {
      words = ap texts all_taken.0 ∙ r.read.words ∙ ap (λ ls. header_texts variables wanted ++ (clause_texts clauses ++ literal_texts ls)) empty
          ∙ ap (λ ts. header_texts variables wanted ++ ts) (append-nil (clause_texts clauses)) ∙ ap (λ n. header_texts variables n ++ clause_texts clauses) count;
      few_variables = r.read.few_variables;
      within = r.read.within;
      few_words = r.read.few_words;
    }
