-- What the reader's end says of the whole text.
use Rattle.std.proofs.Common.{◌≡◌, ◌≢◌, refl, sym, ◌∙◌, ap, subst, ℕ, suc, ◌-◌, ◌≤◌, ◌<◌, ◌⊎◌, inl, inr, List, [], ◌∷◌, ◌++◌, length, drop, Option, None, Some, MatchOption, arith, length-append, length-drop}
use Rattle.psl_grammar.proofs.Fronts.{EndsIn, begun-ends}
use Rattle.psl_grammar.proofs.Proved.{one_tree, one_place, tree_has_no_fault, read_is_tree, stop_is_fault, limit_comes_first, read_within_limit, fault_within_limit}
use Rattle.psl_grammar.specs.declared.tree.UnitTree.{UnitTree}
use Rattle.psl_grammar.specs.Derivation.{IsSyntaxFault, Begins}
use Rattle.psl_grammar.specs.Parts.{Text, Sym}
use Rattle.psl_grammar.specs.Reading.{State, Reads, Stops, Syntax, Limit, StopsWhole}
use Rattle.psl_grammar.specs.Surface.{tree_node}
use Rattle.psl_grammar.specs.Trees.{Token, Tree}
use Rattle.psl_parser.specs.declared.limit.Limit.{Limit as Kind}
use Rattle.psl_parser.specs.declared.limit.Limit.TheVariants as limits
use Rattle.psl_parser.specs.declared.limit.Passed.{Passed}
use Rattle.psl_parser.specs.Limits.{IsFirstPassed, NonePasses, PassesAt}
use Rattle.psl_parser.specs.declared.fault.ParseFault.{ParseFault}
use Rattle.psl_parser.specs.declared.fault.ParseFault.TheVariants as faults
use Rattle.psl_parser.specs.Laws.{OneFault, NotBoth, OneParsed}
use Rattle.psl_parser.specs.Parsing.{limit_fault, limit_of, IsParsed, IsParseFault, HasSyntaxFault, IsSyntaxFirst, IsLimitFirst}

-- what the scan says
abbrev pub Scanned : List Token → Option Passed → Type 0
Scanned tokens passed = MatchOption passed (NonePasses tokens (length tokens)) (IsFirstPassed tokens)

abbrev start : List Token → Option Passed → State
start tokens passed = record { tokens = tokens; limit = limit_of (length tokens) passed }

below : (n p : ℕ) → p < n → n ≤ n - suc p → ⊥
below n p h g = omega arith

none-up : {tokens : List Token} {high low : ℕ} → low ≤ high → NonePasses tokens high → NonePasses tokens low
none-up {high = high} {low = low} h f other limit g = f other limit (up other h g)
  where
    up : (other : ℕ) → low ≤ high → other < low → other < high
    up other h g = omega arith

pub parsed : (tokens : List Token) (passed : Option Passed) (x : UnitTree) (to : State) → Scanned tokens passed → Reads (Sym Text) (start tokens passed) (Tree (tree_node x) ∷ []) to → to.tokens ≡ [] → IsParsed tokens x
parsed tokens None x to scan h e = record { derived = read_is_tree Text (start tokens None) (tree_node x) (to, h, e); within = scan }
parsed tokens (Some p) x to scan h e = absurd (below (length tokens) p.token scan.within (read_within_limit Text (start tokens (Some p)) (tree_node x) (to, h, e)))

-- the rest behind so many tokens

drop-front : (front rest : List Token) → drop (length front) (front ++ rest) ≡ rest
drop-front [] rest = refl
drop-front (t ∷ front) rest = drop-front front rest

behind : (tokens rest : List Token) → EndsIn tokens rest → drop (length tokens - length rest) tokens ≡ rest
behind tokens rest (front, e) = subst (λ ts. drop (length ts - length rest) ts ≡ rest) (sym e) (ap (λ n. drop n (front ++ rest)) (count front) ∙ drop-front front rest)
  where
    count : (front : List Token) → length (front ++ rest) - length rest ≡ length front
    count front = omega (arith, length-append front rest)

fault-begins : (tokens rest : List Token) → IsSyntaxFault Text tokens rest → Begins (Sym Text) tokens rest
fault-begins tokens [] h = h.0
fault-begins tokens (t ∷ rest) h = h.0

has-fault : (tokens rest : List Token) → IsSyntaxFault Text tokens rest → HasSyntaxFault tokens (length tokens - length rest)
has-fault tokens rest h = record {
  within = less (length tokens) (length rest);
  fault = subst (λ z. IsSyntaxFault Text tokens z) (sym (behind tokens rest (begun-ends (fault-begins tokens rest h)))) h;
}
  where
    less : (n k : ℕ) → n - k ≤ n
    less n k = omega arith

lower : (n p k : ℕ) → k ≤ n → n - suc p < k → n - k ≤ p
lower n p k h g = omega arith

short : (n p : ℕ) → p < n → n - suc p < n
short n p h = omega arith

pub syntax_first : (tokens : List Token) (passed : Option Passed) (stop : State) → Scanned tokens passed → length stop.tokens ≤ length tokens → StopsWhole Text (start tokens passed) stop → IsSyntaxFirst tokens (length tokens - length stop.tokens)
syntax_first tokens None stop scan l h =
    let found : HasSyntaxFault tokens (length tokens - length stop.tokens) = has-fault tokens stop.tokens (stop_is_fault Text (start tokens None) stop h) in
    record { syntax_fault = found; within = none-up found.within scan }
syntax_first tokens (Some p) stop scan l h = record {
  syntax_fault = has-fault tokens stop.tokens (stop_is_fault Text (start tokens (Some p)) stop h);
  within = none-up (lower (length tokens) p.token (length stop.tokens) l (fault_within_limit Text (start tokens (Some p)) stop h (short (length tokens) p.token scan.within))) scan.first;
}

past : (n p other k : ℕ) → p < n → other ≤ p → k ≡ suc (n - suc p) → n - other < k → ⊥
past n p other k h g e l = omega arith

pub limit_first : (tokens : List Token) (p : Passed) (stop : State) (kind : Kind) → p.limit ≡ kind → IsFirstPassed tokens p → Stops Limit (Sym Text) (start tokens (Some p)) stop → IsLimitFirst kind tokens p.token
limit_first tokens p stop kind e scan h = record {
  passed = subst (λ z. IsFirstPassed tokens (record { token = p.token; limit = z })) e scan;
  syntax_free = λ other l g. past (length tokens) p.token other (length stop.tokens) scan.within l found.0 (subst (λ z. z < length stop.tokens) (length-drop other tokens) (found.1 (drop other tokens) g.fault));
}
  where
    found : (length stop.tokens ≡ suc (length tokens - suc p.token)) × ((rest : List Token) → IsSyntaxFault Text tokens rest → length rest < length stop.tokens)
    found = limit_comes_first Text (start tokens (Some p)) stop h

pub limit_found : (tokens : List Token) (p : Passed) (stop : State) → IsFirstPassed tokens p → Stops Limit (Sym Text) (start tokens (Some p)) stop → IsParseFault tokens (limit_fault p.limit p.token)
limit_found tokens p stop scan h = go p.limit refl
  where
    go : (kind : Kind) → p.limit ≡ kind → IsParseFault tokens (limit_fault kind p.token)
    go limits.Nesting e = limit_first tokens p stop limits.Nesting e scan h
    go limits.Length e = limit_first tokens p stop limits.Length e scan h

more : (n k : ℕ) → k ≤ n → k ≡ suc n → ⊥
more n k h e = omega arith

pub no_limit : (tokens : List Token) (stop : State) → length stop.tokens ≤ length tokens → Stops Limit (Sym Text) (start tokens None) stop → ⊥
no_limit tokens stop l h = more (length tokens) (length stop.tokens) l (limit_comes_first Text (start tokens None) stop h).0

-- the same of the slice that the code reads, and of the limit that it computes

some-left : (t : Token) (ts : List Token) → length (t ∷ ts) ≡ 0 → ⊥
some-left t ts n = omega arith

pub end_tree : (tokens slice : List Token) (limit : ℕ) (passed : Option Passed) (x : UnitTree) (to : State) → slice ≡ tokens → limit ≡ limit_of (length slice) passed → Scanned slice passed →
    Reads (Sym Text) (record { tokens = slice; limit = limit }) (Tree (tree_node x) ∷ []) to → length to.tokens ≡ 0 → IsParsed tokens x
end_tree tokens slice limit passed x to e i scan h n =
    subst (λ ts. IsParsed ts x) e (parsed slice passed x to scan (subst (λ k. Reads (Sym Text) (record { tokens = slice; limit = k }) (Tree (tree_node x) ∷ []) to) i h) (nil to.tokens n))
  where
    nil : (ts : List Token) → length ts ≡ 0 → ts ≡ []
    nil [] n = refl
    nil (t ∷ ts) n = absurd (some-left t ts n)

pub end_syntax : (tokens slice : List Token) (limit : ℕ) (passed : Option Passed) (stop : State) → slice ≡ tokens → limit ≡ limit_of (length slice) passed → Scanned slice passed → length stop.tokens ≤ length slice →
    Stops Syntax (Sym Text) (record { tokens = slice; limit = limit }) stop → IsSyntaxFirst tokens (length slice - length stop.tokens)
end_syntax tokens slice limit passed stop e i scan l h =
    subst (λ ts. IsSyntaxFirst ts (length slice - length stop.tokens)) e (syntax_first slice passed stop scan l (inl (subst (λ k. Stops Syntax (Sym Text) (record { tokens = slice; limit = k }) stop) i h)))

pub end_rest : (tokens slice : List Token) (limit : ℕ) (passed : Option Passed) (x : UnitTree) (stop : State) → slice ≡ tokens → limit ≡ limit_of (length slice) passed → Scanned slice passed → length stop.tokens ≤ length slice →
    Reads (Sym Text) (record { tokens = slice; limit = limit }) (Tree (tree_node x) ∷ []) stop → length stop.tokens ≢ 0 → IsSyntaxFirst tokens (length slice - length stop.tokens)
end_rest tokens slice limit passed x stop e i scan l h n =
    subst (λ ts. IsSyntaxFirst ts (length slice - length stop.tokens)) e
    (syntax_first slice passed stop scan l (inr (tree_node x, subst (λ k. Reads (Sym Text) (record { tokens = slice; limit = k }) (Tree (tree_node x) ∷ []) stop) i h, λ j. n (ap length j))))

pub end_limit : (tokens slice : List Token) (limit : ℕ) (passed : Option Passed) (p : Passed) (stop : State) (fault : ParseFault) → slice ≡ tokens → limit ≡ limit_of (length slice) passed → passed ≡ Some p → Scanned slice passed →
    Stops Limit (Sym Text) (record { tokens = slice; limit = limit }) stop → fault ≡ limit_fault p.limit p.token → IsParseFault tokens fault
end_limit tokens slice limit passed p stop fault e i j scan h f =
    subst (λ z. IsParseFault tokens z) (sym f)
    (subst (λ ts. IsParseFault ts (limit_fault p.limit p.token)) e
    (limit_found slice p stop (subst (λ z. Scanned slice z) j scan) (subst (λ k. Stops Limit (Sym Text) (record { tokens = slice; limit = k }) stop) (i ∙ ap (limit_of (length slice)) j) h)))

pub end_none : (slice : List Token) (limit : ℕ) (passed : Option Passed) (stop : State) → limit ≡ limit_of (length slice) passed → passed ≡ None → length stop.tokens ≤ length slice →
    Stops Limit (Sym Text) (record { tokens = slice; limit = limit }) stop → ⊥
end_none slice limit passed stop i j l h = no_limit slice stop l (subst (λ k. Stops Limit (Sym Text) (record { tokens = slice; limit = k }) stop) (i ∙ ap (limit_of (length slice)) j) h)

-- one answer

high-or-low : (i j : ℕ) → (i ≤ j) ⊎ (j < i)
high-or-low i j = grind arith

same-length : (n i j : ℕ) → i ≤ n → j ≤ n → n - i ≡ n - j → i ≡ j
same-length n i j h g e = omega arith

one-syntax : (tokens : List Token) (i j : ℕ) → HasSyntaxFault tokens i → HasSyntaxFault tokens j → i ≡ j
one-syntax tokens i j h g = same-length (length tokens) i j h.within g.within (sym (length-drop i tokens) ∙ (ap length (one_place Text tokens (drop i tokens) (drop j tokens) h.fault g.fault) ∙ length-drop j tokens))

apart : {kind : Kind} (tokens : List Token) (i j : ℕ) → IsSyntaxFirst tokens i → IsLimitFirst kind tokens j → ⊥
apart {kind = kind} tokens i j h g = go (high-or-low i j)
  where
    go : (i ≤ j) ⊎ (j < i) → ⊥
    go (inl l) = g.syntax_free i l h.syntax_fault
    go (inr l) = h.within j kind l g.passed.passes

one-place : {first second : Kind} (tokens : List Token) (i j : ℕ) → IsLimitFirst first tokens i → IsLimitFirst second tokens j → i ≡ j
one-place {first = first} {second = second} tokens i j h g = go (high-or-low i j) (high-or-low j i)
  where
    both : (i j : ℕ) → i ≤ j → j ≤ i → i ≡ j
    both i j l m = omega arith

    go : (i ≤ j) ⊎ (j < i) → (j ≤ i) ⊎ (i < j) → i ≡ j
    go (inl l) (inl m) = both i j l m
    go (inl l) (inr m) = absurd (g.passed.first i first m h.passed.passes)
    go (inr l) m = absurd (h.passed.first j second l g.passed.passes)

deep_or_long : (tokens : List Token) (i j : ℕ) → IsLimitFirst limits.Nesting tokens i → IsLimitFirst limits.Length tokens j → ⊥
deep_or_long tokens i j h g = g.passed.level_first refl (subst (λ k. PassesAt tokens k limits.Nesting) (one-place tokens i j h g) h.passed.passes)

pub one_parse_fault : OneFault
one_parse_fault tokens (faults.Syntax i) (faults.Syntax j) m n h g = ap faults.Syntax (one-syntax tokens i j h.syntax_fault g.syntax_fault)
one_parse_fault tokens (faults.Syntax i) (faults.NestedTooDeep j) m n h g = absurd (apart tokens i j h g)
one_parse_fault tokens (faults.Syntax i) (faults.StatementTooLong j) m n h g = absurd (apart tokens i j h g)
one_parse_fault tokens (faults.Syntax i) faults.NoMemory m n h g = absurd (n refl)
one_parse_fault tokens (faults.NestedTooDeep i) (faults.Syntax j) m n h g = absurd (apart tokens j i g h)
one_parse_fault tokens (faults.NestedTooDeep i) (faults.NestedTooDeep j) m n h g = ap faults.NestedTooDeep (one-place tokens i j h g)
one_parse_fault tokens (faults.NestedTooDeep i) (faults.StatementTooLong j) m n h g = absurd (deep_or_long tokens i j h g)
one_parse_fault tokens (faults.NestedTooDeep i) faults.NoMemory m n h g = absurd (n refl)
one_parse_fault tokens (faults.StatementTooLong i) (faults.Syntax j) m n h g = absurd (apart tokens j i g h)
one_parse_fault tokens (faults.StatementTooLong i) (faults.NestedTooDeep j) m n h g = absurd (deep_or_long tokens j i g h)
one_parse_fault tokens (faults.StatementTooLong i) (faults.StatementTooLong j) m n h g = ap faults.StatementTooLong (one-place tokens i j h g)
one_parse_fault tokens (faults.StatementTooLong i) faults.NoMemory m n h g = absurd (n refl)
one_parse_fault tokens faults.NoMemory other m n h g = absurd (m refl)

pub not_both : NotBoth
not_both tokens tree (faults.Syntax i) m h g = tree_has_no_fault Text tokens (drop i tokens) (tree_node tree) h.derived g.syntax_fault.fault
not_both tokens tree (faults.NestedTooDeep i) m h g = h.within i limits.Nesting g.passed.within g.passed.passes
not_both tokens tree (faults.StatementTooLong i) m h g = h.within i limits.Length g.passed.within g.passed.passes
not_both tokens tree faults.NoMemory m h g = m refl

pub one_parsed : OneParsed
one_parsed tokens first second h g = one_tree Text tokens (tree_node first) (tree_node second) h.derived g.derived
