-- The definitions of a trace of vectors, piece by piece: what they declare.
use Rattle.std.proofs.Common.{◌≡◌, ◌∙◌, refl, sym, ap, subst, ℕ, zero, suc, ◌+◌, ◌<◌, ◌≤◌, ◌^◌, true, false, not, List, [], ◌∷◌, ◌++◌, length, map, None, Some, arith, append_assoc, inl, inr}
use Rattle.std.specs.Prelude.{All, cond, decimal, slice_index_or, codes}
use Rattle.std.specs.List.{list_all, flat_map, range_with_len}
use Rattle.std.proofs.lemmas.Bool.{and_from, eq-eqb, lt-ltb, ne_eqb}
use Rattle.std.proofs.lemmas.List.Elements.{All-head, All-tail}
use Rattle.std.proofs.lemmas.List.Sums.{get_or-le-sum_by, sum_by-append}
use Rattle.std.proofs.lemmas.List.FromFn.{length-map-range_with_len, get_or-map-range_with_len}
use Rattle.psl_base.specs.Bytes.{is_white}
use Rattle.psl_base.specs.Tokens.{token_at}
use Rattle.psl_tree.specs.declared.name.Name.{Name}
use Rattle.trace.proofs.Definitions.{defining, end-goes, ending-reads, more, name-goes, no-end-code, var-goes, wire-goes}
use Rattle.trace.proofs.Digits.{code-new, digits-are-code, digits-solid, some-byte}
use Rattle.trace.proofs.Marked.{printed-goes-on, printed-solid, printed-some, printed-whole}
use Rattle.trace.proofs.Ranged.{each-solid, number-read, range-read, range-solid, range-some, ranged}
use Rattle.trace.specs.Codes.{code_of, codes_of}
use Rattle.trace.specs.Printed.{printed}
use Rattle.trace.specs.Vectors.{IsBit, IsBus, IsVector, bits_in, is_wide, no_vector, range_text, reference_text, vector_at, vector_declaration, vector_declarations, vector_name}
use Rattle.trace.specs.declared.vectors.Vector.{Vector}
use Rattle.vcd_reader.specs.Declarations.{Declared, Variable, bits_most, bits_of, declared_by, declared_with, name_with, size_most}
use Rattle.vcd_reader.specs.Labels.{is_code, place_of}
use Rattle.vcd_reader.specs.Ranges.{Reference, reference_of}
use Rattle.vcd_reader.specs.Shapes.{is_end}
use Rattle.vcd_reader.specs.Standing.{InReference, Ready, WantsCode, WantsReference, WantsSize, WantsType, size_of}
use Rattle.vcd_reader.specs.declared.signal.Signal.{Signal}
use Rattle.vcd_writer.proofs.Numerals.{form-all}
use Rattle.std.proofs.lemmas.Fmt.{decimal_nonempty}
use Rattle.vcd_writer.proofs.Pieces.{Reads, reads-nothing, reads-on, reads-word}
use Rattle.vcd_writer.proofs.Samples.{before_sample}
use Rattle.vcd_writer.proofs.Standings.{Goes}
use Rattle.vcd_writer.proofs.Tokens.{is_solid}
use Rattle.vcd_writer.specs.Lines.{line}

-- ---- what was declared

abbrev pub size_at : List Vector → ℕ → ℕ
size_at vectors number = length (vector_at vectors number).signals

-- a signal of so many bits whose values are read
abbrev pub signal_of : ℕ → Signal
signal_of size = record { size = size; unread = false }

abbrev pub signals_of : List Vector → ℕ → List Signal
signals_of vectors count = map (λ (number : ℕ). signal_of (size_at vectors number)) (range_with_len 0 count)

-- the first vectors
abbrev pub declared_of : List Vector → ℕ → Declared
declared_of vectors count = record {
  codes = codes_of count;
  signals = signals_of vectors count;
  names = map (vector_name vectors) (range_with_len 0 count);
  scopes = [];
}

-- the first vectors have as many bits as signals
sizes-head : (vector : Vector) (vectors : List Vector) (first count : ℕ)
    → bits_of (map (λ (number : ℕ). signal_of (size_at (vector ∷ vectors) number)) (range_with_len (suc first) count)) ≡ bits_of (map (λ (number : ℕ). signal_of (size_at vectors number)) (range_with_len first count))
sizes-head vector vectors first zero = refl
sizes-head vector vectors first (suc count) =
    let next : suc first + 1 ≡ suc (first + 1) = omega arith in
    let rest = ap (λ (n : ℕ). bits_of (map (λ (number : ℕ). signal_of (size_at (vector ∷ vectors) number)) (range_with_len n count))) next ∙ sizes-head vector vectors (first + 1) count in
    let one = sum_by-append (λ (signal : Signal). signal.size) (signal_of (size_at vectors first) ∷ []) (map (λ (number : ℕ). signal_of (size_at (vector ∷ vectors) number)) (range_with_len (suc first + 1) count)) in
    let two = sum_by-append (λ (signal : Signal). signal.size) (signal_of (size_at vectors first) ∷ []) (map (λ (number : ℕ). signal_of (size_at vectors number)) (range_with_len (first + 1) count)) in
    omega (arith, rest, one, two)

sizes-within : (vectors : List Vector) (count : ℕ) → count ≤ length vectors → bits_of (signals_of vectors count) ≤ bits_in vectors
sizes-within vectors zero within = omega arith
sizes-within [] (suc count) within = absurd (omega arith)
sizes-within (vector ∷ vectors) (suc count) within =
    let rest = sizes-within vectors count (omega (arith, within)) in
    let same = sizes-head vector vectors 0 count in
    let one = sum_by-append (λ (signal : Signal). signal.size) (signal_of (length vector.signals) ∷ []) (map (λ (number : ℕ). signal_of (size_at (vector ∷ vectors) number)) (range_with_len 1 count)) in
    let two = sum_by-append (λ (v : Vector). length v.signals) (vector ∷ []) vectors in
    omega (arith, rest, same, one, two)

-- ---- a vector

-- how many bits it has
some-signals : (vector : Vector) → IsVector vector → 0 < length vector.signals
some-signals vector is = elim is.either [
  | inl bit ↦ let one = bit.one in omega (arith, one)
  | inr bus ↦ let each = bus.each in omega (arith, each)
]

pub few-vectors : (vectors : List Vector) → All IsVector vectors → length vectors ≤ bits_in vectors
few-vectors [] are = omega arith
few-vectors (vector ∷ vectors) are =
    let rest = few-vectors vectors (All-tail IsVector vector vectors are) in
    let some = some-signals vector (All-head IsVector vector vectors are) in
    let sum = sum_by-append (λ (v : Vector). length v.signals) (vector ∷ []) vectors in
    omega (arith, rest, some, sum)

pub is-narrow : (vector : Vector) → IsBit vector → is_wide vector ≡ false
is-narrow vector bit = ap not (eq-eqb vector.high vector.low (bit.high ∙ sym bit.low))

pub is-wide : (vector : Vector) → IsBus vector → is_wide vector ≡ true
is-wide vector bus = ap not (ne_eqb vector.high vector.low (λ same. let falls = bus.falls in omega (arith, same, falls)))

-- the reference that is read of a vector
abbrev read_of : Vector → List ℕ
read_of vector = cond (is_wide vector) (vector.text ++ range_text vector.high vector.low) (printed vector.text)

abbrev whole_of : Vector → Reference
whole_of vector = record { text = cond (is_wide vector) vector.text (printed vector.text); left = vector.high; right = vector.low }

reference-is : (vector : Vector) → IsVector vector → reference_of (read_of vector) (length vector.signals) ≡ whole_of vector
reference-is vector is = elim is.either [
  | inl bit ↦
      rw (is-narrow vector bit) (ap (reference_of (printed vector.text)) bit.one ∙ printed-whole vector.text
      ∙ ap (λ (n : ℕ). ranged (printed vector.text) n 0) (sym bit.high) ∙ ap (ranged (printed vector.text) vector.high) (sym bit.low))
  | inr bus ↦ rw (is-wide vector bus) (range-read vector.text vector.high vector.low (length vector.signals) bus.falls bus.most bus.each)
]

-- ---- one vector more

declared-more : (vectors : List Vector) (number : ℕ) → number < 2 ^ 64 → IsVector (vector_at vectors number)
    → declared_with (declared_of vectors number) (record { unread = false; size = size_at vectors number; code = code_of number }) (read_of (vector_at vectors number)) ≡ declared_of vectors (suc number)
declared-more vectors number small is =
    let declared = declared_of vectors number in
    let size = size_at vectors number in
    let name = read_of (vector_at vectors number) in
    let names = map (vector_name vectors) (range_with_len 0 number) in
    let var : Variable = record { unread = false; size = size; code = code_of number } in
    let count : length (codes_of number) ≡ number = length-map-range_with_len code_of 0 number in
    let signals : signals_of vectors number ++ signal_of size ∷ [] ≡ signals_of vectors (suc number) = sym (more (λ (n : ℕ). signal_of (size_at vectors n)) number) in
    let there : slice_index_or (signals_of vectors number ++ signal_of size ∷ []) (length (codes_of number)) (record { size = 0; unread = true }) ≡ signal_of size =
    ap (λ (ss : List Signal). slice_index_or ss (length (codes_of number)) (record { size = 0; unread = true })) signals
    ∙ get_or-map-range_with_len (λ (n : ℕ). signal_of (size_at vectors n)) 0 (suc number) (length (codes_of number)) number (record { size = 0; unread = true }) (omega (arith, count)) (omega (arith, count)) in
    let make = λ (cs : List (List ℕ)) (ss : List Signal) (ns : List Name). (let made : Declared = record { codes = cs; signals = ss; names = ns; scopes = [] } in made) in
    let front = codes_of number ++ code_of number ∷ [] in
    let sized = signals_of vectors number ++ signal_of size ∷ [] in
    ap (declared_by declared var name) (code-new number small)
    ∙ ap (λ (s : Signal). make front sized (cond s.unread names (names ++ name_with [] (length (codes_of number)) (reference_of name size) ∷ []))) there
    ∙ ap (λ (r : Reference). make front sized (names ++ name_with [] (length (codes_of number)) r ∷ [])) (reference-is (vector_at vectors number) is)
    ∙ ap (λ (n : ℕ). make front sized (names ++ name_with [] n (whole_of (vector_at vectors number)) ∷ [])) count
    ∙ ap (λ (cs : List (List ℕ)). make cs sized (names ++ vector_name vectors number ∷ [])) (sym (more code_of number))
    ∙ ap (λ (ss : List Signal). make (codes_of (suc number)) ss (names ++ vector_name vectors number ∷ [])) signals
    ∙ ap (λ (ns : List Name). make (codes_of (suc number)) (signals_of vectors (suc number)) ns) (sym (more (vector_name vectors) number))

-- ---- the tokens of a declaration

abbrev variable_with : List ℕ → ℕ → Variable
variable_with code size = record { unread = false; size = size; code = code }

size-goes : (whole : List ℕ) (declared : Declared) (at size : ℕ) → 0 < size → size ≤ size_most
    → Goes (defining declared (WantsSize false)) (token_at whole at (decimal size) ∷ []) [] (defining declared (WantsCode false size))
size-goes whole declared at size some few =
    let read : size_of (decimal size) ≡ Some size = number-read size_most size few (omega (arith, few)) in
    (rw (read, lt-ltb 0 size some) refl, ([], refl, (refl, rw read refl)))

code-goes : (whole : List ℕ) (declared : Declared) (at : ℕ) (code : List ℕ) (size : ℕ) → is_end code ≡ false → is_code code ≡ true → place_of declared.codes code ≡ None
    → Goes (defining declared (WantsCode false size)) (token_at whole at code ∷ []) [] (defining declared (WantsReference (variable_with code size)))
code-goes whole declared at code size goes_on is new = (rw (goes_on, is, new) refl, ([], refl, (refl, refl)))

range-goes : (whole : List ℕ) (declared : Declared) (at : ℕ) (variable : Variable) (name range : List ℕ) → is_end range ≡ false
    → Goes (defining declared (InReference variable name)) (token_at whole at range ∷ []) [] (defining declared (InReference variable (name ++ range)))
range-goes whole declared at variable name range goes_on = (rw goes_on refl, ([], refl, (refl, rw goes_on refl)))

range-no-end : (high low : ℕ) → is_end (range_text high low) ≡ false
range-no-end high low = refl

solid-of : (text : List ℕ) → All (λ byte. is_white byte ≡ false) text → list_all is_solid text ≡ true
solid-of [] each = refl
solid-of (byte ∷ bytes) each =
    and_from (is_solid byte) (list_all is_solid bytes) (ap not (All-head (λ (b : ℕ). is_white b ≡ false) byte bytes each)) (solid-of bytes (All-tail (λ (b : ℕ). is_white b ≡ false) byte bytes each))

-- how a vector is named, and the space behind that
reference-reads : (whole : List ℕ) (declared : Declared) (variable : Variable) (vector : Vector) → IsVector vector
    → Reads whole (defining declared (WantsReference variable)) (reference_text vector ++ 32 ∷ []) [] (defining declared (InReference variable (read_of vector)))
reference-reads whole declared variable vector is = elim is.either [
  | inl bit ↦ rw (is-narrow vector bit)
      (reads-word whole (defining declared (WantsReference variable)) (defining declared (InReference variable (printed vector.text))) (printed vector.text) 32 [] (printed-some vector.text is.word.some)
      (printed-solid vector.text (solid-of vector.text is.word.solid)) refl (λ at. name-goes whole declared at variable (printed vector.text) (printed-goes-on vector.text)))
  | inr bus ↦
      let range = range_text vector.high vector.low in
      let falls = bus.falls in
      let most = bus.most in
      rw (is-wide vector bus)
      (subst (λ (text : List ℕ). Reads whole (defining declared (WantsReference variable)) text [] (defining declared (InReference variable (vector.text ++ range)))) (sym (append_assoc (vector.text ++ 32 ∷ []) range (32 ∷ [])))
      (reads-on whole (defining declared (WantsReference variable)) (defining declared (InReference variable vector.text)) (defining declared (InReference variable (vector.text ++ range)))
      (vector.text ++ 32 ∷ []) (range ++ 32 ∷ []) [] []
      (reads-word whole (defining declared (WantsReference variable)) (defining declared (InReference variable vector.text)) vector.text 32 [] is.word.some (solid-of vector.text is.word.solid) refl
      (λ at. name-goes whole declared at variable vector.text bus.goes_on))
      (reads-word whole (defining declared (InReference variable vector.text)) (defining declared (InReference variable (vector.text ++ range))) range 32 [] (range-some vector.high vector.low)
      (range-solid vector.high vector.low (omega (arith, most)) (omega (arith, falls, most))) refl (λ at. range-goes whole declared at variable vector.text range (range-no-end vector.high vector.low)))))
]

-- ---- a declaration

regroup : (size code name : List ℕ)
    → line (codes "$var wire " ++ size ++ codes " " ++ code ++ codes " " ++ name ++ codes " $end") ≡ codes "$var wire " ++ ((size ++ 32 ∷ []) ++ ((code ++ 32 ∷ []) ++ ((name ++ 32 ∷ []) ++ codes "$end\n")))
regroup size code name =
    ap (λ (rest : List ℕ). codes "$var wire " ++ rest)
    (append_assoc (((((size ++ 32 ∷ []) ++ code) ++ 32 ∷ []) ++ name)) (codes " $end") (10 ∷ [])
    ∙ append_assoc ((((size ++ 32 ∷ []) ++ code) ++ 32 ∷ [])) name (codes " $end\n")
    ∙ append_assoc ((size ++ 32 ∷ []) ++ code) (32 ∷ []) (name ++ codes " $end\n")
    ∙ append_assoc (size ++ 32 ∷ []) code (32 ∷ (name ++ codes " $end\n"))
    ∙ ap (λ (rest : List ℕ). (size ++ 32 ∷ []) ++ rest)
    (sym (append_assoc code (32 ∷ []) (name ++ codes " $end\n"))
    ∙ ap (λ (rest : List ℕ). (code ++ 32 ∷ []) ++ rest) (sym (append_assoc name (32 ∷ []) (codes "$end\n")))))

declaration-reads : (whole : List ℕ) (vectors : List Vector) (number : ℕ) → IsVector (vector_at vectors number) → number < length vectors → length vectors ≤ bits_in vectors → bits_in vectors ≤ bits_most
    → Reads whole (defining (declared_of vectors number) Ready) (vector_declaration vectors number) [] (defining (declared_of vectors (suc number)) Ready)
declaration-reads whole vectors number is within few short =
    let vector = vector_at vectors number in
    let declared = declared_of vectors number in
    let later = declared_of vectors (suc number) in
    let code = code_of number in
    let size = size_at vectors number in
    let low : size ≤ bits_in vectors = get_or-le-sum_by (λ (v : Vector). length v.signals) vectors number no_vector within in
    let variable = variable_with code size in
    let joined = read_of vector in
    let end = codes "$end" ++ 10 ∷ [] in
    let from_name = (reference_text vector ++ 32 ∷ []) ++ end in
    let from_code = (code ++ 32 ∷ []) ++ from_name in
    let from_size = (decimal size ++ 32 ∷ []) ++ from_code in
    let from_type = (codes "wire" ++ 32 ∷ []) ++ from_size in
    let bits : bits_of later.signals ≤ bits_most = let sum = sizes-within vectors (suc number) (omega (arith, within)) in omega (arith, sum, short) in
    subst (λ (text : List ℕ). Reads whole (defining declared Ready) text [] (defining later Ready)) (sym (regroup (decimal size) code (reference_text vector)))
    (reads-on whole (defining declared Ready) (defining declared WantsType) (defining later Ready) (codes "$var" ++ 32 ∷ []) from_type [] []
    (reads-word whole (defining declared Ready) (defining declared WantsType) (codes "$var") 32 [] (omega arith) refl refl (var-goes whole declared))
    (reads-on whole (defining declared WantsType) (defining declared (WantsSize false)) (defining later Ready) (codes "wire" ++ 32 ∷ []) from_size [] []
    (reads-word whole (defining declared WantsType) (defining declared (WantsSize false)) (codes "wire") 32 [] (omega arith) refl refl (wire-goes whole declared))
    (reads-on whole (defining declared (WantsSize false)) (defining declared (WantsCode false size)) (defining later Ready) (decimal size ++ 32 ∷ []) from_code [] []
    (reads-word whole (defining declared (WantsSize false)) (defining declared (WantsCode false size)) (decimal size) 32 [] (decimal_nonempty size (omega (arith, low, short)))
    (each-solid (decimal size) (form-all size (omega (arith, low, short)))) refl
    (λ at. size-goes whole declared at size (some-signals vector is) (omega (arith, low, short))))
    (reads-on whole (defining declared (WantsCode false size)) (defining declared (WantsReference variable)) (defining later Ready) (code ++ 32 ∷ []) from_name [] []
    (reads-word whole (defining declared (WantsCode false size)) (defining declared (WantsReference variable)) code 32 [] (some-byte number) (digits-solid 10 number) refl
    (λ at. code-goes whole declared at code size (no-end-code number (omega (arith, within, few, short))) (digits-are-code 10 number) (code-new number (omega (arith, within, few, short)))))
    (reads-on whole (defining declared (WantsReference variable)) (defining declared (InReference variable joined)) (defining later Ready) (reference_text vector ++ 32 ∷ []) end [] []
    (reference-reads whole declared variable vector is)
    (reads-word whole (defining declared (InReference variable joined)) (defining later Ready) (codes "$end") 10 [] (omega arith) refl refl
    (λ at. end-goes whole declared later at variable joined (declared-more vectors number (omega (arith, within, few, short)) is) bits)))))))

-- ---- all definitions

declarations-read : (whole : List ℕ) (vectors : List Vector) (first count : ℕ) → All IsVector vectors → first + count ≤ length vectors → length vectors ≤ bits_in vectors → bits_in vectors ≤ bits_most
    → Reads whole (defining (declared_of vectors first) Ready) (flat_map (vector_declaration vectors) (range_with_len first count)) [] (defining (declared_of vectors (first + count)) Ready)
declarations-read whole vectors first zero are within few short =
    subst (λ (n : ℕ). Reads whole (defining (declared_of vectors first) Ready) [] [] (defining (declared_of vectors n) Ready)) (let e : first ≡ first + zero = omega arith in e)
    (reads-nothing whole (defining (declared_of vectors first) Ready))
declarations-read whole vectors first (suc count) are within few short =
    let next : suc first ≡ first + 1 = omega arith in
    let last : first + 1 + count ≡ first + suc count = omega arith in
    let rest = declarations-read whole vectors (first + 1) count are (omega (arith, within)) few short in
    reads-on whole (defining (declared_of vectors first) Ready) (defining (declared_of vectors (suc first)) Ready) (defining (declared_of vectors (first + suc count)) Ready)
    (vector_declaration vectors first) (flat_map (vector_declaration vectors) (range_with_len (first + 1) count)) [] []
    (declaration-reads whole vectors first (are first no_vector (omega (arith, within))) (omega (arith, within)) few short)
    (subst (λ (n : ℕ). Reads whole (defining (declared_of vectors n) Ready) (flat_map (vector_declaration vectors) (range_with_len (first + 1) count)) [] (defining (declared_of vectors (first + suc count)) Ready)) (sym next)
    (subst (λ (n : ℕ). Reads whole (defining (declared_of vectors (first + 1)) Ready) (flat_map (vector_declaration vectors) (range_with_len (first + 1) count)) [] (defining (declared_of vectors n) Ready)) last rest))

pub definitions-read : (whole : List ℕ) (vectors : List Vector) → All IsVector vectors → bits_in vectors ≤ bits_most
    → Reads whole (defining (declared_of vectors 0) Ready) (vector_declarations vectors (length vectors) ++ line (codes "$enddefinitions $end")) [] (before_sample (declared_of vectors (length vectors)) 0)
definitions-read whole vectors are short =
    let count = length vectors in
    let same : 0 + count ≡ count = omega arith in
    reads-on whole (defining (declared_of vectors 0) Ready) (defining (declared_of vectors count) Ready) (before_sample (declared_of vectors count) 0)
    (vector_declarations vectors count) (line (codes "$enddefinitions $end")) [] []
    (subst (λ (n : ℕ). Reads whole (defining (declared_of vectors 0) Ready) (vector_declarations vectors count) [] (defining (declared_of vectors n) Ready)) same
    (declarations-read whole vectors 0 count are (omega arith) (few-vectors vectors are) short))
    (ending-reads whole (declared_of vectors count))
