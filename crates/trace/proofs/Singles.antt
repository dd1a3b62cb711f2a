-- A trace of vectors that are one signal each is a trace.
use Rattle.std.proofs.Common.{◌≡◌, ◌∙◌, refl, sym, ap, ℕ, zero, suc, ◌+◌, ◌<◌, Bool, List, [], ◌∷◌, ◌++◌, length, map, Option, Some, arith}
use Rattle.std.specs.Prelude.{codes, decimal}
use Rattle.std.specs.List.{flat_map, range_with_len}
use Rattle.std.proofs.lemmas.Fmt.{decimal_digit}
use Rattle.std.proofs.lemmas.List.FromFn.{length-map-range_with_len, get_or-map-range_with_len}
use Rattle.netlist.specs.Design.{Design}
use Rattle.netlist.specs.Runs.{IsMade}
use Rattle.netlist.specs.Valuations.{bit}
use Rattle.netlist.specs.declared.run.Run.{Run}
use Rattle.psl_tree.specs.declared.name.Name.{Name}
use Rattle.trace.proofs.ForEver.{sized}
use Rattle.trace.specs.Codes.{code_of, codes_of}
use Rattle.trace.specs.Printed.{printed}
use Rattle.trace.specs.Trace.{count_of, declaration, declaration_of, declarations, definitions, first_text, name_in, trace_names, trace_sampled, trace_text, valuation_in}
use Rattle.trace.specs.Vectors.{all_given, is_wide, name_of, no_vector, reference_text, single, singles, value_text, vector_at, vector_declaration, vector_declarations, vector_letters, vector_line, vector_lines, vector_name, vector_names, vector_sample, vector_samples, vector_words, vectors_sampled, vectors_text}
use Rattle.trace.specs.declared.vectors.Vector.{Vector}
use Rattle.vcd_reader.specs.Meaning.{places_in}
use Rattle.vcd_reader.specs.Sampled.{Sampled}
use Rattle.vcd_reader.specs.declared.unknown.Unknown.{Unknown}
use Rattle.vcd_writer.specs.Lines.{digit, letters_of, line, sample_lines, samples_from, value_lines}

-- ---- numbers in a range

flat-same : (f g : ℕ → List ℕ) (first count : ℕ) → ((number : ℕ) → number < first + count → f number ≡ g number) → flat_map f (range_with_len first count) ≡ flat_map g (range_with_len first count)
flat-same f g first zero same = refl
flat-same f g first (suc count) same =
    ap (λ (front : List ℕ). front ++ flat_map f (range_with_len (first + 1) count)) (same first (omega arith))
    ∙ ap (λ (rest : List ℕ). g first ++ rest) (flat-same f g (first + 1) count (λ number within. same number (omega (arith, within))))

map-same : {A : Type 0} (f g : ℕ → A) (first count : ℕ) → ((number : ℕ) → number < first + count → f number ≡ g number) → map f (range_with_len first count) ≡ map g (range_with_len first count)
map-same f g first zero same = refl
map-same {A} f g first (suc count) same =
    ap (λ (front : A). front ∷ map f (range_with_len (first + 1) count)) (same first (omega arith))
    ∙ ap (λ (rest : List A). g first ∷ rest) (map-same f g (first + 1) count (λ number within. same number (omega (arith, within))))

-- ---- the vectors

pub single-at : (design : Design) (number : ℕ) → number < design.signals → vector_at (singles design) number ≡ single (first_text design.names number) number
single-at design number within = get_or-map-range_with_len (λ (signal : ℕ). single (first_text design.names signal) signal) 0 design.signals number number no_vector within (omega arith)

pub many : (design : Design) → length (singles design) ≡ design.signals
many design = length-map-range_with_len (λ (signal : ℕ). single (first_text design.names signal) signal) 0 design.signals

-- ---- the text

declared-as : (vector : Vector) (text : List ℕ) (number : ℕ) → vector ≡ single text number
    → line (codes "$var wire " ++ decimal (length vector.signals) ++ codes " " ++ code_of number ++ codes " " ++ reference_text vector ++ codes " $end") ≡ declaration_of text number
declared-as vector text number is =
    ap (λ (v : Vector). line (codes "$var wire " ++ decimal (length v.signals) ++ codes " " ++ code_of number ++ codes " " ++ reference_text v ++ codes " $end")) is
    ∙ ap (λ (size : List ℕ). line (codes "$var wire " ++ size ++ codes " " ++ code_of number ++ codes " " ++ printed text ++ codes " $end")) (decimal_digit 1 (omega arith))

declarations-same : (design : Design) → vector_declarations (singles design) (length (singles design)) ≡ declarations design.names design.signals
declarations-same design =
    ap (vector_declarations (singles design)) (many design)
    ∙ flat-same (vector_declaration (singles design)) (declaration design.names) 0 design.signals
    (λ number within. declared-as (vector_at (singles design) number) (first_text design.names number) number (single-at design number (omega (arith, within))))

-- the values from one on
values-from : (values whole : List Bool) (first : ℕ) → ((place : ℕ) → place < length values → bit whole (first + place) ≡ bit values place)
    → flat_map (λ (number : ℕ). line (digit (bit whole number) ∷ code_of number)) (range_with_len first (length values)) ≡ value_lines (map code_of (range_with_len first (length values))) values
values-from [] whole first same = refl
values-from (value ∷ values) whole first same =
    ap (λ (b : Bool). line (digit b ∷ code_of first) ++ flat_map (λ (number : ℕ). line (digit (bit whole number) ∷ code_of number)) (range_with_len (first + 1) (length values)))
    (ap (bit whole) (let e : first ≡ first + 0 = omega arith in e) ∙ same 0 (omega arith))
    ∙ ap (λ (rest : List ℕ). line (digit value ∷ code_of first) ++ rest)
    (values-from values whole (first + 1) (λ place within. ap (bit whole) (let e : first + 1 + place ≡ first + suc place = omega arith in e) ∙ same (suc place) (omega (arith, within))))

lines-same : (design : Design) (values : List Bool) → length values ≡ design.signals → vector_lines (singles design) values (length (singles design)) ≡ value_lines (codes_of design.signals) values
lines-same design values long =
    ap (vector_lines (singles design) values) (many design)
    ∙ flat-same (vector_line (singles design) values) (λ (number : ℕ). line (digit (bit values number) ∷ code_of number)) 0 design.signals
    (λ number within. ap (λ (v : Vector). line (value_text (is_wide v) (vector_letters v values) (code_of number))) (single-at design number (omega (arith, within))))
    ∙ ap (λ (n : ℕ). flat_map (λ (number : ℕ). line (digit (bit values number) ∷ code_of number)) (range_with_len 0 n)) (sym long)
    ∙ values-from values values 0 (λ place within. ap (bit values) (let e : 0 + place ≡ place = omega arith in e))
    ∙ ap (λ (n : ℕ). value_lines (codes_of n) values) long

samples-same : (design : Design) (run : Run) (first count : ℕ) → IsMade design run
    → flat_map (vector_sample (singles design) run) (range_with_len first count) ≡ samples_from (codes_of design.signals) (valuation_in run) first count
samples-same design run first count is =
    flat-same (vector_sample (singles design) run) (λ (sample : ℕ). sample_lines (codes_of design.signals) sample (valuation_in run sample)) first count
    (λ sample within. ap (λ (lines : List ℕ). line (35 ∷ decimal sample) ++ lines) (lines-same design (valuation_in run sample) (sized design run is sample)))

pub text-same : (design : Design) (run : Run) (loops : ℕ) → IsMade design run → vectors_text (singles design) run loops ≡ trace_text design run loops
text-same design run loops is =
    ap (λ (front : List ℕ). front ++ line (codes "$enddefinitions $end") ++ vector_samples (singles design) run (count_of run loops)) (declarations-same design)
    ∙ ap (λ (back : List ℕ). definitions design ++ back) (samples-same design run 0 (count_of run loops) is)

-- ---- what it says

named-as : (vector : Vector) (text : List ℕ) (number : ℕ) → vector ≡ single text number → name_of vector number ≡ record { text = printed text; signal = number; left = 0; right = 0 }
named-as vector text number is = ap (λ (v : Vector). name_of v number) is

names-same : (design : Design) → vector_names (singles design) ≡ trace_names design
names-same design =
    ap (λ (n : ℕ). map (vector_name (singles design)) (range_with_len 0 n)) (many design)
    ∙ map-same (vector_name (singles design)) (name_in design.names) 0 design.signals
    (λ number within. named-as (vector_at (singles design) number) (first_text design.names number) number (single-at design number (omega (arith, within))))

given-from : (values whole : List Bool) (first : ℕ) → ((place : ℕ) → place < length values → bit whole (first + place) ≡ bit values place)
    → all_given (map (λ (number : ℕ). digit (bit whole number) ∷ []) (range_with_len first (length values))) ≡ letters_of values
given-from [] whole first same = refl
given-from (value ∷ values) whole first same =
    ap (λ (b : Bool). Some (digit b ∷ []) ∷ all_given (map (λ (number : ℕ). digit (bit whole number) ∷ []) (range_with_len (first + 1) (length values))))
    (ap (bit whole) (let e : first ≡ first + 0 = omega arith in e) ∙ same 0 (omega arith))
    ∙ ap (λ (rest : List (Option (List ℕ))). Some (digit value ∷ []) ∷ rest)
    (given-from values whole (first + 1) (λ place within. ap (bit whole) (let e : first + 1 + place ≡ first + suc place = omega arith in e) ∙ same (suc place) (omega (arith, within))))

words-same : (design : Design) (values : List Bool) → length values ≡ design.signals → all_given (vector_words (singles design) values) ≡ letters_of values
words-same design values long =
    ap (λ (n : ℕ). all_given (map (λ (number : ℕ). vector_letters (vector_at (singles design) number) values) (range_with_len 0 n))) (many design)
    ∙ ap (λ (words : List (List ℕ)). all_given words)
    (map-same (λ (number : ℕ). vector_letters (vector_at (singles design) number) values) (λ (number : ℕ). digit (bit values number) ∷ []) 0 design.signals
    (λ number within. ap (λ (v : Vector). vector_letters v values) (single-at design number (omega (arith, within)))))
    ∙ ap (λ (n : ℕ). all_given (map (λ (number : ℕ). digit (bit values number) ∷ []) (range_with_len 0 n))) (sym long)
    ∙ given-from values values 0 (λ place within. ap (bit values) (let e : 0 + place ≡ place = omega arith in e))

pub says-same : (unknown : Unknown) (design : Design) (run : Run) (loops : ℕ) → IsMade design run → vectors_sampled unknown (singles design) run loops ≡ trace_sampled unknown design run loops
says-same unknown design run loops is =
    let times = range_with_len 0 (count_of run loops) in
    let samples = map (λ (sample : ℕ). all_given (vector_words (singles design) (valuation_in run sample))) times in
    let make = λ (names : List Name) (rows : List (List (Option (List ℕ)))) (text : List ℕ). (let made : Sampled = record { names = names; samples = rows; times = times; places = places_in text; unknown = unknown } in made) in
    ap (λ (names : List Name). make names samples (vectors_text (singles design) run loops)) (names-same design)
    ∙ ap (λ (rows : List (List (Option (List ℕ)))). make (trace_names design) rows (vectors_text (singles design) run loops))
    (map-same (λ (sample : ℕ). all_given (vector_words (singles design) (valuation_in run sample))) (λ (sample : ℕ). letters_of (valuation_in run sample)) 0 (count_of run loops)
    (λ sample within. words-same design (valuation_in run sample) (sized design run is sample)))
    ∙ ap (make (trace_names design) (map (λ (sample : ℕ). letters_of (valuation_in run sample)) times)) (text-same design run loops is)
