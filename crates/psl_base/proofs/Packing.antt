-- Files in one run of bytes: their number, their bytes, and what edits of the run make of them.
use Rattle.std.proofs.Common.{◌≡◌, ℕ, zero, suc, ◌+◌, ◌-◌, ◌<◌, ◌≤◌, List, [], ◌∷◌, ◌++◌, length, set, take, drop, Some, slice_get, get_or, refl, sym, ap, subst, ◌∙◌, arith, zero-add, add_assoc, append_assoc, length-append, length-drop}
use Rattle.std.proofs.lemmas.Option.{slice_get-get_or}
use Rattle.std.proofs.lemmas.List.Sums.{sum_by-cons, sum_by-append}
use Rattle.std.proofs.lemmas.List.{nil_from_length, take-append-le, drop-append-le, take_at, drop_at, drop-drop, length-take-le, append-nil, take-append-drop, drop_all, set_split}
use Rattle.psl_base.specs.declared.packed.File.{File}
use Rattle.psl_base.specs.declared.packed.Span.{Span}
use Rattle.psl_base.specs.Files.{bytes_of, empty_file, EmptiesOne, GrowsLast}
use Rattle.psl_base.specs.Packed.{covered, files_in}

-- what one span and others cover
covered-cons : (span : Span) (spans : List Span) → covered (span ∷ spans) ≡ span.name + span.content + covered spans
covered-cons span spans = sum_by-cons (λ s. s.name + s.content) span spans

-- a file for each span
pub length_files_in : (spans : List Span) (bytes : List ℕ) → length (files_in spans bytes) ≡ length spans
length_files_in [] bytes = refl
length_files_in (span ∷ spans) bytes = ap suc (length_files_in spans (drop (span.name + span.content) bytes))

-- the files have the bytes that their spans cover
pub bytes_of_files_in : (spans : List Span) (bytes : List ℕ) → covered spans ≡ length bytes → bytes_of (files_in spans bytes) ≡ length bytes
bytes_of_files_in [] bytes covers = covers
bytes_of_files_in (span ∷ spans) bytes covers =
    let sum : span.name + span.content + covered spans ≡ length bytes = sym (covered-cons span spans) ∙ covers in
    let name : span.name ≤ length bytes = omega arith in
    let content : span.content ≤ length (drop span.name bytes) = omega (arith, length-drop span.name bytes) in
    let rest : covered spans ≡ length (drop (span.name + span.content) bytes) = omega (arith, length-drop (span.name + span.content) bytes) in
    omega (
      arith,
      sum_by-cons (λ f. length f.name + length f.content)
          (record { name = take span.name bytes; content = take span.content (drop span.name bytes) }) (files_in spans (drop (span.name + span.content) bytes)),
      length-take-le span.name bytes name,
      length-take-le span.content (drop span.name bytes) content,
      bytes_of_files_in spans (drop (span.name + span.content) bytes) rest,
      length-drop (span.name + span.content) bytes,
    )

-- files behind one another
pub files_in-append : (spans more : List Span) (bytes rest : List ℕ) → covered spans ≡ length bytes → files_in (spans ++ more) (bytes ++ rest) ≡ files_in spans bytes ++ files_in more rest
files_in-append [] more bytes rest covers =
    let none : bytes ≡ [] = nil_from_length bytes (sym covers) in
    ap (λ front. files_in more (front ++ rest)) none
files_in-append (span ∷ spans) more bytes rest covers =
    let sum : span.name + span.content + covered spans ≡ length bytes = sym (covered-cons span spans) ∙ covers in
    let name : span.name ≤ length bytes = omega arith in
    let content : span.content ≤ length (drop span.name bytes) = omega (arith, length-drop span.name bytes) in
    let both : span.name + span.content ≤ length bytes = omega arith in
    let behind : covered spans ≡ length (drop (span.name + span.content) bytes) = omega (arith, length-drop (span.name + span.content) bytes) in
    rw (
      take-append-le span.name bytes rest name,
      drop-append-le span.name bytes rest name,
      take-append-le span.content (drop span.name bytes) rest content,
      drop-append-le (span.name + span.content) bytes rest both,
      files_in-append spans more (drop (span.name + span.content) bytes) rest behind,
    )

-- the file at a place
pub slice_get-files_in : (spans : List Span) (bytes : List ℕ) (place : ℕ) (span : Span) → slice_get spans place ≡ Some span →
    slice_get (files_in spans bytes) place ≡ Some (record { name = take span.name (drop (covered (take place spans)) bytes); content = take span.content (drop (covered (take place spans) + span.name) bytes) })
slice_get-files_in [] bytes place span at = cc
slice_get-files_in (span ∷ spans) bytes zero found at =
    let same : span ≡ found = cc in
    rw (zero-add found.name) (ap (λ s. Some (record { name = take s.name bytes; content = take s.content (drop s.name bytes) })) same)
slice_get-files_in (span ∷ spans) bytes (suc place) found at =
    let front = span.name + span.content in
    let back = covered (take place spans) in
    slice_get-files_in spans (drop front bytes) place found at
    ∙ rw (covered-cons span (take place spans), drop-drop back front bytes, drop-drop (back + found.name) front bytes, add_assoc front back found.name)

-- one file in front of others
files_in-first : (span : Span) (spans : List Span) (name content rest : List ℕ) → length name ≡ span.name → length content ≡ span.content →
    files_in (span ∷ spans) (name ++ (content ++ rest)) ≡ record { name = name; content = content } ∷ files_in spans rest
files_in-first span spans name content rest named sized =
    let both : length (name ++ content) ≡ span.name + span.content = omega (arith, length-append name content) in
    rw (
      take_at name (content ++ rest) span.name named,
      drop_at name (content ++ rest) span.name named,
      take_at content rest span.content sized,
      ← append_assoc name content rest,
      drop_at (name ++ content) rest (span.name + span.content) both,
    )

-- what the spans before a place cover, the span there, and what those behind it cover
pub covered_at : (spans : List Span) (place : ℕ) (span : Span) → slice_get spans place ≡ Some span →
    covered (take place spans) + (span.name + span.content) + covered (drop (suc place) spans) ≡ covered spans
covered_at [] place span at = cc
covered_at (span ∷ spans) zero found at =
    let same : span ≡ found = cc in
    rw (covered-cons span spans, same) (omega arith)
covered_at (span ∷ spans) (suc place) found at =
    omega (arith, covered_at spans place found at, covered-cons span spans, covered-cons span (take place spans))

-- a list at a place where it has an element
list_at : {X : Type 0} (xs : List X) (place : ℕ) (x : X) → slice_get xs place ≡ Some x → xs ≡ take place xs ++ x ∷ drop (suc place) xs
list_at [] place x at = cc
list_at (y ∷ ys) zero x at = let same : y ≡ x = cc in ap (λ z. z ∷ ys) same
list_at (y ∷ ys) (suc place) x at = ap (λ zs. y ∷ zs) (list_at ys place x at)

-- the bytes before a span, those of its name and of its content, and those behind it
record Splits (before : List Span) (span : Span) (after : List Span) (bytes : List ℕ) : Type 0 where
  front : List ℕ
  name : List ℕ
  content : List ℕ
  back : List ℕ
  is : bytes ≡ front ++ (name ++ (content ++ back))
  fronted : length front ≡ covered before
  named : length name ≡ span.name
  sized : length content ≡ span.content
  backed : length back ≡ covered after
  name_is : name ≡ take span.name (drop (covered before) bytes)

splits : (spans : List Span) (bytes : List ℕ) (place : ℕ) (span : Span) → covered spans ≡ length bytes → slice_get spans place ≡ Some span →
    Splits (take place spans) span (drop (suc place) spans) bytes
splits spans bytes place span covers at =
    let start = covered (take place spans) in
    let behind = drop start bytes in
    let rest = drop span.name behind in
    let sum : start + (span.name + span.content) + covered (drop (suc place) spans) ≡ length bytes = covered_at spans place span at ∙ covers in
    let whole : length behind ≡ length bytes - start = length-drop start bytes in
    let left : length rest ≡ length behind - span.name = length-drop span.name behind in
    let starts : start ≤ length bytes = omega arith in
    let names : span.name ≤ length behind = omega arith in
    let contents : span.content ≤ length rest = omega arith in
    record {
      front = take start bytes;
      name = take span.name behind;
      content = take span.content rest;
      back = drop span.content rest;
      is = sym (take-append-drop start bytes)
          ∙ ap (λ xs. take start bytes ++ xs) (sym (take-append-drop span.name behind)
          ∙ ap (λ xs. take span.name behind ++ xs) (sym (take-append-drop span.content rest)));
      fronted = length-take-le start bytes starts;
      named = length-take-le span.name behind names;
      sized = length-take-le span.content rest contents;
      backed = omega (arith, length-drop span.content rest);
      name_is = refl;
    }

-- one file and nothing behind it
files_in-one : (span : Span) (name content : List ℕ) → length name ≡ span.name → length content ≡ span.content →
    files_in (span ∷ []) (name ++ content) ≡ record { name = name; content = content } ∷ []
files_in-one span name content named sized =
    ap (λ xs. files_in (span ∷ []) (name ++ xs)) (sym (append-nil content)) ∙ files_in-first span [] name content [] named sized

-- an empty file at the end
pub files_in_add : (spans : List Span) (bytes name : List ℕ) → covered spans ≡ length bytes →
    files_in (spans ++ record { name = length name; content = 0 } ∷ []) (bytes ++ name) ≡ files_in spans bytes ++ empty_file name ∷ []
files_in_add spans bytes name covers =
    let span : Span = record { name = length name; content = 0 } in
    files_in-append spans (span ∷ []) bytes name covers
    ∙ ap (λ files. files_in spans bytes ++ files) (ap (files_in (span ∷ [])) (sym (append-nil name)) ∙ files_in-one span name [] refl refl)

-- what a place, its span and the places behind it split the files into
split_files : (before : List Span) (span : Span) (after : List Span) (bytes : List ℕ) (s : Splits before span after bytes) →
    files_in (before ++ span ∷ after) bytes ≡ files_in before s.front ++ record { name = s.name; content = s.content } ∷ files_in after s.back
split_files before span after bytes s =
    ap (files_in (before ++ span ∷ after)) s.is
    ∙ files_in-append before (span ∷ after) s.front (s.name ++ (s.content ++ s.back)) (sym s.fronted)
    ∙ ap (λ files. files_in before s.front ++ files) (files_in-first span after s.name s.content s.back s.named s.sized)

-- the bytes with one file's at the end, but for its content
moved : (before : List Span) (span : Span) (after : List Span) (bytes : List ℕ) (start kept : ℕ) (s : Splits before span after bytes) →
    start ≡ covered before → kept ≡ length bytes - span.content →
    take kept (take start bytes ++ drop (start + (span.name + span.content)) bytes ++ take (span.name + span.content) (drop start bytes)) ≡ s.front ++ s.back ++ s.name
moved before span after bytes start kept s starts keeps =
    let size = span.name + span.content in
    let behind = s.name ++ (s.content ++ s.back) in
    let fronted : length s.front ≡ start = s.fronted ∙ sym starts in
    let sized : length (s.name ++ s.content) ≡ size = omega (arith, length-append s.name s.content, s.named, s.sized) in
    let whole : length (s.front ++ s.back ++ s.name) ≡ kept = omega (
      arith,
      ap length s.is,
      s.sized,
      length-append s.front behind,
      length-append s.name (s.content ++ s.back),
      length-append s.content s.back,
      length-append (s.front ++ s.back) s.name,
      length-append s.front s.back,
    ) in
    let first : take start bytes ≡ s.front = ap (take start) s.is ∙ take_at s.front behind start fronted in
    let rest : drop start bytes ≡ (s.name ++ s.content) ++ s.back =
    ap (drop start) s.is ∙ drop_at s.front behind start fronted ∙ sym (append_assoc s.name s.content s.back) in
    let file : take size (drop start bytes) ≡ s.name ++ s.content = ap (take size) rest ∙ take_at (s.name ++ s.content) s.back size sized in
    let last : drop (start + size) bytes ≡ s.back = sym (drop-drop size start bytes) ∙ ap (drop size) rest ∙ drop_at (s.name ++ s.content) s.back size sized in
    rw (first, last, file, ← append_assoc (s.front ++ s.back) s.name s.content, take_at (s.front ++ s.back ++ s.name) s.content kept whole)

-- a file that is emptied and put last
pub files_in_empty : (spans : List Span) (bytes : List ℕ) (place : ℕ) (span : Span) (file : File) (start kept : ℕ) (new : List ℕ) →
    covered spans ≡ length bytes → slice_get spans place ≡ Some span → slice_get (files_in spans bytes) place ≡ Some file →
    start ≡ covered (take place spans) → kept ≡ length bytes - span.content →
    new ≡ take kept (take start bytes ++ drop (start + (span.name + span.content)) bytes ++ take (span.name + span.content) (drop start bytes)) →
    EmptiesOne file.name (files_in spans bytes) (files_in (take place spans ++ drop (suc place) spans ++ record { name = span.name; content = 0 } ∷ []) new)
files_in_empty spans bytes place span file start kept new covers at filed starts keeps is =
    let before = take place spans in
    let after = drop (suc place) spans in
    let s : Splits before span after bytes = splits spans bytes place span covers at in
    let last : Span = record { name = span.name; content = 0 } in
    let named : s.name ≡ file.name = cc (slice_get-files_in spans bytes place span at, s.name_is) in
    let both : covered (before ++ after) ≡ length (s.front ++ s.back) =
    omega (arith, sum_by-append (λ t. t.name + t.content) before after, length-append s.front s.back, s.fronted, s.backed) in
    let emptied : EmptiesOne s.name (files_in spans bytes) (files_in (before ++ after ++ last ∷ []) new) = record {
      before = files_in before s.front;
      after = files_in after s.back;
      content = s.content;
      was = ap (λ all. files_in all bytes) (list_at spans place span at) ∙ split_files before span after bytes s;
      is = ap (files_in (before ++ after ++ last ∷ [])) (is ∙ moved before span after bytes start kept s starts keeps)
          ∙ files_in-append (before ++ after) (last ∷ []) (s.front ++ s.back) s.name both
          ∙ ap (λ files. files ++ files_in (last ∷ []) s.name) (files_in-append before after s.front s.back (sym s.fronted))
          ∙ ap (λ files. files_in before s.front ++ files_in after s.back ++ files)
          (ap (files_in (last ∷ [])) (sym (append-nil s.name)) ∙ files_in-one last s.name [] s.named refl);
    } in
    subst (λ (name : List ℕ). EmptiesOne name (files_in spans bytes) (files_in (before ++ after ++ last ∷ []) new)) named emptied

-- the last file, with more bytes behind it
pub files_in_grow : (spans : List Span) (bytes more : List ℕ) (last : ℕ) (span : Span) → covered spans ≡ length bytes → length spans ≡ suc last → slice_get spans last ≡ Some span →
    GrowsLast more (files_in spans bytes) (files_in (set spans last (record { name = span.name; content = span.content + length more })) (bytes ++ more))
files_in_grow spans bytes more last span covers count at =
    let before = take last spans in
    let after = drop (suc last) spans in
    let s : Splits before span after bytes = splits spans bytes last span covers at in
    let grown : Span = record { name = span.name; content = span.content + length more } in
    let within : last < length spans = omega arith in
    let none : after ≡ [] = drop_all (suc last) spans (omega arith) in
    let nothing : s.back ≡ [] = nil_from_length s.back (s.backed ∙ ap covered none) in
    let whole : bytes ++ more ≡ s.front ++ (s.name ++ (s.content ++ more)) =
    ap (λ xs. xs ++ more) (s.is ∙ ap (λ back. s.front ++ (s.name ++ (s.content ++ back))) nothing ∙ rw (append-nil s.content))
    ∙ append_assoc s.front (s.name ++ s.content) more ∙ ap (λ xs. s.front ++ xs) (append_assoc s.name s.content more) in
    record {
      before = files_in before s.front;
      name = s.name;
      content = s.content;
      was = ap (λ all. files_in all bytes) (list_at spans last span at) ∙ split_files before span after bytes s
          ∙ ap (λ all. files_in before s.front ++ record { name = s.name; content = s.content } ∷ files_in all s.back) none;
      is = ap (λ all. files_in all (bytes ++ more)) (set_split spans last grown within ∙ ap (λ all. before ++ grown ∷ all) none)
          ∙ ap (files_in (before ++ grown ∷ [])) whole
          ∙ files_in-append before (grown ∷ []) s.front (s.name ++ (s.content ++ more)) (sym s.fronted)
          ∙ ap (λ all. files_in before s.front ++ all) (files_in-one grown s.name (s.content ++ more) s.named (omega (arith, length-append s.content more, s.sized)));
    }

-- a read of a list within its length
pub read_at : {X : Type 0} (xs : List X) (place : ℕ) (x : X) → place < length xs → x ≡ get_or xs place x → slice_get xs place ≡ Some x
read_at xs place x within is = slice_get-get_or xs place x within ∙ ap Some (sym is)

-- the span at a place, and that it lies within the bytes
pub span_at : (spans : List Span) (bytes : List ℕ) (place start : ℕ) (span : Span) → covered spans ≡ length bytes → place < length spans → span ≡ get_or spans place span →
    start ≡ covered (take place spans) → (slice_get spans place ≡ Some span) × (start + (span.name + span.content) ≤ length bytes)
span_at spans bytes place start span covers within is starts =
    let at = read_at spans place span within is in
    (at, omega (arith, covered_at spans place span at))

-- what the spans cover when one of them grows
pub covered_grow : (spans : List Span) (place more : ℕ) (span : Span) → slice_get spans place ≡ Some span →
    covered (set spans place (record { name = span.name; content = span.content + more })) ≡ covered spans + more
covered_grow [] place more span at = cc
covered_grow (first ∷ spans) zero more span at =
    let same : first ≡ span = cc in
    rw (covered-cons (record { name = span.name; content = span.content + more }) spans, covered-cons first spans, same) (omega arith)
covered_grow (first ∷ spans) (suc place) more span at =
    rw (covered-cons first (set spans place (record { name = span.name; content = span.content + more })), covered-cons first spans, covered_grow spans place more span at) (omega arith)
