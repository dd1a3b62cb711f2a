-- Which of several files of one name counts, and what edits of the list make of that.
use Rattle.std.proofs.Common.{◌≡◌, ℕ, zero, suc, ◌+◌, ◌<◌, ◌≤◌, inl, inr, Bool, true, false, List, [], ◌∷◌, ◌++◌, length, drop, Option, Some, None, slice_get, refl, sym, ap, ◌∙◌, subst, arith, length-append, if◌then◌else◌}
use Rattle.std.specs.Option.{option_or, option_map}
use Rattle.std.specs.Str.{bytes_eq}
use Rattle.std.proofs.Math.Path.{fun_ext}
use Rattle.std.proofs.lemmas.Option.{slice_get_within}
use Rattle.std.proofs.lemmas.Slice.Eq.{bytes_eq-Decides}
use Rattle.psl_base.specs.declared.packed.File.{File}
use Rattle.psl_base.specs.Shelf.{ShelfState, OfSelected, with_content, with_more}
use Rattle.psl_base.specs.Files.{content_of, empty_file, last_name, CountsAt, FoundAt, CreatesFile, EmptiesOne, GrowsLast}
use Rattle.psl_base.specs.MemShelfState.{name_at}

-- the last file of a list counts before all others
pub content_of-snoc : (files : List File) (last : File) (name : List ℕ) → content_of (files ++ last ∷ []) name ≡ (if bytes_eq last.name name then Some last.content else content_of files name)
content_of-snoc [] last name = refl
content_of-snoc (file ∷ files) last name =
    ap (λ found. option_or found (if bytes_eq file.name name then Some file.content else None)) (content_of-snoc files last name)
    ∙ behind (bytes_eq last.name name)
  where
    behind : (test : Bool) → option_or (if test then Some last.content else content_of files name) (if bytes_eq file.name name then Some file.content else None) ≡ (if test then Some last.content else content_of (file ∷ files) name)
    behind true = refl
    behind false = refl

-- a file of another name counts for nothing
content_of-skip : (before after : List File) (file : File) (name : List ℕ) → bytes_eq file.name name ≡ false → content_of (before ++ file ∷ after) name ≡ content_of (before ++ after) name
content_of-skip [] after file name other =
    ap (λ test. option_or (content_of after name) (if test then Some file.content else None)) other ∙ alone (content_of after name)
  where
    alone : (found : Option (List ℕ)) → option_or found None ≡ found
    alone None = refl
    alone (Some content) = refl
content_of-skip (first ∷ before) after file name other =
    ap (λ found. option_or found (if bytes_eq first.name name then Some first.content else None)) (content_of-skip before after file name other)

-- the content of each name after a file was emptied and put last
pub content_of_empties : (name : List ℕ) (old new : List File) (other : List ℕ) → EmptiesOne name old new → content_of new other ≡ with_content name [] (content_of old) other
content_of_empties name old new other empties =
    ap (λ files. content_of files other) empties.is
    ∙ content_of-snoc (empties.before ++ empties.after) (empty_file name) other
    ∙ rest (bytes_eq name other) refl
    ∙ ap (λ files. with_content name [] (content_of files) other) (sym empties.was)
  where
    was : List File
    was = empties.before ++ record { name = name; content = empties.content } ∷ empties.after

    rest : (test : Bool) → bytes_eq name other ≡ test → (if test then Some [] else content_of (empties.before ++ empties.after) other) ≡ (if test then Some [] else content_of was other)
    rest true is = refl
    rest false is = sym (content_of-skip empties.before empties.after (record { name = name; content = empties.content }) other is)

-- the content of each name after the last file grew
pub content_of_grows : (more : List ℕ) (old new : List File) (other : List ℕ) (grows : GrowsLast more old new) → content_of new other ≡ with_more grows.name more (content_of old) other
content_of_grows more old new other grows =
    ap (λ files. content_of files other) grows.is
    ∙ content_of-snoc grows.before (record { name = grows.name; content = grows.content ++ more }) other
    ∙ both (bytes_eq grows.name other)
    ∙ ap (λ found. if bytes_eq grows.name other then option_map (λ content. content ++ more) found else found)
    (sym (content_of-snoc grows.before (record { name = grows.name; content = grows.content }) other) ∙ ap (λ files. content_of files other) (sym grows.was))
  where
    both : (test : Bool) → (if test then Some (grows.content ++ more) else content_of grows.before other) ≡ (if test then option_map (λ content. content ++ more) (if test then Some grows.content else content_of grows.before other) else (if test then Some grows.content else content_of grows.before other))
    both true = refl
    both false = refl

-- the last file's name
last_name-snoc : (files : List File) (last : File) → last_name (files ++ last ∷ []) ≡ Some last.name
last_name-snoc [] last = refl
last_name-snoc (file ∷ files) last = rw (last_name-snoc files last)

-- the file at a place counts where no later one has its name
pub counts_from : (files : List File) (place next : ℕ) (file : File) → next ≡ place + 1 → slice_get files place ≡ Some file → content_of (drop next files) file.name ≡ None → CountsAt files place 0
counts_from [] place next file step at none = cc
counts_from (first ∷ files) zero next file step at none =
    let same : first ≡ file = cc in
    let one : next ≡ 1 = omega arith in
    (ap (λ f. content_of files f.name) same ∙ ap (λ n. content_of (drop n (first ∷ files)) file.name) (sym one) ∙ none, omega arith)
counts_from (first ∷ files) (suc place) next file step at none =
    let more : next ≡ suc (place + 1) = omega arith in
    counts_from files place (place + 1) file refl at (ap (λ n. content_of (drop n (first ∷ files)) file.name) (sym more) ∙ none)

-- one more file that has another name
pub none_more : (files : List File) (place next : ℕ) (file : File) (name : List ℕ) → next ≡ place + 1 → slice_get files place ≡ Some file → bytes_eq file.name name ≡ false → content_of (drop next files) name ≡ None → content_of (drop place files) name ≡ None
none_more [] place next file name step at other none = cc
none_more (first ∷ files) zero next file name step at other none =
    let same : first ≡ file = cc in
    let one : next ≡ 1 = omega arith in
    let rest : content_of files name ≡ None = ap (λ n. content_of (drop n (first ∷ files)) name) (sym one) ∙ none in
    let tested : bytes_eq first.name name ≡ false = ap (λ f. bytes_eq f.name name) same ∙ other in
    rw (rest, tested)
none_more (first ∷ files) (suc place) next file name step at other none =
    let more : next ≡ suc (place + 1) = omega arith in
    none_more files place (place + 1) file name refl at other (ap (λ n. content_of (drop n (first ∷ files)) name) (sym more) ∙ none)

-- what counts is found under its name, and has the bytes that were asked for
pub counts_found : (files : List File) (place size : ℕ) (file : File) → CountsAt files place size → slice_get files place ≡ Some file → (content_of files file.name ≡ Some file.content) × (size ≤ length file.content)
counts_found [] place size file counts at = cc
counts_found (first ∷ files) zero size file counts at =
    let same : first ≡ file = cc in
    let found : (content_of (first ∷ files) first.name ≡ Some first.content) × (size ≤ length first.content) =
    (rw (counts.0, (bytes_eq-Decides first.name first.name).1 refl), counts.1) in
    subst (λ (f : File). (content_of (first ∷ files) f.name ≡ Some f.content) × (size ≤ length f.content)) same found
counts_found (first ∷ files) (suc place) size file counts at =
    let found = counts_found files place size file counts at in
    (ap (λ content. option_or content (if bytes_eq first.name file.name then Some first.content else None)) found.0, found.1)

-- another number of bytes that are there
pub counts_size : (files : List File) (place size other : ℕ) (file : File) → CountsAt files place size → slice_get files place ≡ Some file → other ≤ length file.content → CountsAt files place other
counts_size [] place size other file counts at fits = counts
counts_size (first ∷ files) zero size other file counts at fits =
    let same : file ≡ first = cc in
    (counts.0, subst (λ (f : File). other ≤ length f.content) same fits)
counts_size (first ∷ files) (suc place) size other file counts at fits = counts_size files place size other file counts at fits

counts_snoc : (before : List File) (name content more : List ℕ) (place size : ℕ) → CountsAt (before ++ record { name = name; content = content } ∷ []) place size → CountsAt (before ++ record { name = name; content = content ++ more } ∷ []) place size
counts_snoc [] name content more zero size counts = (counts.0, omega (arith, counts.1, length-append content more))
counts_snoc [] name content more (suc place) size counts = counts
counts_snoc (first ∷ before) name content more zero size counts = (
  content_of-snoc before (record { name = name; content = content ++ more }) first.name
      ∙ none (bytes_eq name first.name) (sym (content_of-snoc before (record { name = name; content = content }) first.name) ∙ counts.0),
  counts.1,
)
  where
    none : (test : Bool) → (if test then Some content else content_of before first.name) ≡ None → (if test then Some (content ++ more) else content_of before first.name) ≡ None
    none true is = cc
    none false is = is
counts_snoc (first ∷ before) name content more (suc place) size counts = counts_snoc before name content more place size counts

-- a file that counts still does when the last one grows
pub counts_grows : (more : List ℕ) (old new : List File) (place size : ℕ) → GrowsLast more old new → CountsAt old place size → CountsAt new place size
counts_grows more old new place size grows counts =
    subst (λ (files : List File). CountsAt files place size) (sym grows.is)
    (counts_snoc grows.before grows.name grows.content more place size (subst (λ (files : List File). CountsAt files place size) grows.was counts))

-- a file of this name, behind which there is no other
pub found_from : (files : List File) (place next : ℕ) (name other content : List ℕ) → next ≡ place + 1 → slice_get files place ≡ Some (record { name = other; content = content }) → other ≡ name → content_of (drop next files) name ≡ None → FoundAt files name place
found_from files place next name other content step at same none =
    let file : File = record { name = name; content = content } in
    let here : slice_get files place ≡ Some file = at ∙ ap (λ n. Some (record { name = n; content = content })) same in
    let counts = counts_from files place next file step here none in
    record { content = content; at = here; is = (counts_found files place 0 file counts here).0; counts = counts }

-- a place where there is a file is within the list
pub found_within : (files : List File) (name : List ℕ) (place : ℕ) → FoundAt files name place → place < length files
found_within files name place found = slice_get_within files place (record { name = name; content = found.content }) found.at

-- the contents after a name was created
pub contents_created : (name : List ℕ) (old new : List File) → CreatesFile name old new → content_of new ≡ with_content name [] (content_of old)
contents_created name old new (inl empties) = fun_ext (λ other. content_of_empties name old new other empties)
contents_created name old new (inr added) = fun_ext (λ other. ap (λ files. content_of files other) added.1 ∙ content_of-snoc old (empty_file name) other)

-- the last file's name after a name was created
pub last_name_created : (name : List ℕ) (old new : List File) → CreatesFile name old new → last_name new ≡ Some name
last_name_created name old new (inl empties) = ap last_name empties.is ∙ last_name-snoc (empties.before ++ empties.after) (empty_file name)
last_name_created name old new (inr added) = ap last_name added.1 ∙ last_name-snoc old (empty_file name)

-- the contents after the last file grew
pub contents_grown : (name more : List ℕ) (old new : List File) → last_name old ≡ Some name → GrowsLast more old new → content_of new ≡ with_more name more (content_of old)
contents_grown name more old new named grows =
    let last : last_name old ≡ Some grows.name = ap last_name grows.was ∙ last_name-snoc grows.before (record { name = grows.name; content = grows.content }) in
    let same : grows.name ≡ name = cc in
    fun_ext (λ other. content_of_grows more old new other grows) ∙ ap (λ n. with_more n more (content_of old)) same

-- the last file keeps its name when it grows
pub last_name_grown : (more : List ℕ) (old new : List File) → GrowsLast more old new → last_name new ≡ last_name old
last_name_grown more old new grows =
    ap last_name grows.is ∙ last_name-snoc grows.before (record { name = grows.name; content = grows.content ++ more })
    ∙ sym (ap last_name grows.was ∙ last_name-snoc grows.before (record { name = grows.name; content = grows.content }))

-- all files keep their names
pub name_at_grown : (more : List ℕ) (old new : List File) (place : Option ℕ) → GrowsLast more old new → name_at new place ≡ name_at old place
name_at_grown more old new None grows = refl
name_at_grown more old new (Some place) grows =
    ap (λ files. name_at files (Some place)) grows.is ∙ same grows.before place ∙ ap (λ files. name_at files (Some place)) (sym grows.was)
  where
    same : (before : List File) (at : ℕ) → name_at (before ++ record { name = grows.name; content = grows.content ++ more } ∷ []) (Some at) ≡ name_at (before ++ record { name = grows.name; content = grows.content } ∷ []) (Some at)
    same [] zero = refl
    same [] (suc at) = refl
    same (file ∷ before) zero = refl
    same (file ∷ before) (suc at) = same before at

-- two values of one option
pub some_same : {X : Type 0} (x y : X) → Some x ≡ Some y → x ≡ y
some_same x y is = cc

-- the content of the file that is found
pub found_content : (files : List File) (name other content : List ℕ) (place : ℕ) → FoundAt files name place → slice_get files place ≡ Some (record { name = other; content = content }) → content_of files name ≡ Some content
found_content files name other content place found at =
    let file : File = record { name = name; content = found.content } in
    let same = some_same file (record { name = other; content = content }) (sym found.at ∙ at) in
    found.is ∙ ap (λ f. Some f.content) same

-- a fact of the file at the place that is read is one of the selected content
pub of_selected : (files : List File) (place size : ℕ) (file : File) (shelf : ShelfState) (fact : List ℕ → Type 0) →
    CountsAt files place size → slice_get files place ≡ Some file → shelf.told ≡ Some (content_of files) → shelf.selected ≡ name_at files (Some place) →
    fact file.content → OfSelected shelf fact
of_selected files place size file shelf fact counts at tells selects holds contents name content told selected found =
    let named : Some file.name ≡ Some name = sym (ap (option_map (λ f. f.name)) at) ∙ sym selects ∙ selected in
    let all : Some (content_of files) ≡ Some contents = sym tells ∙ told in
    let here : content_of files name ≡ Some content = ap (λ c. c name) (some_same (content_of files) contents all) ∙ found in
    let there : content_of files name ≡ Some file.content = ap (content_of files) (sym (some_same file.name name named)) ∙ (counts_found files place size file counts at).0 in
    subst fact (some_same file.content content (sym there ∙ here)) holds
