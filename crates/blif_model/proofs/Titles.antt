-- The place of a name among the names of models is the number of its model: where no line is at fault only a model that is
-- alone has no name.
use Rattle.std.proofs.Common.{◌≡◌, ℕ, ◌+◌, Bool, true, false, not, ◌&&◌, ◌||◌, cond, List, [], ◌∷◌, ◌++◌, Option, None, Some, refl, sym, ap, ◌∙◌, subst}
use Rattle.std.proofs.lemmas.List.{append-nil, append_assoc}
use Rattle.std.proofs.lemmas.List.Sums.{fold-append}
use Rattle.std.specs.List.{flat_map, position_from}
use Rattle.std.specs.Option.{option_map, option_or}
use Rattle.std.specs.Str.{bytes_eq}
use Rattle.psl_base.specs.Tokens.{PlacedToken}
use Rattle.psl_base.specs.declared.place.Place.{Place as PlaceOf}
use Rattle.blif_model.specs.declared.fault.BlifFault.{BlifFault}
use Rattle.blif_model.specs.declared.fault.BlifFault.TheVariants.{MissingEnd}
use Rattle.blif_model.specs.declared.file.FileCommand.{FileCommand}
use Rattle.blif_model.specs.declared.file.FileCommand.TheVariants.{Begin, Place, Own}
use Rattle.blif_model.specs.Files.{FileStanding, Part, begin_fault, begin_rule, begun_as, file_after, file_after_words, file_by, file_by_command, file_command_of, file_fault_by, file_line_fault, file_words_fault, first_file_fault, first_of, is_named, is_repeated, model_named, no_file, part_of, parts_of, title_text, titles_of}
use Rattle.blif_model.specs.Lines.{Line}
use Rattle.blif_model.specs.Models.{Model}
use Rattle.blif_model.specs.Names.{place_of}
use Rattle.blif_model.specs.Rules.{flags_of, has_one, is_bad_model}

-- all models have names
abbrev AreTitled : List (Part Model) → Type 0
AreTitled [] = Unit {0}
AreTitled (part ∷ parts) = ((title : PlacedToken) × (part.title ≡ Some title)) × AreTitled parts

titled-push : (parts : List (Part Model)) (part : Part Model) (title : PlacedToken) → AreTitled parts → part.title ≡ Some title
    → AreTitled (parts ++ part ∷ [])
titled-push [] part title all is = ((title, is), tt)
titled-push (first ∷ parts) part title all is = (all.0, titled-push parts part title all.1 is)

-- the models before the one that is read have names, and where that one has none it is the first
pub record Ordered (file : FileStanding) : Type 0 where
  pub titled : AreTitled file.earlier
  pub alone : file.title ≡ None → file.earlier ≡ []

pub ordered-first : Ordered no_file
ordered-first = record { titled = tt; alone = λ none. refl }

some-first : (words : List PlacedToken) → has_one words ≡ true → first_of words ≡ None → ⊥
some-first [] one none = cc
some-first (word ∷ words) one none = cc

or_false : (a b : Bool) → (not a || b) ≡ false → a ≡ true
or_false true b is = refl
or_false false b is = cc

rule_none : (bad repeated : Bool) (place : PlaceOf) → option_map (λ rule. rule place) (begin_rule bad repeated) ≡ None → bad ≡ false
rule_none true repeated place is = cc
rule_none false repeated place is = refl

has-name : (file : FileStanding) (head : PlacedToken) (words : List PlacedToken) → begin_fault file head words ≡ None → first_of words ≡ None → ⊥
has-name file head words none =
    let flags = flags_of file.own in
    let bad = rule_none (is_bad_model flags words) (is_repeated (titles_of file) words) head.place none in
    some-first words (or_false (has_one words) (flags.begun && not flags.titled) bad)

begun : (file : FileStanding) (words : List PlacedToken) (title : Option PlacedToken) → file.title ≡ title → (first_of words ≡ None → ⊥)
    → Ordered file → Ordered (begun_as file words title)
begun file words None is some ordered = record { titled = ordered.titled; alone = λ none. absurd (some none) }
begun file words (Some title) is some ordered =
    record { titled = titled-push file.earlier (part_of file) title ordered.titled is; alone = λ none. absurd (some none) }

by-step : (file : FileStanding) (command : FileCommand) (head : PlacedToken) (words : List PlacedToken)
    → file_fault_by file command head words ≡ None → Ordered file → Ordered (file_by_command file command head words)
by-step file Begin head words none ordered = begun file words file.title refl (has-name file head words none) ordered
by-step file Place head words none ordered = record { titled = ordered.titled; alone = ordered.alone }
by-step file (Own command) head words none ordered = record { titled = ordered.titled; alone = ordered.alone }

words-step : (file : FileStanding) (words : List PlacedToken) → file_words_fault file words ≡ None → Ordered file → Ordered (file_after_words file words)
words-step file [] none ordered = ordered
words-step file (head ∷ words) none ordered = by-step file (file_command_of head.text) head words none ordered

or_none : (first later : Option BlifFault) → option_or first later ≡ None → (first ≡ None) × (later ≡ None)
or_none None later none = (refl, none)
or_none (Some fault) later none = cc

pub ordered-by : (before rest : List Line) → Ordered (file_by before) → first_file_fault before rest ≡ None → Ordered (file_by (before ++ rest))
ordered-by before [] ordered none = subst (λ all. Ordered (file_by all)) (sym (append-nil before)) ordered
ordered-by before (line ∷ rest) ordered none =
    let parts = or_none (file_line_fault (file_by before) line) (first_file_fault (before ++ line ∷ []) rest) none in
    let here = or_none (file_words_fault (file_by before) line.words) (option_map MissingEnd line.stray) parts.0 in
    let next : Ordered (file_by (before ++ line ∷ [])) =
    subst Ordered (sym (fold-append file_after no_file before (line ∷ []))) (words-step (file_by before) line.words here.0 ordered) in
    subst (λ all. Ordered (file_by all)) (append_assoc before (line ∷ []) rest) (ordered-by (before ++ line ∷ []) rest next parts.1)

-- the number of a name
by-title : (name : List ℕ) (i : ℕ) (part : Part Model) (parts : List (Part Model)) (title : PlacedToken) → part.title ≡ Some title
    → position_from (λ other. bytes_eq name other) (i + 1) (flat_map (λ (p : Part Model). title_text p.title) parts)
    ≡ position_from (λ (p : Part Model). is_named name p.title) (i + 1) parts
    → position_from (λ other. bytes_eq name other) i (title_text part.title ++ flat_map (λ (p : Part Model). title_text p.title) parts)
    ≡ position_from (λ (p : Part Model). is_named name p.title) i (part ∷ parts)
by-title name i part parts title is rest =
    rw is (ap (λ (later : Option ℕ). cond (bytes_eq name title.text) (Some i) later) rest)

number-from : (name : List ℕ) (i : ℕ) (parts : List (Part Model)) → AreTitled parts
    → position_from (λ other. bytes_eq name other) i (flat_map (λ (p : Part Model). title_text p.title) parts)
    ≡ position_from (λ (p : Part Model). is_named name p.title) i parts
number-from name i [] all = refl
number-from name i (part ∷ parts) all = by-title name i part parts all.0.0 all.0.1 (number-from name (i + 1) parts all.1)

pub flat-push : (parts : List (Part Model)) (part : Part Model)
    → flat_map (λ (p : Part Model). title_text p.title) (parts ++ part ∷ [])
    ≡ flat_map (λ (p : Part Model). title_text p.title) parts ++ title_text part.title
flat-push [] part = append-nil (title_text part.title)
flat-push (first ∷ parts) part =
    ap (λ rest. title_text first.title ++ rest) (flat-push parts part)
    ∙ sym (append_assoc (title_text first.title) (flat_map (λ (p : Part Model). title_text p.title) parts) (title_text part.title))

number-by : (file : FileStanding) (title : Option PlacedToken) → file.title ≡ title → Ordered file → (name : List ℕ)
    → place_of (titles_of file) name ≡ model_named (parts_of file) name
number-by file None is ordered name = rw (ordered.alone is, is) refl
number-by file (Some title) is ordered name =
    ap (λ titles. place_of titles name) (sym (flat-push file.earlier (part_of file)))
    ∙ number-from name 0 (parts_of file) (titled-push file.earlier (part_of file) title ordered.titled is)

pub titles-number : (file : FileStanding) → Ordered file → (name : List ℕ) → place_of (titles_of file) name ≡ model_named (parts_of file) name
titles-number file ordered name = number-by file file.title refl ordered name
