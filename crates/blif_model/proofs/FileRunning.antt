-- What is known when the lines of a text of several models are over is what the text says.
use Rattle.std.proofs.Common.{◌≡◌, ◌⊎◌, ℕ, List, [], ◌∷◌, ◌++◌, map, Option, None, Some, Result, Ok, Err, refl, sym, ap, ◌∙◌, inl, inr, subst}
use Rattle.std.specs.Prelude.{IfOk, IfErr}
use Rattle.std.proofs.lemmas.List.{append-nil, append_assoc}
use Rattle.std.proofs.lemmas.List.Sums.{fold-append}
use Rattle.std.specs.Option.{option_map, option_or}
use Rattle.psl_base.specs.Tokens.{PlacedToken}
use Rattle.psl_base.specs.declared.place.Place.{Place}
use Rattle.blif_model.specs.declared.fault.BlifFault.{BlifFault}
use Rattle.blif_model.specs.declared.fault.BlifFault.TheVariants.{MissingEnd, NoMemory}
use Rattle.blif_model.specs.declared.file.FileText.{FileText}
use Rattle.blif_model.specs.FileKnown.{AreSaidOf, FileKnown, FileSays, file_fault_in, file_known_after, file_line_fault_in, file_running, no_file_known, numbered_part, parts_known}
use Rattle.blif_model.specs.Files.{FileStanding, Part, file_after, file_by, file_line_fault, first_file_fault, model_named, models_of, no_file, parts_of, unless}
use Rattle.blif_model.specs.Lines.{Line, lines}
use Rattle.blif_model.specs.Models.{Model}
use Rattle.blif_model.specs.Names.{place_of}
use Rattle.blif_model.proofs.Titles.{ordered-by, ordered-first, titles-number}
use Rattle.blif_model.proofs.Filed.{FileFollows, file-fault-is, file-follows-first, file-words-step, parts-are}

-- what lines say that stand behind others
abbrev meaning : List Line → List Line → Result (List (Part Model)) BlifFault
meaning before rest = unless (first_file_fault before rest) (parts_of (file_by (before ++ rest)))

-- what is known in the end follows what was said, or both have the same fault
abbrev Agrees : List ℕ → List Line → Result FileKnown BlifFault → Result (List (Part Model)) BlifFault → Type 0
Agrees whole all (Ok known) said = (said ≡ Ok (parts_of (file_by all))) × FileFollows whole (file_by all) known
Agrees whole all (Err fault) said = said ≡ Err fault

line-fault-is : (whole : List ℕ) (file : FileStanding) (known : FileKnown) (line : Line) → FileFollows whole file known
    → file_line_fault_in known line ≡ file_line_fault file line
line-fault-is whole file known line follows =
    ap (λ fault. option_or fault (option_map MissingEnd line.stray)) (file-fault-is whole file known line.words follows)

faultless : (first stray : Option BlifFault) → option_or first stray ≡ None → first ≡ None
faultless None stray none = refl
faultless (Some fault) stray none = cc

line-step : (whole : List ℕ) (before : List Line) (known : FileKnown) (line : Line) → FileFollows whole (file_by before) known
    → file_line_fault_in known line ≡ None
    → FileFollows whole (file_by (before ++ line ∷ [])) (file_known_after known line.words)
line-step whole before known line follows none =
    subst (λ file. FileFollows whole file (file_known_after known line.words)) (sym (fold-append file_after no_file before (line ∷ [])))
    (file-words-step whole (file_by before) known line.words follows
    (faultless (file_fault_in known line.words) (option_map MissingEnd line.stray) none))

agrees-line : (whole : List ℕ) (before rest : List Line) (known : FileKnown) (line : Line) (fault : Option BlifFault)
    → file_line_fault_in known line ≡ fault → FileFollows whole (file_by before) known
    → (file_line_fault_in known line ≡ None
    → Agrees whole ((before ++ line ∷ []) ++ rest) (file_running (file_known_after known line.words) rest) (meaning (before ++ line ∷ []) rest))
    → Agrees whole (before ++ line ∷ rest) (file_running known (line ∷ rest)) (meaning before (line ∷ rest))
agrees-line whole before rest known line (Some fault) is follows next =
    let there : file_line_fault (file_by before) line ≡ Some fault = sym (line-fault-is whole (file_by before) known line follows) ∙ is in
    rw (is, there) refl
agrees-line whole before rest known line None is follows next =
    let there : file_line_fault (file_by before) line ≡ None = sym (line-fault-is whole (file_by before) known line follows) ∙ is in
    rw (is, there)
    (subst (λ (all : List Line). Agrees whole all (file_running (file_known_after known line.words) rest)
    (unless (first_file_fault (before ++ line ∷ []) rest) (parts_of (file_by all))))
    (append_assoc before (line ∷ []) rest) (next is))

agrees : (whole : List ℕ) (before rest : List Line) (known : FileKnown) → FileFollows whole (file_by before) known
    → Agrees whole (before ++ rest) (file_running known rest) (meaning before rest)
agrees whole before [] known follows =
    subst (λ (all : List Line). Agrees whole all (Ok known) (Ok (parts_of (file_by all)))) (sym (append-nil before)) (refl, follows)
agrees whole before (line ∷ rest) known follows =
    agrees-line whole before rest known line (file_line_fault_in known line) refl follows
    (λ none. agrees whole (before ++ line ∷ []) rest (file_known_after known line.words) (line-step whole before known line follows none))

none-of : (fault : Option BlifFault) (parts : List (Part Model)) → ◌≡◌ {A = Result (List (Part Model)) BlifFault} (unless fault parts) (Ok parts) → fault ≡ None
none-of None parts is = refl
none-of (Some fault) parts is = cc

pub file-says : (whole : List ℕ) (known : FileKnown) → file_running (no_file_known whole) (lines whole) ≡ Ok known
    → (parts : List (Part Model)) × (models_of whole ≡ Ok parts) × (parts_known known ≡ map (numbered_part whole) parts)
    × ((name : List ℕ) → place_of known.titles name ≡ model_named parts name)
file-says whole known is =
    let file = file_by (lines whole) in
    let both = subst (λ outcome. Agrees whole (lines whole) outcome (models_of whole)) is
    (agrees whole [] (lines whole) (no_file_known whole) (file-follows-first whole)) in (
      parts_of file,
      both.0,
      parts-are whole file known both.1,
      λ name.
          ap (λ titles. place_of titles name) both.1.titles
          ∙ titles-number file (ordered-by [] (lines whole) ordered-first (none-of (first_file_fault [] (lines whole)) (parts_of file) both.0)) name,
    )

pub file-refuses : (whole : List ℕ) (fault : BlifFault) → file_running (no_file_known whole) (lines whole) ≡ Err fault → models_of whole ≡ Err fault
file-refuses whole fault is =
    subst (λ outcome. Agrees whole (lines whole) outcome (models_of whole)) is
    (agrees whole [] (lines whole) (no_file_known whole) (file-follows-first whole))

-- a line without a fault
pub file-line-taken : (old new : FileKnown) (words : List PlacedToken) (before after : List Line)
    → before ≡ record { words = words; stray = None } ∷ after
    → file_fault_in old words ≡ None → new ≡ file_known_after old words → file_running old before ≡ file_running new after
file-line-taken old new words before after is none known = rw (is, none, known) refl

-- a line with a fault in its words
pub file-line-refused : (old : FileKnown) (line : Line) (before after : List Line) (fault : BlifFault) → before ≡ line ∷ after
    → file_fault_in old line.words ≡ Some fault → file_running old before ≡ Err fault
file-line-refused old line before after fault is found = rw (is, found) refl

-- a line whose backslash joins nothing
pub file-line-stray : (old : FileKnown) (words : List PlacedToken) (place : Place) (before after : List Line)
    → before ≡ record { words = words; stray = Some place } ∷ after
    → file_fault_in old words ≡ None → file_running old before ≡ Err (MissingEnd place)
file-line-stray old words place before after is none = rw (is, none) refl

-- the law of reading files, for an answer
pub file-said-ok : (whole : List ℕ) (result : Result FileText BlifFault)
    → IfOk result (AreSaidOf whole (file_running (no_file_known whole) (lines whole))) → IfOk result (FileSays whole)
file-said-ok whole (Ok text) said =
    let by = file-says whole said.0 said.1 in
    (by.0, by.1, (said.2 ∙ by.2, λ name. ap (λ titles. place_of titles name) said.3 ∙ by.3 name))
file-said-ok whole (Err fault) said = tt

by-err : (whole : List ℕ) (fault : BlifFault) → (fault ≡ NoMemory) ⊎ (file_running (no_file_known whole) (lines whole) ≡ Err fault)
    → (fault ≡ NoMemory) ⊎ (models_of whole ≡ Err fault)
by-err whole fault (inl none) = inl none
by-err whole fault (inr is) = inr (file-refuses whole fault is)

pub file-said-err : (whole : List ℕ) (result : Result FileText BlifFault)
    → IfErr result (λ fault. (fault ≡ NoMemory) ⊎ (file_running (no_file_known whole) (lines whole) ≡ Err fault))
    → IfErr result (λ fault. (fault ≡ NoMemory) ⊎ (models_of whole ≡ Err fault))
file-said-err whole (Ok text) said = tt
file-said-err whole (Err fault) said = by-err whole fault said
