-- What a reader of files keeps: all spans are of the text.
use Rattle.std.proofs.Common.{◌≡◌, ℕ, ◌-◌, ◌≤◌, Bool, true, false, not, List, [], ◌∷◌, ◌++◌, length, map, take, drop, slice_index_or, All, Option, None, Some, refl, sym, ap, ◌∙◌, arith}
use Rattle.std.specs.Prelude.{IfSome}
use Rattle.std.specs.Option.{option_map}
use Rattle.std.proofs.lemmas.List.Elements.{All-nil, All-cons, All-append, All-head, All-tail}
use Rattle.psl_base.specs.Tokens.{PlacedToken}
use Rattle.psl_base.specs.declared.place.Place.{Place}
use Rattle.blif_model.specs.declared.command.Command.{Command}
use Rattle.blif_model.specs.declared.command.Command.TheVariants as commands
use Rattle.blif_model.specs.declared.file.FileModel.{FileModel}
use Rattle.blif_model.specs.declared.file.PlacementLine.{PlacementLine}
use Rattle.blif_model.specs.declared.pieces.Span.{Span}
use Rattle.blif_model.specs.FileKnown.{FileKnown, IsModelWithin, IsPlacementWithin, begin_fault_in, known_begun, known_begun_as, known_over, known_own, part_in, placing_in, spans_of, titled_by}
use Rattle.blif_model.specs.Files.{begin_rule, clocks_by}
use Rattle.blif_model.specs.Known.{Known, flags_in, known_by_command}
use Rattle.blif_model.specs.Names.{is_new}
use Rattle.blif_model.specs.Rules.{is_bad_model}
use Rattle.blif_model.specs.Scanning.{IsWithin, word_of}
use Rattle.blif_model.specs.Standing.{words_of}

abbrev pub Kept : List ℕ → List FileModel → Option Span → List Span → List PlacementLine → Type 0
Kept whole earlier title clocks placements =
    All (IsModelWithin whole) earlier × IfSome title (IsWithin whole) × All (IsWithin whole) clocks × All (IsPlacementWithin whole) placements

-- a model is over
pub kept-over : (whole same : List ℕ) (earlier more : List FileModel) (model : FileModel) (clocks : List Span) (placements : List PlacementLine)
    → same ≡ whole → more ≡ earlier ++ model ∷ [] → clocks ≡ [] → placements ≡ []
    → All (IsModelWithin whole) earlier → IsModelWithin whole model → Kept same more None clocks placements
kept-over whole same earlier more model clocks placements is grown none nothing before one =
    rw (is, grown, none, nothing) (
      All-append (IsModelWithin whole) earlier (model ∷ []) before (All-cons (IsModelWithin whole) model [] one (All-nil (IsModelWithin whole))),
      tt,
      All-nil (IsWithin whole),
      All-nil (IsPlacementWithin whole),
    )

-- a model is placed
pub kept-place : (whole same : List ℕ) (earlier : List FileModel) (title : Option Span) (clocks : List Span) (placements more : List PlacementLine) (line : PlacementLine)
    → same ≡ whole → more ≡ placements ++ line ∷ [] → Kept whole earlier title clocks placements → IsPlacementWithin whole line
    → Kept same earlier title clocks more
kept-place whole same earlier title clocks placements more line is grown kept one =
    rw (is, grown) (
      kept.0,
      kept.1,
      kept.2,
      All-append (IsPlacementWithin whole) placements (line ∷ []) kept.3
          (All-cons (IsPlacementWithin whole) line [] one (All-nil (IsPlacementWithin whole))),
    )

-- other names in `.clock`s, or another name
pub kept-with : (whole same : List ℕ) (earlier : List FileModel) (title : Option Span) (clocks : List Span) (placements : List PlacementLine)
    (later : Option Span) (more : List Span) → same ≡ whole → Kept whole earlier title clocks placements
    → IfSome later (IsWithin whole) → All (IsWithin whole) more → Kept same earlier later more placements
kept-with whole same earlier title clocks placements later more is kept one all = rw is (kept.0, one, all, kept.3)

-- what is known, by what a reader has
abbrev pub known_at : List ℕ → List FileModel → List (List ℕ) → Option Span → Known → List Span → List PlacementLine → FileKnown
known_at whole earlier titles title own clocks placements = record {
  earlier = map (part_in whole) earlier;
  titles = titles;
  title = option_map (word_of whole) title;
  own = own;
  clocks = map (word_of whole) clocks;
  placings = map (placing_in whole) placements;
}

pub name-is : (earlier : List FileModel) (titles more : List (List ℕ)) (title : Option Span) (own named : Known) (clocks : List Span) (placements : List PlacementLine) (word : Span) (words : List PlacedToken)
    → named ≡ known_by_command own commands.Model (word_of own.named.whole word ∷ words)
    → more ≡ titles ++ (word_of own.named.whole word).text ∷ []
    → known_at named.named.whole earlier more (Some word) named clocks placements
    ≡ titled_by (known_at own.named.whole earlier titles title own clocks placements) (word_of own.named.whole word ∷ words)
name-is earlier titles more title own named clocks placements word words is grown = rw (is, grown) refl

pub say-is : (earlier : List FileModel) (titles : List (List ℕ)) (title : Option Span) (own said : Known) (clocks more : List Span) (placements : List PlacementLine) (command : Command) (words : List PlacedToken)
    → said ≡ known_by_command own command words → said.named.whole ≡ own.named.whole
    → map (word_of own.named.whole) more ≡ map (word_of own.named.whole) clocks ++ clocks_by command words
    → known_at said.named.whole earlier titles title said more placements
    ≡ known_own (known_at own.named.whole earlier titles title own clocks placements) command words
say-is earlier titles title own said clocks more placements command words is same added =
    ap (λ w. known_at w earlier titles title said more placements) same
    ∙ ap (λ (list : List PlacedToken). record (known_at own.named.whole earlier titles title said more placements) { clocks = list }) added
    ∙ ap (λ (known : Known). record (known_at own.named.whole earlier titles title known clocks placements) { clocks = map (word_of own.named.whole) clocks ++ clocks_by command words }) is

-- a line by its first word and the others
pub head-map : (f : Span → PlacedToken) (words : List Span) (other : Span) → 1 ≤ length words
    → map f words ≡ f (slice_index_or words 0 other) ∷ map f (drop 1 words)
head-map f [] other some = absurd (omega (arith, some))
head-map f (word ∷ words) other some = refl

take-all : (words : List Span) → take (length words) words ≡ words
take-all [] = refl
take-all (word ∷ words) = ap (λ rest. word ∷ rest) (take-all words)

pub rest-is : (words : List Span) → 1 ≤ length words → take (length words - 1) (drop 1 words) ≡ drop 1 words
rest-is [] some = absurd (omega (arith, some))
rest-is (word ∷ words) some =
    let size : length (word ∷ words) - 1 ≡ length words = omega arith in
    ap (λ n. take n words) size ∙ take-all words

pub spans-map : (f : Span → PlacedToken) (command : Command) (words rest : List Span) (head : PlacedToken) → map f words ≡ head ∷ map f rest
    → map f (spans_of command words rest) ≡ words_of command head (map f rest)
spans-map f commands.Row words rest head is = is
spans-map f commands.Model words rest head is = refl
spans-map f commands.Inputs words rest head is = refl
spans-map f commands.Outputs words rest head is = refl
spans-map f commands.Names words rest head is = refl
spans-map f commands.Latch words rest head is = refl
spans-map f commands.Clock words rest head is = refl
spans-map f commands.End words rest head is = refl
spans-map f commands.Unknown words rest head is = refl

pub spans-within : (whole : List ℕ) (command : Command) (words rest : List Span) → All (IsWithin whole) words → All (IsWithin whole) rest
    → All (IsWithin whole) (spans_of command words rest)
spans-within whole commands.Row words rest all some = all
spans-within whole commands.Model words rest all some = some
spans-within whole commands.Inputs words rest all some = some
spans-within whole commands.Outputs words rest all some = some
spans-within whole commands.Names words rest all some = some
spans-within whole commands.Latch words rest all some = some
spans-within whole commands.Clock words rest all some = some
spans-within whole commands.End words rest all some = some
spans-within whole commands.Unknown words rest all some = some

pub tail-within : (whole : List ℕ) (words : List Span) → All (IsWithin whole) words → All (IsWithin whole) (drop 1 words)
tail-within whole [] all = All-nil (IsWithin whole)
tail-within whole (word ∷ words) all = All-tail (IsWithin whole) word words all

pub head-within : (whole : List ℕ) (words : List Span) (other : Span) → 1 ≤ length words → All (IsWithin whole) words
    → IsWithin whole (slice_index_or words 0 other)
head-within whole [] other some all = absurd (omega (arith, some))
head-within whole (word ∷ words) other some all = All-head (IsWithin whole) word words all

-- a model begins
pub begun-none : (file : FileKnown) (words : List PlacedToken) → file.title ≡ None → titled_by file words ≡ known_begun file words
begun-none file words is = sym (ap (known_begun_as file words) is)

pub begun-some : (file : FileKnown) (words : List PlacedToken) (title : PlacedToken) → file.title ≡ Some title
    → titled_by (known_over file) words ≡ known_begun file words
begun-some file words title is = sym (ap (known_begun_as file words) is)

-- a `.model` without a fault has a new name
not-repeated : (bad new : Bool) (place : Place) → option_map (λ rule. rule place) (begin_rule bad (not new)) ≡ None → new ≡ true
not-repeated true new place is = cc
not-repeated false true place is = refl
not-repeated false false place is = cc

pub begin-new : (file : FileKnown) (head word : PlacedToken) (words : List PlacedToken) → begin_fault_in file head (word ∷ words) ≡ None
    → is_new file.titles word.text ≡ true
begin-new file head word words none =
    not-repeated (is_bad_model (flags_in file.own) (word ∷ words)) (is_new file.titles word.text) head.place none
