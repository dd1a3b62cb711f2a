-- What is known of a text of several models follows what its lines have said.
use Rattle.std.proofs.Common.{◌≡◌, ℕ, suc, List, [], ◌∷◌, ◌++◌, length, map, Option, None, Some, refl, sym, ap, ◌∙◌, subst}
use Rattle.std.proofs.lemmas.List.{append-nil, map-append}
use Rattle.std.specs.List.{flat_map}
use Rattle.std.specs.Option.{option_map}
use Rattle.psl_base.specs.Tokens.{PlacedToken}
use Rattle.blif_model.specs.declared.command.Command.TheVariants as commands
use Rattle.blif_model.specs.declared.file.FileCommand.{FileCommand}
use Rattle.blif_model.specs.declared.file.FileCommand.TheVariants.{Begin, Place, Own}
use Rattle.blif_model.specs.declared.flags.Flags.{Flags}
use Rattle.blif_model.specs.FileKnown.{FileKnown, OwnLines, file_command_fault_in, file_fault_in, file_known_after, file_known_by, known_begun, known_begun_as, no_file_known, numbered_part, part_known, parts_known}
use Rattle.blif_model.specs.Files.{FileStanding, Part, Placing, begin_rule, begun_as, begun_by, clocks_by, file_after_words, file_by_command, file_command_of, file_fault_by, file_words_fault, first_of, is_repeated, no_file, part_of, parts_of, title_text, titles_of}
use Rattle.blif_model.specs.Known.{Known, closed, known_by_command, nothing_known, text_of}
use Rattle.blif_model.specs.Models.{Model, Statement, names_of}
use Rattle.blif_model.specs.Names.{Named, named_by, nothing_named}
use Rattle.blif_model.specs.Numbered.{items_of, numbered}
use Rattle.blif_model.specs.Rules.{flags_of, is_bad_model}
use Rattle.blif_model.specs.Standing.{Standing, at_first, standing_by_command, words_of}
use Rattle.blif_model.proofs.Following.{Follows, command-fault-is, command-step, flags-are, follows-first, model-step}
use Rattle.blif_model.proofs.Knowing.{closed-are}
use Rattle.blif_model.proofs.Naming.{naming-more, naming-names}
use Rattle.blif_model.proofs.Stepping.{mentions-whole}
use Rattle.blif_model.proofs.Titles.{flat-push}

-- the names and the lines of what is known
text-is : (whole : List ℕ) (standing : Standing) (known : Known) → Follows whole standing known → text_of known ≡ numbered standing.model
text-is whole standing known follows =
    let names : known.named.names ≡ names_of standing.model.mentions =
    ap (λ n. n.names) follows.said.named_are ∙ sym (naming-names whole standing.model.mentions) in
    let items : closed known.lines known.table ≡ items_of (names_of standing.model.mentions) standing.model.statements =
    closed-are known.named.names standing.in_table standing.model.statements known.lines known.table follows.said.lines_are
    ∙ ap (λ n. items_of n standing.model.statements) names in
    rw (items, names) refl

pub record FileFollows (whole : List ℕ) (file : FileStanding) (known : FileKnown) : Type 0 where
  pub own : Follows whole file.own known.own
  pub earlier : known.earlier ≡ map (numbered_part whole) file.earlier
  pub titles : known.titles ≡ titles_of file
  pub title : known.title ≡ file.title
  pub clocks : known.clocks ≡ file.clocks
  pub placings : known.placings ≡ file.placings

pub file-follows-first : (whole : List ℕ) → FileFollows whole no_file (no_file_known whole)
file-follows-first whole =
    record { own = follows-first whole; earlier = refl; titles = refl; title = refl; clocks = refl; placings = refl }

part-is : (whole : List ℕ) (file : FileStanding) (known : FileKnown) → FileFollows whole file known
    → part_known known ≡ numbered_part whole (part_of file)
part-is whole file known follows =
    let text = text-is whole file.own known.own follows.own in
    let driven : known.own.named.driven ≡ (named_by whole file.own.model.mentions).driven =
    ap (λ (named : Named). named.driven) follows.own.said.named_are in
    let firsts : known.own.named.firsts ≡ (named_by whole file.own.model.mentions).firsts =
    ap (λ (named : Named). named.firsts) follows.own.said.named_are in
    rw (text, driven, firsts, follows.title, follows.clocks, follows.placings) refl

pub parts-are : (whole : List ℕ) (file : FileStanding) (known : FileKnown) → FileFollows whole file known
    → parts_known known ≡ map (numbered_part whole) (parts_of file)
parts-are whole file known follows =
    ap (λ (earlier : List (Part OwnLines)). earlier ++ part_known known ∷ []) follows.earlier
    ∙ ap (λ (part : Part OwnLines). map (numbered_part whole) file.earlier ++ part ∷ []) (part-is whole file known follows)
    ∙ sym (map-append (numbered_part whole) file.earlier (part_of file ∷ []))

-- the text stays
whole-stays : (whole : List ℕ) (standing : Standing) (known : Known) → Follows whole standing known → known.named.whole ≡ whole
whole-stays whole standing known follows =
    ap (λ (named : Named). named.whole) (follows.said.named_are ∙ naming-more whole [] standing.model.mentions)
    ∙ mentions-whole (nothing_named whole) standing.model.mentions

begun : (whole : List ℕ) (file : FileStanding) (known : FileKnown) (words : List PlacedToken) (title : Option PlacedToken)
    → file.title ≡ title → FileFollows whole file known → FileFollows whole (begun_as file words title) (known_begun_as known words title)
begun whole file known words None is follows = record {
  own = model-step whole file.own known.own words follows.own;
  earlier = follows.earlier;
  titles =
      ap (λ titles. titles ++ title_text (first_of words))
      (follows.titles ∙ ap (λ t. flat_map (λ (p : Part Model). title_text p.title) file.earlier ++ title_text t) is
      ∙ append-nil (flat_map (λ (p : Part Model). title_text p.title) file.earlier));
  title = refl;
  clocks = follows.clocks;
  placings = follows.placings;
}
begun whole file known words (Some title) is follows = record {
  own =
      subst (λ w. Follows whole (standing_by_command at_first commands.Model words) (known_by_command (nothing_known w) commands.Model words))
      (sym (whole-stays whole file.own known.own follows.own)) (model-step whole at_first (nothing_known whole) words (follows-first whole));
  earlier = parts-are whole file known follows;
  titles =
      ap (λ titles. titles ++ title_text (first_of words)) (follows.titles ∙ sym (flat-push file.earlier (part_of file)));
  title = refl;
  clocks = refl;
  placings = refl;
}

begin-step : (whole : List ℕ) (file : FileStanding) (known : FileKnown) (words : List PlacedToken)
    → FileFollows whole file known → FileFollows whole (begun_by file words) (known_begun known words)
begin-step whole file known words follows =
    subst (λ title. FileFollows whole (begun_by file words) (known_begun_as known words title)) (sym follows.title)
    (begun whole file known words file.title refl follows)

-- how many lines were said
items-count : (names : List (List ℕ)) (statements : List Statement) → length (items_of names statements) ≡ length statements
items-count names [] = refl
items-count names (statement ∷ statements) = ap suc (items-count names statements)

said-count : (whole : List ℕ) (standing : Standing) (known : Known) → Follows whole standing known
    → length (closed known.lines known.table) ≡ length standing.model.statements
said-count whole standing known follows =
    ap (λ items. length items)
    (closed-are known.named.names standing.in_table standing.model.statements known.lines known.table follows.said.lines_are)
    ∙ items-count known.named.names standing.model.statements

by-step : (whole : List ℕ) (file : FileStanding) (known : FileKnown) (command : FileCommand) (head : PlacedToken) (words : List PlacedToken)
    → FileFollows whole file known → file_command_fault_in known command head words ≡ None
    → FileFollows whole (file_by_command file command head words) (file_known_by known command head words)
by-step whole file known Begin head words follows faultless = begin-step whole file known words follows
by-step whole file known Place head words follows faultless = record {
  own = command-step whole file.own known.own commands.Clock head [] follows.own faultless;
  earlier = follows.earlier;
  titles = follows.titles;
  title = follows.title;
  clocks = follows.clocks;
  placings =
      ap (λ (placings : List Placing). placings ++ record { head = head; words = words; before = length (closed known.own.lines known.own.table) } ∷ [])
      follows.placings
      ∙ ap (λ n. file.placings ++ record { head = head; words = words; before = n } ∷ []) (said-count whole file.own known.own follows.own);
}
by-step whole file known (Own command) head words follows faultless = record {
  own = command-step whole file.own known.own command head (words_of command head words) follows.own faultless;
  earlier = follows.earlier;
  titles = follows.titles;
  title = follows.title;
  clocks = ap (λ (clocks : List PlacedToken). clocks ++ clocks_by command (words_of command head words)) follows.clocks;
  placings = follows.placings;
}

pub file-words-step : (whole : List ℕ) (file : FileStanding) (known : FileKnown) (words : List PlacedToken)
    → FileFollows whole file known → file_fault_in known words ≡ None
    → FileFollows whole (file_after_words file words) (file_known_after known words)
file-words-step whole file known [] follows faultless = follows
file-words-step whole file known (head ∷ words) follows faultless =
    by-step whole file known (file_command_of head.text) head words follows faultless

-- the faults of a line
by-fault : (whole : List ℕ) (file : FileStanding) (known : FileKnown) (command : FileCommand) (head : PlacedToken) (words : List PlacedToken)
    → FileFollows whole file known → file_command_fault_in known command head words ≡ file_fault_by file command head words
by-fault whole file known Begin head words follows =
    ap (λ (flags : Flags). option_map (λ rule. rule head.place) (begin_rule (is_bad_model flags words) (is_repeated known.titles words)))
    (flags-are whole file.own known.own follows.own)
    ∙ ap (λ titles. option_map (λ rule. rule head.place) (begin_rule (is_bad_model (flags_of file.own) words) (is_repeated titles words)))
    follows.titles
by-fault whole file known Place head words follows = command-fault-is whole file.own known.own commands.Clock head [] follows.own
by-fault whole file known (Own command) head words follows =
    command-fault-is whole file.own known.own command head (words_of command head words) follows.own

pub file-fault-is : (whole : List ℕ) (file : FileStanding) (known : FileKnown) (words : List PlacedToken)
    → FileFollows whole file known → file_fault_in known words ≡ file_words_fault file words
file-fault-is whole file known [] follows = refl
file-fault-is whole file known (head ∷ words) follows = by-fault whole file known (file_command_of head.text) head words follows
