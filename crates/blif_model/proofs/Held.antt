-- What holds of each model of a text whose lines have no fault: its lines mention just what it mentions, no name is driven
-- twice, rows have a mark for each input, and all words are words of the text.
use Rattle.std.proofs.Common.{◌≡◌, ℕ, ◌+◌, ◌≤◌, Bool, true, false, ◌||◌, cond, List, [], ◌∷◌, ◌++◌, length, map, Option, None, Some, refl, sym, ap, subst, arith, length-append}
use Rattle.std.specs.Prelude.{Ok}
use Rattle.std.proofs.lemmas.List.{append-nil, append_assoc, length-map}
use Rattle.std.proofs.lemmas.List.Sums.{fold-append}
use Rattle.std.specs.Option.{option_map}
use Rattle.psl_base.specs.Tokens.{PlacedToken}
use Rattle.netlist.specs.declared.latch.Init.{Init}
use Rattle.netlist.specs.declared.latch.Init.TheVariants as inits
use Rattle.blif_model.specs.declared.command.Command.{Command}
use Rattle.blif_model.specs.declared.command.Command.TheVariants as commands
use Rattle.blif_model.specs.declared.fault.BlifFault.TheVariants.{MissingEnd}
use Rattle.blif_model.specs.declared.file.FileCommand.{FileCommand}
use Rattle.blif_model.specs.declared.file.FileCommand.TheVariants.{Begin, Place, Own}
use Rattle.blif_model.specs.Files.{FileStanding, Part, Placing, begun_as, clocks_by, file_after, file_after_words, file_by, file_by_command, file_command_of, file_fault_by, file_line_fault, file_words_fault, first_file_fault, models_of, no_file, part_of, parts_of}
use Rattle.blif_model.specs.Lines.{Line, lines}
use Rattle.blif_model.specs.Models.{Model, driven, used}
use Rattle.blif_model.specs.Rules.{head_rule, tail_fault}
use Rattle.blif_model.specs.Shapes.{Clocking, init_of, is_edge, is_level, latch_of, with_init}
use Rattle.blif_model.specs.Standing.{Standing, at_first, mentions_of_latch, mentions_of_names, said_by, standing_by_command, words_of}
use Rattle.blif_model.proofs.Holding.{Holds, holds_said, no_names_fault, or_none, unless_ok, words_within}
use Rattle.blif_model.proofs.Texts.{AreLines, AreWords, AreWords-append, lines_size, size_of, text-lined}

-- a command mentions no more names than it has words
gate-few : (words : List PlacedToken) → length (mentions_of_names words) ≤ length words
gate-few [] = omega arith
gate-few (word ∷ []) = omega arith
gate-few (word ∷ other ∷ words) = omega (arith, gate-few (other ∷ words))

parts-few : (input output : PlacedToken) (clocking : Option Clocking) (init : Option Init)
    → length (mentions_of_latch (with_init input output clocking init)) ≤ 2
parts-few input output clocking None = omega arith
parts-few input output clocking (Some init) = omega arith

timed-few : (timed : Bool) (input output : PlacedToken) (clocking : Option Clocking) (init : Option Init)
    → length (mentions_of_latch (cond timed (with_init input output clocking init) None)) ≤ 2
timed-few true input output clocking init = parts-few input output clocking init
timed-few false input output clocking init = omega arith

latch-few : (words : List PlacedToken) → length (mentions_of_latch (latch_of words)) ≤ length words
latch-few [] = omega arith
latch-few (a ∷ []) = omega arith
latch-few (a ∷ b ∷ []) = omega arith
latch-few (a ∷ b ∷ c ∷ []) = omega (arith, parts-few a b None (init_of c.text))
latch-few (a ∷ b ∷ c ∷ d ∷ []) =
    omega (arith, timed-few (is_edge c.text || is_level c.text) a b (Some (record { kind = c; control = d })) (Some inits.Free))
latch-few (a ∷ b ∷ c ∷ d ∷ e ∷ []) =
    omega (arith, timed-few (is_edge c.text || is_level c.text) a b (Some (record { kind = c; control = d })) (init_of e.text))
latch-few (a ∷ b ∷ c ∷ d ∷ e ∷ f ∷ words) = omega arith

said-few : (model : Model) (command : Command) (words : List PlacedToken)
    → length (said_by model command words).mentions ≤ length model.mentions + length words
said-few model commands.Model words = omega (arith, length-append model.mentions [])
said-few model commands.Inputs words = omega (arith, length-append model.mentions (map driven words), length-map words driven)
said-few model commands.Outputs words = omega (arith, length-append model.mentions (map used words), length-map words used)
said-few model commands.Names words = omega (arith, length-append model.mentions (mentions_of_names words), gate-few words)
said-few model commands.Latch words =
    omega (arith, length-append model.mentions (mentions_of_latch (latch_of words)), latch-few words)
said-few model commands.Clock words = omega (arith, length-append model.mentions [])
said-few model commands.End words = omega (arith, length-append model.mentions [])
said-few model commands.Unknown words = omega (arith, length-append model.mentions [])
said-few model commands.Row words = omega arith

-- how many words stand behind the `.subckt`s
abbrev pub words_placed : List Placing → ℕ
words_placed [] = 0
words_placed (placing ∷ placings) = length placing.words + words_placed placings

words-push : (placings : List Placing) (placing : Placing)
    → words_placed (placings ++ placing ∷ []) ≡ words_placed placings + length placing.words
words-push [] placing = omega arith
words-push (first ∷ placings) placing = omega (arith, words-push placings placing)

module _ (size : ℕ) where
  -- the words of what is placed
  abbrev pub ArePlaced : List Placing → Type 0
  ArePlaced [] = Unit {0}
  ArePlaced (placing ∷ placings) = AreWords size (placing.head ∷ placing.words) × ArePlaced placings

  placed-push : (placings : List Placing) (placing : Placing) → ArePlaced placings → AreWords size (placing.head ∷ placing.words)
      → ArePlaced (placings ++ placing ∷ [])
  placed-push [] placing all one = (one, tt)
  placed-push (first ∷ placings) placing all one = (all.0, placed-push placings placing all.1 one)

  words-few : (words : List PlacedToken) → AreWords size words → length words ≤ size_of words
  words-few [] all = omega arith
  words-few (word ∷ words) all =
      let some = all.0.some in
      omega (arith, some, words-few words all.1)

  -- what holds of a model whose lines have so many bytes
  pub record PartHolds (part : Part Model) (most : ℕ) : Type 0 where
    pub own : Holds size part.own most
    pub clocks : AreWords size part.clocks
    pub placed : ArePlaced part.placings
    pub mentioned : length part.own.mentions ≤ most
    pub many : words_placed part.placings ≤ most

  abbrev pub PartsHold : List (Part Model) → ℕ → Type 0
  PartsHold [] most = Unit {0}
  PartsHold (part ∷ parts) most = PartHolds part most × PartsHold parts most

  own-more : (model : Model) (before most : ℕ) → before ≤ most → Holds size model before → Holds size model most
  own-more model before most room holds = record {
    mentions = holds.mentions;
    faultless = holds.faultless;
    named = holds.named;
    wide = holds.wide;
    few = omega (arith, holds.few);
  }

  part-more : (part : Part Model) (before most : ℕ) → before ≤ most → PartHolds part before → PartHolds part most
  part-more part before most room holds =
      record { own = own-more part.own before most room holds.own; clocks = holds.clocks; placed = holds.placed; mentioned = omega (arith, holds.mentioned); many = omega (arith, holds.many) }

  parts-more : (parts : List (Part Model)) (before most : ℕ) → before ≤ most → PartsHold parts before → PartsHold parts most
  parts-more [] before most room all = tt
  parts-more (part ∷ parts) before most room all = (part-more part before most room all.0, parts-more parts before most room all.1)

  parts-push : (parts : List (Part Model)) (part : Part Model) (most : ℕ) → PartsHold parts most → PartHolds part most
      → PartsHold (parts ++ part ∷ []) most
  parts-push [] part most all one = (one, tt)
  parts-push (first ∷ parts) part most all one = (all.0, parts-push parts part most all.1 one)

  -- and of all models, that one too which is read
  pub record FileHolds (file : FileStanding) (most : ℕ) : Type 0 where
    pub few : length file.earlier ≤ most
    pub earlier : PartsHold file.earlier most
    pub part : PartHolds (part_of file) most

  held-first : FileHolds no_file 0
  held-first = record {
    few = omega arith;
    earlier = tt;
    part = record {
      own = record { mentions = refl; faultless = refl; named = tt; wide = tt; few = omega arith };
      clocks = tt;
      placed = tt;
      mentioned = omega arith;
      many = omega arith;
    };
  }

  -- a model begins
  begun-own : (standing : Standing) (words : List PlacedToken) (before most : ℕ) → AreWords size words → before + 1 ≤ most
      → before + size_of words ≤ most → Holds size standing.model before → Holds size (standing_by_command standing commands.Model words).model most
  begun-own standing words before most all room rows holds = holds_said size standing commands.Model words before most holds all refl room rows

  begun : (file : FileStanding) (words : List PlacedToken) (title : Option PlacedToken) (before most : ℕ) → AreWords size words
      → before + 1 ≤ most → before + size_of words ≤ most → FileHolds file before → FileHolds (begun_as file words title) most
  begun file words None before most all room rows holds = record {
    few = omega (arith, room, holds.few);
    earlier = parts-more file.earlier before most (omega (arith, room)) holds.earlier;
    part = record {
      own = begun-own file.own words before most all room rows holds.part.own;
      clocks = holds.part.clocks;
      placed = holds.part.placed;
      mentioned = omega (arith, rows, holds.part.mentioned, said-few file.own.model commands.Model words, words-few words all);
      many = omega (arith, room, holds.part.many);
    };
  }
  begun file words (Some title) before most all room rows holds = record {
    few = omega (arith, room, holds.few, length-append file.earlier (part_of file ∷ []));
    earlier =
        parts-more (parts_of file) before most (omega (arith, room))
        (parts-push file.earlier (part_of file) before holds.earlier holds.part);
    part = record {
      own =
          begun-own at_first words before most all room rows
          (record { mentions = refl; faultless = refl; named = tt; wide = tt; few = omega arith });
      clocks = tt;
      placed = tt;
      mentioned = omega (arith, rows, said-few at_first.model commands.Model words, words-few words all);
      many = omega arith;
    };
  }

  clocks-held : (command : Command) (words : List PlacedToken) → AreWords size words → AreWords size (clocks_by command words)
  clocks-held commands.Model words all = tt
  clocks-held commands.Inputs words all = tt
  clocks-held commands.Outputs words all = tt
  clocks-held commands.Names words all = tt
  clocks-held commands.Latch words all = tt
  clocks-held commands.Clock words all = all
  clocks-held commands.End words all = tt
  clocks-held commands.Unknown words all = tt
  clocks-held commands.Row words all = tt

  by-step : (file : FileStanding) (command : FileCommand) (head : PlacedToken) (words : List PlacedToken) (before most : ℕ)
      → AreWords size (head ∷ words) → file_fault_by file command head words ≡ None → before + size_of (head ∷ words) ≤ most
      → FileHolds file before → FileHolds (file_by_command file command head words) most
  by-step file Begin head words before most all none room holds =
      let some = all.0.some in
      begun file words file.title before most all.1 (omega (arith, some, room)) (omega (arith, room)) holds
  by-step file Place head words before most all none room holds =
      let some = all.0.some in
      record {
        few = omega (arith, some, room, holds.few);
        earlier = parts-more file.earlier before most (omega (arith, some, room)) holds.earlier;
        part = record {
          own = holds_said size file.own commands.Clock [] before most holds.part.own tt refl (omega (arith, some, room)) (omega (arith, some, room));
          clocks = holds.part.clocks;
          placed =
              placed-push file.placings (record { head = head; words = words; before = length file.own.model.statements })
              holds.part.placed all;
          mentioned = omega (arith, some, room, holds.part.mentioned, said-few file.own.model commands.Clock []);
          many =
              omega (
                arith,
                some,
                room,
                holds.part.many,
                words-few words all.1,
                words-push file.placings (record { head = head; words = words; before = length file.own.model.statements }),
              );
        };
      }
  by-step file (Own command) head words before most all none room holds =
      let some = all.0.some in
      let within = words_within size command head words all in
      let said = words_of command head words in
      let parts = or_none (option_map (λ fault. fault head.place) (head_rule file.own command said)) (tail_fault file.own command said) none in
      record {
        few = omega (arith, some, room, holds.few);
        earlier = parts-more file.earlier before most (omega (arith, some, room)) holds.earlier;
        part = record {
          own =
              holds_said size file.own command said before most holds.part.own within.0 (no_names_fault file.own command said parts.1)
              (omega (arith, some, room)) (omega (arith, within.1, room));
          clocks = AreWords-append size file.clocks (clocks_by command said) holds.part.clocks (clocks-held command said within.0);
          placed = holds.part.placed;
          mentioned =
              omega (arith, within.1, room, holds.part.mentioned, said-few file.own.model command said, words-few said within.0);
          many = omega (arith, some, room, holds.part.many);
        };
      }

  words-step : (file : FileStanding) (words : List PlacedToken) (before : ℕ) → AreWords size words → file_words_fault file words ≡ None
      → FileHolds file before → FileHolds (file_after_words file words) (before + size_of words)
  words-step file [] before all none holds =
      record { few = omega (arith, holds.few); earlier = parts-more file.earlier before (before + 0) (omega arith) holds.earlier; part = part-more (part_of file) before (before + 0) (omega arith) holds.part }
  words-step file (head ∷ words) before all none holds =
      by-step file (file_command_of head.text) head words before (before + size_of (head ∷ words)) all none (omega arith) holds

  held-by : (before rest : List Line) (most : ℕ) → AreLines size rest → FileHolds (file_by before) most → first_file_fault before rest ≡ None
      → FileHolds (file_by (before ++ rest)) (most + lines_size rest)
  held-by before [] most all holds none =
      subst (λ (list : List Line). FileHolds (file_by list) (most + 0)) (sym (append-nil before))
      (record {
        few = omega (arith, holds.few);
        earlier = parts-more (file_by before).earlier most (most + 0) (omega arith) holds.earlier;
        part = part-more (part_of (file_by before)) most (most + 0) (omega arith) holds.part;
      })
  held-by before (line ∷ rest) most all holds none =
      let parts = or_none (file_line_fault (file_by before) line) (first_file_fault (before ++ line ∷ []) rest) none in
      let here = or_none (file_words_fault (file_by before) line.words) (option_map MissingEnd line.stray) parts.0 in
      let next : FileHolds (file_by (before ++ line ∷ [])) (most + size_of line.words) =
      subst (λ (file : FileStanding). FileHolds file (most + size_of line.words)) (sym (fold-append file_after no_file before (line ∷ [])))
      (words-step (file_by before) line.words most all.0 here.0 holds) in
      let later = held-by (before ++ line ∷ []) rest (most + size_of line.words) all.1 next parts.1 in
      let joined = subst (λ (list : List Line). FileHolds (file_by list) (most + size_of line.words + lines_size rest)) (append_assoc before (line ∷ []) rest) later in
      let room : most + size_of line.words + lines_size rest ≤ most + lines_size (line ∷ rest) = omega arith in
      let file = file_by (before ++ line ∷ rest) in
      record {
        few = omega (arith, room, joined.few);
        earlier = parts-more file.earlier (most + size_of line.words + lines_size rest) (most + lines_size (line ∷ rest)) room joined.earlier;
        part = part-more (part_of file) (most + size_of line.words + lines_size rest) (most + lines_size (line ∷ rest)) room joined.part;
      }

-- the models of a text
text-holds : (text : List ℕ) → first_file_fault [] (lines text) ≡ None → FileHolds (length text) (file_by (lines text)) (length text)
text-holds text none =
    let file = file_by (lines text) in
    let lined = text-lined text in
    let all = held-by (length text) [] (lines text) 0 lined.words (held-first (length text)) none in
    let most = 0 + lines_size (lines text) in
    let room : most ≤ length text = omega (arith, lined.few) in
    record {
      few = omega (arith, room, all.few);
      earlier = parts-more (length text) file.earlier most (length text) room all.earlier;
      part = part-more (length text) (part_of file) most (length text) room all.part;
    }

pub parts-hold : (text : List ℕ) (parts : List (Part Model)) → models_of text ≡ Ok parts → PartsHold (length text) parts (length text)
parts-hold text parts is =
    let file = file_by (lines text) in
    let sound = unless_ok (first_file_fault [] (lines text)) (parts_of file) parts is in
    let holds = text-holds text sound.0 in
    subst (λ (list : List (Part Model)). PartsHold (length text) list (length text)) sound.1
    (parts-push (length text) file.earlier (part_of file) (length text) holds.earlier holds.part)

-- there are no more than bytes, and one
pub models-few : (text : List ℕ) (parts : List (Part Model)) → models_of text ≡ Ok parts → length parts ≤ length text + 1
models-few text parts is =
    let file = file_by (lines text) in
    let sound = unless_ok (first_file_fault [] (lines text)) (parts_of file) parts is in
    let holds = text-holds text sound.0 in
    omega (arith, holds.few, length-append file.earlier (part_of file ∷ []), ap (length {A = Part Model}) sound.1)
