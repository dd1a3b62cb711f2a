-- What holds of what lines without a fault say.
use Rattle.std.proofs.Common.{◌≡◌, ℕ, ◌+◌, ◌≤◌, Bool, true, false, cond, ◌||◌, List, [], ◌∷◌, ◌++◌, map, Option, None, Some, refl, sym, ap, ◌∙◌, subst, arith}
use Rattle.std.proofs.lemmas.List.{append-nil, append_assoc}
use Rattle.std.specs.Option.{option_map, option_or}
use Rattle.std.specs.Prelude.{Ok}
use Rattle.psl_base.specs.Tokens.{PlacedToken}
use Rattle.netlist.specs.declared.latch.Init.{Init}
use Rattle.netlist.specs.declared.latch.Init.TheVariants as inits
use Rattle.blif_model.specs.declared.command.Command.{Command}
use Rattle.blif_model.specs.declared.command.Command.TheVariants as commands
use Rattle.blif_model.specs.declared.fault.BlifFault.{BlifFault}
use Rattle.blif_model.specs.Files.{unless}
use Rattle.blif_model.specs.Models.{Mention, Model, driven, used}
use Rattle.blif_model.specs.Rules.{name_rule, names_fault, tail_fault, latch_fault}
use Rattle.blif_model.specs.Shapes.{Clocking, LatchParts, with_init, latch_of, init_of, is_edge, is_level}
use Rattle.blif_model.specs.Standing.{Standing, standing_by_command, words_of, mentions_of, mentions_of_names, mentions_of_latch, statements_of, latch_by, last_of}
use Rattle.blif_model.proofs.Texts.{IsWord, AreWords, size_of}
use Rattle.blif_model.proofs.Mentioned.{all_mentions, all_mentions-append, AllWide, AllWide-append, cost_of, cost-append, last_row, names_mentions, table_wide}

-- of two faults there is none
pub or_none : {A : Type 0} (one other : Option A) → option_or one other ≡ None → (one ≡ None) × (other ≡ None)
or_none None other is = (refl, is)
or_none (Some fault) other is = cc

pub map_none : {A B : Type 0} (f : A → B) (one : Option A) → option_map f one ≡ None → one ≡ None
map_none f None is = refl
map_none f (Some value) is = cc

-- names without a fault behind others
names_fault-append : (before mentions more : List Mention) → names_fault before mentions ≡ None → names_fault (before ++ mentions) more ≡ None
    → names_fault before (mentions ++ more) ≡ None
names_fault-append before [] more none later = subst (λ (all : List Mention). names_fault all more ≡ None) (append-nil before) later
names_fault-append before (mention ∷ mentions) more none later =
    let parts = or_none (option_map (λ fault. fault mention.word.place) (name_rule before mention)) (names_fault (before ++ mention ∷ []) mentions) none in
    let rest = names_fault-append (before ++ mention ∷ []) mentions more parts.1
    (subst (λ (all : List Mention). names_fault all more ≡ None) (sym (append_assoc before (mention ∷ []) mentions)) later) in
    ap (λ (o : Option BlifFault). option_or o (names_fault (before ++ mention ∷ []) (mentions ++ more))) parts.0 ∙ rest

latch_mentions : (latch : Option LatchParts) → all_mentions (latch_by latch) ≡ mentions_of_latch latch
latch_mentions None = refl
latch_mentions (Some latch) = refl

latch_wide : (latch : Option LatchParts) → AllWide (latch_by latch) × (cost_of (latch_by latch) ≤ 1)
latch_wide None = (tt, omega arith)
latch_wide (Some latch) = ((tt, tt), omega arith)

-- what a command says
said_mentions : (command : Command) (words : List PlacedToken) → all_mentions (statements_of command words) ≡ mentions_of command words
said_mentions commands.Model words = refl
said_mentions commands.Inputs words = append-nil (map driven words)
said_mentions commands.Outputs words = append-nil (map used words)
said_mentions commands.Names words = names_mentions words
said_mentions commands.Latch words = latch_mentions (latch_of words)
said_mentions commands.Clock words = refl
said_mentions commands.End words = refl
said_mentions commands.Unknown words = refl
said_mentions commands.Row words = refl

said_wide : (command : Command) (words : List PlacedToken) → AllWide (statements_of command words) × (cost_of (statements_of command words) ≤ 1)
said_wide commands.Model words = (tt, omega arith)
said_wide commands.Inputs words = ((tt, tt), omega arith)
said_wide commands.Outputs words = ((tt, tt), omega arith)
said_wide commands.Names words = table_wide words (last_of words)
said_wide commands.Latch words = latch_wide (latch_of words)
said_wide commands.Clock words = (tt, omega arith)
said_wide commands.End words = (tt, omega arith)
said_wide commands.Unknown words = (tt, omega arith)
said_wide commands.Row words = (tt, omega arith)

-- a command more
abbrev with_command : Model → Command → List PlacedToken → Model
with_command model command words =
    record { mentions = model.mentions ++ mentions_of command words; statements = model.statements ++ statements_of command words }

-- a command without a fault mentions no name at fault
pub no_names_fault : (standing : Standing) (command : Command) (words : List PlacedToken) → tail_fault standing command words ≡ None
    → names_fault standing.model.mentions (mentions_of command words) ≡ None
no_names_fault standing commands.Model words none = refl
no_names_fault standing commands.Inputs words none = none
no_names_fault standing commands.Outputs words none = none
no_names_fault standing commands.Names words none = none
no_names_fault standing commands.Latch words none =
    (or_none (names_fault standing.model.mentions (mentions_of commands.Latch words)) (latch_fault standing.clocking (latch_of words)) none).0
no_names_fault standing commands.Clock words none = refl
no_names_fault standing commands.End words none = refl
no_names_fault standing commands.Unknown words none = refl
no_names_fault standing commands.Row words none = refl

-- there is a value in place of a fault where there is none
pub unless_ok : {A B : Type 0} (fault : Option B) (value said : A) → unless fault value ≡ Ok said → (fault ≡ None) × (value ≡ said)
unless_ok None value said is = (refl, let same : value ≡ said = cc in same)
unless_ok (Some fault) value said is = cc

module _ (size : ℕ) where
  -- the words of mentions have bytes, and none of white space
  abbrev pub AreNamed : List Mention → Type 0
  AreNamed [] = Unit {0}
  AreNamed (mention ∷ mentions) = IsWord size mention.word × AreNamed mentions

  AreNamed-append : (mentions more : List Mention) → AreNamed mentions → AreNamed more → AreNamed (mentions ++ more)
  AreNamed-append [] more all rest = rest
  AreNamed-append (mention ∷ mentions) more all rest = (all.0, AreNamed-append mentions more all.1 rest)

  -- what holds of what was said of a model in words of so many bytes
  pub record Holds (model : Model) (most : ℕ) : Type 0 where
    pub mentions : model.mentions ≡ all_mentions model.statements
    pub faultless : names_fault [] model.mentions ≡ None
    pub named : AreNamed model.mentions
    pub wide : AllWide model.statements
    pub few : cost_of model.statements ≤ most

  -- the words that a command mentions
  named_words : (drives : PlacedToken → Mention) → ((word : PlacedToken) → (drives word).word ≡ word) → (words : List PlacedToken) → AreWords size words → AreNamed (map drives words)
  named_words drives same [] all = tt
  named_words drives same (word ∷ words) all = (subst (IsWord size) (sym (same word)) all.0, named_words drives same words all.1)

  named_gate : (words : List PlacedToken) → AreWords size words → AreNamed (mentions_of_names words)
  named_gate [] all = tt
  named_gate (word ∷ []) all = (all.0, tt)
  named_gate (word ∷ other ∷ words) all = (all.0, named_gate (other ∷ words) all.1)

  named_parts : (input output : PlacedToken) (clocking : Option Clocking) (init : Option Init) → IsWord size input → IsWord size output
      → AreNamed (mentions_of_latch (with_init input output clocking init))
  named_parts input output clocking None reads drives = tt
  named_parts input output clocking (Some init) reads drives = (reads, (drives, tt))

  named_timed : (timed : Bool) (input output : PlacedToken) (clocking : Option Clocking) (init : Option Init) → IsWord size input → IsWord size output
      → AreNamed (mentions_of_latch (cond timed (with_init input output clocking init) None))
  named_timed true input output clocking init reads drives = named_parts input output clocking init reads drives
  named_timed false input output clocking init reads drives = tt

  named_latch : (words : List PlacedToken) → AreWords size words → AreNamed (mentions_of_latch (latch_of words))
  named_latch [] all = tt
  named_latch (a ∷ []) all = tt
  named_latch (a ∷ b ∷ []) all = (all.0, (all.1.0, tt))
  named_latch (a ∷ b ∷ c ∷ []) all = named_parts a b None (init_of c.text) all.0 all.1.0
  named_latch (a ∷ b ∷ c ∷ d ∷ []) all = named_timed (is_edge c.text || is_level c.text) a b (Some (record { kind = c; control = d })) (Some inits.Free) all.0 all.1.0
  named_latch (a ∷ b ∷ c ∷ d ∷ e ∷ []) all = named_timed (is_edge c.text || is_level c.text) a b (Some (record { kind = c; control = d })) (init_of e.text) all.0 all.1.0
  named_latch (a ∷ b ∷ c ∷ d ∷ e ∷ f ∷ words) all = tt

  named_command : (command : Command) (words : List PlacedToken) → AreWords size words → AreNamed (mentions_of command words)
  named_command commands.Model words all = tt
  named_command commands.Inputs words all = named_words driven (λ word. refl) words all
  named_command commands.Outputs words all = named_words used (λ word. refl) words all
  named_command commands.Names words all = named_gate words all
  named_command commands.Latch words all = named_latch words all
  named_command commands.Clock words all = tt
  named_command commands.End words all = tt
  named_command commands.Unknown words all = tt
  named_command commands.Row words all = tt

  holds_command : (model : Model) (command : Command) (words : List PlacedToken) (before most : ℕ) → Holds model before → AreWords size words
      → names_fault model.mentions (mentions_of command words) ≡ None → before + 1 ≤ most → Holds (with_command model command words) most
  holds_command model command words before most holds all none room =
      let said = said_wide command words in
      record {
        mentions =
            ap (λ (list : List Mention). list ++ mentions_of command words) holds.mentions
            ∙ ap (λ (list : List Mention). all_mentions model.statements ++ list) (sym (said_mentions command words))
            ∙ sym (all_mentions-append model.statements (statements_of command words));
        faultless = names_fault-append [] model.mentions (mentions_of command words) holds.faultless none;
        named = AreNamed-append model.mentions (mentions_of command words) holds.named (named_command command words all);
        wide = AllWide-append model.statements (statements_of command words) holds.wide said.0;
        few = omega (arith, cost-append model.statements (statements_of command words), said.1, holds.few);
      }

  holds_row : (standing : Standing) (words : List PlacedToken) (before most : ℕ) → Holds standing.model before → before + size_of words ≤ most
      → Holds (standing_by_command standing commands.Row words).model most
  holds_row standing words before most holds room =
      let row = last_row standing.model.statements words holds.wide in
      record {
        mentions = holds.mentions ∙ sym row.1;
        faultless = holds.faultless;
        named = holds.named;
        wide = row.0;
        few = omega (arith, row.2, holds.few);
      }

  pub holds_said : (standing : Standing) (command : Command) (words : List PlacedToken) (before most : ℕ) → Holds standing.model before → AreWords size words
      → names_fault standing.model.mentions (mentions_of command words) ≡ None → before + 1 ≤ most → before + size_of words ≤ most
      → Holds (standing_by_command standing command words).model most
  holds_said standing commands.Model words before most holds all none room rows = holds_command standing.model commands.Model words before most holds all none room
  holds_said standing commands.Inputs words before most holds all none room rows = holds_command standing.model commands.Inputs words before most holds all none room
  holds_said standing commands.Outputs words before most holds all none room rows = holds_command standing.model commands.Outputs words before most holds all none room
  holds_said standing commands.Names words before most holds all none room rows = holds_command standing.model commands.Names words before most holds all none room
  holds_said standing commands.Latch words before most holds all none room rows = holds_command standing.model commands.Latch words before most holds all none room
  holds_said standing commands.Clock words before most holds all none room rows = holds_command standing.model commands.Clock words before most holds all none room
  holds_said standing commands.End words before most holds all none room rows = holds_command standing.model commands.End words before most holds all none room
  holds_said standing commands.Unknown words before most holds all none room rows = holds_command standing.model commands.Unknown words before most holds all none room
  holds_said standing commands.Row words before most holds all none room rows = holds_row standing words before most holds rows

  pub words_within : (command : Command) (head : PlacedToken) (words : List PlacedToken) → AreWords size (head ∷ words)
      → AreWords size (words_of command head words) × (size_of (words_of command head words) ≤ size_of (head ∷ words))
  words_within commands.Model head words all = (all.1, omega arith)
  words_within commands.Inputs head words all = (all.1, omega arith)
  words_within commands.Outputs head words all = (all.1, omega arith)
  words_within commands.Names head words all = (all.1, omega arith)
  words_within commands.Latch head words all = (all.1, omega arith)
  words_within commands.Clock head words all = (all.1, omega arith)
  words_within commands.End head words all = (all.1, omega arith)
  words_within commands.Unknown head words all = (all.1, omega arith)
  words_within commands.Row head words all = (all, omega arith)
