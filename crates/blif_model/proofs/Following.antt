-- What is known after each line follows what the lines have said.
use Rattle.std.proofs.Common.{◌≡◌, ◌⊎◌, ℕ, Bool, true, false, List, [], ◌∷◌, ◌++◌, length, map, Option, None, Some, refl, sym, ap, ◌∙◌, inl, inr, subst, suc}
use Rattle.std.proofs.lemmas.List.{append-nil, map-append}
use Rattle.std.specs.Option.{option_map, option_or}
use Rattle.psl_base.specs.Tokens.{PlacedToken}
use Rattle.blif_flattening.specs.declared.model.Item.{Item}
use Rattle.blif_flattening.specs.declared.model.Item.TheVariants.{Own}
use Rattle.blif_model.specs.declared.command.Command.{Command}
use Rattle.blif_model.specs.declared.command.Command.TheVariants as commands
use Rattle.blif_model.specs.declared.fault.BlifFault.{BlifFault}
use Rattle.blif_model.specs.declared.fault.BlifFault.TheVariants.{BadRow}
use Rattle.blif_model.specs.declared.flags.Flags.{Flags}
use Rattle.blif_model.specs.declared.line.ModelLine.{ModelLine}
use Rattle.blif_model.specs.Known.{Known, Opened, closed, nothing_known, command_fault_in, flags_in, known_by_command, own, row_fault_of, row_fault_on, row_on, row_onto, said_fault, width_of_open}
use Rattle.blif_model.specs.Models.{Gate, Mention, Model, Statement, IsInputs, IsOutputs, IsLatch, IsTable, driven, used, mention_as}
use Rattle.blif_model.specs.Names.{Named, named_by, names_fault_in, number_of, numbers_in, with_mentions}
use Rattle.blif_model.specs.Numbered.{items_of, kind_of, line_of, words_in}
use Rattle.blif_model.specs.Rules.{command_fault, flags_of, head_rule_by, latch_fault, names_fault, tail_fault, row_fault, row_fault_in, width_of}
use Rattle.blif_model.specs.Shapes.{Clocking, LatchParts, Row, latch_of, row_of}
use Rattle.blif_model.specs.Standing.{Standing, all_but_last, at_first, first_clocking, last_of, last_table, mentions_of, mentions_of_names, standing_by_command, with_last_row, with_row}
use Rattle.blif_model.proofs.Knowing.{AreLines, HoldSaid, closed-are, grows-all, held-all, items-stay, numbers-are, opened_of, said-last, said-push, said-stays, words_of_mentions, HoldAll}
use Rattle.blif_model.proofs.Naming.{naming-fault, naming-more}

-- the names, the lines and the open table are what is said of the model
pub record IsSaid (whole : List ℕ) (model : Model) (in_table : Bool) (named : Named) (lines : List (Item ModelLine)) (table : Option Opened) : Type 0 where
  pub named_are : named ≡ named_by whole model.mentions
  pub held : HoldSaid named.names model.statements
  pub lines_are : AreLines named.names in_table model.statements lines table

more-names : (whole : List ℕ) (model : Model) (named : Named) (mentions : List Mention) → named ≡ named_by whole model.mentions
    → with_mentions named mentions ≡ named_by whole (model.mentions ++ mentions)
more-names whole model named mentions is = ap (λ n. with_mentions n mentions) is ∙ sym (naming-more whole model.mentions mentions)

-- the lines that were read, with more names
old-items : (whole : List ℕ) (model : Model) (in_table : Bool) (named : Named) (lines : List (Item ModelLine)) (table : Option Opened) (mentions : List Mention)
    → IsSaid whole model in_table named lines table → closed lines table ≡ items_of (with_mentions named mentions).names model.statements
old-items whole model in_table named lines table mentions said =
    closed-are named.names in_table model.statements lines table said.lines_are
    ∙ sym (items-stay named.names (with_mentions named mentions).names model.statements (grows-all named mentions) said.held)

new-numbers : (named : Named) (mentions : List Mention) (words : List PlacedToken) → words_of_mentions mentions ≡ words
    → numbers_in named mentions ≡ map (number_of (with_mentions named mentions).names) words
new-numbers named mentions words are =
    numbers-are named mentions ∙ ap (map (number_of (with_mentions named mentions).names)) are

-- one statement more
held-more : (named : Named) (mentions : List Mention) (statements : List Statement) (statement : Statement) → words_of_mentions mentions ≡ words_in statement
    → HoldSaid named.names statements → HoldSaid (with_mentions named mentions).names (statements ++ statement ∷ [])
held-more named mentions statements statement are held =
    let names = (with_mentions named mentions).names in
    said-push names statements statement (said-stays named.names names statements (grows-all named mentions) held)
    (subst (HoldAll names) are (held-all named mentions))

line-more : (whole : List ℕ) (model : Model) (in_table : Bool) (named : Named) (lines : List (Item ModelLine)) (table : Option Opened) (mentions : List Mention) (statement : Statement)
    → words_of_mentions mentions ≡ words_in statement → IsSaid whole model in_table named lines table
    → IsSaid whole (record { mentions = model.mentions ++ mentions; statements = model.statements ++ statement ∷ [] }) false
    (with_mentions named mentions) (closed lines table ++ own (numbers_in named mentions) (kind_of statement) ∷ []) None
line-more whole model in_table named lines table mentions statement are said =
    let names = (with_mentions named mentions).names in
    record {
      named_are = more-names whole model named mentions said.named_are;
      held = held-more named mentions model.statements statement are said.held;
      lines_are = (
        refl,
        ap (λ items. items ++ own (numbers_in named mentions) (kind_of statement) ∷ []) (old-items whole model in_table named lines table mentions said)
            ∙ ap (λ numbers. items_of names model.statements ++ own numbers (kind_of statement) ∷ []) (new-numbers named mentions (words_in statement) are)
            ∙ sym (map-append (λ (s : Statement). Own (line_of names s)) model.statements (statement ∷ [])),
      );
    }

table-more : (whole : List ℕ) (model : Model) (in_table : Bool) (named : Named) (lines : List (Item ModelLine)) (table : Option Opened) (mentions : List Mention) (width : ℕ) (gate : Gate)
    → words_of_mentions mentions ≡ words_in (IsTable gate) → width ≡ length gate.inputs → IsSaid whole model in_table named lines table
    → IsSaid whole (record { mentions = model.mentions ++ mentions; statements = model.statements ++ IsTable gate ∷ [] }) true
    (with_mentions named mentions) (closed lines table) (Some (record { mentions = numbers_in named mentions; width = width; rows = gate.rows; value = gate.value; output_at = gate.output.at }))
table-more whole model in_table named lines table mentions width gate are wide said = record {
  named_are = more-names whole model named mentions said.named_are;
  held = held-more named mentions model.statements (IsTable gate) are said.held;
  lines_are = (refl, (model.statements, (gate, (refl, (old-items whole model in_table named lines table mentions said, rw (new-numbers named mentions (words_in (IsTable gate)) are, wide) refl)))));
}

nothing-more : (whole : List ℕ) (model : Model) (in_table : Bool) (named : Named) (lines : List (Item ModelLine)) (table : Option Opened)
    → IsSaid whole model in_table named lines table
    → IsSaid whole (record { mentions = model.mentions ++ []; statements = model.statements ++ [] }) false named (closed lines table) None
nothing-more whole model in_table named lines table said = record {
  named_are = said.named_are ∙ ap (named_by whole) (sym (append-nil model.mentions));
  held = subst (HoldSaid named.names) (sym (append-nil model.statements)) said.held;
  lines_are = (refl, closed-are named.names in_table model.statements lines table said.lines_are ∙ ap (items_of named.names) (sym (append-nil model.statements)));
}

-- a row more
last-is : (front : List Statement) (gate : Gate) → last_table (front ++ IsTable gate ∷ []) ≡ Some gate
last-is [] gate = refl
last-is (one ∷ []) gate = refl
last-is (one ∷ two ∷ front) gate = last-is (two ∷ front) gate

row-last : (front : List Statement) (gate : Gate) (words : List PlacedToken) → with_last_row (front ++ IsTable gate ∷ []) words ≡ front ++ IsTable (with_row gate (row_of (length gate.inputs) words)) ∷ []
row-last [] gate words = refl
row-last (one ∷ []) gate words = refl
row-last (one ∷ two ∷ front) gate words = ap (λ list. one ∷ list) (row-last (two ∷ front) gate words)

same-words : (gate : Gate) (row : Option Row) → words_in (IsTable (with_row gate row)) ≡ words_in (IsTable gate)
same-words gate None = refl
same-words gate (Some row) = refl

row-opened : (names : List (List ℕ)) (gate : Gate) (row : Option Row) → row_onto (opened_of names gate) row ≡ opened_of names (with_row gate row)
row-opened names gate None = refl
row-opened names gate (Some row) = refl

held-row : (names : List (List ℕ)) (front : List Statement) (gate : Gate) (row : Option Row) → HoldSaid names (front ++ IsTable gate ∷ []) → HoldSaid names (front ++ IsTable (with_row gate row) ∷ [])
held-row names front gate row held =
    let parts = said-last names front (IsTable gate) held in
    said-push names front (IsTable (with_row gate row)) parts.0 (subst (HoldAll names) (sym (same-words gate row)) parts.1)

row-more : (whole : List ℕ) (model : Model) (in_table : Bool) (named : Named) (lines : List (Item ModelLine)) (table : Opened) (words : List PlacedToken)
    → IsSaid whole model in_table named lines (Some table)
    → IsSaid whole (record model { statements = with_last_row model.statements words }) in_table named lines (Some (row_on words table))
row-more whole model in_table named lines table words said =
    let are = said.lines_are in
    let front = are.1.0 in
    let gate = are.1.1.0 in
    let row = row_of (length gate.inputs) words in
    let statements : with_last_row model.statements words ≡ front ++ IsTable (with_row gate row) ∷ [] = ap (λ list. with_last_row list words) are.1.1.1.0 ∙ row-last front gate words in
    record {
      named_are = said.named_are;
      held = subst (HoldSaid named.names) (sym statements) (held-row named.names front gate row (subst (HoldSaid named.names) are.1.1.1.0 said.held));
      lines_are = (are.0, (front, (with_row gate row, (statements, (are.1.1.1.1.0, ap (row_on words) are.1.1.1.1.1 ∙ row-opened named.names gate row)))));
    }

-- what is known follows what was said
pub record Follows (whole : List ℕ) (standing : Standing) (known : Known) : Type 0 where
  pub said : IsSaid whole standing.model standing.in_table known.named known.lines known.table
  pub clocking : known.clocking ≡ standing.clocking
  pub begun : known.begun ≡ standing.begun
  pub titled : known.titled ≡ standing.titled
  pub ended : known.ended ≡ standing.ended

-- the faults of a line
width-is : (names : List (List ℕ)) (in_table : Bool) (statements : List Statement) (lines : List (Item ModelLine)) (table : Option Opened)
    → AreLines names in_table statements lines table → width_of_open table ≡ width_of in_table (last_table statements)
width-is names in_table statements lines None are = rw are.0 refl
width-is names in_table statements lines (Some table) are =
    let gate = are.1.1.0 in
    let last : last_table statements ≡ Some gate = ap last_table are.1.1.1.0 ∙ last-is are.1.0 gate in
    ap (λ (t : Opened). Some t.width) are.1.1.1.1.1 ∙ sym (ap (λ b. width_of b (last_table statements)) are.0 ∙ ap (width_of true) last)

pub flags-are : (whole : List ℕ) (standing : Standing) (known : Known) → Follows whole standing known → flags_in known ≡ flags_of standing
flags-are whole standing known follows =
    let width = width-is known.named.names standing.in_table standing.model.statements known.lines known.table follows.said.lines_are in
    rw (width, follows.begun, follows.titled, follows.ended) refl

abbrev head_by : Flags → Command → PlacedToken → List PlacedToken → Option BlifFault
head_by flags command head words = option_map (λ fault. fault head.place) (head_rule_by flags command words)

by-row : (flags : Flags) (head : PlacedToken) (words : List PlacedToken) (left right : Option BlifFault) → flags.width ≡ None ⊎ left ≡ right
    → option_or (head_by flags commands.Row head words) left ≡ option_or (head_by flags commands.Row head words) right
by-row flags head words left right (inl none) = rw none refl
by-row flags head words left right (inr same) = ap (option_or (head_by flags commands.Row head words)) same

row-faults : (names : List (List ℕ)) (gate : Gate) (row : Option Row) → row_fault_of (opened_of names gate) row ≡ row_fault_in gate row
row-faults names gate None = refl
row-faults names gate (Some row) = refl

row-cases : (names : List (List ℕ)) (in_table : Bool) (statements : List Statement) (lines : List (Item ModelLine)) (table : Option Opened) (words : List PlacedToken)
    → AreLines names in_table statements lines table → (width_of_open table ≡ None) ⊎ (row_fault_on table words ≡ row_fault (last_table statements) words)
row-cases names in_table statements lines None words are = inl refl
row-cases names in_table statements lines (Some table) words are =
    let gate = are.1.1.0 in
    let last : last_table statements ≡ Some gate = ap last_table are.1.1.1.0 ∙ last-is are.1.0 gate in
    inr (ap (λ t. row_fault_on (Some t) words) are.1.1.1.1.1 ∙ row-faults names gate (row_of (length gate.inputs) words) ∙ sym (ap (λ g. row_fault g words) last))

names-faults : (whole : List ℕ) (standing : Standing) (known : Known) (mentions : List Mention) → Follows whole standing known
    → names_fault_in known.named mentions ≡ names_fault standing.model.mentions mentions
names-faults whole standing known mentions follows =
    ap (λ named. names_fault_in named mentions) follows.said.named_are ∙ sym (naming-fault whole standing.model.mentions mentions)

both-faults : (whole : List ℕ) (standing : Standing) (known : Known) (command : Command) (head : PlacedToken) (words : List PlacedToken) → Follows whole standing known
    → said_fault known command words ≡ tail_fault standing command words → command_fault_in known command head words ≡ command_fault standing command head words
both-faults whole standing known command head words follows same =
    ap (λ (flags : Flags). option_or (head_by flags command head words) (said_fault known command words)) (flags-are whole standing known follows)
    ∙ ap (option_or (head_by (flags_of standing) command head words)) same

latch-faults : (whole : List ℕ) (standing : Standing) (known : Known) (words : List PlacedToken) → Follows whole standing known
    → said_fault known commands.Latch words ≡ tail_fault standing commands.Latch words
latch-faults whole standing known words follows =
    let mentions = mentions_of commands.Latch words in
    ap (λ fault. option_or fault (latch_fault known.clocking (latch_of words))) (names-faults whole standing known mentions follows)
    ∙ ap (λ clocking. option_or (names_fault standing.model.mentions mentions) (latch_fault clocking (latch_of words))) follows.clocking

pub command-fault-is : (whole : List ℕ) (standing : Standing) (known : Known) (command : Command) (head : PlacedToken) (words : List PlacedToken) → Follows whole standing known
    → command_fault_in known command head words ≡ command_fault standing command head words
command-fault-is whole standing known commands.Row head words follows =
    by-row (flags_in known) head words (row_fault_on known.table words) (row_fault (last_table standing.model.statements) words)
    (row-cases known.named.names standing.in_table standing.model.statements known.lines known.table words follows.said.lines_are)
    ∙ ap (λ (flags : Flags). option_or (head_by flags commands.Row head words) (row_fault (last_table standing.model.statements) words)) (flags-are whole standing known follows)
command-fault-is whole standing known commands.Latch head words follows = both-faults whole standing known commands.Latch head words follows (latch-faults whole standing known words follows)
command-fault-is whole standing known commands.Inputs head words follows = both-faults whole standing known commands.Inputs head words follows (names-faults whole standing known (map driven words) follows)
command-fault-is whole standing known commands.Outputs head words follows = both-faults whole standing known commands.Outputs head words follows (names-faults whole standing known (map used words) follows)
command-fault-is whole standing known commands.Names head words follows = both-faults whole standing known commands.Names head words follows (names-faults whole standing known (mentions_of_names words) follows)
command-fault-is whole standing known commands.Model head words follows = both-faults whole standing known commands.Model head words follows refl
command-fault-is whole standing known commands.Clock head words follows = both-faults whole standing known commands.Clock head words follows refl
command-fault-is whole standing known commands.End head words follows = both-faults whole standing known commands.End head words follows refl
command-fault-is whole standing known commands.Unknown head words follows = both-faults whole standing known commands.Unknown head words follows refl

-- the words that mentions of one kind are of
words-as : (drives : Bool) (words : List PlacedToken) → words_of_mentions (map (mention_as drives) words) ≡ words
words-as drives [] = refl
words-as drives (word ∷ words) = ap (λ list. word ∷ list) (words-as drives words)

-- the names of a table: its inputs, and behind them its output
record AreNames (word : PlacedToken) (words : List PlacedToken) : Type 0 where
  output : PlacedToken
  last : last_of (word ∷ words) ≡ Some output
  mentioned : words_of_mentions (mentions_of_names (word ∷ words)) ≡ all_but_last (word ∷ words) ++ output ∷ []
  wide : length words ≡ length (all_but_last (word ∷ words))

are-names : (word : PlacedToken) (words : List PlacedToken) → AreNames word words
are-names word [] = record { output = word; last = refl; mentioned = refl; wide = refl }
are-names word (other ∷ words) =
    let rest = are-names other words in
    record { output = rest.output; last = rest.last; mentioned = ap (λ list. word ∷ list) rest.mentioned; wide = ap (λ n. suc n) rest.wide }

names-step : (whole : List ℕ) (standing : Standing) (known : Known) (word : PlacedToken) (words : List PlacedToken) → Follows whole standing known
    → Follows whole (standing_by_command standing commands.Names (word ∷ words)) (known_by_command known commands.Names (word ∷ words))
names-step whole standing known word words follows =
    let names = are-names word words in
    let gate : Gate = record { inputs = all_but_last (word ∷ words); output = names.output; rows = []; value = true } in
    rw names.last (record {
      said = table-more whole standing.model standing.in_table known.named known.lines known.table (mentions_of_names (word ∷ words)) (length words) gate names.mentioned names.wide follows.said;
      clocking = follows.clocking;
      begun = refl;
      titled = follows.titled;
      ended = follows.ended;
    })

first-none : (clocking : Option Clocking) → first_clocking clocking None ≡ clocking
first-none None = refl
first-none (Some clocking) = refl

latch-step : (whole : List ℕ) (standing : Standing) (known : Known) (words : List PlacedToken) (latch : Option LatchParts) → latch_of words ≡ latch → Follows whole standing known
    → Follows whole (standing_by_command standing commands.Latch words) (known_by_command known commands.Latch words)
latch-step whole standing known words None is follows =
    rw is (record {
      said = nothing-more whole standing.model standing.in_table known.named known.lines known.table follows.said;
      clocking = follows.clocking ∙ sym (first-none standing.clocking);
      begun = refl;
      titled = follows.titled;
      ended = follows.ended;
    })
latch-step whole standing known words (Some latch) is follows =
    rw is (record {
      said = line-more whole standing.model standing.in_table known.named known.lines known.table (used latch.input ∷ driven latch.output ∷ []) (IsLatch (record { input = latch.input; output = latch.output; init = latch.init })) refl follows.said;
      clocking = ap (λ c. first_clocking c latch.clocking) follows.clocking;
      begun = refl;
      titled = follows.titled;
      ended = follows.ended;
    })

other-step : (whole : List ℕ) (standing : Standing) (known : Known) → Follows whole standing known
    → IsSaid whole (record { mentions = standing.model.mentions ++ []; statements = standing.model.statements ++ [] }) false known.named (closed known.lines known.table) None
other-step whole standing known follows = nothing-more whole standing.model standing.in_table known.named known.lines known.table follows.said

pub model-step : (whole : List ℕ) (standing : Standing) (known : Known) (words : List PlacedToken) → Follows whole standing known
    → Follows whole (standing_by_command standing commands.Model words) (known_by_command known commands.Model words)
model-step whole standing known words follows =
    record { said = other-step whole standing known follows; clocking = follows.clocking; begun = refl; titled = refl; ended = follows.ended }

-- a row where no table is open is a fault
no-row : (flags : Flags) (head : PlacedToken) (words : List PlacedToken) (later : Option BlifFault) → flags.width ≡ None
    → option_or (head_by flags commands.Row head words) later ≡ None → ⊥
no-row flags head words later none faultless =
    let bad : option_or (head_by flags commands.Row head words) later ≡ Some (BadRow head.place) = rw none refl in
    let no : Some (BadRow head.place) ≡ None = sym bad ∙ faultless in
    cc

row-step : (whole : List ℕ) (standing : Standing) (known : Known) (table : Option Opened) (head : PlacedToken) (words : List PlacedToken) → known.table ≡ table → Follows whole standing known
    → command_fault_in known commands.Row head words ≡ None
    → Follows whole (standing_by_command standing commands.Row words) (known_by_command known commands.Row words)
row-step whole standing known None head words is follows faultless =
    absurd (no-row (flags_in known) head words (row_fault_on known.table words) (ap width_of_open is) faultless)
row-step whole standing known (Some table) head words is follows faultless = record {
  said =
      subst (λ t. IsSaid whole (record standing.model { statements = with_last_row standing.model.statements words }) standing.in_table known.named known.lines (option_map (row_on words) t)) (sym is)
      (row-more whole standing.model standing.in_table known.named known.lines table words
      (subst (λ t. IsSaid whole standing.model standing.in_table known.named known.lines t) is follows.said));
  clocking = follows.clocking;
  begun = refl;
  titled = follows.titled;
  ended = follows.ended;
}

-- a `.names` without words is a fault
no-names : (known : Known) (head : PlacedToken) → command_fault_in known commands.Names head [] ≡ None → ⊥
no-names known head faultless = cc

pub command-step : (whole : List ℕ) (standing : Standing) (known : Known) (command : Command) (head : PlacedToken) (words : List PlacedToken) → Follows whole standing known
    → command_fault_in known command head words ≡ None
    → Follows whole (standing_by_command standing command words) (known_by_command known command words)
command-step whole standing known commands.Row head words follows faultless = row-step whole standing known known.table head words refl follows faultless
command-step whole standing known commands.Names head [] follows faultless = absurd (no-names known head faultless)
command-step whole standing known commands.Names head (word ∷ words) follows faultless = names-step whole standing known word words follows
command-step whole standing known commands.Latch head words follows faultless = latch-step whole standing known words (latch_of words) refl follows
command-step whole standing known commands.Inputs head words follows faultless = record {
  said = line-more whole standing.model standing.in_table known.named known.lines known.table (map driven words) (IsInputs words) (words-as true words) follows.said;
  clocking = follows.clocking;
  begun = refl;
  titled = follows.titled;
  ended = follows.ended;
}
command-step whole standing known commands.Outputs head words follows faultless = record {
  said = line-more whole standing.model standing.in_table known.named known.lines known.table (map used words) (IsOutputs words) (words-as false words) follows.said;
  clocking = follows.clocking;
  begun = refl;
  titled = follows.titled;
  ended = follows.ended;
}
command-step whole standing known commands.Model head words follows faultless = model-step whole standing known words follows
command-step whole standing known commands.End head words follows faultless =
    record { said = other-step whole standing known follows; clocking = follows.clocking; begun = refl; titled = follows.titled; ended = refl }
command-step whole standing known commands.Clock head words follows faultless =
    record { said = other-step whole standing known follows; clocking = follows.clocking; begun = refl; titled = follows.titled; ended = follows.ended }
command-step whole standing known commands.Unknown head words follows faultless =
    record { said = other-step whole standing known follows; clocking = follows.clocking; begun = refl; titled = follows.titled; ended = follows.ended }

pub follows-first : (whole : List ℕ) → Follows whole at_first (nothing_known whole)
follows-first whole = record {
  said = record { named_are = refl; held = tt; lines_are = (refl, refl) };
  clocking = refl;
  begun = refl;
  titled = refl;
  ended = refl;
}
