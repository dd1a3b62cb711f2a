-- What is known of lines says what the lines say.
use Rattle.std.proofs.Common.{◌≡◌, ℕ, ◌+◌, Bool, true, false, cond, List, [], ◌∷◌, ◌++◌, length, map, Option, None, Some, refl, sym, ap, ◌∙◌}
use Rattle.std.proofs.lemmas.List.{append-nil, append_assoc, map-append}
use Rattle.std.specs.List.{position_from}
use Rattle.std.specs.Str.{bytes_eq}
use Rattle.psl_base.specs.Tokens.{PlacedToken}
use Rattle.blif_flattening.specs.declared.model.Item.{Item}
use Rattle.blif_flattening.specs.declared.model.Item.TheVariants.{Own}
use Rattle.blif_model.specs.declared.line.ModelLine.{ModelLine}
use Rattle.blif_model.specs.Known.{Opened, closed, line_of_table}
use Rattle.blif_model.specs.Models.{Gate, Mention, Statement, IsTable}
use Rattle.blif_model.specs.Names.{Named, place_of, number_at, number_of, numbers_in, with_mention, with_mentions, with_place}
use Rattle.blif_model.specs.Numbered.{items_of, kind_of, line_of, words_in}
use Rattle.blif_model.proofs.Places.{place_of-new}

-- a word is among the names
abbrev pub Holds : List (List ℕ) → PlacedToken → Type 0
Holds names word = (n : ℕ) × (place_of names word.text ≡ Some n)

abbrev pub HoldAll : List (List ℕ) → List PlacedToken → Type 0
HoldAll names [] = Unit {0}
HoldAll names (word ∷ words) = Holds names word × HoldAll names words

abbrev pub HoldSaid : List (List ℕ) → List Statement → Type 0
HoldSaid names [] = Unit {0}
HoldSaid names (statement ∷ statements) = HoldAll names (words_in statement) × HoldSaid names statements

-- names with others behind them
abbrev pub Grows : List (List ℕ) → List (List ℕ) → Type 0
Grows names more = (others : List (List ℕ)) × (more ≡ names ++ others)

grows-refl : (names : List (List ℕ)) → Grows names names
grows-refl names = ([], sym (append-nil names))

grows-trans : (a b c : List (List ℕ)) → Grows a b → Grows b c → Grows a c
grows-trans a b c one two = (one.0 ++ two.0, two.1 ∙ ap (λ names. names ++ two.0) one.1 ∙ append_assoc a one.0 two.0)

by-head : (b : Bool) (i n : ℕ) (old new : Option ℕ) → cond b (Some i) old ≡ Some n → (old ≡ Some n → new ≡ Some n) → cond b (Some i) new ≡ Some n
by-head true i n old new found next = found
by-head false i n old new found next = next found

pub position-stays : (test : List ℕ → Bool) (i n : ℕ) (xs ys : List (List ℕ)) → position_from test i xs ≡ Some n → position_from test i (xs ++ ys) ≡ Some n
position-stays test i n [] ys found = cc
position-stays test i n (x ∷ xs) ys found = by-head (test x) i n (position_from test (i + 1) xs) (position_from test (i + 1) (xs ++ ys)) found (position-stays test (i + 1) n xs ys)

place-stays : (names more : List (List ℕ)) (text : List ℕ) (n : ℕ) → Grows names more → place_of names text ≡ Some n → place_of more text ≡ Some n
place-stays names more text n grows found =
    ap (λ list. place_of list text) grows.1 ∙ position-stays (λ other. bytes_eq text other) 0 n names grows.0 found

holds-stays : (names more : List (List ℕ)) (word : PlacedToken) → Grows names more → Holds names word → Holds more word
holds-stays names more word grows held = (held.0, place-stays names more word.text held.0 grows held.1)

number-stays : (names more : List (List ℕ)) (word : PlacedToken) → Grows names more → Holds names word → number_of more word ≡ number_of names word
number-stays names more word grows held =
    ap number_at (place-stays names more word.text held.0 grows held.1) ∙ sym (ap number_at held.1)

all-stay : (names more : List (List ℕ)) (words : List PlacedToken) → Grows names more → HoldAll names words → HoldAll more words
all-stay names more [] grows held = tt
all-stay names more (word ∷ words) grows held = (holds-stays names more word grows held.0, all-stay names more words grows held.1)

numbers-stay : (names more : List (List ℕ)) (words : List PlacedToken) → Grows names more → HoldAll names words → map (number_of more) words ≡ map (number_of names) words
numbers-stay names more [] grows held = refl
numbers-stay names more (word ∷ words) grows held =
    ap (λ n. n ∷ map (number_of more) words) (number-stays names more word grows held.0)
    ∙ ap (λ ns. number_of names word ∷ ns) (numbers-stay names more words grows held.1)

pub said-stays : (names more : List (List ℕ)) (statements : List Statement) → Grows names more → HoldSaid names statements → HoldSaid more statements
said-stays names more [] grows held = tt
said-stays names more (statement ∷ statements) grows held = (all-stay names more (words_in statement) grows held.0, said-stays names more statements grows held.1)

pub items-stay : (names more : List (List ℕ)) (statements : List Statement) → Grows names more → HoldSaid names statements → items_of more statements ≡ items_of names statements
items-stay names more [] grows held = refl
items-stay names more (statement ∷ statements) grows held =
    ap (λ numbers. Own (record { mentions = numbers; kind = kind_of statement }) ∷ items_of more statements) (numbers-stay names more (words_in statement) grows held.0)
    ∙ ap (λ items. Own (line_of names statement) ∷ items) (items-stay names more statements grows held.1)

pub said-push : (names : List (List ℕ)) (statements : List Statement) (statement : Statement) → HoldSaid names statements → HoldAll names (words_in statement) → HoldSaid names (statements ++ statement ∷ [])
said-push names [] statement held here = (here, tt)
said-push names (other ∷ statements) statement held here = (held.0, said-push names statements statement held.1 here)

pub said-last : (names : List (List ℕ)) (front : List Statement) (last : Statement) → HoldSaid names (front ++ last ∷ []) → HoldSaid names front × HoldAll names (words_in last)
said-last names [] last held = (tt, held.0)
said-last names (other ∷ front) last held = let rest = said-last names front last held.1 in ((held.0, rest.0), rest.1)

-- mentions more
grows-place : (named : Named) (mention : Mention) (place : Option ℕ) → Grows named.names (with_place named mention place).names
grows-place named mention None = (mention.word.text ∷ [], refl)
grows-place named mention (Some number) = grows-refl named.names

grows-one : (named : Named) (mention : Mention) → Grows named.names (with_mention named mention).names
grows-one named mention = grows-place named mention (place_of named.names mention.word.text)

pub grows-all : (named : Named) (mentions : List Mention) → Grows named.names (with_mentions named mentions).names
grows-all named [] = grows-refl named.names
grows-all named (mention ∷ mentions) =
    grows-trans named.names (with_mention named mention).names (with_mentions (with_mention named mention) mentions).names
    (grows-one named mention) (grows-all (with_mention named mention) mentions)

held-by : (named : Named) (mention : Mention) (place : Option ℕ) → place_of named.names mention.word.text ≡ place → Holds (with_place named mention place).names mention.word
held-by named mention None is = (length named.names, place_of-new named.names mention.word.text (length named.names) refl is)
held-by named mention (Some number) is = (number, is)

held-one : (named : Named) (mention : Mention) → Holds (with_mention named mention).names mention.word
held-one named mention = held-by named mention (place_of named.names mention.word.text) refl

abbrev pub words_of_mentions : List Mention → List PlacedToken
words_of_mentions mentions = map (λ mention. mention.word) mentions

pub held-all : (named : Named) (mentions : List Mention) → HoldAll (with_mentions named mentions).names (words_of_mentions mentions)
held-all named [] = tt
held-all named (mention ∷ mentions) = (
  holds-stays (with_mention named mention).names (with_mentions (with_mention named mention) mentions).names mention.word
      (grows-all (with_mention named mention) mentions) (held-one named mention),
  held-all (with_mention named mention) mentions,
)

-- the numbers that names have as they come are those that they have in the end
pub numbers-are : (named : Named) (mentions : List Mention) → numbers_in named mentions ≡ map (number_of (with_mentions named mentions).names) (words_of_mentions mentions)
numbers-are named [] = refl
numbers-are named (mention ∷ mentions) =
    let next = with_mention named mention in
    let last = (with_mentions next mentions).names in
    ap (λ n. n ∷ numbers_in next mentions) (sym (number-stays next.names last mention.word (grows-all next mentions) (held-one named mention)))
    ∙ ap (λ ns. number_of last mention.word ∷ ns) (numbers-are next mentions)

-- a table whose rows may follow, by the names
abbrev pub opened_of : List (List ℕ) → Gate → Opened
opened_of names gate = record {
  mentions = map (number_of names) (gate.inputs ++ gate.output ∷ []);
  width = length gate.inputs;
  rows = gate.rows;
  value = gate.value;
  output_at = gate.output.at;
}

-- the lines that are read and the table that is open are what was said
abbrev pub AreLines : List (List ℕ) → Bool → List Statement → List (Item ModelLine) → Option Opened → Type 0
AreLines names in_table statements lines None = (in_table ≡ false) × (lines ≡ items_of names statements)
AreLines names in_table statements lines (Some table) =
    (in_table ≡ true) × ((front : List Statement) × ((gate : Gate) × ((statements ≡ front ++ IsTable gate ∷ []) × ((lines ≡ items_of names front) × (table ≡ opened_of names gate)))))

pub closed-are : (names : List (List ℕ)) (in_table : Bool) (statements : List Statement) (lines : List (Item ModelLine)) (table : Option Opened)
    → AreLines names in_table statements lines table → closed lines table ≡ items_of names statements
closed-are names in_table statements lines None are = are.1
closed-are names in_table statements lines (Some table) are =
    let front = are.1.0 in
    let gate = are.1.1.0 in
    let said = are.1.1.1.0 in
    let before = are.1.1.1.1.0 in
    let last = are.1.1.1.1.1 in
    ap (λ list. list ++ line_of_table table ∷ []) before
    ∙ ap (λ t. items_of names front ++ line_of_table t ∷ []) last
    ∙ sym (map-append (λ statement. Own (line_of names statement)) front (IsTable gate ∷ []))
    ∙ sym (ap (items_of names) said)
