-- The words of what a model says are among its names, and their numbers are those of their texts.
use Rattle.std.proofs.Common.{◌≡◌, ℕ, ◌-◌, List, [], ◌∷◌, ◌++◌, map, slice_index_or, Some, refl, sym, ap, ◌∙◌, subst, arith}
use Rattle.std.proofs.lemmas.List.{map-append}
use Rattle.psl_base.specs.Tokens.{PlacedToken}
use Rattle.blif_model.specs.Models.{Mention, Model, Statement, IsInputs, IsOutputs, IsLatch, IsTable, driven, names_of, used}
use Rattle.blif_model.specs.Names.{nothing_named, number_at, number_of, place_of, with_mentions}
use Rattle.blif_model.specs.Numbered.{words_in}
use Rattle.blif_model.proofs.Knowing.{HoldAll, HoldSaid, held-all, words_of_mentions}
use Rattle.blif_model.proofs.Mentioned.{all_mentions, mentions_in}
use Rattle.blif_model.proofs.Naming.{naming-more, naming-names, place_of-at}

-- the words of a line's mentions are its words
words-used : (words : List PlacedToken) → words_of_mentions (map used words) ≡ words
words-used [] = refl
words-used (word ∷ words) = ap (λ (rest : List PlacedToken). word ∷ rest) (words-used words)

words-driven : (words : List PlacedToken) → words_of_mentions (map driven words) ≡ words
words-driven [] = refl
words-driven (word ∷ words) = ap (λ (rest : List PlacedToken). word ∷ rest) (words-driven words)

pub words-said : (statement : Statement) → words_of_mentions (mentions_in statement) ≡ words_in statement
words-said (IsInputs words) = words-driven words
words-said (IsOutputs words) = words-used words
words-said (IsLatch latch) = refl
words-said (IsTable gate) =
    map-append (λ (mention : Mention). mention.word) (map used gate.inputs) (driven gate.output ∷ [])
    ∙ ap (λ (words : List PlacedToken). words ++ gate.output ∷ []) (words-used gate.inputs)

hold-front : (names : List (List ℕ)) (words more : List PlacedToken) → HoldAll names (words ++ more) → HoldAll names words
hold-front names [] more held = tt
hold-front names (word ∷ words) more held = (held.0, hold-front names words more held.1)

hold-back : (names : List (List ℕ)) (words more : List PlacedToken) → HoldAll names (words ++ more) → HoldAll names more
hold-back names [] more held = held
hold-back names (word ∷ words) more held = hold-back names words more held.1

said-all : (names : List (List ℕ)) (statements : List Statement) → HoldAll names (words_of_mentions (all_mentions statements)) → HoldSaid names statements
said-all names [] held = tt
said-all names (statement ∷ statements) held =
    let split = subst (HoldAll names) (map-append (λ (mention : Mention). mention.word) (mentions_in statement) (all_mentions statements)) held in
    let words = words_of_mentions (mentions_in statement) in
    let rest = words_of_mentions (all_mentions statements) in (
      subst (HoldAll names) (words-said statement) (hold-front names words rest split),
      said-all names statements (hold-back names words rest split),
    )

-- the names that are mentioned hold all words of the mentions
pub names-hold : (mentions : List Mention) → HoldAll (names_of mentions) (words_of_mentions mentions)
names-hold mentions =
    let names : names_of mentions ≡ (with_mentions (nothing_named []) mentions).names =
    naming-names [] mentions ∙ ap (λ named. named.names) (naming-more [] [] mentions) in
    subst (λ list. HoldAll list (words_of_mentions mentions)) (sym names) (held-all (nothing_named []) mentions)

pub said-held : (model : Model) → model.mentions ≡ all_mentions model.statements → HoldSaid (names_of model.mentions) model.statements
said-held model is =
    said-all (names_of model.mentions) model.statements
    (subst (λ (list : List Mention). HoldAll (names_of model.mentions) (words_of_mentions list)) is (names-hold model.mentions))

-- the name of the number of a text is that text
pub text-placed : (names : List (List ℕ)) (text : List ℕ) (n : ℕ) → place_of names text ≡ Some n → slice_index_or names n [] ≡ text
text-placed names text n found =
    let zero : n - 0 ≡ n = omega arith in
    sym (ap (λ k. slice_index_or names k []) zero) ∙ (place_of-at 0 n names text found).1

pub texts-placed : (names : List (List ℕ)) (words : List PlacedToken) → HoldAll names words
    → map (λ number. slice_index_or names number []) (map (number_of names) words) ≡ map (λ word. word.text) words
texts-placed names [] held = refl
texts-placed names (word ∷ words) held =
    let here : slice_index_or names (number_of names word) [] ≡ word.text =
    ap (λ place. slice_index_or names (number_at place) []) held.0.1 ∙ text-placed names word.text held.0.0 held.0.1 in
    ap (λ text. text ∷ map (λ number. slice_index_or names number []) (map (number_of names) words)) here
    ∙ ap (λ texts. word.text ∷ texts) (texts-placed names words held.1)
