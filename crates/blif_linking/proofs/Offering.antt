-- What a model offers by numbers is what its words offer.
use Rattle.std.proofs.Common.{◌≡◌, ℕ, Bool, true, false, cond, ◌||◌, List, [], ◌∷◌, ◌++◌, map, Option, None, Some, sym, ap, ◌∙◌}
use Rattle.std.proofs.lemmas.List.Folds.{list_any-append}
use Rattle.std.specs.List.{list_any}
use Rattle.std.specs.Str.{bytes_eq}
use Rattle.psl_base.specs.Tokens.{PlacedToken}
use Rattle.blif_model.specs.declared.file.FileModel.{FileModel}
use Rattle.blif_model.specs.FileKnown.{OwnLines, numbered_own, numbered_part, own_in, part_in}
use Rattle.blif_model.specs.Files.{Part}
use Rattle.blif_model.specs.Models.{Model, Statement, IsInputs, IsOutputs, IsLatch, IsTable, names_of}
use Rattle.blif_model.specs.Names.{number_of}
use Rattle.blif_model.specs.Numbered.{items_of}
use Rattle.blif_model.specs.Scanning.{word_of}
use Rattle.blif_model.proofs.Knowing.{HoldAll, HoldSaid}
use Rattle.blif_model.proofs.Saying.{texts-placed}
use Rattle.blif_linking.specs.declared.interface.Interface.{Interface}
use Rattle.blif_linking.specs.Interfaces.{Role, Input, Output, Clock, inputs_in, is_one_of, outputs_in, role_of, texts_of}
use Rattle.blif_linking.specs.Offers.{interface_in, listed_in, role_in}
use Rattle.blif_linking.specs.Sets.{gathered, text_at}
use Rattle.blif_linking.proofs.Sets.{any-gathered, or-assoc, or-false}

-- the words of one line more
one-line : (test : List ℕ → Bool) (names found : List (List ℕ)) (words : List PlacedToken) (rest : List (List ℕ)) (all : Bool) → HoldAll names words
    → all ≡ (list_any test (gathered found (map (text_at names) (map (number_of names) words))) || list_any test rest)
    → all ≡ (list_any test found || list_any test (texts_of words ++ rest))
one-line test names found words rest all held is =
    is
    ∙ ap (λ (texts : List (List ℕ)). list_any test (gathered found texts) || list_any test rest) (texts-placed names words held)
    ∙ ap (λ b. b || list_any test rest) (any-gathered test found (texts_of words))
    ∙ or-assoc (list_any test found) (list_any test (texts_of words)) (list_any test rest)
    ∙ ap (λ b. list_any test found || b) (sym (list_any-append test (texts_of words) rest))

pub any-input : (test : List ℕ → Bool) (names found : List (List ℕ)) (statements : List Statement) → HoldSaid names statements
    → list_any test (listed_in names true found (items_of names statements)) ≡ (list_any test found || list_any test (inputs_in statements))
any-input test names found [] held = sym (or-false (list_any test found))
any-input test names found (IsInputs words ∷ statements) held =
    one-line test names found words (inputs_in statements)
    (list_any test (listed_in names true found (items_of names (IsInputs words ∷ statements)))) held.0
    (any-input test names (gathered found (map (text_at names) (map (number_of names) words))) statements held.1)
any-input test names found (IsOutputs words ∷ statements) held = any-input test names found statements held.1
any-input test names found (IsLatch latch ∷ statements) held = any-input test names found statements held.1
any-input test names found (IsTable gate ∷ statements) held = any-input test names found statements held.1

pub any-output : (test : List ℕ → Bool) (names found : List (List ℕ)) (statements : List Statement) → HoldSaid names statements
    → list_any test (listed_in names false found (items_of names statements)) ≡ (list_any test found || list_any test (outputs_in statements))
any-output test names found [] held = sym (or-false (list_any test found))
any-output test names found (IsInputs words ∷ statements) held = any-output test names found statements held.1
any-output test names found (IsOutputs words ∷ statements) held =
    one-line test names found words (outputs_in statements)
    (list_any test (listed_in names false found (items_of names (IsOutputs words ∷ statements)))) held.0
    (any-output test names (gathered found (map (text_at names) (map (number_of names) words))) statements held.1)
any-output test names found (IsLatch latch ∷ statements) held = any-output test names found statements held.1
any-output test names found (IsTable gate ∷ statements) held = any-output test names found statements held.1

-- a model by spans offers what a model by words does
pub record Offers (interface : Interface) (part : Part Model) : Type 0 where
  pub roles : (name : List ℕ) → role_in interface name ≡ role_of part name
  pub inputs : (test : List ℕ → Bool) → list_any test interface.inputs ≡ list_any test (inputs_in part.own.statements)

abbrev by_roles : Bool → Bool → Bool → Option Role
by_roles input output clock = cond input (Some Input) (cond output (Some Output) (cond clock (Some Clock) None))

pub offers : (whole : List ℕ) (model : FileModel) (part : Part Model) → part_in whole model ≡ numbered_part whole part
    → HoldSaid (names_of part.own.mentions) part.own.statements → Offers (interface_in whole model) part
offers whole model part is held =
    let own : own_in whole model.own ≡ numbered_own whole part.own = ap (λ (p : Part OwnLines). p.own) is in
    let names : model.own.text.names ≡ names_of part.own.mentions = ap (λ (o : OwnLines). o.text.names) own in
    let items : model.own.text.model.items ≡ items_of (names_of part.own.mentions) part.own.statements =
    ap (λ (o : OwnLines). o.text.model.items) own in
    let clocks : map (word_of whole) model.clocks ≡ part.clocks = ap (λ (p : Part OwnLines). p.clocks) is in
    let all = names_of part.own.mentions in
    let input : (test : List ℕ → Bool) → list_any test (interface_in whole model).inputs ≡ list_any test (inputs_in part.own.statements) =
    λ test. rw (names, items) (any-input test all [] part.own.statements held) in
    let output : (test : List ℕ → Bool) → list_any test (interface_in whole model).outputs ≡ list_any test (outputs_in part.own.statements) =
    λ test. rw (names, items) (any-output test all [] part.own.statements held) in
    let clock : (test : List ℕ → Bool) → list_any test (interface_in whole model).clocks ≡ list_any test (texts_of part.clocks) =
    λ test. rw clocks (any-gathered test [] (texts_of part.clocks)) in
    record {
      roles = λ name.
          ap (λ b. by_roles b (is_one_of (interface_in whole model).outputs name) (is_one_of (interface_in whole model).clocks name)) (input (bytes_eq name))
          ∙ ap (λ b. by_roles (is_one_of (inputs_in part.own.statements) name) b (is_one_of (interface_in whole model).clocks name)) (output (bytes_eq name))
          ∙ ap (λ b. by_roles (is_one_of (inputs_in part.own.statements) name) (is_one_of (outputs_in part.own.statements) name) b) (clock (bytes_eq name));
      inputs = input;
    }
