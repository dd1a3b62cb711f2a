-- The formals of a model are words of its lines.
use Rattle.std.proofs.Common.{◌≡◌, ℕ, Bool, true, false, cond, List, [], ◌∷◌, Option, None, Some, refl, sym, ap, subst, inl, inr, ⊎_elim}
use Rattle.psl_base.specs.Tokens.{PlacedToken}
use Rattle.blif_flattening.specs.Members.{Among}
use Rattle.blif_flattening.proofs.Members.{Among-left, Among-right, Among-map, from_append, from_map}
use Rattle.blif_model.specs.Files.{Part}
use Rattle.blif_model.specs.Models.{Model, Statement, IsInputs, IsOutputs, IsLatch, IsTable}
use Rattle.blif_linking.specs.declared.role.Role.{Role}
use Rattle.blif_linking.specs.declared.role.Role.TheVariants.{Input, Output, Clock}
use Rattle.blif_linking.specs.Interfaces.{inputs_in, outputs_in, is_one_of, role_of, texts_of}
use Rattle.blif_laws.proofs.Numbers.{among-any, any-among}

-- a line that lists a text as an input, or as an output
pub record IsListed (lists : List PlacedToken → Statement) (statements : List Statement) (text : List ℕ) : Type 0 where
  pub words : List PlacedToken
  pub line : Among (lists words) statements
  pub word : PlacedToken
  pub there : Among word words
  pub is : word.text ≡ text

more : (lists : List PlacedToken → Statement) (statement : Statement) (statements : List Statement) (text : List ℕ)
    → IsListed lists statements text → IsListed lists (statement ∷ statements) text
more lists statement statements text listed =
    record { words = listed.words; line = inr listed.line; word = listed.word; there = listed.there; is = listed.is }

first : (lists : List PlacedToken → Statement) (words : List PlacedToken) (statements : List Statement) (text : List ℕ) → Among text (texts_of words)
    → IsListed lists (lists words ∷ statements) text
first lists words statements text there =
    let by = from_map (λ (word : PlacedToken). word.text) text words there in
    record { words = words; line = inl refl; word = by.0; there = by.1; is = by.2 }

pub input-listed : (statements : List Statement) (text : List ℕ) → Among text (inputs_in statements) → IsListed IsInputs statements text
input-listed [] text none = absurd none
input-listed (IsInputs words ∷ statements) text there =
    ⊎_elim (λ here. first IsInputs words statements text here)
    (λ later. more IsInputs (IsInputs words) statements text (input-listed statements text later))
    (from_append text (texts_of words) (inputs_in statements) there)
input-listed (IsOutputs words ∷ statements) text there = more IsInputs (IsOutputs words) statements text (input-listed statements text there)
input-listed (IsLatch latch ∷ statements) text there = more IsInputs (IsLatch latch) statements text (input-listed statements text there)
input-listed (IsTable gate ∷ statements) text there = more IsInputs (IsTable gate) statements text (input-listed statements text there)

pub output-listed : (statements : List Statement) (text : List ℕ) → Among text (outputs_in statements) → IsListed IsOutputs statements text
output-listed [] text none = absurd none
output-listed (IsOutputs words ∷ statements) text there =
    ⊎_elim (λ here. first IsOutputs words statements text here)
    (λ later. more IsOutputs (IsOutputs words) statements text (output-listed statements text later))
    (from_append text (texts_of words) (outputs_in statements) there)
output-listed (IsInputs words ∷ statements) text there = more IsOutputs (IsInputs words) statements text (output-listed statements text there)
output-listed (IsLatch latch ∷ statements) text there = more IsOutputs (IsLatch latch) statements text (output-listed statements text there)
output-listed (IsTable gate ∷ statements) text there = more IsOutputs (IsTable gate) statements text (output-listed statements text there)

-- and what is listed so is an input
pub listed-input : (statements : List Statement) (words : List PlacedToken) (word : PlacedToken) → Among (IsInputs words) statements → Among word words
    → Among word.text (inputs_in statements)
listed-input [] words word none there = absurd none
listed-input (IsInputs list ∷ statements) words word line there =
    ⊎_elim
    (λ here. let same : list ≡ words = cc in
    Among-left word.text (texts_of list) (inputs_in statements)
    (subst (λ (ws : List PlacedToken). Among word.text (texts_of ws)) (sym same) (Among-map (λ (w : PlacedToken). w.text) word words there)))
    (λ later. Among-right word.text (texts_of list) (inputs_in statements) (listed-input statements words word later there))
    line
listed-input (IsOutputs list ∷ statements) words word line there =
    ⊎_elim (λ here. cc) (λ later. listed-input statements words word later there) line
listed-input (IsLatch latch ∷ statements) words word line there =
    ⊎_elim (λ here. cc) (λ later. listed-input statements words word later there) line
listed-input (IsTable gate ∷ statements) words word line there =
    ⊎_elim (λ here. cc) (λ later. listed-input statements words word later there) line

-- roles
abbrev by_tests : Bool → Bool → Bool → Option Role
by_tests input output clock = cond input (Some Input) (cond output (Some Output) (cond clock (Some Clock) None))

by_input : (input output clock : Bool) → by_tests input output clock ≡ Some Input → input ≡ true
by_input true output clock is = refl
by_input false true clock is = cc
by_input false false true is = cc
by_input false false false is = cc

by_output : (input output clock : Bool) → by_tests input output clock ≡ Some Output → (input ≡ false) × (output ≡ true)
by_output true output clock is = cc
by_output false true clock is = (refl, refl)
by_output false false true is = cc
by_output false false false is = cc

module _ (part : Part Model) (text : List ℕ) where
  abbrev is_in : Bool
  is_in = is_one_of (inputs_in part.own.statements) text

  abbrev is_out : Bool
  is_out = is_one_of (outputs_in part.own.statements) text

  abbrev is_clock : Bool
  is_clock = is_one_of (texts_of part.clocks) text

  pub role-input : role_of part text ≡ Some Input → Among text (inputs_in part.own.statements)
  role-input is = among-any (inputs_in part.own.statements) text (by_input is_in is_out is_clock is)

  pub role-output : role_of part text ≡ Some Output → (is_one_of (inputs_in part.own.statements) text ≡ false) × Among text (outputs_in part.own.statements)
  role-output is = let both = by_output is_in is_out is_clock is in (both.0, among-any (outputs_in part.own.statements) text both.1)

  pub input-role : Among text (inputs_in part.own.statements) → role_of part text ≡ Some Input
  input-role there = ap (λ input. by_tests input is_out is_clock) (any-among (inputs_in part.own.statements) text there)
