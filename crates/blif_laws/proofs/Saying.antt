-- What holds of the own lines of the models that a text says.
use Rattle.std.proofs.Common.{◌≡◌, ℕ, ◌≤◌, List, [], ◌∷◌, ◌++◌, length, All, refl, ap, ◌∙◌, subst, ⊎_elim, arith}
use Rattle.std.proofs.lemmas.List.Elements.{All-nil, All-cons}
use Rattle.std.specs.List.{flat_map, sum_by}
use Rattle.std.specs.Prelude.{Ok}
use Rattle.blif_flattening.specs.Members.{Among}
use Rattle.netlist.specs.declared.rows.Mark.{Mark}
use Rattle.blif_model.specs.Files.{Part, models_of}
use Rattle.blif_model.specs.Models.{Mention, Model, Statement, IsInputs, IsOutputs, IsLatch, IsTable}
use Rattle.blif_model.proofs.Held.{PartsHold, parts-hold}
use Rattle.blif_model.proofs.Holding.{Holds}
use Rattle.blif_model.proofs.Mentioned.{AllWide, AreWide, all_mentions, cost_of, mentions_in}
use Rattle.blif_linking.specs.Names.{mentions_said}
use Rattle.blif_laws.proofs.Lines.{IsSaid, IsWide}

same-mentions : (statement : Statement) → mentions_in statement ≡ mentions_said statement
same-mentions (IsInputs words) = refl
same-mentions (IsOutputs words) = refl
same-mentions (IsLatch latch) = refl
same-mentions (IsTable gate) = refl

pub all-said : (statements : List Statement) → all_mentions statements ≡ flat_map mentions_said statements
all-said [] = refl
all-said (statement ∷ statements) =
    ap (λ (mentions : List Mention). mentions ++ all_mentions statements) (same-mentions statement)
    ∙ ap (λ (mentions : List Mention). mentions_said statement ++ mentions) (all-said statements)

rows-wide : (width : ℕ) (rows : List (List Mark)) → AreWide width rows → All (λ (row : List Mark). length row ≡ width) rows
rows-wide width [] wide = All-nil (λ (row : List Mark). length row ≡ width)
rows-wide width (row ∷ rows) wide = All-cons (λ (r : List Mark). length r ≡ width) row rows wide.0 (rows-wide width rows wide.1)

wide-said : (most : ℕ) (statements : List Statement) → AllWide statements → cost_of statements ≤ most
    → (statement : Statement) → Among statement statements → IsWide most statement
wide-said most [] wide few statement none = absurd none
wide-said most (IsInputs words ∷ statements) wide few statement there =
    ⊎_elim (λ here. subst (IsWide most) here tt) (λ later. wide-said most statements wide.1 (omega (arith, few)) statement later) there
wide-said most (IsOutputs words ∷ statements) wide few statement there =
    ⊎_elim (λ here. subst (IsWide most) here tt) (λ later. wide-said most statements wide.1 (omega (arith, few)) statement later) there
wide-said most (IsLatch latch ∷ statements) wide few statement there =
    ⊎_elim (λ here. subst (IsWide most) here tt) (λ later. wide-said most statements wide.1 (omega (arith, few)) statement later) there
wide-said most (IsTable gate ∷ statements) wide few statement there =
    let marks : sum_by (length {A = Mark}) gate.rows ≤ most = omega (arith, few) in
    ⊎_elim (λ here. subst (IsWide most) here (rows-wide (length gate.inputs) gate.rows wide.0, marks))
    (λ later. wide-said most statements wide.1 (omega (arith, few)) statement later) there

held-said : (size most : ℕ) (model : Model) → Holds size model most → IsSaid most model
held-said size most model holds = record {
  mentions = holds.mentions ∙ all-said model.statements;
  faultless = holds.faultless;
  wide = wide-said most model.statements holds.wide holds.few;
}

all-held : (size most : ℕ) (parts : List (Part Model)) → PartsHold size parts most → (part : Part Model) → Among part parts → IsSaid most part.own
all-held size most [] all part none = absurd none
all-held size most (first ∷ parts) all part there =
    ⊎_elim (λ here. subst (λ (p : Part Model). IsSaid most p.own) here (held-said size most first.own all.0.own))
    (λ later. all-held size most parts all.1 part later) there

pub parts-said : (text : List ℕ) (parts : List (Part Model)) → models_of text ≡ Ok parts → (part : Part Model) → Among part parts → IsSaid (length text) part.own
parts-said text parts is = all-held (length text) (length text) parts (parts-hold text parts is)
