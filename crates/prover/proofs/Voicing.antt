-- Lines of milestones that are added to a sink, one after the other.
use Rattle.std.proofs.Common.{◌≡◌, refl, sym, ap, ◌∙◌, subst, ℕ, ◌+◌, List, [], ◌∷◌, ◌++◌, length, take, append_assoc, append-nil, arith, Option, None, Some}
use Rattle.std.specs.List.{flat_map}
use Rattle.std.proofs.Math.Seq.{take-append-add}
use Rattle.std.proofs.lemmas.List.{length-append}
use Rattle.std.proofs.lemmas.List.Concat.{flat_map-append}
use Rattle.std.proofs.lemmas.List.Elements.{All-nil, All-push}
use Rattle.psl_base.specs.Faults.{Rose}
use Rattle.psl_base.specs.Sink.{SinkState, AddsAll, AddsPart, with_bytes}
use Rattle.prover.specs.Telling.{HasTold, HasToldPart}
use Rattle.prover.specs.declared.milestone.Milestone.{Milestone}

with-both : (a b : List ℕ) (written : Option (List ℕ)) → with_bytes b (with_bytes a written) ≡ with_bytes (a ++ b) written
with-both a b None = refl
with-both a b (Some bytes) = ap Some (append_assoc bytes a b)

pub with-none : (written : Option (List ℕ)) → with_bytes [] written ≡ written
with-none None = refl
with-none (Some bytes) = ap Some (append-nil bytes)

pub adds-none : (state : SinkState) → AddsAll [] state state
adds-none state = record { written = sym (with-none state.written); faults = refl }

module _ (a b : List ℕ) (old mid new : SinkState) (before : AddsAll a old mid) where
  pub adds-both : AddsAll b mid new → AddsAll (a ++ b) old new
  adds-both h = record {
    written = h.written ∙ ap (with_bytes b) before.written ∙ with-both a b old.written;
    faults = h.faults ∙ before.faults;
  }

  pub adds-part : AddsPart b mid new → AddsPart (a ++ b) old new
  adds-part h = record {
    count = length a + h.count;
    within = omega (arith, h.within, length-append a b);
    written = h.written ∙ ap (with_bytes (take h.count b)) before.written ∙ with-both a (take h.count b) old.written
        ∙ ap (λ (bytes : List ℕ). with_bytes bytes old.written) (sym (take-append-add a b h.count));
    cause = subst (λ (n : ℕ). Rose n new.faults) before.faults h.cause;
    faults = omega (arith, h.faults, before.faults);
  }

module _ (Holds : Milestone → Type 0) (line : Milestone → List ℕ) where
  pub told-none : (state : SinkState) → HasTold Holds line state state
  told-none state = record { told = []; hold = All-nil Holds; added = adds-none state }

  one-more : (told : List Milestone) (milestone : Milestone) → flat_map line told ++ line milestone ≡ flat_map line (told ++ milestone ∷ [])
  one-more told milestone =
      ap (λ (more : List ℕ). flat_map line told ++ more) (sym (append-nil (line milestone)))
      ∙ sym (flat_map-append line told (milestone ∷ []))

  pub told-more : (old mid new : SinkState) (milestone : Milestone) (text : List ℕ) → HasTold Holds line old mid → Holds milestone
      → text ≡ line milestone → AddsAll text mid new → HasTold Holds line old new
  told-more old mid new milestone text h holds is adds = record {
    told = h.told ++ milestone ∷ [];
    hold = All-push Holds h.told milestone h.hold holds;
    added = subst (λ (bytes : List ℕ). AddsAll bytes old new) (one-more h.told milestone)
        (adds-both (flat_map line h.told) (line milestone) old mid new h.added (subst (λ (bytes : List ℕ). AddsAll bytes mid new) is adds));
  }

  pub told-part : (old mid new : SinkState) (milestone : Milestone) (text : List ℕ) → HasTold Holds line old mid → Holds milestone
      → text ≡ line milestone → AddsPart text mid new → HasToldPart Holds line old new
  told-part old mid new milestone text h holds is adds = record {
    told = h.told ++ milestone ∷ [];
    hold = All-push Holds h.told milestone h.hold holds;
    added = subst (λ (bytes : List ℕ). AddsPart bytes old new) (one-more h.told milestone)
        (adds-part (flat_map line h.told) (line milestone) old mid new h.added (subst (λ (bytes : List ℕ). AddsPart bytes mid new) is adds));
  }

-- no words have no part
abbrev silent : Milestone → List ℕ
silent milestone = []

silent-none : (told : List Milestone) → flat_map silent told ≡ []
silent-none [] = refl
silent-none (milestone ∷ told) = silent-none told

pub silent-whole : (Holds : Milestone → Type 0) (old new : SinkState) → HasToldPart Holds silent old new → ⊥
silent-whole Holds old new part = omega (arith, part.added.within, ap length (silent-none part.told))
