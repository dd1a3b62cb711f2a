-- What is told of one directive behind what was told of others.
use Rattle.std.proofs.Common.{◌≡◌, sym, ap, ◌∙◌, subst, ℕ, ◌<◌, Bool as Truth, true, List, [], ◌++◌, length, map}
use Rattle.std.specs.Prelude.{All, slice_index_or}
use Rattle.std.specs.List.{flat_map, Contains}
use Rattle.std.proofs.lemmas.List.Concat.{flat_map-append}
use Rattle.std.proofs.lemmas.List.Elements.{All-append, All-map, All-nil, All-weaker}
use Rattle.std.proofs.lemmas.List.Folds.{flat_map-map}
use Rattle.findings.specs.Telling.{HaveTold, HaveToldPart, IsEntryFault, IsProveFault, IsStep, Step, lines_of}
use Rattle.netlist.specs.Design.{Design}
use Rattle.owed.specs.Owed.{is_asked}
use Rattle.prover.proofs.Voicing.{adds-both, adds-none, adds-part}
use Rattle.prover.specs.Milestones.{IsMilestone}
use Rattle.prover.specs.Telling.{HasTold, HasToldPart, IsFaultAt}
use Rattle.prover.specs.declared.halt.ProveFault.{ProveFault}
use Rattle.prover.specs.declared.halt.ProveFault.TheVariants as faults
use Rattle.prover.specs.declared.milestone.Milestone.{Milestone}
use Rattle.prover.specs.declared.task.Task.{Task}
use Rattle.psl_base.specs.Sink.{SinkState, AddsAll, AddsPart}
use Rattle.psl_tree.specs.declared.directive.Directive.{Directive}

module _ (design : Design) (unit : List Directive) (covers : Truth) (line : Directive → Milestone → List ℕ) where
  pub told-nothing : (state : SinkState) → HaveTold design unit covers line state state
  told-nothing state = record { steps = []; hold = All-nil (IsStep design unit covers); added = adds-none state }

  -- the steps of one directive
  abbrev of-one : Directive → List Milestone → List Step
  of-one directive told = map (λ milestone. (directive, milestone)) told

  one-lines : (directive : Directive) (steps : List Step) (told : List Milestone)
      → lines_of line steps ++ flat_map (line directive) told ≡ lines_of line (steps ++ of-one directive told)
  one-lines directive steps told =
      ap (λ (more : List ℕ). lines_of line steps ++ more)
      (sym (flat_map-map (λ (step : Step). line step.0 step.1) (λ (milestone : Milestone). (directive, milestone)) told))
      ∙ sym (flat_map-append (λ (step : Step). line step.0 step.1) steps (of-one directive told))

  module _ (directive : Directive) (member : Contains unit directive) (asked : is_asked covers directive.kind ≡ true) where
    step-of : (milestone : Milestone) → IsMilestone design unit directive milestone → IsStep design unit covers (directive, milestone)
    step-of milestone holds = record { directive = member; asked = asked; holds = holds }

    one-hold : (told : List Milestone) → All (IsMilestone design unit directive) told → All (IsStep design unit covers) (of-one directive told)
    one-hold told hold = All-map (IsStep design unit covers) (λ (milestone : Milestone). (directive, milestone)) told
        (All-weaker (IsMilestone design unit directive) (λ (milestone : Milestone). IsStep design unit covers (directive, milestone)) step-of told hold)

    module _ (old mid new : SinkState) (before : HaveTold design unit covers line old mid) where
      pub told-then : HasTold (IsMilestone design unit directive) (line directive) mid new → HaveTold design unit covers line old new
      told-then h = record {
        steps = before.steps ++ of-one directive h.told;
        hold = All-append (IsStep design unit covers) before.steps (of-one directive h.told) before.hold (one-hold h.told h.hold);
        added = subst (λ (bytes : List ℕ). AddsAll bytes old new) (one-lines directive before.steps h.told)
            (adds-both (lines_of line before.steps) (flat_map (line directive) h.told) old mid new before.added h.added);
      }

      pub part-then : HasToldPart (IsMilestone design unit directive) (line directive) mid new → HaveToldPart design unit covers line old new
      part-then h = record {
        steps = before.steps ++ of-one directive h.told;
        hold = All-append (IsStep design unit covers) before.steps (of-one directive h.told) before.hold (one-hold h.told h.hold);
        added = subst (λ (bytes : List ℕ). AddsPart bytes old new) (one-lines directive before.steps h.told)
            (adds-part (lines_of line before.steps) (flat_map (line directive) h.told) old mid new before.added h.added);
      }

-- the same where one directive ends it
pub fault-then : (design : Design) (unit : List Directive) (covers : Truth) (line : Directive → Milestone → List ℕ) (directive : Directive)
    → Contains unit directive → is_asked covers directive.kind ≡ true → (old mid new : SinkState)
    → HaveTold design unit covers line old mid → (fault : ProveFault) → IsEntryFault design unit directive line mid new fault
    → IsProveFault design unit covers line old new fault
fault-then design unit covers line directive member asked old mid new before faults.Unwritten h =
    part-then design unit covers line directive member asked old mid new before h
fault-then design unit covers line directive member asked old mid new before faults.NoMemory h =
    told-then design unit covers line directive member asked old mid new before h

-- a fault of a task is one of its directive
pub entry-fault : (task : Task) (line : Directive → Milestone → List ℕ) (old new : SinkState) (fault : ProveFault) → IsFaultAt task line old new fault
    → IsEntryFault task.netlist.now task.unit.now task.directive.now line old new fault
entry-fault task line old new faults.Unwritten h = h
entry-fault task line old new faults.NoMemory h = h

-- a directive at a place of the text is one of it
pub member-of : (unit items : List Directive) (place : ℕ) (directive : Directive) → items ≡ unit → place < length items
    → directive ≡ slice_index_or items place directive → Contains unit directive
member-of unit items place directive same lt here = subst (λ (ds : List Directive). Contains ds directive) same (place, lt, sym here)
