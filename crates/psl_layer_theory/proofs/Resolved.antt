-- A tree has one fault at most.
use Rattle.std.proofs.Common.{◌≡◌, ◌≢◌, refl, List, ◌⊎◌, inl, inr, None, Some, sym, ap, ◌∙◌}
use Rattle.psl_base.specs.declared.place.Place.{Place}
use Rattle.psl_grammar.specs.declared.tree.UnitTree as code_tree
use Rattle.psl_tree.specs.declared.name.Name.{Name}
use Rattle.psl_layer_theory.specs.Answers.{IsLayerFault, IsTooLargeAt}
use Rattle.psl_layer_theory.specs.FirstFlaw.{IsFirstFlaw, fault_of}
use Rattle.psl_layer_theory.specs.Flaws.{tree_flaws}
use Rattle.psl_layer_theory.specs.Laws.{OneFault, FirstOfBoth}
use Rattle.psl_layer_theory.specs.declared.fault.Cause.TheVariants as causes
use Rattle.psl_layer_theory.specs.declared.fault.Flaw.{Flaw}
use Rattle.psl_layer_theory.specs.declared.fault.LayerFault.{LayerFault}
use Rattle.psl_layer_theory.specs.declared.fault.LayerFault.TheVariants as faults
use Rattle.psl_layer_theory.proofs.Firsts.{one_first, first_of-append}

pub first_of_both : FirstOfBoth
first_of_both = first_of-append

-- a fault of kinds and names, and how it is named
abbrev Flawed : code_tree.UnitTree → List Name → LayerFault → Type 0
Flawed tree names fault = (flaw : Flaw) × IsFirstFlaw (tree_flaws names tree) (Some flaw) × (fault ≡ fault_of flaw)

-- a directive that is too large
abbrev Large : code_tree.UnitTree → List Name → LayerFault → Type 0
Large tree names fault = (place : Place) × IsTooLargeAt tree names place × (fault ≡ faults.TooLarge place)

-- a fault is one or the other
either : (tree : code_tree.UnitTree) (names : List Name) (fault : LayerFault) → fault ≢ faults.NoMemory → IsLayerFault tree names fault →
    Flawed tree names fault ⊎ Large tree names fault
either tree names (faults.Kind place) is h = inl (record { place = place; cause = causes.Kind }, h, refl)
either tree names (faults.UnknownName place) is h = inl (record { place = place; cause = causes.UnknownName }, h, refl)
either tree names (faults.Ambiguous place) is h = inl (record { place = place; cause = causes.Ambiguous }, h, refl)
either tree names (faults.DeclaredTwice place) is h = inl (record { place = place; cause = causes.DeclaredTwice }, h, refl)
either tree names (faults.EmptyRange place) is h = inl (record { place = place; cause = causes.EmptyRange }, h, refl)
either tree names (faults.ConstantTooWide place) is h = inl (record { place = place; cause = causes.ConstantTooWide }, h, refl)
either tree names (faults.TooLarge place) is h = inr (place, h, refl)
either tree names faults.NoMemory is h = absurd (is refl)

inside : {A : Type 0} (x y : A) → Some x ≡ Some y → x ≡ y
inside x y h = cc

nothing : {A : Type 0} (x : A) → Some x ≡ None → ⊥
nothing x h = cc

same : (tree : code_tree.UnitTree) (names : List Name) (first second : LayerFault) → Flawed tree names first ⊎ Large tree names first → Flawed tree names second ⊎ Large tree names second → first ≡ second
same tree names first second (inl (a, a_first, a_is)) (inl (b, b_first, b_is)) =
    a_is ∙ ap fault_of (inside a b (one_first (tree_flaws names tree) (Some a) (Some b) a_first b_first)) ∙ sym b_is
same tree names first second (inl (a, a_first, a_is)) (inr (q, q_large, q_is)) =
    absurd (nothing a (one_first (tree_flaws names tree) (Some a) None a_first q_large.no_flaw))
same tree names first second (inr (p, p_large, p_is)) (inl (b, b_first, b_is)) =
    absurd (nothing b (one_first (tree_flaws names tree) (Some b) None b_first p_large.no_flaw))
same tree names first second (inr (p, p_large, p_is)) (inr (q, q_large, q_is)) =
    p_is ∙ ap faults.TooLarge (inside p q (sym p_large.first ∙ q_large.first)) ∙ sym q_is

pub one_fault : OneFault
one_fault tree names first second a b h k = same tree names first second (either tree names first a h) (either tree names second b k)
