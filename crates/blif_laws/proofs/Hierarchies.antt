-- Models that fit together are sound as a hierarchy, and so is their flat netlist.
use Rattle.std.proofs.Common.{◌≡◌, ℕ, ◌+◌, ◌*◌, ◌<◌, ◌≤◌, ◌^◌, List, length, All, None, Result, Ok, sym, ap, ◌∙◌, subst, arith}
use Rattle.psl_base.specs.Places.{file_limit}
use Rattle.blif_model.specs.declared.fault.BlifFault.{BlifFault}
use Rattle.blif_laws.proofs.Instances.{all-instances, all-names}
use Rattle.netlist.specs.Sound.{IsSound}
use Rattle.blif_model.specs.Rules.{signal_limit}
use Rattle.blif_linking.specs.Linked.{IsHierarchy, linked, linked_texts}
use Rattle.blif_linking.specs.Sizes.{scale_of, starts_of}
use Rattle.blif_flat.specs.Flat.{Models, flat_design, flat_names, flat_outputs, AreSound}
use Rattle.blif_flat.specs.Trees.{IsUnfolded}
use Rattle.blif_flat.proofs.Sound.{sound}
use Rattle.blif_flat.proofs.Unfolded.{is-unfolded}
use Rattle.blif_hierarchy.specs.Depth.{IsTooDeep}
use Rattle.blif_hierarchy.specs.First.{Finds, IsClosed}
use Rattle.blif_hierarchy.specs.Sums.{AreInForm, FindsPast}
use Rattle.blif_laws.specs.Named.{HasAllNames, ListsAllInstances, ListsAllNames}
use Rattle.blif_laws.proofs.Named.{has-names}
use Rattle.blif_laws.specs.Runs.{HasRuns}
use Rattle.blif_laws.proofs.Runs.{has-runs}
use Rattle.blif_laws.proofs.Placings.{placed-well}
use Rattle.blif_laws.proofs.Saying.{parts-said}
use Rattle.blif_laws.proofs.Sound as linking
use Rattle.blif_laws.proofs.Bounds.{few-signals, few-tables, places-within}
use Rattle.blif_laws.proofs.Plain.{names-visible}
use Rattle.blif_laws.specs.Plain.{IsPlain}
use Rattle.blif_model.proofs.Held.{parts-hold}
use Rattle.blif_linking.specs.Names.{Parts, first_bad, first_unknown}
use Rattle.blif_flattening.specs.Hierarchy.{flat_lines}

pub are-sound : (text : List ℕ) (models : Models) (texts : List (List (List ℕ))) → IsHierarchy text models texts → AreSound models texts signal_limit (length text)
are-sound text models texts is =
    let same = is.models_are in
    subst (λ (ms : Models). AreSound ms texts signal_limit (length text)) (sym same)
    (subst (λ (ts : List (List (List ℕ))). AreSound (linked is.parts) ts signal_limit (length text)) (sym is.texts_are)
    (linking.sound is.parts (length text) (parts-said text is.parts is.said) is.known is.connected file_limit (starts_of (length text) is.parts)
    (subst (λ (ms : Models). Finds (IsTooDeep ms) None) same is.shallow) is.apart is.driven
    (subst (λ (ms : Models). FindsPast ms (scale_of text is.parts) None) same is.few)))

pub names-all : (text : List ℕ) (models : Models) (texts : List (List (List ℕ))) → IsHierarchy text models texts → HasAllNames models
names-all text models texts is =
    let same = is.models_are in
    subst HasAllNames (sym same)
    (has-names is.parts (placed-well is.parts is.known is.connected) (linking.is-named is.parts is.known is.connected))

-- there is room for its signals and marks
room : (size : ℕ) → size ≤ file_limit → signal_limit + signal_limit * size < 2 ^ 63
room size few = omega (arith, few)

pub flat-sound : (text : List ℕ) (models : Models) (texts : List (List (List ℕ))) → IsHierarchy text models texts → length text ≤ file_limit
    → IsSound (flat_design models texts)
flat-sound text models texts is few = sound models texts signal_limit (length text) (are-sound text models texts is) (room (length text) few)

pub unfolds : (text : List ℕ) (models : Models) (texts : List (List (List ℕ))) → IsHierarchy text models texts → IsUnfolded models texts
unfolds text models texts is =
    let are = are-sound text models texts is in
    is-unfolded models texts (length text) are.whole are.formed

pub runs : (text : List ℕ) (models : Models) (texts : List (List (List ℕ))) → IsHierarchy text models texts → HasRuns models texts
runs text models texts is =
    let are = are-sound text models texts is in
    has-runs models texts (length text) are.whole are.formed

-- what is read besides
pub signals-few : (text : List ℕ) (models : Models) (texts : List (List (List ℕ))) → IsHierarchy text models texts → (flat_design models texts).signals ≤ signal_limit
unfolding flat_design
signals-few text models texts is = few-signals models texts signal_limit (length text) (are-sound text models texts is)

pub tables-few : (text : List ℕ) (models : Models) (texts : List (List (List ℕ))) → IsHierarchy text models texts → length (flat_design models texts).tables ≤ signal_limit
unfolding flat_design
tables-few text models texts is = few-tables models texts signal_limit (length text) (are-sound text models texts is)

pub names-are-plain : (text : List ℕ) (models : Models) (texts : List (List (List ℕ))) → IsHierarchy text models texts → All IsPlain (flat_design models texts).names
unfolding flat_design
names-are-plain text models texts is =
    subst (λ (ts : List (List (List ℕ))). All IsPlain (flat_names models ts)) (sym is.texts_are)
    (names-visible is.parts (length text) (length text) (parts-hold text is.parts is.said) models)

pub outputs-are-within : (text : List ℕ) (models : Models) (texts : List (List (List ℕ))) → IsHierarchy text models texts
    → All (λ at. at ≤ length text) (flat_outputs (flat_lines models))
outputs-are-within text models texts is =
    subst (λ (ms : Models). All (λ at. at ≤ length text) (flat_outputs (flat_lines ms))) (sym is.models_are)
    (places-within is.parts (length text) (length text) (parts-hold text is.parts is.said))

-- before all is known
pub placements-closed : (parts : Parts) → first_unknown parts ≡ None → first_bad parts ≡ None → IsClosed (linked parts)
placements-closed parts known fit m placement there = linking.placed-below parts known fit m placement there

pub placements-formed : (parts : Parts) → first_unknown parts ≡ None → first_bad parts ≡ None → AreInForm (linked parts)
placements-formed parts known fit m placement there = linking.placed-form parts known fit m placement there

-- the names of the netlist
pub lists-names : (text : List ℕ) (models : Models) (texts : List (List (List ℕ))) → IsHierarchy text models texts → ListsAllNames models texts
lists-names text models texts is =
    let are = are-sound text models texts is in
    all-names models are.whole (names-all text models texts is) texts are.titled

pub lists-instances : (text : List ℕ) (models : Models) (texts : List (List (List ℕ))) → IsHierarchy text models texts → ListsAllInstances models
lists-instances text models texts is = all-instances models (are-sound text models texts is).whole

-- a text says one hierarchy at the most
pub one-hierarchy : (text : List ℕ) (models others : Models) (texts titles : List (List (List ℕ))) → IsHierarchy text models texts → IsHierarchy text others titles
    → (models ≡ others) × (texts ≡ titles)
one-hierarchy text models others texts titles first second =
    let said : ◌≡◌ {A = Result Parts BlifFault} (Ok first.parts) (Ok second.parts) = sym first.said ∙ second.said in
    let same : first.parts ≡ second.parts = cc in (
      first.models_are ∙ ap linked same ∙ sym second.models_are,
      first.texts_are ∙ ap linked_texts same ∙ sym second.texts_are,
    )
