use Rattle.std.proofs.Common.{◌∙◌, ap, List, map}
use Rattle.blif_flattening.specs.declared.listing.FlatInstance.{FlatInstance}
use Rattle.blif_flattening.specs.Hierarchy.{flat_lines, items_of}
use Rattle.blif_hierarchy.specs.Drivers.{inputs_in}
use Rattle.blif_flat.specs.Inputs.{first_numbers, number_in}
use Rattle.blif_flat.specs.Lines.{inputs_of}
use Rattle.blif_flat.specs.Listing.{View, parts_in}
use Rattle.blif_flat.specs.Naming.{names_in}
use Rattle.blif_flat.specs.declared.parts.FlatParts.{FlatParts}
use Rattle.blif_flat.proofs.Made.{design-is, inputs-flat, names-flat}
use Rattle.blif_flat.proofs.Splitting.{parts-flat}
use Rattle.blif_flat.proofs.flat.flat_netlist.Goals as goal

pub returns-clause-design : goal.returns-clause-design
returns-clause-design c =
    let models = c.args.models.now in
    let texts = c.args.texts.now in
    let parts = parts-flat models (flat_lines models) in
    design-is models texts
    (record { signals = c.in_ok-flat.flat.signals; inputs = c.in_ok-inputs.inputs; parts = c.in_ok-parts.parts; names = c.in_ok-names.names })
    c.in_ok-flat.ensures.signals
    (c.in_ok-inputs.ensures
    ∙ ap (λ (found : List FlatInstance). map (number_in (first_numbers found)) (inputs_in inputs_of (items_of models 0))) c.in_ok-flat.ensures.instances
    ∙ inputs-flat models c.requires.named)
    (ap (λ (p : FlatParts). p.latches) c.in_ok-parts.ensures ∙ ap (λ (views : List View). (parts_in views).latches) c.in_ok-flat.ensures.lines ∙ parts.0)
    (ap (λ (p : FlatParts). p.tables) c.in_ok-parts.ensures ∙ ap (λ (views : List View). (parts_in views).tables) c.in_ok-flat.ensures.lines ∙ parts.1)
    (c.in_ok-names.ensures ∙ ap (names_in texts) c.in_ok-flat.ensures.instances ∙ names-flat models texts c.requires.titled)

pub returns-clause-outputs : goal.returns-clause-outputs
returns-clause-outputs c =
    ap (λ (p : FlatParts). p.outputs) c.in_ok-parts.ensures
    ∙ ap (λ (views : List View). (parts_in views).outputs) c.in_ok-flat.ensures.lines
    ∙ (parts-flat c.args.models.now (flat_lines c.args.models.now)).2
