-- What is found step by step, from the models of a text to its netlist.
use Rattle.std.proofs.Common.{◌≡◌, ℕ, suc, ◌<◌, ◌≤◌, ◌^◌, List, [], ◌∷◌, ◌++◌, length, map, get_or, All, Option, None, Some, refl, sym, ap, ◌∙◌, subst, arith}
use Rattle.std.specs.Prelude.{Ok}
use Rattle.std.specs.Option.{option_map}
use Rattle.std.proofs.lemmas.List.{length-map}
use Rattle.std.proofs.lemmas.List.Elements.{All-nil, All-cons, All-head, All-tail}
use Rattle.psl_base.specs.Places.{file_limit, place_at}
use Rattle.psl_base.specs.Tokens.{PlacedToken}
use Rattle.psl_base.specs.declared.place.Place.{Place}
use Rattle.netlist_order.specs.Graph.{IsFirstOnCycle}
use Rattle.netlist.specs.declared.table.Table.{Table}
use Rattle.netlist.specs.Design.{Design, free_of}
use Rattle.netlist.specs.Sound.{AreApart, IsSound}
use Rattle.netlist_order.specs.TableGraph.{table_graph}
use Rattle.blif_flattening.specs.Hierarchy.{flat_lines}
use Rattle.blif_flattening.specs.Numbers.{signals}
use Rattle.blif_hierarchy.specs.declared.place.PlacementAt.{PlacementAt}
use Rattle.blif_hierarchy.specs.Depth.{IsTooDeep}
use Rattle.blif_hierarchy.specs.First.{Finds, IsClosed}
use Rattle.blif_hierarchy.specs.Order.{IsRecursive}
use Rattle.blif_hierarchy.specs.declared.cost.Scale.{Scale}
use Rattle.blif_hierarchy.specs.Sums.{AreInForm, FindsLong, FindsPast, FitsWords}
use Rattle.blif_flat.specs.Flat.{Models, flat_design, flat_outputs, AreSound}
use Rattle.blif_flat.specs.Inputs.{design_in}
use Rattle.blif_flat.specs.Lines.{mentions_of}
use Rattle.blif_flat.specs.declared.flat.FlatNetlist.{FlatNetlist}
use Rattle.blif_model.specs.declared.fault.BlifFault.TheVariants.{UnknownModel, BadConnection, ModelRecursion, TooDeep, DrivenBySubckt, Undriven, TooLarge, CombinationalCycle}
use Rattle.blif_model.specs.declared.file.FileModel.{FileModel}
use Rattle.blif_model.specs.declared.file.FileText.{FileText}
use Rattle.blif_model.specs.declared.file.PlacementLine.{PlacementLine}
use Rattle.blif_model.specs.declared.pieces.Span.{Span}
use Rattle.blif_model.specs.FileKnown.{IsNumbered, OwnLines, numbered_part, part_in, placing_in}
use Rattle.blif_model.specs.Files.{Part, models_of}
use Rattle.blif_model.specs.Models.{Model}
use Rattle.blif_model.specs.Rules.{signal_limit}
use Rattle.blif_model.specs.Scanning.{word_of}
use Rattle.blif_model.proofs.Held.{models-few}
use Rattle.blif_linking.specs.Bare.{bare, bare_model}
use Rattle.blif_linking.specs.Linked.{IsHierarchy, linked, linked_model}
use Rattle.blif_linking.specs.Names.{Parts, first_bad, first_driven, first_undriven, first_unknown}
use Rattle.blif_linking.specs.Sizes.{scale_of, start_of, starts_of}
use Rattle.blif_linking.specs.declared.linking.LinkedModels.{LinkedModels}
use Rattle.blif_linking.proofs.Bare.{finds-long}
use Rattle.blif_laws.specs.Plain.{IsPlain}
use Rattle.blif_laws.proofs.Bounds.{few-signals}
use Rattle.blif_laws.proofs.Hierarchies.{are-sound, flat-sound, names-are-plain, placements-closed, placements-formed, signals-few, tables-few}
use Rattle.blif_reader.specs.declared.kept.Kept.{Kept}
use Rattle.blif_reader.specs.declared.shape.Shape.{Shape}
use Rattle.blif_reader.specs.Faults.{FromBad, FromDeep, FromDriven, FromLarge, FromLong, FromRecursion, FromUndriven, IsCycleFault, SeeksLong, in_top, place_in, title_at, title_place, titles_in, titles_of}
use Rattle.blif_reader.specs.Kept.{IsFlat, IsKnown, IsLinked, IsShape, LooksLong, line_titles, model_titles, scale_in, span_place, start_at, starts_in, title_span}
use Rattle.blif_reader.specs.Meaning.{IsWholeFault}
use Rattle.blif_reader.proofs.Asking.{here-asked, here-sought}
use Rattle.blif_reader.proofs.Readings.{IsFit, after-apart, after-connected, after-driven, after-finite, after-fit, after-known, after-shallow, after-short, fit-of, hierarchy-of, none-in, tables-of}

-- the names of models in `.subckt`s, by spans and by words
title_is : (whole : List ℕ) (line : PlacementLine) → title_at (placing_in whole line) ≡ (title_span line).at
title_is whole line = by_words line.words
  where
    by_words : (words : List Span) → title_at (record { head = word_of whole line.head; words = map (word_of whole) words; before = line.before })
        ≡ (title_span (record { head = line.head; words = words; before = line.before })).at
    by_words [] = refl
    by_words (word ∷ words) = refl

titles_line : (whole : List ℕ) (lines : List PlacementLine) → line_titles lines ≡ map title_at (map (placing_in whole) lines)
titles_line whole [] = refl
titles_line whole (line ∷ lines) =
    ap (λ (n : ℕ). n ∷ line_titles lines) (sym (title_is whole line)) ∙ ap (λ (ns : List ℕ). title_at (placing_in whole line) ∷ ns) (titles_line whole lines)

titles_model : (whole : List ℕ) (models : List FileModel) → map model_titles models ≡ map (titles_of {Own = OwnLines}) (map (part_in whole) models)
titles_model whole [] = refl
titles_model whole (model ∷ models) =
    ap (λ (ns : List ℕ). ns ∷ map model_titles models) (titles_line whole model.placements)
    ∙ ap (λ (rest : List (List ℕ)). titles_of {Own = OwnLines} (part_in whole model) ∷ rest) (titles_model whole models)

titles_part : (whole : List ℕ) (parts : Parts) → map (titles_of {Own = OwnLines}) (map (numbered_part whole) parts) ≡ titles_in parts
titles_part whole [] = refl
titles_part whole (part ∷ parts) = ap (λ (rest : List (List ℕ)). titles_of {Own = Model} part ∷ rest) (titles_part whole parts)

pub titles-kept : (whole : List ℕ) (text : FileText) (parts : Parts) → IsNumbered whole text parts → map model_titles text.models ≡ titles_in parts
titles-kept whole text parts numbered =
    titles_model whole text.models ∙ ap (λ (all : List (Part OwnLines)). map (titles_of {Own = OwnLines}) all) numbered.0 ∙ titles_part whole parts

-- where models begin, by spans and by words
start_is : (whole : List ℕ) (title : Option Span) → start_at title ≡ start_of (option_map (word_of whole) title)
start_is whole None = refl
start_is whole (Some title) = refl

starts_model : (whole : List ℕ) (size : ℕ) (models : List FileModel) → starts_in size models ≡ starts_of {Own = OwnLines} size (map (part_in whole) models)
starts_model whole size [] = refl
starts_model whole size (model ∷ models) =
    ap (λ (n : ℕ). n ∷ starts_in size models) (start_is whole model.title)
    ∙ ap (λ (ns : List ℕ). start_of (option_map (word_of whole) model.title) ∷ ns) (starts_model whole size models)

starts_part : (whole : List ℕ) (size : ℕ) (parts : Parts) → starts_of {Own = OwnLines} size (map (numbered_part whole) parts) ≡ starts_of size parts
starts_part whole size [] = refl
starts_part whole size (part ∷ parts) = ap (λ (rest : List ℕ). start_of part.title ∷ rest) (starts_part whole size parts)

abbrev with-starts : List ℕ → Scale
with-starts starts = record { count = signal_limit; size = file_limit; starts = starts }

pub scale-kept : (whole : List ℕ) (text : FileText) (parts : Parts) → IsNumbered whole text parts → scale_in whole text.models ≡ scale_of whole parts
scale-kept whole text parts numbered =
    ap with-starts
    (starts_model whole (length whole) text.models ∙ ap (λ (all : List (Part OwnLines)). starts_of {Own = OwnLines} (length whole) all) numbered.0
    ∙ starts_part whole (length whole) parts)

-- before models are linked
module _ (whole : List ℕ) (parts : Parts) (said : models_of whole ≡ Ok parts) where
  pub unknown-fault : (found : Option Span) (word : Span) (place : Place) → option_map (word_of whole) found ≡ first_unknown parts → found ≡ Some word
      → place ≡ place_at whole word.at → IsWholeFault whole (UnknownModel place)
  unknown-fault found word place same is at =
      let first : place_in (first_unknown parts) ≡ Some (place_at whole word.at) =
      ap place_in (sym same) ∙ ap (λ (f : Option Span). place_in (option_map (word_of whole) f)) is in
      record {
        parts = parts;
        said = said;
        first = here-asked UnknownModel (place_in (first_unknown parts)) (FromLong whole parts) (place_at whole word.at) (UnknownModel place) first (ap UnknownModel at);
      }

  pub long-fault : (shape : Shape) (k : ℕ) (place : Place) → first_unknown parts ≡ None → IsShape whole parts shape → shape.long ≡ Some k
      → place ≡ title_place whole shape.titles (in_top k) → IsWholeFault whole (TooLarge place)
  long-fault shape k place known is some at =
      let long : SeeksLong (linked parts) (scale_of whole parts) (Some k) = subst (λ (f : Option ℕ). SeeksLong (linked parts) (scale_of whole parts) f) some is.long_is in
      let titled : place ≡ title_place whole (titles_in parts) (in_top k) = at ∙ ap (λ (titles : List (List ℕ)). title_place whole titles (in_top k)) is.titles_are in
      record {
        parts = parts;
        said = said;
        first = after-known whole parts (TooLarge place) known
            (here-sought TooLarge (SeeksLong (linked parts) (scale_of whole parts)) (λ n. title_place whole (titles_in parts) (in_top n)) (FromBad whole parts) k (TooLarge place)
            long (ap TooLarge titled));
      }

  pub short-shape : (shape : Shape) → IsShape whole parts shape → shape.long ≡ None → SeeksLong (linked parts) (scale_of whole parts) None
  short-shape shape is none = subst (λ (f : Option ℕ). SeeksLong (linked parts) (scale_of whole parts) f) none is.long_is

  pub bad-fault : (found : Option Span) (word : Span) (place : Place) → first_unknown parts ≡ None → SeeksLong (linked parts) (scale_of whole parts) None → option_map (word_of whole) found ≡ first_bad parts → found ≡ Some word
      → place ≡ place_at whole word.at → IsWholeFault whole (BadConnection place)
  bad-fault found word place known short same is at =
      let first : place_in (first_bad parts) ≡ Some (place_at whole word.at) =
      ap place_in (sym same) ∙ ap (λ (f : Option Span). place_in (option_map (word_of whole) f)) is in
      record {
        parts = parts;
        said = said;
        first = after-short whole parts (BadConnection place) known short
            (here-asked BadConnection (place_in (first_bad parts)) (FromRecursion whole parts) (place_at whole word.at) (BadConnection place) first (ap BadConnection at));
      }

pub none-found : (whole : List ℕ) (found : Option Span) (first : Option PlacedToken) → option_map (word_of whole) found ≡ first → found ≡ None → first ≡ None
none-found whole found first same none = sym same ∙ ap (λ (f : Option Span). option_map (word_of whole) f) none

-- by the outline of models
module _ (whole : List ℕ) (text : FileText) (known : IsKnown whole text) (models : Models) (is : models ≡ bare (linked known.parts)) where
  pub outline-few : length whole ≤ file_limit → length models < 2 ^ 32
  outline-few room =
      let parts : Parts = known.parts in
      let same = ap length is in
      let bared = length-map (linked parts) bare_model in
      let size = length-map parts (linked_model parts) in
      let few = models-few whole parts known.read.0 in
      omega (arith, same, bared, size, few, room)

pub looked-long : (models : Models) (scale : Scale) (recursive deep : Option PlacementAt) (found : Option ℕ) → Finds (IsRecursive models) recursive → Finds (IsTooDeep models) deep
    → LooksLong (bare models) scale recursive deep found → SeeksLong models scale found
looked-long models scale None None found never low looks = by_found found (finds-long models scale found looks)
  where
    by_found : (found : Option ℕ) → FindsLong models scale found → SeeksLong models scale found
    by_found None finds = λ are. finds
    by_found (Some k) finds = (record { finite = never; shallow = low }, finds)
looked-long models scale None (Some at) found never far looks = subst (λ (f : Option ℕ). SeeksLong models scale f) (sym looks) (λ are. absurd (are.shallow at.model at.placement far.holds))
looked-long models scale (Some at) deep found back far looks = subst (λ (f : Option ℕ). SeeksLong models scale f) (sym looks) (λ are. absurd (are.finite at.model at.placement back.holds))

-- of linked models
module _ (whole : List ℕ) (all : LinkedModels) (kept : Kept) (is : IsLinked whole all kept) where
  pub linked-closed : IsClosed all.models
  linked-closed = subst IsClosed (sym is.models_are) (placements-closed is.parts is.known is.connected)

  pub linked-form : AreInForm all.models
  linked-form = subst AreInForm (sym is.models_are) (placements-formed is.parts is.known is.connected)

  titled : (at : PlacementAt) (place : Place) → place ≡ title_place whole kept.shape.titles at → place ≡ title_place whole (titles_in is.parts) at
  titled at place same = same ∙ ap (λ (titles : List (List ℕ)). title_place whole titles at) is.keeps.shape_is.titles_are

  past_of : (found : Option ℕ) → FindsPast all.models kept.shape.scale found → FindsPast (linked is.parts) (scale_of whole is.parts) found
  past_of found finds =
      subst (λ (scale : Scale). FindsPast (linked is.parts) scale found) is.keeps.shape_is.scale_is
      (subst (λ (ms : Models). FindsPast ms kept.shape.scale found) is.models_are finds)

  pub linked-words : FitsWords kept.shape.scale
  linked-words = subst FitsWords (sym is.keeps.shape_is.scale_is) (omega arith, omega arith)

  pub recursion-fault : (at : PlacementAt) (place : Place) → kept.shape.recursive ≡ Some at → place ≡ title_place whole kept.shape.titles at
      → IsWholeFault whole (ModelRecursion place)
  recursion-fault at place some same = record {
    parts = is.parts;
    said = is.said;
    first = after-connected whole is.parts (ModelRecursion place) is.known is.short is.connected
        (here-sought ModelRecursion (Finds (IsRecursive (linked is.parts))) (title_place whole (titles_in is.parts)) (FromDeep whole is.parts) at (ModelRecursion place)
        (subst (λ (f : Option PlacementAt). Finds (IsRecursive (linked is.parts)) f) some is.keeps.shape_is.recursive_is) (ap ModelRecursion (titled at place same)));
  }

  -- nothing contains itself
  module _ (finite : kept.shape.recursive ≡ None) where
    never : Finds (IsRecursive (linked is.parts)) None
    never = subst (λ (f : Option PlacementAt). Finds (IsRecursive (linked is.parts)) f) finite is.keeps.shape_is.recursive_is

    pub deep-fault : (at : PlacementAt) (place : Place) → kept.shape.deep ≡ Some at → place ≡ title_place whole kept.shape.titles at → IsWholeFault whole (TooDeep place)
    deep-fault at place some same = record {
      parts = is.parts;
      said = is.said;
      first = after-finite whole is.parts (TooDeep place) is.known is.short is.connected never
          (here-sought TooDeep (Finds (IsTooDeep (linked is.parts))) (title_place whole (titles_in is.parts)) (FromDriven whole is.parts) at (TooDeep place)
          (subst (λ (f : Option PlacementAt). Finds (IsTooDeep (linked is.parts)) f) some is.keeps.shape_is.deep_is) (ap TooDeep (titled at place same)));
    }

    -- and nothing is too deep
    module _ (shallow : kept.shape.deep ≡ None) where
      low : Finds (IsTooDeep (linked is.parts)) None
      low = subst (λ (f : Option PlacementAt). Finds (IsTooDeep (linked is.parts)) f) shallow is.keeps.shape_is.deep_is

      pub driven-fault : (word : Span) (place : Place) → kept.driven ≡ Some word → place ≡ place_at whole word.at → IsWholeFault whole (DrivenBySubckt place)
      driven-fault word place some same =
          let first : place_in (first_driven is.parts) ≡ Some (place_at whole word.at) = sym is.keeps.driven_is ∙ ap (span_place whole) some in
          record {
            parts = is.parts;
            said = is.said;
            first = after-shallow whole is.parts (DrivenBySubckt place) is.known is.short is.connected never low
                (here-asked DrivenBySubckt (place_in (first_driven is.parts)) (FromUndriven whole is.parts) (place_at whole word.at) (DrivenBySubckt place) first (ap DrivenBySubckt same));
          }

      -- and no name has two drivers
      module _ (apart : kept.driven ≡ None) where
        single : first_driven is.parts ≡ None
        single = none-in (first_driven is.parts) (sym is.keeps.driven_is ∙ ap (span_place whole) apart)

        pub undriven-fault : (word : Span) (place : Place) → kept.undriven ≡ Some word → place ≡ place_at whole word.at → IsWholeFault whole (Undriven place)
        undriven-fault word place some same =
            let first : place_in (first_undriven is.parts) ≡ Some (place_at whole word.at) = sym is.keeps.undriven_is ∙ ap (span_place whole) some in
            record {
              parts = is.parts;
              said = is.said;
              first = after-apart whole is.parts (Undriven place) is.known is.short is.connected never low single
                  (here-asked Undriven (place_in (first_undriven is.parts)) (FromLarge whole is.parts) (place_at whole word.at) (Undriven place) first (ap Undriven same));
            }

        -- and each has one
        module _ (driven : kept.undriven ≡ None) where
          each : first_undriven is.parts ≡ None
          each = none-in (first_undriven is.parts) (sym is.keeps.undriven_is ∙ ap (span_place whole) driven)

          pub large-fault : (found : Option ℕ) (k : ℕ) (place : Place) → FindsPast all.models kept.shape.scale found → found ≡ Some k
              → place ≡ title_place whole kept.shape.titles (in_top k) → IsWholeFault whole (TooLarge place)
          large-fault found k place finds some same = record {
            parts = is.parts;
            said = is.said;
            first = after-driven whole is.parts (TooLarge place) is.known is.short is.connected never low single each
                (here-sought TooLarge (FindsPast (linked is.parts) (scale_of whole is.parts)) (λ n. title_place whole (titles_in is.parts) (in_top n)) (IsCycleFault whole is.parts) k (TooLarge place)
                (past_of (Some k) (subst (λ (f : Option ℕ). FindsPast all.models kept.shape.scale f) some finds)) (ap TooLarge (titled (in_top k) place same)));
          }

          -- and the sums are in bounds
          module _ (large : Option ℕ) (summed : FindsPast all.models kept.shape.scale large) (few : large ≡ None) where
            fit : IsFit whole is.parts
            fit = record {
              known = is.known;
              connected = is.connected;
              finite = never;
              shallow = low;
              apart = single;
              driven = each;
              few = past_of None (subst (λ (f : Option ℕ). FindsPast all.models kept.shape.scale f) few summed);
            }

            pub fits : IsHierarchy whole all.models all.texts
            fits =
                subst (λ (ms : Models). IsHierarchy whole ms all.texts) (sym is.models_are)
                (subst (λ (ts : List (List (List ℕ))). IsHierarchy whole (linked is.parts) ts) (sym is.texts_are) (hierarchy-of whole is.parts is.said fit))

            pub sound-models : AreSound all.models all.texts signal_limit (length whole)
            sound-models = are-sound whole all.models all.texts fits

            pub few-flat : length (signals mentions_of all.models) ≤ 2 ^ 32
            few-flat = let few = few-signals all.models all.texts signal_limit (length whole) sound-models in omega (arith, few)

-- the outputs of the tables of a sound netlist are signals, no two of them the same
outputs-below : (design : Design) → IsSound design → All (λ (table : Table). table.output < design.signals) design.tables
outputs-below design is = below_map design.signals design.tables (below_behind (free_of design) (map (λ (table : Table). table.output) design.tables) is.driven)
  where
    below_behind : (free outputs : List ℕ) → All (λ signal. signal < design.signals) (free ++ outputs) → All (λ signal. signal < design.signals) outputs
    below_behind [] outputs all = all
    below_behind (first ∷ free) outputs all = below_behind free outputs (All-tail (λ signal. signal < design.signals) first (free ++ outputs) all)

    below_map : (limit : ℕ) (tables : List Table) → All (λ signal. signal < limit) (map (λ (table : Table). table.output) tables) → All (λ (table : Table). table.output < limit) tables
    below_map limit [] all = All-nil (λ (table : Table). table.output < limit)
    below_map limit (table ∷ tables) all =
        All-cons (λ (t : Table). t.output < limit) table tables
        (All-head (λ signal. signal < limit) table.output (map (λ (t : Table). t.output) tables) all)
        (below_map limit tables (All-tail (λ signal. signal < limit) table.output (map (λ (t : Table). t.output) tables) all))

outputs-once : (design : Design) → IsSound design → AreApart (map (λ (table : Table). table.output) design.tables)
outputs-once design is = behind (free_of design) (map (λ (table : Table). table.output) design.tables) is.once
  where
    behind : (free outputs : List ℕ) → AreApart (free ++ outputs) → AreApart outputs
    behind [] outputs apart = apart
    behind (first ∷ free) outputs apart =
        behind free outputs (λ i j i_in j_in same. let next = apart (suc i) (suc j) (omega arith) (omega arith) same in omega arith)

-- of the flat netlist
module _ (whole : List ℕ) (flat : FlatNetlist) (is : IsFlat whole flat) where
  pub flat-few : flat.signals ≤ signal_limit
  flat-few =
      let same : flat.signals ≡ (flat_design is.models is.texts).signals = ap (λ (d : Design). d.signals) is.design in
      let few = signals-few whole is.models is.texts is.fits in
      omega (arith, same, few)

  pub flat-tables : length flat.parts.tables < 2 ^ 32
  flat-tables =
      let same : length flat.parts.tables ≡ length (flat_design is.models is.texts).tables = ap (λ (d : Design). length d.tables) is.design in
      let few = tables-few whole is.models is.texts is.fits in
      omega (arith, same, few)

  pub flat-plain : All IsPlain flat.names
  flat-plain = subst (λ (d : Design). All IsPlain d.names) (sym is.design) (names-are-plain whole is.models is.texts is.fits)

  pub netlist-sound : length whole ≤ file_limit → IsSound (design_in flat)
  netlist-sound room = subst IsSound (sym is.design) (flat-sound whole is.models is.texts is.fits room)

  pub flat-outputs : length whole ≤ file_limit → All (λ (table : Table). table.output < flat.signals) flat.parts.tables
  flat-outputs room = outputs-below (design_in flat) (netlist-sound room)

  pub flat-once : length whole ≤ file_limit → AreApart (map (λ (table : Table). table.output) flat.parts.tables)
  flat-once room = outputs-once (design_in flat) (netlist-sound room)

  pub cycle-fault : (table at : ℕ) (place : Place) → IsFirstOnCycle (table_graph flat.parts.tables) table → at ≡ get_or flat.parts.outputs table 0
      → place ≡ place_at whole at → IsWholeFault whole (CombinationalCycle place)
  cycle-fault table at place first same placed =
      let parts : Parts = is.fits.parts in
      let design = tables-of whole is.models is.texts is.fits (design_in flat) is.design in
      let there : at ≡ get_or (flat_outputs (flat_lines (linked parts))) table 0 =
      same ∙ ap (λ (outputs : List ℕ). get_or outputs table 0) (is.outputs ∙ ap (λ (ms : Models). flat_outputs (flat_lines ms)) is.fits.models_are) in
      let cycle : IsCycleFault whole parts (CombinationalCycle place) = record {
        table = table;
        first = subst (λ (d : Design). IsFirstOnCycle (table_graph d.tables) table) design first;
        is = ap CombinationalCycle (placed ∙ ap (place_at whole) there);
      } in
      record {
        parts = parts;
        said = is.fits.said;
        first = after-fit whole parts (CombinationalCycle place) (fit-of whole is.models is.texts is.fits) cycle;
      }
