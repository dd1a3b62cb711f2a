-- Models that fit together have just one driver for each of their names.
use Rattle.std.proofs.Common.{◌≡◌, ℕ, zero, suc, ◌+◌, ◌<◌, ◌≤◌, inl, inr, eqb, List, [], ◌∷◌, ◌++◌, length, map, slice_get, option_and_then, Option, None, Some, refl, sym, ap, ◌∙◌, subst, ⊎_elim, arith}
use Rattle.std.proofs.lemmas.Bool.{cases_lt}
use Rattle.std.proofs.lemmas.List.{length-map}
use Rattle.std.proofs.lemmas.List.Folds.{flat_map-map}
use Rattle.std.specs.List.{find, flat_map}
use Rattle.psl_base.specs.Tokens.{PlacedToken}
use Rattle.blif_flattening.specs.declared.model.Connection.{Connection}
use Rattle.blif_flattening.specs.declared.model.Item.{Item}
use Rattle.blif_flattening.specs.declared.model.Item.TheVariants.{Own, Place}
use Rattle.blif_flattening.specs.declared.model.Placement.{Placement}
use Rattle.blif_flattening.specs.Hierarchy.{Path, actual_in, actual_of, items_at, items_of, model_at, placed_model, placements_in, IsInstance}
use Rattle.blif_flattening.specs.Instances.{names_of, IsNamed}
use Rattle.blif_flattening.specs.Members.{Among}
use Rattle.blif_flattening.specs.Trees.{IsWhole}
use Rattle.blif_flattening.proofs.Members.{Among-map, from_map}
use Rattle.blif_flattening.proofs.Visiting.{Among-placement}
use Rattle.blif_model.specs.declared.line.ModelLine.{ModelLine}
use Rattle.blif_model.specs.Files.{Part, Placing}
use Rattle.blif_model.specs.Models.{Mention, Model, Statement, is_undriven, names_of as mentioned_names}
use Rattle.blif_model.specs.Names.{number_of}
use Rattle.blif_model.specs.Numbered.{line_of, words_in}
use Rattle.blif_model.specs.Rules.{signal_limit}
use Rattle.blif_model.proofs.Holding.{map_none}
use Rattle.blif_linking.specs.Linked.{item_of, linked, linked_model, linked_texts}
use Rattle.blif_linking.specs.Links.{connections_in}
use Rattle.blif_linking.specs.Names.{Entry, Says, Places, Parts, driven_word, entries_from, entries_of, first_bad, first_driven, first_undriven, first_unknown, mentions_by, mentions_entered, mentions_in, mentions_placed, mentions_said, names_in, undriven_word}
use Rattle.blif_flat.specs.Flat.{AreFormed, AreSound}
use Rattle.blif_flat.specs.Lines.{drives_of, inputs_of, mentions_of, IsFormed}
use Rattle.blif_hierarchy.specs.Depth.{IsTooDeep}
use Rattle.blif_hierarchy.specs.Drivers.{times, inputs_in, is_input, actuals_driven, driven_in, drivers_of, IsConnected, IsDriven, IsInForm}
use Rattle.blif_hierarchy.specs.First.{Finds}
use Rattle.blif_hierarchy.specs.declared.cost.Scale.{Scale}
use Rattle.blif_hierarchy.specs.Sums.{FindsPast, signals_with}
use Rattle.blif_hierarchy.proofs.Costs.{within-limit}
use Rattle.blif_hierarchy.proofs.Counting.{count_where-append}
use Rattle.blif_hierarchy.proofs.Shallow.{shallow-all}
use Rattle.blif_laws.proofs.Connecting.{IsOf, join, connection-of, formal-listed, formals-apart, actual-from, actual-mentioned, input-connected, placed-counted, placement-is}
use Rattle.blif_laws.proofs.Counting.{AreDriven, by_number, by_text, drives_number, drives_text, mentions-driven, own-once, placed-once}
use Rattle.blif_laws.proofs.Entries.{entries-counted, entry-of, places-among, placed-named, said-named, says-among}
use Rattle.blif_laws.proofs.Few.{names-few}
use Rattle.blif_laws.proofs.Lines.{IsSaid, line-counted, line-formed}
use Rattle.blif_laws.proofs.Models.{line-from, linked-items, linked-names, linked-none, linked-titled, placement-from, placement_by}
use Rattle.blif_laws.proofs.Numbers.{number, number-within}
use Rattle.blif_laws.proofs.Placings.{Among-get, IsPlaced, none-told, placed-well}

times-append : (k : ℕ) (one other : List ℕ) → times k (one ++ other) ≡ times k one + times k other
times-append k one other = count_where-append (λ n. eqb n k) one other

-- what has a place is within the list
get-within : {X : Type 0} (xs : List X) (i : ℕ) (x : X) → slice_get xs i ≡ Some x → i < length xs
get-within [] i x is = cc
get-within (y ∷ xs) zero x is = omega arith
get-within (y ∷ xs) (suc i) x is = omega (arith, get-within xs i x is)

-- where a placement is, some are
some-placed : (items : List (Item ModelLine)) (placement : Placement) → Among (Place placement) items → 0 < length (placements_in items)
some-placed [] placement none = absurd none
some-placed (Own line ∷ items) placement (inl here) = cc
some-placed (Own line ∷ items) placement (inr there) = some-placed items placement there
some-placed (Place other ∷ items) placement there = omega arith

module _ (parts : Parts) (known : first_unknown parts ≡ None) (fit : first_bad parts ≡ None) where
  module _ (part : Part Model) (among : Among part parts) where
    abbrev names : List (List ℕ)
    names = names_in parts part

    well : (placing : Placing) → Among placing part.placings → IsPlaced parts placing
    well placing there = placed-well parts known fit part among placing there

    -- what drives names, by numbers and by mentions
    placing-counted : (k : ℕ) (placing : Placing) (is : IsPlaced parts placing)
        → times k (actuals_driven (is_input inputs_of (linked parts) (placement_by parts part placing).model) (placement_by parts part placing).connections)
        ≡ by_number names k (mentions_placed parts placing)
    placing-counted k placing is =
        ap (λ (p : Placement). times k (actuals_driven (is_input inputs_of (linked parts) p.model) p.connections)) (placement-is parts part placing is)
        ∙ placed-counted parts part is.model is.number is.there k (connections_in placing.words)
        ∙ sym (ap (λ (m : Option (Part Model)). by_number names k (mentions_by m (connections_in placing.words))) is.is)

    items-counted : (k : ℕ) (entries : List Entry) → ((placing : Placing) → Among (Places placing) entries → Among placing part.placings)
        → times k (inputs_in inputs_of (map (item_of parts part) entries)) + times k (driven_in inputs_of drives_of (linked parts) (map (item_of parts part) entries))
        ≡ by_number names k (flat_map (mentions_entered parts) entries)
    items-counted k [] within = omega arith
    items-counted k (Says statement ∷ entries) within =
        let items : List (Item ModelLine) = map (item_of parts part) entries in
        let rest = items-counted k entries (λ placing there. within placing (inr there)) in
        let here = line-counted names k statement in
        let line : ModelLine = line_of names statement in
        let ins = times-append k (inputs_of line) (inputs_in inputs_of items) in
        let outs = times-append k (drives_of line) (driven_in inputs_of drives_of (linked parts) items) in
        let mentions = count_where-append (drives_number names k) (mentions_said statement) (flat_map (mentions_entered parts) entries) in
        omega (arith, rest, here, ins, outs, mentions)
    items-counted k (Places placing ∷ entries) within =
        let items : List (Item ModelLine) = map (item_of parts part) entries in
        let rest = items-counted k entries (λ other there. within other (inr there)) in
        let here = placing-counted k placing (well placing (within placing (inl refl))) in
        let placement : Placement = placement_by parts part placing in
        let outs = times-append k (actuals_driven (is_input inputs_of (linked parts) placement.model) placement.connections) (driven_in inputs_of drives_of (linked parts) items) in
        let mentions = count_where-append (drives_number names k) (mentions_placed parts placing) (flat_map (mentions_entered parts) entries) in
        omega (arith, rest, here, outs, mentions)

    abbrev all_mentions : List Mention
    all_mentions = mentions_in parts part

    places-within : (placing : Placing) → Among (Places placing) (entries_of part) → Among placing part.placings
    places-within placing there =
        ⊎_elim (λ says. absurd (no-place says.0 says.2))
        (λ places. let same : places.0 ≡ placing = injective places.0 places.2 in subst (λ (p : Placing). Among p part.placings) same places.1)
        (entry-of 0 part.own.statements part.placings (Places placing) there)
      where
        no-place : (statement : Statement) → Says statement ≡ Places placing → ⊥
        no-place statement is = cc

        injective : (other : Placing) → Places other ≡ Places placing → other ≡ placing
        injective other is = cc

    drivers-counted : (k m : ℕ) → slice_get parts m ≡ Some part → times k (drivers_of inputs_of drives_of (linked parts) m) ≡ by_number names k all_mentions
    drivers-counted k m at =
        times-append k (inputs_in inputs_of (items_of (linked parts) m)) (driven_in inputs_of drives_of (linked parts) (items_of (linked parts) m))
        ∙ ap (λ (items : List (Item ModelLine)). times k (inputs_in inputs_of items) + times k (driven_in inputs_of drives_of (linked parts) items)) (linked-items parts m part at)
        ∙ items-counted k (entries_of part) places-within

    -- a placement is connected as it should be
    connected : (placing : Placing) → Among placing part.placings → IsConnected inputs_of (linked parts) (placement_by parts part placing)
    connected placing there =
        let is = well placing there in
        let words : List PlacedToken = connections_in placing.words in
        subst (λ (p : Placement). IsConnected inputs_of (linked parts) p) (sym (placement-is parts part placing is))
        (record {
          form = record {
            formals = λ connection among.
                let of = connection-of parts part is.model words connection among in
                let below = number-within (names_in parts is.model) of.link.formal (formal-listed parts part is.model of.link of.role).3 in
                let formal : number (names_in parts is.model) of.link.formal ≡ connection.formal = ap (λ (c : Connection). c.formal) of.is in
                omega (arith, below, formal, linked-names parts is.number is.model is.there);
            once = formals-apart parts part is.model [] words is.fits;
          };
          whole = input-connected parts part is.model is.number is.there words is.connected;
        })

    -- the line that a connected formal stands in, and the actual
    connection-at : (placing : Placing) (is : IsPlaced parts placing) (formal actual : ℕ) → actual_in (placement_by parts part placing).connections formal ≡ Some actual
        → (connection : Connection) × IsOf parts part is.model (connections_in placing.words) connection × (connection.formal ≡ formal) × (connection.actual ≡ actual)
    connection-at placing is formal actual found =
        let words : List PlacedToken = connections_in placing.words in
        let by = actual-from (flat_map (join parts part is.model) words) formal actual
        (subst (λ (p : Placement). actual_in p.connections formal ≡ Some actual) (placement-is parts part placing is) found) in
        (by.0, connection-of parts part is.model words by.0 by.1, by.2, by.3)

    actual-below : (placing : Placing) → Among placing part.placings → (formal actual : ℕ) → actual_in (placement_by parts part placing).connections formal ≡ Some actual
        → actual < length names
    actual-below placing there formal actual found =
        let is = well placing there in
        let words : List PlacedToken = connections_in placing.words in
        let by = connection-at placing is formal actual found in
        let mentioned = actual-mentioned parts part is.model words by.0 by.1 in
        let named = placed-named parts part placing mentioned.0 there
        (subst (λ (m : Option (Part Model)). Among mentioned.0 (mentions_by m words)) (sym is.is) mentioned.1) in
        let below = number-within names by.1.link.actual (subst (λ text. Among text names) mentioned.2 named) in
        let same : number names by.1.link.actual ≡ by.0.actual = ap (λ (c : Connection). c.actual) by.1.is in
        omega (arith, below, same, by.3)

    formal-line : (placing : Placing) → Among placing part.placings → (formal actual : ℕ) → actual_in (placement_by parts part placing).connections formal ≡ Some actual
        → (line : ModelLine) × Among (Own line) (items_of (linked parts) (placement_by parts part placing).model) × Among formal (mentions_of line)
    formal-line placing there formal actual found =
        let is = well placing there in
        let by = connection-at placing is formal actual found in
        let listed = formal-listed parts part is.model by.1.link by.1.role in
        let line : ModelLine = line_of (names_in parts is.model) listed.0 in
        let here : Among (Own line) (map (item_of parts is.model) (entries_of is.model)) =
        Among-map (item_of parts is.model) (Says listed.0) (entries_of is.model) (says-among 0 is.model.own.statements is.model.placings listed.0 listed.1) in
        let same : number (names_in parts is.model) by.1.link.formal ≡ formal = ap (λ (c : Connection). c.formal) by.1.is ∙ by.2 in (
          line,
          subst (λ (p : Placement). Among (Own line) (items_of (linked parts) p.model)) (sym (placement-is parts part placing is))
              (subst (λ (items : List (Item ModelLine)). Among (Own line) items) (sym (linked-items parts is.number is.model is.there)) here),
          subst (λ n. Among n line.mentions) same listed.2,
        )

  -- what models mention and connect are names of them
  pub is-named : IsNamed mentions_of (linked parts)
  is-named = record {
    lines = λ m line there name mention.
        let of = line-from parts m line there in
        let own = subst (λ (l : ModelLine). Among name l.mentions) (sym of.is) mention in
        let word = from_map (number_of (names_in parts of.part)) name (words_in of.statement) own in
        let below = number-within (names_in parts of.part) word.0.text (said-named parts of.part of.statement word.0 of.there word.1) in
        omega (arith, below, word.2, linked-names parts m of.part of.at);
    actuals = λ m placement there formal actual found.
        let of = placement-from parts m placement there in
        let below = actual-below of.part (Among-get parts m of.part of.at) of.placing of.there formal actual
        (subst (λ (p : Placement). actual_in p.connections formal ≡ Some actual) (sym of.is) found) in
        omega (arith, below, linked-names parts m of.part of.at);
  }

  is-whole : ((model k : ℕ) → IsTooDeep (linked parts) model k → ⊥) → IsWhole mentions_of (linked parts)
  is-whole shallow = record { shallow = shallow-all (linked parts) shallow; formals = formals }
    where
      formals : (path : Path) (k formal actual : ℕ) → IsInstance (linked parts) (k ∷ path) → actual_of (linked parts) path k formal ≡ Some actual
          → (line : ModelLine) × Among (Own line) (items_at (linked parts) (k ∷ path)) × Among formal (mentions_of line)
      formals path k formal actual instance is =
          let placement : Placement = instance.1.0 in
          let found = subst (λ (p : Option Placement). option_and_then (λ (q : Placement). actual_in q.connections formal) p ≡ Some actual) instance.1.1 is in
          let there = Among-placement (items_at (linked parts) path) k placement instance.1.1 in
          let of = placement-from parts (model_at (linked parts) path) placement there in
          let by = formal-line of.part (Among-get parts (model_at (linked parts) path) of.part of.at) of.placing of.there formal actual
          (subst (λ (p : Placement). actual_in p.connections formal ≡ Some actual) (sym of.is) found) in
          let model : (placement_by parts of.part of.placing).model ≡ model_at (linked parts) (k ∷ path) =
          ap (λ (p : Placement). p.model) of.is ∙ sym (ap placed_model instance.1.1) in
          (by.0, subst (λ m. Among (Own by.0) (items_of (linked parts) m)) model by.1, by.2)

  -- a placement is of one of the models, and in form
  pub placed-form : (m : ℕ) (placement : Placement) → Among (Place placement) (items_of (linked parts) m) → IsInForm (linked parts) placement
  placed-form m placement there =
      let of = placement-from parts m placement there in
      subst (λ (p : Placement). IsInForm (linked parts) p) of.is (connected of.part (Among-get parts m of.part of.at) of.placing of.there).form

  pub placed-below : (m : ℕ) (placement : Placement) → Among (Place placement) (items_of (linked parts) m) → placement.model < length (linked parts)
  placed-below m placement there =
      let of = placement-from parts m placement there in
      let by = well of.part (Among-get parts m of.part of.at) of.placing of.there in
      let below = get-within parts by.number by.model by.there in
      let same : by.number ≡ placement.model =
      sym (ap (λ (p : Placement). p.model) (placement-is parts of.part of.placing by)) ∙ ap (λ (p : Placement). p.model) of.is in
      omega (arith, below, same, length-map parts (linked_model parts))

-- where what lines say holds of their models
module _ (parts : Parts) (most : ℕ) (all : (part : Part Model) → Among part parts → IsSaid most part.own)
    (known : first_unknown parts ≡ None) (fit : first_bad parts ≡ None) where
  -- each name has one driver
  few-drivers : (part : Part Model) → Among part parts → first_driven parts ≡ None → (text : List ℕ) → by_text text (mentions_in parts part) ≤ 1
  few-drivers part among apart text =
      let said = all part among in
      let split = entries-counted (drives_text text) (mentions_entered parts) 0 part.own.statements part.placings in
      let own : by_text text part.own.mentions ≡ by_text text (flat_map mentions_said part.own.statements) = ap (by_text text) said.mentions in
      let most_one = placed-once part.own.mentions (flat_map (mentions_placed parts) part.placings) (none-told (driven_word parts) parts part apart among)
      (own-once part.own.mentions said.faultless) text in
      omega (arith, split, own, most_one)

  are-driven : (part : Part Model) → Among part parts → first_driven parts ≡ None → first_undriven parts ≡ None → AreDriven (mentions_in parts part)
  are-driven part among apart driven =
      mentions-driven (mentions_in parts part) (few-drivers part among apart)
      (map_none (λ (mention : Mention). mention.word) (find (is_undriven (mentions_in parts part)) (mentions_in parts part)) (none-told (undriven_word parts) parts part driven among))

  is-formed : AreFormed (linked parts) most
  is-formed m line there =
      let of = line-from parts m line there in
      subst (λ (l : ModelLine). IsFormed most l.kind l.mentions) of.is
      (line-formed (names_in parts of.part) most of.statement ((all of.part (Among-get parts m of.part of.at)).wide of.statement of.there))

  is-driven : first_driven parts ≡ None → first_undriven parts ≡ None → IsDriven inputs_of drives_of (linked parts)
  is-driven apart driven = record {
    once = λ m name lt. (by-model m name (slice_get parts m) refl).0 lt;
    past = λ m name le. (by-model m name (slice_get parts m) refl).1 le;
    connected = λ m placement there.
        let of = placement-from parts m placement there in
        subst (λ (p : Placement). IsConnected inputs_of (linked parts) p) of.is
        (connected parts known fit of.part (Among-get parts m of.part of.at) of.placing of.there);
  }
    where
      by-model : (m name : ℕ) (found : Option (Part Model)) → slice_get parts m ≡ found
          → (name < names_of (linked parts) m → times name (drivers_of inputs_of drives_of (linked parts) m) ≡ 1)
          × (names_of (linked parts) m ≤ name → times name (drivers_of inputs_of drives_of (linked parts) m) ≡ 0)
      by-model m name None is =
          let none = linked-none parts m is in (
            λ lt. absurd (omega (arith, lt, none.1)),
            λ le. ap (λ (items : List (Item ModelLine)). times name (inputs_in inputs_of items ++ driven_in inputs_of drives_of (linked parts) items)) none.0,
          )
      by-model m name (Some part) is =
          let among = Among-get parts m part is in
          let counted = drivers-counted parts known fit part among name m is in
          let drives = are-driven part among apart driven in
          let size = linked-names parts m part is in
          (λ lt. counted ∙ drives.once name (omega (arith, lt, size)), λ le. counted ∙ drives.past name (omega (arith, le, size)))

  -- the limit on signals, and any other
  abbrev within : ℕ → List ℕ → Scale
  within size starts = record { count = signal_limit; size = size; starts = starts }

  -- the top has few names
  few-names : (size : ℕ) (starts : List ℕ) → FindsPast (linked parts) (within size starts) None → names_of (linked parts) 0 ≤ signal_limit
  few-names size starts few = by-top (slice_get parts 0) refl
    where
      placed-some : (top : Part Model) → slice_get parts 0 ≡ Some top → (placing : Placing) → Among placing top.placings → names_of (linked parts) 0 ≤ signal_limit
      placed-some top is placing there =
          let place : Among (Place (placement_by parts top placing)) (items_of (linked parts) 0) =
          subst (λ (items : List (Item ModelLine)). Among (Place (placement_by parts top placing)) items) (sym (linked-items parts 0 top is))
          (Among-map (item_of parts top) (Places placing) (entries_of top) (places-among 0 top.own.statements top.placings placing there)) in
          let some = some-placed (items_of (linked parts) 0) (placement_by parts top placing) place in
          ⊎_elim (λ past. absurd (few 0 some (inl past))) (λ low. omega (arith, low)) (cases_lt signal_limit (signals_with (linked parts) 1))

      by-placings : (top : Part Model) → slice_get parts 0 ≡ Some top → (placings : List Placing) → top.placings ≡ placings → names_of (linked parts) 0 ≤ signal_limit
      by-placings top is [] none =
          let said = all top (Among-get parts 0 top is) in
          let mentions : mentions_in parts top ≡ top.own.mentions =
          ap (λ (placings : List Placing). flat_map (mentions_entered parts) (entries_from 0 top.own.statements placings)) none
          ∙ flat_map-map (mentions_entered parts) Says top.own.statements ∙ sym said.mentions in
          let size : length (names_in parts top) ≡ length (mentioned_names top.own.mentions) = ap (λ (ms : List Mention). length (mentioned_names ms)) mentions in
          omega (arith, linked-names parts 0 top is, size, names-few top.own.mentions said.faultless)
      by-placings top is (placing ∷ placings) some =
          placed-some top is placing (subst (λ (list : List Placing). Among placing list) (sym some) (inl refl))

      by-top : (found : Option (Part Model)) → slice_get parts 0 ≡ found → names_of (linked parts) 0 ≤ signal_limit
      by-top None is = omega (arith, (linked-none parts 0 is).1)
      by-top (Some top) is = by-placings top is top.placings refl

  pub sound : (size : ℕ) (starts : List ℕ) → Finds (IsTooDeep (linked parts)) None → first_driven parts ≡ None → first_undriven parts ≡ None
      → FindsPast (linked parts) (within size starts) None → AreSound (linked parts) (linked_texts parts) signal_limit most
  sound size starts shallow apart driven few = record {
    whole = is-whole parts known fit shallow;
    named = is-named parts known fit;
    driven = is-driven apart driven;
    formed = is-formed;
    titled = linked-titled parts;
    few = within-limit ModelLine (linked parts) (within size starts) None few (few-names size starts few);
  }
