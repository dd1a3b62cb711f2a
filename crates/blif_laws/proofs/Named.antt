-- The names of a model are those that its lines mention, and its placements connect.
use Rattle.std.proofs.Common.{◌≡◌, ℕ, suc, ◌<◌, inl, inr, eqb, cond, List, [], ◌∷◌, length, map, get_or, slice_get, option_and_then, Option, None, Some, refl, sym, ap, ◌∙◌, subst, ⊎_elim, arith}
use Rattle.std.proofs.lemmas.Bool.{cases_Bool, eqb-true, eq-eqb}
use Rattle.std.specs.List.{flat_map}
use Rattle.psl_base.specs.Tokens.{PlacedToken}
use Rattle.blif_flattening.specs.declared.model.Connection.{Connection}
use Rattle.blif_flattening.specs.declared.model.Item.{Item}
use Rattle.blif_flattening.specs.declared.model.Item.TheVariants.{Own, Place}
use Rattle.blif_flattening.specs.declared.model.Placement.{Placement}
use Rattle.blif_flattening.specs.Hierarchy.{Path, actual_in, actual_of, items_at, model_at, placements_in}
use Rattle.blif_flattening.specs.Instances.{names_of, IsNamed}
use Rattle.blif_flattening.specs.Members.{Among, Apart}
use Rattle.blif_flattening.specs.Trees.{IsName}
use Rattle.blif_flattening.proofs.Members.{Among-at, Among-left, Among-right, Among-map, Among-flat_map, from_append, from_flat_map, from_map}
use Rattle.blif_model.specs.declared.line.ModelLine.{ModelLine}
use Rattle.blif_model.specs.Files.{Part, Placing}
use Rattle.blif_model.specs.Models.{Mention, Model, Statement, IsInputs, IsOutputs, IsLatch, IsTable, driven, used}
use Rattle.blif_model.specs.Names.{number_of}
use Rattle.blif_model.specs.Numbered.{line_of, words_in}
use Rattle.blif_linking.specs.declared.role.Role.{Role}
use Rattle.blif_linking.specs.declared.role.Role.TheVariants.{Input, Output, Clock}
use Rattle.blif_linking.specs.Interfaces.{role_of}
use Rattle.blif_linking.specs.Linked.{item_of, joined, joined_by_role, joined_link, linked}
use Rattle.blif_linking.specs.Links.{Link, connections_in, link_of}
use Rattle.blif_linking.specs.Names.{Entry, Says, Places, Parts, actual_at, entries_of, mention_by_role, mention_linked, mentions_by, mentions_entered, mentions_in, mentions_said, names_in}
use Rattle.blif_flat.specs.Lines.{mentions_of}
use Rattle.blif_hierarchy.proofs.Few.{actual-below}
use Rattle.blif_laws.specs.Named.{HasAllNames}
use Rattle.blif_laws.proofs.Connecting.{join, mention, formals-apart, placement-is}
use Rattle.blif_laws.proofs.Entries.{entry-of}
use Rattle.blif_laws.proofs.Models.{linked-items, linked-names, linked-none, placement_by}
use Rattle.blif_laws.proofs.Numbers.{number, names-apart, names-from, number-own}
use Rattle.blif_laws.proofs.Placings.{Among-get, IsPlaced}

-- a mention of a line is one of its words
mention-word : (statement : Statement) (m : Mention) → Among m (mentions_said statement) → Among m.word (words_in statement)
mention-word (IsInputs words) m there =
    let by = from_map driven m words there in subst (λ (x : Mention). Among x.word words) by.2 by.1
mention-word (IsOutputs words) m there =
    let by = from_map used m words there in subst (λ (x : Mention). Among x.word words) by.2 by.1
mention-word (IsLatch latch) m (inl here) = inl (ap (λ (x : Mention). x.word) here)
mention-word (IsLatch latch) m (inr (inl here)) = inr (inl (ap (λ (x : Mention). x.word) here))
mention-word (IsLatch latch) m (inr (inr none)) = absurd none
mention-word (IsTable gate) m there =
    ⊎_elim
    (λ reads. let by = from_map used m gate.inputs reads in
    subst (λ (x : Mention). Among x.word (words_in (IsTable gate))) by.2 (Among-left by.0 gate.inputs (gate.output ∷ []) by.1))
    (λ last. ⊎_elim (λ here. Among-right m.word gate.inputs (gate.output ∷ []) (inl (ap (λ (x : Mention). x.word) here))) (λ none. absurd none) last)
    (from_append m (map used gate.inputs) (driven gate.output ∷ []) there)

-- the number of a placement that stands there
placement-place : (items : List (Item ModelLine)) (placement : Placement) → Among (Place placement) items
    → (k : ℕ) × (slice_get (placements_in items) k ≡ Some placement)
placement-place [] placement none = absurd none
placement-place (Own line ∷ items) placement (inl here) = cc
placement-place (Own line ∷ items) placement (inr there) = placement-place items placement there
placement-place (Place other ∷ items) placement (inl here) = (0, let same : other ≡ placement = cc in ap Some same)
placement-place (Place other ∷ items) placement (inr there) = let rest = placement-place items placement there in (suc rest.0, rest.1)

-- where no formal is connected twice, each connection counts
actual-is : (connections : List Connection) (connection : Connection) → Apart (map (λ (c : Connection). c.formal) connections) → Among connection connections
    → actual_in connections connection.formal ≡ Some connection.actual
actual-is [] connection apart none = absurd none
actual-is (first ∷ connections) connection apart (inl here) =
    subst (λ (c : Connection). actual_in (first ∷ connections) c.formal ≡ Some c.actual) here
    (ap (λ b. cond b (Some first.actual) (actual_in connections first.formal)) (eq-eqb first.formal first.formal refl))
actual-is (first ∷ connections) connection apart (inr there) =
    elim (cases_Bool (eqb first.formal connection.formal)) [
      | inl same ↦
          absurd (apart.0 (subst (λ f. Among f (map (λ (c : Connection). c.formal) connections)) (sym (eqb-true first.formal connection.formal same))
          (Among-map (λ (c : Connection). c.formal) connection connections there)))
      | inr differs ↦
          ap (λ b. cond b (Some first.actual) (actual_in connections connection.formal)) differs ∙ actual-is connections connection apart.1 there
    ]

-- what a mention of a placement connects
module _ (parts : Parts) (part model : Part Model) where
  by_role : (word : PlacedToken) (link : Link) (m : Mention) (role : Option Role) → Among m (mention_by_role (actual_at word link) role)
      → (c : Connection) × Among c (joined_by_role parts part model link role) × (c.actual ≡ number (names_in parts part) m.word.text)
  by_role word link m None none = absurd none
  by_role word link m (Some Clock) none = absurd none
  by_role word link m (Some Input) (inl here) =
      (joined parts part model link, inl refl, ap (λ (x : Mention). number (names_in parts part) x.word.text) here)
  by_role word link m (Some Input) (inr none) = absurd none
  by_role word link m (Some Output) (inl here) =
      (joined parts part model link, inl refl, ap (λ (x : Mention). number (names_in parts part) x.word.text) here)
  by_role word link m (Some Output) (inr none) = absurd none

  by_link : (word : PlacedToken) (m : Mention) (found : Option Link) → Among m (mention_linked model word found)
      → (c : Connection) × Among c (joined_link parts part model found) × (c.actual ≡ number (names_in parts part) m.word.text)
  by_link word m None none = absurd none
  by_link word m (Some link) there = by_role word link m (role_of model link.formal) there

  mention-joined : (words : List PlacedToken) (m : Mention) → Among m (flat_map (mention parts part model) words)
      → (c : Connection) × Among c (flat_map (join parts part model) words) × (c.actual ≡ number (names_in parts part) m.word.text)
  mention-joined words m there =
      let by = from_flat_map (mention parts part model) m words there in
      let connection = by_link by.0 m (link_of by.0.text) by.2 in
      (connection.0, Among-flat_map (join parts part model) by.0 connection.0 words by.1 connection.1, connection.2)

module _ (parts : Parts) (well : (part : Part Model) → Among part parts → (placing : Placing) → Among placing part.placings → IsPlaced parts placing)
    (named : IsNamed mentions_of (linked parts)) where
  module _ (path : Path) (part : Part Model) (at : slice_get parts (model_at (linked parts) path) ≡ Some part) where
    item-there : (entry other : Entry) → Among other (entries_of part) → entry ≡ other → Among (item_of parts part entry) (items_at (linked parts) path)
    item-there entry other there is =
        subst (λ (items : List (Item ModelLine)). Among (item_of parts part entry) items) (sym (linked-items parts (model_at (linked parts) path) part at))
        (Among-map (item_of parts part) entry (entries_of part) (subst (λ (e : Entry). Among e (entries_of part)) (sym is) there))

    by-placing : (name : ℕ) (m : Mention) (placing : Placing) → Among placing part.placings → Among m (mentions_entered parts (Places placing))
        → number (names_in parts part) m.word.text ≡ name → Among (Place (placement_by parts part placing)) (items_at (linked parts) path)
        → IsName mentions_of (linked parts) path name
    by-placing name m placing there mentioned is place =
        let by = well part (Among-get parts (model_at (linked parts) path) part at) placing there in
        let words : List PlacedToken = connections_in placing.words in
        let joins = mention-joined parts part by.model words m (subst (λ (found : Option (Part Model)). Among m (mentions_by found words)) by.is mentioned) in
        let connection : Connection = joins.0 in
        let stands = placement-place (items_at (linked parts) path) (placement_by parts part placing) place in
        let actual : actual_in (placement_by parts part placing).connections connection.formal ≡ Some connection.actual =
        ap (λ (p : Placement). actual_in p.connections connection.formal) (placement-is parts part placing by)
        ∙ actual-is (flat_map (join parts part by.model) words) connection (formals-apart parts part by.model [] words by.fits) joins.1 in
        let found : actual_of (linked parts) path stands.0 connection.formal ≡ Some name =
        ap (option_and_then (λ (p : Placement). actual_in p.connections connection.formal)) stands.1 ∙ actual ∙ ap Some (joins.2 ∙ is) in
        inr (stands.0, connection.formal, found)

    name-is : (name : ℕ) → name < length (names_in parts part) → IsName mentions_of (linked parts) path name
    name-is name lt =
        let names : List (List ℕ) = names_in parts part in
        let some = names-from (mentions_in parts part) (get_or names name []) (Among-at names name [] lt) in
        let is : number names some.0.word.text ≡ name = number-own names some.0.word.text name (names-apart (mentions_in parts part)) lt (sym some.2) in
        let entry = from_flat_map (mentions_entered parts) some.0 (entries_of part) some.1 in
        ⊎_elim
        (λ says.
        let word = mention-word says.0 some.0 (subst (λ (e : Entry). Among some.0 (mentions_entered parts e)) (sym says.2) entry.2) in
        inl (
          line_of names says.0,
          item-there (Says says.0) entry.0 entry.1 says.2,
          subst (λ k. Among k (map (number_of names) (words_in says.0))) is (Among-map (number_of names) some.0.word (words_in says.0) word),
        ))
        (λ places.
        by-placing name some.0 places.0 places.1 (subst (λ (e : Entry). Among some.0 (mentions_entered parts e)) (sym places.2) entry.2) is
        (item-there (Places places.0) entry.0 entry.1 places.2))
        (entry-of 0 part.own.statements part.placings entry.0 entry.1)

  pub has-names : HasAllNames (linked parts)
  has-names path name instance = (λ lt. by-model (slice_get parts (model_at (linked parts) path)) refl lt, below)
    where
      by-model : (found : Option (Part Model)) → slice_get parts (model_at (linked parts) path) ≡ found → name < names_of (linked parts) (model_at (linked parts) path)
          → IsName mentions_of (linked parts) path name
      by-model None none lt = absurd (omega (arith, lt, (linked-none parts (model_at (linked parts) path) none).1))
      by-model (Some part) at lt = name-is path part at name (omega (arith, lt, linked-names parts (model_at (linked parts) path) part at))

      below : IsName mentions_of (linked parts) path name → name < names_of (linked parts) (model_at (linked parts) path)
      below (inl line) = named.lines (model_at (linked parts) path) line.0 line.1 name line.2
      below (inr connected) = actual-below ModelLine mentions_of (linked parts) named path connected.0 connected.1 name connected.2
