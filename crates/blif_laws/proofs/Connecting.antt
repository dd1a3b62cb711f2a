-- What the words of a placement connect.
use Rattle.std.proofs.Common.{◌≡◌, ℕ, ◌+◌, ◌⊎◌, Bool, true, false, eqb, cond, not, ◌||◌, List, [], ◌∷◌, ◌++◌, map, slice_get, is_none, Option, None, Some, refl, sym, ap, ◌∙◌, subst, inl, inr, ⊎_elim, arith}
use Rattle.std.proofs.lemmas.Bool.{cases_Bool, eqb-true, eq-eqb, false≢true}
use Rattle.std.specs.List.{flat_map, list_any}
use Rattle.psl_base.specs.Tokens.{PlacedToken}
use Rattle.blif_flattening.specs.declared.model.Connection.{Connection}
use Rattle.blif_flattening.specs.declared.model.Item.{Item}
use Rattle.blif_flattening.specs.declared.model.Item.TheVariants.{Own, Place}
use Rattle.blif_flattening.specs.declared.model.Placement.{Placement}
use Rattle.blif_flattening.specs.Hierarchy.{actual_in, items_of}
use Rattle.blif_flattening.specs.Members.{Among, Apart}
use Rattle.blif_flattening.proofs.Members.{Among-left, Among-right, Among-map, Among-flat_map, from_append, from_map, from_flat_map}
use Rattle.blif_model.specs.declared.line.ModelLine.{ModelLine}
use Rattle.blif_model.specs.Files.{Part, Placing}
use Rattle.blif_model.specs.Models.{Mention, Model, Statement, IsInputs, IsOutputs, IsLatch, IsTable, driven, used}
use Rattle.blif_model.specs.Names.{number_at}
use Rattle.blif_model.specs.Numbered.{line_of}
use Rattle.blif_linking.specs.declared.role.Role.{Role}
use Rattle.blif_linking.specs.declared.role.Role.TheVariants.{Input, Output, Clock}
use Rattle.blif_linking.specs.Interfaces.{inputs_in as input_texts, is_one_of, role_of}
use Rattle.blif_linking.specs.Linked.{item_of, joined, joined_all, joined_by_role, joined_link, linked}
use Rattle.blif_linking.specs.Links.{Link, connections_in, formal_of, link_of}
use Rattle.blif_linking.specs.Names.{Says, Places, Parts, actual_at, bad_from, entries_of, formals_of, is_bad, is_missing, mention_by_role, mention_linked, names_in, placed}
use Rattle.blif_flat.specs.Lines.{inputs_of}
use Rattle.blif_hierarchy.specs.Drivers.{times, inputs_in, is_input, actuals_driven}
use Rattle.blif_hierarchy.proofs.Counting.{count_where-append}
use Rattle.blif_laws.proofs.Counting.{by_number, drives_number, either, fault_free}
use Rattle.blif_laws.proofs.Entries.{entry-of, says-among, said-named}
use Rattle.blif_laws.proofs.Formals.{input-listed, listed-input, output-listed, role-input, role-output, input-role}
use Rattle.blif_laws.proofs.Models.{linked-items, placement_by}
use Rattle.blif_laws.proofs.Numbers.{number, among-any, not-any, number-apart}
use Rattle.blif_laws.proofs.Placings.{IsPlaced}

-- numbers in a list
pub any-number : (name : ℕ) (numbers : List ℕ) → Among name numbers → list_any (λ other. eqb other name) numbers ≡ true
any-number name [] none = absurd none
any-number name (first ∷ numbers) (inl here) = ap (λ b. b || list_any (λ other. eqb other name) numbers) (eq-eqb first name here)
any-number name (first ∷ numbers) (inr there) = or_true (eqb first name) (list_any (λ other. eqb other name) numbers) (any-number name numbers there)
  where
    or_true : (one other : Bool) → other ≡ true → (one || other) ≡ true
    or_true true other is = refl
    or_true false other is = is

pub number-any : (name : ℕ) (numbers : List ℕ) → list_any (λ other. eqb other name) numbers ≡ true → Among name numbers
number-any name [] is = cc
number-any name (first ∷ numbers) is =
    elim (cases_Bool (eqb first name)) [
      | inl same ↦ inl (eqb-true first name same)
      | inr differs ↦ inr (number-any name numbers (sym (ap (λ b. b || list_any (λ other. eqb other name) numbers) differs) ∙ is))
    ]

not_found : {A : Type 0} (test : A → Bool) (xs : List A) (x : A) → list_any test xs ≡ false → Among x xs → test x ≡ false
not_found test [] x none found = absurd found
not_found test (y ∷ xs) x none found =
    let both = either (test y) (list_any test xs) none in
    ⊎_elim (λ here. subst (λ z. test z ≡ false) here both.0) (λ later. not_found test xs x both.1 later) found

-- what a formal is connected with
pub actual-there : (connections : List Connection) (formal : ℕ) (connection : Connection) → Among connection connections → connection.formal ≡ formal
    → (actual : ℕ) × (actual_in connections formal ≡ Some actual)
actual-there [] formal connection none is = absurd none
actual-there (first ∷ connections) formal connection there is =
    elim (cases_Bool (eqb first.formal formal)) [
      | inl same ↦ (first.actual, ap (λ b. cond b (Some first.actual) (actual_in connections formal)) same)
      | inr differs ↦
          let later : Among connection connections =
          ⊎_elim
          (λ here. absurd (false≢true (sym differs ∙ eq-eqb first.formal formal (ap (λ (c : Connection). c.formal) here ∙ is))))
          (λ rest. rest) there in
          let rest = actual-there connections formal connection later is in
          (rest.0, ap (λ b. cond b (Some first.actual) (actual_in connections formal)) differs ∙ rest.1)
    ]

pub actual-from : (connections : List Connection) (formal actual : ℕ) → actual_in connections formal ≡ Some actual
    → (connection : Connection) × Among connection connections × (connection.formal ≡ formal) × (connection.actual ≡ actual)
actual-from [] formal actual is = cc
actual-from (first ∷ connections) formal actual is =
    elim (cases_Bool (eqb first.formal formal)) [
      | inl same ↦
          let found : Some first.actual ≡ Some actual = sym (ap (λ b. cond b (Some first.actual) (actual_in connections formal)) same) ∙ is in
          (first, inl refl, eqb-true first.formal formal same, let at : first.actual ≡ actual = cc in at)
      | inr differs ↦
          let rest = actual-from connections formal actual (sym (ap (λ b. cond b (Some first.actual) (actual_in connections formal)) differs) ∙ is) in
          (rest.0, inr rest.1, rest.2, rest.3)
    ]

-- the inputs that lines list
pub item-input : (items : List (Item ModelLine)) (line : ModelLine) (name : ℕ) → Among (Own line) items → Among name (inputs_of line)
    → Among name (inputs_in inputs_of items)
item-input [] line name none there = absurd none
item-input (Own first ∷ items) line name at there =
    ⊎_elim
    (λ here. let same : first ≡ line = cc in
    Among-left name (inputs_of first) (inputs_in inputs_of items) (subst (λ (l : ModelLine). Among name (inputs_of l)) (sym same) there))
    (λ later. Among-right name (inputs_of first) (inputs_in inputs_of items) (item-input items line name later there)) at
item-input (Place placement ∷ items) line name at there =
    ⊎_elim (λ here. cc) (λ later. item-input items line name later there) at

pub input-item : (items : List (Item ModelLine)) (name : ℕ) → Among name (inputs_in inputs_of items)
    → (line : ModelLine) × Among (Own line) items × Among name (inputs_of line)
input-item [] name none = absurd none
input-item (Own first ∷ items) name there =
    ⊎_elim (λ here. (first, inl refl, here)) (λ later. let rest = input-item items name later in (rest.0, inr rest.1, rest.2))
    (from_append name (inputs_of first) (inputs_in inputs_of items) there)
input-item (Place placement ∷ items) name there = let rest = input-item items name there in (rest.0, inr rest.1, rest.2)

-- a text that a line lists as an input
input-word : (names : List (List ℕ)) (statement : Statement) (name : ℕ) → Among name (inputs_of (line_of names statement))
    → (words : List PlacedToken) × (IsInputs words ≡ statement) × (word : PlacedToken) × Among word words × (number names word.text ≡ name)
input-word names (IsInputs words) name there =
    let by = from_map (λ (word : PlacedToken). number names word.text) name words there in (words, refl, by.0, by.1, by.2)
input-word names (IsOutputs words) name none = absurd none
input-word names (IsLatch latch) name none = absurd none
input-word names (IsTable gate) name none = absurd none

-- a word that is at fault, and one that is not
abbrev formal_in : PlacedToken → List (List ℕ)
formal_in word = formal_of (link_of word.text)

good-link : (model : Part Model) (given : List (List ℕ)) (found : Option Link) → is_bad model given found ≡ false
    → (link : Link) × (found ≡ Some link) × (is_one_of given link.formal ≡ false)
good-link model given None is = cc
good-link model given (Some link) is = (link, refl, second (is_none (role_of model link.formal)) (is_one_of given link.formal) is)
  where
    second : (one other : Bool) → (one || other) ≡ false → other ≡ false
    second true other bad = cc
    second false other fine = fine

module _ (model : Part Model) where
  bad-parts : (before words : List PlacedToken) (word : PlacedToken) → bad_from model before (word ∷ words) ≡ None
      → (is_bad model (formals_of before) (link_of word.text) ≡ false) × (bad_from model (before ++ word ∷ []) words ≡ None)
  bad-parts before words word none = fault_free (is_bad model (formals_of before) (link_of word.text)) word (bad_from model (before ++ word ∷ []) words) none

  -- a formal of a word is none of the words before it
  given-left : (before : List PlacedToken) (word : PlacedToken) (formal : List ℕ) → Among formal (formals_of before) → Among formal (formals_of (before ++ word ∷ []))
  given-left before word formal there =
      let by = from_flat_map formal_in formal before there in
      Among-flat_map formal_in by.0 formal (before ++ word ∷ []) (Among-left by.0 before (word ∷ []) by.1) by.2

  given-last : (before : List PlacedToken) (word : PlacedToken) (link : Link) → link_of word.text ≡ Some link → Among link.formal (formals_of (before ++ word ∷ []))
  given-last before word link is =
      let here : Among link.formal (formal_in word) = subst (λ (found : Option Link). Among link.formal (formal_of found)) (sym is) (inl refl) in
      Among-flat_map formal_in word link.formal (before ++ word ∷ []) (Among-right word before (word ∷ []) (inl refl)) here

  formal-new : (before words : List PlacedToken) → bad_from model before words ≡ None → (word : PlacedToken) → Among word words → (link : Link)
      → link_of word.text ≡ Some link → Among link.formal (formals_of before) → ⊥
  formal-new before [] none word there link is given = there
  formal-new before (first ∷ words) none word there link is given =
      let parts = bad-parts before words first none in
      ⊎_elim
      (λ here. let good = good-link model (formals_of before) (link_of first.text) parts.0 in
      let found : Some good.0 ≡ Some link = sym good.1 ∙ ap (λ (w : PlacedToken). link_of w.text) here ∙ is in
      let same : good.0 ≡ link = cc in
      not-any (formals_of before) good.0.formal good.2 (subst (λ (l : Link). Among l.formal (formals_of before)) (sym same) given))
      (λ later. formal-new (before ++ first ∷ []) words parts.1 word later link is (given-left before first link.formal given)) there

abbrev pub placement_with : ℕ → List Connection → Placement
placement_with model connections = record { model = model; connections = connections }

-- a model, and one that it places
module _ (parts : Parts) (part model : Part Model) where
  abbrev pub formal_names : List (List ℕ)
  formal_names = names_in parts model

  abbrev pub actual_names : List (List ℕ)
  actual_names = names_in parts part

  abbrev pub join : PlacedToken → List Connection
  join word = joined_link parts part model (link_of word.text)

  abbrev pub mention : PlacedToken → List Mention
  mention word = mention_linked model word (link_of word.text)

  abbrev pub IsFormal : Link → Type 0
  IsFormal link = (role_of model link.formal ≡ Some Input) ⊎ (role_of model link.formal ≡ Some Output)

  -- a connection is that of a word
  pub record IsOf (words : List PlacedToken) (connection : Connection) : Type 0 where
    pub word : PlacedToken
    pub there : Among word words
    pub link : Link
    pub found : link_of word.text ≡ Some link
    pub role : (role_of model link.formal ≡ Some Input) ⊎ (role_of model link.formal ≡ Some Output)
    pub is : joined parts part model link ≡ connection

  of_role : (words : List PlacedToken) (word : PlacedToken) (link : Link) (connection : Connection) → Among word words → link_of word.text ≡ Some link
      → (role : Option Role) → role_of model link.formal ≡ role → Among connection (joined_by_role parts part model link role) → IsOf words connection
  of_role words word link connection there found None at none = absurd none
  of_role words word link connection there found (Some Clock) at none = absurd none
  of_role words word link connection there found (Some Input) at (inl here) =
      record { word = word; there = there; link = link; found = found; role = inl at; is = here }
  of_role words word link connection there found (Some Input) at (inr none) = absurd none
  of_role words word link connection there found (Some Output) at (inl here) =
      record { word = word; there = there; link = link; found = found; role = inr at; is = here }
  of_role words word link connection there found (Some Output) at (inr none) = absurd none

  of_link : (words : List PlacedToken) (word : PlacedToken) (connection : Connection) → Among word words
      → (found : Option Link) → link_of word.text ≡ found → Among connection (joined_link parts part model found) → IsOf words connection
  of_link words word connection there None is none = absurd none
  of_link words word connection there (Some link) is among = of_role words word link connection there is (role_of model link.formal) refl among

  pub connection-of : (words : List PlacedToken) (connection : Connection) → Among connection (flat_map join words) → IsOf words connection
  connection-of words connection there =
      let by = from_flat_map join connection words there in of_link words by.0 connection by.1 (link_of by.0.text) refl by.2

  -- a formal has a number, and so has its actual
  pub formal-listed : (link : Link) → IsFormal link → (statement : Statement) × Among statement model.own.statements
      × Among (number formal_names link.formal) (line_of formal_names statement).mentions × Among link.formal formal_names
  formal-listed link (inl role) =
      let listed = input-listed model.own.statements link.formal (role-input model link.formal role) in (
        IsInputs listed.words,
        listed.line,
        subst (λ text. Among (number formal_names text) (map (λ (w : PlacedToken). number formal_names w.text) listed.words)) listed.is
            (Among-map (λ (w : PlacedToken). number formal_names w.text) listed.word listed.words listed.there),
        subst (λ text. Among text formal_names) listed.is (said-named parts model (IsInputs listed.words) listed.word listed.line listed.there),
      )
  formal-listed link (inr role) =
      let listed = output-listed model.own.statements link.formal (role-output model link.formal role).1 in (
        IsOutputs listed.words,
        listed.line,
        subst (λ text. Among (number formal_names text) (map (λ (w : PlacedToken). number formal_names w.text) listed.words)) listed.is
            (Among-map (λ (w : PlacedToken). number formal_names w.text) listed.word listed.words listed.there),
        subst (λ text. Among text formal_names) listed.is (said-named parts model (IsOutputs listed.words) listed.word listed.line listed.there),
      )

  -- no formal is connected twice
  new-formal : (before words : List PlacedToken) (word : PlacedToken) (link : Link) → bad_from model (before ++ word ∷ []) words ≡ None → link_of word.text ≡ Some link
      → IsFormal link → Among (number formal_names link.formal) (map (λ (c : Connection). c.formal) (flat_map join words)) → ⊥
  new-formal before words word link none is role there =
      let by = from_map (λ (c : Connection). c.formal) (number formal_names link.formal) (flat_map join words) there in
      let of = connection-of words by.0 by.1 in
      let same : number formal_names of.link.formal ≡ number formal_names link.formal = ap (λ (c : Connection). c.formal) of.is ∙ by.2 in
      let text : of.link.formal ≡ link.formal =
      number-apart formal_names of.link.formal link.formal (formal-listed of.link of.role).3 (formal-listed link role).3 same in
      formal-new model (before ++ word ∷ []) words none of.word of.there of.link of.found
      (subst (λ formal. Among formal (formals_of (before ++ word ∷ []))) (sym text) (given-last model before word link is))

  pub formals-apart : (before words : List PlacedToken) → bad_from model before words ≡ None → Apart (map (λ (c : Connection). c.formal) (flat_map join words))
  formals-apart before [] none = tt
  formals-apart before (word ∷ words) none =
      let both = bad-parts model before words word none in
      by_link both.1 (link_of word.text) refl (formals-apart (before ++ word ∷ []) words both.1)
    where
      by_role : bad_from model (before ++ word ∷ []) words ≡ None → (link : Link) → link_of word.text ≡ Some link → (role : Option Role) → role_of model link.formal ≡ role
          → Apart (map (λ (c : Connection). c.formal) (flat_map join words))
          → Apart (map (λ (c : Connection). c.formal) (joined_by_role parts part model link role ++ flat_map join words))
      by_role later link is None at rest = rest
      by_role later link is (Some Clock) at rest = rest
      by_role later link is (Some Input) at rest = (λ there. new-formal before words word link later is (inl at) there, rest)
      by_role later link is (Some Output) at rest = (λ there. new-formal before words word link later is (inr at) there, rest)

      by_link : bad_from model (before ++ word ∷ []) words ≡ None → (found : Option Link) → link_of word.text ≡ found
          → Apart (map (λ (c : Connection). c.formal) (flat_map join words))
          → Apart (map (λ (c : Connection). c.formal) (joined_link parts part model found ++ flat_map join words))
      by_link later None is rest = rest
      by_link later (Some link) is rest = by_role later link is (role_of model link.formal) refl rest

  -- the mention of an actual
  mention-there : (words : List PlacedToken) (connection : Connection) → (of : IsOf words connection)
      → (m : Mention) × Among m (flat_map mention words) × (m.word.text ≡ of.link.actual)
  mention-there words connection of = by_role of.role
    where
      here : (role : Role) (m : Mention) → role_of model of.link.formal ≡ Some role → Among m (mention_by_role (actual_at of.word of.link) (Some role))
          → Among m (flat_map mention words)
      here role m at there =
          Among-flat_map mention of.word m words of.there
          (subst (λ (found : Option Link). Among m (mention_linked model of.word found)) (sym of.found)
          (subst (λ (r : Option Role). Among m (mention_by_role (actual_at of.word of.link) r)) (sym at) there))

      by_role : (role_of model of.link.formal ≡ Some Input) ⊎ (role_of model of.link.formal ≡ Some Output)
          → (m : Mention) × Among m (flat_map mention words) × (m.word.text ≡ of.link.actual)
      by_role (inl at) = (used (actual_at of.word of.link), here Input (used (actual_at of.word of.link)) at (inl refl), refl)
      by_role (inr at) = (driven (actual_at of.word of.link), here Output (driven (actual_at of.word of.link)) at (inl refl), refl)

  pub actual-mentioned : (words : List PlacedToken) (connection : Connection) (of : IsOf words connection)
      → (m : Mention) × Among m (flat_map mention words) × (m.word.text ≡ of.link.actual)
  actual-mentioned words connection of = mention-there words connection of

  -- the number of the model that is placed
  module _ (m : ℕ) (at : slice_get parts m ≡ Some model) where
    abbrev is_in : ℕ → Bool
    is_in name = is_input inputs_of (linked parts) m name

    abbrev listed_inputs : List ℕ
    listed_inputs = inputs_in inputs_of (map (item_of parts model) (entries_of model))

    inputs-are : inputs_in inputs_of (items_of (linked parts) m) ≡ listed_inputs
    inputs-are = ap (inputs_in inputs_of) (linked-items parts m model at)

    -- a number is an input where its text is
    from-input : (name : ℕ) → Among name listed_inputs → (text : List ℕ) × Among text (input_texts model.own.statements) × (number formal_names text ≡ name)
    from-input name there =
        let line = input-item (map (item_of parts model) (entries_of model)) name there in
        let entry = from_map (item_of parts model) (Own line.0) (entries_of model) line.1 in
        ⊎_elim
        (λ says.
        let item : ◌≡◌ {A = Item ModelLine} (Own (line_of formal_names says.0)) (Own line.0) = ap (item_of parts model) says.2 ∙ entry.2 in
        let same : line_of formal_names says.0 ≡ line.0 = cc in
        let word = input-word formal_names says.0 name (subst (λ (l : ModelLine). Among name (inputs_of l)) (sym same) line.2) in
        (word.2.text, listed-input model.own.statements word.0 word.2 (subst (λ (s : Statement). Among s model.own.statements) (sym word.1) says.1) word.3, word.4))
        (λ places. absurd (no-line places.0 line.0 (ap (item_of parts model) places.2 ∙ entry.2)))
        (entry-of 0 model.own.statements model.placings entry.0 entry.1)
      where
        no-line : (p : Placing) (line : ModelLine) → item_of parts model (Places p) ≡ Own line → ⊥
        no-line p line is = cc

    to-input : (text : List ℕ) → Among text (input_texts model.own.statements) → Among (number formal_names text) listed_inputs
    to-input text there =
        let listed = input-listed model.own.statements text there in
        subst (λ t. Among (number formal_names t) listed_inputs) listed.is
        (item-input (map (item_of parts model) (entries_of model)) (line_of formal_names (IsInputs listed.words)) (number formal_names listed.word.text)
        (Among-map (item_of parts model) (Says (IsInputs listed.words)) (entries_of model)
        (says-among 0 model.own.statements model.placings (IsInputs listed.words) listed.line))
        (Among-map (λ (w : PlacedToken). number formal_names w.text) listed.word listed.words listed.there))

    input-named : (text : List ℕ) → Among text (input_texts model.own.statements) → Among text formal_names
    input-named text there = (formal-listed (record { formal = text; actual = [] }) (inl (input-role model text there))).3

    input-is : (link : Link) → role_of model link.formal ≡ Some Input → is_in (number formal_names link.formal) ≡ true
    input-is link role =
        ap (list_any (λ other. eqb other (number formal_names link.formal))) inputs-are
        ∙ any-number (number formal_names link.formal) listed_inputs (to-input link.formal (role-input model link.formal role))

    output-is : (link : Link) → role_of model link.formal ≡ Some Output → is_in (number formal_names link.formal) ≡ false
    output-is link role =
        elim (cases_Bool (is_in (number formal_names link.formal))) [
          | inl bad ↦
              let there = number-any (number formal_names link.formal) listed_inputs
              (sym (ap (list_any (λ other. eqb other (number formal_names link.formal))) inputs-are) ∙ bad) in
              let by = from-input (number formal_names link.formal) there in
              let same : by.0 ≡ link.formal =
              number-apart formal_names by.0 link.formal (input-named by.0 by.1) (formal-listed link (inr role)).3 by.2 in
              absurd (not-any (input_texts model.own.statements) link.formal (role-output model link.formal role).0
              (subst (λ text. Among text (input_texts model.own.statements)) same by.1))
          | inr fine ↦ fine
        ]

    -- what connections drive, is what their mentions do
    actuals-append : (k : ℕ) (one other : List Connection) → times k (actuals_driven is_in (one ++ other)) ≡ times k (actuals_driven is_in one) + times k (actuals_driven is_in other)
    actuals-append k [] other = omega arith
    actuals-append k (first ∷ one) other = by_in (is_in first.formal) (actuals-append k one other)
      where
        by_in : (input : Bool) → times k (actuals_driven is_in (one ++ other)) ≡ times k (actuals_driven is_in one) + times k (actuals_driven is_in other)
            → times k (cond input (actuals_driven is_in (one ++ other)) (first.actual ∷ actuals_driven is_in (one ++ other)))
            ≡ times k (cond input (actuals_driven is_in one) (first.actual ∷ actuals_driven is_in one)) + times k (actuals_driven is_in other)
        by_in true rest = rest
        by_in false rest = omega (arith, rest)

    by_role : (k : ℕ) (word : PlacedToken) (link : Link) (role : Option Role) → role_of model link.formal ≡ role
        → times k (actuals_driven is_in (joined_by_role parts part model link role)) ≡ by_number actual_names k (mention_by_role (actual_at word link) role)
    by_role k word link None at = refl
    by_role k word link (Some Clock) at = refl
    by_role k word link (Some Input) at =
        ap (λ b. times k (cond b [] (number actual_names link.actual ∷ []))) (input-is link at)
    by_role k word link (Some Output) at =
        ap (λ b. times k (cond b [] (number actual_names link.actual ∷ []))) (output-is link at)

    by_link : (k : ℕ) (word : PlacedToken) (found : Option Link)
        → times k (actuals_driven is_in (joined_link parts part model found)) ≡ by_number actual_names k (mention_linked model word found)
    by_link k word None = refl
    by_link k word (Some link) = by_role k word link (role_of model link.formal) refl

    pub placed-counted : (k : ℕ) (words : List PlacedToken) → times k (actuals_driven is_in (flat_map join words)) ≡ by_number actual_names k (flat_map mention words)
    placed-counted k [] = refl
    placed-counted k (word ∷ words) =
        omega (
          arith,
          actuals-append k (join word) (flat_map join words),
          by_link k word (link_of word.text),
          placed-counted k words,
          count_where-append (drives_number actual_names k) (mention word) (flat_map mention words),
        )

    -- an input is connected
    pub input-connected : (words : List PlacedToken) → is_missing model words ≡ false → (name : ℕ) → is_in name ≡ true
        → (actual : ℕ) × (actual_in (flat_map join words) name ≡ Some actual)
    input-connected words connected name is =
        let there = number-any name listed_inputs (sym (ap (list_any (λ other. eqb other name)) inputs-are) ∙ is) in
        let text = from-input name there in
        let given : Among text.0 (formals_of words) =
        among-any (formals_of words) text.0 (not-false (is_one_of (formals_of words) text.0)
        (not_found (λ input. not (is_one_of (formals_of words) input)) (input_texts model.own.statements) text.0 connected text.1)) in
        let word = from_flat_map formal_in text.0 words given in
        by_found word.0 word.1 (link_of word.0.text) refl text.0 word.2 text.1 text.2
      where
        not-false : (b : Bool) → not b ≡ false → b ≡ true
        not-false true is = refl
        not-false false is = cc

        by_found : (word : PlacedToken) → Among word words → (found : Option Link) → link_of word.text ≡ found → (text : List ℕ) → Among text (formal_of found)
            → Among text (input_texts model.own.statements) → number formal_names text ≡ name → (actual : ℕ) × (actual_in (flat_map join words) name ≡ Some actual)
        by_found word there None found text none input is = absurd none
        by_found word there (Some link) found text (inr none) input is = absurd none
        by_found word there (Some link) found text (inl here) input is =
            let role : role_of model link.formal ≡ Some Input = ap (role_of model) here ∙ input-role model text input in
            let among : Among (joined parts part model link) (join word) =
            subst (λ (f : Option Link). Among (joined parts part model link) (joined_link parts part model f)) (sym found)
            (subst (λ (r : Option Role). Among (joined parts part model link) (joined_by_role parts part model link r)) (sym role) (inl refl)) in
            actual-there (flat_map join words) name (joined parts part model link)
            (Among-flat_map join word (joined parts part model link) words there among) (ap (number formal_names) here ∙ is)

-- a placement by the number of its model
pub placement-is : (parts : Parts) (part : Part Model) (placing : Placing) (is : IsPlaced parts placing)
    → placement_by parts part placing ≡ placement_with is.number (flat_map (join parts part is.model) (connections_in placing.words))
placement-is parts part placing is =
    ap (λ (n : Option ℕ). placement_with (number_at n) (joined_all parts part (placed parts placing) (connections_in placing.words))) is.numbered
    ∙ ap (λ (m : Option (Part Model)). placement_with is.number (joined_all parts part m (connections_in placing.words))) is.is
