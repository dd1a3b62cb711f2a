-- Models that are linked connect names of the models that they place, each once, where no connection is at fault.
use Rattle.std.proofs.Common.{◌≡◌, ℕ, zero, suc, ◌-◌, ◌<◌, Bool, true, false, not, ◌||◌, cond, List, [], ◌∷◌, ◌++◌, length, map, take, drop, fold, Option, None, Some, is_none, refl, sym, ap, ◌∙◌, subst, inl, inr, ⊎_elim}
use Rattle.std.specs.Prelude.{option_and_then, slice_get}
use Rattle.std.proofs.lemmas.List.{map-append}
use Rattle.std.proofs.lemmas.List.Folds.{list_any-append}
use Rattle.std.proofs.lemmas.Slice.Eq.{bytes_eq-Decides}
use Rattle.std.specs.List.{flat_map, list_any}
use Rattle.std.specs.Str.{bytes_eq}
use Rattle.psl_base.specs.Tokens.{PlacedToken}
use Rattle.blif_flattening.specs.declared.model.Connection.{Connection}
use Rattle.blif_flattening.specs.declared.model.Item.TheVariants.{Place}
use Rattle.blif_flattening.specs.declared.model.Placement.{Placement}
use Rattle.blif_flattening.specs.Hierarchy.{items_of}
use Rattle.blif_flattening.specs.Instances.{names_of as count_of}
use Rattle.blif_flattening.specs.Members.{Among, Apart}
use Rattle.blif_flattening.proofs.Members.{from_append, from_map}
use Rattle.blif_hierarchy.specs.Drivers.{IsInForm}
use Rattle.blif_hierarchy.specs.Sums.{AreInForm}
use Rattle.blif_model.specs.Files.{Part, Placing, model_named}
use Rattle.blif_model.specs.Models.{Mention, Model, Statement, IsInputs, IsOutputs, IsLatch, IsTable, driven, used, with_name}
use Rattle.blif_model.specs.Names.{number_at, place_of}
use Rattle.blif_model.proofs.Holding.{or_none}
use Rattle.blif_model.proofs.Mentioned.{all_mentions}
use Rattle.blif_model.proofs.Places.{place_of-within}
use Rattle.blif_model.proofs.Saying.{text-placed}
use Rattle.blif_linking.specs.Interfaces.{Role, Input, Output, Clock, inputs_in, is_one_of, outputs_in, role_of, texts_of}
use Rattle.blif_linking.specs.Linked.{item_of, joined, joined_all, joined_by_role, joined_link, linked, linked_model}
use Rattle.blif_linking.specs.Links.{Link, connections_in, formal_of, link_of, title_in}
use Rattle.blif_linking.specs.Names as names
use Rattle.blif_linking.specs.Names.{Entry, Says, Places, bad_from, bad_in, bad_word, entries_from, entries_of, first_bad, first_some, formals_of, is_bad, is_missing, names_in, number_placed, placed}
use Rattle.blif_linking.proofs.Closed.{lines-only}
use Rattle.blif_linking.proofs.Connecting.{formals-more}
use Rattle.blif_linking.proofs.Freeing.{any-entry}
use Rattle.blif_linking.proofs.Sets.{any-name, one-of-is, or-assoc, or-false}

-- what lines list is among the names of their model
any-mentioned : (test : List ℕ → Bool) (found : List (List ℕ)) (mentions : List Mention)
    → list_any test (fold (λ found (mention : Mention). with_name found mention.word.text) found mentions)
    ≡ (list_any test found || list_any (λ (mention : Mention). test mention.word.text) mentions)
any-mentioned test found [] = sym (or-false (list_any test found))
any-mentioned test found (mention ∷ mentions) =
    any-mentioned test (with_name found mention.word.text) mentions
    ∙ ap (λ b. b || list_any (λ (mention : Mention). test mention.word.text) mentions) (any-name test found mention.word.text)
    ∙ or-assoc (list_any test found) (test mention.word.text) (list_any (λ (mention : Mention). test mention.word.text) mentions)

or-true : (b : Bool) → (b || true) ≡ true
or-true true = refl
or-true false = refl

-- one of two
either : {C : Type 0} (a b : Bool) → (a || b) ≡ true → (a ≡ true → C) → (b ≡ true → C) → C
either true b is left right = left refl
either false b is left right = right is

any-driven : (test : List ℕ → Bool) (words : List PlacedToken) → list_any (λ (mention : Mention). test mention.word.text) (map driven words) ≡ list_any test (texts_of words)
any-driven test [] = refl
any-driven test (word ∷ words) = ap (λ b. test word.text || b) (any-driven test words)

any-used : (test : List ℕ → Bool) (words : List PlacedToken) → list_any (λ (mention : Mention). test mention.word.text) (map used words) ≡ list_any test (texts_of words)
any-used test [] = refl
any-used test (word ∷ words) = ap (λ b. test word.text || b) (any-used test words)

-- a name that one line lists, or another one
one-line : (test : Mention → Bool) (here rest : List Mention) (a b : Bool) → (a || b) ≡ true → (a ≡ true → list_any test here ≡ true)
    → (b ≡ true → list_any test rest ≡ true) → list_any test (here ++ rest) ≡ true
one-line test here rest a b is first later =
    list_any-append test here rest
    ∙ either a b is (λ yes. ap (λ x. x || list_any test rest) (first yes)) (λ yes. ap (λ x. list_any test here || x) (later yes) ∙ or-true (list_any test here))

input-mentioned : (test : List ℕ → Bool) (statements : List Statement) → list_any test (inputs_in statements) ≡ true
    → list_any (λ (mention : Mention). test mention.word.text) (all_mentions statements) ≡ true
input-mentioned test [] is = is
input-mentioned test (IsInputs words ∷ statements) is =
    one-line (λ (mention : Mention). test mention.word.text) (map driven words) (all_mentions statements) (list_any test (texts_of words)) (list_any test (inputs_in statements))
    (sym (list_any-append test (texts_of words) (inputs_in statements)) ∙ is) (λ yes. any-driven test words ∙ yes) (input-mentioned test statements)
input-mentioned test (IsOutputs words ∷ statements) is =
    one-line (λ (mention : Mention). test mention.word.text) (map used words) (all_mentions statements) false (list_any test (inputs_in statements)) is (λ yes. cc) (input-mentioned test statements)
input-mentioned test (IsLatch latch ∷ statements) is =
    one-line (λ (mention : Mention). test mention.word.text) (used latch.input ∷ driven latch.output ∷ []) (all_mentions statements) false (list_any test (inputs_in statements)) is (λ yes. cc) (input-mentioned test statements)
input-mentioned test (IsTable gate ∷ statements) is =
    one-line (λ (mention : Mention). test mention.word.text) (map used gate.inputs ++ driven gate.output ∷ []) (all_mentions statements) false (list_any test (inputs_in statements)) is (λ yes. cc) (input-mentioned test statements)

output-mentioned : (test : List ℕ → Bool) (statements : List Statement) → list_any test (outputs_in statements) ≡ true
    → list_any (λ (mention : Mention). test mention.word.text) (all_mentions statements) ≡ true
output-mentioned test [] is = is
output-mentioned test (IsInputs words ∷ statements) is =
    one-line (λ (mention : Mention). test mention.word.text) (map driven words) (all_mentions statements) false (list_any test (outputs_in statements)) is (λ yes. cc) (output-mentioned test statements)
output-mentioned test (IsOutputs words ∷ statements) is =
    one-line (λ (mention : Mention). test mention.word.text) (map used words) (all_mentions statements) (list_any test (texts_of words)) (list_any test (outputs_in statements))
    (sym (list_any-append test (texts_of words) (outputs_in statements)) ∙ is) (λ yes. any-used test words ∙ yes) (output-mentioned test statements)
output-mentioned test (IsLatch latch ∷ statements) is =
    one-line (λ (mention : Mention). test mention.word.text) (used latch.input ∷ driven latch.output ∷ []) (all_mentions statements) false (list_any test (outputs_in statements)) is (λ yes. cc) (output-mentioned test statements)
output-mentioned test (IsTable gate ∷ statements) is =
    one-line (λ (mention : Mention). test mention.word.text) (map used gate.inputs ++ driven gate.output ∷ []) (all_mentions statements) false (list_any test (outputs_in statements)) is (λ yes. cc) (output-mentioned test statements)

-- a name has a place where it is one of some names
place-of-one : (names : List (List ℕ)) (name : List ℕ) (place : Option ℕ) → place_of names name ≡ place → is_one_of names name ≡ true → (n : ℕ) × (place_of names name ≡ Some n)
place-of-one names name None at is =
    let no : true ≡ false = sym is ∙ one-of-is names name ∙ ap (λ (place : Option ℕ). not (is_none place)) at in
    cc
place-of-one names name (Some n) at is = (n, at)

mentioned-named : (parts : List (Part Model)) (model : Part Model) (name : List ℕ)
    → list_any (λ (mention : Mention). bytes_eq name mention.word.text) (all_mentions model.own.statements) ≡ true → is_one_of (names_in parts model) name ≡ true
mentioned-named parts model name is =
    any-mentioned (bytes_eq name) [] (names.mentions_in parts model)
    ∙ any-entry parts (λ (mention : Mention). bytes_eq name mention.word.text) 0 model.own.statements model.placings
    ∙ ap (λ b. b || list_any (λ (mention : Mention). bytes_eq name mention.word.text) (flat_map (names.mentions_placed parts) model.placings)) is

pub formal-named : (parts : List (Part Model)) (model : Part Model) (name : List ℕ) → (is_one_of (inputs_in model.own.statements) name || is_one_of (outputs_in model.own.statements) name) ≡ true
    → (n : ℕ) × (place_of (names_in parts model) name ≡ Some n)
formal-named parts model name is =
    place-of-one (names_in parts model) name (place_of (names_in parts model) name) refl
    (mentioned-named parts model name
    (either (is_one_of (inputs_in model.own.statements) name) (is_one_of (outputs_in model.own.statements) name) is
    (input-mentioned (bytes_eq name) model.own.statements) (output-mentioned (bytes_eq name) model.own.statements)))

-- what a role says of a name
role-input : (a b c : Bool) → cond a (Some Input) (cond b (Some Output) (cond c (Some Clock) None)) ≡ Some Input → (a || b) ≡ true
role-input true b c is = refl
role-input false true c is = refl
role-input false false true is = cc
role-input false false false is = cc

role-output : (a b c : Bool) → cond a (Some Input) (cond b (Some Output) (cond c (Some Clock) None)) ≡ Some Output → (a || b) ≡ true
role-output true b c is = refl
role-output false true c is = refl
role-output false false true is = cc
role-output false false false is = cc

-- the number of a connection's formal is that of a name, which no word before it connects
pub record Formal (names : List (List ℕ)) (given : List (List ℕ)) (connection : Connection) : Type 0 where
  pub text : List ℕ
  pub at : place_of names text ≡ Some connection.formal
  pub new : is_one_of given text ≡ false

placed-formal : (parts : List (Part Model)) (part model : Part Model) (link : Link) (connection : Connection) (given : List (List ℕ))
    → (is_one_of (inputs_in model.own.statements) link.formal || is_one_of (outputs_in model.own.statements) link.formal) ≡ true
    → is_one_of given link.formal ≡ false → joined parts part model link ≡ connection → Formal (names_in parts model) given connection
placed-formal parts part model link connection given is new same =
    let named = formal-named parts model link.formal is in
    let number : connection.formal ≡ named.0 =
    sym (ap (λ (c : Connection). c.formal) same) ∙ ap number_at named.1 in
    record { text = link.formal; at = named.1 ∙ ap Some (sym number); new = new }

role-formal : (parts : List (Part Model)) (part model : Part Model) (link : Link) (connection : Connection) (given : List (List ℕ)) (role : Option Role)
    → role_of model link.formal ≡ role → is_one_of given link.formal ≡ false → Among connection (joined_by_role parts part model link role)
    → Formal (names_in parts model) given connection
role-formal parts part model link connection given (Some Input) is new (inl same) =
    placed-formal parts part model link connection given
    (role-input (is_one_of (inputs_in model.own.statements) link.formal) (is_one_of (outputs_in model.own.statements) link.formal) (is_one_of (texts_of model.clocks) link.formal) is) new same
role-formal parts part model link connection given (Some Input) is new (inr none) = absurd none
role-formal parts part model link connection given (Some Output) is new (inl same) =
    placed-formal parts part model link connection given
    (role-output (is_one_of (inputs_in model.own.statements) link.formal) (is_one_of (outputs_in model.own.statements) link.formal) (is_one_of (texts_of model.clocks) link.formal) is) new same
role-formal parts part model link connection given (Some Output) is new (inr none) = absurd none
role-formal parts part model link connection given (Some Clock) is new there = absurd there
role-formal parts part model link connection given None is new there = absurd there

or-second : (a b : Bool) → (a || b) ≡ false → b ≡ false
or-second true b is = cc
or-second false b is = is

link-formal : (parts : List (Part Model)) (part model : Part Model) (given : List (List ℕ)) (link : Option Link) (connection : Connection)
    → is_bad model given link ≡ false → Among connection (joined_link parts part model link) → Formal (names_in parts model) given connection
link-formal parts part model given None connection fine there = absurd there
link-formal parts part model given (Some link) connection fine there =
    role-formal parts part model link connection given (role_of model link.formal) refl
    (or-second (is_none (role_of model link.formal)) (is_one_of given link.formal) fine) there

-- a word that is not bad, and others behind it
fine-first : (b : Bool) (word : PlacedToken) (rest : Option PlacedToken) → cond b (Some word) rest ≡ None → (b ≡ false) × (rest ≡ None)
fine-first true word rest is = cc
fine-first false word rest is = (refl, is)

fewer : (names : List (List ℕ)) (before : List PlacedToken) (word : PlacedToken) (connection : Connection) → Formal names (formals_of (before ++ word ∷ [])) connection
    → Formal names (formals_of before) connection
fewer names before word connection formal = record {
  text = formal.text;
  at = formal.at;
  new = or-first (is_one_of (formals_of before) formal.text) (is_one_of (formal_of (link_of word.text)) formal.text)
      (sym (list_any-append (bytes_eq formal.text) (formals_of before) (formal_of (link_of word.text)))
      ∙ sym (ap (λ list. is_one_of list formal.text) (formals-more before word)) ∙ formal.new);
}
  where
    or-first : (a b : Bool) → (a || b) ≡ false → a ≡ false
    or-first true b is = cc
    or-first false b is = refl

module _ (parts : List (Part Model)) (part model : Part Model) where
  words-formal : (before words : List PlacedToken) (connection : Connection) → bad_from model before words ≡ None
      → Among connection (joined_all parts part (Some model) words) → Formal (names_in parts model) (formals_of before) connection
  words-formal before [] connection none there = absurd there
  words-formal before (word ∷ words) connection none there =
      let fine = fine-first (is_bad model (formals_of before) (link_of word.text)) word (bad_from model (before ++ word ∷ []) words) none in
      ⊎_elim
      (λ here. link-formal parts part model (formals_of before) (link_of word.text) connection fine.0 here)
      (λ later. fewer (names_in parts model) before word connection (words-formal (before ++ word ∷ []) words connection fine.1 later))
      (from_append connection (joined_link parts part model (link_of word.text)) (joined_all parts part (Some model) words) there)

  abbrev formals : List PlacedToken → List ℕ
  formals words = map (λ (connection : Connection). connection.formal) (joined_all parts part (Some model) words)

  -- the formal of a word is not connected behind it
  not-again : (before words : List PlacedToken) (word : PlacedToken) (link : Link) → link_of word.text ≡ Some link → bad_from model (before ++ word ∷ []) words ≡ None
      → (is_one_of (inputs_in model.own.statements) link.formal || is_one_of (outputs_in model.own.statements) link.formal) ≡ true
      → Among (number_at (place_of (names_in parts model) link.formal)) (formals words) → ⊥
  not-again before words word link linked_so none is there =
      let found = from_map (λ (connection : Connection). connection.formal) (number_at (place_of (names_in parts model) link.formal)) (joined_all parts part (Some model) words) there in
      let formal = words-formal (before ++ word ∷ []) words found.0 none found.1 in
      let named = formal-named parts model link.formal is in
      let number : found.0.formal ≡ named.0 = found.2 ∙ ap number_at named.1 in
      let same : link.formal ≡ formal.text =
      sym (text-placed (names_in parts model) link.formal named.0 named.1)
      ∙ text-placed (names_in parts model) formal.text named.0 (formal.at ∙ ap Some number) in
      let given : is_one_of (formals_of (before ++ word ∷ [])) link.formal ≡ true =
      ap (λ list. is_one_of list link.formal) (formals-more before word ∙ ap (λ (l : Option Link). formals_of before ++ formal_of l) linked_so)
      ∙ list_any-append (bytes_eq link.formal) (formals_of before) (link.formal ∷ [])
      ∙ ap (λ b. is_one_of (formals_of before) link.formal || (b || false)) ((bytes_eq-Decides link.formal link.formal).1 refl)
      ∙ or-true (is_one_of (formals_of before) link.formal) in
      let no : true ≡ false = sym given ∙ ap (is_one_of (formals_of (before ++ word ∷ []))) same ∙ formal.new in
      cc

  role-apart : (before words : List PlacedToken) (word : PlacedToken) (link : Link) (role : Option Role) → link_of word.text ≡ Some link → role_of model link.formal ≡ role
      → bad_from model (before ++ word ∷ []) words ≡ None → Apart (formals words)
      → Apart (map (λ (connection : Connection). connection.formal) (joined_by_role parts part model link role ++ joined_all parts part (Some model) words))
  role-apart before words word link (Some Input) linked_so is none apart = (
    not-again before words word link linked_so none
        (role-input (is_one_of (inputs_in model.own.statements) link.formal) (is_one_of (outputs_in model.own.statements) link.formal) (is_one_of (texts_of model.clocks) link.formal) is),
    apart,
  )
  role-apart before words word link (Some Output) linked_so is none apart = (
    not-again before words word link linked_so none
        (role-output (is_one_of (inputs_in model.own.statements) link.formal) (is_one_of (outputs_in model.own.statements) link.formal) (is_one_of (texts_of model.clocks) link.formal) is),
    apart,
  )
  role-apart before words word link (Some Clock) linked_so is none apart = apart
  role-apart before words word link None linked_so is none apart = apart

  link-apart : (before words : List PlacedToken) (word : PlacedToken) (link : Option Link) → link_of word.text ≡ link → bad_from model (before ++ word ∷ []) words ≡ None
      → Apart (formals words)
      → Apart (map (λ (connection : Connection). connection.formal) (joined_link parts part model link ++ joined_all parts part (Some model) words))
  link-apart before words word None linked_so none apart = apart
  link-apart before words word (Some link) linked_so none apart = role-apart before words word link (role_of model link.formal) linked_so refl none apart

  words-apart : (before words : List PlacedToken) → bad_from model before words ≡ None → Apart (formals words)
  words-apart before [] none = tt
  words-apart before (word ∷ words) none =
      let fine = fine-first (is_bad model (formals_of before) (link_of word.text)) word (bad_from model (before ++ word ∷ []) words) none in
      link-apart before words word (link_of word.text) refl fine.1 (words-apart (before ++ word ∷ []) words fine.1)

-- a placement whose connections are not at fault
count-at : (all parts : List (Part Model)) (n : ℕ) (model : Part Model) → slice_get parts n ≡ Some model → count_of (map (linked_model all) parts) n ≡ length (names_in all model)
count-at all [] n model is = cc
count-at all (part ∷ parts) zero model is = let same : part ≡ model = cc in ap (λ (p : Part Model). length (names_in all p)) same
count-at all (part ∷ parts) (suc n) model is = count-at all parts n model is

fine-words : (model : Part Model) (title : Option PlacedToken) (words : List PlacedToken) → (title ≡ None → ⊥) → bad_in (Some model) title words ≡ None → bad_from model [] words ≡ None
fine-words model title words some none = by_missing (is_missing model words) title (bad_from model [] words) some none
  where
    by_missing : (missing : Bool) (title later : Option PlacedToken) → (title ≡ None → ⊥) → cond missing title later ≡ None → later ≡ None
    by_missing true title later some none = absurd (some none)
    by_missing false title later some none = none

placing-form : (parts : List (Part Model)) (part : Part Model) (title : Option PlacedToken) (number : Option ℕ) (model : Option (Part Model)) (words : List PlacedToken)
    → (title ≡ None → model ≡ None) → option_and_then (slice_get parts) number ≡ model → bad_in model title words ≡ None
    → IsInForm (linked parts) (record { model = number_at number; connections = joined_all parts part model words })
placing-form parts part title number None words titled is none = record { formals = λ connection there. absurd there; once = tt }
placing-form parts part title None (Some model) words titled is none = cc
placing-form parts part title (Some n) (Some model) words titled is none =
    let some : title ≡ None → ⊥ = λ no. (let bad : Some model ≡ None = titled no in cc) in
    let fine = fine-words model title words some none in
    record {
      formals = λ connection there.
          let formal = words-formal parts part model [] words connection fine there in
          subst (λ count. connection.formal < count) (sym (count-at parts parts n model is)) (place_of-within (names_in parts model) formal.text connection.formal formal.at);
      once = words-apart parts part model [] words fine;
    }

untitled : (parts : List (Part Model)) (title : Option PlacedToken) → title ≡ None
    → option_and_then (slice_get parts) (option_and_then (λ (word : PlacedToken). model_named parts word.text) title) ≡ None
untitled parts None is = refl
untitled parts (Some word) is = cc

items-form : (parts : List (Part Model)) (part : Part Model) (before : ℕ) (statements : List Statement) (placings : List Placing) (placement : Placement)
    → first_some (bad_word parts) placings ≡ None
    → Among (Place placement) (map (item_of parts part) (entries_from before statements placings)) → IsInForm (linked parts) placement
items-form parts part before statements [] placement none there = absurd (lines-only parts part statements placement there)
items-form parts part before statements (placing ∷ placings) placement none there =
    let k = placing.before - before in
    let rest = entries_from placing.before (drop k statements) placings in
    let fine = or_none (bad_word parts placing) (first_some (bad_word parts) placings) none in
    let split = subst (Among (Place placement)) (map-append (item_of parts part) (map Says (take k statements)) (Places placing ∷ rest)) there in
    ⊎_elim
    (λ line. absurd (lines-only parts part (take k statements) placement line))
    (λ other. ⊎_elim
    (λ here. let same : record { model = number_at (number_placed parts placing); connections = joined_all parts part (placed parts placing) (connections_in placing.words) } ≡ placement = cc in
    subst (IsInForm (linked parts)) same
    (placing-form parts part (title_in placing.words) (number_placed parts placing) (placed parts placing) (connections_in placing.words) (untitled parts (title_in placing.words)) refl fine.0))
    (λ later. items-form parts part placing.before (drop k statements) placings placement fine.1 later) other)
    (from_append (Place placement) (map (item_of parts part) (map Says (take k statements))) (item_of parts part (Places placing) ∷ map (item_of parts part) rest) split)

models-form : (parts some : List (Part Model)) (model : ℕ) (placement : Placement)
    → first_some (λ (part : Part Model). first_some (bad_word parts) part.placings) some ≡ None
    → Among (Place placement) (items_of (map (linked_model parts) some) model) → IsInForm (linked parts) placement
models-form parts [] model placement none there = absurd there
models-form parts (part ∷ some) zero placement none there =
    let fine = or_none (first_some (bad_word parts) part.placings) (first_some (λ (p : Part Model). first_some (bad_word parts) p.placings) some) none in
    items-form parts part 0 part.own.statements part.placings placement fine.0 there
models-form parts (part ∷ some) (suc model) placement none there =
    let fine = or_none (first_some (bad_word parts) part.placings) (first_some (λ (p : Part Model). first_some (bad_word parts) p.placings) some) none in
    models-form parts some model placement fine.1 there

pub linked-form : (parts : List (Part Model)) → first_bad parts ≡ None → AreInForm (linked parts)
linked-form parts none model placement there = models-form parts parts model placement none there
