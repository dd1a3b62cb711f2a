-- The first `.subckt` whose connections are at fault, by what the models offer, is that of the text.
use Rattle.std.proofs.Common.{◌≡◌, ℕ, zero, suc, Bool, true, false, not, ◌||◌, cond, List, [], ◌∷◌, ◌++◌, length, map, drop, Option, None, Some, is_none, refl, sym, ap, ◌∙◌, subst}
use Rattle.std.specs.Prelude.{option_and_then, slice_get}
use Rattle.std.proofs.lemmas.List.{append-nil, append_assoc}
use Rattle.std.proofs.lemmas.List.Folds.{list_any-append}
use Rattle.std.specs.List.{list_any}
use Rattle.std.specs.Option.{option_or}
use Rattle.std.specs.Str.{bytes_eq}
use Rattle.psl_base.specs.Tokens.{PlacedToken}
use Rattle.blif_model.specs.declared.file.FileModel.{FileModel}
use Rattle.blif_model.specs.declared.file.FileText.{FileText}
use Rattle.blif_model.specs.FileKnown.{OwnLines, numbered_part, part_in}
use Rattle.blif_model.specs.Files.{Part, Placing, model_named}
use Rattle.blif_model.specs.Models.{Mention, Model}
use Rattle.blif_model.specs.Names.{place_of}
use Rattle.blif_model.proofs.Held.{PartsHold, parts-hold}
use Rattle.blif_model.proofs.Saying.{said-held}
use Rattle.blif_linking.specs.declared.interface.Interface.{Interface}
use Rattle.blif_linking.specs.Actuals.{mention_offered, mentions_at, mentions_in, mentions_offered}
use Rattle.blif_linking.specs.Bad.{IsReadAs, bad_after, bad_among, bad_by, bad_for, bad_placing, given_by, given_with, is_bad_in, lacks_one, offered}
use Rattle.blif_linking.specs.Interfaces.{Role, is_one_of, role_of}
use Rattle.blif_linking.specs.Links.{Link, connections_in, formal_of, link_of, title_in}
use Rattle.blif_linking.specs.Names.{actual_at, bad_from, bad_in, bad_word, first_bad, first_some, formals_of, is_bad, is_missing, mention_by_role, mention_linked, mentions_by, mentions_placed, number_placed, placed}
use Rattle.blif_linking.specs.Offers.{interface_in}
use Rattle.blif_linking.proofs.Indexes.{drop-get}
use Rattle.blif_linking.proofs.Offering.{Offers, offers}
use Rattle.blif_linking.proofs.Sets.{any-name, any-same, or-assoc, or-false}

-- the formals that words connect, as a set and as a list
link-more : (test : List ℕ → Bool) (given : List (List ℕ)) (link : Option Link)
    → list_any test (given_with given link) ≡ (list_any test given || list_any test (formal_of link))
link-more test given None = sym (or-false (list_any test given))
link-more test given (Some link) =
    any-name test given link.formal ∙ ap (λ b. list_any test given || b) (sym (or-false (test link.formal)))

pub any-given : (test : List ℕ → Bool) (given : List (List ℕ)) (words : List PlacedToken)
    → list_any test (given_by given words) ≡ (list_any test given || list_any test (formals_of words))
any-given test given [] = sym (or-false (list_any test given))
any-given test given (word ∷ words) =
    let link = link_of word.text in
    any-given test (given_with given link) words
    ∙ ap (λ b. b || list_any test (formals_of words)) (link-more test given link)
    ∙ or-assoc (list_any test given) (list_any test (formal_of link)) (list_any test (formals_of words))
    ∙ ap (λ b. list_any test given || b) (sym (list_any-append test (formal_of link) (formals_of words)))

-- tests say the same of a set and of the formals of some words
abbrev SaysSame : List (List ℕ) → List PlacedToken → Type 0
SaysSame given words = (test : List ℕ → Bool) → list_any test given ≡ list_any test (formals_of words)

pub formals-more : (before : List PlacedToken) (word : PlacedToken) → formals_of (before ++ word ∷ []) ≡ formals_of before ++ formal_of (link_of word.text)
formals-more [] word = append-nil (formal_of (link_of word.text))
formals-more (other ∷ before) word =
    ap (λ (rest : List (List ℕ)). formal_of (link_of other.text) ++ rest) (formals-more before word)
    ∙ sym (append_assoc (formal_of (link_of other.text)) (formals_of before) (formal_of (link_of word.text)))

same-more : (given : List (List ℕ)) (before : List PlacedToken) (word : PlacedToken) → SaysSame given before
    → SaysSame (given_with given (link_of word.text)) (before ++ word ∷ [])
same-more given before word same = λ test.
    link-more test given (link_of word.text)
    ∙ ap (λ b. b || list_any test (formal_of (link_of word.text))) (same test)
    ∙ sym (list_any-append test (formals_of before) (formal_of (link_of word.text)))
    ∙ sym (ap (list_any test) (formals-more before word))

bad-one : (interface : Interface) (model : Part Model) (given : List (List ℕ)) (before : List PlacedToken) (link : Option Link) → Offers interface model
    → SaysSame given before → is_bad_in interface given link ≡ is_bad model (formals_of before) link
bad-one interface model given before None offer same = refl
bad-one interface model given before (Some link) offer same =
    ap (λ (role : Option Role). is_none role || is_one_of given link.formal) (offer.roles link.formal)
    ∙ ap (λ b. is_none (role_of model link.formal) || b) (same (bytes_eq link.formal))

bad-first : (interface : Interface) (model : Part Model) (given : List (List ℕ)) (before words : List PlacedToken) → Offers interface model → SaysSame given before
    → bad_after interface given words ≡ bad_from model before words
bad-first interface model given before [] offer same = refl
bad-first interface model given before (word ∷ words) offer same =
    let link = link_of word.text in
    ap (λ b. cond b (Some word) (bad_after interface (given_with given link) words)) (bad-one interface model given before link offer same)
    ∙ ap (λ (found : Option PlacedToken). cond (is_bad model (formals_of before) link) (Some word) found)
    (bad-first interface model (given_with given link) (before ++ word ∷ []) words offer (same-more given before word same))

missing-same : (interface : Interface) (model : Part Model) (words : List PlacedToken) → Offers interface model
    → lacks_one (given_by [] words) interface.inputs ≡ is_missing model words
missing-same interface model words offer =
    any-same (λ input. not (is_one_of (given_by [] words) input)) (λ input. not (is_one_of (formals_of words) input))
    (λ input. ap not (any-given (bytes_eq input) [] words)) interface.inputs
    ∙ offer.inputs (λ input. not (is_one_of (formals_of words) input))

bad-same : (interface : Interface) (model : Part Model) (title : Option PlacedToken) (words : List PlacedToken) → Offers interface model
    → bad_for interface title words ≡ bad_in (Some model) title words
bad-same interface model title words offer =
    ap (λ b. cond b title (bad_after interface [] words)) (missing-same interface model words offer)
    ∙ ap (λ (found : Option PlacedToken). cond (is_missing model words) title found) (bad-first interface model [] [] words offer (λ test. refl))

-- the interfaces are those of the models
abbrev pub AllOffer : List Interface → List (Part Model) → Type 0
AllOffer [] [] = Unit {0}
AllOffer (interface ∷ interfaces) [] = ⊥
AllOffer [] (part ∷ parts) = ⊥
AllOffer (interface ∷ interfaces) (part ∷ parts) = Offers interface part × AllOffer interfaces parts

-- what is placed, by interfaces and by models
abbrev pub Agree : Option Interface → Option (Part Model) → Type 0
Agree None None = Unit {0}
Agree (Some interface) None = ⊥
Agree None (Some part) = ⊥
Agree (Some interface) (Some part) = Offers interface part

at-number : (interfaces : List Interface) (parts : List (Part Model)) (n : ℕ) → AllOffer interfaces parts → Agree (slice_get interfaces n) (slice_get parts n)
at-number [] [] n all = tt
at-number [] (part ∷ parts) n all = absurd all
at-number (interface ∷ interfaces) [] n all = absurd all
at-number (interface ∷ interfaces) (part ∷ parts) zero all = all.0
at-number (interface ∷ interfaces) (part ∷ parts) (suc n) all = at-number interfaces parts n all.1

by-number : (interfaces : List Interface) (parts : List (Part Model)) (number : Option ℕ) → AllOffer interfaces parts
    → Agree (option_and_then (slice_get interfaces) number) (option_and_then (slice_get parts) number)
by-number interfaces parts None all = tt
by-number interfaces parts (Some n) all = at-number interfaces parts n all

bad-agreed : (interface : Option Interface) (model : Option (Part Model)) (title : Option PlacedToken) (words : List PlacedToken) → Agree interface model
    → bad_by interface title words ≡ bad_in model title words
bad-agreed None None title words agree = refl
bad-agreed None (Some model) title words agree = absurd agree
bad-agreed (Some interface) None title words agree = absurd agree
bad-agreed (Some interface) (Some model) title words agree = bad-same interface model title words agree

pub same-number : (one other : List ℕ → Option ℕ) → ((name : List ℕ) → one name ≡ other name) → (title : Option PlacedToken)
    → option_and_then (λ (word : PlacedToken). one word.text) title ≡ option_and_then (λ (word : PlacedToken). other word.text) title
same-number one other same None = refl
same-number one other same (Some word) = same word.text

-- the number of a name is that of its model
abbrev pub Numbers : (List ℕ → Option ℕ) → List (Part Model) → Type 0
Numbers number parts = (name : List ℕ) → number name ≡ model_named parts name

pub placed-agree : (number : List ℕ → Option ℕ) (interfaces : List Interface) (parts : List (Part Model)) (placing : Placing) → Numbers number parts
    → AllOffer interfaces parts → Agree (offered number interfaces (title_in placing.words)) (placed parts placing)
placed-agree number interfaces parts placing same all =
    subst (λ (n : Option ℕ). Agree (option_and_then (slice_get interfaces) n) (placed parts placing))
    (sym (same-number number (model_named parts) same (title_in placing.words)))
    (by-number interfaces parts (number_placed parts placing) all)

-- connections mention the same by what the models offer
link-mentions : (interface : Interface) (model : Part Model) (word : PlacedToken) (link : Option Link) → Offers interface model
    → mention_offered interface word link ≡ mention_linked model word link
link-mentions interface model word None offer = refl
link-mentions interface model word (Some link) offer = ap (mention_by_role (actual_at word link)) (offer.roles link.formal)

words-mention : (interface : Interface) (model : Part Model) (words : List PlacedToken) → Offers interface model
    → mentions_in interface words ≡ mentions_by (Some model) words
words-mention interface model [] offer = refl
words-mention interface model (word ∷ words) offer =
    ap (λ (here : List Mention). here ++ mentions_in interface words) (link-mentions interface model word (link_of word.text) offer)
    ∙ ap (λ (rest : List Mention). mention_linked model word (link_of word.text) ++ rest) (words-mention interface model words offer)

agreed-mention : (interface : Option Interface) (model : Option (Part Model)) (words : List PlacedToken) → Agree interface model
    → mentions_offered interface words ≡ mentions_by model words
agreed-mention None None words agree = refl
agreed-mention None (Some model) words agree = absurd agree
agreed-mention (Some interface) None words agree = absurd agree
agreed-mention (Some interface) (Some model) words agree = words-mention interface model words agree

pub placed-mention : (number : List ℕ → Option ℕ) (interfaces : List Interface) (parts : List (Part Model)) (placing : Placing)
    → Numbers number parts → AllOffer interfaces parts → mentions_at number interfaces placing ≡ mentions_placed parts placing
placed-mention number interfaces parts placing same all =
    agreed-mention (offered number interfaces (title_in placing.words)) (placed parts placing) (connections_in placing.words)
    (placed-agree number interfaces parts placing same all)

placing-same : (number : List ℕ → Option ℕ) (interfaces : List Interface) (parts : List (Part Model)) (placing : Placing) → Numbers number parts
    → AllOffer interfaces parts → bad_placing number interfaces placing ≡ bad_word parts placing
placing-same number interfaces parts placing same all =
    bad-agreed (offered number interfaces (title_in placing.words)) (placed parts placing) (title_in placing.words) (connections_in placing.words)
    (placed-agree number interfaces parts placing same all)

pub some-same : {A B : Type 0} (one other : A → Option B) → ((x : A) → one x ≡ other x) → (xs : List A) → first_some one xs ≡ first_some other xs
some-same {A} {B} one other same [] = refl
some-same {A} {B} one other same (x ∷ xs) =
    ap (λ (found : Option B). option_or found (first_some one xs)) (same x) ∙ ap (option_or (other x)) (some-same one other same xs)

among-same : (whole : List ℕ) (number : List ℕ → Option ℕ) (interfaces : List Interface) (all some : List (Part Model))
    → Numbers number all → AllOffer interfaces all
    → bad_among number interfaces (map (numbered_part whole) some) ≡ first_some (λ (part : Part Model). first_some (bad_word all) part.placings) some
among-same whole number interfaces all [] same offer = refl
among-same whole number interfaces all (part ∷ some) same offer =
    ap (λ (found : Option PlacedToken). option_or found (bad_among number interfaces (map (numbered_part whole) some)))
    (some-same (bad_placing number interfaces) (bad_word all) (λ placing. placing-same number interfaces all placing same offer) part.placings)
    ∙ ap (option_or (first_some (bad_word all) part.placings)) (among-same whole number interfaces all some same offer)

-- the models of a text offer what its words offer
all-offer : (whole : List ℕ) (size most : ℕ) (models : List FileModel) (parts : List (Part Model)) → map (part_in whole) models ≡ map (numbered_part whole) parts
    → PartsHold size parts most → AllOffer (map (interface_in whole) models) parts
all-offer whole size most [] [] is hold = tt
all-offer whole size most [] (part ∷ parts) is hold = cc
all-offer whole size most (model ∷ models) [] is hold = cc
all-offer whole size most (model ∷ models) (part ∷ parts) is hold =
    let first : part_in whole model ≡ numbered_part whole part = cc in
    let rest : map (part_in whole) models ≡ map (numbered_part whole) parts = cc in
    (offers whole model part first (said-held part.own hold.0.own.mentions), all-offer whole size most models parts rest hold.1)

pub read-offers : (whole : List ℕ) (text : FileText) (parts : List (Part Model)) → IsReadAs whole text parts
    → AllOffer (map (interface_in whole) text.models) parts
read-offers whole text parts read =
    all-offer whole (length whole) (length whole) text.models parts read.1.0 (parts-hold whole parts read.0)

pub bad-is : (whole : List ℕ) (text : FileText) (interfaces : List Interface) (parts : List (Part Model)) → interfaces ≡ map (interface_in whole) text.models
    → IsReadAs whole text parts → bad_among (place_of text.titles) interfaces (map (part_in whole) text.models) ≡ first_bad parts
bad-is whole text interfaces parts are read =
    ap (λ (list : List (Part OwnLines)). bad_among (place_of text.titles) interfaces list) read.1.0
    ∙ among-same whole (place_of text.titles) interfaces parts parts read.1.1
    (subst (λ list. AllOffer list parts) (sym are) (read-offers whole text parts read))

-- inputs one by one
pub lacks-here : (given inputs : List (List ℕ)) (n : ℕ) (input : List ℕ) → slice_get inputs n ≡ Some input → not (is_one_of given input) ≡ true
    → lacks_one given (drop n inputs) ≡ true
lacks-here given inputs n input at is =
    ap (lacks_one given) (drop-get inputs n input at) ∙ ap (λ b. b || lacks_one given (drop (suc n) inputs)) is

pub lacks-later : (given inputs : List (List ℕ)) (n : ℕ) (input : List ℕ) → slice_get inputs n ≡ Some input → not (is_one_of given input) ≡ false
    → lacks_one given (drop n inputs) ≡ lacks_one given (drop (suc n) inputs)
lacks-later given inputs n input at is =
    ap (lacks_one given) (drop-get inputs n input at) ∙ ap (λ b. b || lacks_one given (drop (suc n) inputs)) is
