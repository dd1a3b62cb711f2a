-- How often mentions drive a name.
use Rattle.std.proofs.Common.{◌≡◌, ℕ, ◌+◌, ◌<◌, ◌≤◌, ◌⊎◌, Bool, true, false, eqb, cond, not, ◌&&◌, ◌||◌, List, [], ◌∷◌, ◌++◌, length, get_or, Option, None, Some, refl, sym, ap, ◌∙◌, subst, inl, inr, ⊎_elim, arith}
use Rattle.std.proofs.lemmas.Bool.{cases_Bool, eqb-true}
use Rattle.std.proofs.lemmas.List.{append-nil, append_assoc}
use Rattle.std.proofs.lemmas.Slice.Eq.{bytes_eq-Decides}
use Rattle.std.specs.List.{list_any, find}
use Rattle.std.specs.Option.{option_map}
use Rattle.std.specs.Str.{bytes_eq}
use Rattle.blif_flattening.specs.Members.{Among}
use Rattle.blif_flattening.proofs.Members.{Among-at}
use Rattle.blif_model.specs.declared.fault.BlifFault.TheVariants.{DrivenTwice}
use Rattle.blif_model.specs.Models.{Mention, is_driven, is_undriven, names_of}
use Rattle.blif_model.specs.Rules.{name_rule, names_fault}
use Rattle.blif_model.proofs.Holding.{map_none, or_none}
use Rattle.blif_linking.specs.Names.{driven_from}
use Rattle.blif_hierarchy.specs.Drivers.{count_where}
use Rattle.blif_hierarchy.proofs.Counting.{one_if, count_where-append, count_where-same, count_where-none}
use Rattle.blif_laws.proofs.Numbers.{number, names-apart, names-among, names-from, number-within, number-is}

pub fault_free : {A : Type 0} (first : Bool) (fault : A) (rest : Option A) → cond first (Some fault) rest ≡ None → (first ≡ false) × (rest ≡ None)
fault_free true fault rest none = cc
fault_free false fault rest none = (refl, none)

and_none : (one other : Bool) → other ≡ false → (one && other) ≡ false
and_none true other is = is
and_none false other is = refl

-- a mention that drives a text, and one that drives a number
abbrev pub drives_text : List ℕ → Mention → Bool
drives_text text mention = mention.drives && bytes_eq text mention.word.text

abbrev pub drives_number : List (List ℕ) → ℕ → Mention → Bool
drives_number names k mention = mention.drives && eqb (number names mention.word.text) k

-- how many there are
abbrev pub by_text : List ℕ → List Mention → ℕ
by_text text mentions = count_where (drives_text text) mentions

abbrev pub by_number : List (List ℕ) → ℕ → List Mention → ℕ
by_number names k mentions = count_where (drives_number names k) mentions

-- a number is driven as often as its name
same_count : (mentions : List Mention) (k : ℕ) → k < length (names_of mentions)
    → by_number (names_of mentions) k mentions ≡ by_text (get_or (names_of mentions) k []) mentions
same_count mentions k lt =
    let names : List (List ℕ) = names_of mentions in
    count_where-same (drives_number names k) (drives_text (get_or names k [])) mentions
    (λ mention there. ap (λ b. mention.drives && b) (number-is names mention.word.text k (names-apart mentions) (names-among mentions mention there) lt))

no_count : (mentions : List Mention) (k : ℕ) → length (names_of mentions) ≤ k → by_number (names_of mentions) k mentions ≡ 0
no_count mentions k past =
    let names : List (List ℕ) = names_of mentions in
    count_where-none (drives_number names k) mentions
    (λ mention there. elim (cases_Bool (eqb (number names mention.word.text) k)) [
      | inl same ↦
          let is : number names mention.word.text ≡ k = eqb-true (number names mention.word.text) k same in
          let below : number names mention.word.text < length names = number-within names mention.word.text (names-among mentions mention there) in
          absurd (omega (arith, is, below, past))
      | inr differ ↦ and_none mention.drives (eqb (number names mention.word.text) k) differ
    ])

-- tests that something passes, or nothing does
pub none-passes : {X : Type 0} (test : X → Bool) (xs : List X) → list_any test xs ≡ false → count_where test xs ≡ 0
none-passes test [] none = refl
none-passes test (x ∷ xs) none = by_first (test x) none (none-passes test xs)
  where
    by_first : (first : Bool) → (first || list_any test xs) ≡ false → (list_any test xs ≡ false → count_where test xs ≡ 0) → one_if first + count_where test xs ≡ 0
    by_first true none later = cc
    by_first false none later = omega (arith, later none)

some-passes : {X : Type 0} (test : X → Bool) (xs : List X) → list_any test xs ≡ true → 1 ≤ count_where test xs
some-passes test [] some = cc
some-passes test (x ∷ xs) some = by_first (test x) some (some-passes test xs)
  where
    by_first : (first : Bool) → (first || list_any test xs) ≡ true → (list_any test xs ≡ true → 1 ≤ count_where test xs) → 1 ≤ one_if first + count_where test xs
    by_first true some later = omega arith
    by_first false some later = omega (arith, later some)

one-passes : {X : Type 0} (test : X → Bool) (xs : List X) (x : X) → Among x xs → test x ≡ true → 1 ≤ count_where test xs
one-passes test [] x none is = absurd none
one-passes test (y ∷ xs) x (inl here) is =
    let one : one_if (test y) ≡ 1 = ap one_if (ap test here ∙ is) in
    omega (arith, one)
one-passes test (y ∷ xs) x (inr there) is = omega (arith, one-passes test xs x there is)

-- mentions of a model's own lines without a fault drive no text twice
one_more : (drives same any : Bool) (count : ℕ) → (drives && any) ≡ false → count ≤ 1 → (same ≡ true → any ≡ false → count ≡ 0) → count + one_if (drives && same) ≤ 1
one_more true true any count free few none = let is : count ≡ 0 = none refl free in omega arith
one_more true false any count free few none = omega arith
one_more false same any count free few none = omega arith

push : (text : List ℕ) (before : List Mention) (mention : Mention) → by_text text (before ++ mention ∷ []) ≡ by_text text before + one_if (drives_text text mention)
push text before mention = omega (arith, count_where-append (drives_text text) before (mention ∷ []))

own_from : (before mentions : List Mention) → names_fault before mentions ≡ None → ((text : List ℕ) → by_text text before ≤ 1)
    → (text : List ℕ) → by_text text (before ++ mentions) ≤ 1
own_from before [] none few text = subst (λ (all : List Mention). by_text text all ≤ 1) (sym (append-nil before)) (few text)
own_from before (mention ∷ mentions) none few text =
    let parts = or_none (option_map (λ fault. fault mention.word.place) (name_rule before mention)) (names_fault (before ++ mention ∷ []) mentions) none in
    let free = (fault_free (mention.drives && is_driven before mention.word) DrivenTwice _ (map_none (λ fault. fault mention.word.place) (name_rule before mention) parts.0)).0 in
    subst (λ (all : List Mention). by_text text all ≤ 1) (append_assoc before (mention ∷ []) mentions)
    (own_from (before ++ mention ∷ []) mentions parts.1 (next free) text)
  where
    next : (mention.drives && is_driven before mention.word) ≡ false → (other : List ℕ) → by_text other (before ++ mention ∷ []) ≤ 1
    next free other =
        let more = one_more mention.drives (bytes_eq other mention.word.text) (is_driven before mention.word) (by_text other before) free (few other)
        (λ same none. none-passes (drives_text other) before (ap (λ text. list_any (drives_text text) before) ((bytes_eq-Decides other mention.word.text).0 same) ∙ none)) in
        omega (arith, more, push other before mention)

pub own-once : (mentions : List Mention) → names_fault [] mentions ≡ None → (text : List ℕ) → by_text text mentions ≤ 1
own-once mentions none text = own_from [] mentions none (λ other. omega arith) text

-- nor do those of connections drive what these do, or what is driven by one before
pub either : (one other : Bool) → (one || other) ≡ false → (one ≡ false) × (other ≡ false)
either true other is = cc
either false other is = (refl, is)

placed_from : (own before mentions : List Mention) → driven_from own before mentions ≡ None → ((text : List ℕ) → by_text text own + by_text text before ≤ 1)
    → (text : List ℕ) → by_text text own + by_text text (before ++ mentions) ≤ 1
placed_from own before [] none few text = subst (λ (all : List Mention). by_text text own + by_text text all ≤ 1) (sym (append-nil before)) (few text)
placed_from own before (mention ∷ mentions) none few text =
    let parts = fault_free (mention.drives && (is_driven own mention.word || is_driven before mention.word)) mention.word (driven_from own (before ++ mention ∷ []) mentions) none in
    subst (λ (all : List Mention). by_text text own + by_text text all ≤ 1) (append_assoc before (mention ∷ []) mentions)
    (placed_from own (before ++ mention ∷ []) mentions parts.1 (next parts.0) text)
  where
    next : (mention.drives && (is_driven own mention.word || is_driven before mention.word)) ≡ false
        → (other : List ℕ) → by_text other own + by_text other (before ++ mention ∷ []) ≤ 1
    next free other =
        let any : Bool = is_driven own mention.word || is_driven before mention.word in
        let more = one_more mention.drives (bytes_eq other mention.word.text) any (by_text other own + by_text other before) free (few other)
        (λ same none.
        let is : other ≡ mention.word.text = (bytes_eq-Decides other mention.word.text).0 same in
        let both = either (is_driven own mention.word) (is_driven before mention.word) none in
        let first = none-passes (drives_text other) own (ap (λ text. list_any (drives_text text) own) is ∙ both.0) in
        let second = none-passes (drives_text other) before (ap (λ text. list_any (drives_text text) before) is ∙ both.1) in
        omega (arith, first, second)) in
        omega (arith, more, push other before mention)

pub placed-once : (own placed : List Mention) → driven_from own [] placed ≡ None → ((text : List ℕ) → by_text text own ≤ 1)
    → (text : List ℕ) → by_text text own + by_text text placed ≤ 1
placed-once own placed none few text = placed_from own [] placed none (λ other. omega (arith, few other)) text

-- each name is driven
not_found : {A : Type 0} (test : A → Bool) (xs : List A) (x : A) → find test xs ≡ None → Among x xs → test x ≡ false
not_found test [] x none found = absurd found
not_found test (y ∷ xs) x none found =
    let parts = fault_free (test y) y (find test xs) none in
    ⊎_elim (λ here. subst (λ z. test z ≡ false) here parts.0) (λ rest. not_found test xs x parts.1 rest) found

driven_or : (drives driven : Bool) → (not drives && not driven) ≡ false → (drives ≡ true) ⊎ (driven ≡ true)
driven_or true driven is = inl refl
driven_or false true is = inr refl
driven_or false false is = cc

some_driver : (mentions : List Mention) (mention : Mention) → find (is_undriven mentions) mentions ≡ None → Among mention mentions → 1 ≤ by_text mention.word.text mentions
some_driver mentions mention none found =
    ⊎_elim
    (λ drives. one-passes (drives_text mention.word.text) mentions mention found
    (ap (λ b. b && bytes_eq mention.word.text mention.word.text) drives ∙ (bytes_eq-Decides mention.word.text mention.word.text).1 refl))
    (λ driven. some-passes (drives_text mention.word.text) mentions driven)
    (driven_or mention.drives (is_driven mentions mention.word) (not_found (is_undriven mentions) mentions mention none found))

-- each number below the count of names is driven once, and no other is
pub record AreDriven (mentions : List Mention) : Type 0 where
  pub once : (k : ℕ) → k < length (names_of mentions) → by_number (names_of mentions) k mentions ≡ 1
  pub past : (k : ℕ) → length (names_of mentions) ≤ k → by_number (names_of mentions) k mentions ≡ 0

pub mentions-driven : (mentions : List Mention) → ((text : List ℕ) → by_text text mentions ≤ 1) → find (is_undriven mentions) mentions ≡ None → AreDriven mentions
mentions-driven mentions few driven = record { once = just_one; past = no_count mentions }
  where
    just_one : (k : ℕ) → k < length (names_of mentions) → by_number (names_of mentions) k mentions ≡ 1
    just_one k lt =
        let name : List ℕ = get_or (names_of mentions) k [] in
        let some = names-from mentions name (Among-at (names_of mentions) k [] lt) in
        let least : 1 ≤ by_text name mentions = subst (λ text. 1 ≤ by_text text mentions) some.2 (some_driver mentions some.0 driven some.1) in
        let most = few name in
        let same = same_count mentions k lt in
        omega (arith, least, most, same)
