-- The numbers of names: their places in the order of first mention.
use Rattle.std.proofs.Common.{◌≡◌, ℕ, zero, suc, ◌+◌, ◌<◌, ◌≤◌, ◌⊎◌, true, false, eqb, cond, ◌||◌, List, [], ◌∷◌, ◌++◌, length, get_or, Option, Some, refl, sym, ap, ◌∙◌, subst, inl, inr, ⊎_elim, arith}
use Rattle.std.proofs.lemmas.Bool.{cases_Bool, false≢true, eqb-true, eq-eqb}
use Rattle.std.proofs.lemmas.List.{length_push}
use Rattle.std.proofs.lemmas.Slice.Eq.{bytes_eq-Decides}
use Rattle.std.specs.List.{list_any, position_from, fold}
use Rattle.std.specs.Str.{bytes_eq}
use Rattle.blif_flattening.specs.Members.{Among, Apart}
use Rattle.blif_flattening.proofs.Members.{Among-left, Among-right, from_append, Among-at}
use Rattle.blif_model.specs.Models.{Mention, with_name, names_of}
use Rattle.blif_model.specs.Names.{place_of, number_at}

-- a text is one of some names, or it is not
pub is-there : (names : List (List ℕ)) (name : List ℕ)
    → ((list_any (bytes_eq name) names ≡ true) × Among name names) ⊎ ((list_any (bytes_eq name) names ≡ false) × (Among name names → ⊥))
is-there [] name = inr (refl, λ none. none)
is-there (other ∷ names) name =
    elim (cases_Bool (bytes_eq name other)) [
      | inl same ↦ inl (ap (λ b. b || list_any (bytes_eq name) names) same, inl (sym ((bytes_eq-Decides name other).0 same)))
      | inr differ ↦
          ⊎_elim
          (λ later. inl (ap (λ b. b || list_any (bytes_eq name) names) differ ∙ later.0, inr later.1))
          (λ nowhere. inr (
            ap (λ b. b || list_any (bytes_eq name) names) differ ∙ nowhere.0,
            λ found. ⊎_elim (λ here. false≢true (sym differ ∙ (bytes_eq-Decides name other).1 (sym here))) (λ later. nowhere.1 later) found,
          ))
          (is-there names name)
    ]

pub among-any : (names : List (List ℕ)) (name : List ℕ) → list_any (bytes_eq name) names ≡ true → Among name names
among-any names name is = ⊎_elim (λ yes. yes.1) (λ no. absurd (false≢true (sym no.0 ∙ is))) (is-there names name)

pub any-among : (names : List (List ℕ)) (name : List ℕ) → Among name names → list_any (bytes_eq name) names ≡ true
any-among names name found = ⊎_elim (λ yes. yes.0) (λ no. absurd (no.1 found)) (is-there names name)

pub not-any : (names : List (List ℕ)) (name : List ℕ) → list_any (bytes_eq name) names ≡ false → Among name names → ⊥
not-any names name is found = ⊎_elim (λ yes. false≢true (sym is ∙ yes.0)) (λ no. no.1 found) (is-there names name)

with_old : (names : List (List ℕ)) (name : List ℕ) → Among name names → with_name names name ≡ names
with_old names name found =
    ⊎_elim (λ yes. ap (λ b. cond b names (names ++ name ∷ [])) yes.0) (λ no. absurd (no.1 found)) (is-there names name)

with_new : (names : List (List ℕ)) (name : List ℕ) → (Among name names → ⊥) → with_name names name ≡ names ++ name ∷ []
with_new names name not =
    ⊎_elim (λ yes. absurd (not yes.1)) (λ no. ap (λ b. cond b names (names ++ name ∷ [])) no.0) (is-there names name)

one_more : (P : List (List ℕ) → Type 0) (names : List (List ℕ)) (name : List ℕ)
    → (Among name names → P names) → ((Among name names → ⊥) → P (names ++ name ∷ [])) → P (with_name names name)
one_more P names name old new =
    ⊎_elim (λ yes. subst P (sym (with_old names name yes.1)) (old yes.1)) (λ no. subst P (sym (with_new names name no.1)) (new no.1)) (is-there names name)

pub with-old : (names : List (List ℕ)) (name : List ℕ) → Among name names → length (with_name names name) ≡ length names
with-old names name found = ap length (with_old names name found)

pub with-longer : (names : List (List ℕ)) (name : List ℕ) → length (with_name names name) ≤ length names + 1
with-longer names name =
    one_more (λ all. length all ≤ length names + 1) names name (λ old. omega arith) (λ new. omega (arith, length_push names name))

-- the names of mentions behind others
abbrev named_from : List (List ℕ) → List Mention → List (List ℕ)
named_from names mentions = fold (λ names mention. with_name names mention.word.text) names mentions

keeps_one : (names : List (List ℕ)) (name other : List ℕ) → Among other names → Among other (with_name names name)
keeps_one names name other found = one_more (λ all. Among other all) names name (λ old. found) (λ new. Among-left other names (name ∷ []) found)

adds_one : (names : List (List ℕ)) (name : List ℕ) → Among name (with_name names name)
adds_one names name = one_more (λ all. Among name all) names name (λ old. old) (λ new. Among-right name names (name ∷ []) (inl refl))

from_one : (names : List (List ℕ)) (name other : List ℕ) → Among other (with_name names name) → Among other names ⊎ (name ≡ other)
from_one names name other =
    one_more (λ all. Among other all → Among other names ⊎ (name ≡ other)) names name (λ old found. inl found)
    (λ new found. ⊎_elim (λ first. inl first) (λ last. ⊎_elim (λ here. inr here) (λ none. absurd none) last) (from_append other names (name ∷ []) found))

push_apart : (names : List (List ℕ)) (name : List ℕ) → Apart names → (Among name names → ⊥) → Apart (names ++ name ∷ [])
push_apart [] name apart not = (λ none. none, tt)
push_apart (other ∷ names) name apart not = (
  λ found. ⊎_elim (λ first. apart.0 first) (λ last. ⊎_elim (λ is. not (inl (sym is))) (λ none. none) last) (from_append other names (name ∷ []) found),
  push_apart names name apart.1 (λ found. not (inr found)),
)

keeps : (names : List (List ℕ)) (mentions : List Mention) (other : List ℕ) → Among other names → Among other (named_from names mentions)
keeps names [] other found = found
keeps names (mention ∷ mentions) other found =
    keeps (with_name names mention.word.text) mentions other (keeps_one names mention.word.text other found)

adds : (names : List (List ℕ)) (mentions : List Mention) (mention : Mention) → Among mention mentions → Among mention.word.text (named_from names mentions)
adds names [] mention none = absurd none
adds names (first ∷ mentions) mention (inl here) =
    keeps (with_name names first.word.text) mentions mention.word.text
    (subst (λ (m : Mention). Among m.word.text (with_name names first.word.text)) here (adds_one names first.word.text))
adds names (first ∷ mentions) mention (inr there) = adds (with_name names first.word.text) mentions mention there

from : (names : List (List ℕ)) (mentions : List Mention) (other : List ℕ) → Among other (named_from names mentions)
    → Among other names ⊎ ((mention : Mention) × Among mention mentions × (mention.word.text ≡ other))
from names [] other found = inl found
from names (mention ∷ mentions) other found =
    ⊎_elim
    (λ before. ⊎_elim (λ old. inl old) (λ is. inr (mention, inl refl, is)) (from_one names mention.word.text other before))
    (λ later. inr (later.0, inr later.1, later.2))
    (from (with_name names mention.word.text) mentions other found)

apart_from : (names : List (List ℕ)) (mentions : List Mention) → Apart names → Apart (named_from names mentions)
apart_from names [] apart = apart
apart_from names (mention ∷ mentions) apart =
    apart_from (with_name names mention.word.text) mentions
    (one_more Apart names mention.word.text (λ old. apart) (λ new. push_apart names mention.word.text apart new))

-- of the names of mentions no two are equal, each mention is of one, and each is of a mention
pub names-apart : (mentions : List Mention) → Apart (names_of mentions)
names-apart mentions = apart_from [] mentions tt

pub names-among : (mentions : List Mention) (mention : Mention) → Among mention mentions → Among mention.word.text (names_of mentions)
names-among mentions mention there = adds [] mentions mention there

pub names-from : (mentions : List Mention) (name : List ℕ) → Among name (names_of mentions) → (mention : Mention) × Among mention mentions × (mention.word.text ≡ name)
names-from mentions name found = ⊎_elim (λ none. absurd none) (λ some. some) (from [] mentions name found)

-- the place of a name
abbrev place_from : ℕ → List (List ℕ) → List ℕ → Option ℕ
place_from start names name = position_from (λ other. bytes_eq name other) start names

record IsPlace (start : ℕ) (names : List (List ℕ)) (name : List ℕ) : Type 0 where
  place : ℕ
  within : place < length names
  is : place_from start names name ≡ Some (start + place)
  name_is : get_or names place [] ≡ name

find_place : (start : ℕ) (names : List (List ℕ)) (name : List ℕ) → Among name names → IsPlace start names name
find_place start [] name found = absurd found
find_place start (other ∷ names) name found =
    elim (cases_Bool (bytes_eq name other)) [
      | inl same ↦ record {
        place = 0;
        within = omega arith;
        is = ap (λ b. cond b (Some start) (place_from (start + 1) names name)) same ∙ ap Some (let at : start ≡ start + 0 = omega arith in at);
        name_is = sym ((bytes_eq-Decides name other).0 same);
      }
      | inr differ ↦
          let later : Among name names =
          ⊎_elim (λ here. absurd (false≢true (sym differ ∙ (bytes_eq-Decides name other).1 (sym here)))) (λ rest. rest) found in
          let rest = find_place (start + 1) names name later in
          record {
            place = suc rest.place;
            within = omega (arith, rest.within);
            is = ap (λ b. cond b (Some start) (place_from (start + 1) names name)) differ ∙ rest.is
                ∙ ap Some (let at : start + 1 + rest.place ≡ start + suc rest.place = omega arith in at);
            name_is = rest.name_is;
          }
    ]

own_place : (start k : ℕ) (names : List (List ℕ)) → Apart names → k < length names → place_from start names (get_or names k []) ≡ Some (start + k)
own_place start k [] apart lt = absurd (omega arith)
own_place start zero (name ∷ names) apart lt =
    ap (λ b. cond b (Some start) (place_from (start + 1) names name)) ((bytes_eq-Decides name name).1 refl)
    ∙ ap Some (let at : start ≡ start + 0 = omega arith in at)
own_place start (suc k) (name ∷ names) apart lt =
    elim (cases_Bool (bytes_eq (get_or names k []) name)) [
      | inl same ↦
          let is : get_or names k [] ≡ name = (bytes_eq-Decides (get_or names k []) name).0 same in
          absurd (apart.0 (subst (λ x. Among x names) is (Among-at names k [] (omega arith))))
      | inr differ ↦
          ap (λ b. cond b (Some start) (place_from (start + 1) names (get_or names k []))) differ
          ∙ own_place (start + 1) k names apart.1 (omega arith)
          ∙ ap Some (let at : start + 1 + k ≡ start + suc k = omega arith in at)
    ]

-- the number of a text that is one of the names
abbrev pub number : List (List ℕ) → List ℕ → ℕ
number names text = number_at (place_of names text)

pub number-within : (names : List (List ℕ)) (text : List ℕ) → Among text names → number names text < length names
number-within names text found =
    let place = find_place 0 names text found in
    let is : number names text ≡ 0 + place.place = ap number_at place.is in
    omega (arith, is, place.within)

number-name : (names : List (List ℕ)) (text : List ℕ) → Among text names → get_or names (number names text) [] ≡ text
number-name names text found =
    let place = find_place 0 names text found in
    let is : number names text ≡ place.place = ap number_at place.is ∙ (let at : 0 + place.place ≡ place.place = omega arith in at) in
    ap (λ k. get_or names k []) is ∙ place.name_is

-- no two of the names have one number
pub number-apart : (names : List (List ℕ)) (one other : List ℕ) → Among one names → Among other names → number names one ≡ number names other → one ≡ other
number-apart names one other first second same =
    sym (number-name names one first) ∙ ap (λ k. get_or names k []) same ∙ number-name names other second

pub number-own : (names : List (List ℕ)) (text : List ℕ) (k : ℕ) → Apart names → k < length names → get_or names k [] ≡ text → number names text ≡ k
number-own names text k apart lt is =
    ap (number names) (sym is) ∙ ap number_at (own_place 0 k names apart lt) ∙ (let at : 0 + k ≡ k = omega arith in at)

pub number-is : (names : List (List ℕ)) (text : List ℕ) (k : ℕ) → Apart names → Among text names → k < length names
    → eqb (number names text) k ≡ bytes_eq (get_or names k []) text
number-is names text k apart found lt =
    elim (cases_Bool (bytes_eq (get_or names k []) text)) [
      | inl same ↦
          let is : number names text ≡ k = number-own names text k apart lt ((bytes_eq-Decides (get_or names k []) text).0 same) in
          eq-eqb (number names text) k is ∙ sym same
      | inr differ ↦
          elim (cases_Bool (eqb (number names text) k)) [
            | inl equal ↦
                let is : number names text ≡ k = eqb-true (number names text) k equal in
                let there : get_or names k [] ≡ text = ap (λ n. get_or names n []) (sym is) ∙ number-name names text found in
                absurd (false≢true (sym differ ∙ (bytes_eq-Decides (get_or names k []) text).1 there))
            | inr unequal ↦ unequal ∙ sym differ
          ]
    ]
