-- A declared name more.
use Rattle.std.proofs.Common.{◌≡◌, ℕ, Bool as Truth, true, false, cond, List, [], ◌∷◌, ◌++◌, Option, None, Some, refl, sym, ap, subst, ◌∙◌}
use Rattle.std.proofs.lemmas.Map.Text.{btree_map_updates_str}
use Rattle.std.proofs.lemmas.Slice.Eq.{bytes_eq-Decides}
use Rattle.std.specs.BTreeMap.{UpdatesBy}
use Rattle.std.specs.Cmp.Lexicographic.{slice_cmp}
use Rattle.std.specs.Option.{option_map, option_or}
use Rattle.std.specs.Ordering.{nat_cmp}
use Rattle.std.specs.Prelude.{if◌then◌else◌, is_some}
use Rattle.std.specs.Str.{bytes_eq}
use Rattle.psl_layer_theory.specs.Kernel.{Meaning, Named, declared_meaning}
use Rattle.psl_layer.specs.Built.{Gives, GivesOption, Declared, IsScope, built_at, kind_in}
use Rattle.psl_layer.specs.Declaring.{IsNamed}
use Rattle.psl_layer.specs.declared.meaning.Meaning as code_meaning
use Rattle.psl_layer.proofs.Scopes.{or_none}

-- what is found after a meaning was written, by whether it was written here
written : (here : Truth) (old new : Option code_meaning.Meaning) (meaning : code_meaning.Meaning) → new ≡ cond here (Some meaning) old → (here ≡ true → old ≡ None) →
    new ≡ option_or old (if here then Some meaning else None)
written true old new meaning is none = is ∙ sym (ap (λ (o : Option code_meaning.Meaning). option_or o (Some meaning)) (none refl))
written false old new meaning is none = is ∙ sym (or_none old)

none-by : (built : Option code_meaning.Meaning) → is_some built ≡ false → built ≡ None
none-by None e = refl
none-by (Some one) e = absurd (let wrong : true ≡ false = e in cc)

-- a name that was written at a text that was not declared
pub declared-new : (old new : Declared) (text : List ℕ) (meaning : code_meaning.Meaning) →
    UpdatesBy (λ x y. slice_cmp nat_cmp x.now y.now) (λ k. slice_cmp nat_cmp text k.now) old new (Some meaning) →
    is_some (built_at old text) ≡ false → IsNamed old text meaning new
declared-new old new text meaning updates absent query =
    written (bytes_eq text query) (built_at old query) (built_at new query) meaning (btree_map_updates_str text old new (Some meaning) updates query)
    (λ equal. ap (built_at old) (sym ((bytes_eq-Decides text query).0 equal)) ∙ none-by (built_at old text) absent)

-- what stands already stays
kept : (here : Truth) (old : Option code_meaning.Meaning) (meaning : code_meaning.Meaning) → (here ≡ true → is_some old ≡ true) →
    old ≡ option_or old (if here then Some meaning else None)
kept true (Some one) meaning there = refl
kept true None meaning there = absurd (let wrong : false ≡ true = there refl in cc)
kept false old meaning there = sym (or_none old)

-- a name whose text is declared already
pub declared-again : (scope : Declared) (text : List ℕ) (meaning : code_meaning.Meaning) → is_some (built_at scope text) ≡ true → IsNamed scope text meaning scope
declared-again scope text meaning there query =
    kept (bytes_eq text query) (built_at scope query) meaning
    (λ equal. ap (λ (at : List ℕ). is_some (built_at scope at)) (sym ((bytes_eq-Decides text query).0 equal)) ∙ there)

-- what a text is declared as, by whether the first name has it
by-first : (here : Truth) (first : Meaning) (old new last : Option Meaning) → new ≡ option_or old last →
    (if here then Some first else new) ≡ option_or (if here then Some first else old) last
by-first true first old new last e = refl
by-first false first old new last e = e

-- what a text is declared as with one name more
with-last : (named : List Named) (text : List ℕ) (wanted : Meaning) (query : List ℕ) →
    declared_meaning (named ++ record { text = text; meaning = wanted } ∷ []) query ≡ option_or (declared_meaning named query) (if bytes_eq text query then Some wanted else None)
with-last [] text wanted query = refl
with-last (first ∷ more) text wanted query =
    by-first (bytes_eq first.text query) first.meaning (declared_meaning more query) (declared_meaning (more ++ record { text = text; meaning = wanted } ∷ []) query)
    (if bytes_eq text query then Some wanted else None) (with-last more text wanted query)

-- the first of two that are given
gives-or : (old new : Option code_meaning.Meaning) (before after : Option Meaning) → GivesOption old before → GivesOption new after → GivesOption (option_or old new) (option_or before after)
gives-or None new None after first second = second
gives-or None new (Some wanted) after first second = absurd first
gives-or (Some one) new None after first second = absurd first
gives-or (Some one) new (Some wanted) after first second = first

gives-here : (here : Truth) (meaning : code_meaning.Meaning) (wanted : Meaning) → Gives meaning wanted → GivesOption (if here then Some meaning else None) (if here then Some wanted else None)
gives-here true meaning wanted gives = gives
gives-here false meaning wanted gives = tt

-- with a name more there are the meanings of the names with it
pub named-meanings : (old new : Declared) (named : List Named) (text : List ℕ) (meaning : code_meaning.Meaning) (wanted : Meaning) → IsNamed old text meaning new →
    IsScope old named → Gives meaning wanted → IsScope new (named ++ record { text = text; meaning = wanted } ∷ [])
named-meanings old new named text meaning wanted is holds gives query =
    let P : Option code_meaning.Meaning → Type 0 = λ found. GivesOption found (option_or (declared_meaning named query) (if bytes_eq text query then Some wanted else None)) in
    let Q : Option Meaning → Type 0 = λ found. GivesOption (built_at new query) found in
    subst Q (sym (with-last named text wanted query))
    (subst P (sym (is query))
    (gives-or (built_at old query) (if bytes_eq text query then Some meaning else None) (declared_meaning named query) (if bytes_eq text query then Some wanted else None)
    (holds query) (gives-here (bytes_eq text query) meaning wanted gives)))

kind-or : (old new : Option code_meaning.Meaning) → option_map kind_in (option_or old new) ≡ option_or (option_map kind_in old) (option_map kind_in new)
kind-or None new = refl
kind-or (Some one) new = refl

kind-here : (here : Truth) (meaning : code_meaning.Meaning) → option_map kind_in (if here then Some meaning else None) ≡ (if here then Some (kind_in meaning) else None)
kind-here true meaning = refl
kind-here false meaning = refl

-- and its kind
pub named-kinds : (old new : Declared) (text : List ℕ) (meaning : code_meaning.Meaning) (query : List ℕ) → IsNamed old text meaning new →
    option_map kind_in (built_at new query) ≡ option_or (option_map kind_in (built_at old query)) (if bytes_eq text query then Some (kind_in meaning) else None)
named-kinds old new text meaning query is =
    ap (option_map kind_in) (is query)
    ∙ kind-or (built_at old query) (if bytes_eq text query then Some meaning else None)
    ∙ ap (option_or (option_map kind_in (built_at old query))) (kind-here (bytes_eq text query) meaning)
