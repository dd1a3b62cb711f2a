-- A model without a fault has few names.
use Rattle.std.proofs.Common.{◌≡◌, ℕ, ◌≤◌, Bool, true, false, cond, not, ◌&&◌, ◌||◌, List, [], ◌∷◌, ◌++◌, length, None, Some, refl, sym, ap, ◌∙◌, subst, inl, inr, arith}
use Rattle.std.proofs.lemmas.Bool.{cases_Bool, leb-false}
use Rattle.std.proofs.lemmas.List.{append-nil, append_assoc}
use Rattle.std.proofs.lemmas.List.Sums.{fold-append}
use Rattle.std.proofs.lemmas.Slice.Eq.{bytes_eq-Decides}
use Rattle.std.specs.List.{list_any}
use Rattle.std.specs.Option.{option_map}
use Rattle.std.specs.Prelude.{nat_le}
use Rattle.psl_base.specs.Tokens.{PlacedToken}
use Rattle.blif_flattening.specs.Members.{Among}
use Rattle.blif_model.specs.declared.fault.BlifFault.TheVariants.{DrivenTwice, TooLarge}
use Rattle.blif_model.specs.Models.{Mention, is_of, is_mentioned, is_driven, with_name, names_of}
use Rattle.blif_model.specs.Rules.{name_rule, names_fault, signal_limit}
use Rattle.blif_model.proofs.Holding.{map_none, or_none}
use Rattle.blif_laws.proofs.Counting.{fault_free}
use Rattle.blif_laws.proofs.Numbers.{names-among, with-old, with-longer}

-- a word that is mentioned is one of the names
among : (names : List (List ℕ)) (mentions : List Mention) (word : PlacedToken) → ((mention : Mention) → Among mention mentions → Among mention.word.text names)
    → list_any (is_of word) mentions ≡ true → Among word.text names
among names [] word all some = cc
among names (mention ∷ mentions) word all some =
    elim (cases_Bool (is_of word mention)) [
      | inl same ↦ subst (λ text. Among text names) (sym ((bytes_eq-Decides word.text mention.word.text).0 same)) (all mention (inl refl))
      | inr differ ↦
          among names mentions word (λ m there. all m (inr there)) (sym (ap (λ b. b || list_any (is_of word) mentions) differ) ∙ some)
    ]

few_one : (before : List Mention) (mention : Mention) → name_rule before mention ≡ None → length (names_of before) ≤ signal_limit
    → length (names_of (before ++ mention ∷ [])) ≤ signal_limit
few_one before mention none few =
    let next : names_of (before ++ mention ∷ []) ≡ with_name (names_of before) mention.word.text =
    fold-append (λ names (m : Mention). with_name names m.word.text) [] before (mention ∷ []) in
    let rest = (fault_free (mention.drives && is_driven before mention.word) DrivenTwice
    (cond (not (is_mentioned before mention.word) && nat_le signal_limit (length (names_of before))) (Some TooLarge) None) none).1 in
    let free = (fault_free (not (is_mentioned before mention.word) && nat_le signal_limit (length (names_of before))) TooLarge None rest).0 in
    subst (λ (names : List (List ℕ)). length names ≤ signal_limit) (sym next) (by_mentioned (is_mentioned before mention.word) refl free)
  where
    by_mentioned : (mentioned : Bool) → is_mentioned before mention.word ≡ mentioned → (not mentioned && nat_le signal_limit (length (names_of before))) ≡ false
        → length (with_name (names_of before) mention.word.text) ≤ signal_limit
    by_mentioned true is free = omega (arith, few, with-old (names_of before) mention.word.text (among (names_of before) before mention.word (names-among before) is))
    by_mentioned false is free = omega (arith, leb-false signal_limit (length (names_of before)) free, with-longer (names_of before) mention.word.text)

few_from : (before mentions : List Mention) → names_fault before mentions ≡ None → length (names_of before) ≤ signal_limit
    → length (names_of (before ++ mentions)) ≤ signal_limit
few_from before [] none few = subst (λ (all : List Mention). length (names_of all) ≤ signal_limit) (sym (append-nil before)) few
few_from before (mention ∷ mentions) none few =
    let parts = or_none (option_map (λ fault. fault mention.word.place) (name_rule before mention)) (names_fault (before ++ mention ∷ []) mentions) none in
    let here = map_none (λ fault. fault mention.word.place) (name_rule before mention) parts.0 in
    subst (λ (all : List Mention). length (names_of all) ≤ signal_limit) (append_assoc before (mention ∷ []) mentions)
    (few_from (before ++ mention ∷ []) mentions parts.1 (few_one before mention here few))

pub names-few : (mentions : List Mention) → names_fault [] mentions ≡ None → length (names_of mentions) ≤ signal_limit
names-few mentions none = few_from [] mentions none (omega arith)
