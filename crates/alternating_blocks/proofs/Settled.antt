-- Words that meet the equations of all obligations at 64 letters are the values there.
use Rattle.std.proofs.Common.{◌≡◌, inl, inr, refl, sym, ap, ◌∙◌, ℕ, zero, suc, ◌+◌, ◌-◌, ◌<◌, ◌≤◌, Bool as Truth, true, false, List, [], ◌∷◌, ◌++◌, length, subst, arith, not}
use Rattle.std.specs.Prelude.{IsTrue, ◌==◌, ◌&&◌}
use borrow.Author.Count.{below_none, below_more}
use Rattle.std.proofs.lemmas.Bool.{cases_lt, and_parts}
use Rattle.std.proofs.lemmas.Bool.Decides.{nat_tests}
use Rattle.std.proofs.lemmas.List.{get_or_past, length-map}
use Rattle.psl_tree.specs.Followed.{Past}
use Rattle.psl_tree.specs.declared.atom.Atom.{Atom}
use Rattle.psl_tree.specs.declared.letter.Letter.{Letter}
use Rattle.alternating_theory.specs.Obligations.{Obligation, Automaton, obligation_at, value_of}
use Rattle.alternating_theory.specs.Positive.{Positive}
use Rattle.alternating_theory.proofs.Reached.{met-owed, same-number}
use Rattle.alternating.proofs.Stepping.{mapped-value, never-value}
use Rattle.alternating_theory.specs.Atoms.{AtomsOfPositive, AtomsOfObligations, is_among}
use Rattle.alternating.specs.Packed.{bit}
use Rattle.alternating.specs.Stepped.{value_at, values_of}
use Rattle.alternating_blocks.proofs.Bits.{bit-none}
use Rattle.alternating_blocks.specs.Block.{PacksBlock, TellsMet, MeetsAll, follows, letters_from, AreBlockValues, AreAllBlockValues}
use Rattle.alternating_blocks.specs.Words.{InEachView, words_at, unset}
use Rattle.alternating_blocks.specs.declared.words.Words.{Words}

-- the words of obligations below a number meet their equations
abbrev pub AreSettled : List Obligation → List Atom → List ℕ → (ℕ → ℕ) → (ℕ → ℕ) → ℕ → Type 0
AreSettled obligations atoms columns after words bound =
    (number : ℕ) → number < bound → TellsMet atoms columns after words (obligation_at obligations number).delta (words number)

pub atoms-at : (P : Atom → Type 0) (os : List Obligation) → AtomsOfObligations P os → (q : ℕ) → AtomsOfPositive P (obligation_at os q).delta
atoms-at P [] h q = tt
atoms-at P (o ∷ os) h zero = h.0
atoms-at P (o ∷ os) h (suc q) = atoms-at P os h.1 q

module _ (a : Automaton) (atoms : List Atom) (columns : List ℕ) (after words : ℕ → ℕ)
    (none-after : (q : ℕ) → length a.obligations ≤ q → after q ≡ 0) (none-words : (q : ℕ) → length a.obligations ≤ q → words q ≡ 0) where
  abbrev look : ℕ → Obligation
  look = obligation_at a.obligations

  value-is : (past : Past) (xs : List Letter) (q : ℕ) → value_at (values_of a past xs) q ≡ value_of (obligation_at a.obligations) past (obligation_at a.obligations q) xs
  value-is past xs q = mapped-value (λ o. value_of (obligation_at a.obligations) past o xs) (never-value (obligation_at a.obligations) past xs) a.obligations q

  -- what is true of the values of all obligations is true of all numbers
  past-all : (past : Past) (xs : List Letter) (q : ℕ) → length a.obligations ≤ q → value_at (values_of a past xs) q ≡ false
  past-all past xs q h = get_or_past (values_of a past xs) q false (omega (arith, length-map a.obligations (λ o. value_of (obligation_at a.obligations) past o xs)))

  everywhere : (past : Past) (xs : List Letter) (word : ℕ → ℕ) (place : ℕ) → ((q : ℕ) → length a.obligations ≤ q → word q ≡ 0)
      → ((q : ℕ) → q < length a.obligations → bit (word q) place ≡ value_at (values_of a past xs) q)
      → (q : ℕ) → bit (word q) place ≡ value_at (values_of a past xs) q
  everywhere past xs word place none e q = elim (cases_lt q (length a.obligations)) as (λ _. bit (word q) place ≡ value_at (values_of a past xs) q) [
    | inl lt ↦ e q lt
    | inr le ↦ ap (λ w. bit w place) (none q le) ∙ bit-none place ∙ sym (past-all past xs q le)
  ]

  module _ (settled : AreSettled a.obligations atoms columns after words (length a.obligations))
      (letter : ℕ → Letter) (packs : PacksBlock atoms columns letter) (tests : AtomsOfObligations (λ atom. IsTrue (is_among atoms atom)) a.obligations)
      (past : Past) (rest : List Letter) (last : (q : ℕ) → q < length a.obligations → bit (after q) 63 ≡ value_at (values_of a past rest) q) where
    -- one letter more, where what follows is known
    step : (place : ℕ) (xs : List Letter) → place < 64
        → ((r : ℕ) → follows (words r) (after r) place ≡ value_of (obligation_at a.obligations) past (obligation_at a.obligations r) xs)
        → (q : ℕ) → q < length a.obligations → bit (words q) place ≡ value_at (values_of a past (letter place ∷ xs)) q
    step place xs within follow q h =
        settled q h (atoms-at (λ atom. IsTrue (is_among atoms atom)) a.obligations tests q) place (letter place) within (packs place within)
        ∙ met-owed (obligation_at a.obligations q).delta (letter place) (λ r. follows (words r) (after r) place)
        (λ r. value_of (obligation_at a.obligations) past (obligation_at a.obligations r) xs) (λ r _. follow r)
        ∙ sym (value-is past (letter place ∷ xs) q)

    follow-last : (place : ℕ) → place ≡ 63 → (r : ℕ) → follows (words r) (after r) place ≡ value_of (obligation_at a.obligations) past (obligation_at a.obligations r) rest
    follow-last place e r =
        ap (λ p. follows (words r) (after r) p) e ∙ everywhere past rest after 63 none-after last r ∙ value-is past rest r

    not-last : (place : ℕ) → place < 63 → (place == 63) ≡ false
    not-last place h = grind (arith, nat_tests)

    follow-next : (place : ℕ) (xs : List Letter) → place < 63
        → ((q : ℕ) → q < length a.obligations → bit (words q) (suc place) ≡ value_at (values_of a past xs) q)
        → (r : ℕ) → follows (words r) (after r) place ≡ value_of (obligation_at a.obligations) past (obligation_at a.obligations r) xs
    follow-next place xs within known r =
        rw (not-last place within) (everywhere past xs words (suc place) none-words known r ∙ value-is past xs r)

    block-values : (count place : ℕ) → place + suc count ≡ 64 → (q : ℕ) → q < length a.obligations
        → bit (words q) place ≡ value_at (values_of a past (letters_from letter place (suc count) ++ rest)) q
    block-values zero place e q h = step place rest (omega arith) (follow-last place (omega arith)) q h
    block-values (suc count) place e q h =
        step place (letters_from letter (suc place) (suc count) ++ rest) (omega arith)
        (follow-next place (letters_from letter (suc place) (suc count) ++ rest) (omega arith) (block-values count (suc place) (omega arith))) q h

  pub are-block-values : AreSettled a.obligations atoms columns after words (length a.obligations) → AreBlockValues a atoms columns after words
  are-block-values settled letter packs tests past rest last q place h k =
      block-values settled letter packs tests past rest last (63 - place) place (omega arith) q h
      ∙ ap (λ n. value_at (values_of a past (letters_from letter place n ++ rest)) q) (one-more place k)
    where
      one-more : (place : ℕ) → place < 64 → suc (63 - place) ≡ 64 - place
      one-more place k = omega arith

-- words that are found equal
pub same-words : (v w : Words) → not ((v.weak == w.weak) && ((v.neutral == w.neutral) && (v.strong == w.strong))) ≡ false → v ≡ w
same-words v w e =
    let parts = and_parts (v.weak == w.weak) ((v.neutral == w.neutral) && (v.strong == w.strong)) (not-false ((v.weak == w.weak) && ((v.neutral == w.neutral) && (v.strong == w.strong))) e) in
    let rest = and_parts (v.neutral == w.neutral) (v.strong == w.strong) parts.1 in
    ap (λ n. three n v.neutral v.strong) (same-number v.weak w.weak parts.0)
    ∙ ap (λ n. three w.weak n v.strong) (same-number v.neutral w.neutral rest.0)
    ∙ ap (λ n. three w.weak w.neutral n) (same-number v.strong w.strong rest.1)
  where
    not-false : (b : Truth) → not b ≡ false → b ≡ true
    not-false true e = refl
    not-false false e = sym e

    three : ℕ → ℕ → ℕ → Words
    three weak neutral strong = record { weak = weak; neutral = neutral; strong = strong }

-- the same of the words in each view
abbrev pub AllSettled : List Obligation → List Atom → List ℕ → List Words → List Words → ℕ → Type 0
AllSettled obligations atoms columns after words bound =
    InEachView (λ view. AreSettled obligations atoms columns (λ number. view (words_at after number)) (λ number. view (words_at words number)) bound)

pub none-settled : (os : List Obligation) (atoms : List Atom) (columns : List ℕ) (after words : List Words) → AllSettled os atoms columns after words 0
none-settled os atoms columns after words = record { weak = below_none _; neutral = below_none _; strong = below_none _ }

pub one-settled : (os : List Obligation) (atoms : List Atom) (columns : List ℕ) (after words : List Words) (number : ℕ) (delta : Positive) (word : Words)
    → AllSettled os atoms columns after words number → delta ≡ (obligation_at os number).delta → word ≡ words_at words number
    → MeetsAll atoms columns after words delta word → AllSettled os atoms columns after words (number + 1)
one-settled os atoms columns after words number delta word settled is same meets =
    let here : MeetsAll atoms columns after words (obligation_at os number).delta (words_at words number) =
    subst (λ (d : Positive). MeetsAll atoms columns after words d (words_at words number)) is (subst (λ (w : Words). MeetsAll atoms columns after words delta w) same meets) in
    record {
      weak = below_more (λ q. TellsMet atoms columns (λ n. (words_at after n).weak) (λ n. (words_at words n).weak) (obligation_at os q).delta (words_at words q).weak) number settled.weak here.weak;
      neutral = below_more (λ q. TellsMet atoms columns (λ n. (words_at after n).neutral) (λ n. (words_at words n).neutral) (obligation_at os q).delta (words_at words q).neutral) number settled.neutral here.neutral;
      strong = below_more (λ q. TellsMet atoms columns (λ n. (words_at after n).strong) (λ n. (words_at words n).strong) (obligation_at os q).delta (words_at words q).strong) number settled.strong here.strong;
    }

pub are-values : (a : Automaton) (atoms : List Atom) (columns : List ℕ) (after words : List Words)
    → length after ≡ length a.obligations → length words ≡ length a.obligations → AllSettled a.obligations atoms columns after words (length a.obligations)
    → AreAllBlockValues a atoms columns after words
are-values a atoms columns after words many same settled = record {
  weak = are-block-values a atoms columns (λ n. (words_at after n).weak) (λ n. (words_at words n).weak)
      (λ q h. ap (λ (w : Words). w.weak) (get_or_past after q unset (omega arith))) (λ q h. ap (λ (w : Words). w.weak) (get_or_past words q unset (omega arith))) settled.weak;
  neutral = are-block-values a atoms columns (λ n. (words_at after n).neutral) (λ n. (words_at words n).neutral)
      (λ q h. ap (λ (w : Words). w.neutral) (get_or_past after q unset (omega arith))) (λ q h. ap (λ (w : Words). w.neutral) (get_or_past words q unset (omega arith))) settled.neutral;
  strong = are-block-values a atoms columns (λ n. (words_at after n).strong) (λ n. (words_at words n).strong)
      (λ q h. ap (λ (w : Words). w.strong) (get_or_past after q unset (omega arith))) (λ q h. ap (λ (w : Words). w.strong) (get_or_past words q unset (omega arith))) settled.strong;
}
