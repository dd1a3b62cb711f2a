-- Steps over a block: words that are its values, and values that words show at all places.
use Rattle.std.proofs.Common.{◌≡◌, refl, ap, sym, ◌∙◌, ℕ, zero, suc, ◌<◌, Bool as Truth, List, [], ◌∷◌, ◌++◌, length, arith}
use Rattle.std.proofs.lemmas.List.{length-map}
use Rattle.psl_tree.specs.Followed.{Past, Nothing, Tops, Bottoms}
use Rattle.psl_tree.specs.declared.atom.Atom.{Atom}
use Rattle.psl_tree.specs.declared.letter.Letter.{Letter}
use Rattle.alternating_theory.specs.Obligations.{Automaton, value_of, obligation_at}
use Rattle.alternating.specs.Packed.{bit}
use Rattle.alternating.specs.Stepped.{value_at, values_of}
use Rattle.alternating_blocks.specs.Block.{AreBlockValues, AreAllBlockValues, letters_from}
use Rattle.alternating_blocks.specs.Values.{HasCounts, HasLengths, AreValues, ShowAt, StepsTo, StepsBlock}
use Rattle.alternating_blocks.specs.Words.{words_at}
use Rattle.alternating_blocks.specs.declared.values.Values.{Values}
use Rattle.alternating_blocks.specs.declared.words.Words.{Words}

length-values : (a : Automaton) (past : Past) (letters : List Letter) → length (values_of a past letters) ≡ length a.obligations
length-values a past letters = length-map a.obligations (λ o. value_of (obligation_at a.obligations) past o letters)

pub have-lengths : (a : Automaton) (letters : List Letter) (v : Values) → AreValues a letters v → HasLengths a v
have-lengths a letters v h = record {
  weak = ap length h.weak ∙ length-values a Tops letters;
  neutral = ap length h.neutral ∙ length-values a Nothing letters;
  strong = ap length h.strong ∙ length-values a Bottoms letters;
}

-- lists of so many values that are the same number by number
same-truths : (xs ys : List Truth) (count : ℕ) → length xs ≡ count → length ys ≡ count → ((q : ℕ) → q < count → value_at xs q ≡ value_at ys q) → xs ≡ ys
same-truths [] [] count h k e = refl
same-truths [] (y ∷ ys) count h k e = absurd (omega arith)
same-truths (x ∷ xs) [] count h k e = absurd (omega arith)
same-truths (x ∷ xs) (y ∷ ys) zero h k e = absurd (omega arith)
same-truths (x ∷ xs) (y ∷ ys) (suc count) h k e =
    let head = e zero (omega arith) in let tail = same-truths xs ys count (omega arith) (omega arith) (λ q l. e (suc q) (omega arith)) in cc

block-steps : (a : Automaton) (atoms : List Atom) (columns : List ℕ) (after words : ℕ → ℕ) (next now : List Truth)
    → AreBlockValues a atoms columns after words
    → ((q : ℕ) → q < length a.obligations → bit (after q) 63 ≡ value_at next q)
    → ((q : ℕ) → q < length a.obligations → bit (words q) 0 ≡ value_at now q)
    → length now ≡ length a.obligations → StepsTo 0 a atoms columns next now
block-steps a atoms columns after words next now values last first many letter packs tests past rest e =
    same-truths now (values_of a past (letters_from letter 0 64 ++ rest)) (length a.obligations) many (length-values a past (letters_from letter 0 64 ++ rest))
    (λ q h. sym (first q h) ∙ values letter packs tests past rest (λ r k. last r k ∙ ap (λ (l : List Truth). value_at l r) e) q 0 h (omega arith))

pub all-block-steps : (a : Automaton) (atoms : List Atom) (columns : List ℕ) (after words : List Words) (next now : Values) (count : ℕ) → count ≡ length a.obligations
    → AreAllBlockValues a atoms columns after words → ShowAt 63 count after next → ShowAt 0 count words now → HasCounts count now → StepsBlock a atoms columns next now
all-block-steps a atoms columns after words next now count e values last first many = record {
  weak = block-steps a atoms columns (λ n. (words_at after n).weak) (λ n. (words_at words n).weak) next.weak now.weak values.weak
      (λ q h. last.weak q (omega arith)) (λ q h. first.weak q (omega arith)) (many.weak ∙ e);
  neutral = block-steps a atoms columns (λ n. (words_at after n).neutral) (λ n. (words_at words n).neutral) next.neutral now.neutral values.neutral
      (λ q h. last.neutral q (omega arith)) (λ q h. first.neutral q (omega arith)) (many.neutral ∙ e);
  strong = block-steps a atoms columns (λ n. (words_at after n).strong) (λ n. (words_at words n).strong) next.strong now.strong values.strong
      (λ q h. last.strong q (omega arith)) (λ q h. first.strong q (omega arith)) (many.strong ∙ e);
}

-- the values that words show at one place, where they show others there
pub same-shown : (place count : ℕ) (words : List Words) (v w : Values) → ShowAt place count words v → ShowAt place count words w → HasCounts count v → HasCounts count w → v ≡ w
same-shown place count words v w shows also h k =
    let weak = same-truths v.weak w.weak count h.weak k.weak (λ q l. sym (shows.weak q l) ∙ also.weak q l) in
    let neutral = same-truths v.neutral w.neutral count h.neutral k.neutral (λ q l. sym (shows.neutral q l) ∙ also.neutral q l) in
    let strong = same-truths v.strong w.strong count h.strong k.strong (λ q l. sym (shows.strong q l) ∙ also.strong q l) in
    ap (λ (l : List Truth). three l v.neutral v.strong) weak ∙ ap (λ (l : List Truth). three w.weak l v.strong) neutral ∙ ap (λ (l : List Truth). three w.weak w.neutral l) strong
  where
    three : List Truth → List Truth → List Truth → Values
    three weak neutral strong = record { weak = weak; neutral = neutral; strong = strong }
