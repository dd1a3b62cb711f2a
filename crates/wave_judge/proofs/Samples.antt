-- The letters of the first samples of a recording from one on, the packed letter of a sample, and a step back over it.
use Rattle.std.proofs.Common.{◌≡◌, sym, ap, subst, ◌∙◌, ℕ, zero, suc, ◌+◌, ◌*◌, ◌<◌, ◌≤◌, Bool as Truth, false, List, [], ◌∷◌, ◌++◌, length, drop, get_or, arith, drop-cons}
use Rattle.std.specs.Prelude.{IsTrue}
use Rattle.std.specs.List.{filter}
use Rattle.std.proofs.lemmas.List.{drop_all, get_or-take, length-map, length-take-le, get_or-map, take_all}
use Rattle.std.proofs.lemmas.List.FromFn.{length-map-range_with_len, get_or-map-range_with_len}
use Rattle.psl_tree.specs.Followed.{Past, Nothing, Tops, Bottoms}
use Rattle.psl_tree.specs.declared.atom.Atom.{Atom}
use Rattle.psl_tree.specs.Holds.{holds}
use Rattle.psl_tree.specs.Trees.{Test}
use Rattle.vcd_reader.specs.Sampled.{Sampled, atom_at, atoms_of, letter_at, letters_of}
use Rattle.alternating_theory.specs.Obligations.{Automaton, value_on}
use Rattle.alternating.proofs.Stepping.{bits_pack, start_tells}
use Rattle.alternating_theory.specs.Atoms.{AtomsOfObligations, is_among}
use Rattle.alternating.specs.Packed.{is_set, PacksLetter}
use Rattle.alternating.specs.Stepped.{value_at, values_of}
use Rattle.wave_judge.specs.Letter.{TellsLetter, TellColumns}
use Rattle.alternating_blocks.proofs.Stepped.{have-lengths}
use Rattle.alternating_blocks.specs.Block.{PacksBlock, letters_from}
use Rattle.alternating_blocks.specs.Values.{HasLengths, AreValues, StepsAll, StepsTo, StepsBlock}
use Rattle.alternating_blocks.specs.declared.values.Values.{Values}
use Rattle.wave_judge.specs.Values.{AreAnswers, AreValuesAt, IsStand, first_letters}
use Rattle.wave_judge.specs.declared.pass.Answers.{Answers}
use Rattle.wave_judge.specs.declared.pass.Stand.{Stand}

pub length-letters : (r : Sampled) → length (letters_of r) ≡ length r.samples
length-letters r = length-map-range_with_len (letter_at r) 0 (length r.samples)

pub length-first : (r : Sampled) (count : ℕ) → count ≤ length r.samples → length (first_letters r count) ≡ count
length-first r count le = length-take-le count (letters_of r) (omega (arith, length-letters r))

-- a suffix that begins within the word begins with the letter of its sample
drop-within : (r : Sampled) (count k : ℕ) → count ≤ length r.samples → k < count → drop k (first_letters r count) ≡ letter_at r k ∷ drop (suc k) (first_letters r count)
drop-within r count k le lt =
    let within : k < length (first_letters r count) = omega (arith, length-first r count le) in
    let inside : k < length r.samples = omega arith in
    let letter : get_or (letters_of r) k (letter_at r k) ≡ letter_at r k = get_or-map-range_with_len (letter_at r) 0 (length r.samples) k k (letter_at r k) inside (omega arith) in
    drop-cons (first_letters r count) k (letter_at r k) within
    ∙ ap (λ l. l ∷ drop (suc k) (first_letters r count)) (get_or-take count (letters_of r) k (letter_at r k) lt ∙ letter)

-- past the word nothing is left
drop-past : (r : Sampled) (count : ℕ) → count ≤ length r.samples → drop count (first_letters r count) ≡ []
drop-past r count le = drop_all count (first_letters r count) (omega (arith, length-first r count le))

-- the first letters are all of them
pub all-letters : (r : Sampled) → first_letters r (length r.samples) ≡ letters_of r
all-letters r = take_all (length r.samples) (letters_of r) (omega (arith, length-letters r))

-- words whose bits say of each atom whether it holds at a sample pack its letter
packs : (r : Sampled) (sample : ℕ) (atoms : List Atom) (letter : List Truth) (words : List ℕ)
    → TellsLetter atoms (letter_at r sample) letter
    → ((number : ℕ) → number < length letter → is_set words number ≡ value_at letter number)
    → PacksLetter atoms words (letter_at r sample)
packs r sample atoms letter words e bits =
    bits_pack atoms words (filter (atom_at r sample) (atoms_of r.names)) (λ place other h.
    let within : place < length letter = omega (arith, ap length e, length-map atoms (λ atom. holds (letter_at r sample) (Test atom))) in
    bits place within
    ∙ ap (λ (l : List Truth). value_at l place) e
    ∙ get_or-map (λ atom. holds (letter_at r sample) (Test atom)) atoms place other false h)

-- where a pass stands at a sample
pub record StandsAt (a : Automaton) (atoms : List Atom) (r : Sampled) (count sample : ℕ) (letter : List Truth) (next now : Values) : Type 0 where
  pub values : AreValues a (drop sample (first_letters r count)) now
  pub lengths : HasLengths a next
  pub letter_len : length letter ≡ length atoms

-- past the word, values on no letters are its values
pub at_the_end : (a : Automaton) (r : Sampled) (count : ℕ) (values : Values) → count ≤ length r.samples → AreValues a [] values → AreValuesAt a r count count values
at_the_end a r count values le k =
    let none = drop-past r count le in
    record {
      recorded = le;
      within = omega arith;
      are = record {
        weak = k.weak ∙ ap (values_of a Tops) (sym none);
        neutral = k.neutral ∙ ap (values_of a Nothing) (sym none);
        strong = k.strong ∙ ap (values_of a Bottoms) (sym none);
      };
    }

pub goes_back : (a : Automaton) (atoms : List Atom) (r : Sampled) (count sample after : ℕ) (old letter : List Truth) (words : List ℕ) (before next now : Values)
    → after ≡ sample + 1 → count ≤ length r.samples → sample < count
    → AtomsOfObligations (λ atom. IsTrue (is_among atoms atom)) a.obligations
    → StandsAt a atoms r count after old before next
    → TellsLetter atoms (letter_at r sample) letter
    → ((number : ℕ) → number < length letter → is_set words number ≡ value_at letter number)
    → StepsAll a atoms words next now → StandsAt a atoms r count sample letter next now
goes_back a atoms r count sample after old letter words before next now e le lt tests stands packed bits steps =
    let next_is : after ≡ suc sample = omega arith in
    let rest = drop (suc sample) (first_letters r count) in
    let same : drop after (first_letters r count) ≡ rest = ap (λ n. drop n (first_letters r count)) next_is in
    let here = packs r sample atoms letter words packed bits in
    let front = sym (drop-within r count sample le lt) in
    record {
      values = record {
        weak = steps.weak (letter_at r sample) here tests Tops rest (stands.values.weak ∙ ap (values_of a Tops) same) ∙ ap (values_of a Tops) front;
        neutral = steps.neutral (letter_at r sample) here tests Nothing rest (stands.values.neutral ∙ ap (values_of a Nothing) same) ∙ ap (values_of a Nothing) front;
        strong = steps.strong (letter_at r sample) here tests Bottoms rest (stands.values.strong ∙ ap (values_of a Bottoms) same) ∙ ap (values_of a Bottoms) front;
      };
      lengths = have-lengths a (drop after (first_letters r count)) next stands.values;
      letter_len = ap length packed ∙ length-map atoms (λ atom. holds (letter_at r sample) (Test atom));
    }

-- the letters of samples in a row, and those after them
letters-drop : (r : Sampled) (word first count place : ℕ) → word ≤ length r.samples → first + place + count ≤ word
    → letters_from (λ p. letter_at r (first + p)) place count ++ drop (first + place + count) (first_letters r word) ≡ drop (first + place) (first_letters r word)
letters-drop r word first zero place le h = ap (λ n. drop n (first_letters r word)) (none (first + place))
  where
    none : (n : ℕ) → n + 0 ≡ n
    none n = omega arith
letters-drop r word first (suc count) place le h =
    ap (λ n. letter_at r (first + place) ∷ (letters_from (λ p. letter_at r (first + p)) (suc place) count ++ drop n (first_letters r word))) (later first place count)
    ∙ ap (λ l. letter_at r (first + place) ∷ l) (letters-drop r word first count (suc place) le (omega arith))
    ∙ ap (λ n. letter_at r (first + place) ∷ drop n (first_letters r word)) (one first place)
    ∙ sym (drop-within r word (first + place) le (omega arith))
  where
    later : (first place count : ℕ) → first + place + suc count ≡ first + suc place + count
    later first place count = omega arith

    one : (first place : ℕ) → first + suc place ≡ suc (first + place)
    one first place = omega arith

packs-block : (r : Sampled) (first : ℕ) (atoms : List Atom) (columns : List ℕ) → TellColumns r first atoms columns (length atoms)
    → PacksBlock atoms columns (λ place. letter_at r (first + place))
packs-block r first atoms columns tells place h = λ number other k. tells number other k place h

-- a block back
pub goes_block : (a : Automaton) (atoms : List Atom) (r : Sampled) (count number after : ℕ) (columns : List ℕ) (next now : Values)
    → after ≡ number + 1
    → AtomsOfObligations (λ atom. IsTrue (is_among atoms atom)) a.obligations
    → AreValuesAt a r count (64 * after) next → TellColumns r (64 * number) atoms columns (length atoms)
    → StepsBlock a atoms columns next now → AreValuesAt a r count (64 * number) now
goes_block a atoms r count number after columns next now e tests stands tells steps = record {
  recorded = stands.recorded;
  within = omega (arith, stands.within);
  are = record {
    weak = from Tops next.weak now.weak steps.weak stands.are.weak;
    neutral = from Nothing next.neutral now.neutral steps.neutral stands.are.neutral;
    strong = from Bottoms next.strong now.strong steps.strong stands.are.strong;
  };
}
  where
    from : (past : Past) (next now : List Truth) → StepsTo 0 a atoms columns next now → next ≡ values_of a past (drop (64 * after) (first_letters r count))
        → now ≡ values_of a past (drop (64 * number) (first_letters r count))
    from past next now step is =
        step (λ place. letter_at r (64 * number + place)) (packs-block r (64 * number) atoms columns tells) tests past (drop (64 * after) (first_letters r count)) is
        ∙ ap (λ n. values_of a past (letters_from (λ place. letter_at r (64 * number + place)) 0 64 ++ drop n (first_letters r count))) last
        ∙ ap (values_of a past) (letters-drop r count (64 * number) 64 0 stands.recorded (omega (arith, stands.within)))
        ∙ ap (λ n. values_of a past (drop n (first_letters r count))) first
      where
        last : 64 * after ≡ 64 * number + 0 + 64
        last = omega arith

        first : 64 * number + 0 ≡ 64 * number
        first = omega arith

-- values at a sample are as many as there are obligations
pub have-lengths-at : (a : Automaton) (r : Sampled) (count sample : ℕ) (v : Values) → AreValuesAt a r count sample v → HasLengths a v
have-lengths-at a r count sample v h = have-lengths a (drop sample (first_letters r count)) v h.are

-- the start's values at the first sample are the answers
pub answers : (a : Automaton) (r : Sampled) (first : Stand) (found : Answers)
    → IsStand a r (length r.samples) 0 first
    → found.weak ≡ value_at first.values.weak a.start → found.neutral ≡ value_at first.values.neutral a.start → found.strong ≡ value_at first.values.strong a.start
    → AreAnswers a (letters_of r) found
answers a r first found stands w n s = record {
  weak = w ∙ told Tops first.values.weak stands.values.are.weak;
  neutral = n ∙ told Nothing first.values.neutral stands.values.are.neutral;
  strong = s ∙ told Bottoms first.values.strong stands.values.are.strong;
}
  where
    told : (past : Past) (values : List Truth) → values ≡ values_of a past (drop (64 * 0) (first_letters r (length r.samples))) → value_at values a.start ≡ value_on a past (letters_of r)
    told past values is =
        ap (λ (l : List Truth). value_at l a.start) (is ∙ ap (values_of a past) (all-letters r)) ∙ start_tells a past (letters_of r)

pub are_at : (a : Automaton) (r : Sampled) (count sample here : ℕ) (now : Values) → count ≤ length r.samples → AreValues a (drop sample (first_letters r count)) now
    → sample ≡ here → here ≤ count → AreValuesAt a r count here now
are_at a r count sample here now le e same within =
    let P : ℕ → Type 0 = λ place. AreValues a (drop place (first_letters r count)) now in
    record { recorded = le; within = within; are = subst P same e }
