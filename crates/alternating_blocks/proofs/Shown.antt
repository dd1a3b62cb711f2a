-- Words and the values at one of their places, one obligation more.
use Rattle.std.proofs.Common.{◌≡◌, ◌≢◌, ap, sym, ◌∙◌, ℕ, ◌+◌, ◌%◌, ◌<◌, Bool as Truth, false, List, length, set, arith, get_or-set_other, get_or-set_same}
use Rattle.std.specs.Prelude.{◌==◌}
use Rattle.std.proofs.lemmas.Nat.Bits.{bit_at_lowest}
use borrow.Author.Count.{below_none, below_more}
use Rattle.alternating.specs.Packed.{bit}
use Rattle.alternating.specs.Stepped.{value_at}
use Rattle.alternating_blocks.specs.Values.{HasCounts, ShowAt}
use Rattle.alternating_blocks.specs.Words.{words_at, unset}
use Rattle.alternating_blocks.specs.declared.values.Values.{Values}
use Rattle.alternating_blocks.specs.declared.words.Words.{Words}

pub none-shown : (place : ℕ) (words : List Words) (values : Values) → ShowAt place 0 words values
none-shown place words values = record { weak = below_none _; neutral = below_none _; strong = below_none _ }

-- words are written
module _ (view : Words → ℕ) (values : List Truth) (place n : ℕ) (words : List Words) (word : Words) (within : n < length words) (here : bit (view word) place ≡ value_at values n) where
  one-written : ((q : ℕ) → q < n → bit (view (words_at words q)) place ≡ value_at values q)
      → (q : ℕ) → q < n + 1 → bit (view (words_at (set words n word) q)) place ≡ value_at values q
  one-written before =
      below_more (λ q. bit (view (words_at (set words n word) q)) place ≡ value_at values q) n
      (λ q h. let other : q ≢ n = omega arith in ap (λ (w : Words). bit (view w) place) (get_or-set_other words n q word unset other) ∙ before q h)
      (ap (λ (w : Words). bit (view w) place) (get_or-set_same words n word unset within) ∙ here)

pub words-more : (place n : ℕ) (words : List Words) (values : Values) (word : Words) → n < length words → ShowAt place n words values
    → bit word.weak place ≡ value_at values.weak n → bit word.neutral place ≡ value_at values.neutral n → bit word.strong place ≡ value_at values.strong n
    → ShowAt place (n + 1) (set words n word) values
words-more place n words values word within shown w e s = record {
  weak = one-written (λ v. v.weak) values.weak place n words word within w shown.weak;
  neutral = one-written (λ v. v.neutral) values.neutral place n words word within e shown.neutral;
  strong = one-written (λ v. v.strong) values.strong place n words word within s shown.strong;
}

-- values are read
module _ (view : Words → ℕ) (values : List Truth) (n : ℕ) (words : List Words) (within : n < length values) where
  lowest : (w : ℕ) → bit w 0 ≡ (w % 2 == 1)
  lowest w = ap (λ d. d == 1) (bit_at_lowest w)

  one-read : ((q : ℕ) → q < n → bit (view (words_at words q)) 0 ≡ value_at values q)
      → (q : ℕ) → q < n + 1 → bit (view (words_at words q)) 0 ≡ value_at (set values n (view (words_at words n) % 2 == 1)) q
  one-read before =
      below_more (λ q. bit (view (words_at words q)) 0 ≡ value_at (set values n (view (words_at words n) % 2 == 1)) q) n
      (λ q h. let other : q ≢ n = omega arith in before q h ∙ sym (get_or-set_other values n q (view (words_at words n) % 2 == 1) false other))
      (lowest (view (words_at words n)) ∙ sym (get_or-set_same values n (view (words_at words n) % 2 == 1) false within))

pub values-more : (n count : ℕ) (words : List Words) (weak neutral strong : List Truth) → n < count
    → HasCounts count (record { weak = weak; neutral = neutral; strong = strong }) → ShowAt 0 n words (record { weak = weak; neutral = neutral; strong = strong })
    → ShowAt 0 (n + 1) words (record {
      weak = set weak n ((words_at words n).weak % 2 == 1);
      neutral = set neutral n ((words_at words n).neutral % 2 == 1);
      strong = set strong n ((words_at words n).strong % 2 == 1);
    })
values-more n count words weak neutral strong h counts shown = record {
  weak = one-read (λ v. v.weak) weak n words (omega (arith, counts.weak)) shown.weak;
  neutral = one-read (λ v. v.neutral) neutral n words (omega (arith, counts.neutral)) shown.neutral;
  strong = one-read (λ v. v.strong) strong n words (omega (arith, counts.strong)) shown.strong;
}
