-- The words of a combination from those of its parts.
use Rattle.std.proofs.Common.{◌≡◌, ap, ◌∙◌, ℕ, Bool as Truth, List}
use Rattle.std.specs.Prelude.{◌&&◌, ◌||◌}
use Rattle.alternating_theory.specs.Positive.{Positive, And, Or, met}
use Rattle.alternating.specs.Packed.{bit}
use Rattle.psl_tree.specs.declared.atom.Atom.{Atom}
use Rattle.alternating_blocks.specs.Block.{TellsMet, MeetsAll, follows}
use Rattle.alternating_blocks.specs.Words.{InEachView, words_at}
use Rattle.alternating_blocks.specs.declared.words.Words.{Words}

module _ (atoms : List Atom) (columns : List ℕ) (after words : ℕ → ℕ) where
  pub meets-and : (left right : Positive) (word other both : ℕ) → ((place : ℕ) → bit both place ≡ (bit word place && bit other place))
      → TellsMet atoms columns after words left word → TellsMet atoms columns after words right other → TellsMet atoms columns after words (And left right) both
  meets-and left right word other both e l r among place letter h packs =
      let x = l among.0 place letter h packs in let y = r among.1 place letter h packs in
      e place ∙ ap (λ (b : Truth). b && bit other place) x ∙ ap (λ (b : Truth). met left letter (λ number. follows (words number) (after number) place) && b) y

  pub meets-or : (left right : Positive) (word other either : ℕ) → ((place : ℕ) → bit either place ≡ (bit word place || bit other place))
      → TellsMet atoms columns after words left word → TellsMet atoms columns after words right other → TellsMet atoms columns after words (Or left right) either
  meets-or left right word other either e l r among place letter h packs =
      let x = l among.0 place letter h packs in let y = r among.1 place letter h packs in
      e place ∙ ap (λ (b : Truth). b || bit other place) x ∙ ap (λ (b : Truth). met left letter (λ number. follows (words number) (after number) place) || b) y

-- the same in each view

pub all-and : (atoms : List Atom) (columns : List ℕ) (after words : List Words) (left right : Positive) (word other both : Words)
    → InEachView (λ view. (place : ℕ) → bit (view both) place ≡ (bit (view word) place && bit (view other) place))
    → MeetsAll atoms columns after words left word → MeetsAll atoms columns after words right other → MeetsAll atoms columns after words (And left right) both
all-and atoms columns after words left right word other both e l r = record {
  weak = meets-and atoms columns (λ n. (words_at after n).weak) (λ n. (words_at words n).weak) left right word.weak other.weak both.weak e.weak l.weak r.weak;
  neutral = meets-and atoms columns (λ n. (words_at after n).neutral) (λ n. (words_at words n).neutral) left right word.neutral other.neutral both.neutral e.neutral l.neutral r.neutral;
  strong = meets-and atoms columns (λ n. (words_at after n).strong) (λ n. (words_at words n).strong) left right word.strong other.strong both.strong e.strong l.strong r.strong;
}

pub all-or : (atoms : List Atom) (columns : List ℕ) (after words : List Words) (left right : Positive) (word other either : Words)
    → InEachView (λ view. (place : ℕ) → bit (view either) place ≡ (bit (view word) place || bit (view other) place))
    → MeetsAll atoms columns after words left word → MeetsAll atoms columns after words right other → MeetsAll atoms columns after words (Or left right) either
all-or atoms columns after words left right word other either e l r = record {
  weak = meets-or atoms columns (λ n. (words_at after n).weak) (λ n. (words_at words n).weak) left right word.weak other.weak either.weak e.weak l.weak r.weak;
  neutral = meets-or atoms columns (λ n. (words_at after n).neutral) (λ n. (words_at words n).neutral) left right word.neutral other.neutral either.neutral e.neutral l.neutral r.neutral;
  strong = meets-or atoms columns (λ n. (words_at after n).strong) (λ n. (words_at words n).strong) left right word.strong other.strong either.strong e.strong l.strong r.strong;
}
