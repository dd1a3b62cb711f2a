-- Booleans without double negations hold where the others do.
use Rattle.std.proofs.Common.{◌≡◌, refl, ◌∙◌, ℕ, Bool as Truth, true, false, List, not}
use Rattle.psl_tree.specs.Atoms.{AtomsOfBoolean}
use Rattle.psl_tree.specs.Holds.{holds, holds_among}
use Rattle.psl_tree.specs.Trees as trees
use Rattle.psl_tree.specs.Trees.{Boolean}
use Rattle.psl_tree.specs.declared.atom.Atom.{Atom}
use Rattle.psl_tree.specs.declared.letter.Letter.{Letter}
use Rattle.psl_tree.specs.declared.letter.Letter.TheVariants.{Top, Bottom, Holds as Atoms}
use Rattle.alternating_theory.specs.Positive.{Positive, Const, Holds, Owed, And, Or, met}
use Rattle.alternating_theory.specs.Atoms.{AtomsOfPositive}
use Rattle.alternating_blocks.specs.Block.{TellsMet, MeetsAll, follows}
use Rattle.alternating_blocks.specs.Plan.{bare, bare_positive}
use Rattle.alternating_blocks.specs.Words.{words_at}
use Rattle.alternating_blocks.specs.declared.words.Words.{Words}

not-twice : (b : Truth) → b ≡ not (not b)
not-twice true = refl
not-twice false = refl

bare-among : (held : List Atom) (b : Boolean) → holds_among held (bare b) ≡ holds_among held b
bare-among held (trees.Const _) = refl
bare-among held (trees.Test _) = refl
bare-among held (trees.Not (trees.Const _)) = refl
bare-among held (trees.Not (trees.Test _)) = refl
bare-among held (trees.Not (trees.Not b)) = bare-among held b ∙ not-twice (holds_among held b)
bare-among held (trees.Not (trees.And _ _)) = refl
bare-among held (trees.Not (trees.Or _ _)) = refl
bare-among held (trees.And _ _) = refl
bare-among held (trees.Or _ _) = refl

bare-holds : (x : Letter) (b : Boolean) → holds x (bare b) ≡ holds x b
bare-holds Top b = refl
bare-holds Bottom b = refl
bare-holds (Atoms held) b = bare-among held b

bare-atoms : (P : Atom → Type 0) (b : Boolean) → AtomsOfBoolean P b → AtomsOfBoolean P (bare b)
bare-atoms P (trees.Const _) h = h
bare-atoms P (trees.Test _) h = h
bare-atoms P (trees.Not (trees.Const _)) h = h
bare-atoms P (trees.Not (trees.Test _)) h = h
bare-atoms P (trees.Not (trees.Not b)) h = bare-atoms P b h
bare-atoms P (trees.Not (trees.And _ _)) h = h
bare-atoms P (trees.Not (trees.Or _ _)) h = h
bare-atoms P (trees.And _ _) h = h
bare-atoms P (trees.Or _ _) h = h

bare-met : (p : Positive) (x : Letter) (f : ℕ → Truth) → met (bare_positive p) x f ≡ met p x f
bare-met (Const _) x f = refl
bare-met (Holds b) x f = bare-holds x b
bare-met (Owed _) x f = refl
bare-met (And p r) x f = let a = bare-met p x f in let b = bare-met r x f in cc
bare-met (Or p r) x f = let a = bare-met p x f in let b = bare-met r x f in cc

bare-tests : (P : Atom → Type 0) (p : Positive) → AtomsOfPositive P p → AtomsOfPositive P (bare_positive p)
bare-tests P (Const _) h = h
bare-tests P (Holds b) h = bare-atoms P b h
bare-tests P (Owed _) h = h
bare-tests P (And p r) h = (bare-tests P p h.0, bare-tests P r h.1)
bare-tests P (Or p r) h = (bare-tests P p h.0, bare-tests P r h.1)

bare-tells : (atoms : List Atom) (columns : List ℕ) (after words : ℕ → ℕ) (p : Positive) (word : ℕ)
    → TellsMet atoms columns after words (bare_positive p) word → TellsMet atoms columns after words p word
bare-tells atoms columns after words p word tells among place letter h packs =
    tells (bare-tests _ p among) place letter h packs ∙ bare-met p letter (λ number. follows (words number) (after number) place)

pub bare-meets : (atoms : List Atom) (columns : List ℕ) (after words : List Words) (p : Positive) (found : Words)
    → MeetsAll atoms columns after words (bare_positive p) found → MeetsAll atoms columns after words p found
bare-meets atoms columns after words p found meets = record {
  weak = bare-tells atoms columns (λ n. (words_at after n).weak) (λ n. (words_at words n).weak) p found.weak meets.weak;
  neutral = bare-tells atoms columns (λ n. (words_at after n).neutral) (λ n. (words_at words n).neutral) p found.neutral meets.neutral;
  strong = bare-tells atoms columns (λ n. (words_at after n).strong) (λ n. (words_at words n).strong) p found.strong meets.strong;
}
