-- Words on whose letters the same holds satisfy the same formulas.
use Rattle.std.proofs.Common.{◌≡◌, refl, sym, subst, ℕ, zero, suc, List, [], ◌∷◌, None}
use Rattle.std.specs.Prelude.{IsTrue}
use Rattle.clock_rewrite.proofs.Clockless.{plain_plain}
use Rattle.clock_rewrite.proofs.Meaning.{plain_words}
use Rattle.alternating_theory.proofs.Raised.{Below, LessLetter, raised}
use Rattle.psl_tree.proofs.Traces.{neutral-followed, strong-followed, weak-followed}
use Rattle.psl_tree.specs.Followed.{Past, Nothing, Tops, Bottoms, followed}
use Rattle.psl_tree.specs.Plain.{plain}
use Rattle.psl_tree.specs.Satisfaction.{Sat}
use Rattle.psl_tree.specs.Trace.{Trace, dual, holds_at, is_place, trace_of}
use Rattle.psl_tree.specs.Views.{neutral, strong, weak}
use Rattle.psl_tree.specs.Trees.{Boolean, Formula, formula_of}
use Rattle.psl_tree.specs.declared.directive.Directive.{Directive}
use Rattle.psl_tree.specs.declared.letter.Letter.{Letter}
use Rattle.psl_tree.specs.declared.letter.Word.{Word}
use Rattle.wave_judge.specs.Judged.{IsVerdict}
use Rattle.wave_judge.specs.declared.verdict.Verdict.{Verdict}

-- letter by letter, what holds on the first holds on the second
abbrev pub AreLess : List Letter → List Letter → Type 0
AreLess [] [] = Unit {0}
AreLess [] (_ ∷ _) = ⊥
AreLess (_ ∷ _) [] = ⊥
AreLess (x ∷ xs) (y ∷ ys) = LessLetter x y × AreLess xs ys

same-places : (past : Past) (xs ys : List Letter) → AreLess xs ys → (k : ℕ) → is_place (followed xs past) k ≡ is_place (followed ys past) k
same-places past [] [] less k = refl
same-places past [] (y ∷ ys) less k = absurd less
same-places past (x ∷ xs) [] less k = absurd less
same-places past (x ∷ xs) (y ∷ ys) less zero = refl
same-places past (x ∷ xs) (y ∷ ys) less (suc k) = same-places past xs ys less.1 k

more-holds : (past : Past) (xs ys : List Letter) → AreLess xs ys → (k : ℕ) (b : Boolean) → IsTrue (holds_at (followed xs past) k b) → IsTrue (holds_at (followed ys past) k b)
more-holds past [] [] less k b holds = holds
more-holds past [] (y ∷ ys) less k b holds = absurd less
more-holds past (x ∷ xs) [] less k b holds = absurd less
more-holds past (x ∷ xs) (y ∷ ys) less zero b holds = (less.0 b).0 holds
more-holds past (x ∷ xs) (y ∷ ys) less (suc k) b holds = more-holds past xs ys less.1 k b holds

fewer-hold : (past : Past) (xs ys : List Letter) → AreLess xs ys → (k : ℕ) (b : Boolean) → IsTrue (holds_at (dual (followed ys past)) k b) → IsTrue (holds_at (dual (followed xs past)) k b)
fewer-hold past [] [] less k b holds = holds
fewer-hold past [] (y ∷ ys) less k b holds = absurd less
fewer-hold past (x ∷ xs) [] less k b holds = absurd less
fewer-hold past (x ∷ xs) (y ∷ ys) less zero b holds = (less.0 b).1 holds
fewer-hold past (x ∷ xs) (y ∷ ys) less (suc k) b holds = fewer-hold past xs ys less.1 k b holds

below-followed : (past : Past) (xs ys : List Letter) → AreLess xs ys → Below (followed xs past) (followed ys past)
below-followed past xs ys less = record {
  same = λ k. same-places past xs ys less k;
  more = λ k b h. more-holds past xs ys less k b h;
  less = λ k b h. fewer-hold past xs ys less k b h;
}

below-same : (v w x y : Trace) → v ≡ x → w ≡ y → Below x y → Below v w
below-same v w x y first second below =
    subst (λ (t : Trace). Below t w) (sym first) (subst (λ (t : Trace). Below x t) (sym second) below)

sat-more : (f : Formula) (v w : Word) → Below (trace_of v) (trace_of w) → Sat (trace_of v) f None → Sat (trace_of w) f None
sat-more f v w below sat =
    (plain_words f None w).0 (raised (plain f None) (plain_plain f None) (trace_of v) (trace_of w) below ((plain_words f None v).1 sat))

module _ (f : Formula) (xs ys : List Letter) (less : AreLess xs ys) where
  weak-more : Sat (trace_of (weak xs)) f None → Sat (trace_of (weak ys)) f None
  weak-more = sat-more f (weak xs) (weak ys) (below-same (trace_of (weak xs)) (trace_of (weak ys)) (followed xs Tops) (followed ys Tops) (weak-followed xs) (weak-followed ys) (below-followed Tops xs ys less))

  neutral-more : Sat (trace_of (neutral xs)) f None → Sat (trace_of (neutral ys)) f None
  neutral-more = sat-more f (neutral xs) (neutral ys) (below-same (trace_of (neutral xs)) (trace_of (neutral ys)) (followed xs Nothing) (followed ys Nothing) (neutral-followed xs) (neutral-followed ys) (below-followed Nothing xs ys less))

  strong-more : Sat (trace_of (strong xs)) f None → Sat (trace_of (strong ys)) f None
  strong-more = sat-more f (strong xs) (strong ys) (below-same (trace_of (strong xs)) (trace_of (strong ys)) (followed xs Bottoms) (followed ys Bottoms) (strong-followed xs) (strong-followed ys) (below-followed Bottoms xs ys less))

-- a verdict on letters is one on letters on which the same holds
pub verdict-same : (xs ys : List Letter) → AreLess xs ys → AreLess ys xs → (directive : Directive) (verdict : Verdict) → IsVerdict xs directive verdict → IsVerdict ys directive verdict
verdict-same xs ys less more directive verdict is =
    let f = formula_of directive.formula in
    record {
      number = is.number;
      kind = is.kind;
      label = is.label;
      weak = (λ t. weak-more f xs ys less (is.weak.0 t), λ s. is.weak.1 (weak-more f ys xs more s));
      neutral = (λ t. neutral-more f xs ys less (is.neutral.0 t), λ s. is.neutral.1 (neutral-more f ys xs more s));
      strong = (λ t. strong-more f xs ys less (is.strong.0 t), λ s. is.strong.1 (strong-more f ys xs more s));
    }
