-- From which letter on a verdict is settled: whatever letters come then, for ever, it stays.
use Rattle.std.specs.Prelude.{◌≡◌, ◌≤◌, ◌<◌, ℕ, List, [], ◌∷◌, length, take, Option, None, Some}
use Rattle.psl_tree.specs.Satisfaction.{Sat}
use Rattle.psl_tree.specs.Trace.{Trace, after, trace_of}
use Rattle.psl_tree.specs.Views as views
use Rattle.psl_tree.specs.declared.directive.Directive.{Directive}
use Rattle.psl_tree.specs.declared.letter.Letter.{Letter}
use Rattle.psl_tree.specs.Trees.{Formula, formula_of}
use Rattle.wave_judge.specs.Levels.{level_of}
use Rattle.wave_judge.specs.declared.verdict.Level.{Level}
use Rattle.wave_judge.specs.declared.verdict.Level.TheVariants.{HoldsStrongly, Holds, Pending, Fails}
use Rattle.wave_judge.specs.declared.verdict.Verdict.{Verdict}

-- whatever follows the letters for ever, the formula is not satisfied: not even Top for ever behind them satisfies it
abbrev pub IsSettledAgainst : Formula → List Letter → Type 0
IsSettledAgainst formula letters = Sat (trace_of (views.weak letters)) formula None → ⊥

-- whatever follows the letters for ever, the formula is satisfied: even Bottom for ever behind them satisfies it
abbrev pub IsSettledFor : Formula → List Letter → Type 0
IsSettledFor formula letters = Sat (trace_of (views.strong letters)) formula None

-- so many first letters settle it, and no fewer do
pub record IsPoint (IsSettled : List Letter → Type 0) (letters : List Letter) (count : ℕ) : Type 0 where
  pub within : count ≤ length letters
  pub settled : IsSettled (take count letters)
  pub least : (fewer : ℕ) → fewer < count → IsSettled (take fewer letters) → ⊥

-- what first letters settle, more of them settle
abbrev pub Stays : (List Letter → Type 0) → Type 0
Stays IsSettled = (letters : List Letter) (fewer count : ℕ) → fewer ≤ count → IsSettled (take fewer letters) → IsSettled (take count letters)

-- no two counts are points of the same letters
abbrev pub HasOnePoint : (List Letter → Type 0) → Type 0
HasOnePoint IsSettled = (letters : List Letter) (count other : ℕ) → IsPoint IsSettled letters count → IsPoint IsSettled letters other → count ≡ other

-- letters, and then others for ever
abbrev pub endless : List Letter → (ℕ → Letter) → Trace
endless letters rest = after letters (λ place. Some (rest place))

-- the point of a level: there is one exactly where the formula is satisfied in no view or in the strong one
abbrev pub IsPointOf : Level → Formula → List Letter → Option ℕ → Type 0
IsPointOf Fails formula letters (Some count) = IsPoint (IsSettledAgainst formula) letters count
IsPointOf Fails formula letters None = ⊥
IsPointOf Pending formula letters (Some _) = ⊥
IsPointOf Pending formula letters None = Unit {0}
IsPointOf Holds formula letters (Some _) = ⊥
IsPointOf Holds formula letters None = Unit {0}
IsPointOf HoldsStrongly formula letters (Some count) = IsPoint (IsSettledFor formula) letters count
IsPointOf HoldsStrongly formula letters None = ⊥

-- one for each directive, in order, by the level of its verdict
abbrev pub ArePoints : List Letter → List Directive → List Verdict → List (Option ℕ) → Type 0
ArePoints letters [] [] [] = Unit {0}
ArePoints letters (directive ∷ directives) (verdict ∷ verdicts) (point ∷ points) =
    IsPointOf (level_of verdict.weak verdict.neutral verdict.strong) (formula_of directive.formula) letters point × ArePoints letters directives verdicts points
ArePoints letters _ _ _ = ⊥
