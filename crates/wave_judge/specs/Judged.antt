-- What a verdict says.
use Rattle.std.specs.Prelude.{◌≡◌, ◌↔◌, IsTrue, List, [], ◌∷◌, None}
use Rattle.psl_tree.specs.Satisfaction.{Sat}
use Rattle.psl_tree.specs.Trace.{trace_of}
use Rattle.psl_tree.specs.Views as views
use Rattle.psl_tree.specs.declared.directive.Directive.{Directive}
use Rattle.psl_tree.specs.declared.letter.Letter.{Letter}
use Rattle.psl_tree.specs.Trees.{formula_of}
use Rattle.wave_judge.specs.declared.verdict.Verdict.{Verdict}

-- the verdict is that of the directive on these letters: it says whether they satisfy the formula in
-- the weak, the neutral and the strong view
pub record IsVerdict (letters : List Letter) (directive : Directive) (verdict : Verdict) : Type 0 where
  pub number : verdict.number ≡ directive.number
  pub kind : verdict.kind ≡ directive.kind
  pub label : verdict.label ≡ directive.label
  pub weak : IsTrue verdict.weak ↔ Sat (trace_of (views.weak letters)) (formula_of directive.formula) None
  pub neutral : IsTrue verdict.neutral ↔ Sat (trace_of (views.neutral letters)) (formula_of directive.formula) None
  pub strong : IsTrue verdict.strong ↔ Sat (trace_of (views.strong letters)) (formula_of directive.formula) None

-- one verdict for each directive, in order
abbrev pub AreVerdicts : List Letter → List Directive → List Verdict → Type 0
AreVerdicts letters [] [] = Unit {0}
AreVerdicts letters (directive ∷ directives) (verdict ∷ verdicts) =
    IsVerdict letters directive verdict × AreVerdicts letters directives verdicts
AreVerdicts letters _ _ = ⊥
