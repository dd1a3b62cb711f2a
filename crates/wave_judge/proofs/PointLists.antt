-- Points of several directives, one by one.
use Rattle.std.proofs.Common.{◌≡◌, refl, ap, ℕ, zero, suc, ◌<◌, List, [], ◌∷◌, ◌++◌, length, get_or, Option, arith}
use Rattle.psl_tree.specs.declared.directive.Directive.{Directive}
use Rattle.psl_tree.specs.declared.letter.Letter.{Letter}
use Rattle.psl_tree.specs.Trees.{formula_of}
use Rattle.wave_judge.specs.Judged.{IsVerdict, AreVerdicts}
use Rattle.wave_judge.specs.Levels.{level_of}
use Rattle.wave_judge.specs.Settled.{IsPointOf, ArePoints}
use Rattle.wave_judge.specs.declared.verdict.Verdict.{Verdict}

-- the point of a verdict
abbrev pub IsPointFor : List Letter → Directive → Verdict → Option ℕ → Type 0
IsPointFor letters d v p = IsPointOf (level_of v.weak v.neutral v.strong) (formula_of d.formula) letters p

-- one point more
pub points-more : (letters : List Letter) (ds : List Directive) (vs : List Verdict) (ps : List (Option ℕ)) (d : Directive) (v : Verdict) (p : Option ℕ)
    → ArePoints letters ds vs ps → IsPointFor letters d v p → ArePoints letters (ds ++ d ∷ []) (vs ++ v ∷ []) (ps ++ p ∷ [])
points-more letters [] [] [] d v p h k = (k, tt)
points-more letters [] [] (_ ∷ _) d v p h k = absurd h
points-more letters [] (_ ∷ _) ps d v p h k = absurd h
points-more letters (_ ∷ _) [] ps d v p h k = absurd h
points-more letters (_ ∷ _) (_ ∷ _) [] d v p h k = absurd h
points-more letters (e ∷ ds) (w ∷ vs) (q ∷ ps) d v p h k = (h.0, points-more letters ds vs ps d v p h.1 k)

-- as many verdicts as directives
pub same-length : (letters : List Letter) (ds : List Directive) (vs : List Verdict) → AreVerdicts letters ds vs → length vs ≡ length ds
same-length letters [] [] h = refl
same-length letters [] (_ ∷ _) h = absurd h
same-length letters (_ ∷ _) [] h = absurd h
same-length letters (d ∷ ds) (v ∷ vs) h = ap suc (same-length letters ds vs h.1)

-- the verdict at a place is that of the directive there
pub verdict-at : (letters : List Letter) (ds : List Directive) (vs : List Verdict) (place : ℕ) (d : Directive) (v : Verdict)
    → AreVerdicts letters ds vs → place < length ds → IsVerdict letters (get_or ds place d) (get_or vs place v)
verdict-at letters [] vs place d v h lt = absurd (omega arith)
verdict-at letters (_ ∷ _) [] place d v h lt = absurd h
verdict-at letters (e ∷ ds) (w ∷ vs) zero d v h lt = h.0
verdict-at letters (e ∷ ds) (w ∷ vs) (suc place) d v h lt = verdict-at letters ds vs place d v h.1 (omega arith)
