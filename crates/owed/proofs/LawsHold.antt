-- What is owed says that the claim holds if the assumptions are satisfied.
use Rattle.std.proofs.Common.{◌≡◌, sym, subst, ◌↔◌, List, [], ◌∷◌, fold, Option, None, Some, All}
use Rattle.std.proofs.lemmas.List.Elements.{All-cons, All-nil, All-head, All-tail}
use Rattle.clock_rewrite.proofs.Stable.{stable}
use mathlib.Core.Path.{fun_ext}
use Rattle.psl_tree.specs.Satisfaction.{Sat}
use Rattle.psl_tree.specs.Trace.{Trace, dual}
use Rattle.psl_tree.specs.Trees.{Formula, And, Not, formula_of}
use Rattle.psl_tree.specs.declared.directive.Directive.{Directive}
use Rattle.psl_tree.specs.declared.directive.Kind.{Kind}
use Rattle.psl_tree.specs.declared.directive.Kind.TheVariants.{Assert, Assume, Cover}
use Rattle.owed.specs.Laws.{Claims, Owes}
use Rattle.owed.specs.Owed.{assumptions, claimed, joined, conjunction, under, owed}

-- the conjunction is satisfied, where there is one
abbrev pub Meets : Trace → Option Formula → Type 0
Meets trace None = Unit {0}
Meets trace (Some formula) = Sat trace formula None

meets : (w : Trace) (fs : List Formula) (acc : Option Formula)
    → (Meets w acc × All (λ f. Sat w f None) fs) ↔ Meets w (fold joined acc fs)
meets w [] acc = (λ h. h.0, λ h. (h, All-nil (λ f. Sat w f None)))
meets w (f ∷ fs) None = (
  λ h. (meets w fs (Some f)).0 (All-head (λ g. Sat w g None) f fs h.1, All-tail (λ g. Sat w g None) f fs h.1),
  λ h. let k = (meets w fs (Some f)).1 h in (tt, All-cons (λ g. Sat w g None) f fs k.0 k.1),
)
meets w (f ∷ fs) (Some a) = (
  λ h. (meets w fs (Some (And a f))).0 ((h.0, All-head (λ g. Sat w g None) f fs h.1), All-tail (λ g. Sat w g None) f fs h.1),
  λ h. let k = (meets w fs (Some (And a f))).1 h in (k.0.0, All-cons (λ g. Sat w g None) f fs k.0.1 k.1),
)

-- a claim, where the dual of a trace is the trace
claimed-same : (w : Trace) (k : Kind) (f : Formula) → dual w ≡ w → Sat w (claimed k f) None ↔ Claims w k f
claimed-same w Assert f e = (λ s. s, λ s. s)
claimed-same w Assume f e = (λ s. s, λ s. s)
claimed-same w Cover f e = subst (λ (v : Trace). (Sat v f None → ⊥) ↔ (Sat w f None → ⊥)) (sym e) (λ n. n, λ n. n)

-- that a formula is not so that is assumed along with the negation of another one
fails-same : (w : Trace) (a f : Formula) → dual w ≡ w
    → Sat w (Not (And a (Not f))) None ↔ (Sat w a None → Sat w f None)
fails-same w a f e =
    subst (λ (v : Trace). ((Sat v a None × (Sat (dual v) f None → ⊥)) → ⊥) ↔ (Sat w a None → Sat w f None)) (sym e)
    (subst (λ (u : Trace). ((Sat w a None × (Sat u f None → ⊥)) → ⊥) ↔ (Sat w a None → Sat w f None)) (sym e)
    (λ n m. stable f None w (λ k. n (m, k)), λ h p. p.1 (h p.0)))

-- and along with another one
covers-same : (w : Trace) (a f : Formula) → dual w ≡ w
    → Sat w (Not (And a f)) None ↔ (Sat w a None → Sat w f None → ⊥)
covers-same w a f e =
    subst (λ (v : Trace). ((Sat v a None × Sat v f None) → ⊥) ↔ (Sat w a None → Sat w f None → ⊥)) (sym e)
    (λ n m k. n (m, k), λ h p. h p.0 p.1)

-- a claim under what is assumed
under-same : (w : Trace) (c : Option Formula) (k : Kind) (f : Formula) → dual w ≡ w
    → Sat w (under c k f) None ↔ (Meets w c → Claims w k f)
under-same w None k f e = (λ s m. (claimed-same w k f e).0 s, λ h. (claimed-same w k f e).1 (h tt))
under-same w (Some a) Assert f e = fails-same w a f e
under-same w (Some a) Assume f e = fails-same w a f e
under-same w (Some a) Cover f e = covers-same w a f e

pub owes-holds : (unit : List Directive) (d : Directive) → Owes unit d
owes-holds unit d w same =
    let u : Sat w (owed unit d) None ↔ (Meets w (conjunction (assumptions unit)) → Claims w d.kind (formula_of d.formula))
    = under-same w (conjunction (assumptions unit)) d.kind (formula_of d.formula) (fun_ext same) in (
      λ s h. u.0 s ((meets w (assumptions unit) None).0 (tt, h)),
      λ k. u.1 (λ m. k ((meets w (assumptions unit) None).1 m).1),
    )
