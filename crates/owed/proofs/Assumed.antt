-- What is assumed by one directive more; and rewriting clocks goes through what is owed.
use Rattle.std.proofs.Common.{◌≡◌, refl, ◌∙◌, ap, List, [], ◌∷◌, ◌++◌, map, fold, Bool as Truth, true, false, if◌then◌else◌, Option, None, Some}
use Rattle.psl_tree.specs.Plain.{plain}
use Rattle.psl_tree.specs.Trees.{Formula, And, formula_of}
use Rattle.psl_tree.specs.declared.directive.Directive.{Directive}
use Rattle.psl_tree.specs.declared.directive.Kind.{Kind}
use Rattle.psl_tree.specs.declared.directive.Kind.TheVariants.{Assert, Assume, Cover}
use Rattle.owed.specs.Owed.{is_assumption, assumptions, joined, conjunction, under, plain_assumed, with_directive, plain_owed}

abbrev pub plain_of : Formula → Formula
plain_of formula = plain formula None

abbrev pub plain_in : Option Formula → Option Formula
plain_in None = None
plain_in (Some formula) = Some (plain formula None)

plain-fold : (fs : List Formula) (acc : Option Formula)
    → plain_in (fold joined acc fs) ≡ fold joined (plain_in acc) (map (λ formula. plain formula None) fs)
plain-fold [] acc = refl
plain-fold (f ∷ fs) None = plain-fold fs (Some f)
plain-fold (f ∷ fs) (Some a) = plain-fold fs (Some (And a f))

plain-under : (c : Option Formula) (k : Kind) (f : Formula) → plain (under c k f) None ≡ under (plain_in c) k (plain f None)
plain-under None Assert f = refl
plain-under None Assume f = refl
plain-under None Cover f = refl
plain-under (Some a) Assert f = refl
plain-under (Some a) Assume f = refl
plain-under (Some a) Cover f = refl

pub owed-plain : (unit : List Directive) (d : Directive)
    → plain_owed unit d ≡ under (plain_assumed unit) d.kind (plain (formula_of d.formula) None)
owed-plain unit d =
    plain-under (conjunction (assumptions unit)) d.kind (formula_of d.formula)
    ∙ ap (λ c. under c d.kind (plain (formula_of d.formula) None)) (plain-fold (assumptions unit) None)

-- what a directive adds, which is an assumption or not
abbrev added : Truth → Option Formula → Formula → Option Formula
added assumed formulas formula = if assumed then joined formulas formula else formulas

fold-more : (fs : List Formula) (acc : Option Formula) (f : Formula) → fold joined acc (fs ++ f ∷ []) ≡ joined (fold joined acc fs) f
fold-more [] acc f = refl
fold-more (g ∷ fs) acc f = fold-more fs (joined acc g) f

step : (acc : Option Formula) (x d : Directive) (xs : List Directive) (t : Truth)
    → ((acc : Option Formula) → fold joined acc (map plain_of (assumptions (xs ++ d ∷ [])))
    ≡ added (is_assumption d.kind) (fold joined acc (map plain_of (assumptions xs))) (plain_of (formula_of d.formula)))
    → fold joined acc (map plain_of (if t then formula_of x.formula ∷ assumptions (xs ++ d ∷ []) else assumptions (xs ++ d ∷ [])))
    ≡ added (is_assumption d.kind) (fold joined acc (map plain_of (if t then formula_of x.formula ∷ assumptions xs else assumptions xs)))
    (plain_of (formula_of d.formula))
step acc x d xs true e = e (joined acc (plain_of (formula_of x.formula)))
step acc x d xs false e = e acc

last : (acc : Option Formula) (d : Directive) (t : Truth)
    → fold joined acc (map plain_of (if t then formula_of d.formula ∷ [] else []))
    ≡ added t acc (plain_of (formula_of d.formula))
last acc d true = refl
last acc d false = refl

more : (xs : List Directive) (d : Directive) (acc : Option Formula) → fold joined acc (map plain_of (assumptions (xs ++ d ∷ [])))
    ≡ added (is_assumption d.kind) (fold joined acc (map plain_of (assumptions xs))) (plain_of (formula_of d.formula))
more [] d acc = last acc d (is_assumption d.kind)
more (x ∷ xs) d acc = step acc x d xs (is_assumption x.kind) (more xs d)

pub assumed-more : (xs : List Directive) (d : Directive)
    → plain_assumed (xs ++ d ∷ []) ≡ with_directive (plain_assumed xs) d
assumed-more xs d = more xs d None
