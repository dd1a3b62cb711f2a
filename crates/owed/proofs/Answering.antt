-- What holds of a formula that is what is owed, and of the automaton of its violations.
use Rattle.std.proofs.Common.{◌≡◌, sym, subst, ◌∙◌, ap, Bool as Truth, true, false, if◌then◌else◌, List, [], ◌∷◌, fold, take, ◌+◌, ◌<◌, ◌++◌, length, ℕ, get_or, Option, None, Some, All}
use Rattle.std.proofs.lemmas.List.{take_more}
use Rattle.std.proofs.lemmas.List.Elements.{All-head, All-tail}
use Rattle.alternating.proofs.Tested.{built-has}
use Rattle.alternating_theory.specs.Atoms.{AtomsOfObligations}
use Rattle.alternating_theory.proofs.Negations.{opposite_built}
use Rattle.alternating_theory.specs.Dual.{opposite_automaton}
use Rattle.alternating_theory.specs.Built.{built}
use Rattle.alternating_theory.specs.Obligations.{Automaton}
use Rattle.clock_rewrite.proofs.Atoms.{formula-atoms}
use Rattle.clock_rewrite.proofs.Clockless.{plain_plain}
use Rattle.clock_rewrite.proofs.Meaning.{plain_words}
use Rattle.clock_rewrite.specs.Clock.{HasSameWords}
use Rattle.psl_tree.specs.Clockless.{IsPlain}
use Rattle.psl_tree.specs.Plain.{plain}
use Rattle.psl_tree.specs.Atoms.{AtomsOfFormula}
use Rattle.psl_tree.specs.Names.{AtomInRange}
use Rattle.psl_tree.specs.Trees.{Formula, Not, formula_of}
use Rattle.psl_tree.specs.declared.atom.Atom.{Atom}
use Rattle.psl_tree.specs.declared.directive.Directive.{Directive}
use Rattle.psl_tree.specs.declared.directive.Kind.{Kind}
use Rattle.psl_tree.specs.declared.directive.Kind.TheVariants.{Assert, Assume, Cover}
use Rattle.owed.proofs.Assumed.{assumed-more, owed-plain}
use Rattle.owed.proofs.Violating.{violations-loops}
use Rattle.owed.specs.Laws.{IsInRangeOf}
use Rattle.owed.specs.Owed.{is_assumption, assumptions, broken, claimed, joined, conjunction, under, owed, plain_owed, plain_assumed, with_directive}
use Rattle.owed.specs.Violations.{violation_of, AcceptsViolations, TestsNamesOf}

pub assumed-next : (unit : List Directive) (i : ℕ) (d : Directive) → i < length unit → d ≡ get_or unit i d
    → plain_assumed (take (i + 1) unit) ≡ with_directive (plain_assumed (take i unit)) d
assumed-next unit i d within is =
    ap plain_assumed (take_more unit i d within ∙ ap (λ e. take i unit ++ e ∷ []) (sym is)) ∙ assumed-more (take i unit) d

pub owed-under : (new f : Formula) (c : Option Formula) (unit : List Directive) (d : Directive) → new ≡ under c d.kind f
    → c ≡ plain_assumed unit → f ≡ plain (formula_of d.formula) None → new ≡ plain_owed unit d
owed-under new f c unit d e assumed is =
    e ∙ ap (λ b. under b d.kind f) assumed ∙ ap (λ g. under (plain_assumed unit) d.kind g) is ∙ sym (owed-plain unit d)

pub owed-clockless : (f : Formula) (unit : List Directive) (d : Directive) → f ≡ plain_owed unit d → IsPlain f
owed-clockless f unit d e = subst (λ (g : Formula). IsPlain g) (sym e) (plain_plain (owed unit d) None)

pub owed-words : (f : Formula) (unit : List Directive) (d : Directive) → f ≡ plain_owed unit d → HasSameWords f (owed unit d) None
owed-words f unit d e = subst (λ (g : Formula). HasSameWords g (owed unit d) None) (sym e) (plain_words (owed unit d) None)

-- atoms of the conjunction, where there is one
AtomsIn : (Atom → Type 0) → Option Formula → Type 0
AtomsIn P None = Unit {0}
AtomsIn P (Some f) = AtomsOfFormula P f

joined-atoms : (P : Atom → Type 0) (acc : Option Formula) (f : Formula) → AtomsIn P acc → AtomsOfFormula P f → AtomsIn P (joined acc f)
unfolding AtomsIn
joined-atoms P None f a h = h
joined-atoms P (Some g) f a h = (a, h)

chosen-atoms : (P : Atom → Type 0) (t : Truth) (acc : Option Formula) (f : Formula) (fs : List Formula) → AtomsIn P acc → AtomsOfFormula P f
    → ((b : Option Formula) → AtomsIn P b → AtomsIn P (fold joined b fs)) → AtomsIn P (fold joined acc (if t then f ∷ fs else fs))
chosen-atoms P true acc f fs a h rest = rest (joined acc f) (joined-atoms P acc f a h)
chosen-atoms P false acc f fs a h rest = rest acc a

fold-atoms : (P : Atom → Type 0) (unit : List Directive) (acc : Option Formula) → AtomsIn P acc
    → All (λ d. AtomsOfFormula P (formula_of d.formula)) unit → AtomsIn P (fold joined acc (assumptions unit))
fold-atoms P [] acc a h = a
fold-atoms P (d ∷ ds) acc a h =
    chosen-atoms P (is_assumption d.kind) acc (formula_of d.formula) (assumptions ds) a
    (All-head (λ d. AtomsOfFormula P (formula_of d.formula)) d ds h)
    (λ b k. fold-atoms P ds b k (All-tail (λ d. AtomsOfFormula P (formula_of d.formula)) d ds h))

claimed-atoms : (P : Atom → Type 0) (k : Kind) (f : Formula) → AtomsOfFormula P f → AtomsOfFormula P (claimed k f)
claimed-atoms P Assert f h = h
claimed-atoms P Assume f h = h
claimed-atoms P Cover f h = h

broken-atoms : (P : Atom → Type 0) (k : Kind) (f : Formula) → AtomsOfFormula P f → AtomsOfFormula P (broken k f)
broken-atoms P Assert f h = h
broken-atoms P Assume f h = h
broken-atoms P Cover f h = h

under-atoms : (P : Atom → Type 0) (c : Option Formula) (k : Kind) (f : Formula) → AtomsIn P c → AtomsOfFormula P f
    → AtomsOfFormula P (under c k f)
unfolding AtomsIn
under-atoms P None k f a h = claimed-atoms P k f h
under-atoms P (Some g) k f a h = (a, broken-atoms P k f h)

none-atoms : (P : Atom → Type 0) → AtomsIn P None
unfolding AtomsIn
none-atoms P = tt

plain_owed-atoms : (P : Atom → Type 0) (unit : List Directive) (d : Directive)
    → All (λ d. AtomsOfFormula P (formula_of d.formula)) unit → AtomsOfFormula P (formula_of d.formula) → AtomsOfFormula P (plain_owed unit d)
plain_owed-atoms P unit d all own =
    formula-atoms P (owed unit d) None
    (under-atoms P (conjunction (assumptions unit)) d.kind (formula_of d.formula) (fold-atoms P unit None (none-atoms P) all) own) tt

pub owed-in_range : (f : Formula) (unit : List Directive) (d : Directive) → f ≡ plain_owed unit d → IsInRangeOf unit d f
owed-in_range f unit d e names all own =
    subst (λ (g : Formula). AtomsOfFormula (AtomInRange names) g) (sym e) (plain_owed-atoms (AtomInRange names) unit d all own)

-- the automaton of the violations
pub dual-is : (a b : Automaton) (f : Formula) (unit : List Directive) (d : Directive) → b ≡ opposite_automaton a → a ≡ built f
    → f ≡ plain_owed unit d → b ≡ violation_of unit d
dual-is a b f unit d dual is owes = dual ∙ ap opposite_automaton is ∙ ap (λ g. opposite_automaton (built g)) owes

pub dual-loops : (b : Automaton) (unit : List Directive) (d : Directive) → b ≡ violation_of unit d → AcceptsViolations b unit d
dual-loops b unit d e = subst (λ (a : Automaton). AcceptsViolations a unit d) (sym e) (violations-loops unit d)

pub dual-in_range : (b : Automaton) (unit : List Directive) (d : Directive) → b ≡ violation_of unit d → TestsNamesOf unit d b
dual-in_range b unit d e names all own =
    subst (λ (a : Automaton). AtomsOfObligations (AtomInRange names) a.obligations)
    (sym (e ∙ opposite_built (plain_owed unit d) (plain_plain (owed unit d) None)))
    (built-has (AtomInRange names) (Not (plain_owed unit d)) (plain_owed-atoms (AtomInRange names) unit d all own))
