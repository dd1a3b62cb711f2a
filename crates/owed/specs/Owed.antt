-- What is owed of a directive under the assumptions of its text: of an assertion its formula, and of a cover that it is not
-- met.
use Rattle.std.specs.Prelude.{Bool as Truth, true, false, if◌then◌else◌, List, [], ◌∷◌, map, fold, Option, None, Some}
use Rattle.psl_tree.specs.Plain.{plain}
use Rattle.psl_tree.specs.Trees.{Formula, Not, And, formula_of}
use Rattle.psl_tree.specs.declared.directive.Directive.{Directive}
use Rattle.psl_tree.specs.declared.directive.Kind.{Kind}
use Rattle.psl_tree.specs.declared.directive.Kind.TheVariants.{Assert, Assume, Cover}

-- which directives are asked: assertions, and covers where these are to be
abbrev pub is_asked : Truth → Kind → Truth
is_asked covers Assert = true
is_asked covers Assume = false
is_asked covers Cover = covers

abbrev pub is_assumption : Kind → Truth
is_assumption Assert = false
is_assumption Assume = true
is_assumption Cover = false

-- the formulas of the assumptions, in the order of the text
abbrev pub assumptions : List Directive → List Formula
assumptions [] = []
assumptions (directive ∷ directives) =
    if is_assumption directive.kind then formula_of directive.formula ∷ assumptions directives else assumptions directives

-- a formula more in a conjunction, which may be none yet
abbrev pub joined : Option Formula → Formula → Option Formula
joined None formula = Some formula
joined (Some others) formula = Some (And others formula)

-- the conjunction of formulas, from the left; none of no formula
abbrev pub conjunction : List Formula → Option Formula
conjunction formulas = fold joined None formulas

-- what a directive claims of each run: that it satisfies its formula, and of a cover that it does not
abbrev pub claimed : Kind → Formula → Formula
claimed Assert formula = formula
claimed Assume formula = formula
claimed Cover formula = Not formula

-- what a run satisfies that breaks the claim
abbrev pub broken : Kind → Formula → Formula
broken Assert formula = Not formula
broken Assume formula = Not formula
broken Cover formula = formula

-- the claim, which has to hold where what is assumed does
abbrev pub under : Option Formula → Kind → Formula → Formula
under None kind formula = claimed kind formula
under (Some assumed) kind formula = Not (And assumed (broken kind formula))

-- the conjunction of a text's assumptions with their clocks rewritten away, where no clock is in force
abbrev pub plain_assumed : List Directive → Option Formula
plain_assumed unit = conjunction (map (λ formula. plain formula None) (assumptions unit))

-- that of one directive more
abbrev pub with_directive : Option Formula → Directive → Option Formula
with_directive others directive =
    if is_assumption directive.kind then joined others (plain (formula_of directive.formula) None) else others

-- what is owed of a directive of a text
abbrev pub owed : List Directive → Directive → Formula
owed unit directive = under (conjunction (assumptions unit)) directive.kind (formula_of directive.formula)

-- the same with its clocks rewritten away, where no clock is in force
abbrev pub plain_owed : List Directive → Directive → Formula
plain_owed unit directive = plain (owed unit directive) None
