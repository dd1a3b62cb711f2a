-- Sizes of formulas under what is assumed.
use Rattle.std.proofs.Common.{sym, subst, List, Option, None, Some}
use Rattle.psl_tree.specs.Plain.{plain}
use Rattle.psl_tree.specs.Trees.{Formula, And, Not, formula_of}
use Rattle.psl_tree.specs.declared.directive.Directive.{Directive}
use Rattle.psl_tree.specs.declared.directive.Kind.{Kind}
use Rattle.owed.proofs.Assumed.{owed-plain}
use Rattle.owed.specs.declared.size.Size.{Size}
use Rattle.owed.specs.Owed.{broken, plain_assumed, plain_owed, under}
use Rattle.owed.specs.Sizes.{AreSizesOf, IsSizeOf}

pub owed-size : (size : Size) (unit : List Directive) (d : Directive)
    → IsSizeOf size (under (plain_assumed unit) d.kind (plain (formula_of d.formula) None)) → IsSizeOf size (plain_owed unit d)
owed-size size unit d h = subst (λ (f : Formula). IsSizeOf size f) (sym (owed-plain unit d)) h

-- where there is a size of what is assumed, there is something that is assumed
pub sized-under : (assumed size : Size) (formulas : Option Formula) (kind : Kind) (formula : Formula) → AreSizesOf (Some assumed) formulas
    → ((others : Formula) → IsSizeOf assumed others → IsSizeOf size (Not (And others (broken kind formula))))
    → IsSizeOf size (under formulas kind formula)
sized-under assumed size None kind formula are made = absurd are
sized-under assumed size (Some others) kind formula are made = made others are
