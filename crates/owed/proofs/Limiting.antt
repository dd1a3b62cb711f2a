-- What is owed of a directive passes one limit first, or none.
use Rattle.std.proofs.Common.{◌≡◌, refl, ℕ, arith}
use Rattle.netlist.specs.Design.{Design}
use Rattle.owed.specs.Sized.{IsRefused, IsSized}
use Rattle.psl_tree.specs.declared.limit.Limit.{Limit}
use Rattle.psl_tree.specs.declared.limit.Limit.TheVariants.{Sere, Automaton, Unroll, Formula as OfFormula}
use Rattle.psl_tree.specs.Trees.{Formula}

module _ (design : Design) (depth : ℕ) (formula : Formula) where
  pub not_sized : (limit : Limit) → IsSized design depth formula → IsRefused design depth formula limit → ⊥
  not_sized Sere sized is = sized.sequences is
  not_sized Automaton sized is = let le = sized.obligations in let lt = is.1 in omega arith
  not_sized Unroll sized is = let le = sized.unrolled in let lt = is.2 in omega arith
  not_sized OfFormula sized is = is

  pub one_limit : (f g : Limit) → IsRefused design depth formula f → IsRefused design depth formula g → f ≡ g
  one_limit Sere Sere r s = refl
  one_limit Sere Automaton r s = absurd (s.0 r)
  one_limit Sere Unroll r s = absurd (s.0 r)
  one_limit Sere OfFormula r s = absurd s
  one_limit Automaton Sere r s = absurd (r.0 s)
  one_limit Automaton Automaton r s = refl
  one_limit Automaton Unroll r s = absurd (let lt = r.1 in let le = s.1 in omega arith)
  one_limit Automaton OfFormula r s = absurd s
  one_limit Unroll Sere r s = absurd (r.0 s)
  one_limit Unroll Automaton r s = absurd (let le = r.1 in let lt = s.1 in omega arith)
  one_limit Unroll Unroll r s = refl
  one_limit Unroll OfFormula r s = absurd s
  one_limit OfFormula g r s = absurd r
