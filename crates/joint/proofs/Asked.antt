-- Formulas that have models just where there are open paths.
use Rattle.std.proofs.Common.{◌≡◌, ◌↔◌, ℕ, ℤ, List, Ok, Err, Result, sym, subst}
use Rattle.std.specs.Prelude.{IfOk}
use Rattle.clauses.specs.declared.cnf.Cnf.{Cnf}
use Rattle.clauses.specs.declared.flat.CnfFault.{CnfFault}
use Rattle.run_terms.specs.Formulas.{HasModel}

pub models-of : (some : Type 0) (variables : ℕ) (clauses : List (List ℤ)) (result : Result Cnf CnfFault) → IfOk result (λ cnf. cnf.variables ≡ variables)
    → IfOk result (λ cnf. cnf.clauses ≡ clauses) → HasModel variables clauses ↔ some → IfOk result (λ cnf. HasModel cnf.variables cnf.clauses ↔ some)
models-of some variables clauses (Ok cnf) a b models =
    subst (λ (v : ℕ). HasModel v cnf.clauses ↔ some) (sym a) (subst (λ (cs : List (List ℤ)). HasModel variables cs ↔ some) (sym b) models)
models-of some variables clauses (Err fault) a b models = tt

-- and formulas that stand for something
pub stands-of : (stands : ℕ → List (List ℤ) → Type 0) (variables : ℕ) (clauses : List (List ℤ)) (result : Result Cnf CnfFault) → IfOk result (λ cnf. cnf.variables ≡ variables)
    → IfOk result (λ cnf. cnf.clauses ≡ clauses) → stands variables clauses → IfOk result (λ cnf. stands cnf.variables cnf.clauses)
stands-of stands variables clauses (Ok cnf) a b is = subst (λ (v : ℕ). stands v cnf.clauses) (sym a) (subst (λ (cs : List (List ℤ)). stands variables cs) (sym b) is)
stands-of stands variables clauses (Err fault) a b is = tt
