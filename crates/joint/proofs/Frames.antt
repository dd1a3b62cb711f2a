-- Gates of a term of which one part was built before.
use Rattle.std.proofs.Common.{◌≡◌, ◌+◌, ℤ, List, [], ◌∷◌, Ok, Err, refl, sym, ap, ◌∙◌, pos, arith}
use Rattle.std.specs.Prelude.{Result}
use Rattle.clauses.specs.declared.flat.CnfFault.{CnfFault}
use Rattle.gates_theory.specs.declared.circuit.Gate.{Gate}
use Rattle.gates_theory.specs.Terms.{Term, Built, built, term_size}
use Rattle.gates_theory.specs.Terms.Term.{Literal, Equality}
use Rattle.run_gates.specs.Building.{Builds, BuildsAll, Holding, Holds}
use Rattle.run_gates.proofs.Terms.{held-end, held-hold, held-init, held-step, held-term}
use Rattle.run_terms.specs.Booleans.{either}
use Rattle.run_terms.specs.Tables.{guarded}

-- a part of a term is built first, and the rest of its literal
pub record IsFrame (frame : Term → Term) : Type 0 where
  pub built_is : (gates : List Gate) (term : Term) → built gates (frame term) ≡ built (built gates term).gates (frame (Literal (built gates term).output))
  pub size_is : (term : Term) (literal : ℤ) → term_size (frame term) ≡ term_size term + term_size (frame (Literal literal))

pub guarded-frame : (guard : ℤ) → IsFrame (guarded guard)
guarded-frame guard = record { built_is = λ gates term. refl; size_is = λ term literal. omega arith }

pub either-frame : (first : ℤ) → IsFrame (either (Literal first))
either-frame first = record { built_is = λ gates term. refl; size_is = λ term literal. omega arith }

pub equality-frame : (first : ℤ) → IsFrame (Equality (Literal first))
equality-frame first = record { built_is = λ gates term. refl; size_is = λ term literal. omega arith }

pub frame-then : (frame : Term → Term) → IsFrame frame → (old mid new : List Gate) (term : Term) (literal : ℤ) (result : Result ℤ CnfFault)
    → Builds old mid term (Ok literal) → Builds mid new (frame (Literal literal)) result → Builds old new (frame term) result
frame-then frame is old mid new term literal (Ok output) first second =
    let e : built mid (frame (Literal literal)) ≡ built old (frame term) =
    ap (λ (g : List Gate). built g (frame (Literal literal))) first.gates
    ∙ ap (λ (l : ℤ). built (built old term).gates (frame (Literal l))) first.output ∙ sym (is.built_is old term) in
    record {
      gates = second.gates ∙ ap (λ (b : Built). b.gates) e;
      output = second.output ∙ ap (λ (b : Built). b.output) e;
      literal = second.literal;
      size = omega (arith, first.size, second.size, is.size_is term literal);
      large = tt;
    }
frame-then frame is old mid new term literal (Err fault) first second =
    record { gates = tt; output = tt; literal = tt; size = tt; large = λ e. omega (arith, second.large e, first.size, is.size_is term literal) }

pub frame-first : (frame : Term → Term) → IsFrame frame → (old mid : List Gate) (term : Term) (fault : CnfFault)
    → Builds old mid term (Err fault) → Builds old mid (frame term) (Err fault)
frame-first frame is old mid term fault first =
    record { gates = tt; output = tt; literal = tt; size = tt; large = λ e. omega (arith, first.large e, is.size_is term (pos 0)) }

-- one term that is built and then held
pub held-one : (gates mid new : List Gate) (held new_held : Holding) (term : Term) (output : ℤ) (result : Result (Unit {0}) CnfFault)
    → Builds gates mid term (Ok output) → Holds mid new held new_held output result → BuildsAll gates new held new_held (term ∷ []) result
held-one gates mid new held new_held term output (Ok done) builds holds =
    held-end gates new held new_held (term ∷ []) (held-step gates gates mid new held held new_held term [] (term ∷ []) output (held-init gates held (term ∷ [])) builds holds)
held-one gates mid new held new_held term output (Err fault) builds failed =
    held-hold gates gates mid new held held new_held term [] (term ∷ []) output fault (held-init gates held (term ∷ [])) builds failed

pub held-none : (gates mid : List Gate) (held new_held : Holding) (term : Term) (fault : CnfFault)
    → Builds gates mid term (Err fault) → BuildsAll gates mid held new_held (term ∷ []) (Err fault)
held-none gates mid held new_held term fault failed =
    held-term gates gates mid held held new_held term [] (term ∷ []) fault (held-init gates held (term ∷ [])) failed
