-- Terms that begin with another one, whose gates come first: what nothing asks for.
use Rattle.std.proofs.Common.{◌≡◌, refl, sym, ap, ◌∙◌, subst, ℕ, ◌+◌, ◌<◌, ℤ, List, [], ◌∷◌, ◌++◌, take, drop, length, get_or, pos, Ok, Err, arith}
use Rattle.std.specs.Prelude.{Result}
use Rattle.std.proofs.lemmas.List.{take-append-drop}
use Rattle.std.proofs.lemmas.List.Sums.{fold-append, fold_more}
use Rattle.alternating_theory.specs.Obligations.{Automaton}
use Rattle.clauses.specs.declared.flat.CnfFault.{CnfFault}
use Rattle.gates_theory.specs.declared.circuit.Gate.{Gate}
use Rattle.gates_theory.specs.Terms.{built, term_size, Term}
use Rattle.gates_theory.specs.Terms.Term.{Conjunction, Literal, Negation}
use Rattle.netlist.specs.Design.{Design}
use Rattle.run_gates.specs.Building.{Builds}
use Rattle.run_gates.proofs.Folds.{same_built}
use Rattle.joint_theory.specs.Guards.{guards, Guard, Always}
use Rattle.joint_theory.specs.Relation.{asking_term, unasked, unless_asking}
use Rattle.joint_theory.specs.States.{delta_of}

-- with the literal of its first term in hand, the gates that are left are the same
pub record IsChain (term : Term → Term) : Type 0 where
  pub built_is : (gates : List Gate) (first : Term) → built gates (term first) ≡ built (built gates first).gates (term (Literal (built gates first).output))
  pub size_is : (first : Term) (literal : ℤ) → term_size (term first) ≡ term_size first + term_size (term (Literal literal))

chain-none : IsChain (λ first. first)
chain-none = record {
  built_is = λ gates first. sym (same_built (built gates first).gates (built gates first).output (built gates first) refl refl);
  size_is = λ first literal. omega arith;
}

chain-one : (other : Term) → IsChain (λ first. Conjunction first other)
chain-one other = record { built_is = λ gates first. refl; size_is = λ first literal. omega arith }

chain-then : (front back : Term → Term) → IsChain front → IsChain back → IsChain (λ first. back (front first))
chain-then front back a b = record {
  built_is = λ gates first.
      b.built_is gates (front first)
      ∙ ap (λ state. built state.gates (back (Literal state.output))) (a.built_is gates first)
      ∙ sym (b.built_is (built gates first).gates (front (Literal (built gates first).output)));
  size_is = λ first literal.
      omega (arith, b.size_is (front first) literal, a.size_is first literal, b.size_is (front (Literal literal)) literal);
}

pub unless-chain : (design : Design) (asker : ℤ) (list : List Guard) → IsChain (λ first. unless_asking design asker first list)
unless-chain design asker [] = chain-none
unless-chain design asker (guard ∷ list) =
    chain-then (λ first. Conjunction first (Negation (asking_term design asker guard))) (λ first. unless_asking design asker first list)
    (chain-one (Negation (asking_term design asker guard))) (unless-chain design asker list)

pub unasked-chain : (design : Design) (automaton : Automaton) (bit : ℕ → ℤ) (number : ℕ) (numbers : List ℕ) → IsChain (λ first. unasked design automaton bit number first numbers)
unasked-chain design automaton bit number [] = chain-none
unasked-chain design automaton bit number (asker ∷ numbers) =
    chain-then (λ first. unless_asking design (bit asker) first (guards Always (delta_of automaton asker) number)) (λ first. unasked design automaton bit number first numbers)
    (unless-chain design (bit asker) (guards Always (delta_of automaton asker) number)) (unasked-chain design automaton bit number numbers)

-- the first term, and then what is left
pub chain-builds : (term : Term → Term) → IsChain term → (old mid new : List Gate) (first : Term) (literal : ℤ) (result : Result ℤ CnfFault)
    → Builds old mid first (Ok literal) → Builds mid new (term (Literal literal)) result → Builds old new (term first) result
chain-builds term is old mid new first literal (Ok output) one two =
    let e : built mid (term (Literal literal)) ≡ built old (term first) =
    ap (λ (gates : List Gate). built gates (term (Literal literal))) one.gates
    ∙ ap (λ (l : ℤ). built (built old first).gates (term (Literal l))) one.output ∙ sym (is.built_is old first) in
    record {
      gates = two.gates ∙ ap (λ state. state.gates) e;
      output = two.output ∙ ap (λ state. state.output) e;
      literal = two.literal;
      size = omega (arith, one.size, two.size, is.size_is first literal);
      large = tt;
    }
chain-builds term is old mid new first literal (Err fault) one two =
    record { gates = tt; output = tt; literal = tt; size = tt; large = λ e. omega (arith, one.size, two.large e, is.size_is first literal) }

-- the first term is too large
pub chain-fails : (term : Term → Term) → IsChain term → (old mid : List Gate) (first : Term) (fault : CnfFault) → Builds old mid first (Err fault) → Builds old mid (term first) (Err fault)
chain-fails term is old mid first fault failed =
    record { gates = tt; output = tt; literal = tt; size = tt; large = λ e. omega (arith, failed.large e, is.size_is first (pos 1)) }

-- the guards of two combinations
module _ (design : Design) (asker : ℤ) (front back : List Guard) (old mid : List Gate) (first : Term) where
  together : unless_asking design asker (unless_asking design asker first front) back ≡ unless_asking design asker first (front ++ back)
  together = sym (fold-append (λ (other : Term) (guard : Guard). Conjunction other (Negation (asking_term design asker guard))) first front back)

  pub guards-build : (new : List Gate) (literal : ℤ) (result : Result ℤ CnfFault) → Builds old mid (unless_asking design asker first front) (Ok literal)
      → Builds mid new (unless_asking design asker (Literal literal) back) result → Builds old new (unless_asking design asker first (front ++ back)) result
  guards-build new literal result one two =
      subst (λ (t : Term). Builds old new t result) together
      (chain-builds (λ t. unless_asking design asker t back) (unless-chain design asker back) old mid new (unless_asking design asker first front) literal result one two)

  pub guards-fail : (fault : CnfFault) → Builds old mid (unless_asking design asker first front) (Err fault) → Builds old mid (unless_asking design asker first (front ++ back)) (Err fault)
  guards-fail fault failed =
      subst (λ (t : Term). Builds old mid t (Err fault)) together
      (chain-fails (λ t. unless_asking design asker t back) (unless-chain design asker back) old mid (unless_asking design asker first front) fault failed)

-- the obligations that ask
module _ (design : Design) (automaton : Automaton) (bit : ℕ → ℤ) (number : ℕ) (first : Term) (askers : List ℕ) (i : ℕ) (below : i < length askers)
    (old mid new : List Gate) (literal : ℤ) where
  abbrev asker : ℕ
  asker = get_or askers i 0

  abbrev list : List Guard
  list = guards Always (delta_of automaton (get_or askers i 0)) number

  pub asker-builds : (result : Result ℤ CnfFault) → Builds old mid (unasked design automaton bit number first (take i askers)) (Ok literal)
      → Builds mid new (unless_asking design (bit (get_or askers i 0)) (Literal literal) list) result
      → Builds old new (unasked design automaton bit number first (take (i + 1) askers)) result
  asker-builds result one two =
      subst (λ (t : Term). Builds old new t result)
      (sym (fold_more (λ (other : Term) (by : ℕ). unless_asking design (bit by) other (guards Always (delta_of automaton by) number)) first askers i 0 below))
      (chain-builds (λ t. unless_asking design (bit (get_or askers i 0)) t list) (unless-chain design (bit (get_or askers i 0)) list) old mid new
      (unasked design automaton bit number first (take i askers)) literal result one two)

  pub asker-fails : (fault : CnfFault) → Builds old mid (unasked design automaton bit number first (take i askers)) (Ok literal)
      → Builds mid new (unless_asking design (bit (get_or askers i 0)) (Literal literal) list) (Err fault)
      → Builds old new (unasked design automaton bit number first askers) (Err fault)
  asker-fails fault one two =
      subst (λ (t : Term). Builds old new t (Err fault))
      (sym (fold-append (λ (other : Term) (by : ℕ). unless_asking design (bit by) other (guards Always (delta_of automaton by) number)) first (take (i + 1) askers) (drop (i + 1) askers))
      ∙ ap (λ (numbers : List ℕ). unasked design automaton bit number first numbers) (take-append-drop (i + 1) askers))
      (chain-fails (λ t. unasked design automaton bit number t (drop (i + 1) askers)) (unasked-chain design automaton bit number (drop (i + 1) askers)) old new
      (unasked design automaton bit number first (take (i + 1) askers)) fault (asker-builds (Err fault) one two))
