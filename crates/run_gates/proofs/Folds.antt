-- Terms that are joined one behind another, with the literal of those before in hand.
use Rattle.std.proofs.Common.{◌≡◌, true, false, ℕ, ◌+◌, ℤ, List, [], ◌∷◌, map, length, fold, Option, Some, None, Ok, Err, refl, sym, ap, ◌∙◌, arith}
use Rattle.std.specs.Prelude.{Result, IfSome}
use Rattle.std.specs.Bool.{IsTrue}
use Rattle.std.proofs.lemmas.List.Folds.{fold-map}
use Rattle.std.proofs.lemmas.List.Sums.{sum_by-cons}
use Rattle.clauses.specs.declared.flat.CnfFault.{CnfFault}
use Rattle.clauses.specs.Literals.{is_literal}
use Rattle.gates_theory.specs.declared.circuit.Gate.{Gate}
use Rattle.gates_theory.specs.Terms.{Term, Built, built, term_size, with_conjunction}
use Rattle.gates_theory.specs.Terms.Term.{Literal, Conjunction}
use Rattle.run_gates.specs.Building.{Builds, Joins, IsTooMany, join_size, with_either}
use Rattle.run_terms.specs.Booleans.{constant, either}
use Rattle.run_terms.specs.Sizes.{terms_size}
use Rattle.run_terms.specs.Tables.{all_of, one_of}

-- two terms are joined, and how their gates are
pub record IsJoin (join : Term → Term → Term) (with_both : List Gate → ℤ → ℤ → Built) : Type 0 where
  pub built_is : (gates : List Gate) (first second : Term) → built gates (join first second)
      ≡ with_both (built (built gates first).gates second).gates (built gates first).output (built (built gates first).gates second).output
  pub size_is : (first second : Term) → term_size (join first second) ≡ term_size first + term_size second + 1

pub conjunction-join : IsJoin Conjunction with_conjunction
conjunction-join = record { built_is = λ gates first second. refl; size_is = λ first second. refl }

pub either-join : IsJoin either with_either
either-join = record { built_is = λ gates first second. refl; size_is = λ first second. refl }

abbrev pub joined : (Term → Term → Term) → Term → List Term → Term
joined join nothing [] = nothing
joined join nothing (term ∷ terms) = fold join term terms

pub all_of-joined : (literals : List ℤ) → joined Conjunction (constant true) (map Literal literals) ≡ all_of literals
all_of-joined [] = refl
all_of-joined (literal ∷ literals) = fold-map Conjunction Literal (Literal literal) literals

pub one_of-joined : (terms : List Term) → joined either (constant false) terms ≡ one_of terms
one_of-joined [] = refl
one_of-joined (term ∷ terms) = refl

abbrev step : (List Gate → ℤ → ℤ → Built) → Built → Term → Built
step with_both state term = with_both (built state.gates term).gates state.output (built state.gates term).output

folded-built : (join : Term → Term → Term) (with_both : List Gate → ℤ → ℤ → Built) → IsJoin join with_both → (gates : List Gate) (term : Term) (terms : List Term)
    → built gates (fold join term terms) ≡ fold (step with_both) (built gates term) terms
folded-built join with_both is gates term [] = refl
folded-built join with_both is gates term (other ∷ terms) =
    folded-built join with_both is gates (join term other) terms ∙ ap (λ state. fold (step with_both) state terms) (is.built_is gates term other)

folded-size : (join : Term → Term → Term) (with_both : List Gate → ℤ → ℤ → Built) → IsJoin join with_both → (term : Term) (terms : List Term)
    → term_size (fold join term terms) ≡ term_size term + (terms_size terms + length terms)
folded-size join with_both is term [] = omega arith
folded-size join with_both is term (other ∷ terms) = omega (arith, folded-size join with_both is (join term other) terms, is.size_is term other, sum_by-cons term_size other terms)

-- what is left, and how many gates it takes
abbrev rest : (Term → Term → Term) → (List Gate → ℤ → ℤ → Built) → Term → List Gate → Option ℤ → List Term → Built
rest join with_both nothing gates None terms = built gates (joined join nothing terms)
rest join with_both nothing gates (Some found) terms = fold (step with_both) (record { gates = gates; output = found }) terms

abbrev rest_size : (Term → Term → Term) → Term → Option ℤ → List Term → ℕ
rest_size join nothing None terms = term_size (joined join nothing terms)
rest_size join nothing (Some found) terms = terms_size terms + length terms

-- some terms were joined, and others are left
pub record JoinedSoFar (join : Term → Term → Term) (with_both : List Gate → ℤ → ℤ → Built) (nothing : Term) (old gates : List Gate) (found : Option ℤ) (left all : List Term) : Type 0 where
  pub built_is : rest join with_both nothing gates found left ≡ built old (joined join nothing all)
  pub size_is : length gates + rest_size join nothing found left ≡ length old + term_size (joined join nothing all)
  pub literal : IfSome found (λ literal. IsTrue (is_literal literal))

pub so_far-init : (join : Term → Term → Term) (with_both : List Gate → ℤ → ℤ → Built) (nothing : Term) (old : List Gate) (all : List Term) → JoinedSoFar join with_both nothing old old None all all
so_far-init join with_both nothing old all = record { built_is = refl; size_is = refl; literal = tt }

pub same_built : (gates : List Gate) (output : ℤ) (state : Built) → gates ≡ state.gates → output ≡ state.output → record { gates = gates; output = output } ≡ state
same_built gates output state a b =
    ap (λ (g : List Gate). let built : Built = record { gates = g; output = output } in built) a
    ∙ ap (λ (o : ℤ). let built : Built = record { gates = state.gates; output = o } in built) b

-- one term more
pub so_far-step : (join : Term → Term → Term) (with_both : List Gate → ℤ → ℤ → Built) (nothing : Term) (old gates mid new : List Gate) (found : Option ℤ) (term : Term) (output literal : ℤ) (left all : List Term)
    → IsJoin join with_both → JoinedSoFar join with_both nothing old gates found (term ∷ left) all → Builds gates mid term (Ok output) → Joins with_both mid new found output (Ok literal)
    → JoinedSoFar join with_both nothing old new (Some literal) left all
so_far-step join with_both nothing old gates mid new None term output literal left all is sofar builds joins = record {
  built_is =
      ap (λ b. fold (step with_both) b left) (same_built new literal (built gates term) (joins.gates ∙ builds.gates) (joins.output ∙ builds.output))
      ∙ sym (folded-built join with_both is gates term left)
      ∙ sofar.built_is;
  size_is = omega (arith, joins.size, builds.size, sofar.size_is, folded-size join with_both is term left);
  literal = joins.literal;
}
so_far-step join with_both nothing old gates mid new (Some found) term output literal left all is sofar builds joins = record {
  built_is =
      ap (λ b. fold (step with_both) b left) (same_built new literal (with_both mid found output) joins.gates joins.output
      ∙ ap (λ g. with_both g found output) builds.gates ∙ ap (λ o. with_both (built gates term).gates found o) builds.output)
      ∙ sofar.built_is;
  size_is = omega (arith, joins.size, builds.size, sofar.size_is, sum_by-cons term_size term left);
  literal = joins.literal;
}

-- no term is left
pub so_far-end : (join : Term → Term → Term) (with_both : List Gate → ℤ → ℤ → Built) (nothing : Term) (old gates : List Gate) (found : ℤ) (all : List Term)
    → JoinedSoFar join with_both nothing old gates (Some found) [] all → Builds old gates (joined join nothing all) (Ok found)
so_far-end join with_both nothing old gates found all sofar = record {
  gates = ap (λ (b : Built). b.gates) sofar.built_is;
  output = ap (λ (b : Built). b.output) sofar.built_is;
  literal = sofar.literal;
  size = omega (arith, sofar.size_is);
  large = tt;
}

pub so_far-none : (join : Term → Term → Term) (with_both : List Gate → ℤ → ℤ → Built) (nothing : Term) (old gates new : List Gate) (all : List Term) (result : Result ℤ CnfFault)
    → JoinedSoFar join with_both nothing old gates None [] all → Builds gates new nothing result → Builds old new (joined join nothing all) result
so_far-none join with_both nothing old gates new all (Ok output) sofar builds = record {
  gates = builds.gates ∙ ap (λ (b : Built). b.gates) sofar.built_is;
  output = builds.output ∙ ap (λ (b : Built). b.output) sofar.built_is;
  literal = builds.literal;
  size = omega (arith, sofar.size_is, builds.size);
  large = tt;
}
so_far-none join with_both nothing old gates new all (Err fault) sofar builds =
    record { gates = tt; output = tt; literal = tt; size = tt; large = λ is. omega (arith, builds.large is, sofar.size_is) }

-- there are too many gates with a part of what is left
pub so_far-large : (join : Term → Term → Term) (with_both : List Gate → ℤ → ℤ → Built) (nothing : Term) (old gates new : List Gate) (found : Option ℤ) (term : Term) (left all : List Term) (fault : CnfFault)
    → IsJoin join with_both → JoinedSoFar join with_both nothing old gates found (term ∷ left) all
    → (fault ≡ CnfFault.TooLarge → IsTooMany (length gates) (term_size term + join_size found)) → Builds old new (joined join nothing all) (Err fault)
so_far-large join with_both nothing old gates new None term left all fault is sofar large =
    record { gates = tt; output = tt; literal = tt; size = tt; large = λ e. omega (arith, large e, sofar.size_is, folded-size join with_both is term left) }
so_far-large join with_both nothing old gates new (Some found) term left all fault is sofar large =
    record { gates = tt; output = tt; literal = tt; size = tt; large = λ e. omega (arith, large e, sofar.size_is, sum_by-cons term_size term left) }

-- nothing is joined to a term alone
pub literal-builds : (gates : List Gate) (literal : ℤ) → IsTrue (is_literal literal) → Builds gates gates (Literal literal) (Ok literal)
literal-builds gates literal within = record { gates = refl; output = refl; literal = within; size = omega arith; large = tt }

-- the fault of one term of those that are left
pub so_far-term : (join : Term → Term → Term) (with_both : List Gate → ℤ → ℤ → Built) (nothing : Term) (old gates mid : List Gate) (found : Option ℤ) (term : Term) (left all : List Term) (fault : CnfFault)
    → IsJoin join with_both → JoinedSoFar join with_both nothing old gates found (term ∷ left) all → Builds gates mid term (Err fault) → Builds old mid (joined join nothing all) (Err fault)
so_far-term join with_both nothing old gates mid found term left all fault is sofar failed =
    so_far-large join with_both nothing old gates mid found term left all fault is sofar (λ e. omega (arith, failed.large e))

-- the fault of joining a term
pub so_far-join : (join : Term → Term → Term) (with_both : List Gate → ℤ → ℤ → Built) (nothing : Term) (old gates mid new : List Gate) (found : Option ℤ) (term : Term) (output : ℤ) (left all : List Term) (fault : CnfFault)
    → IsJoin join with_both → JoinedSoFar join with_both nothing old gates found (term ∷ left) all → Builds gates mid term (Ok output) → Joins with_both mid new found output (Err fault)
    → Builds old new (joined join nothing all) (Err fault)
so_far-join join with_both nothing old gates mid new found term output left all fault is sofar builds failed =
    so_far-large join with_both nothing old gates new found term left all fault is sofar (λ e. omega (arith, failed.large e, builds.size))
