-- Terms whose gates are added one behind another, and whose literals are held.
use Rattle.std.proofs.Common.{◌≡◌, ℕ, suc, ◌+◌, ◌-◌, ◌<◌, ℤ, List, [], ◌∷◌, ◌++◌, length, map, drop, get_or, Option, Some, None, Ok, Err, refl, sym, ap, ◌∙◌, arith, append_assoc}
use Rattle.std.specs.Prelude.{Result}
use Rattle.std.specs.List.{range_with_len}
use Rattle.std.proofs.lemmas.List.{append-nil, drop_more, map-append}
use Rattle.std.proofs.lemmas.List.Sums.{sum_by-cons, sum_by-append}
use Rattle.std.specs.Bool.{IsTrue}
use Rattle.clauses.specs.Literals.{is_literal}
use Rattle.clauses.specs.declared.flat.CnfFault.{CnfFault}
use Rattle.gates_theory.specs.declared.circuit.Gate.{Gate}
use Rattle.gates_theory.specs.Terms.{Term, Built, built, built_all, term_size}
use Rattle.gates_theory.specs.Terms.Term.{Literal}
use Rattle.run_gates.specs.Building.{keep_at, kept, kept_all, join_size, Builds, BuildsAll, Holding, Holds}
use Rattle.run_gates.proofs.Folds.{same_built, literal-builds}
use Rattle.run_terms.specs.Sizes.{terms_size}
use Rattle.run_terms.specs.Tables.{guarded}

-- one term more under a guard, if there is one
pub kept-cons : (guard : Option ℤ) (term : Term) (terms : List Term) → kept_all guard (term ∷ terms) ≡ kept guard term ∷ kept_all guard terms
kept-cons None term terms = refl
kept-cons (Some guard) term terms = refl

kept-append : (guard : Option ℤ) (front back : List Term) → kept_all guard (front ++ back) ≡ kept_all guard front ++ kept_all guard back
kept-append None front back = refl
kept-append (Some guard) front back = map-append (guarded guard) front back

kept-nil : (guard : Option ℤ) → kept_all guard [] ≡ []
kept-nil None = refl
kept-nil (Some guard) = refl

-- a literal that counts under the guard is that of the term under it
kept-built : (gates mid : List Gate) (guard : Option ℤ) (term : Term) (literal : ℤ) → mid ≡ (built gates term).gates → literal ≡ (built gates term).output
    → keep_at mid guard literal ≡ built gates (kept guard term)
kept-built gates mid None term literal a b = same_built mid literal (built gates term) a b
kept-built gates mid (Some guard) term literal a b =
    ap (λ g. keep_at g (Some guard) literal) a ∙ ap (λ o. keep_at (built gates term).gates (Some guard) o) b

kept-size : (guard : Option ℤ) (term : Term) → term_size (kept guard term) ≡ term_size term + join_size guard
kept-size None term = omega arith
kept-size (Some guard) term = omega arith

-- some terms were added, and others are left
pub record HeldSoFar (old gates : List Gate) (old_held held : Holding) (left all : List Term) : Type 0 where
  pub guard_is : held.guard ≡ old_held.guard
  pub gates_are : (built_all gates (kept_all old_held.guard left)).gates ≡ (built_all old (kept_all old_held.guard all)).gates
  pub held_are : held.literals ++ (built_all gates (kept_all old_held.guard left)).outputs
      ≡ old_held.literals ++ (built_all old (kept_all old_held.guard all)).outputs
  pub size_is : length gates + terms_size (kept_all old_held.guard left) ≡ length old + terms_size (kept_all old_held.guard all)

pub held-init : (old : List Gate) (held : Holding) (all : List Term) → HeldSoFar old old held held all all
held-init old held all = record { guard_is = refl; gates_are = refl; held_are = refl; size_is = refl }

pub held-step : (old gates mid new : List Gate) (old_held held new_held : Holding) (term : Term) (left all : List Term) (output : ℤ)
    → HeldSoFar old gates old_held held (term ∷ left) all → Builds gates mid term (Ok output) → Holds mid new held new_held output (Ok tt) → HeldSoFar old new old_held new_held left all
held-step old gates mid new old_held held new_held term left all output sofar builds holds =
    let guard = old_held.guard in
    let rest = kept_all guard left in
    let here : keep_at mid held.guard output ≡ built gates (kept guard term) =
    ap (λ g. keep_at mid g output) sofar.guard_is ∙ kept-built gates mid guard term output builds.gates builds.output in
    let gates_is : new ≡ (built gates (kept guard term)).gates = holds.gates ∙ ap (λ (b : Built). b.gates) here in
    let output_is : (keep_at mid held.guard output).output ≡ (built gates (kept guard term)).output = ap (λ (b : Built). b.output) here in
    let before = rw (kept-cons guard term left) at sofar.held_are in
    let gates_before = rw (kept-cons guard term left) at sofar.gates_are in
    record {
      guard_is = holds.guard ∙ sofar.guard_is;
      gates_are = ap (λ g. (built_all g rest).gates) gates_is ∙ gates_before;
      held_are =
          ap (λ h. h ++ (built_all new rest).outputs) holds.held
          ∙ append_assoc held.literals ((keep_at mid held.guard output).output ∷ []) (built_all new rest).outputs
          ∙ ap (λ o. held.literals ++ o ∷ (built_all new rest).outputs) output_is
          ∙ ap (λ g. held.literals ++ (built gates (kept guard term)).output ∷ (built_all g rest).outputs) gates_is
          ∙ before;
      size_is =
          omega (arith, sofar.size_is, builds.size, holds.size, ap join_size sofar.guard_is, ap terms_size (kept-cons guard term left), sum_by-cons term_size (kept guard term) rest, kept-size guard term);
    }

pub held-end : (old gates : List Gate) (old_held held : Holding) (all : List Term) → HeldSoFar old gates old_held held [] all → BuildsAll old gates old_held held all (Ok tt)
held-end old gates old_held held all sofar =
    let none = kept-nil old_held.guard in
    let are = rw none at sofar.held_are in
    record {
      gates = rw none at sofar.gates_are;
      held = sym (append-nil held.literals) ∙ are;
      guard = sofar.guard_is;
      size = omega (arith, sofar.size_is, ap terms_size none);
      large = tt;
    }

-- the fault of one term of those that are left
pub held-term : (old gates mid : List Gate) (old_held held new_held : Holding) (term : Term) (left all : List Term) (fault : CnfFault)
    → HeldSoFar old gates old_held held (term ∷ left) all → Builds gates mid term (Err fault) → BuildsAll old mid old_held new_held all (Err fault)
held-term old gates mid old_held held new_held term left all fault sofar failed =
    let guard = old_held.guard in
    record {
      gates = tt;
      held = tt;
      guard = tt;
      size = tt;
      large = λ e.
          omega (arith, failed.large e, sofar.size_is, ap terms_size (kept-cons guard term left), sum_by-cons term_size (kept guard term) (kept_all guard left), kept-size guard term);
    }

-- the fault of holding one
pub held-hold : (old gates mid new : List Gate) (old_held held new_held : Holding) (term : Term) (left all : List Term) (output : ℤ) (fault : CnfFault)
    → HeldSoFar old gates old_held held (term ∷ left) all → Builds gates mid term (Ok output) → Holds mid new held new_held output (Err fault) → BuildsAll old new old_held new_held all (Err fault)
held-hold old gates mid new old_held held new_held term left all output fault sofar builds failed =
    let guard = old_held.guard in
    record {
      gates = tt;
      held = tt;
      guard = tt;
      size = tt;
      large = λ e.
          omega (arith, failed.large e, builds.size, sofar.size_is, ap join_size sofar.guard_is, ap terms_size (kept-cons guard term left), sum_by-cons term_size (kept guard term) (kept_all guard left), kept-size guard term);
    }

built_all-append : (gates : List Gate) (front back : List Term)
    → ((built_all gates (front ++ back)).gates ≡ (built_all (built_all gates front).gates back).gates)
    × ((built_all gates (front ++ back)).outputs ≡ (built_all gates front).outputs ++ (built_all (built_all gates front).gates back).outputs)
built_all-append gates [] back = (refl, refl)
built_all-append gates (term ∷ front) back =
    let rest = built_all-append (built gates term).gates front back in
    (rest.0, ap (λ o. (built gates term).output ∷ o) rest.1)

-- terms behind others
pub all-then : (old mid new : List Gate) (old_held mid_held new_held : Holding) (front back : List Term) (result : Result (Unit {0}) CnfFault)
    → BuildsAll old mid old_held mid_held front (Ok tt) → BuildsAll mid new mid_held new_held back result → BuildsAll old new old_held new_held (front ++ back) result
all-then old mid new old_held mid_held new_held front back (Ok done) first second =
    let guard = old_held.guard in
    let xs = kept_all guard front in
    let ys = kept_all guard back in
    let parts = built_all-append old xs ys in
    let split = kept-append guard front back in
    let second_gates = rw first.guard at second.gates in
    let second_held = rw first.guard at second.held in
    record {
      gates = rw split (second_gates ∙ ap (λ g. (built_all g ys).gates) first.gates ∙ sym parts.0);
      held = rw split (
          second_held
          ∙ ap (λ h. h ++ (built_all mid ys).outputs) first.held
          ∙ ap (λ g. (old_held.literals ++ (built_all old xs).outputs) ++ (built_all g ys).outputs) first.gates
          ∙ append_assoc old_held.literals (built_all old xs).outputs (built_all (built_all old xs).gates ys).outputs
          ∙ ap (λ o. old_held.literals ++ o) (sym parts.1)
          );
      guard = second.guard ∙ first.guard;
      size = omega (arith, first.size, second.size, ap (λ g. terms_size (kept_all g back)) first.guard, ap terms_size split, sum_by-append term_size xs ys);
      large = tt;
    }
all-then old mid new old_held mid_held new_held front back (Err fault) first second =
    let guard = old_held.guard in
    let split = kept-append guard front back in
    record {
      gates = tt;
      held = tt;
      guard = tt;
      size = tt;
      large = λ e.
          omega (arith, second.large e, first.size, ap (λ g. terms_size (kept_all g back)) first.guard, ap terms_size split, sum_by-append term_size (kept_all guard front) (kept_all guard back));
    }

-- a fault of the first ones
pub all-first : (old mid : List Gate) (old_held mid_held : Holding) (front back : List Term) (fault : CnfFault)
    → BuildsAll old mid old_held mid_held front (Err fault) → BuildsAll old mid old_held mid_held (front ++ back) (Err fault)
all-first old mid old_held mid_held front back fault failed =
    let guard = old_held.guard in
    record {
      gates = tt;
      held = tt;
      guard = tt;
      size = tt;
      large = λ e. omega (arith, failed.large e, ap terms_size (kept-append guard front back), sum_by-append term_size (kept_all guard front) (kept_all guard back));
    }

-- a literal alone
pub held-literal : (gates new : List Gate) (held new_held : Holding) (literal : ℤ) (result : Result (Unit {0}) CnfFault) → IsTrue (is_literal literal)
    → Holds gates new held new_held literal result → BuildsAll gates new held new_held (Literal literal ∷ []) result
held-literal gates new held new_held literal (Ok done) within holds =
    held-end gates new held new_held (Literal literal ∷ [])
    (held-step gates gates gates new held held new_held (Literal literal) [] (Literal literal ∷ []) literal (held-init gates held (Literal literal ∷ [])) (literal-builds gates literal within) holds)
held-literal gates new held new_held literal (Err fault) within failed =
    held-hold gates gates gates new held held new_held (Literal literal) [] (Literal literal ∷ []) literal fault (held-init gates held (Literal literal ∷ [])) (literal-builds gates literal within) failed

-- the first of the elements that are left
pub element-drop : {A : Type 0} (f : A → Term) (xs : List A) (i : ℕ) (x : A) → i < length xs → x ≡ get_or xs i x → map f (drop i xs) ≡ f x ∷ map f (drop (i + 1) xs)
element-drop f xs i x below is = ap (map f) (drop_more xs i x below ∙ ap (λ y. y ∷ drop (i + 1) xs) (sym is))

-- the first of the numbers that are left
range-next : (n i : ℕ) → i < n → range_with_len i (n - i) ≡ i ∷ range_with_len (i + 1) (n - (i + 1))
range-next n i below = let e : n - i ≡ suc (n - (i + 1)) = omega arith in ap (range_with_len i) e

pub number-next : (f : ℕ → Term) (n i : ℕ) → i < n → map f (range_with_len i (n - i)) ≡ f i ∷ map f (range_with_len (i + 1) (n - (i + 1)))
number-next f n i below = ap (map f) (range-next n i below)
