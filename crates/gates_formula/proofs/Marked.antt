-- Marks of variables.
use Rattle.std.proofs.Common.{◌≡◌, ℕ, ◌<◌, ◌==◌, ℤ, Bool, true, false, ◌||◌, List, ◌∷◌, ◌++◌, length, get_or, set, refl, sym, ap, ◌∙◌, arith, inl, inr, get_or-set_other, get_or-set_same}
use Rattle.std.proofs.lemmas.Bool.{cases_eq, eq-eqb, ne_eqb}
use Rattle.std.proofs.lemmas.List.Folds.{list_any-append}
use Rattle.clauses.specs.Literals.{variable_of}
use Rattle.gates_nodes.specs.Clauses.{asks}
use Rattle.gates_formula.specs.Marks.{AreMarks}

-- the literals that are left are among all, and the others are marked
abbrev pub MarksSoFar : List ℤ → List ℤ → List Bool → List Bool → Type 0
MarksSoFar left all old mid = (variable : ℕ) → variable < length old → (asks left variable || get_or mid variable false) ≡ (asks all variable || get_or old variable false)

-- one mark more
pub marks-step : (literal : ℤ) (left all : List ℤ) (old mid : List Bool) → length mid ≡ length old → variable_of literal < length old →
    MarksSoFar (literal ∷ left) all old mid → MarksSoFar left all old (set mid (variable_of literal) true)
marks-step literal left all old mid size below before variable within = elim (cases_eq (variable_of literal) variable) [
  | inl same ↦
      let here : get_or (set mid (variable_of literal) true) variable false ≡ true = ap (λ v. get_or (set mid (variable_of literal) true) v false) (sym same) ∙ get_or-set_same mid (variable_of literal) true false (omega arith) in
      let test : (variable_of literal == variable) ≡ true = eq-eqb (variable_of literal) variable same in
      rw here (all_true (asks left variable) ∙ sym (ap (λ t. (t || asks left variable) || get_or mid variable false) test) ∙ before variable within)
  | inr apart ↦
      let there : get_or (set mid (variable_of literal) true) variable false ≡ get_or mid variable false =
      get_or-set_other mid (variable_of literal) variable true false (λ e. apart (sym e)) in
      let test : (variable_of literal == variable) ≡ false = ne_eqb (variable_of literal) variable apart in
      rw there (sym (ap (λ t. (t || asks left variable) || get_or mid variable false) test) ∙ before variable within)
]
  where
    all_true : (b : Bool) → (b || true) ≡ true
    all_true true = refl
    all_true false = refl

-- marks of more literals
pub marks-more : (literals others : List ℤ) (old new : List Bool) → length new ≡ length old →
    ((variable : ℕ) → variable < length old → get_or new variable false ≡ (asks literals variable || get_or old variable false)) → AreMarks old others → AreMarks new (literals ++ others)
marks-more literals others old new size each before = record {
  are = λ variable below.
      let low : variable < length old = omega arith in
      each variable low ∙ ap (λ t. asks literals variable || t) (before.are variable low) ∙ sym (list_any-append (λ l. variable_of l == variable) literals others);
}
