-- The first name of an atom that is in range is there, and has the atom's bit.
use Rattle.std.proofs.Common.{◌≡◌, refl, ℕ, ◌<◌, Bool, true, false, List, [], ◌∷◌, Option, None, Some, arith, ap, subst, ◌∙◌}
use Rattle.std.proofs.lemmas.List.Elements.{All-head, All-tail, All-cons}
use Rattle.std.specs.Prelude.{◌==◌, cond, All, IfSome}
use Rattle.psl_tree.specs.Names.{indices, AtomInRange, first_name}
use Rattle.psl_tree.specs.declared.atom.Atom.{Atom}
use Rattle.psl_tree.specs.declared.name.Name.{Name}

first-step : (P : Name → Type 0) (signal : ℕ) (name : Name) (later : Option Name) (b : Bool) → (name.signal == signal) ≡ b
    → (name.signal ≡ signal → P name) → IfSome later P → IfSome (cond b (Some name) later) P
first-step P signal name later true e here h = here (grind (arith, e))
first-step P signal name later false e here h = h

first-has : (P : Name → Type 0) (signal : ℕ) (names : List Name) → All (λ name. name.signal ≡ signal → P name) names → IfSome (first_name names signal) P
first-has P signal [] all = tt
first-has P signal (name ∷ names) all = first-step P signal name (first_name names signal) (name.signal == signal) refl
    (All-head (λ n. n.signal ≡ signal → P n) name names all) (first-has P signal names (All-tail (λ n. n.signal ≡ signal → P n) name names all))

none-step : (b : Bool) (name : Name) (later : Option Name) → cond b (Some name) later ≡ None → (b ≡ false) × (later ≡ None)
none-step true name later e = absurd cc
none-step false name later e = (refl, e)

none-has : (signal : ℕ) (names : List Name) → first_name names signal ≡ None → All (λ name. name.signal ≡ signal → ⊥) names
none-has signal [] e = λ k d lt. absurd (omega arith)
none-has signal (name ∷ names) e = let parts = none-step (name.signal == signal) name (first_name names signal) e in
    All-cons (λ n. n.signal ≡ signal → ⊥) name names (differs (name.signal == signal) refl parts.0) (none-has signal names parts.1)
  where
    differs : (b : Bool) → (name.signal == signal) ≡ b → b ≡ false → name.signal ≡ signal → ⊥
    differs b e f same = grind (arith, e, f, same)

-- there is a first name
pub is-named : (names : List Name) (atom : Atom) → AtomInRange names atom → first_name names atom.signal ≡ None → ⊥
is-named names atom range none =
    let some = range.named in
    none-has atom.signal names none some.0 some.1 some.2 (ap (λ (n : Name). n.signal) some.3 ∙ some.4)

-- it has the bit
pub has-bit : (names : List Name) (atom : Atom) (name : Name) → AtomInRange names atom → first_name names atom.signal ≡ Some name → atom.bit < indices name
has-bit names atom name range e =
    subst (λ (o : Option Name). IfSome o (λ n. atom.bit < indices n)) e (first-has (λ n. atom.bit < indices n) atom.signal names range.within)
