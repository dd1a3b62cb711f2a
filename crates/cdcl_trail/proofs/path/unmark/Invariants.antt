use Rattle.std.proofs.Common.{◌≡◌, ℕ, false, true, get_or, take}
use Rattle.std.specs.List.{Contains}
use Rattle.cdcl_trail.proofs.path.unmark.Given as goal

abbrev pub invariant-loop-literal : goal.invariant-loop-literal
invariant-loop-literal l = record {
  gone : (literal : ℕ) → get_or l.marks literal false ≡ true → (get_or l.initial.marks literal false ≡ true) × (Contains (take l.literal-index l.literals) literal → ⊥);
  kept : (literal : ℕ) → get_or l.initial.marks literal false ≡ true → (Contains (take l.literal-index l.literals) literal → ⊥) → get_or l.marks literal false ≡ true;
}
