-- What a line says, in numbers.
use Rattle.std.proofs.Common.{◌≡◌, ℕ, suc, ◌+◌, inl, inr, eqb, List, [], ◌∷◌, length, map, refl, ap, subst, arith}
use Rattle.netlist.specs.declared.latch.Latch.{Latch}
use Rattle.netlist.specs.declared.table.Table.{Table}
use Rattle.blif_model.specs.declared.line.LineKind.{LineKind}
use Rattle.blif_model.specs.declared.line.LineKind.TheVariants as kinds
use Rattle.blif_flattening.specs.Members.{Among}
use Rattle.blif_hierarchy.specs.Drivers.{times}
use Rattle.blif_hierarchy.proofs.Counting.{one_if}
use Rattle.blif_flat.specs.Lines.{all_but_last, last_of, inputs_by, latches_by, tables_by, drives_by, IsFormed}

pub front-map : (f : ℕ → ℕ) (numbers : List ℕ) → all_but_last (map f numbers) ≡ map f (all_but_last numbers)
front-map f [] = refl
front-map f (number ∷ []) = refl
front-map f (number ∷ other ∷ numbers) = ap (λ rest. f number ∷ rest) (front-map f (other ∷ numbers))

pub last-map : (f : ℕ → ℕ) (number : ℕ) (numbers : List ℕ) → last_of (map f (number ∷ numbers)) ≡ f (last_of (number ∷ numbers))
last-map f number [] = refl
last-map f number (other ∷ numbers) = last-map f other numbers

pub last-among : (number : ℕ) (numbers : List ℕ) → Among (last_of (number ∷ numbers)) (number ∷ numbers)
last-among number [] = inl refl
last-among number (other ∷ numbers) = inr (last-among other numbers)

pub front-among : (numbers : List ℕ) (n : ℕ) → Among n (all_but_last numbers) → Among n numbers
front-among [] n none = none
front-among (number ∷ []) n none = absurd none
front-among (number ∷ other ∷ numbers) n (inl here) = inl here
front-among (number ∷ other ∷ numbers) n (inr there) = inr (front-among (other ∷ numbers) n there)

pub front-length : (number : ℕ) (numbers : List ℕ) → length (all_but_last (number ∷ numbers)) ≡ length numbers
front-length number [] = refl
front-length number (other ∷ numbers) = ap suc (front-length other numbers)

-- what a line lists and drives, it mentions
pub inputs-mentioned : (kind : LineKind) (names : List ℕ) (name : ℕ) → Among name (inputs_by kind names) → Among name names
inputs-mentioned kinds.Inputs names name there = there
inputs-mentioned kinds.Outputs names name none = absurd none
inputs-mentioned (kinds.Latch init) names name none = absurd none
inputs-mentioned (kinds.Table rows) names name none = absurd none

pub drives-mentioned : (kind : LineKind) (names : List ℕ) (name : ℕ) → Among name (drives_by kind names) → Among name names
drives-mentioned kinds.Inputs names name none = absurd none
drives-mentioned kinds.Outputs names name none = absurd none
drives-mentioned (kinds.Latch init) [] name none = absurd none
drives-mentioned (kinds.Latch init) (a ∷ []) name none = absurd none
drives-mentioned (kinds.Latch init) (a ∷ b ∷ []) name (inl here) = inr (inl here)
drives-mentioned (kinds.Latch init) (a ∷ b ∷ []) name (inr none) = absurd none
drives-mentioned (kinds.Latch init) (a ∷ b ∷ c ∷ names) name none = absurd none
drives-mentioned (kinds.Table rows) [] name none = absurd none
drives-mentioned (kinds.Table rows) (first ∷ names) name (inl here) = subst (λ n. Among n (first ∷ names)) here (last-among first names)
drives-mentioned (kinds.Table rows) (first ∷ names) name (inr none) = absurd none

-- two renamings are one
pub map-two : {S : Type 0} (f : S → ℕ) (g : ℕ → S) (names : List ℕ) → map f (map g names) ≡ map (λ name. f (g name)) names
map-two f g [] = refl
map-two f g (name ∷ names) = ap (λ rest. f (g name) ∷ rest) (map-two f g names)

-- how often a line drives a number
pub line-counted : (most k : ℕ) (f : ℕ → ℕ) (kind : LineKind) (names : List ℕ) → IsFormed most kind names
    → times k (map (λ (latch : Latch). latch.output) (latches_by kind (map f names)))
    + times k (map (λ (table : Table). table.output) (tables_by kind (map f names)))
    ≡ times k (map f (drives_by kind names))
line-counted most k f kinds.Inputs names formed = omega arith
line-counted most k f kinds.Outputs names formed = omega arith
line-counted most k f (kinds.Latch init) [] formed = absurd (omega (arith, formed))
line-counted most k f (kinds.Latch init) (a ∷ []) formed = absurd (omega (arith, formed))
line-counted most k f (kinds.Latch init) (a ∷ b ∷ []) formed = omega arith
line-counted most k f (kinds.Latch init) (a ∷ b ∷ c ∷ names) formed = absurd (omega (arith, formed))
line-counted most k f (kinds.Table rows) [] formed = absurd formed
line-counted most k f (kinds.Table rows) (first ∷ names) formed =
    let is : one_if (eqb (last_of (map f (first ∷ names))) k) ≡ one_if (eqb (f (last_of (first ∷ names))) k) =
    ap (λ n. one_if (eqb n k)) (last-map f first names) in
    omega (arith, is)
