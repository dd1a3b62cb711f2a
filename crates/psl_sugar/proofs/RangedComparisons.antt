-- What each atom of the sides of a comparison has, each atom of the comparison has.
use Rattle.std.proofs.Common.{ℕ, zero, suc, ◌-◌, Bool, true, false}
use Rattle.psl_sugar.proofs.RangedBooleans.{conjunction-has}
use Rattle.psl_sugar.specs.Booleans.{bit_at, has_bit}
use Rattle.psl_sugar.specs.Comparisons.{compared_width, side_bit, literal, same_bit, equality, less_within, less}
use Rattle.psl_sugar.specs.declared.operand.Operand.{Operand}
use Rattle.psl_sugar.specs.declared.operand.Operand.TheVariants.{Bits, Value}
use Rattle.psl_tree.specs.Atoms.{AtomsOfBoolean}
use Rattle.psl_tree.specs.Trees.{Boolean}
use Rattle.psl_tree.specs.declared.atom.Atom.{Atom}

-- the bits of a side
abbrev pub OperandHas : (Atom → Type 0) → Operand → Type 0
OperandHas P (Bits vector) = (place : ℕ) → AtomsOfBoolean P (bit_at vector place)
OperandHas P (Value value) = Unit {0}

module _ (P : Atom → Type 0) where
  side-has : (side : Operand) → OperandHas P side → (place : ℕ) → AtomsOfBoolean P (side_bit side place)
  side-has (Bits vector) has place = has place
  side-has (Value value) has place = tt

  literal-has : (bit : Boolean) (is_one : Bool) → AtomsOfBoolean P bit → AtomsOfBoolean P (literal bit is_one)
  literal-has bit true h = h
  literal-has bit false h = h

  module _ (left right : Operand) (h : OperandHas P left) (k : OperandHas P right) where
    same-has : (place : ℕ) → AtomsOfBoolean P (same_bit left right place)
    same-has place = by left right (side-has left h place) (side-has right k place) where
      by : (x y : Operand) → AtomsOfBoolean P (side_bit x place) → AtomsOfBoolean P (side_bit y place) → AtomsOfBoolean P (same_bit x y place)
      by (Bits first) (Bits second) p q = ((p, q), (p, q))
      by (Bits first) (Value value) p q = literal-has (side_bit (Bits first) place) (has_bit value place) p
      by (Value value) (Bits second) p q = literal-has (side_bit (Bits second) place) (has_bit value place) q
      by (Value value) (Value other) p q = literal-has (side_bit (Value value) place) (has_bit other place) p

    pub equality-has : AtomsOfBoolean P (equality left right)
    equality-has =
        let leftmost = compared_width left right - 1 in
        conjunction-has P (λ (more : ℕ). same_bit left right (leftmost - more)) (λ (more : ℕ). same-has (leftmost - more)) leftmost

    less-within-has : (places : ℕ) → AtomsOfBoolean P (less_within left right places)
    less-within-has zero = tt
    less-within-has (suc places) = ((side-has left h places, side-has right k places), ((side-has left h places, side-has right k places), less-within-has places))

    pub less-has : AtomsOfBoolean P (less left right)
    less-has = less-within-has (compared_width left right)
