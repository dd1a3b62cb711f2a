-- Values and widths.
use Rattle.std.proofs.Common.{◌≡◌, ℕ, ◌^◌, ◌<◌, ◌≤◌, nat_le, false, arith}
use Rattle.std.proofs.lemmas.Bool.Decides.{nat_tests}
use Rattle.std.proofs.Math.Nat.{pow-le-pow_right}

-- a number of 64 bits needs no more bits than 64 or more
pub fits-width : (width value : ℕ) → 64 ≤ width → value < 2 ^ 64 → nat_le (2 ^ width) value ≡ false
fits-width width value wide small =
    let some : 0 < 2 = omega arith in
    let far : 2 ^ 64 ≤ 2 ^ width = pow-le-pow_right {n = 2} some wide in
    apart (2 ^ width) value (omega arith)
  where
    apart : (bound value : ℕ) → value < bound → nat_le bound value ≡ false
    apart bound value h = grind (arith, nat_tests)
