-- An entry of a list in two words: twice the clause's number, and one more where the clause has two literals; and the
-- blocker.
use Rattle.std.proofs.Common.{◌≡◌, ℕ, zero, suc, ◌+◌, ◌*◌, ◌/◌, ◌%◌, ◌<◌, cond, nat_eq, refl, ap, arith}
use Rattle.cdcl_propagation.specs.declared.watch.Watch.{Watch}
use Rattle.cdcl_propagation.specs.declared.watch.Packed.TheInside.{Inside}

abbrev pub unpacked : Inside → Watch
unpacked entry = record { number = entry.code / 2; blocker = entry.blocker; is_short = nat_eq (entry.code % 2) 1 }

abbrev pub packed : Watch → Inside
packed watch = record { code = 2 * watch.number + cond watch.is_short 1 0; blocker = watch.blocker }

low_bit : (n : ℕ) → n < 2 → cond (nat_eq n 1) 1 0 ≡ n
low_bit zero small = refl
low_bit (suc zero) small = refl
low_bit (suc (suc n)) small = absurd (omega (arith, small))

code_same : (code : ℕ) → 2 * (code / 2) + cond (nat_eq (code % 2) 1) 1 0 ≡ code
code_same code =
    let low = low_bit (code % 2) (omega arith) in
    omega (arith, low)

-- an entry is got back from what it says
pub packed_unpacked : (entry : Inside) → packed (unpacked entry) ≡ entry
packed_unpacked entry = ap (λ code. record { code = code; blocker = entry.blocker }) (code_same entry.code)
