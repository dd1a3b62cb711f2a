use Rattle.std.proofs.Common.{◌≡◌, ℕ, ◌<◌, length}
use Rattle.std.specs.Prelude.{All, Any}
use Rattle.netlist.specs.Sound.{NamesBit}
use Rattle.test_circuits.proofs.netlists.names.Given as goal

abbrev pub invariant-loop-text : goal.invariant-loop-text
invariant-loop-text l = record {
  count : l.signal ≡ l.text-index;
  bits : All (NamesBit (length l.texts)) l.names;
  named : (signal : ℕ) → signal < l.text-index → Any (λ name. name.signal ≡ signal) l.names;
}
