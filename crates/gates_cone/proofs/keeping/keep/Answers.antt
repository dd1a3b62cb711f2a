use Rattle.std.proofs.Common.{◌≡◌, ◌++◌, ◌∷◌, [], false, true, set, sym, subst, rules, arith}
use Rattle.netlist.specs.Valuations.{bit}
use Rattle.gates_cone.specs.Keeping.{AreListed}
use Rattle.gates_cone.proofs.Kept.{listed-one}
use Rattle.gates_cone.proofs.keeping.keep.Goals as goal

pub returns-in_ok-push-clause-listed : goal.returns-in_ok-push-clause-listed
returns-in_ok-push-clause-listed c =
    let kept = c.args.kept.now in
    let signal = c.args.signal in
    let none : bit c.args.kept.now c.args.signal ≡ false = first_of (search rules, grind arith) in
    let pushed : c.push.new.self.items ≡ c.args.found.now.items ++ c.args.signal ∷ [] = search rules in
    subst (AreListed (set kept signal true)) (sym pushed) (listed-one kept c.args.found.now.items signal c.requires.signal none c.requires.listed)
