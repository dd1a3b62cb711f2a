use Rattle.std.proofs.Common.{rules}
use Rattle.std.specs.Prelude.{◌≡◌, false, Option, None, Some, IfNone}
use Rattle.reach.specs.Sides.{AreSides, IsOn}
use Rattle.reach.proofs.search.Search.go_on.Goals as goal

none-map : {A : Type 0} (found : Option A) {P Q : Type 0} → (P → Q) → IfNone found P → IfNone found Q
none-map None map told = map told
none-map (Some _) map told = tt

pub invariant_of-self-2 : goal.invariant_of-self-2
invariant_of-self-2 c =
    let goes : c.self.inside.has_ended ≡ false = search rules in
    let sides : AreSides c.self.inside.aim c.self.inside.first c.self.inside.second c.self.inside.left = c.self.invariant.sides goes in
    let one : IsOn c.self.inside.aim c.self.inside.first c.self.inside.left c.args.frames c.args.budget c.in-On.first c.in-On.left = search rules in
    let two : IsOn c.self.inside.aim c.in_ok-second.second c.in-On.left c.args.frames c.args.budget c.in-On-2.second c.in-On-2.left = search rules in
    record {
      depth = c.self.invariant.depth;
      sides = λ _. record {
        first_goes = one.goes;
        second_goes = two.goes;
        left_is = two.left_is;
        told = none-map c.in-On.first two.kept (one.told sides.told);
      };
    }
