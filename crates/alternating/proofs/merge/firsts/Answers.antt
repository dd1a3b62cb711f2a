use Rattle.std.proofs.Common.{◌≡◌, ◌++◌, [], ◌∷◌, sym, ap, ℕ, true, length, get_or, rules, arith}
use Rattle.std.specs.Prelude.{◌==◌}
use Rattle.std.proofs.lemmas.Bool.{eq-eqb}
use Rattle.std.proofs.lemmas.List.{get_or_default, length-append}
use Rattle.alternating_theory.specs.Merged.{class_in, is_first}
use Rattle.alternating_theory.proofs.Classes.{class-past}
use Rattle.alternating.proofs.Merging.{marks-more}
use Rattle.alternating.proofs.merge.firsts.Goals as goal

pub loop-number-preserved : goal.loop-number-preserved
loop-number-preserved c =
    let pushed : c.push.new.self.items ≡ c.loop-number.marks.items ++ (get_or c.args.classes.now c.loop-number.number 0 == c.loop-number.number) ∷ [] = search rules in
    record {
      same_length = search rules;
      each = marks-more c.loop-number.marks.items c.push.new.self.items (get_or c.args.classes.now c.loop-number.number 0 == c.loop-number.number) c.loop-number.number
          (is_first (class_in c.args.classes.now)) c.loop-number.invariant.same_length c.loop-number.invariant.each
          (ap (λ (m : ℕ). m == c.loop-number.number) (get_or_default c.args.classes.now c.loop-number.number 0 c.loop-number.number (omega arith))) pushed;
    }

pub returns : goal.returns
returns c =
    let pushed : c.push-2.new.self.items ≡ c.loop-number.marks.items ++ true ∷ [] = search rules in
    let all : c.loop-number.number ≡ length c.args.classes.now = omega (arith, c.loop-number.auto, c.loop-number-test.false) in
    record {
      same_length = omega (arith, all, c.loop-number.invariant.same_length, ap (λ l. length l) pushed, length-append c.loop-number.marks.items (true ∷ []));
      exact = λ q l. marks-more c.loop-number.marks.items c.push-2.new.self.items true c.loop-number.number (is_first (class_in c.args.classes.now))
          c.loop-number.invariant.same_length c.loop-number.invariant.each
          (sym (eq-eqb (class_in c.args.classes.now c.loop-number.number) c.loop-number.number (class-past c.args.classes.now c.loop-number.number c.loop-number.number (omega arith)))) pushed q (omega arith);
    }
