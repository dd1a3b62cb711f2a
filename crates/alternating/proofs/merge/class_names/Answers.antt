use Rattle.std.proofs.Common.{◌≡◌, ◌++◌, [], ◌∷◌, sym, ap, ◌∙◌, length, get_or, slice_index, rules, arith}
use Rattle.std.proofs.lemmas.List.{get_or_default, length-append}
use Rattle.alternating_theory.specs.Merged.{class_in}
use Rattle.alternating_theory.proofs.Classes.{class-past}
use Rattle.alternating.proofs.Merging.{names-more}
use Rattle.alternating.proofs.merge.class_names.Goals as goal

pub loop-class-preserved : goal.loop-class-preserved
loop-class-preserved c =
    let pushed : c.push.new.self.items ≡ c.loop-class.new.items ++ get_or c.args.names.now (get_or c.args.classes.now c.loop-class.class-index 0) 0 ∷ [] = search rules in
    record {
      same_length = search rules;
      each = names-more c.loop-class.new.items c.push.new.self.items (get_or c.args.names.now (get_or c.args.classes.now c.loop-class.class-index 0) 0) c.loop-class.class-index
          (λ q. slice_index c.args.names.now (class_in c.args.classes.now q)) c.loop-class.invariant.same_length c.loop-class.invariant.each
          (ap (λ m. get_or c.args.names.now m 0) (get_or_default c.args.classes.now c.loop-class.class-index 0 c.loop-class.class-index (omega arith))) pushed;
    }

pub returns : goal.returns
returns c =
    let pushed : c.push-2.new.self.items ≡ c.loop-class.new.items ++ get_or c.args.names.now (length c.args.classes.now) 0 ∷ [] = search rules in
    let all : c.loop-class.class-index ≡ length c.args.classes.now = omega (arith, c.loop-class.auto, c.loop-class-test.false) in
    record {
      same_length = omega (
        arith,
        all,
        c.loop-class.invariant.same_length,
        ap (λ l. length l) pushed,
        length-append c.loop-class.new.items (get_or c.args.names.now (length c.args.classes.now) 0 ∷ []),
      );
      exact = λ q l. names-more c.loop-class.new.items c.push-2.new.self.items (get_or c.args.names.now (length c.args.classes.now) 0) c.loop-class.class-index
          (λ q. slice_index c.args.names.now (class_in c.args.classes.now q)) c.loop-class.invariant.same_length c.loop-class.invariant.each
          (sym (ap (λ m. get_or c.args.names.now m 0) (class-past c.args.classes.now c.loop-class.class-index c.loop-class.class-index (omega arith) ∙ all))) pushed q (omega arith);
    }
