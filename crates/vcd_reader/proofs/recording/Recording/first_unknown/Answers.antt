use Rattle.std.proofs.Common.{◌≡◌, ◌<◌, ◌+◌, ◌++◌, ◌∷◌, [], length, take, sym, ◌∙◌, ap, arith, List}
use Rattle.std.proofs.lemmas.List.{take_more, take_all}
use Rattle.psl_tree.specs.Trees.{formula_of}
use Rattle.psl_tree.specs.declared.directive.Directive.{Directive}
use Rattle.vcd_reader.proofs.FirstUnknown.{earliest-more, first-some, first-none}
use Rattle.vcd_reader.specs.FirstUnknown.{earliest}
use Rattle.vcd_reader.specs.Tested.{atoms_in, atoms_tested}
use Rattle.vcd_reader.proofs.recording.Recording.first_unknown.Goals as goal

pub loop-directive-preserved : goal.loop-directive-preserved
loop-directive-preserved c =
    let items = c.as_slice-directive-items.result.now in
    let before = take c.loop-directive.directive-index items in
    let samples = length c.args.self.now.samples in
    let within : c.loop-directive.directive-index < length items = c.loop-directive-test.true in
    let more : take (c.loop-directive.directive-index + 1) items ≡ before ++ c.directive-item.result ∷ [] =
    take_more items c.loop-directive.directive-index c.directive-item.result within ∙ ap (λ d. before ++ d ∷ []) (sym c.directive-item.is) in
    let low = c.of_formula-first.ensures.within in
    let lower = c.loop-directive.invariant.within in
    record {
      is = c.of_formula-first.ensures.is
          ∙ ap (earliest c.args.self.now (atoms_in (formula_of c.directive-item.result.formula))) c.loop-directive.invariant.is
          ∙ earliest-more c.args.self.now before c.directive-item.result samples
          ∙ ap (λ (ds : List Directive). earliest c.args.self.now (atoms_tested ds) samples) (sym more);
      within = omega (arith, low, lower);
    }

pub returns-then-first-samples : goal.returns-then-first-samples
returns-then-first-samples c =
    let items = c.as_slice-directive-items.result.now in
    let all : take c.loop-directive.directive-index items ≡ c.args.unit.now = take_all c.loop-directive.directive-index items (omega (arith, c.loop-directive-test.false)) ∙ c.as_slice-directive-items.ensures in
    let is = c.loop-directive.invariant.is ∙ ap (λ (ds : List Directive). earliest c.args.self.now (atoms_tested ds) (length c.args.self.now.samples)) all in
    let low = c.if-first-samples.true in
    let count = c.samples-samples.ensures.count in
    first-some c.args.self.now c.args.unit.now c.loop-directive.first is (omega (arith, low, count))

pub returns-else-first-samples : goal.returns-else-first-samples
returns-else-first-samples c =
    let items = c.as_slice-directive-items.result.now in
    let all : take c.loop-directive.directive-index items ≡ c.args.unit.now = take_all c.loop-directive.directive-index items (omega (arith, c.loop-directive-test.false)) ∙ c.as_slice-directive-items.ensures in
    let is = c.loop-directive.invariant.is ∙ ap (λ (ds : List Directive). earliest c.args.self.now (atoms_tested ds) (length c.args.self.now.samples)) all in
    let high = c.if-first-samples.false in
    let count = c.samples-samples.ensures.count in
    first-none c.args.self.now c.args.unit.now c.loop-directive.first is (omega (arith, high, count))
