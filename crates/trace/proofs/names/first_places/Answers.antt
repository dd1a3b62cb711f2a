use Rattle.std.proofs.Common.{◌≡◌, ◌+◌, ◌-◌, ◌<◌, ◌∙◌, ap, sym, subst, arith, drop, length}
use Rattle.std.proofs.lemmas.List.{length-replicate, length-set}
use Rattle.trace.proofs.FirstNames.{at-name, none-yet}
use Rattle.trace.proofs.names.first_places.Goals as goal
use Rattle.psl_tree.specs.Names.{first_name}
use Rattle.psl_tree.specs.declared.name.Name.{Name}

pub loop-place-init : goal.loop-place-init
loop-place-init c = record {
  length = ap length c.in_ok-first.ensures ∙ length-replicate c.args.signals (length c.args.names.now);
  first = λ signal lt. none-yet c.args.names.now c.args.signals signal c.in_ok-first.first.items c.in_ok-first.ensures lt;
}

pub loop-place-preserved : goal.loop-place-preserved
loop-place-preserved c =
    let place = c.loop-place.place - 1 in
    let names = c.args.names.now in
    let first = c.loop-place.first.items in
    let name = c.index-names-place.result in
    let lt : place < length names = omega arith in
    let on : place + 1 ≡ c.loop-place.place = omega arith in
    let named : name.signal < c.args.signals = subst (λ (n : Name). n.signal < c.args.signals) (sym c.index-names-place.is) (c.requires place name lt).signal in
    let inside : name.signal < length first = omega (arith, named, c.loop-place.invariant.length) in
    rw (sym c.index-names-place.is) record {
      length = length-set first name.signal place ∙ c.loop-place.invariant.length;
      first = λ signal within. at-name names place signal name first lt (omega (arith, within)) c.index-names-place.is inside
          (ap (λ p. first_name (drop p names) signal) on ∙ c.loop-place.invariant.first signal within);
    }
