use Rattle.std.proofs.Common.{◌≡◌, ℕ, ◌<◌, arith, Ok, flat_map, subst}
use Rattle.std.specs.List.{range_with_len}
use Rattle.std.proofs.lemmas.Result.{err_from_is_err_and}
use Rattle.run_gates.specs.Building.{BuildsAll}
use Rattle.joint.proofs.KeptTerms.{kept-fails, kept-init, kept-more}
use Rattle.joint.proofs.keeping.add_all_kept.Goals as goal

pub loop-number-init : goal.loop-number-init
loop-number-init g c = record { so_far = kept-init (g.K.Keeping.terms c.args.keeping.now) c.args.gates.now c.args.held.now }

pub returns-in_err-add_kept : goal.returns-in_err-add_kept
returns-in_err-add_kept g c =
    let below : c.loop-number.number < c.args.count = omega arith in
    let p = err_from_is_err_and c.from_residual.result c.from_residual.ensures.1 in
    rw (p.1, p.2) (kept-fails (g.K.Keeping.terms c.args.keeping.now) c.args.gates.now c.loop-number.gates c.add_kept.new.gates
    c.args.held.now c.loop-number.held c.add_kept.new.held c.loop-number.number c.args.count c.in_err-add_kept.field-0.0 below
    c.loop-number.invariant.so_far c.in_err-add_kept.ensures)

pub loop-number-preserved : goal.loop-number-preserved
loop-number-preserved g c = record {
  so_far = kept-more (g.K.Keeping.terms c.args.keeping.now) c.args.gates.now c.loop-number.gates c.add_kept.new.gates
      c.args.held.now c.loop-number.held c.add_kept.new.held c.loop-number.number c.loop-number.invariant.so_far c.in_ok-add_kept.ensures;
}

pub returns : goal.returns
returns g c =
    let all : c.loop-number.number ≡ c.args.count = omega arith in
    subst (λ (n : ℕ). BuildsAll c.args.gates.now c.loop-number.gates c.args.held.now c.loop-number.held
    (flat_map (g.K.Keeping.terms c.args.keeping.now) (range_with_len 0 n)) (Ok tt)) all c.loop-number.invariant.so_far
