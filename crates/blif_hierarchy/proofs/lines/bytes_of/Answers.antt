use Rattle.std.proofs.Common.{◌≡◌, ℕ, suc, ◌+◌, ◌-◌, List, map, arith, rules, subst, sym, ◌∙◌}
use Rattle.std.proofs.lemmas.Bool.Decides.{Decides-eqb}
use Rattle.std.proofs.lemmas.Slice.Eq.{slice_eq-Decides}
use Rattle.blif_flattening.specs.declared.model.TheConstants.{DEEPEST}
use Rattle.blif_hierarchy.specs.Sums.{bytes_after, HasBytes}
use Rattle.blif_hierarchy.proofs.Lengths.{bytes-next, bytes-still}
use Rattle.blif_hierarchy.proofs.lines.bytes_of.Goals as goal

pub loop-round-preserved : goal.loop-round-preserved
loop-round-preserved g c =
    let next : suc c.loop-round.round ≡ c.loop-round.round + 1 = omega arith in
    subst (λ n. HasBytes c.args.models.now c.args.scale.now n c.in_ok-next.next.items) next
    (bytes-next g.row.L.Denot c.args.models.now c.args.scale.now c.loop-round.round c.loop-round.below.items c.loop-round.invariant
    c.in_ok-next.next.items (search rules))

pub returns-then-eq : goal.returns-then-eq
returns-then-eq g c =
    let models = c.args.models.now in
    let scale = c.args.scale.now in
    let below = c.loop-round.below.items in
    let same : c.in_ok-next.next.items ≡ below =
    sym c.as_slice.ensures.value ∙ (slice_eq-Decides Decides-eqb _ _ _ c.eq.ensures).0 c.if-eq.true ∙ c.as_slice-in-loop-round.ensures.value in
    let made : c.in_ok-next.next.items ≡ map (bytes_after scale below) models = search rules in
    let rounds : c.loop-round.round + (DEEPEST - 1 - c.loop-round.round) ≡ DEEPEST - 1 = omega (arith, c.loop-round.auto.round-end) in
    subst (λ (all : List ℕ). HasBytes models scale (DEEPEST - 1) all) (sym same)
    (subst (λ n. HasBytes models scale n below) rounds
    (bytes-still g.row.L.Denot models scale below (sym same ∙ made) c.loop-round.round (DEEPEST - 1 - c.loop-round.round) c.loop-round.invariant))
