use Rattle.std.proofs.Common.{◌≡◌, not, ap, ◌∙◌, Bool, ℤ}
use Rattle.std.specs.List.{filter}
use Rattle.std.specs.Ordering.{int_eq}
use Rattle.std.proofs.lemmas.Int.{to_z-of_z}
use mir.Syntax.{w32}
use Rattle.reach_frames.specs.Bits.{is_in_cube}
use Rattle.reach_frames.proofs.Cubes.{part-IsCube, part_within}
use Rattle.reach_frames.proofs.leaving_out.without.Goals as goal

pub tried-requires-clause-cube : goal.tried-requires-clause-cube
tried-requires-clause-cube g c =
    let width = (g.M.Machine.system c.args.machine.now).width in
    let other : ℤ → Bool = λ literal. not (int_eq literal c.args.literal) in
    let left : c.in_ok-rest.rest ≡ filter other c.as_slice.result.now = rw (to_z-of_z w32 c.args.literal c.ranges.literal) at c.in_ok-rest.ensures in
    let rest : c.in_ok-rest.rest ≡ filter other c.args.cube.now = left ∙ ap (filter other) c.as_slice.ensures in
    rw rest (part-IsCube width other c.args.cube.now c.requires.cube)

pub returns-in_ok-shrink-in-Some-clause-within : goal.returns-in_ok-shrink-in-Some-clause-within
returns-in_ok-shrink-in-Some-clause-within g c = λ state inside.
    let other : ℤ → Bool = λ literal. not (int_eq literal c.args.literal) in
    let left : c.in_ok-rest.rest ≡ filter other c.as_slice.result.now = rw (to_z-of_z w32 c.args.literal c.ranges.literal) at c.in_ok-rest.ensures in
    let rest : c.in_ok-rest.rest ≡ filter other c.args.cube.now = left ∙ ap (filter other) c.as_slice.ensures in
    let same : c.in-Some.shut.cube ≡ c.in_ok-rest.rest = rw c.in-Some.is at c.in_ok-shut.ensures.same in
    c.in_ok-shrink-in-Some.ensures.within state
    (ap (λ literals. is_in_cube literals state) (same ∙ rest) ∙ part_within other c.args.cube.now state inside)
