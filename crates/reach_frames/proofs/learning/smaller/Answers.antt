use Rattle.std.proofs.Common.{◌≡◌, Option, Some, None, length, ap, ◌∙◌, arith}
use Rattle.std.specs.List.{filter}
use Rattle.std.specs.Option.{IfSome}
use Rattle.std.proofs.lemmas.Result.{IfOk-weaker}
use Rattle.clauses.specs.declared.flat.TheConstants.{MOST_VARIABLES}
use Rattle.reach_frames.specs.Bits.{is_in_cube}
use Rattle.reach_frames.specs.Marks.{is_marked}
use Rattle.reach_frames.specs.Searches.{IsWithin}
use Rattle.reach_frames.specs.declared.learning.Shut.{Shut}
use Rattle.reach_frames.proofs.Cubes.{part-IsCube, part_length, part_within, within_more}
use Rattle.reach_frames.proofs.learning.smaller.Goals as goal

pub marked-requires : goal.marked-requires
marked-requires g c =
    let width = (g.M.Machine.system c.args.machine.now).width in
    rw c.as_slice.ensures (within_more width MOST_VARIABLES c.args.shut.now.cube c.requires.few c.requires.cube.within)

pub thinned-requires : goal.thinned-requires
thinned-requires g c =
    let width = (g.M.Machine.system c.args.machine.now).width in
    let cube = c.args.shut.now.cube in
    let mask = is_marked c.args.shut.now.mask in
    let core : c.in_ok-core.core ≡ filter mask cube = c.in_ok-core.ensures ∙ ap (filter mask) c.as_slice.ensures in
    rw (c.as_slice-2.ensures, core) (part-IsCube width mask cube c.requires.cube)

pub marked-requires-2 : goal.marked-requires-2
marked-requires-2 g c =
    let width = (g.M.Machine.system c.args.machine.now).width in
    let cube = c.args.shut.now.cube in
    let mask = is_marked c.args.shut.now.mask in
    let core : c.in_ok-core.core ≡ filter mask cube = c.in_ok-core.ensures ∙ ap (filter mask) c.as_slice.ensures in
    rw (c.as_slice-3.ensures, core) (within_more width MOST_VARIABLES (filter mask cube) c.requires.few (part-IsCube width mask cube c.requires.cube).within)

pub tried-requires-clause-cube : goal.tried-requires-clause-cube
tried-requires-clause-cube g c =
    let width = (g.M.Machine.system c.args.machine.now).width in
    let cube = c.args.shut.now.cube in
    let mask = is_marked c.args.shut.now.mask in
    let bolder = is_marked c.in_ok-mask.mask in
    let core : c.in_ok-core.core ≡ filter mask cube = c.in_ok-core.ensures ∙ ap (filter mask) c.as_slice.ensures in
    let bold : c.in_ok-bold.bold ≡ filter bolder (filter mask cube) = c.in_ok-bold.ensures ∙ ap (filter bolder) (c.as_slice-3.ensures ∙ core) in
    rw bold (part-IsCube width bolder (filter mask cube) (part-IsCube width mask cube c.requires.cube))

pub returns-in-Some-clause-within : goal.returns-in-Some-clause-within
returns-in-Some-clause-within g c = λ state inside.
    let cube = c.args.shut.now.cube in
    let mask = is_marked c.args.shut.now.mask in
    let bolder = is_marked c.in_ok-mask.mask in
    let core : c.in_ok-core.core ≡ filter mask cube = c.in_ok-core.ensures ∙ ap (filter mask) c.as_slice.ensures in
    let bold : c.in_ok-bold.bold ≡ filter bolder (filter mask cube) = c.in_ok-bold.ensures ∙ ap (filter bolder) (c.as_slice-3.ensures ∙ core) in
    let same : c.in-Some.less.cube ≡ c.in_ok-bold.bold = rw c.in-Some.is at c.in_ok-less.ensures.same in
    ap (λ literals. is_in_cube literals state) (same ∙ bold) ∙ part_within bolder (filter mask cube) state (part_within mask cube state inside)

pub returns-in-Some-clause-less : goal.returns-in-Some-clause-less
returns-in-Some-clause-less g c =
    let cube = c.args.shut.now.cube in
    let mask = is_marked c.args.shut.now.mask in
    let core : c.in_ok-core.core ≡ filter mask cube = c.in_ok-core.ensures ∙ ap (filter mask) c.as_slice.ensures in
    let same : c.in-Some.less.cube ≡ c.in_ok-bold.bold = rw c.in-Some.is at c.in_ok-less.ensures.same in
    omega (arith, ap length same, ap length core, part_length mask cube, c.if-len.true, c.len.ensures, c.len-2.ensures)

pub tried-requires-then-len-2-clause-cube : goal.tried-requires-then-len-2-clause-cube
tried-requires-then-len-2-clause-cube g c =
    let width = (g.M.Machine.system c.args.machine.now).width in
    let cube = c.args.shut.now.cube in
    let mask = is_marked c.args.shut.now.mask in
    let core : c.in_ok-core.core ≡ filter mask cube = c.in_ok-core.ensures ∙ ap (filter mask) c.as_slice.ensures in
    rw core (part-IsCube width mask cube c.requires.cube)

weaker : (found : Option Shut) (P Q : Shut → Type 0) → ((less : Shut) → P less → Q less) → IfSome found P → IfSome found Q
weaker None P Q more holds = tt
weaker (Some less) P Q more holds = more less holds

pub returns-then-len-2-clause-within : goal.returns-then-len-2-clause-within
returns-then-len-2-clause-within g c =
    let cube = c.args.shut.now.cube in
    let mask = is_marked c.args.shut.now.mask in
    let core : c.in_ok-core.core ≡ filter mask cube = c.in_ok-core.ensures ∙ ap (filter mask) c.as_slice.ensures in
    let P : Shut → Type 0 = λ less. less.cube ≡ c.in_ok-core.core in
    let Q : Shut → Type 0 = λ less. IsWithin cube less.cube in
    IfOk-weaker c.tried-then-len-2.result (λ found. IfSome found P) (λ found. IfSome found Q)
    (λ found. weaker found P Q (λ less same state inside. ap (λ literals. is_in_cube literals state) (same ∙ core) ∙ part_within mask cube state inside))
    c.tried-then-len-2.ensures.same
