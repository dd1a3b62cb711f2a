use Rattle.std.proofs.Common.{◌≡◌, Bool, true, List, length, sym, ap, ◌∙◌, subst}
use Rattle.std.specs.List.{Contains}
use Rattle.std.proofs.lemmas.Option.{get_or_from_slice_get, slice_get_within}
use Rattle.clauses.specs.declared.flat.TheConstants.{MOST_VARIABLES}
use Rattle.reach_frames.specs.Bits.{is_in_cube}
use Rattle.reach_frames.specs.declared.entry.Entry.{Entry}
use Rattle.reach_frames.proofs.Cubes.{within_more}
use Rattle.test_reach.specs.Tables.{table_system}
use Rattle.test_reach.proofs.Entries.{leads_follows}
use Rattle.test_reach.proofs.table.TableMachine.led_on.Goals as goal

pub leads_on-requires : goal.leads_on-requires
leads_on-requires c = within_more (length c.args.self.now.start) MOST_VARIABLES c.args.cube.now c.args.self.now.few c.requires.cube.within

pub returns-then-leads_on : goal.returns-then-leads_on
returns-then-leads_on c =
    let table = c.args.self.now in
    let entry = c.at-entry.result.now in
    let at = c.at-entry.ensures in
    let state = c.args.state.now in
    let cube = c.args.cube.now in
    let member : Contains table.steps entry = (c.loop-place.place, slice_get_within table.steps c.loop-place.place entry at, get_or_from_slice_get table.steps c.loop-place.place entry entry at) in
    let is = leads_follows table.start table.steps table.goal table.goal_within state cube entry c.requires.size member (sym c.leads_on.ensures ∙ c.if-leads_on.true) in
    let P : List Bool → Type 0 = λ next. (table_system table.start table.steps table.goal table.goal_within).follows state next × (is_in_cube cube next ≡ true) in
    subst P (sym c.in_ok-copy.ensures) is
