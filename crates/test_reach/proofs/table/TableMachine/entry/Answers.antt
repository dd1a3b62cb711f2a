use Rattle.std.proofs.Common.{◌≡◌, ◌<◌, Bool, false, length, take, get_or, sym, ap, ◌∙◌, subst, arith}
use Rattle.std.specs.List.{list_any, Contains}
use Rattle.std.proofs.lemmas.Bool.{or_from}
use Rattle.std.proofs.lemmas.List.{take_all}
use Rattle.std.proofs.lemmas.List.Folds.{list_any_more}
use Rattle.std.proofs.lemmas.Option.{get_or_from_slice_get, slice_get_within}
use Rattle.clauses.specs.declared.flat.TheConstants.{MOST_VARIABLES}
use Rattle.reach_frames.specs.Systems.{IsEntry}
use Rattle.reach_frames.specs.declared.entry.Entry.{Entry}
use Rattle.reach_frames.proofs.Cubes.{within_more}
use Rattle.test_reach.specs.Tables.{leads_into, table_system}
use Rattle.test_reach.proofs.Entries.{found_entry, no_entry}
use Rattle.test_reach.proofs.table.TableMachine.entry.Goals as goal

pub leads-requires : goal.leads-requires
leads-requires c = within_more (length c.args.self.now.start) MOST_VARIABLES c.args.cube.now c.args.self.now.few c.requires.cube.within

pub returns-then-leads-clause-answer : goal.returns-then-leads-clause-answer
returns-then-leads-clause-answer c =
    let table = c.args.self.now in
    let entry = c.at-entry.result.now in
    let at = c.at-entry.ensures in
    let member : Contains table.steps entry = (c.loop-place.place, slice_get_within table.steps c.loop-place.place entry at, get_or_from_slice_get table.steps c.loop-place.place entry entry at) in
    let is = found_entry table.start table.steps table.goal table.goal_within c.args.frame.now c.args.initial c.args.cube.now entry member (sym c.leads.ensures ∙ c.if-leads.true) in
    let P : Entry → Type 0 = IsEntry (table_system table.start table.steps table.goal table.goal_within) c.args.frame.now c.args.initial c.args.cube.now in
    subst P (sym c.in_ok-copied.ensures) is

pub loop-place-preserved : goal.loop-place-preserved
loop-place-preserved c =
    let table = c.args.self.now in
    let entry = c.at-entry.result.now in
    let place = c.loop-place.place in
    let at = c.at-entry.ensures in
    let test : Entry → Bool = leads_into table.start c.args.frame.now c.args.initial c.args.cube.now in
    let here : test (get_or table.steps place entry) ≡ false = ap test (get_or_from_slice_get table.steps place entry entry at) ∙ sym c.leads.ensures ∙ c.if-leads.false in
    list_any_more test table.steps place entry (slice_get_within table.steps place entry at) ∙ or_from _ _ c.loop-place.invariant here

pub returns-clause-answer : goal.returns-clause-answer
returns-clause-answer c =
    let table = c.args.self.now in
    let test : Entry → Bool = leads_into table.start c.args.frame.now c.args.initial c.args.cube.now in
    let none : list_any test table.steps ≡ false =
    ap (list_any test) (sym (take_all c.loop-place.place table.steps (omega (arith, c.loop-place-test.false, c.len-place-end.ensures)))) ∙ c.loop-place.invariant in
    no_entry table.start table.steps table.goal table.goal_within c.args.frame.now c.args.initial c.args.cube.now none
