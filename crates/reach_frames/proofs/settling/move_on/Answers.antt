use Rattle.std.proofs.Common.{◌≡◌, ℕ, suc, ◌<◌, ◌++◌, ◌∷◌, [], ℤ, List, None, false, length, get_or, set, sym, ap, ◌∙◌, subst, refl, arith, add-one}
use Rattle.std.specs.List.{remove}
use Rattle.std.proofs.lemmas.List.Elements.{All-contains}
use Rattle.std.proofs.lemmas.Option.{slice_get-get_or}
use Rattle.clauses.specs.declared.flat.TheConstants.{MOST_VARIABLES}
use Rattle.reach_frames.specs.Cubes.{IsCube, negated}
use Rattle.reach_frames.specs.Entries.{HasNoEntry, IsEntered}
use Rattle.reach_frames.specs.Searches.{frame_in}
use Rattle.reach_frames.specs.Systems.{IsEntry, IsStuck}
use Rattle.reach_frames.specs.declared.level.KeptClause.{KeptClause}
use Rattle.reach_frames.proofs.Cubes.{within_more}
use Rattle.reach_frames.proofs.Negations.{negated-IsCube}
use Rattle.reach_frames.proofs.Changes.{moved}
use Rattle.reach_frames.proofs.Pooling.{clause_in_is}
use Rattle.reach_frames.proofs.Staying.{kept_in, missed_in, moved_settles, noted_count, noted_settles, stuck_by, stuck_found}
use Rattle.reach_frames.proofs.settling.move_on.Goals as goal

abbrev no_kept : KeptClause
no_kept = record { clause = []; witness = None }

pub returns-in-Some-clause-stays : goal.returns-in-Some-clause-stays
returns-in-Some-clause-stays g c =
    let system = g.M.Machine.system c.args.machine.now in
    let found = rw c.in-Some.is at c.in_ok-state.ensures in
    let within : c.args.place < length c.args.frames.now = omega (arith, c.requires.place) in
    let stuck = stuck_by system c.args.frames.now c.args.frame.now c.args.place c.args.index found.0 found.1 c.requires.ready within found.2 found.3 c.requires.same found.4 in
    (subst (IsStuck system c.args.frame.now) (sym found.5) stuck, refl)

pub negated-requires : goal.negated-requires
negated-requires g c =
    let system = g.M.Machine.system c.args.machine.now in
    let levels = c.args.frames.now in
    let level = get_or levels c.args.place [] in
    let kept = get_or level c.args.index no_kept in
    let at = slice_get-get_or level c.args.index no_kept c.requires.index in
    let clause : c.as_slice.result.now ≡ kept.clause = c.as_slice.ensures ∙ c.in_ok-clause.ensures ∙ clause_in_is levels c.args.place c.args.index kept at in
    let member = kept_in levels c.args.place c.args.index kept at in
    let is : IsCube system.width kept.clause = All-contains (IsCube system.width) (frame_in levels c.args.place) kept.clause (c.requires.ready.sound.framed c.args.place).each member in
    rw clause (within_more system.width MOST_VARIABLES kept.clause c.requires.ready.few is.within)

pub entry-requires-clause-cube : goal.entry-requires-clause-cube
entry-requires-clause-cube g c =
    let system = g.M.Machine.system c.args.machine.now in
    let levels = c.args.frames.now in
    let level = get_or levels c.args.place [] in
    let kept = get_or level c.args.index no_kept in
    let at = slice_get-get_or level c.args.index no_kept c.requires.index in
    let clause : c.as_slice.result.now ≡ kept.clause = c.as_slice.ensures ∙ c.in_ok-clause.ensures ∙ clause_in_is levels c.args.place c.args.index kept at in
    let member = kept_in levels c.args.place c.args.index kept at in
    let is : IsCube system.width kept.clause = All-contains (IsCube system.width) (frame_in levels c.args.place) kept.clause (c.requires.ready.sound.framed c.args.place).each member in
    let cube : c.as_slice-2.result.now ≡ negated kept.clause = c.as_slice-2.ensures ∙ c.in_ok-cube.ensures ∙ ap negated clause in
    rw cube (negated-IsCube system.width kept.clause is)

pub returns-in-Kept-clause-settled : goal.returns-in-Kept-clause-settled
returns-in-Kept-clause-settled g c =
    let system = g.M.Machine.system c.args.machine.now in
    let levels = c.args.frames.now in
    let place = c.args.place in
    let index = c.args.index in
    let advance = c.in_ok-advance-in-Kept.ensures in
    let kept = advance.0 in
    let clause : c.as_slice.result.now ≡ kept.clause = c.as_slice.ensures ∙ c.in_ok-clause.ensures ∙ clause_in_is levels place index kept advance.1 in
    let cube : c.as_slice-2.result.now ≡ negated kept.clause =
    c.as_slice-2.ensures ∙ c.in_ok-cube.ensures ∙ ap negated clause in
    let answer : IsEntered system c.args.frame.now false c.as_slice-2.result.now c.in_ok-entry.field-0 = c.in_ok-entry.ensures.answer in
    let none : HasNoEntry system c.args.frame.now false c.as_slice-2.result.now = rw c.in-Kept.is at answer in
    let within : suc place < length levels = omega (arith, c.requires.place) in
    let new : c.advance.new.self ≡ moved levels place index kept =
    advance.2 ∙ ap (λ (n : ℕ). set (set levels place (remove (get_or levels place []) index)) n (get_or levels n [] ++ kept ∷ [])) (add-one place) in
    rw new
    (moved_settles system levels c.args.frame.now place index kept c.requires.ready within advance.1 c.requires.same
    (subst (HasNoEntry system c.args.frame.now false) cube none))

pub returns-clause-settled : goal.returns-clause-settled
returns-clause-settled g c =
    let system = g.M.Machine.system c.args.machine.now in
    let levels = c.args.frames.now in
    let place = c.args.place in
    let index = c.args.index in
    let note = c.note.ensures in
    let kept = note.0 in
    let entry = c.in-Found.entry in
    let clause : c.as_slice.result.now ≡ kept.clause = c.as_slice.ensures ∙ c.in_ok-clause.ensures ∙ clause_in_is levels place index kept note.1 in
    let cube : c.as_slice-2.result.now ≡ negated kept.clause =
    c.as_slice-2.ensures ∙ c.in_ok-cube.ensures ∙ ap negated clause in
    let answer : IsEntered system c.args.frame.now false c.as_slice-2.result.now c.in_ok-entry.field-0 = c.in_ok-entry.ensures.answer in
    let found : IsEntry system c.args.frame.now false c.as_slice-2.result.now entry = rw c.in-Found.is at answer in
    let P : List ℤ → Type 0 = λ literals. IsEntry system c.args.frame.now false literals entry in
    let is : IsEntry system c.args.frame.now false (negated kept.clause) entry = subst P cube found in
    let member = kept_in levels place index kept note.1 in
    let within : place < length levels = omega (arith, c.requires.place) in
    rw note.2
    (noted_settles system levels place index kept entry c.requires.ready within note.1 is.follows
    (missed_in system levels place kept.clause entry.after c.requires.ready member is.inside))

pub returns-clause-stays : goal.returns-clause-stays
returns-clause-stays g c =
    let system = g.M.Machine.system c.args.machine.now in
    let levels = c.args.frames.now in
    let place = c.args.place in
    let index = c.args.index in
    let note = c.note.ensures in
    let kept = note.0 in
    let entry = c.in-Found.entry in
    let clause : c.as_slice.result.now ≡ kept.clause = c.as_slice.ensures ∙ c.in_ok-clause.ensures ∙ clause_in_is levels place index kept note.1 in
    let cube : c.as_slice-2.result.now ≡ negated kept.clause =
    c.as_slice-2.ensures ∙ c.in_ok-cube.ensures ∙ ap negated clause in
    let answer : IsEntered system c.args.frame.now false c.as_slice-2.result.now c.in_ok-entry.field-0 = c.in_ok-entry.ensures.answer in
    let found : IsEntry system c.args.frame.now false c.as_slice-2.result.now entry = rw c.in-Found.is at answer in
    let P : List ℤ → Type 0 = λ literals. IsEntry system c.args.frame.now false literals entry in
    let is : IsEntry system c.args.frame.now false (negated kept.clause) entry = subst P cube found in
    let member = kept_in levels place index kept note.1 in
    let within : place < length levels = omega (arith, c.requires.place) in
    let stuck = stuck_found system levels c.args.frame.now place kept.clause entry c.requires.ready member c.requires.same is in (
      subst (IsStuck system c.args.frame.now) (sym c.in_ok-state-in-Found.ensures) stuck,
      ap (λ ls. length (get_or ls place [])) note.2 ∙ noted_count levels place index kept entry within,
    )
