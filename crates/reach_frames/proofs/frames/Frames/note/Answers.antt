use Rattle.std.proofs.Common.{◌≡◌, [], List, Some, get_or, set, sym, ap, ◌∙◌, subst, refl}
use Rattle.word_pool.specs.Region.{list_of}
use Rattle.reach_frames.specs.Pooled.{kept_of, levels_of, AreHeldOnce}
use Rattle.reach_frames.specs.declared.level.KeptClause.{KeptClause}
use Rattle.reach_frames.specs.declared.level.Pooled.{Pooled}
use Rattle.std.proofs.lemmas.Option.{get_or_from_slice_get}
use Rattle.reach_frames.proofs.Pooling.{kept_here, index_in, noted_once, noted_view, place_in, read_level}
use Rattle.reach_frames.proofs.frames.Frames.note.Goals as goal

pub invariant_of-self : goal.invariant_of-self
invariant_of-self c =
    let frames = c.self.inside in
    let items = frames.levels.items in
    let held = list_of frames.pool in
    let levels = c.args.self.now in
    let place = c.args.place in
    let index = c.args.index in
    let view : levels_of held items ≡ levels = c.self.view_is in
    let within = place_in held items levels place view c.requires.place in
    let inside = index_in held items levels place index view c.requires.place c.requires.index in
    let note = c.note.ensures in
    let pooled = note.0 in
    let level : c.index_mut.result.now ≡ get_or items place [] = read_level items place c.index_mut.result.now within c.index_mut.ensures.value in
    let other : Pooled = record pooled { witness = Some c.args.witness } in
    let at : pooled ≡ get_or (get_or items place []) index pooled = sym (ap (λ (l : List Pooled). get_or l index pooled) (sym level) ∙ get_or_from_slice_get c.index_mut.result.now index pooled pooled note.1) in
    let new : c.note.new.self ≡ set (get_or items place []) index other = note.2 ∙ ap (λ (l : List Pooled). set l index other) level in
    subst (λ (l : List Pooled). AreHeldOnce held (set items place l)) (sym new)
    (noted_once held items place index pooled other c.self.invariant within inside at refl)

pub returns : goal.returns
returns c =
    let frames = c.self.inside in
    let items = frames.levels.items in
    let held = list_of frames.pool in
    let levels = c.args.self.now in
    let place = c.args.place in
    let index = c.args.index in
    let view : levels_of held items ≡ levels = c.self.view_is in
    let within = place_in held items levels place view c.requires.place in
    let inside = index_in held items levels place index view c.requires.place c.requires.index in
    let note = c.note.ensures in
    let pooled = note.0 in
    let level : c.index_mut.result.now ≡ get_or items place [] = read_level items place c.index_mut.result.now within c.index_mut.ensures.value in
    let other : Pooled = record pooled { witness = Some c.args.witness } in
    let at : pooled ≡ get_or (get_or items place []) index pooled = sym (ap (λ (l : List Pooled). get_or l index pooled) (sym level) ∙ get_or_from_slice_get c.index_mut.result.now index pooled pooled note.1) in
    let new : c.note.new.self ≡ set (get_or items place []) index other = note.2 ∙ ap (λ (l : List Pooled). set l index other) level in (
      kept_of held pooled,
      kept_here held items levels place index pooled view c.requires.place c.requires.index at,
      ap (λ (l : List Pooled). levels_of held (set items place l)) new
          ∙ noted_view held items place index other within
          ∙ ap (λ (ls : List (List KeptClause)). set ls place (set (get_or ls place []) index (kept_of held other))) view,
    )
