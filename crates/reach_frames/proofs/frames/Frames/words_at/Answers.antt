use Rattle.std.proofs.Common.{◌≡◌, [], List, get_or, ap, ◌∙◌}
use Rattle.word_pool.specs.Region.{list_of}
use Rattle.reach_frames.specs.Pooled.{levels_of}
use Rattle.reach_frames.specs.declared.level.Pooled.{Pooled}
use Rattle.reach_frames.proofs.Pooling.{clause_here, index_in, live_by_use, place_in, read_level, used_at}
use Rattle.reach_frames.proofs.frames.Frames.words_at.Goals as goal

pub get-requires : goal.get-requires
get-requires c =
    let frames = c.self.inside in
    let items = frames.levels.items in
    let held = list_of frames.pool in
    let levels = c.args.self.now in
    let place = c.args.place in
    let index = c.args.index in
    let view : levels_of held items ≡ levels = c.self.view_is in
    let within = place_in held items levels place view c.requires.place in
    let inside = index_in held items levels place index view c.requires.place c.requires.index in
    let pooled = c.index-as_slice-index.result in
    let level : c.as_slice.result.now ≡ get_or items place [] = c.as_slice.ensures ∙ read_level items place c.index.result.now within c.index.ensures in
    let at : pooled ≡ get_or (get_or items place []) index pooled = c.index-as_slice-index.is ∙ ap (λ (l : List Pooled). get_or l index pooled) level in
    record { live = live_by_use held items pooled.id c.self.invariant (used_at items place index pooled within inside at) }

pub returns : goal.returns
returns c =
    let frames = c.self.inside in
    let items = frames.levels.items in
    let held = list_of frames.pool in
    let levels = c.args.self.now in
    let place = c.args.place in
    let index = c.args.index in
    let view : levels_of held items ≡ levels = c.self.view_is in
    let within = place_in held items levels place view c.requires.place in
    let inside = index_in held items levels place index view c.requires.place c.requires.index in
    let pooled = c.index-as_slice-index.result in
    let level : c.as_slice.result.now ≡ get_or items place [] = c.as_slice.ensures ∙ read_level items place c.index.result.now within c.index.ensures in
    let at : pooled ≡ get_or (get_or items place []) index pooled = c.index-as_slice-index.is ∙ ap (λ (l : List Pooled). get_or l index pooled) level in
    clause_here held items levels place index pooled c.get.result.now view c.requires.place c.requires.index at c.get.ensures.list
