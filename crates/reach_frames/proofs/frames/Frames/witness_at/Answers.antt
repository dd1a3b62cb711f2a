use Rattle.std.proofs.Common.{◌≡◌, [], List, get_or, ap, ◌∙◌}
use Rattle.word_pool.specs.Region.{list_of}
use Rattle.reach_frames.specs.Pooled.{kept_of, levels_of}
use Rattle.reach_frames.specs.declared.level.Pooled.{Pooled}
use Rattle.reach_frames.proofs.Pooling.{kept_here, index_in, place_in, read_level}
use Rattle.reach_frames.proofs.frames.Frames.witness_at.Goals as goal

pub returns : goal.returns
returns c =
    let frames = c.self.inside in
    let items = frames.levels.items in
    let held = list_of frames.pool in
    let levels = c.args.self.now in
    let place = c.args.place in
    let index = c.args.index in
    let view : levels_of held items ≡ levels = c.self.view_is in
    let within = place_in held items levels place view c.requires.place in
    let inside = index_in held items levels place index view c.requires.place c.requires.index in
    let pooled = c.index-as_slice-index.result in
    let level : c.as_slice.result.now ≡ get_or items place [] = c.as_slice.ensures ∙ read_level items place c.index.result.now within c.index.ensures in
    let at : pooled ≡ get_or (get_or items place []) index pooled = c.index-as_slice-index.is ∙ ap (λ (l : List Pooled). get_or l index pooled) level in
    (kept_of held pooled, kept_here held items levels place index pooled view c.requires.place c.requires.index at, ap (λ (p : Pooled). p.witness) c.index-as_slice-index.is)
