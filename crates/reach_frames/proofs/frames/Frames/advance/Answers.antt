use Rattle.std.proofs.Common.{◌≡◌, ◌+◌, ◌<◌, ◌∷◌, ◌++◌, [], List, length, get_or, set, ap, ◌∙◌, arith, length-set}
use Rattle.std.specs.List.{remove}
use Rattle.word_pool.specs.Region.{Region, list_of}
use Rattle.reach_frames.specs.Pooled.{kept_of, levels_of}
use Rattle.reach_frames.specs.declared.level.Pooled.{Pooled}
use Rattle.reach_frames.proofs.Pooling.{kept_here, moved_on_view, place_in, pushed, read_level}
use Rattle.reach_frames.proofs.frames.Frames.advance.Goals as goal

pub returns : goal.returns
returns c =
    let frames = c.self.inside in
    let items = frames.levels.items in
    let held = list_of frames.pool in
    let levels = c.args.self.now in
    let place = c.args.place in
    let index = c.args.index in
    let pooled = c.remove-pooled.result in
    let left = c.remove-pooled.new.self in
    let view : levels_of held items ≡ levels = c.self.view_is in
    let first : place < length levels = omega (arith, c.requires.place) in
    let within = place_in held items levels place view first in
    let beyond = place_in held items levels (place + 1) view c.requires.place in
    let level : c.index_mut.result.now ≡ get_or items place [] = read_level items place c.index_mut.result.now within c.index_mut.ensures.value in
    let at : pooled ≡ get_or (get_or items place []) index pooled = c.remove-pooled.ensures.value ∙ ap (λ (l : List Pooled). get_or l index pooled) level in
    let rest : left ≡ remove (get_or items place []) index = c.remove-pooled.ensures.rest ∙ ap (λ (l : List Pooled). remove l index) level in
    let count : place + 1 < length (set items place left) = omega (arith, beyond, length-set items place left) in
    let next : c.index_mut-2.result.now ≡ get_or (set items place left) (place + 1) [] = read_level (set items place left) (place + 1) c.index_mut-2.result.now count c.index_mut-2.ensures.value in
    let ok = c.in_ok-push.ensures.ok in
    let new : c.push.new.level ≡ get_or (set items place left) (place + 1) [] ++ pooled ∷ [] = ok.1 ∙ ap (λ (l : List Pooled). l ++ pooled ∷ []) next in (
      kept_of held pooled,
      kept_here held items levels place index pooled view first c.requires.index at,
      ap (λ (r : Region). levels_of (list_of r) (set (set items place left) (place + 1) c.push.new.level)) ok.0
          ∙ ap (λ (l : List Pooled). levels_of held (set (set items place left) (place + 1) l)) new
          ∙ ap (λ (l : List Pooled). levels_of held (pushed (set items place l) (place + 1) pooled)) rest
          ∙ moved_on_view held items levels place index pooled view beyond,
    )
