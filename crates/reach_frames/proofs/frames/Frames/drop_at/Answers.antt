use Rattle.std.proofs.Common.{◌≡◌, [], List, get_or, set, sym, ap, ◌∙◌, subst}
use Rattle.std.specs.List.{remove}
use Rattle.word_pool.specs.Region.{list_of}
use Rattle.reach_frames.specs.Pooled.{levels_of, AreHeldOnce, TakesOut}
use Rattle.reach_frames.specs.declared.level.KeptClause.{KeptClause}
use Rattle.reach_frames.specs.declared.level.Pooled.{Pooled}
use Rattle.reach_frames.proofs.Pooling.{cut_once, cut_out_view, index_in, live_by_use, place_in, read_level, used_at}
use Rattle.reach_frames.proofs.frames.Frames.drop_at.Goals as goal

pub give_back-requires : goal.give_back-requires
give_back-requires c =
    let frames = c.self.inside in
    let items = frames.levels.items in
    let held = list_of frames.pool in
    let levels = c.args.self.now in
    let place = c.args.place in
    let index = c.args.index in
    let view : levels_of held items ≡ levels = c.self.view_is in
    let within = place_in held items levels place view c.requires.place in
    let inside = index_in held items levels place index view c.requires.place c.requires.index in
    let pooled = c.remove-pooled.result in
    let level : c.index_mut.result.now ≡ get_or items place [] = read_level items place c.index_mut.result.now within c.index_mut.ensures.value in
    let at : pooled ≡ get_or (get_or items place []) index pooled = c.remove-pooled.ensures.value ∙ ap (λ (l : List Pooled). get_or l index pooled) level in
    let rest : c.remove-pooled.new.self ≡ remove (get_or items place []) index = c.remove-pooled.ensures.rest ∙ ap (λ (l : List Pooled). remove l index) level in
    record { live = live_by_use held items pooled.id c.self.invariant (used_at items place index pooled within inside at) }

pub invariant_of-self : goal.invariant_of-self
invariant_of-self c =
    let frames = c.self.inside in
    let items = frames.levels.items in
    let held = list_of frames.pool in
    let levels = c.args.self.now in
    let place = c.args.place in
    let index = c.args.index in
    let view : levels_of held items ≡ levels = c.self.view_is in
    let within = place_in held items levels place view c.requires.place in
    let inside = index_in held items levels place index view c.requires.place c.requires.index in
    let pooled = c.remove-pooled.result in
    let level : c.index_mut.result.now ≡ get_or items place [] = read_level items place c.index_mut.result.now within c.index_mut.ensures.value in
    let at : pooled ≡ get_or (get_or items place []) index pooled = c.remove-pooled.ensures.value ∙ ap (λ (l : List Pooled). get_or l index pooled) level in
    let rest : c.remove-pooled.new.self ≡ remove (get_or items place []) index = c.remove-pooled.ensures.rest ∙ ap (λ (l : List Pooled). remove l index) level in
    let held' = list_of c.give_back.new.self in
    let out : TakesOut held held' pooled.id = record { gone = c.give_back.ensures.gone; others = c.give_back.ensures.others } in
    subst (λ (l : List Pooled). AreHeldOnce held' (set items place l)) (sym rest)
    (cut_once held held' items place index pooled c.self.invariant within inside at out)

pub returns : goal.returns
returns c =
    let frames = c.self.inside in
    let items = frames.levels.items in
    let held = list_of frames.pool in
    let levels = c.args.self.now in
    let place = c.args.place in
    let index = c.args.index in
    let view : levels_of held items ≡ levels = c.self.view_is in
    let within = place_in held items levels place view c.requires.place in
    let inside = index_in held items levels place index view c.requires.place c.requires.index in
    let pooled = c.remove-pooled.result in
    let level : c.index_mut.result.now ≡ get_or items place [] = read_level items place c.index_mut.result.now within c.index_mut.ensures.value in
    let at : pooled ≡ get_or (get_or items place []) index pooled = c.remove-pooled.ensures.value ∙ ap (λ (l : List Pooled). get_or l index pooled) level in
    let rest : c.remove-pooled.new.self ≡ remove (get_or items place []) index = c.remove-pooled.ensures.rest ∙ ap (λ (l : List Pooled). remove l index) level in
    let held' = list_of c.give_back.new.self in
    let out : TakesOut held held' pooled.id = record { gone = c.give_back.ensures.gone; others = c.give_back.ensures.others } in
    ap (λ (l : List Pooled). levels_of held' (set items place l)) rest
    ∙ cut_out_view held held' items place index pooled c.self.invariant within inside at out
    ∙ ap (λ (ls : List (List KeptClause)). set ls place (remove (get_or ls place []) index)) view
