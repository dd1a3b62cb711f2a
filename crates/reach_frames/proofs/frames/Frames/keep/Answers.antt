use Rattle.std.proofs.Common.{◌≡◌, ◌∷◌, ◌++◌, [], List, get_or, set, ap, ◌∙◌}
use Rattle.word_pool.specs.Region.{Region, list_of}
use Rattle.reach_frames.specs.Pooled.{kept_of, levels_of, literals_in, literals_of}
use Rattle.reach_frames.specs.declared.level.KeptClause.{KeptClause}
use Rattle.reach_frames.specs.declared.level.Pooled.{Pooled}
use Rattle.reach_frames.proofs.Pooling.{place_in, pushed_view, read_level, same_but_new}
use Rattle.reach_frames.proofs.frames.Frames.keep.Goals as goal

pub returns : goal.returns
returns c =
    let frames = c.self.inside in
    let items = frames.levels.items in
    let held = list_of frames.pool in
    let held' = list_of c.put.new.self in
    let levels = c.args.self.now in
    let place = c.args.place in
    let kept = c.args.kept in
    let id = c.in_ok-id.id in
    let pooled : Pooled = record { id = id; witness = kept.witness } in
    let view : levels_of held items ≡ levels = c.self.view_is in
    let within = place_in held items levels place view c.requires in
    let level : c.index_mut.result.now ≡ get_or items place [] = read_level items place c.index_mut.result.now within c.index_mut.ensures.value in
    let ok = c.in_ok-push.ensures.ok in
    let new : c.push.new.level ≡ get_or items place [] ++ pooled ∷ [] = ok.1 ∙ ap (λ (l : List Pooled). l ++ pooled ∷ []) level in
    let clause : literals_in (held' id) ≡ kept.clause =
    ap literals_in c.in_ok-id.ensures.stored ∙ ap literals_of c.deref.ensures.value ∙ c.in_ok-words.ensures ∙ c.as_slice.ensures in
    let same : kept_of held' pooled ≡ kept = ap (λ literals. record { clause = literals; witness = kept.witness }) clause in
    ap (λ (r : Region). levels_of (list_of r) (set items place c.push.new.level)) ok.0
    ∙ ap (λ (l : List Pooled). levels_of held' (set items place l)) new
    ∙ pushed_view held held' items place pooled within (same_but_new held held' items id c.self.invariant c.in_ok-id.ensures.new_id c.in_ok-id.ensures.others)
    ∙ ap (λ (ls : List (List KeptClause)). set ls place (get_or ls place [] ++ kept_of held' pooled ∷ [])) view
    ∙ ap (λ (k : KeptClause). set levels place (get_or levels place [] ++ k ∷ [])) same
