use Rattle.std.proofs.Common.{◌≡◌, ◌<◌, ◌≤◌, Bool, true, false, not, [], None, length, get_or, set, sym, ap, ◌∙◌, arith}
use Rattle.std.proofs.lemmas.List.{set-get_or}
use Rattle.std.proofs.lemmas.Option.{slice_get-get_or}
use Rattle.reach_frames.specs.Marks.{is_part}
use Rattle.reach_frames.specs.declared.level.KeptClause.{KeptClause}
use Rattle.reach_frames.proofs.Dropping.{gone_all, gone_none, gone_past, out_of_one}
use Rattle.reach_frames.proofs.Pooling.{clause_in_is, part_of_words}
use Rattle.reach_frames.proofs.frames.Frames.drop_weaker_at.Goals as goal

abbrev no_kept : KeptClause
no_kept = record { clause = []; witness = None }

pub loop-index-init : goal.loop-index-init
loop-index-init c =
    let levels = c.args.self.now in
    let level = get_or levels c.args.place [] in
    record {
      within = c.requires;
      others = sym (set-get_or levels c.args.place []);
      gone = gone_none (λ (kept : KeptClause). not (is_part c.args.clause.now kept.clause)) level;
    }

pub loop-index-preserved-then-have_part : goal.loop-index-preserved-then-have_part
loop-index-preserved-then-have_part c =
    let levels = c.loop-index.self in
    let place = c.args.place in
    let index = c.loop-index.index in
    let clause = c.args.clause.now in
    let level = get_or levels place [] in
    let kept = get_or level index no_kept in
    let inside : index < length level = omega (arith, c.loop-index-test.true, c.count_at.ensures) in
    let at = slice_get-get_or level index no_kept inside in
    let same : is_part clause kept.clause ≡ c.have_part.result =
    ap (is_part clause) (sym (c.words_at.ensures ∙ clause_in_is levels place index kept at)) ∙ part_of_words clause c.words_at.result.now ∙ sym c.have_part.ensures in
    let inv = c.loop-index.invariant in
    let old = c.args.self.now in
    let test : KeptClause → Bool = λ kept. not (is_part clause kept.clause) in
    let fails : test kept ≡ false = ap not (same ∙ c.if-have_part.true) in
    let out = out_of_one test old levels c.drop_at.new.self place index no_kept inv.within inv.others inv.gone inside fails c.drop_at.ensures in
    record { within = out.0; others = out.1; gone = out.2 }

pub loop-index-preserved : goal.loop-index-preserved
loop-index-preserved c =
    let levels = c.loop-index.self in
    let place = c.args.place in
    let index = c.loop-index.index in
    let clause = c.args.clause.now in
    let level = get_or levels place [] in
    let kept = get_or level index no_kept in
    let inside : index < length level = omega (arith, c.loop-index-test.true, c.count_at.ensures) in
    let at = slice_get-get_or level index no_kept inside in
    let same : is_part clause kept.clause ≡ c.have_part.result =
    ap (is_part clause) (sym (c.words_at.ensures ∙ clause_in_is levels place index kept at)) ∙ part_of_words clause c.words_at.result.now ∙ sym c.have_part.ensures in
    let inv = c.loop-index.invariant in
    let old = c.args.self.now in
    let test : KeptClause → Bool = λ kept. not (is_part clause kept.clause) in
    let passes : test kept ≡ true = ap not (same ∙ c.if-have_part.false) in
    record {
      within = inv.within;
      others = inv.others;
      gone = gone_past test (get_or old place []) level index no_kept inv.gone inside passes;
    }

pub returns : goal.returns
returns c =
    let levels = c.loop-index.self in
    let old = c.args.self.now in
    let place = c.args.place in
    let test : KeptClause → Bool = λ kept. not (is_part c.args.clause.now kept.clause) in
    let end : length (get_or levels place []) ≤ c.loop-index.index = omega (arith, c.loop-index-test.false, c.count_at.ensures) in
    c.loop-index.invariant.others
    ∙ ap (set old place) (gone_all test (get_or old place []) (get_or levels place []) c.loop-index.index c.loop-index.invariant.gone end)
