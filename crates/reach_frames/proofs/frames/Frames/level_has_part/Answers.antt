use Rattle.std.proofs.Common.{◌<◌, ◌≤◌, ℤ, List, [], Bool, length, get_or, sym, ap, ◌∙◌, arith}
use Rattle.std.specs.Int.{cast_signed, w32}
use Rattle.std.proofs.lemmas.Bool.{or_from}
use Rattle.std.proofs.lemmas.List.{length-map, take_all}
use Rattle.std.proofs.lemmas.List.Folds.{list_all-map, list_any_at, list_any_more}
use Rattle.reach_frames.specs.Levels.{clauses_of}
use Rattle.reach_frames.specs.Marks.{has_part, is_among, is_part}
use Rattle.reach_frames.specs.declared.level.KeptClause.{KeptClause}
use Rattle.reach_frames.proofs.frames.Frames.level_has_part.Goals as goal

pub returns-then-are_part : goal.returns-then-are_part
returns-then-are_part c =
    let level = get_or c.args.self.now c.args.place [] in
    let index = c.loop-index.index in
    let test : List ℤ → Bool = λ other. is_part other c.args.clause.now in
    let within : index < length (clauses_of level) = omega (arith, length-map level (λ (k : KeptClause). k.clause), c.loop-index-test.true, c.count_at-index-end.ensures) in
    sym (list_any_at test (clauses_of level) index [] within (ap test (sym c.words_at.ensures) ∙ list_all-map (is_among c.args.clause.now) (cast_signed w32) c.words_at.result.now ∙ sym c.are_part.ensures ∙ c.if-are_part.true))

pub loop-index-preserved : goal.loop-index-preserved
loop-index-preserved c =
    let level = get_or c.args.self.now c.args.place [] in
    let index = c.loop-index.index in
    let test : List ℤ → Bool = λ other. is_part other c.args.clause.now in
    let within : index < length (clauses_of level) = omega (arith, length-map level (λ (k : KeptClause). k.clause), c.loop-index-test.true, c.count_at-index-end.ensures) in
    list_any_more test (clauses_of level) index [] within
    ∙ or_from _ _ c.loop-index.invariant (ap test (sym c.words_at.ensures) ∙ list_all-map (is_among c.args.clause.now) (cast_signed w32) c.words_at.result.now ∙ sym c.are_part.ensures ∙ c.if-are_part.false)

pub returns : goal.returns
returns c =
    let level = get_or c.args.self.now c.args.place [] in
    let past : length (clauses_of level) ≤ c.loop-index.index = omega (arith, length-map level (λ (k : KeptClause). k.clause), c.loop-index-test.false, c.count_at-index-end.ensures) in
    sym (ap (λ clauses. has_part clauses c.args.clause.now) (sym (take_all c.loop-index.index (clauses_of level) past)) ∙ c.loop-index.invariant)
