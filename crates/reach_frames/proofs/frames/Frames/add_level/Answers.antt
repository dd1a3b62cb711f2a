use Rattle.std.proofs.Common.{◌<◌, ◌≤◌, ◌∷◌, ◌++◌, [], length, get_or, take, sym, ap, ◌∙◌, arith, append_assoc}
use Rattle.std.proofs.lemmas.List.{length-map, take_all, take_more}
use Rattle.std.proofs.lemmas.List.Sums.{AllPass-from_list_all}
use Rattle.clauses.specs.declared.flat.TheConstants.{MOST_VARIABLES}
use Rattle.clauses.specs.Literals.{clause_within}
use Rattle.reach_frames.specs.Levels.{clauses_of}
use Rattle.reach_frames.specs.declared.level.KeptClause.{KeptClause}
use Rattle.reach_frames.proofs.frames.Frames.add_level.Goals as goal

pub add_clause-requires : goal.add_clause-requires
add_clause-requires c =
    let level = get_or c.args.self.now c.args.place [] in
    let index = c.loop-index.index in
    let within : index < length (clauses_of level) = omega (arith, length-map level (λ (k : KeptClause). k.clause), c.loop-index-test.true, c.count_at-index-end.ensures) in
    ap (clause_within MOST_VARIABLES) c.words_at.ensures
    ∙ AllPass-from_list_all (clause_within MOST_VARIABLES) (clauses_of level) c.requires.within index [] within

pub loop-index-preserved : goal.loop-index-preserved
loop-index-preserved c =
    let level = get_or c.args.self.now c.args.place [] in
    let index = c.loop-index.index in
    let old = c.args.clauses.now in
    let within : index < length (clauses_of level) = omega (arith, length-map level (λ (k : KeptClause). k.clause), c.loop-index-test.true, c.count_at-index-end.ensures) in
    c.in_ok-add_clause.ensures
    ∙ ap (λ clause. c.loop-index.clauses ++ clause ∷ []) c.words_at.ensures
    ∙ ap (λ clauses. clauses ++ get_or (clauses_of level) index [] ∷ []) c.loop-index.invariant
    ∙ append_assoc old (take index (clauses_of level)) (get_or (clauses_of level) index [] ∷ [])
    ∙ ap (λ more. old ++ more) (sym (take_more (clauses_of level) index [] within))

pub returns : goal.returns
returns c =
    let level = get_or c.args.self.now c.args.place [] in
    let past : length (clauses_of level) ≤ c.loop-index.index = omega (arith, length-map level (λ (k : KeptClause). k.clause), c.loop-index-test.false, c.count_at-index-end.ensures) in
    c.loop-index.invariant ∙ ap (λ more. c.args.clauses.now ++ more) (take_all c.loop-index.index (clauses_of level) past)
