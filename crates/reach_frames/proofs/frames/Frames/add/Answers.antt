use Rattle.std.proofs.Common.{◌≡◌, ℕ, ◌+◌, ◌∷◌, ◌++◌, [], ℤ, List, None, length, get_or, set, map, take, drop, ap, ◌∙◌, arith, add-one}
use Rattle.reach_frames.specs.Marks.{without_weaker}
use Rattle.reach_frames.specs.declared.level.KeptClause.{KeptClause}
use Rattle.reach_frames.proofs.Sifting.{sifted, count_sifted, level_at_sifted}
use Rattle.reach_frames.proofs.frames.Frames.add.Goals as goal

abbrev sifted_to : List ℤ → ℕ → List (List KeptClause) → List (List KeptClause)
sifted_to clause count levels = map (without_weaker clause) (take count levels) ++ drop count levels

pub keep-requires : goal.keep-requires
keep-requires c =
    let old = c.args.self.now in
    let level = c.args.level in
    let clause = c.args.clause in
    let mid : c.drop_weaker.new.self ≡ sifted clause level old =
    c.drop_weaker.ensures ∙ ap (λ (l : List ℤ). sifted_to l (level + 1) old) c.as_slice-2.ensures ∙ ap (λ (n : ℕ). sifted_to clause n old) (add-one level) in
    omega (arith, c.requires, ap length mid, count_sifted clause level old)

pub returns-clause-grows : goal.returns-clause-grows
returns-clause-grows c = λ none.
    let old = c.args.self.now in
    let level = c.args.level in
    let clause = c.args.clause in
    let mid = c.drop_weaker.new.self in
    let kept : KeptClause = record { clause = clause; witness = None } in
    let is : mid ≡ sifted_to clause (level + 1) old = c.drop_weaker.ensures ∙ ap (λ (l : List ℤ). sifted_to l (level + 1) old) c.as_slice-2.ensures in
    let here : get_or mid level [] ≡ without_weaker clause (get_or old level []) =
    ap (λ (ls : List (List KeptClause)). get_or ls level []) (is ∙ ap (λ (n : ℕ). sifted_to clause n old) (add-one level)) ∙ level_at_sifted clause level old in
    c.in_ok-keep.ensures
    ∙ ap (λ (ls : List (List KeptClause)). set ls level (get_or mid level [] ++ kept ∷ [])) is
    ∙ ap (λ (l : List KeptClause). set (sifted_to clause (level + 1) old) level (l ++ kept ∷ [])) here
