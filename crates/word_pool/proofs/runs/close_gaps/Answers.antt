use Rattle.std.proofs.Common.{arith, ◌∙◌}
use Rattle.word_pool.proofs.Slots.{moved_lists, slots_length_same}
use Rattle.word_pool.proofs.runs.close_gaps.Goals as goal

pub returns-clause-lists : goal.returns-clause-lists
returns-clause-lists c =
    let marked = c.mark_runs.ensures in
    let slid = c.slide_runs.ensures in
    moved_lists c.slide_runs.new.words c.slide_runs.result c.requires.laid_out slid.laid_out (omega arith)
    (record {
      size = slid.lengths.size ∙ marked.lengths.size;
      live = λ id. slid.lengths.live id ∙ marked.lengths.live id;
      lengths = λ id. slid.lengths.lengths id ∙ marked.lengths.lengths id;
    })
    (λ id k lt. slid.kept id k (omega (arith, marked.lengths.lengths id)) ∙ marked.kept id k lt)

pub returns-clause-end : goal.returns-clause-end
returns-clause-end c = c.slide_runs.ensures.end ∙ slots_length_same c.mark_runs.ensures.lengths
