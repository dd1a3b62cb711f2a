use Rattle.std.proofs.Common.{◌∙◌, ◌+◌, ◌<◌, sym, subst, false, ℕ, List, length, arith}
use Rattle.std.proofs.lemmas.List.{get_or_default}
use Rattle.psl_tree.specs.Trees.{formula_of}
use Rattle.alternating_theory.specs.Courses.{places, next_place}
use Rattle.lasso_tables.specs.Seen.{course_by, IsWhole}
use Rattle.lasso_tables.specs.Tables.{Leads, Tells}
use Rattle.lasso_judge.proofs.Followed.{own-whole}
use Rattle.lasso_judge.proofs.Forms.{word-tells}
use Rattle.lasso_judge.proofs.judge.satisfies.Goals as goal

pub table-requires-clause-whole : goal.table-requires-clause-whole
table-requires-clause-whole c = subst (λ (next : List ℕ). IsWhole c.args.word.now next) (sym c.deref.ensures.value)
    (own-whole c.args.word.now c.requires.looped c.in_ok-next.next.items c.in_ok-next.ensures)

pub returns : goal.returns
returns c =
    let leads : Leads (places c.args.word.now + 2) (λ p. next_place c.args.word.now p) c.deref.result.now =
    subst (λ (next : List ℕ). Leads (places c.args.word.now + 2) (λ p. next_place c.args.word.now p) next) (sym c.deref.ensures.value) c.in_ok-next.ensures in
    let table : Tells (course_by c.args.word.now false c.deref.result.now) (length c.deref.result.now) (formula_of c.args.f.now) c.in_ok-values.values.items = c.in_ok-values.ensures in
    let some : 0 < length c.in_ok-values.values.items = omega (arith, table.same_length, leads.same_length) in
    word-tells c.args.word.now c.requires.looped (formula_of c.args.f.now) c.deref.result.now c.in_ok-values.values.items c.index.result.now leads table
    (c.index.ensures ∙ get_or_default c.in_ok-values.values.items 0 c.index.result.now false some)
