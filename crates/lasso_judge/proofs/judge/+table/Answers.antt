use Rattle.std.proofs.Common.{ap, sym, subst, Bool as Truth, Vec, Global, ℕ, List, length}
use Rattle.std.specs.Prelude.{not}
use Rattle.psl_tree.specs.Clockless.{IsPlain}
use Rattle.psl_tree.specs.Trees.{boolean_of, sequence_of, formula_of}
use Rattle.psl_tree.specs.declared.fl.Fl.{Fl}
use Rattle.lasso_tables.specs.Seen.{course_by}
use Rattle.lasso_tables.specs.Tables.{Tells}
use Rattle.lasso_judge.proofs.Forms.{told, suffix-ok, not-tells, next-tells, until-tells, abort-tells}
use Rattle.lasso_judge.proofs.judge.+table.Goals as goal

pub returns-in_ok-values-in-Not : goal.returns-in_ok-values-in-Not
returns-in_ok-values-in-Not t c =
    let course = course_by c.args.word.now (not c.args.flipped) c.args.next.now in
    let f = formula_of c.in-Not.part.value in
    subst (λ (g : Fl). Tells (course_by c.args.word.now c.args.flipped c.args.next.now) (length c.args.next.now) (formula_of g) c.in_ok-values-in-Not.values.items) (sym c.in-Not.is)
    (not-tells c.args.word.now c.args.flipped c.args.next.now f c.deref-in-Not.result.now c.in_ok-values-in-Not.values.items
    (told course (length c.args.next.now) (formula_of c.deref.result.now) f c.in_ok-part-in-Not.part.items c.deref-in-Not.result.now
    (ap (λ (g : Fl). formula_of g) c.deref.ensures) c.deref-in-Not.ensures.value c.in_ok-part-in-Not.ensures)
    c.in_ok-values-in-Not.ensures)

pub returns-in_ok-values-in-Next : goal.returns-in_ok-values-in-Next
returns-in_ok-values-in-Next t c =
    let course = course_by c.args.word.now c.args.flipped c.args.next.now in
    let f = formula_of c.in-Next.part.value in
    subst (λ (g : Fl). Tells (course_by c.args.word.now c.args.flipped c.args.next.now) (length c.args.next.now) (formula_of g) c.in_ok-values-in-Next.values.items) (sym c.in-Next.is)
    (next-tells c.args.word.now c.args.flipped c.args.next.now f c.deref-in-Next-2.result.now c.in_ok-values-in-Next.values.items c.requires.whole
    (told course (length c.args.next.now) (formula_of c.deref-in-Next.result.now) f c.in_ok-part-in-Next.part.items c.deref-in-Next-2.result.now
    (ap (λ (g : Fl). formula_of g) c.deref-in-Next.ensures) c.deref-in-Next-2.ensures.value c.in_ok-part-in-Next.ensures)
    c.in_ok-values-in-Next.ensures)

pub returns-in_ok-right-in-Until : goal.returns-in_ok-right-in-Until
returns-in_ok-right-in-Until t c =
    let course = course_by c.args.word.now c.args.flipped c.args.next.now in
    let f = formula_of c.in-Until.left.value in
    let g = formula_of c.in-Until.right.value in
    subst (λ (g : Fl). Tells (course_by c.args.word.now c.args.flipped c.args.next.now) (length c.args.next.now) (formula_of g) c.reached.result.items) (sym c.in-Until.is)
    (until-tells c.args.word.now c.args.flipped c.args.next.now f g c.deref-in-Until-3.result.now c.in_ok-right-in-Until.right.items c.reached.result.items c.requires.whole
    (told course (length c.args.next.now) (formula_of c.deref-in-Until.result.now) f c.in_ok-left-in-Until.left.items c.deref-in-Until-3.result.now
    (ap (λ (g : Fl). formula_of g) c.deref-in-Until.ensures) c.deref-in-Until-3.ensures.value c.in_ok-left-in-Until.ensures)
    (subst (λ (h : Fl). Tells (course_by c.args.word.now c.args.flipped c.args.next.now) (length c.args.next.now) (formula_of h) c.in_ok-right-in-Until.right.items) c.deref-in-Until-2.ensures
    c.in_ok-right-in-Until.ensures)
    c.reached.ensures)

pub returns-in_ok-part-in-Suffix : goal.returns-in_ok-part-in-Suffix
returns-in_ok-part-in-Suffix t c =
    let f = formula_of c.in-Suffix.part.value in
    suffix-ok c.suffix.result (λ (v : Vec Truth Global). v.items) (course_by c.args.word.now c.args.flipped c.args.next.now) (length c.args.next.now) (sequence_of c.in-Suffix.r) f
    (formula_of c.args.f.now) c.deref-in-Suffix-2.result.now (ap (λ (g : Fl). formula_of g) c.in-Suffix.is)
    (told (course_by c.args.word.now c.args.flipped c.args.next.now) (length c.args.next.now) (formula_of c.deref-in-Suffix.result.now) f c.in_ok-part-in-Suffix.part.items c.deref-in-Suffix-2.result.now
    (ap (λ (g : Fl). formula_of g) c.deref-in-Suffix.ensures) c.deref-in-Suffix-2.ensures.value c.in_ok-part-in-Suffix.ensures)
    c.suffix.ensures

pub returns-in_ok-values-in-Abort : goal.returns-in_ok-values-in-Abort
returns-in_ok-values-in-Abort t c =
    let f = formula_of c.in-Abort.part.value in
    let stopped = c.in_ok-stopped-in-Abort.ensures.stopped in
    subst (λ (g : Fl). Tells (course_by c.args.word.now c.args.flipped c.args.next.now) (length c.args.next.now) (formula_of g) c.in_ok-values-in-Abort.values.items) (sym c.in-Abort.is)
    (abort-tells c.args.word.now c.args.flipped c.args.next.now f (subst (λ (g : Fl). IsPlain (formula_of g)) c.in-Abort.is c.requires.plain) (boolean_of c.in-Abort.test)
    c.in_ok-stopped-in-Abort.stopped.sink c.in_ok-stopped-in-Abort.stopped.stops.items c.deref-in-Abort-2.result.now c.in_ok-values-in-Abort.values.items c.in_ok-stopped-in-Abort.stopped.next.items
    c.requires.whole stopped.stops stopped.leads stopped.sink
    (subst (λ (next : List ℕ). Tells (course_by c.args.word.now c.args.flipped next) (length next) f c.deref-in-Abort-2.result.now) c.as_slice.ensures.value
    (told (course_by c.args.word.now c.args.flipped c.as_slice.result.now) (length c.as_slice.result.now) (formula_of c.deref-in-Abort.result.now) f
    c.in_ok-part-in-Abort.part.items c.deref-in-Abort-2.result.now
    (ap (λ (g : Fl). formula_of g) c.deref-in-Abort.ensures) c.deref-in-Abort-2.ensures.value c.in_ok-part-in-Abort.ensures))
    c.in_ok-values-in-Abort.ensures)
