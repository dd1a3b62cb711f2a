use Rattle.std.proofs.Common.{◌≡◌, ◌-◌, suc, ◌∷◌, length, drop, subst, sym, ap, ◌∙◌, arith}
use Rattle.gates_formula.specs.Marks.{AreMarks}
use Rattle.gates_formula.proofs.Additions.{Clauses, clause-within, left-at}
use Rattle.gates_formula.proofs.Marked.{marks-more}
use Rattle.gates_formula.proofs.Reached.{literals_of}
use Rattle.gates_formula.proofs.wanted.marks_of.Goals as goal

pub mark-requires-clause-within : goal.mark-requires-clause-within
mark-requires-clause-within c =
    let n : length c.loop-i.marks - 1 ≡ c.args.variables = omega (arith, c.loop-i.invariant.size) in
    rw n (clause-within c.args.variables c.args.clauses.now (c.loop-i.i - 1) c.at.result.now c.at.ensures.is c.requires.within)

pub loop-i-preserved : goal.loop-i-preserved
loop-i-preserved c =
    let clauses = c.args.clauses.now in
    let place = c.loop-i.i - 1 in
    let next : suc place ≡ c.loop-i.i = omega arith in
    let left : drop place clauses ≡ c.at.result.now ∷ drop c.loop-i.i clauses = left-at clauses place c.at.result.now c.at.ensures.is ∙ ap (λ i. c.at.result.now ∷ drop i clauses) next in
    record {
      size = c.mark.ensures.size ∙ c.loop-i.invariant.size;
      marks = subst (λ (rest : Clauses). AreMarks c.mark.new.marks (literals_of rest)) (sym left)
          (marks-more c.at.result.now (literals_of (drop c.loop-i.i clauses)) c.loop-i.marks c.mark.new.marks c.mark.ensures.size c.mark.ensures.marks c.loop-i.invariant.marks);
    }

pub returns-clause-marks : goal.returns-clause-marks
returns-clause-marks c =
    let none : c.loop-i.i ≡ 0 = omega arith in
    subst (λ i. AreMarks c.loop-i.marks (literals_of (drop i c.args.clauses.now))) none c.loop-i.invariant.marks
