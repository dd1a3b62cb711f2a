use Rattle.std.proofs.Common.{◌++◌, ◌∙◌, ap, arith, length, length-append}
use Rattle.clauses.specs.declared.log.Shape.TheVariants as shape
use Rattle.clauses.specs.Logs.{log_words}
use Rattle.clauses.proofs.Packed.{entries_of-push_lemma, packed-push_lemma, count-push, words_of-entries}
use Rattle.clauses.proofs.log.Log.push_lemma.Goals as goal

pub invariant_of-self-2 : goal.invariant_of-self-2
invariant_of-self-2 c =
    let log = c.self.inside in
    let packed = c.self.invariant.packed in
    let more = c.args.literals.now in
    let others = c.args.hints.now in
    let literals = c.in-Ok-Ok.ensures.items ∙ ap (λ xs. xs ++ more) c.in_ok-reserve.ensures.items in
    let hints = c.in-Ok-Ok.ensures'.items ∙ ap (λ xs. xs ++ others) c.in_ok-reserve-2.ensures.items in
    let shapes = c.in_ok-push.ensures.items in
    let count = count-push log.shapes.items (shape.Lemma (length more) (length others)) in
    record {
      packed = rw (literals, hints, shapes) (packed-push_lemma log.literals.items more log.hints.items others log.shapes.items packed c.requires.entry);
      lemmas = rw shapes (omega (arith, count, c.self.invariant.lemmas));
      few = omega (
        arith,
        c.requires.few,
        ap log_words c.self.view_is,
        words_of-entries log.literals.items log.hints.items log.shapes.items packed.literals_covered packed.hints_covered,
        c.self.invariant.lemmas,
        ap length literals,
        ap length hints,
        length-append log.literals.items more,
        length-append log.hints.items others,
      );
    }

pub returns-clause-ok : goal.returns-clause-ok
returns-clause-ok c =
    let log = c.self.inside in
    let packed = c.self.invariant.packed in
    let more = c.args.literals.now in
    let others = c.args.hints.now in
    let literals = c.in-Ok-Ok.ensures.items ∙ ap (λ xs. xs ++ more) c.in_ok-reserve.ensures.items in
    let hints = c.in-Ok-Ok.ensures'.items ∙ ap (λ xs. xs ++ others) c.in_ok-reserve-2.ensures.items in
    rw (literals, hints, c.in_ok-push.ensures.items, ← c.self.view_is)
    (entries_of-push_lemma log.literals.items more log.hints.items others log.shapes.items packed.literals_covered packed.hints_covered)
