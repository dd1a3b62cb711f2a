use Rattle.std.proofs.Common.{◌≡◌, ◌+◌, ◌≤◌, ap, length, arith, length-append}
use Rattle.std.proofs.lemmas.List.{length_push}
use Rattle.clauses.specs.Literals.{clause_words}
use Rattle.clauses.specs.declared.flat.TheConstants.{MOST_VARIABLES, MOST_WORDS}
use Rattle.clauses.proofs.Flats.{words_of_lists, lists_from-push, ends_push}
use Rattle.clauses.proofs.Within.{within-append}
use Rattle.clauses.proofs.flat.Clauses.push.Goals as goal

pub invariant_of-self-2 : goal.invariant_of-self-2
invariant_of-self-2 c =
    let literals = c.self.inside.literals.items in
    let ends = c.self.inside.ends.items in
    let clause = c.args.clause.now in
    let words : length literals + length ends + length clause + 1 ≤ MOST_WORDS =
    omega (arith, c.words.ensures.is, ap clause_words c.self.view_is, words_of_lists literals 0 ends c.self.invariant.cut) in
    let end : c.len-end.result ≡ length literals + length clause =
    omega (arith, ap length c.in_ok-extend_from_slice.ensures.items, length-append literals clause, c.extend_from_slice.new.self.ok.0) in
    record {
      cut = rw (c.in-Ok.ensures.items, c.in_ok-reserve.ensures.items, c.in_ok-extend_from_slice.ensures.items, length-append literals clause, end)
          (ends_push 0 ends (length literals) (length clause) c.self.invariant.cut);
      few = omega (
        arith,
        words,
        ap length c.in_ok-extend_from_slice.ensures.items,
        length-append literals clause,
        ap length c.in-Ok.ensures.items,
        length_push ends c.len-end.result,
        ap length c.in_ok-reserve.ensures.items,
        length_push c.reserve.new.self.items c.len-end.result,
      );
      literals = rw c.in_ok-extend_from_slice.ensures.items (within-append MOST_VARIABLES literals clause c.self.invariant.literals c.requires);
    }

pub returns-clause-ok : goal.returns-clause-ok
returns-clause-ok c =
    let literals = c.self.inside.literals.items in
    let ends = c.self.inside.ends.items in
    let clause = c.args.clause.now in
    let end : c.len-end.result ≡ length literals + length clause =
    omega (arith, ap length c.in_ok-extend_from_slice.ensures.items, length-append literals clause, c.extend_from_slice.new.self.ok.0) in
    rw (c.in-Ok.ensures.items, c.in_ok-reserve.ensures.items, c.in_ok-extend_from_slice.ensures.items, end, ← c.self.view_is)
    (lists_from-push literals clause 0 ends c.self.invariant.cut)
