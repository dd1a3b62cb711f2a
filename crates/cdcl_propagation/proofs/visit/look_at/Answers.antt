use Rattle.std.proofs.Common.{◌≡◌, ◌⊎◌, ◌*◌, ◌<◌, ℕ, List, inl, inr, refl, sym, subst, length}
use Rattle.cdcl_propagation.specs.declared.watch.Watch.{Watch}
use Rattle.std.specs.List.{All, Contains}
use Rattle.std.proofs.lemmas.List.Elements.{All-contains, All-weaker}
use Rattle.cdcl_trail.specs.Literals.{opposite}
use Rattle.cdcl_propagation.specs.Watching.{pair_of, spares_of}
use Rattle.cdcl_propagation.specs.Visits.{IsForced}
use Rattle.cdcl_propagation.proofs.Looking.{never, forced, short_forced, other_stands, other_entry}
use Rattle.cdcl_propagation.proofs.Beside.{others-exchanged, others-false}
use Rattle.cdcl_propagation.proofs.visit.look_at.Goals as goal

pub returns-then-watch : goal.returns-then-watch
returns-then-watch c =
    let path = c.args.trail.now in
    let watch = c.args.watch in
    let entry = c.requires.entry in
    let is = short_forced c.args.clauses.now path c.args.literal watch (length c.args.pairs.now) (2 * path.variables) entry (entry.short c.if-watch.true) c.requires.false_ in
    forced c.args.clauses.now c.args.pairs.now path c.args.literal watch watch c.forced.result refl entry is (λ there. never c.is_true.result (c.is_true.ensures.1 there) c.if-is_true.false) c.forced.ensures

pub returns-in-None : goal.returns-in-None
returns-in-None c =
    let clauses = c.args.clauses.now in
    let pairs = c.args.pairs.now in
    let path = c.args.trail.now in
    let watch = c.args.watch in
    let literal = c.args.literal in
    let other = c.in-Some.other in
    let is = c.in-Some.ensures.some in
    let live = c.in-Some-clause_at.ensures.some in
    let new : Watch = record { number = watch.number; blocker = other; is_short = watch.is_short } in
    let is_forced : IsForced clauses path watch.number other = record {
      clause = c.in-Some-clause_at.clause.now;
      live = live;
      stands = other_stands clauses pairs (2 * path.variables) watch.number literal other c.requires.paired is c.in-Some-clause_at.clause.now live;
      others = c.in-None.ensures.none;
    } in
    forced clauses pairs path literal watch new c.forced-in-None.result refl (other_entry clauses pairs (2 * path.variables) literal other watch c.requires.paired is c.if-watch.false c.requires.entry) is_forced
    (λ there. never c.is_true-2.result (c.is_true-2.ensures.1 there) c.if-is_true-2.false)
    c.forced-in-None.ensures

pub open_literal-requires : goal.open_literal-requires
open_literal-requires c =
    let clause = c.in-Some-clause_at.clause.now in
    let live = c.in-Some-clause_at.ensures.some in
    let pair = pair_of c.args.pairs.now c.args.watch.number in
    let P : ℕ → Type 0 = λ at. at < 2 * c.args.trail.now.variables in
    subst (All P) (sym c.spares.ensures)
    (All-weaker (Contains clause) P (λ at there. All-contains P clause at (c.requires.within c.args.watch.number clause live) there) (spares_of pair.others)
    (c.requires.paired.others c.args.watch.number clause live).stand)

pub returns-then-pair : goal.returns-then-pair
returns-then-pair c =
    let clauses = c.args.clauses.now in
    let pairs = c.args.pairs.now in
    let path = c.args.trail.now in
    let watch = c.args.watch in
    let literal = c.args.literal in
    let other = c.in-Some.other in
    let is = c.in-Some.ensures.some in
    let clause = c.in-Some-clause_at.clause.now in
    let live = c.in-Some-clause_at.ensures.some in
    let new : Watch = record { number = watch.number; blocker = other; is_short = watch.is_short } in
    let P : ℕ → Type 0 = λ one. (one ≡ other) ⊎ Contains path.literals (opposite one) in
    let is_forced : IsForced clauses path watch.number other = record {
      clause = clause;
      live = live;
      stands = other_stands clauses pairs (2 * path.variables) watch.number literal other c.requires.paired is clause live;
      others =
          others-false P clause (pair_of pairs watch.number) literal other (c.requires.paired.others watch.number clause live) is c.if-pair.true (inr c.requires.false_) (inl refl)
          (subst (All P) c.spares.ensures c.in_default-open_literal.ensures.none);
    } in
    forced clauses pairs path literal watch new c.forced-then-pair.result refl (other_entry clauses pairs (2 * path.variables) literal other watch c.requires.paired is c.if-watch.false c.requires.entry) is_forced
    (λ there. never c.is_true-2.result (c.is_true-2.ensures.1 there) c.if-is_true-2.false)
    c.forced-then-pair.ensures

pub returns-in-Some-open_literal : goal.returns-in-Some-open_literal
returns-in-Some-open_literal c =
    let clauses = c.args.clauses.now in
    let pairs = c.args.pairs.now in
    let number = c.args.watch.number in
    let literal = c.args.literal in
    let other = c.in-Some.other in
    let first = c.in-Some-open_literal.first in
    let is = c.in-Some.ensures.some in
    let clause = c.in-Some-clause_at.clause.now in
    let live = c.in-Some-clause_at.ensures.some in
    let found = c.in-Some-open_literal.ensures.some in
    let are = c.requires.paired.others number clause live in
    let there : Contains (spares_of (pair_of pairs number).others) first = subst (λ (list : List ℕ). Contains list first) c.spares.ensures found.0 in
    let stands = other_stands clauses pairs (2 * c.args.trail.now.variables) number other literal c.requires.paired (elim is [ inl both ↦ inr both | inr both ↦ inl both ]) clause live in
    record {
      clause = clause;
      live = live;
      was = is;
      first = All-contains (Contains clause) (spares_of (pair_of pairs number).others) first are.stand there;
      differs = found.1;
      others = others-exchanged clause (pair_of pairs number) literal other first c.exchanged.result are is stands there c.exchanged.ensures.spares c.exchanged.ensures.whole;
      not_false = found.2;
    }
