use Rattle.std.proofs.Common.{◌≡◌, ◌≤◌, suc, length, Some, refl, ap, ◌∙◌, arith}
use Rattle.std.specs.Vec.{with_items}
use Rattle.std.proofs.lemmas.List.{length_push, with_items_is}
use Rattle.cdcl_incremental.specs.declared.incremental.Incremental.{Incremental}
use Rattle.clauses.proofs.Within.{within-wider}
use Rattle.cdcl_incremental.proofs.Asking.{added_with}
use Rattle.cdcl_incremental.proofs.Standing.{stands_stored, stands_refuted}
use Rattle.cdcl_incremental.proofs.incremental.Incremental.add.Goals as goal

pub push-requires : goal.push-requires
push-requires c =
    let solver = c.args.self.now in
    let more : solver.variables ≤ 2147483647 = omega (arith, c.requires.grown.few, c.requires.grown.most) in
    within-wider solver.variables 2147483647 more c.args.clause.now c.requires.within

pub store-requires-clause-within : goal.store-requires-clause-within
store-requires-clause-within c =
    let solver = c.args.self.now in
    within-wider solver.variables solver.propagator.path.variables c.requires.grown.few c.args.clause.now c.requires.within

pub returns-in-Ok-Clause-clause-ok : goal.returns-in-Ok-Clause-clause-ok
returns-in-Ok-Clause-clause-ok c =
    let solver = c.args.self.now in
    let clause = c.args.clause.now in
    let old = solver.propagator.clauses in
    let stored = rw c.in-Ok-Clause.field-0-is at c.in-Ok-Clause.ensures.stored in
    let number : c.len.result ≡ suc (length old) = omega (arith, c.len.ensures, ap length c.clauses.ensures, ap length stored.1.clauses, length_push old (Some stored.0)) in
    let items : (with_items solver.is_lemma c.unmark.new.is_lemma).items ≡ c.unmark.new.is_lemma =
    with_items_is solver.is_lemma c.unmark.new.is_lemma (omega (arith, c.unmark.auto.is_lemma, c.deref_mut.ensures.len)) in
    let new : Incremental = record solver {
      formula = c.push.new.self;
      propagator = c.store.new.propagator;
      heuristics = record solver.heuristics { decider = c.store.new.decider };
      is_lemma = with_items solver.is_lemma c.unmark.new.is_lemma;
    } in
    added_with solver new clause c.in_ok-push.ensures.ok refl c.store.ensures.variables refl
    (rw items (stands_stored solver.variables solver.formula clause old stored.0 c.store.new.propagator.clauses solver.is_lemma.items c.unmark.new.is_lemma solver.is_refuted solver.is_full
    c.requires.within
    (λ other differs. rw c.deref_mut.ensures.value at (c.unmark.ensures.others other (λ same. differs (same ∙ number))))
    (rw number at c.unmark.ensures.gone)
    stored.1 c.requires.grown.stands))
    c.requires.grown

pub returns-in-Ok-Refuted-clause-ok : goal.returns-in-Ok-Refuted-clause-ok
returns-in-Ok-Refuted-clause-ok c =
    let solver = c.args.self.now in
    let clause = c.args.clause.now in
    let stored = rw c.in-Ok-Refuted.field-0-is at c.in-Ok-Refuted.ensures.stored in
    added_with solver _ clause c.in_ok-push.ensures.ok refl c.store.ensures.variables refl
    (rw stored.0 (stands_refuted solver.variables solver.formula clause solver.propagator.clauses solver.is_lemma.items solver.is_refuted solver.is_full stored.1 c.requires.grown.stands))
    c.requires.grown
