use Rattle.std.proofs.Common.{◌≡◌, suc, [], ◌∷◌, ◌++◌, length, Some, refl, ap, ◌∙◌, arith}
use Rattle.std.proofs.lemmas.List.{length_push}
use Rattle.cdcl_incremental.proofs.Asking.{continues_with}
use Rattle.cdcl_incremental.proofs.Standing.{stands_learned}
use Rattle.cdcl_incremental.proofs.incremental.Incremental.keep.Goals as goal

pub returns-clause-continues : goal.returns-clause-continues
returns-clause-continues c =
    let solver = c.args.self.now in
    let state = solver.propagator in
    let literals = solver.lemma.literals.items in
    let clauses : c.attach_lemma.new.propagator.clauses ≡ state.clauses ++ Some literals ∷ [] =
    c.in_ok-attach_lemma.ensures.clauses ∙ ap (λ l. state.clauses ++ Some l ∷ []) c.deref.ensures.value in
    let number : c.len.result ≡ suc (length state.clauses) = omega (arith, c.len.ensures, ap length c.clauses.ensures, ap length clauses, length_push state.clauses (Some literals)) in
    continues_with solver _ refl refl c.attach_lemma.ensures.variables refl refl refl
    (rw clauses
    (stands_learned solver.variables solver.formula state.clauses literals solver.is_lemma.items c.mark.new.is_lemma.items solver.is_refuted solver.is_full
    (λ other differs. c.mark.ensures other (λ same. differs (same ∙ number)))
    c.requires.can.within c.requires.can.met c.requires.grown.stands))
    c.requires.grown
