use Rattle.std.proofs.Common.{[], ◌∷◌, ℕ}
use Rattle.std.specs.List.{Contains}
use Rattle.std.proofs.lemmas.List.Elements.{All-cons, All-nil}
use Rattle.cdcl_propagation.proofs.others.others_of.Goals as goal

pub returns : goal.returns
returns c =
    let P : ℕ → Type 0 = Contains c.args.clause.now in
    record {
      stand =
          All-cons P c.literal_at-third.result (c.literal_at-fourth.result ∷ c.literal_at-fifth.result ∷ c.literal_at-sixth.result ∷ c.literal_at-seventh.result ∷ []) c.literal_at-third.ensures
          (All-cons P c.literal_at-fourth.result (c.literal_at-fifth.result ∷ c.literal_at-sixth.result ∷ c.literal_at-seventh.result ∷ []) c.literal_at-fourth.ensures
          (All-cons P c.literal_at-fifth.result (c.literal_at-sixth.result ∷ c.literal_at-seventh.result ∷ []) c.literal_at-fifth.ensures
          (All-cons P c.literal_at-sixth.result (c.literal_at-seventh.result ∷ []) c.literal_at-sixth.ensures
          (All-cons P c.literal_at-seventh.result [] c.literal_at-seventh.ensures (All-nil P)))));
      whole = λ yes. rw yes at c.has_all.ensures;
    }
