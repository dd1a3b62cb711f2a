use Rattle.std.proofs.Common.{◌≡◌, ◌∙◌, sym, ap, subst, ◌++◌, Bool as Truth, Some, List, ℕ}
use Rattle.std.specs.Prelude.{OnOk}
use Rattle.std.proofs.lemmas.List.{append-nil}
use Rattle.lasso_tables.specs.Seen.{seen_at}
use Rattle.lasso_judge.proofs.Labelled.{none-before, all-before}
use Rattle.lasso_judge.proofs.before.add_before.Goals as goal

pub returns-in-Some-true : goal.returns-in-Some-true
returns-in-Some-true c =
    subst (λ (cells : List ℕ). OnOk c.add_sources.result (c.add_sources.new.found.items ≡ c.args.found.now.items ++ cells))
    (all-before (λ place. seen_at c.args.charted.word.now c.args.charted.flipped place) c.args.charted.chart.now c.args.marks.now c.args.target c.args.place c.requires.chart c.requires.labels c.requires.target c.requires.place
    (sym c.known.ensures ∙ (c.in-Some-true.is ∙ ap (λ (b : Truth). Some b) c.in-Some-true.field-0-test)))
    c.add_sources.ensures

pub returns-in-Some-false : goal.returns-in-Some-false
returns-in-Some-false c =
    sym (ap (λ (cells : List ℕ). c.args.found.now.items ++ cells)
    (none-before (λ place. seen_at c.args.charted.word.now c.args.charted.flipped place) c.args.charted.chart.now c.args.marks.now c.args.target c.args.place c.requires.chart c.requires.labels c.requires.target c.requires.place
    (sym c.known.ensures ∙ (c.in-Some-false.is ∙ ap (λ (b : Truth). Some b) c.in-Some-false.field-0-test)))
    ∙ append-nil c.args.found.now.items)
