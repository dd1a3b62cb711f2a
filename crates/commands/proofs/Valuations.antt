-- One line of a valuation more.
use Rattle.std.proofs.Common.{◌≡◌, sym, ◌∙◌, ap, ℕ, suc, ◌+◌, ◌<◌, Bool, List, [], ◌∷◌, ◌++◌, length, take, arith}
use Rattle.std.specs.Prelude.{get_or}
use Rattle.std.proofs.lemmas.List.{append_assoc, append-nil, length-take-le, take_more}
use Rattle.psl_tree.specs.declared.name.Name.{Name}
use Rattle.commands.specs.Text.{valuation_line, valuation_lines}

module _ (part : List ℕ) (columns : List Name) where
  lines-behind : (place : ℕ) (valuations : List (List Bool)) (valuation : List Bool)
      → valuation_lines part columns place (valuations ++ valuation ∷ [])
      ≡ valuation_lines part columns place valuations ++ valuation_line part columns (place + length valuations) valuation
  lines-behind place [] valuation =
      let on : place + 0 ≡ place = omega arith in
      append-nil (valuation_line part columns place valuation) ∙ ap (λ p. valuation_line part columns p valuation) (sym on)
  lines-behind place (first ∷ valuations) valuation =
      let on : suc place + length valuations ≡ place + suc (length valuations) = omega arith in
      ap (λ text. valuation_line part columns place first ++ text) (lines-behind (suc place) valuations valuation)
      ∙ sym (append_assoc (valuation_line part columns place first) (valuation_lines part columns (suc place) valuations)
      (valuation_line part columns (suc place + length valuations) valuation))
      ∙ ap (λ p. (valuation_line part columns place first ++ valuation_lines part columns (suc place) valuations) ++ valuation_line part columns p valuation) on

  -- the line of the next valuation behind those before it
  pub line-more : (old text new : List ℕ) (valuations : List (List Bool)) (place : ℕ) (valuation : List Bool) → place < length valuations
      → valuation ≡ get_or valuations place valuation
      → text ≡ old ++ valuation_lines part columns 0 (take place valuations)
      → new ≡ text ++ valuation_line part columns place valuation
      → new ≡ old ++ valuation_lines part columns 0 (take (place + 1) valuations)
  line-more old text new valuations place valuation lt here before is =
      let long : 0 + length (take place valuations) ≡ place = omega (arith, length-take-le place valuations (omega arith)) in
      is ∙ ap (λ t. t ++ valuation_line part columns place valuation) before
      ∙ append_assoc old (valuation_lines part columns 0 (take place valuations)) (valuation_line part columns place valuation)
      ∙ ap (λ p. old ++ (valuation_lines part columns 0 (take place valuations) ++ valuation_line part columns p valuation)) (sym long)
      ∙ ap (λ t. old ++ t) (sym (lines-behind 0 (take place valuations) valuation))
      ∙ ap (λ v. old ++ valuation_lines part columns 0 (take place valuations ++ v ∷ [])) here
      ∙ ap (λ vs. old ++ valuation_lines part columns 0 vs) (sym (take_more valuations place valuation lt))
