use Rattle.std.proofs.Common.{ℕ, ◌-◌, List, ◌∷◌, length, drop, ap, sym, ◌∙◌, Bool as Truth}
use Rattle.std.specs.List.{ends_with}
use Rattle.std.specs.Prelude.{nat_eq, ◌&&◌}
use Rattle.std.specs.Str.{bytes_eq}
use Rattle.psl_names.proofs.Backward.{ends-long}
use Rattle.psl_names.proofs.matching.ends_named.Goals as goal

pub returns-then-whole-start-eq46 : goal.returns-then-whole-start-eq46
returns-then-whole-start-eq46 c =
    let whole : List ℕ = c.as_slice-whole.result.now in
    let text : List ℕ = c.args.text.now in
    c.ends_with.ensures.value
    ∙ sym (ap (λ (b : Truth). b && bytes_eq text (drop (length whole - length text) whole)) (ap (nat_eq 46) c.if-whole-start-eq46.true))
    ∙ sym (ends-long whole text c.if-whole-text.false)
    ∙ ap (λ (bytes : List ℕ). ends_with nat_eq bytes (46 ∷ text)) c.as_slice-whole.ensures
