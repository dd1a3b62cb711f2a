-- What putting piece by piece adds.
use Rattle.std.proofs.Common.{◌≡◌, ℕ, ◌+◌, List, ◌++◌, take, drop, Option, Some, None, refl, sym, ap, ◌∙◌, append_assoc}
use Rattle.std.proofs.Math.Seq.{take-add}
use Rattle.psl_base.specs.Sink.{with_bytes}

-- two additions are one
pub with_bytes-with_bytes : (first second : List ℕ) (written : Option (List ℕ)) → with_bytes second (with_bytes first written) ≡ with_bytes (first ++ second) written
with_bytes-with_bytes first second None = refl
with_bytes-with_bytes first second (Some bytes) = ap Some (append_assoc bytes first second)

-- the first bytes of a text, and then the first of its rest
pub put_more : (text : List ℕ) (done count : ℕ) (before now after : Option (List ℕ)) → now ≡ with_bytes (take done text) before → after ≡ with_bytes (take count (drop done text)) now → after ≡ with_bytes (take (done + count) text) before
put_more text done count before now after first second =
    second ∙ ap (with_bytes (take count (drop done text))) first
    ∙ with_bytes-with_bytes (take done text) (take count (drop done text)) before
    ∙ ap (λ more. with_bytes more before) (sym (take-add done count text))
