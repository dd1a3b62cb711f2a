use Rattle.std.proofs.Common.{◌≡◌, ◌∙◌, ap, map, List, ℕ, Ok, Err}
use Rattle.std.specs.Prelude.{IfOk, Result}
use Rattle.vcd_reader.proofs.Rows.{line-kept, lines-counted}
use Rattle.vcd_reader.specs.Rows.{line_at}
use Rattle.vcd_reader.proofs.recording.Recording.time_lines.Goals as goal

-- what follows for each value
if-ok : {A E : Type 0} (P Q : A → Type 0) → ((a : A) → P a → Q a) → (result : Result A E) → IfOk result P → IfOk result Q
if-ok P Q follows (Ok a) h = follows a h
if-ok P Q follows (Err e) h = tt

pub returns : goal.returns
returns c =
    let inside = c.self.inside in
    let same : map (line_at c.as_slice.result.now) c.as_slice-2.result.now ≡ map (line_at inside.bytes) inside.starts.items =
    ap (λ (bytes : List ℕ). map (line_at bytes) c.as_slice-2.result.now) c.as_slice.ensures ∙ ap (map (line_at inside.bytes)) c.as_slice-2.ensures.value in
    record {
      count = if-ok _ _ (λ lines is. lines-counted c.args.self.now inside.names inside.bytes inside.samples inside.changes.items inside.starts.items inside.unknown lines.items c.self.view_is c.self.invariant (is ∙ same))
          c.lines_of.result c.lines_of.ensures;
      lines = if-ok _ _ (λ lines is sample low. line-kept c.args.self.now inside.names inside.bytes inside.samples inside.changes.items inside.starts.items inside.unknown lines.items sample
          c.self.view_is c.self.invariant (is ∙ same) low)
          c.lines_of.result c.lines_of.ensures;
    }
