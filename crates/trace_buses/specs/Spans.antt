-- What the program keeps of the indices behind texts.
use Rattle.std.specs.Prelude.{◌≡◌, ℕ, List, Option}
use Rattle.std.specs.BTreeMap.{BTreeMap, get_by}
use Rattle.std.specs.Borrow.{Bor}
use Rattle.std.specs.Cmp.Lexicographic.{slice_cmp}
use Rattle.std.specs.Option.{option_map}
use Rattle.std.specs.Ordering.{nat_cmp}
use Rattle.psl_tree.specs.declared.name.Name.{Name}
use Rattle.trace_buses.specs.Buses as spec
use Rattle.trace_buses.specs.declared.spans.Span as code

-- the lowest and the highest of some indices, and the first signal that has one
abbrev pub span_in : code.Span → spec.Span
span_in span = record { low = span.low; high = span.high; first = span.first }

abbrev pub option_span : Option (Bor code.Span) → Option spec.Span
option_span span = option_map (λ span. span_in span.now) span

abbrev pub Spans : Type 0
Spans = BTreeMap (Bor (List ℕ)) code.Span

-- the span at a text
abbrev pub span_at : Spans → List ℕ → Option spec.Span
span_at spans text = option_map span_in (get_by (λ key. slice_cmp nat_cmp text key.now) spans)

-- at each text there is the span of the indices behind it in some names
abbrev pub Tells : Spans → List Name → Type 0
Tells spans names = (text : List ℕ) → span_at spans text ≡ spec.span_behind names text
