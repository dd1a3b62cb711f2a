use Rattle.std.proofs.Common.{sym, ap, ◌∙◌}
use Rattle.std.specs.Option.{option_map}
use Rattle.psl_layer_theory.specs.Buses.{indexed}
use Rattle.psl_names.specs.Ranges.{indexed_in}
use Rattle.trace_buses.specs.Buses.{widened, with_name}
use Rattle.trace_buses.specs.Spans.{span_at, span_in}
use Rattle.trace_buses.proofs.Spanning.{copied_span, span_written}
use Rattle.trace_buses.proofs.spans.add_index.Goals as goal

pub returns : goal.returns
returns c = λ query.
    let name = indexed_in c.in-Some.indexed in
    let signal = c.args.name.now.signal in
    let found = ap (option_map indexed_in) (sym c.in-Some.is) ∙ c.split_index.ensures ∙ ap indexed c.as_slice.ensures in
    let wide = c.widened-span.ensures ∙ ap (widened signal c.in-Some.indexed.index) (copied_span c.get.result ∙ ap (option_map span_in) c.get.ensures.value) in
    span_written c.args.spans.now c.insert.new.self signal name c.widened-span.result c.in_ok-insert.ensures.updates wide query
    ∙ ap (λ one. with_name query signal one (span_at c.args.spans.now query)) found
