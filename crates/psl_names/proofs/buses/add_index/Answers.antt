use Rattle.std.proofs.Common.{sym, ap, ◌∙◌}
use Rattle.std.specs.Option.{option_map}
use Rattle.psl_layer_theory.specs.Buses.{indexed, widened, with_name}
use Rattle.psl_names.specs.Ranges.{indexed_in, range_at, range_in}
use Rattle.psl_names.proofs.Ranging.{copied_range, range_written}
use Rattle.psl_names.proofs.buses.add_index.Goals as goal

pub returns : goal.returns
returns c = λ query.
    let name = indexed_in c.in-Some.indexed in
    let found = ap (option_map indexed_in) (sym c.in-Some.is) ∙ c.split_index.ensures ∙ ap indexed c.as_slice.ensures in
    let wide = c.widened-range.ensures ∙ ap (widened c.in-Some.indexed.index) (copied_range c.get.result ∙ ap (option_map range_in) c.get.ensures.value) in
    range_written c.args.ranges.now c.insert.new.self name c.widened-range.result c.in_ok-insert.ensures.updates wide query
    ∙ ap (λ one. with_name query one (range_at c.args.ranges.now query)) found
