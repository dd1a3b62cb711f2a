use Rattle.std.proofs.Common.{◌∙◌, ◌++◌, ◌∷◌, [], ap, sym, length, List, ℕ, arith}
use Rattle.std.proofs.lemmas.List.FromFn.{length-map-range_with_len, map-range_with_len_more}
use Rattle.psl_tree.specs.declared.name.Name.{Name}
use Rattle.trace.specs.Trace.{first_text}
use Rattle.trace_buses.proofs.names.first_names.Goals as goal
use Rattle.trace_buses.specs.Buses.{bit_name}

pub loop-signal-preserved : goal.loop-signal-preserved
loop-signal-preserved c =
    let names = c.args.netlist.now.names in
    let signal = c.loop-signal.signal in
    let named = λ (s : ℕ). bit_name (first_text names s) s in
    c.in_ok-push.ensures.ok
    ∙ ap (λ (name : Name). c.loop-signal.names ++ name ∷ []) (c.in_ok-bit_name.ensures ∙ ap (λ (text : List ℕ). bit_name text signal)
    (c.first_text-text.ensures ∙ ap (λ (all : List Name). first_text all signal) (c.as_slice-in-loop-signal.ensures ∙ c.names-in-loop-signal.ensures.names)))
    ∙ ap (λ (all : List Name). all ++ named signal ∷ []) c.loop-signal.invariant
    ∙ sym (map-range_with_len_more named 0 signal signal (omega arith))

pub returns-clause-few : goal.returns-clause-few
returns-clause-few c =
    let named = λ (s : ℕ). bit_name (first_text c.args.netlist.now.names s) s in
    let is = ap (λ (all : List Name). length all) c.loop-signal.invariant ∙ length-map-range_with_len named 0 c.loop-signal.signal in
    let fits = c.signals-signal-end.type_inv in
    omega (arith, is, c.loop-signal.auto.signal-end, fits)
