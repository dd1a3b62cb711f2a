use Rattle.std.proofs.Common.{◌∙◌, ap, sym, subst, ◌<◌, ℕ, Bool, List, length}
use Rattle.std.specs.Prelude.{All}
use Rattle.std.proofs.lemmas.List.Elements.{All-filter}
use Rattle.netlist.specs.Valuations.{bit}
use Rattle.prover_open.proofs.states.supported.Goals as goal

pub chosen-requires-2 : goal.chosen-requires-2
chosen-requires-2 c =
    let many = length c.args.reading.automaton.now.obligations in
    subst (λ bound. All (λ number. number < bound) c.as_slice.result.now) (sym (ap (λ (bits : List Bool). length bits) c.as_slice-2.ensures ∙ c.in_ok-asked.ensures.long))
    (subst (λ (list : List ℕ). All (λ number. number < many) list) (sym (c.as_slice.ensures ∙ c.in_ok-hinted.ensures))
    (All-filter (bit c.args.hint.now) (λ number. number < many) c.args.among.now c.requires.among))
