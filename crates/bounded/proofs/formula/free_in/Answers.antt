use Rattle.std.proofs.Common.{◌≡◌, ◌∙◌, ◌<◌, ℕ, List, sym, subst}
use Rattle.std.specs.List.{All, filter}
use Rattle.std.proofs.lemmas.Result.{IfOk-weaker}
use Rattle.netlist.specs.Design.{free_of}
use Rattle.netlist.specs.Valuations.{bit}
use Rattle.bounded.proofs.Clauses.{each-filter}
use Rattle.bounded.proofs.Gathered.{free-below}
use Rattle.bounded.proofs.formula.free_in.Goals as goal

pub returns-clause-within : goal.returns-clause-within
returns-clause-within c =
    let d = c.args.netlist.now in
    let signals : c.as_slice.result.now ≡ free_of d = c.as_slice.ensures ∙ c.in_ok-free.ensures in
    let below = subst (λ (xs : List ℕ). All (λ s. s < d.signals) xs) (sym signals) (free-below d c.soundness_law.ensures.sound) in
    let test = bit c.as_slice-2.result.now in
    let all = each-filter test (λ s. s < d.signals) c.as_slice.result.now (λ k e low on. below k e low) in
    IfOk-weaker c.kept_of.result (λ those. those ≡ filter test c.as_slice.result.now) (All (λ s. s < d.signals)) (λ those is. subst (λ (xs : List ℕ). All (λ s. s < d.signals) xs) (sym is) all) c.kept_of.ensures
