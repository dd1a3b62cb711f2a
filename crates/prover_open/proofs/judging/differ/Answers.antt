use Rattle.std.proofs.Common.{◌≡◌, ◌∙◌, ap, sym, not, true}
use Rattle.std.proofs.lemmas.Bool.{false≢true}
use Rattle.joint_theory.specs.declared.path.JointState.{JointState}
use Rattle.prover_open.proofs.judging.differ.Goals as goal

pub returns-else-owe_otherwise : goal.returns-else-owe_otherwise
returns-else-owe_otherwise c = λ unlike same.
    let alike : c.are_same.result ≡ true = c.are_same.ensures (ap (λ (state : JointState). state.valuation) same) in
    false≢true (sym (ap not alike) ∙ unlike)
