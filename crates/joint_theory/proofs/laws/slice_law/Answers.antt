use Rattle.joint_theory.proofs.Sliced.{sliced-misses_none}
use Rattle.joint_theory.proofs.laws.slice_law.Goals as goal

pub returns : goal.returns
returns c = λ design automaton visits now before frame initial cube sound right tests within also.
    sliced-misses_none design automaton visits now before sound right tests frame initial cube within also
