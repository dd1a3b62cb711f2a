-- The same joint states, counted for one visit more.
use Rattle.std.specs.Prelude.{suc, map}
use Rattle.joint_theory.specs.declared.path.JointPath.{JointPath}
use Rattle.joint_theory.specs.declared.path.JointState.{JointState}

-- a state of which all is the same but the count, which is one higher
abbrev pub raised_state : JointState → JointState
raised_state state = record {
  before = state.before;
  valuation = state.valuation;
  owed = state.owed;
  pending = state.pending;
  count = suc state.count;
}

-- each state of a path so
abbrev pub raised_path : JointPath → JointPath
raised_path path = record { states = map raised_state path.states }
