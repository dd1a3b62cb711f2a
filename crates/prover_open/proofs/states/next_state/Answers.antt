use Rattle.prover_open.proofs.states.next_state.Goals as goal

pub owed_met-requires-clause-now : goal.owed_met-requires-clause-now
owed_met-requires-clause-now c = c.requires.owes.owed.below

pub owed_met-requires-clause-next : goal.owed_met-requires-clause-next
owed_met-requires-clause-next c = c.in_ok-next.ensures.owes.owed.below

pub pending_met-requires-clause-now : goal.pending_met-requires-clause-now
pending_met-requires-clause-now c = c.requires.owes.pending.numbers.below

pub pending_met-requires-clause-owed : goal.pending_met-requires-clause-owed
pending_met-requires-clause-owed c = c.in_ok-next.ensures.owes.owed.below

pub pending_met-requires-clause-pending : goal.pending_met-requires-clause-pending
pending_met-requires-clause-pending c = c.in_ok-next.ensures.owes.pending.numbers.below
