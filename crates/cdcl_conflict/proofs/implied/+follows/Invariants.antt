use Rattle.cdcl_conflict.proofs.implied.+follows.Given as goal

abbrev pub decreases-follows : goal.decreases-follows
decreases-follows l = l.depth
