use Rattle.bounded.proofs.comparing.+exceeds.Given as goal

abbrev pub decreases-exceeds : goal.decreases-exceeds
decreases-exceeds l = l.count
