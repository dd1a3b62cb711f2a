use Rattle.prover.proofs.proving.prove_aloud.Given as goal

abbrev pub ghosts-left_open : goal.ghosts-left_open
ghosts-left_open g a = record { sink = g.E.Sink.state a.err.now }
