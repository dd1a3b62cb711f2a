use Rattle.std.proofs.Common.{◌∷◌, []}
use Rattle.gates_nodes.specs.declared.node.Node.TheVariants.{Free}
use Rattle.bounded.proofs.Freeing.{FreesLeft}
use Rattle.bounded.proofs.placing.add_block.Given as goal

abbrev pub invariant-loop-bit : goal.invariant-loop-bit
invariant-loop-bit l = FreesLeft (λ bit. Free l.label bit ∷ []) l.initial.builder l.builder l.bit l.size
