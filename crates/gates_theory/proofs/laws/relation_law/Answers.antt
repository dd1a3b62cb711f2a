use Rattle.gates_theory.proofs.Chains.{relation-sound, model-chain, chain-model}
use Rattle.gates_theory.proofs.laws.relation_law.Goals as goal

pub returns : goal.returns
returns c = record { sound = relation-sound; chains = model-chain; models = chain-model }
