use Rattle.commands.proofs.Generating.{made-faultless, read-made}
use Rattle.commands.proofs.generated.read_made.Goals as goal

pub read_faultless-requires-clause-faultless : goal.read_faultless-requires-clause-faultless
read_faultless-requires-clause-faultless c = made-faultless c.args.text c.args.seed c.args.samples c.requires.text c.requires.few

pub returns : goal.returns
returns c = record {
  sampled = read-made c.args.text c.args.seed c.args.samples c.in_ok-recording.recording c.requires.text c.requires.few c.in_ok-recording.ensures;
}
