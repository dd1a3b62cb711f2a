use Rattle.blif_reader.proofs.kept.Kept.of.Goals as goal

pub returns : goal.returns
returns c = λ parts read is. record {
  shape_is = is;
  driven_is = c.in_ok-driven.ensures parts read;
  undriven_is = c.in_ok-undriven.ensures parts read;
}
