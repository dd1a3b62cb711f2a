use Rattle.std.proofs.Common.{refl}
use Rattle.replay.proofs.laws.examples_law.Goals as goal

pub returns : goal.returns
returns c = record {
  toggles = (refl, refl, refl);
  compares = (refl, refl, refl, refl);
  follows = (refl, refl, refl);
  misses = (refl, refl, refl, refl, refl);
  finds = (refl, refl, refl, refl);
  indexes = (refl, refl, refl, refl, refl, refl, refl);
  several = (refl, refl, refl);
}
