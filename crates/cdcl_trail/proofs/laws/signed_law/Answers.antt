use Rattle.std.proofs.Common.{neg_ℤ}
use Rattle.cdcl_trail.specs.Literals.{opposite, signed}
use Rattle.cdcl_trail.proofs.Renaming.{passes-map, adds-map, once-map, signed-opposite, signed-apart}
use Rattle.cdcl_trail.proofs.laws.signed_law.Goals as goal

pub returns : goal.returns
returns c = record {
  passes = passes-map signed opposite neg_ℤ signed-opposite signed-apart;
  adds = adds-map signed opposite neg_ℤ signed-opposite signed-apart;
  once = once-map signed opposite neg_ℤ signed-opposite signed-apart;
}
