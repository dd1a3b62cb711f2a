use Rattle.blif_laws.proofs.Hierarchies.{lists-instances, lists-names, names-all, runs, unfolds}
use Rattle.blif_reader.proofs.laws.hierarchy_law.Goals as goal

pub returns : goal.returns
returns c = λ text design is. record {
  models = is.models;
  texts = is.texts;
  fits = is.fits;
  is = is.is;
  unfolds = unfolds text is.models is.texts is.fits;
  runs = runs text is.models is.texts is.fits;
  named = names-all text is.models is.texts is.fits;
  names = lists-names text is.models is.texts is.fits;
  instances = lists-instances text is.models is.texts is.fits;
}
