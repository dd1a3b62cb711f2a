use Rattle.run_terms.proofs.Netlists.{valuation-says, before-says, valuation-terms_within, before-terms_within, valuation-terms_size, before-terms_size}
use Rattle.run_terms.proofs.laws.table_law.Goals as goal

pub returns : goal.returns
returns c = record {
  now = valuation-says;
  before = before-says;
  within = λ design base variables sound fits.
      (valuation-terms_within design base variables sound fits, before-terms_within design base variables sound fits);
  size = λ design base sound. (valuation-terms_size design base sound, before-terms_size design base sound);
}
