use Rattle.au_modify.proofs.Fits.{what_fits}
use Rattle.au_modify.proofs.fitting.what_fits_is_fitting.Goals as goal

pub returns : goal.returns
returns c = λ null column cell is kind sound. what_fits null column cell is kind sound
