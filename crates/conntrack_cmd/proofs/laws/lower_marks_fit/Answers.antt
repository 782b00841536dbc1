use Rattle.std.proofs.Common.{arith}
use Rattle.conntrack_cmd.proofs.laws.lower_marks_fit.Goals as goal

pub returns : goal.returns
returns c = λ log lower mark asked own answer from to le fits. record {
  later = omega (arith, le, fits.later);
  order = fits.order;
  within = fits.within;
  events = fits.events;
  fits = fits.fits;
}
