use Rattle.std.proofs.Common.{refl}
use Rattle.nat_setup.proofs.translate.first_tried.Goals as goal

pub bucket_of-requires : goal.bucket_of-requires
unfolding lib.Count.ones
bucket_of-requires c = refl
