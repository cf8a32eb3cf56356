use Rattle.std.proofs.Common.{refl}
use Rattle.au_world.proofs.Long.{long}
use Rattle.au_world.proofs.built_in.trail_columns.Goals as goal

pub listed_columns-requires : goal.listed_columns-requires
listed_columns-requires c =
    (long _ refl refl, (long _ refl refl, (long _ refl refl, (long _ refl refl, (long _ refl refl, (long _ refl refl, (long _ refl refl, (long _ refl refl, (long _ refl refl, (long _ refl refl, (long _ refl refl, (long _ refl refl, (long _ refl refl, (long _ refl refl, tt))))))))))))))

pub returns : goal.returns
returns c = c.in_ok-columns.ensures
