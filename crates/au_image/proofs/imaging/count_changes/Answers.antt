use Rattle.std.proofs.Common.{[], ap, length}
use Rattle.au_image.specs.Image.{kept_of}
use Rattle.au_image.proofs.Pieces.{image_count}
use Rattle.au_image.proofs.imaging.count_changes.Goals as goal

pub returns : goal.returns
returns c stored is instance =
    image_count (kept_of c.args.catalog.now c.args.grants.now stored [] (record { 0 = 0 }) instance) _ _ _ _ _ _ _ _ _ _ _
    c.len.ensures c.len-2.ensures (ap length c.system_grants.ensures.value) (ap length c.role_grants.ensures.value) c.len-3.ensures is
    (ap length c.object_grants.ensures.value) c.len-4.ensures c.len-5.ensures c.len-6.ensures c.count_archive.ensures
