use Rattle.std.proofs.Common.{map}
use Rattle.au_image.specs.Image.{kept_of}
use Rattle.au_txn.specs.Rows.{triple_of}
use Rattle.au_replay.specs.Reading.{conditions}
use Rattle.au_kept.proofs.Held.{nothing_holds}
use Rattle.au_kept.proofs.keeping.Keeping.over.Goals as goal

pub invariant_of-result : goal.invariant_of-result
invariant_of-result c =
    nothing_holds c.desks_stay_keyed.ensures.quiet (c.frames_hold.ensures.nothing conditions) _ _
    (λ i. kept_of (c.empty_catalog.ensures i) (c.new.ensures i) (map triple_of (c.requires i).rows) (c.new-2.ensures.items i) (record { 0 = 0 }) 0)
    c.requires
