use Rattle.std.proofs.Common.{[], ◌∷◌}
use Rattle.au_io.specs.Moments.{at_last, both_calls}
use Rattle.au_journal.specs.Frames.{front}
use Rattle.au_journal.specs.Images.{EndsIn, In, other_of}
use Rattle.au_journal.specs.Seats.{BothStand, MayLeave}
use Rattle.au_journal.proofs.Flipped.{both_since, flipped_settled, not_head}
use Rattle.au_journal.proofs.Leaving.{from_ok}
use Rattle.au_journal.proofs.Steps.{ends_since}
use Rattle.au_journal.proofs.flipping.flip_seat.Goals as goal

pub returns-then-is_err-clause-doubted : goal.returns-then-is_err-clause-doubted
returns-then-is_err-clause-doubted g c = λ told bodies body is settled.
    let laws = g.met.D.Disk g.world.𝓛 g.world.𝓜 g.world.𝓡 ((λ s x. x), (λ x. x), (λ x. x), λ x. x) in
    let seat = c.args.seat in
    let old = g.D.Disk.meaning c.args.disk.now in
    let mid = g.D.Disk.meaning c.write_other.new.disk in
    record {
      placed = record { in_range = settled.placed.in_range; some = settled.placed.some; place = settled.placed.place };
      ended = settled.ended;
      leaves = at_last (In seat.area (EndsIn seat.bare (front seat.limit bodies))) old mid (laws.counts_now c.write_other.new.disk) c.write_other.ensures.time (c.write_other.ensures.any_moment bodies settled);
    }

pub returns-then-is_err-clause-any_moment : goal.returns-then-is_err-clause-any_moment
returns-then-is_err-clause-any_moment g c = λ told bodies body is settled.
    let seat = c.args.seat in
    ends_since seat bodies (other_of seat.area) (body ∷ []) (g.D.Disk.meaning c.args.disk.now) (g.D.Disk.meaning c.write_other.new.disk) settled.placed (c.write_other.ensures.any_moment bodies settled)

pub returns-then-is_err-2-clause-doubted : goal.returns-then-is_err-2-clause-doubted
returns-then-is_err-2-clause-doubted g c = λ told bodies body is settled.
    let laws = g.met.D.Disk g.world.𝓛 g.world.𝓜 g.world.𝓡 ((λ s x. x), (λ x. x), (λ x. x), λ x. x) in
    let seat = c.args.seat in
    let old = g.D.Disk.meaning c.args.disk.now in
    let mid = g.D.Disk.meaning c.write_other.new.disk in
    let new = g.D.Disk.meaning c.select_other.new.disk in
    let written = from_ok c.write_other.result _ c.if-is_err.ensures.value (c.write_other.ensures.written told bodies body is settled) in
    record {
      placed = record { in_range = settled.placed.in_range; some = settled.placed.some; place = settled.placed.place };
      ended = settled.ended;
      has_frames = not_head seat.area old.reads.head (settled.leaves old.reads (laws.reads_is_image c.args.disk.now told)).selected;
      some = (is.some, tt);
      leaves = λ image here.
          let both = at_last (BothStand seat bodies (body ∷ [])) mid new (laws.counts_now c.select_other.new.disk) c.select_other.ensures.time (c.select_other.ensures.any_moment bodies (body ∷ []) written) image here in
          record { here = both.here; there = both.there };
    }

pub returns-then-is_err-2-clause-any_moment : goal.returns-then-is_err-2-clause-any_moment
returns-then-is_err-2-clause-any_moment g c = λ told bodies body is settled.
    let laws = g.met.D.Disk g.world.𝓛 g.world.𝓜 g.world.𝓡 ((λ s x. x), (λ x. x), (λ x. x), λ x. x) in
    let seat = c.args.seat in
    let old = g.D.Disk.meaning c.args.disk.now in
    let mid = g.D.Disk.meaning c.write_other.new.disk in
    let new = g.D.Disk.meaning c.select_other.new.disk in
    let written = from_ok c.write_other.result _ c.if-is_err.ensures.value (c.write_other.ensures.written told bodies body is settled) in
    let framed = not_head seat.area old.reads.head (settled.leaves old.reads (laws.reads_is_image c.args.disk.now told)).selected in
    both_calls (MayLeave seat bodies (other_of seat.area) (body ∷ [])) old mid new c.write_other.ensures.time c.select_other.ensures.time
    (ends_since seat bodies (other_of seat.area) (body ∷ []) old mid settled.placed (c.write_other.ensures.any_moment bodies settled))
    (both_since seat bodies (body ∷ []) mid new settled.placed (is.some, tt) framed (c.select_other.ensures.any_moment bodies (body ∷ []) written))

pub returns-clause-any_moment : goal.returns-clause-any_moment
returns-clause-any_moment g c = λ told bodies body is settled.
    let laws = g.met.D.Disk g.world.𝓛 g.world.𝓜 g.world.𝓡 ((λ s x. x), (λ x. x), (λ x. x), λ x. x) in
    let seat = c.args.seat in
    let old = g.D.Disk.meaning c.args.disk.now in
    let mid = g.D.Disk.meaning c.write_other.new.disk in
    let new = g.D.Disk.meaning c.select_other.new.disk in
    let written = from_ok c.write_other.result _ c.if-is_err.ensures.value (c.write_other.ensures.written told bodies body is settled) in
    let framed = not_head seat.area old.reads.head (settled.leaves old.reads (laws.reads_is_image c.args.disk.now told)).selected in
    both_calls (MayLeave seat bodies (other_of seat.area) (body ∷ [])) old mid new c.write_other.ensures.time c.select_other.ensures.time
    (ends_since seat bodies (other_of seat.area) (body ∷ []) old mid settled.placed (c.write_other.ensures.any_moment bodies settled))
    (both_since seat bodies (body ∷ []) mid new settled.placed (is.some, tt) framed (c.select_other.ensures.any_moment bodies (body ∷ []) written))

pub returns-clause-flipped : goal.returns-clause-flipped
returns-clause-flipped g c = λ told bodies body is settled.
    let seat = c.args.seat in
    let new = g.D.Disk.meaning c.select_other.new.disk in
    let written = from_ok c.write_other.result _ c.if-is_err.ensures.value (c.write_other.ensures.written told bodies body is settled) in
    rw c.beside.ensures (flipped_settled seat bodies new c.args.framed.now body is settled.placed settled.ended
    (from_ok c.select_other.result _ c.if-is_err-2.ensures.value (c.select_other.ensures.selected told bodies (body ∷ []) written)))
