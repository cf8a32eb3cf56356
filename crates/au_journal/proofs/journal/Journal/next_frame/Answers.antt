use Rattle.std.proofs.Common.{◌≡◌, ◌++◌, [], ◌∷◌, inl, length, refl, arith}
use Rattle.au_journal.proofs.Holding.{behind_next, behind_seat, still_walking, way_after, way_before, way_behind, way_stays}
use Rattle.au_journal.proofs.Seating.{next_fits}
use Rattle.au_journal.proofs.journal.Journal.next_frame.Goals as goal

pub returns-then-count-room-clause-why : goal.returns-then-count-room-clause-why
returns-then-count-room-clause-why g c = λ told bodies before.
    let m = g.D.Disk.meaning c.args.self.now.disk in
    let fits = next_fits m c.args.self.now.seat (length c.args.room.now) bodies before in
    absurd (omega (arith, fits, c.in_ok-count.ensures.all told, c.if-count-room.true))

pub returns-clause-next : goal.returns-clause-next
returns-clause-next g c = λ told bodies before.
    let laws = g.met.D.Disk g.world.𝓛 g.world.𝓜 g.world.𝓡 ((λ s x. x), (λ x. x), (λ x. x), λ x. x) in
    let old = g.D.Disk.meaning c.args.self.now.disk in
    let new = g.D.Disk.meaning c.read.new.disk in
    let seat = c.args.self.now.seat in
    let room = c.args.room.now in
    let full : c.in_ok-count.count ≡ length room = omega (arith, c.in_ok-count.ensures.count, c.if-count-room.false) in
    behind_next old new seat (length room) bodies (laws.counts_now c.read.new.disk) c.in_ok-count.ensures.stays before c.requires.before
    c.read.new.room room refl c.in_ok-count.count full (c.in_ok-count.ensures.bytes told)

pub invariant_of-self-2-clause-stands : goal.invariant_of-self-2-clause-stands
invariant_of-self-2-clause-stands g c =
    let laws = g.met.D.Disk g.world.𝓛 g.world.𝓜 g.world.𝓡 ((λ s x. x), (λ x. x), (λ x. x), λ x. x) in
    let old = g.D.Disk.meaning c.args.self.now.disk in
    let new = g.D.Disk.meaning c.read.new.disk in
    let seat = c.args.self.now.seat in
    let room = c.args.room.now in
    let full : c.in_ok-count.count ≡ length room = omega (arith, c.in_ok-count.ensures.count, c.if-count-room.false) in
    way_after g.D.Disk.told old new seat (behind_seat seat) c.args.self.now.stands (still_walking seat (length room) c.args.self.now.behind c.requires.before)
    (λ told way.
    let walked = behind_next old new seat (length room) way.bodies (laws.counts_now c.read.new.disk) c.in_ok-count.ensures.stays (way_before old seat (length room) way c.requires.before) c.requires.before
    c.read.new.room room refl c.in_ok-count.count full (c.in_ok-count.ensures.bytes told) in
    way_behind new seat (behind_seat seat) (way.bodies ++ c.read.new.room ∷ []) walked refl way.settled refl)

pub invariant_of-self : goal.invariant_of-self
invariant_of-self g c =
    let laws = g.met.D.Disk g.world.𝓛 g.world.𝓜 g.world.𝓡 ((λ s x. x), (λ x. x), (λ x. x), λ x. x) in
    let old = g.D.Disk.meaning c.args.self.now.disk in
    let new = g.D.Disk.meaning c.read.new.disk in
    let seat = c.args.self.now.seat in
    record {
      sized = c.args.self.now.sized;
      short = c.args.self.now.short;
      near = c.args.self.now.near;
      shown = c.read.ensures.shown;
      behind = c.args.self.now.behind;
      stands = way_after g.D.Disk.told old new seat seat c.args.self.now.stands (still_walking seat (length c.args.room.now) c.args.self.now.behind c.requires.before)
          (λ told way. inl (way_stays old new seat (laws.counts_now c.read.new.disk) c.read.ensures.stays way));
    }

pub invariant_of-self-then-count-room-clause-stands : goal.invariant_of-self-then-count-room-clause-stands
invariant_of-self-then-count-room-clause-stands g c =
    let laws = g.met.D.Disk g.world.𝓛 g.world.𝓜 g.world.𝓡 ((λ s x. x), (λ x. x), (λ x. x), λ x. x) in
    let old = g.D.Disk.meaning c.args.self.now.disk in
    let new = g.D.Disk.meaning c.read.new.disk in
    let seat = c.args.self.now.seat in
    way_after g.D.Disk.told old new seat seat c.args.self.now.stands (still_walking seat (length c.args.room.now) c.args.self.now.behind c.requires.before)
    (λ told way. inl (way_stays old new seat (laws.counts_now c.read.new.disk) c.read.ensures.stays way))
