use Rattle.std.proofs.Common.{◌≡◌, Bool, false, List, ℕ, sym, ◌∙◌, ap, subst}
use Rattle.au_io.specs.Moments.{LeavesSince, at_last}
use Rattle.au_journal.specs.declared.doubt.Doubt.{Doubt}
use Rattle.au_journal.specs.declared.doubt.Doubt.TheVariants.{Settled, Gate, Edge}
use Rattle.au_journal.specs.Frames.{front, framed_of}
use Rattle.au_journal.specs.Images.{Doubted, TornEnd, In, MayStandFor}
use Rattle.au_journal.specs.Seats.{BothStand, IsIn, IsSettled, MayLeave, left_in, bare_after, there_of}
use Rattle.au_journal.proofs.Flipped.{both_since}
use Rattle.au_journal.proofs.Leaving.{on_ok}
use Rattle.au_journal.proofs.Steps.{doubted_since, torn_since, gated_settled}
use Rattle.au_journal.proofs.mending.clear_doubt.Goals as goal

pub returns-in-Gate-clause-mended : goal.returns-in-Gate-clause-mended
returns-in-Gate-clause-mended g c = λ told bodies others inside.
    let seat = c.args.seat in
    let old = g.D.Disk.meaning c.args.disk.now in
    let new = g.D.Disk.meaning c.close_gate.new.disk in
    let was = subst (λ (d : Doubt). IsIn d old seat bodies others) c.in-Gate.is inside in
    let bare : bare_after seat.doubt seat.bare ≡ false = ap (λ (d : Doubt). bare_after d seat.bare) c.in-Gate.is ∙ was.gated in
    on_ok c.close_gate.result _ _
    (λ leaves. subst (λ (b : Bool). IsSettled new (left_in Settled b seat) bodies) (sym bare) (gated_settled seat bodies new Settled was.placed was.ended leaves))
    (c.close_gate.ensures.closed told (front seat.limit bodies) (framed_of was.body) was.placed.place was.leaves)

pub returns-in-Gate-clause-doubted : goal.returns-in-Gate-clause-doubted
returns-in-Gate-clause-doubted g c = λ bodies others inside.
    let laws = g.met.D.Disk g.world.𝓛 g.world.𝓜 g.world.𝓡 ((λ s x. x), (λ x. x), (λ x. x), λ x. x) in
    let seat = c.args.seat in
    let old = g.D.Disk.meaning c.args.disk.now in
    let new = g.D.Disk.meaning c.close_gate.new.disk in
    let F = front seat.limit bodies in
    let was = subst (λ (d : Doubt). IsIn d old seat bodies others) c.in-Gate.is inside in
    subst (λ (d : Doubt). IsIn d new seat bodies others) (sym c.in-Gate.is) (record {
      placed = was.placed;
      ended = was.ended;
      gated = was.gated;
      body = was.body;
      some = was.some;
      more = was.more;
      leaves = at_last (In seat.area (Doubted F (framed_of was.body))) old new (laws.counts_now c.close_gate.new.disk) c.close_gate.ensures.time
          (c.close_gate.ensures.any_moment F (framed_of was.body) was.placed.place was.leaves);
    })

pub returns-in-Gate-clause-any_moment : goal.returns-in-Gate-clause-any_moment
returns-in-Gate-clause-any_moment g c = λ bodies others inside.
    let seat = c.args.seat in
    let old = g.D.Disk.meaning c.args.disk.now in
    let new = g.D.Disk.meaning c.close_gate.new.disk in
    let was = subst (λ (d : Doubt). IsIn d old seat bodies others) c.in-Gate.is inside in
    let P : List (List ℕ) → Type 0 = λ o. LeavesSince (MayStandFor false seat.limit seat.area bodies seat.area o) old new in
    let Q : Doubt → Bool → Type 0 = λ d b. LeavesSince (MayStandFor b seat.limit seat.area bodies (there_of d seat.area) others) old new in
    subst (λ (d : Doubt). Q d seat.bare) (sym c.in-Gate.is) (subst (Q Gate) (sym was.gated) (subst P (sym was.more)
    (doubted_since seat bodies old new was.body was.some was.placed
    (c.close_gate.ensures.any_moment (front seat.limit bodies) (framed_of was.body) was.placed.place was.leaves))))

pub returns-in-Edge-clause-doubted : goal.returns-in-Edge-clause-doubted
returns-in-Edge-clause-doubted g c = λ bodies others inside.
    let laws = g.met.D.Disk g.world.𝓛 g.world.𝓜 g.world.𝓡 ((λ s x. x), (λ x. x), (λ x. x), λ x. x) in
    let seat = c.args.seat in
    let old = g.D.Disk.meaning c.args.disk.now in
    let new = g.D.Disk.meaning c.close_gate-in-Edge.new.disk in
    let F = front seat.limit bodies in
    let was = subst (λ (d : Doubt). IsIn d old seat bodies others) c.in-Edge.is inside in
    subst (λ (d : Doubt). IsIn d new seat bodies others) (sym c.in-Edge.is) (record {
      placed = was.placed;
      ended = was.ended;
      bare = was.bare;
      leaves = at_last (In seat.area (TornEnd F)) old new (laws.counts_now c.close_gate-in-Edge.new.disk) c.close_gate-in-Edge.ensures.time
          (c.close_gate-in-Edge.ensures.end_any_moment F was.placed.place was.leaves);
    })

pub returns-in-Edge-clause-any_moment : goal.returns-in-Edge-clause-any_moment
returns-in-Edge-clause-any_moment g c = λ bodies others inside.
    let seat = c.args.seat in
    let old = g.D.Disk.meaning c.args.disk.now in
    let new = g.D.Disk.meaning c.close_gate-in-Edge.new.disk in
    let was = subst (λ (d : Doubt). IsIn d old seat bodies others) c.in-Edge.is inside in
    let Q : Doubt → Bool → Type 0 = λ d b. LeavesSince (MayStandFor b seat.limit seat.area bodies (there_of d seat.area) others) old new in
    subst (λ (d : Doubt). Q d seat.bare) (sym c.in-Edge.is) (subst (Q Edge) (sym was.bare)
    (torn_since seat bodies seat.area others old new (c.close_gate-in-Edge.ensures.end_any_moment (front seat.limit bodies) was.placed.place was.leaves)))

pub returns-in-Head-clause-mended : goal.returns-in-Head-clause-mended
returns-in-Head-clause-mended g c = λ told bodies others inside.
    let seat = c.args.seat in
    let old = g.D.Disk.meaning c.args.disk.now in
    let new = g.D.Disk.meaning c.select_present.new.disk in
    let was = subst (λ (d : Doubt). IsIn d old seat bodies others) c.in-Head.is inside in
    let bare : bare_after seat.doubt seat.bare ≡ seat.bare = ap (λ (d : Doubt). bare_after d seat.bare) c.in-Head.is in
    on_ok c.select_present.result _ _
    (λ leaves. subst (λ (b : Bool). IsSettled new (left_in Settled b seat) bodies) (sym bare) (record {
      placed = record { in_range = was.placed.in_range; some = was.placed.some; place = was.placed.place };
      ended = was.ended;
      leaves = leaves;
    }))
    (c.select_present.ensures.selected told bodies others was)

pub returns-in-Head-clause-doubted : goal.returns-in-Head-clause-doubted
returns-in-Head-clause-doubted g c = λ bodies others inside.
    let laws = g.met.D.Disk g.world.𝓛 g.world.𝓜 g.world.𝓡 ((λ s x. x), (λ x. x), (λ x. x), λ x. x) in
    let seat = c.args.seat in
    let old = g.D.Disk.meaning c.args.disk.now in
    let new = g.D.Disk.meaning c.select_present.new.disk in
    let was = subst (λ (d : Doubt). IsIn d old seat bodies others) c.in-Head.is inside in
    subst (λ (d : Doubt). IsIn d new seat bodies others) (sym c.in-Head.is) (record {
      placed = was.placed;
      ended = was.ended;
      has_frames = was.has_frames;
      some = was.some;
      leaves = at_last (BothStand seat bodies others) old new (laws.counts_now c.select_present.new.disk) c.select_present.ensures.time (c.select_present.ensures.any_moment bodies others was);
    })

pub returns-in-Head-clause-any_moment : goal.returns-in-Head-clause-any_moment
returns-in-Head-clause-any_moment g c = λ bodies others inside.
    let seat = c.args.seat in
    let old = g.D.Disk.meaning c.args.disk.now in
    let new = g.D.Disk.meaning c.select_present.new.disk in
    let was = subst (λ (d : Doubt). IsIn d old seat bodies others) c.in-Head.is inside in
    let Q : Doubt → Type 0 = λ d. LeavesSince (MayLeave seat bodies (there_of d seat.area) others) old new in
    subst Q (sym c.in-Head.is) (both_since seat bodies others old new was.placed was.some was.has_frames (c.select_present.ensures.any_moment bodies others was))
