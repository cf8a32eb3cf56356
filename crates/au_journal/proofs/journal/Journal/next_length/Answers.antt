use Rattle.std.proofs.Common.{ℕ, drop, Option, Some, None, MatchOption, inl, refl, sym, ◌∙◌, ap, subst}
use Rattle.std.proofs.Math.Dec.{eqb}
use Rattle.std.proofs.lemmas.Bool.{eqb-true, eqb-false}
use Rattle.au_io.specs.Areas.{Areas, area_of}
use Rattle.au_journal.specs.Frames.{IsShut}
use Rattle.au_journal.specs.Walk.{BeginsWithFrame, IsBefore}
use Rattle.au_journal.specs.Seats.{IsSettled}
use Rattle.au_journal.specs.declared.seat.Seat.{Seat}
use Rattle.au_journal.specs.Held.{IsWalkedOrHeld}
use Rattle.au_journal.specs.Window.{Shows}
use Rattle.au_journal.proofs.Holding.{found_seat, found_stands, way_after, way_stays}
use Rattle.au_journal.proofs.Seating.{walked_after, rest_is, end_leaves, none_of, some_of}
use Rattle.au_journal.proofs.journal.Journal.next_length.Goals as goal
use Rattle.au_journal.proofs.journal.Journal.next_length.Goals.{in-None, in-Some}

pub returns-clause-next : goal.returns-clause-next
returns-clause-next g c = λ told bodies walked.
    let laws = g.met.D.Disk g.world.𝓛 g.world.𝓜 g.world.𝓡 ((λ s x. x), (λ x. x), (λ x. x), λ x. x) in
    let old = g.D.Disk.meaning c.args.self.now.disk in
    let new = g.D.Disk.meaning c.length_at.new.disk in
    let seat = c.args.self.now.seat in
    let next = c.in_ok-found.ensures.next told walked.size in
    let now_walked = walked_after old new seat bodies (laws.counts_now c.length_at.new.disk) c.in_ok-found.ensures.stays walked in
    let rest = ap (λ (all : Areas). drop seat.used (area_of seat.area all)) (sym c.in_ok-found.ensures.stays.reads) ∙ rest_is new seat bodies now_walked in
    let d = drop seat.used (area_of seat.area old.reads) in
    let goal_of = λ (o : Option ℕ) (s : Seat). MatchOption o (IsSettled new s bodies) (λ n. IsBefore new s n bodies) in
    elim c.match-found.branch [
      | in-None w ↦
          subst (λ (o : Option ℕ). goal_of o c.match-found.self) (sym (w.found-is ∙ w.in-None.is))
          (subst (λ (s : Seat). IsSettled new s bodies) (sym w.self-is) (record {
            placed = record { in_range = walked.placed.in_range; some = walked.placed.some; place = walked.placed.place };
            ended = refl;
            leaves = end_leaves new seat bodies (eqb seat.size seat.used) now_walked (subst IsShut rest (none_of (IsShut d) (λ n. BeginsWithFrame n d) c.in_ok-found.found w.in-None.is next))
                (eqb-true seat.size seat.used) (eqb-false seat.size seat.used);
          }))
      | in-Some w ↦
          subst (λ (o : Option ℕ). goal_of o c.match-found.self) (sym w.found-is)
          (subst (λ (s : Seat). IsBefore new s w.in-Some.n bodies) (sym w.self-is) (record {
            walked = record {
              placed = record { in_range = walked.placed.in_range; some = walked.placed.some; place = walked.placed.place };
              still = now_walked.still;
              selected = now_walked.selected;
              walking = now_walked.walking;
              size = now_walked.size;
              rest = now_walked.rest;
              split = now_walked.split;
            };
            next = subst (BeginsWithFrame w.in-Some.n) rest (some_of (IsShut d) (λ n. BeginsWithFrame n d) c.in_ok-found.found w.in-Some.n w.in-Some.is next);
            reach = refl;
          }))
    ]

pub invariant_of-self : goal.invariant_of-self
invariant_of-self g c =
    let laws = g.met.D.Disk g.world.𝓛 g.world.𝓜 g.world.𝓡 ((λ s x. x), (λ x. x), (λ x. x), λ x. x) in
    let old = g.D.Disk.meaning c.args.self.now.disk in
    let new = g.D.Disk.meaning c.length_at.new.disk in
    let seat = c.args.self.now.seat in
    record {
      sized = c.args.self.now.sized;
      short = c.args.self.now.short;
      near = c.args.self.now.near;
      shown = c.length_at.ensures.shown;
      behind = c.args.self.now.behind;
      stands = way_after g.D.Disk.told old new seat seat c.args.self.now.stands c.if-self.false
          (λ told way. inl (way_stays old new seat (laws.counts_now c.length_at.new.disk) c.length_at.ensures.stays way));
    }

pub invariant_of-self-2-clause-stands : goal.invariant_of-self-2-clause-stands
invariant_of-self-2-clause-stands g c =
    let laws = g.met.D.Disk g.world.𝓛 g.world.𝓜 g.world.𝓡 ((λ s x. x), (λ x. x), (λ x. x), λ x. x) in
    let old = g.D.Disk.meaning c.args.self.now.disk in
    let new = g.D.Disk.meaning c.length_at.new.disk in
    let seat = c.args.self.now.seat in
    let counts = laws.counts_now c.length_at.new.disk in
    let stays = c.in_ok-found.ensures.stays in
    elim c.match-found.branch [
      | in-None w ↦
          subst (λ (s : Seat). ∥ (g.D.Disk.told → IsWalkedOrHeld new s) ∥₁) (sym w.self-is)
          (way_after g.D.Disk.told old new seat (found_seat seat None) c.args.self.now.stands c.if-self.false
          (λ told way. found_stands old new seat way.bodies counts stays way.walked None way.settled (rw w.in-None.is at (c.in_ok-found.ensures.next told way.walked.size))))
      | in-Some w ↦
          subst (λ (s : Seat). ∥ (g.D.Disk.told → IsWalkedOrHeld new s) ∥₁) (sym w.self-is)
          (way_after g.D.Disk.told old new seat (found_seat seat (Some w.in-Some.n)) c.args.self.now.stands c.if-self.false
          (λ told way. found_stands old new seat way.bodies counts stays way.walked (Some w.in-Some.n) way.settled (rw w.in-Some.is at (c.in_ok-found.ensures.next told way.walked.size))))
    ]

pub invariant_of-self-2-clause-shown : goal.invariant_of-self-2-clause-shown
invariant_of-self-2-clause-shown g c = λ told.
    let new = g.D.Disk.meaning c.length_at.new.disk in
    let P : Seat → Type 0 = λ s. Shows c.length_at.new.window (area_of s.area new.reads) in
    elim c.match-found.branch [
      | in-None w ↦ subst P (sym w.self-is) (c.length_at.ensures.shown told)
      | in-Some w ↦ subst P (sym w.self-is) (c.length_at.ensures.shown told)
    ]
