use Rattle.std.proofs.Common.{◌++◌, length, drop, refl, sym, ◌∙◌, ap, subst}
use Rattle.au_io.specs.Areas.{Areas, area_of}
use Rattle.au_journal.specs.Images.{Selects}
use Rattle.au_journal.proofs.Standing.{front-nil, open_more}
use Rattle.au_journal.proofs.Seating.{still_after, head_front}
use Rattle.au_journal.proofs.mounting.first_seat.Goals as goal

pub returns-in_ok-size-in-Ok-clause-mounted : goal.returns-in_ok-size-in-Ok-clause-mounted
returns-in_ok-size-in-Ok-clause-mounted g c = λ told selected head still.
    let laws = g.met.D.Disk g.world.𝓛 g.world.𝓜 g.world.𝓡 ((λ s x. x), (λ x. x), (λ x. x), λ x. x) in
    let old = g.D.Disk.meaning c.args.disk.now in
    let new = g.D.Disk.meaning c.size.new.self in
    let stays = c.in_ok-size-in-Ok.ensures.stays in
    let area = area_of c.args.area old.reads in
    let limit = c.in-Ok.limit in
    record {
      walked = record {
        placed = record { in_range = c.in-Ok.ensures.limit; some = tt; place = sym (ap length (front-nil limit)) };
        still = still_after old new (laws.counts_now c.size.new.self) stays still;
        selected = subst (λ (all : Areas). Selects c.args.area all.head) (sym stays.reads) selected;
        walking = refl;
        size = c.in_ok-size-in-Ok.ensures.size told ∙ ap (λ (all : Areas). length (area_of c.args.area all)) (sym stays.reads);
        rest = drop 13 c.args.head.now ++ drop 14 area;
        split = ap (area_of c.args.area) stays.reads ∙ head_front area c.args.head.now limit head c.in-Ok.ensures.header;
      };
      opens = open_more (drop 13 c.args.head.now) (drop 14 area) c.in-Ok.ensures.opens;
    }
