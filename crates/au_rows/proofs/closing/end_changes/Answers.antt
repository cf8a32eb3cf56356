use Rattle.std.proofs.Common.{◌≡◌, ap, length, filter, arith}
use Rattle.au_rows.specs.Kept.{unsettled_others}
use Rattle.au_rows.proofs.ClosingLemmas.{closed, closed-changes, closed-held, closed-indexed, closed-taken, covered}
use Rattle.au_rows.proofs.closing.end_changes.Goals as goal

pub end_all-requires-clause-covered : goal.end_all-requires-clause-covered
end_all-requires-clause-covered c = covered c.args.by c.args.places.now.listed c.args.versions.now.slots c.args.changes.now.listed c.requires

pub returns-clause-sound : goal.returns-clause-sound
returns-clause-sound c =
    rw c.end_all.ensures.others (closed c.args.ending c.args.by c.args.changes.now.listed c.args.places.now.listed c.end_all.new.places.listed c.args.versions.now.slots c.end_all.new.versions.slots c.requires c.end_all.ensures.ended c.end_all.ensures.left)

pub returns-clause-indexed : goal.returns-clause-indexed
returns-clause-indexed c =
    closed-indexed c.args.ending c.args.by c.args.changes.now.listed c.args.places.now.listed c.end_all.new.places.listed c.args.versions.now.slots c.end_all.new.versions.slots c.requires c.end_all.ensures.ended c.end_all.ensures.left

pub returns-clause-held : goal.returns-clause-held
returns-clause-held c =
    (closed-held c.args.ending c.args.by c.args.changes.now.listed c.args.places.now.listed c.end_all.new.places.listed c.args.versions.now.slots c.end_all.new.versions.slots c.requires c.end_all.ensures.ended c.end_all.ensures.left)

pub returns-clause-changes : goal.returns-clause-changes
returns-clause-changes c =
    rw c.end_all.ensures.others (closed-changes c.args.ending c.args.by c.args.changes.now.listed c.args.places.now.listed c.end_all.new.places.listed c.args.versions.now.slots c.end_all.new.versions.slots c.requires c.end_all.ensures.ended c.end_all.ensures.left)

pub returns-clause-taken : goal.returns-clause-taken
returns-clause-taken c =
    let taken = closed-taken c.args.ending c.args.by c.args.changes.now.listed c.args.places.now.listed c.end_all.new.places.listed c.args.versions.now.slots c.end_all.new.versions.slots c.requires c.end_all.ensures.ended c.end_all.ensures.left in
    let kept : length c.end_all.new.changes.listed ≡ length (filter (unsettled_others c.args.by) c.args.changes.now.listed) = ap length c.end_all.ensures.others in
    let room = c.end_all.ensures.changes_room in
    omega arith

pub returns-clause-open : goal.returns-clause-open
returns-clause-open c = λ tables open_places. c.end_all.ensures.ended.open_tables tables open_places
