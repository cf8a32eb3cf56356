use Rattle.std.proofs.Common.{◌∙◌, sym, ap, reverse, arith}
use Rattle.au_grants.proofs.Moving.{moved_front, moved_tail}
use Rattle.au_grants.proofs.growing.move_from.Goals as goal

pub loop-entries-preserved-in-Some : goal.loop-entries-preserved-in-Some
loop-entries-preserved-in-Some g c =
    let at = c.loop-entries.invariant in
    let front = sym at.1 ∙ c.in-Some.ensures.items in
    let long = sym c.pop.new.self.ok.0 in
    let more = c.loop-entries-test.true in
    let count = c.len.ensures in
    let fewer = c.in-Some.ensures.cases in
    let longer = c.push_reserved.ensures.len in (
      ap reverse c.push_reserved.ensures.items ∙ moved_tail c.args.entries.now.items c.pop.new.self.items c.loop-entries.moving.items (reverse c.args.moving.now.items) c.in-Some.last _ _ front long at.0,
      moved_front c.args.entries.now.items c.pop.new.self.items c.in-Some.last _ _ front long,
      omega (arith, more, count, fewer),
      omega (arith, fewer, at.3),
      omega (arith, fewer, longer, at.4),
      c.in-Some.ensures.capacity ∙ at.5,
      c.push_reserved.ensures.capacity ∙ at.6,
    )
