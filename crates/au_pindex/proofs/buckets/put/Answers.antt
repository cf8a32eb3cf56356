use Rattle.std.proofs.Common.{◌∙◌, ap, sym}
use Rattle.au_pindex.specs.descent.Rooms.{ends_with}
use Rattle.au_pindex.proofs.Ended.{added_ends, ended_any}
use Rattle.au_pindex.proofs.buckets.put.Goals as goal

pub returns-then-is_last-clause-places : goal.returns-then-is_last-clause-places
returns-then-is_last-clause-places c = λ at. ended_any c.args.place c.args.bucket.now.items (ap (ends_with c.args.place) (sym c.as_slice.ensures.value) ∙ sym c.is_last.ensures ∙ c.if-is_last.true) at

pub returns-clause-last : goal.returns-clause-last
returns-clause-last c = added_ends c.args.place _ _ c.push_reserved.ensures.items
