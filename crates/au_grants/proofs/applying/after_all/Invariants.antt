use Rattle.std.proofs.Common.{◌≡◌, drop}
use Rattle.au_grants.specs.Changing.{applied_all}
use Rattle.au_grants.specs.Order.{AreInOrder}
use Rattle.au_grants.specs.descent.Editing.{listed}
use Rattle.au_grants.proofs.applying.after_all.Given as goal

abbrev pub invariant-loop-change : goal.invariant-loop-change
invariant-loop-change l = (applied_all (drop l.change-index l.changes) (listed l.after) ≡ applied_all l.changes (listed l.fn.grants)) × AreInOrder (listed l.after)
