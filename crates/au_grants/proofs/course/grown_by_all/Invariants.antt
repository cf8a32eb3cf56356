use Rattle.std.proofs.Common.{◌≡◌, drop}
use Rattle.au_grants.specs.Changing.{applied_all}
use Rattle.au_grants.specs.descent.Growing.{AreGrowing, grown}
use Rattle.au_grants.proofs.course.grown_by_all.Given as goal

abbrev pub invariant-loop-change : goal.invariant-loop-change
invariant-loop-change l = (applied_all (drop l.change-index l.changes) (grown l.after) ≡ applied_all l.changes (grown l.fn.lists)) × AreGrowing l.after
