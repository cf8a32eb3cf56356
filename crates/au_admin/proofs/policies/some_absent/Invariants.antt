use Rattle.std.proofs.Common.{◌≡◌, false, take}
use Rattle.std.specs.List.{list_any}
use Rattle.au_admin.specs.Policies.{is_absent}
use Rattle.au_define.specs.Settings.{lent}
use Rattle.au_admin.proofs.policies.some_absent.Given as goal

abbrev pub invariant-loop-part : goal.invariant-loop-part
invariant-loop-part l = list_any (λ part. is_absent (lent l.case) part.table) (take l.part-index l.parts) ≡ false
