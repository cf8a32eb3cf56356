use Rattle.std.proofs.Common.{◌≡◌, ◌++◌, drop}
use Rattle.std.specs.List.{flat_map}
use Rattle.au_plan.specs.Inside.{cells_lent}
use Rattle.au_plan.specs.Plans.{contents_in}
use Rattle.au_plan.proofs.lending.contents_of.Given as goal

-- the contents that are lent, and those of the other changes, are those of all
abbrev pub invariant-loop-change : goal.invariant-loop-change
invariant-loop-change l =
    cells_lent l.rows ++ flat_map contents_in (drop l.change-index l.changes) ≡ flat_map contents_in l.changes
