-- Changes that are made with new grants apart.
use Rattle.std.specs.Prelude.{◌≡◌, List}
use Rattle.au_grants.specs.declared.change.GrantChange.{GrantChange}
use Rattle.au_grants.specs.declared.edits.Growth.{Growth}
use Rattle.au_grants.specs.declared.growing.GrowingLists.{GrowingLists}
use Rattle.au_grants.specs.declared.lists.GrantLists.{GrantLists}
use Rattle.au_grants.specs.descent.Editing.{listed}
use Rattle.au_grants.specs.descent.Growing.{AreGrowing, HasGrowth, grown}

-- the grants with the vectors
abbrev pub with_growth : GrantLists → Growth → GrowingLists
with_growth kept growth = record { kept = kept; fresh = growth.fresh; moving = growth.moving }

-- the changes can be made on these grants with the vectors
pub record GrowsFrom (changes : List GrantChange) (kept : GrantLists) (growth : Growth) : Type 0 where
  pub ready : AreGrowing (with_growth kept growth)
  pub room : HasGrowth changes (with_growth kept growth)
  pub same : grown (with_growth kept growth) ≡ listed kept
