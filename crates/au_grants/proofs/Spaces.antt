-- Vectors that are kept for new grants suffice for the changes.
use Rattle.std.proofs.Common.{◌≡◌, ◌≤◌, ◌<◌, ◌+◌, ℕ, Bool, List, [], length, ap, arith}
use Rattle.std.specs.Prelude.{MatchOption, Option, Some, None, ⊤, vec_capacity}
use Rattle.au_grants.specs.declared.edits.Edits.{Edits}
use Rattle.au_grants.specs.declared.edits.Growth.{Growth}
use Rattle.au_grants.specs.declared.lists.GrantLists.{GrantLists}
use Rattle.au_grants.specs.Order.{AreInOrder, object_before, role_before, system_before}
use Rattle.au_grants.specs.descent.Editing.{AreSpared, IsSpacious, listed}
use Rattle.au_grants.specs.descent.Growing.{IsRoomy, merged}
use Rattle.au_grants.specs.descent.Spacious.{GrowsFrom, with_growth}
use Rattle.au_grants.proofs.Growths.{grown_alone, merged_length, ready_alone}

roomy : {X : Type 0} (before : X → X → Bool) (fresh kept : List X) (count more some k m f : ℕ) → fresh ≡ [] → length kept ≤ count → more ≡ some → length kept + more ≤ k → count + more ≤ m → 0 < f
    → IsRoomy (length (merged before fresh kept) + some) k m f (length fresh)
roomy before fresh kept count more some k m f empty fits as_many room wide free =
    let long = merged_length before fresh kept in
    let none : length fresh ≡ 0 = ap length empty in
    record { stand = omega (arith, long, none, as_many, room); move = omega (arith, long, none, fits, as_many, wide); add = omega (arith, none, free) }

at : (edits : Edits) (kept : GrantLists) (found : Option Growth) → AreSpared edits → MatchOption found ⊤ (IsSpacious (edits.system.count + edits.system.more) (edits.role.count + edits.role.more) (edits.object.count + edits.object.more))
    → length kept.system.items ≤ edits.system.count → length kept.role.items ≤ edits.role.count → length kept.object.items ≤ edits.object.count
    → length kept.system.items + edits.system.more ≤ vec_capacity kept.system → length kept.role.items + edits.role.more ≤ vec_capacity kept.role → length kept.object.items + edits.object.more ≤ vec_capacity kept.object
    → AreInOrder (listed kept) → MatchOption found ⊤ (GrowsFrom edits.changes.items kept)
at edits kept None spared space a b c d e f ordered = tt
at edits kept (Some growth) spared space a b c d e f ordered = record {
  ready = record {
    system = ready_alone system_before growth.fresh.system.items kept.system.items space.no_fresh_system ordered.0;
    role = ready_alone role_before growth.fresh.role.items kept.role.items space.no_fresh_role ordered.1;
    object = ready_alone object_before growth.fresh.object.items kept.object.items space.no_fresh_object ordered.2;
    no_system = space.no_system;
    no_role = space.no_role;
    no_object = space.no_object;
  };
  room = record {
    system = roomy system_before growth.fresh.system.items kept.system.items edits.system.count edits.system.more _ _ _ _ space.no_fresh_system a spared.system d space.for_system space.fresh_system;
    role = roomy role_before growth.fresh.role.items kept.role.items edits.role.count edits.role.more _ _ _ _ space.no_fresh_role b spared.role e space.for_role space.fresh_role;
    object = roomy object_before growth.fresh.object.items kept.object.items edits.object.count edits.object.more _ _ _ _ space.no_fresh_object c spared.object f space.for_object space.fresh_object;
  };
  same = grown_alone (with_growth kept growth) space.no_fresh_system space.no_fresh_role space.no_fresh_object;
}

-- the changes can be made on grants that fit
pub may_grow : (edits : Edits) (kept : GrantLists) → AreSpared edits
    → length kept.system.items ≤ edits.system.count → length kept.role.items ≤ edits.role.count → length kept.object.items ≤ edits.object.count
    → length kept.system.items + edits.system.more ≤ vec_capacity kept.system → length kept.role.items + edits.role.more ≤ vec_capacity kept.role → length kept.object.items + edits.object.more ≤ vec_capacity kept.object
    → AreInOrder (listed kept) → MatchOption edits.growth ⊤ (GrowsFrom edits.changes.items kept)
may_grow edits kept spared = at edits kept edits.growth spared spared.growth
