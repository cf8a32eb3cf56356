use Rattle.std.proofs.Common.{◌≡◌, ◌<◌, true, take}
use Rattle.std.specs.List.{list_any}
use Rattle.std.specs.Ordering.{nat_cmp}
use Rattle.au_base.specs.declared.privilege.Privilege.{Privilege}
use Rattle.au_base.specs.Privileges.{code_of}
use Rattle.au_base.specs.Sameness.{same_privilege}
use Rattle.au_pindex.specs.descent.Rooms.{KeepPlaces, room_in}
use Rattle.au_pindex.proofs.reserving.reserve_privileges.Given as goal

-- the buckets have the places that they had, and those of the privileges so far have room
abbrev pub invariant-loop-privilege : goal.invariant-loop-privilege
invariant-loop-privilege l =
    KeepPlaces nat_cmp l.fn.buckets l.buckets
    × ((privilege : Privilege) → list_any (λ part. same_privilege part privilege) (take l.privilege-index l.privileges) ≡ true → 0 < room_in nat_cmp l.buckets (code_of privilege))
