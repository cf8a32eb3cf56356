use Rattle.std.proofs.Common.{◌≡◌, ◌<◌, ℕ, List, true, take}
use Rattle.std.specs.Cmp.Lexicographic.{slice_cmp}
use Rattle.std.specs.List.{list_any}
use Rattle.std.specs.Ordering.{nat_cmp}
use Rattle.std.specs.Str.{bytes_eq}
use Rattle.au_pindex.specs.descent.Rooms.{KeepPlaces, room_in}
use Rattle.au_pindex.proofs.reserving.reserve_roles.Given as goal

-- the buckets have the places that they had, and those of the roles so far have room
abbrev pub invariant-loop-role : goal.invariant-loop-role
invariant-loop-role l =
    KeepPlaces (slice_cmp nat_cmp) l.fn.buckets l.buckets
    × ((role : List ℕ) → list_any (λ part. bytes_eq part role) (take l.role-index l.roles) ≡ true → 0 < room_in (slice_cmp nat_cmp) l.buckets role)
