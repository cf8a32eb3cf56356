use Rattle.std.proofs.Common.{◌≡◌, ◌||◌, ◌&&◌, ℕ, List, true, drop}
use Rattle.std.specs.Prelude.{◌==◌}
use Rattle.std.specs.Cmp.Lexicographic.{slice_cmp}
use Rattle.std.specs.List.{list_any}
use Rattle.std.specs.Ordering.{nat_cmp}
use Rattle.std.specs.Str.{bytes_eq}
use Rattle.au_pindex.specs.Buckets.{is_in_bucket}
use Rattle.au_pindex.specs.descent.Rooms.{takes_in}
use Rattle.au_pindex.proofs.joining.join_roles.Given as goal

abbrev pub invariant-loop-role : goal.invariant-loop-role
invariant-loop-role l =
    ((role : List ℕ) (at : ℕ) → ((list_any (λ part. bytes_eq part role) (drop l.role-index l.roles) && (l.place == at)) || is_in_bucket (slice_cmp nat_cmp) l.buckets role at)
    ≡ ((list_any (λ part. bytes_eq part role) l.roles && (l.place == at)) || is_in_bucket (slice_cmp nat_cmp) l.fn.buckets role at))
    × ((role : List ℕ) → list_any (λ part. bytes_eq part role) l.roles ≡ true → takes_in (slice_cmp nat_cmp) l.buckets role l.place ≡ true)
