use Rattle.std.proofs.Common.{◌≡◌, ◌||◌, ◌&&◌, ℕ, true, drop}
use Rattle.std.specs.Prelude.{◌==◌}
use Rattle.std.specs.List.{list_any}
use Rattle.std.specs.Ordering.{nat_cmp}
use Rattle.au_base.specs.declared.privilege.Privilege.{Privilege}
use Rattle.au_base.specs.Privileges.{code_of}
use Rattle.au_base.specs.Sameness.{same_privilege}
use Rattle.au_pindex.specs.Buckets.{is_in_bucket}
use Rattle.au_pindex.specs.descent.Rooms.{takes_in}
use Rattle.au_pindex.proofs.joining.join_privileges.Given as goal

abbrev pub invariant-loop-privilege : goal.invariant-loop-privilege
invariant-loop-privilege l =
    ((privilege : Privilege) (at : ℕ) → ((list_any (λ part. same_privilege part privilege) (drop l.privilege-index l.privileges) && (l.place == at)) || is_in_bucket nat_cmp l.buckets (code_of privilege) at)
    ≡ ((list_any (λ part. same_privilege part privilege) l.privileges && (l.place == at)) || is_in_bucket nat_cmp l.fn.buckets (code_of privilege) at))
    × ((privilege : Privilege) → list_any (λ part. same_privilege part privilege) l.privileges ≡ true → takes_in nat_cmp l.buckets (code_of privilege) l.place ≡ true)
