use Rattle.std.proofs.Common.{◌≡◌, ◌||◌, ℕ, drop}
use Rattle.std.specs.BTreeSet.{contains}
use Rattle.std.specs.List.{list_any}
use Rattle.std.specs.Ordering.{nat_cmp}
use Rattle.au_base.specs.Privileges.{code_of}
use Rattle.au_pindex.specs.Buckets.{is_in_bucket}
use Rattle.au_pindex.proofs.naming.take_privileges.Given as goal

abbrev pub invariant-loop-privilege : goal.invariant-loop-privilege
invariant-loop-privilege l =
    (at : ℕ) → (list_any (λ privilege. is_in_bucket nat_cmp l.buckets (code_of privilege) at) (drop l.privilege-index l.used) || contains nat_cmp l.places at)
    ≡ (list_any (λ privilege. is_in_bucket nat_cmp l.buckets (code_of privilege) at) l.used || contains nat_cmp l.fn.places at)
