use Rattle.std.proofs.Common.{◌≡◌, ◌||◌, ℕ}
use Rattle.std.specs.BTreeSet.{contains}
use Rattle.std.specs.List.{list_any}
use Rattle.std.specs.Ordering.{nat_cmp}
use Rattle.au_pindex.specs.descent.Taking.{is_in_role}
use Rattle.au_pindex.proofs.naming.take_roles.Given as goal

abbrev pub invariant-loop-role : goal.invariant-loop-role
invariant-loop-role l =
    (at : ℕ) → (list_any (is_in_role l.grants l.facts at) l.role-iterator || contains nat_cmp l.places at) ≡ (list_any (is_in_role l.grants l.facts at) l.buckets.entries || contains nat_cmp l.fn.places at)
