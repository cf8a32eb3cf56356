use Rattle.std.proofs.Common.{refl}
use Rattle.std.specs.Cmp.Lexicographic.{slice_cmp}
use Rattle.std.specs.Ordering.{nat_cmp}
use Rattle.std.specs.Prelude.{◌==◌}
use Rattle.std.specs.Str.{bytes_eq}
use Rattle.au_pindex.proofs.Keys.{added_at, name_same}
use Rattle.au_pindex.proofs.joining.join_role.Goals as goal

pub returns-clause-joined : goal.returns-clause-joined
returns-clause-joined c = λ other at. added_at (slice_cmp nat_cmp) bytes_eq name_same c.args.role.now c.args.role.now other (c.args.place == at) _ _ refl (c.join.ensures.joined other at)
