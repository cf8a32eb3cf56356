use Rattle.std.proofs.Common.{sym, subst, IsUtf8}
use Rattle.std.proofs.lemmas.Str.{IsUtf8-from_ascii}
use Rattle.au_base.proofs.text.Text.from_ascii.Goals as goal

pub invariant_of-result : goal.invariant_of-result
invariant_of-result c = subst IsUtf8 (sym c.in_ok-from_slice.ensures.ok) (IsUtf8-from_ascii _ c.requires)
