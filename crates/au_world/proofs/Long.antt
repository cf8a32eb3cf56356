-- Names that are no longer than a name may be.
use Rattle.std.proofs.Common.{◌≡◌, ℕ, true, nat_lt, nat_le, List, length, arith}
use Rattle.std.proofs.lemmas.Bool.Decides.{nat_tests}
use Rattle.au_base.specs.Naming.{IsNameLong}

pub long : (name : List ℕ) → nat_lt 0 (length name) ≡ true → nat_le (length name) 128 ≡ true → IsNameLong name
long name some capped = record { some = grind (arith, nat_tests); capped = grind (arith, nat_tests) }
