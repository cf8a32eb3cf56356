-- A word of fewer than two bytes is no reserved word.
use Rattle.std.proofs.Common.{◌≡◌, ℕ, ◌<◌, ◌≤◌, Bool, true, false, List, [], ◌∷◌, length, refl, sym, ap, arith}
use Rattle.std.proofs.lemmas.Bool.{and_parts, leb-true}
use Rattle.std.proofs.lemmas.Slice.Eq.{bytes_eq-Decides}
use Rattle.std.specs.List.{list_any, list_all}
use Rattle.std.specs.Str.{bytes_eq}
use Rattle.std.specs.Prelude.{nat_le}
use Rattle.sql_parse.specs.Symbols.{reserved, is_reserved}

abbrev is_long : List ℕ → Bool
is_long word = nat_le 2 (length word)

other : (w k : List ℕ) (b : Bool) → bytes_eq w k ≡ b → 2 ≤ length k → length w < 2 → b ≡ false
other w k false e long short = refl
other w k true e long short = let same : w ≡ k = (bytes_eq-Decides w k).0 e in let alike : length w ≡ length k = ap length same in absurd (omega arith)

none_among : (w : List ℕ) (ks : List (List ℕ)) → list_all is_long ks ≡ true → length w < 2 → list_any (bytes_eq w) ks ≡ false
none_among w [] all short = refl
none_among w (k ∷ ks) all short =
    let parts = and_parts (is_long k) (list_all is_long ks) all in
    rw (other w k (bytes_eq w k) refl (leb-true 2 (length k) parts.0) short, none_among w ks parts.1 short) refl

pub none_reserved : (w : List ℕ) → length w < 2 → false ≡ is_reserved w
unfolding is_reserved
none_reserved w short = sym (none_among w reserved refl short)
