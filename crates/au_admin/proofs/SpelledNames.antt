-- Names and texts have a spelling.
use Rattle.std.proofs.Common.{◌<◌, ◌≤◌, ℕ, List, [], ◌∷◌, length, arith}
use Rattle.std.specs.Prelude.{IsUtf8}
use Rattle.std.specs.Cmp.Lexicographic.{nat_list_eq_equiv}
use Rattle.std.specs.List.{AllByRecursion, IsDistinct}
use Rattle.std.specs.Str.{bytes_eq}
use Rattle.au_admin.proofs.Apart.{all_once, no_repeats, once_distinct, once_fewer}
use Rattle.au_base.specs.Limits.{STATEMENT_BYTES}
use Rattle.au_base.specs.Naming.{IsName}
use Rattle.au_calls.specs.Once.{once}
use Rattle.rec_parts.specs.Parts.{name, names, text}

pub name_spelled : (bytes : List ℕ) → IsName bytes → name.IsSpellable bytes
unfolding name
name_spelled bytes is = let capped = is.0.capped in (omega (arith, capped), is)

-- a text of UTF-8 that isn't longer than a statement
abbrev pub IsShortText : List ℕ → Type 0
IsShortText bytes = IsUtf8 bytes × (length bytes ≤ STATEMENT_BYTES)

pub text_spelled : (bytes : List ℕ) → IsShortText bytes → text.IsSpellable bytes
unfolding text
text_spelled bytes is = let short = is.1 in (omega (arith, short), is.0)

all_spelled : (list : List (List ℕ)) → AllByRecursion IsName list → AllByRecursion name.IsSpellable list
all_spelled [] all = tt
all_spelled (one ∷ list) all = (name_spelled one all.0, all_spelled list all.1)

-- names apart are spelled where they are few enough
pub names_spelled : (list : List (List ℕ)) → length list < 65_536 → AllByRecursion IsName list → IsDistinct bytes_eq list → names.IsSpellable list
unfolding names
names_spelled list few all apart = ((omega (arith, few), all_spelled list all), no_repeats bytes_eq nat_list_eq_equiv list apart)

-- so are names that count once
pub names_once_spelled : (list : List (List ℕ)) → length list < 65_536 → AllByRecursion IsName list → names.IsSpellable (once bytes_eq list)
names_once_spelled list few all =
    let fewer = once_fewer bytes_eq list in
    names_spelled (once bytes_eq list) (omega (arith, few, fewer)) (all_once IsName bytes_eq list all) (once_distinct bytes_eq nat_list_eq_equiv.symm list)
