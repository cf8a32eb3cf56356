-- Columns and keys of new tables.
use Rattle.std.proofs.Common.{◌≡◌, ◌≤◌, ◌<◌, ◌^◌, ℕ, zero, suc, Bool, true, false, List, [], ◌∷◌, length, get_or, map, sym, ◌∙◌, arith}
use Rattle.std.specs.Prelude.{IsTrue}
use Rattle.std.proofs.Math.Nat.{pow-le-pow_right}
use Rattle.std.proofs.lemmas.List.{get_or-map}
use Rattle.au_base.specs.declared.table.Column.{Column}
use Rattle.au_entries.specs.Replaying.{IsKeyPlace}
use Rattle.std.specs.Str.{bytes_eq}
use Rattle.au_replay.proofs.Places.{same_name-is, same_name-to}

pub key_place_to : (columns : List Column) (place : ℕ) (d : Column) → place < length columns → IsTrue (get_or columns place d).not_null → IsKeyPlace columns place
key_place_to [] place d within is = absurd (omega arith)
key_place_to (column ∷ columns) zero d within is = is
key_place_to (column ∷ columns) (suc place) d within is = key_place_to columns place d (omega arith) is

pub key_place_from : (columns : List Column) (place : ℕ) (d : Column) → IsKeyPlace columns place → IsTrue (get_or columns place d).not_null
key_place_from [] place d is = absurd is
key_place_from (column ∷ columns) zero d is = is
key_place_from (column ∷ columns) (suc place) d is = key_place_from columns place d is

pub key_place_within : (columns : List Column) (place : ℕ) → IsKeyPlace columns place → place < length columns
key_place_within [] place is = absurd is
key_place_within (column ∷ columns) zero is = omega arith
key_place_within (column ∷ columns) (suc place) is = let rest = key_place_within columns place is in omega arith

-- no number of 64 bits has over 20 digits
pub few_digits : (size number : ℕ) → 20 ≤ size → number ≤ 9_223_372_036_854_775_808 → number < 10 ^ size
few_digits size number wide fits =
    let more : 10 ^ 20 ≤ 10 ^ size = pow-le-pow_right {n = 10} (omega arith) wide in
    omega (arith, more, fits)

-- a name at a place
pub name_at : (columns : List Column) (i : ℕ) (d : Column) → i < length columns → get_or (map (λ column. column.name) columns) i [] ≡ (get_or columns i d).name
name_at columns i d within = get_or-map (λ (column : Column). column.name) columns i d [] within

-- what a test of the names at two places says
pub same_at : (columns : List Column) (i j : ℕ) (a b : Column) (test : Bool) → i < length columns → j < length columns
    → test ≡ bytes_eq (get_or columns i a).name (get_or columns j b).name → test ≡ true → get_or (map (λ column. column.name) columns) i [] ≡ get_or (map (λ column. column.name) columns) j []
same_at columns i j a b test inside within tested is =
    name_at columns i a inside ∙ same_name-is (get_or columns i a).name (get_or columns j b).name (sym tested ∙ is) ∙ sym (name_at columns j b within)

pub other_at : (columns : List Column) (i j : ℕ) (a b : Column) (test : Bool) → i < length columns → j < length columns
    → test ≡ bytes_eq (get_or columns i a).name (get_or columns j b).name → test ≡ false → get_or (map (λ column. column.name) columns) i [] ≡ get_or (map (λ column. column.name) columns) j [] → ⊥
other_at columns i j a b test inside within tested is same =
    let names : (get_or columns i a).name ≡ (get_or columns j b).name = sym (name_at columns i a inside) ∙ same ∙ name_at columns j b within in
    let e : true ≡ false = sym (same_name-to (get_or columns i a).name (get_or columns j b).name names) ∙ sym tested ∙ is in cc
