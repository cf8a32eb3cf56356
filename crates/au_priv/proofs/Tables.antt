-- Names of tables that are the same are equal.
use Rattle.std.proofs.Common.{◌≡◌, true, refl, ap, ◌∙◌}
use Rattle.std.specs.Str.{bytes_eq}
use Rattle.std.proofs.lemmas.Bool.{and_parts, and_from}
use Rattle.std.proofs.lemmas.Slice.Eq.{bytes_eq-Decides}
use Rattle.au_base.specs.declared.table.TableName.{TableName}
use Rattle.au_base.specs.Sameness.{same_table}
use Rattle.au_grants.specs.Rights.{Name}

pub same_name-is : (a b : Name) → bytes_eq a b ≡ true → a ≡ b
same_name-is a b is = (bytes_eq-Decides a b).0 is

pub same_name-to : (a b : Name) → a ≡ b → bytes_eq a b ≡ true
same_name-to a b same = (bytes_eq-Decides a b).1 same

pub same_name-refl : (a : Name) → bytes_eq a a ≡ true
same_name-refl a = (bytes_eq-Decides a a).1 refl

pub same_table-is : (a b : TableName) → same_table a b ≡ true → a ≡ b
same_table-is a b is =
    let parts = and_parts (bytes_eq a.owner b.owner) (bytes_eq a.name b.name) is in
    let owners : a.owner ≡ b.owner = same_name-is _ _ parts.0 in
    let names : a.name ≡ b.name = same_name-is _ _ parts.1 in
    let table : Name → Name → TableName = λ owner name. record { owner = owner; name = name } in
    let half : table a.owner a.name ≡ table b.owner a.name = ap (λ (owner : Name). table owner a.name) owners in
    half ∙ ap (λ (name : Name). table b.owner name) names

pub same_table-refl : (a : TableName) → same_table a a ≡ true
same_table-refl a = and_from _ _ (same_name-refl a.owner) (same_name-refl a.name)
