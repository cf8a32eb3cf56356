-- The table that is found is the only one of its name.
use Rattle.std.proofs.Common.{◌≡◌, ◌∙◌, ℕ, true, List, ap}
use Rattle.std.proofs.lemmas.Bool.{and_parts, and_from}
use Rattle.std.specs.Str.{bytes_eq}
use Rattle.au_base.specs.Sameness.{same_table}
use Rattle.au_base.specs.declared.table.TableName.{TableName}
use Rattle.std.specs.List.{Contains}
use Rattle.au_base.specs.Order.{fields_before, is_in_order}
use Rattle.std.specs.Prelude.{map}
use Rattle.au_entries.specs.declared.table.Table.{Table}
use Rattle.au_entries.specs.Changing.{table_fields}
use Rattle.au_replay.proofs.Halving.{by_fields, only_one}
use Rattle.au_replay.proofs.Places.{fields_of_table, same_name-is, same_name-to}

pub one_table : (tables : List Table) (a b : Table) → is_in_order fields_before (map fields_of_table tables) ≡ true → Contains tables a → Contains tables b → a.name ≡ b.name → a ≡ b
one_table tables a b ordered one other same = only_one fields_of_table tables a b (by_fields fields_of_table tables ordered) one other (ap table_fields same)

pub same_table-is : (a b : TableName) → same_table a b ≡ true → a ≡ b
same_table-is a b is =
    let parts = and_parts (bytes_eq a.owner b.owner) (bytes_eq a.name b.name) is in
    let owners : a.owner ≡ b.owner = same_name-is _ _ parts.0 in
    let names : a.name ≡ b.name = same_name-is _ _ parts.1 in
    let table : List ℕ → List ℕ → TableName = λ owner name. record { owner = owner; name = name } in
    let half : table a.owner a.name ≡ table b.owner a.name = ap (λ (owner : List ℕ). table owner a.name) owners in
    half ∙ ap (λ (name : List ℕ). table b.owner name) names

pub same_table-to : (a b : TableName) → a ≡ b → same_table a b ≡ true
same_table-to a b same = and_from _ _ (same_name-to _ _ (ap (λ (t : TableName). t.owner) same)) (same_name-to _ _ (ap (λ (t : TableName). t.name) same))
