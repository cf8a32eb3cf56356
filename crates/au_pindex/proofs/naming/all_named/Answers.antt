use Rattle.std.proofs.Common.{◌∙◌, ◌||◌, ℕ, List, ap}
use Rattle.std.specs.BTreeSet.{contains}
use Rattle.std.specs.List.{list_any}
use Rattle.std.specs.Ordering.{is_eq, nat_cmp}
use Rattle.au_base.specs.declared.action.Action.TheVariants.{All}
use Rattle.au_base.specs.declared.privilege.Privilege.{Privilege}
use Rattle.au_base.specs.declared.table.TableName.{TableName}
use Rattle.au_base.specs.Actions as actions
use Rattle.au_base.specs.Privileges as privileges
use Rattle.au_pindex.specs.Buckets.{is_in_bucket}
use Rattle.au_pindex.specs.Indexing.{table_cmp}
use Rattle.au_pindex.specs.descent.Taking.{is_in_role}
use Rattle.au_pindex.proofs.Keys.{in_turn}
use Rattle.au_pindex.proofs.naming.all_named.Goals as goal

pub returns-clause-taken : goal.returns-clause-taken
returns-clause-taken c = λ at.
    let buckets = c.args.buckets.now in
    let facts = c.args.facts.now in
    in_turn (is_in_bucket nat_cmp buckets.actions (actions.code_of facts.action) at) (is_in_bucket nat_cmp buckets.actions (actions.code_of All) at)
    (list_any (λ (table : TableName). is_in_bucket table_cmp buckets.tables table at) facts.tables)
    (list_any (λ (privilege : Privilege). is_in_bucket nat_cmp buckets.privileges (privileges.code_of privilege) at) facts.used)
    (list_any (is_in_role c.args.grants.now facts at) buckets.roles.entries)
    (contains nat_cmp c.new-places.result at) (contains nat_cmp c.take_bucket.new.places at) (contains nat_cmp c.take_bucket-2.new.places at)
    (contains nat_cmp c.take_tables.new.places at) (contains nat_cmp c.take_privileges.new.places at) (contains nat_cmp c.take_roles.new.places at)
    (ap (λ (keys : List ℕ). list_any (λ k. is_eq (nat_cmp at k)) keys) c.new-places.ensures.empty)
    (c.in_ok-take_bucket.ensures at ∙ ap (λ (code : ℕ). is_in_bucket nat_cmp buckets.actions code at || contains nat_cmp c.new-places.result at) c.code.ensures)
    (c.in_ok-take_bucket-2.ensures at ∙ ap (λ (code : ℕ). is_in_bucket nat_cmp buckets.actions code at || contains nat_cmp c.take_bucket.new.places at) c.code-2.ensures)
    (c.in_ok-take_tables.ensures at ∙ ap (λ (tables : List TableName). list_any (λ table. is_in_bucket table_cmp buckets.tables table at) tables || contains nat_cmp c.take_bucket-2.new.places at) c.as_slice.ensures)
    (c.in_ok-take_privileges.ensures at ∙ ap (λ (used : List Privilege). list_any (λ privilege. is_in_bucket nat_cmp buckets.privileges (privileges.code_of privilege) at) used || contains nat_cmp c.take_tables.new.places at) c.as_slice-2.ensures)
    (c.in_ok-take_roles.ensures.taken at)
