use Rattle.std.proofs.Common.{◌≡◌, ◌∙◌, ℕ, true, List, ap, refl, sym, subst}
use Rattle.std.specs.List.{AllByRecursion}
use Rattle.au_change.specs.Behind.{sight_in}
use Rattle.au_change.specs.Updating.{row_update}
use Rattle.au_choose.specs.Choosing.{chosen_in, range_in}
use Rattle.au_entries.specs.declared.table.Table.{Table}
use Rattle.au_modify.specs.Keys as keys
use Rattle.au_txn.specs.declared.change.RowChange.{RowChange}
use Rattle.au_txn.specs.Desks.{open_of}
use Rattle.au_txn.specs.Keys.{KeysDiffer}
use Rattle.au_txn.specs.Transactions.{laid_over, rows_differ}
use Rattle.au_change.proofs.KeyRules.{of_table, table_facts, updates_differ}
use Rattle.au_change.proofs.key_rules.key_refusal.Goals as goal

pub are_two_under_one-requires-clause-key : goal.are_two_under_one-requires-clause-key
are_two_under_one-requires-clause-key c =
    let asked = c.args.asked.now in
    let facts = table_facts asked c.requires.asked (λ a b. (c.same_is_equal.ensures.table a b).0) in
    facts.0 ∙ sym (c.key_in-places.ensures ∙ ap (λ (tables : List Table). keys.key_in tables asked.table.now) c.as_slice.ensures)

pub are_two_under_one-requires-clause-seen : goal.are_two_under_one-requires-clause-seen
are_two_under_one-requires-clause-seen c =
    let asked = c.args.asked.now in
    let facts = table_facts asked c.requires.asked (λ a b. (c.same_is_equal.ensures.table a b).0) in
    subst (λ (places : List ℕ). KeysDiffer places asked.table.now (laid_over asked.world.desk.now.rows (open_of asked.world.desk.now asked.client)))
    (facts.0 ∙ sym (c.key_in-places.ensures ∙ ap (λ (tables : List Table). keys.key_in tables asked.table.now) c.as_slice.ensures))
    facts.1

pub are_two_under_one-requires-clause-of_table : goal.are_two_under_one-requires-clause-of_table
are_two_under_one-requires-clause-of_table c =
    let asked = c.args.asked.now in
    subst (λ (changes : List RowChange). AllByRecursion (λ (change : RowChange). change.table ≡ asked.table.now) changes) (sym c.requires.changes)
    (of_table asked.table.now (row_update asked.table.now asked.session.now (range_in (sight_in asked) asked.table.now) asked.update.now.assignments) (λ line. refl)
    (chosen_in (sight_in asked) asked.session.now asked.table.now asked.update.now.condition))

pub are_two_under_one-requires-clause-differ : goal.are_two_under_one-requires-clause-differ
are_two_under_one-requires-clause-differ c =
    let asked = c.args.asked.now in
    subst (λ (changes : List RowChange). rows_differ changes ≡ true) (sym c.requires.changes)
    (updates_differ asked c.requires.asked (λ a b. (c.same_is_equal.ensures.table a b).0)
    (c.rows_are_what_they_answer.ensures.ordered asked.world.desk.now.rows (open_of asked.world.desk.now asked.client) c.holds_together.ensures.rows))
