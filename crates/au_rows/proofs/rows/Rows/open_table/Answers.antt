use Rattle.std.proofs.Common.{◌∙◌, ◌≤◌, ℕ, ap, cond, filter, length, map, nat_eq, arith, Some}
use Rattle.indexmap.specs.IndexMap.{get}
use Rattle.au_rows.specs.declared.table.Table.{Table}
use Rattle.au_rows.specs.Held.{is_of, number_of}
use Rattle.au_rows.specs.Kept.{held_of}
use Rattle.au_rows.proofs.ApartLemmas.{apart-open}
use Rattle.au_rows.proofs.IndexLemmas.{indexed-open}
use Rattle.au_rows.proofs.KnownLemmas.{known-open}
use Rattle.au_rows.proofs.TableLemmas.{all-open, named-there, none-of, is-its-name}
use Rattle.au_rows.proofs.rows.Rows.open_table.Goals as goal

pub invariant_of-self : goal.invariant_of-self
invariant_of-self c =
    let absent = rw (← c.self.view_is) at c.requires.new in
    let none : length c.self.inside.tables.items ≤ number_of c.args.table c.self.inside.tables.items = omega arith in
    let spare = rw (← c.self.view_is) at c.requires.spare in
    rw c.add_table-number.ensures.items (
      c.self.invariant.0,
      all-open c.self.inside.tables.items (record { name = c.args.table; key = c.from_vec-key.result }) c.self.inside.places.listed c.self.invariant.1,
      c.self.invariant.2,
      indexed-open c.self.inside.tables.items (record { name = c.args.table; key = c.from_vec-key.result }) c.self.inside.places.listed c.self.inside.versions.slots c.self.inside.unsettled.listed c.self.invariant.0 c.self.invariant.1 c.self.invariant.3,
      apart-open c.self.inside.tables.items (record { name = c.args.table; key = c.from_vec-key.result }) c.self.invariant.4 none,
      known-open c.self.inside.tables.items (record { name = c.args.table; key = c.from_vec-key.result }) (get nat_eq c.self.inside.guesses.numbers) (get nat_eq c.insert.new.self.numbers) c.add_table-number.result c.self.invariant.5
          (λ hash. c.insert.ensures.numbers hash ∙ ap (λ (h : ℕ). cond (nat_eq h hash) (Some c.add_table-number.result) (get nat_eq c.self.inside.guesses.numbers hash)) c.name_hash-name.ensures),
      omega (arith, c.add_table-number.ensures.len, spare),
    )

pub returns-clause-empty : goal.returns-clause-empty
returns-clause-empty c =
    let tables = c.self.inside.tables.items in
    let new : Table = record { name = c.args.table; key = c.from_vec-key.result } in
    let held = map (held_of c.self.inside.versions.slots) c.self.inside.places.listed in
    let absent = rw (← c.self.view_is) at c.requires.new in
    let none : length tables ≤ number_of c.args.table tables = omega arith in
    ap (λ (t : ℕ). filter (is_of t) held) (ap (number_of c.args.table) c.add_table-number.ensures.items ∙ named-there c.args.table tables new (is-its-name new) none)
    ∙ none-of c.self.inside.versions.slots tables c.self.inside.places.listed c.self.invariant.1
