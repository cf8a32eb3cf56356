use Rattle.std.proofs.Common.{◌≡◌, ◌∙◌, ℕ, List, ap, ap₂, subst, Some, None, arith, map, is_some, get_or, ◌++◌, ◌∷◌, []}
use Rattle.std.specs.List.{count_by}
use Rattle.au_base.specs.declared.cell.Cell.{Cell}
use Rattle.au_rows.specs.declared.unsettled.Unsettled.{Unsettled}
use Rattle.au_rows.specs.Held.{key_of, number_of, is_free_for, owner_of, with_row, Change}
use Rattle.au_rows.specs.Kept.{change_of, held_of, place_shown}
use Rattle.au_rows.specs.Hash.{version_hash}
use Rattle.au_rows.specs.Stored.{Puts}
use Rattle.au_rows.proofs.IndexLemmas.{indexed-put}
use Rattle.au_rows.proofs.PutLemmas.{own-open, own-shown, open-there, put-sound, put-held, put-changes, spare-put, same-contents}
use Rattle.au_rows.proofs.rows.Rows.put.Goals as goal

pub invariant_of-self : goal.invariant_of-self
invariant_of-self c =
    let tables = c.self.inside.tables.items in
    let places = c.self.inside.places.listed in
    let is : c.number_of-table.result ≡ number_of c.args.table.now tables = c.number_of-table.ensures.number ∙ ap (number_of c.args.table.now) c.deref.ensures.value in
    let puts_short = subst (λ (x : List Cell). Puts c.self.inside.versions.slots c.insert-slot.new.self.slots c.insert-slot.result (record { table = c.short-short.result; number = c.args.row; cells = x; hash = c.version_hash-hash.result })) c.from_vec.ensures c.insert-slot.ensures.puts in
    let puts = subst (λ (t : ℕ). Puts c.self.inside.versions.slots c.insert-slot.new.self.slots c.insert-slot.result (record { table = t; number = c.args.row; cells = c.args.cells.items; hash = c.version_hash-hash.result })) c.short-short.ensures puts_short in
    let free = rw (← c.self.view_is) at c.requires.free in
    let open_table = rw (← c.self.view_is) at c.requires.open in
    let spare = rw (← c.self.view_is) at c.requires.spare in
    let shown = own-shown c.number_of-table.result c.args.row c.args.by (Some c.insert-slot.result) places in
    let key : c.key_of.result.now ≡ key_of c.number_of-table.result tables = c.key_of.ensures ∙ ap (key_of c.number_of-table.result) c.deref-2.ensures.value in
    let hash : c.version_hash-hash.result ≡ version_hash c.number_of-table.result c.args.row.0 (key_of c.number_of-table.result tables) c.args.cells.items =
    c.version_hash-hash.ensures ∙ ap₂ (version_hash c.number_of-table.result c.args.row.0) key c.deref-3.ensures.value in
    rw (c.own.ensures.listed, c.push.ensures.listed, c.short-short.ensures) (
      put-sound c.self.inside.versions.slots c.insert-slot.new.self.slots c.insert-slot.result c.args.cells.items c.version_hash-hash.result c.number_of-table.result c.args.row puts c.args.by places c.self.inside.unsettled.listed c.self.invariant.0 c.requires.numbered
          (ap (λ (t : ℕ). is_free_for c.args.by (owner_of t c.args.row (map (held_of c.self.inside.versions.slots) places))) is ∙ free),
      own-open tables c.number_of-table.result c.args.row c.args.by (Some c.insert-slot.result) places
          (ap (λ (t : ℕ). is_some (get_or tables t None)) is ∙ open-there c.args.table.now tables open_table) c.self.invariant.1,
      omega arith,
      indexed-put tables c.self.inside.versions.slots c.insert-slot.new.self.slots c.insert-slot.result _ puts hash c.self.invariant.3,
      c.self.invariant.4,
      c.self.invariant.5,
      omega (arith, c.own.ensures.tables, c.self.invariant.6),
    )

pub own-requires-clause-counted : goal.own-requires-clause-counted
own-requires-clause-counted c =
    let tables = c.self.inside.tables.items in
    let is : c.number_of-table.result ≡ number_of c.args.table.now tables = c.number_of-table.ensures.number ∙ ap (number_of c.args.table.now) c.deref.ensures.value in
    let open_table = rw (← c.self.view_is) at c.requires.open in
    omega (arith, is, open_table, c.self.inside.tables.ok.0, c.self.invariant.6)

pub returns-clause-rest : goal.returns-clause-rest
returns-clause-rest c =
    let tables = c.self.inside.tables.items in
    let places = c.self.inside.places.listed in
    let is : c.number_of-table.result ≡ number_of c.args.table.now tables = c.number_of-table.ensures.number ∙ ap (number_of c.args.table.now) c.deref.ensures.value in
    let puts_short = subst (λ (x : List Cell). Puts c.self.inside.versions.slots c.insert-slot.new.self.slots c.insert-slot.result (record { table = c.short-short.result; number = c.args.row; cells = x; hash = c.version_hash-hash.result })) c.from_vec.ensures c.insert-slot.ensures.puts in
    let puts = subst (λ (t : ℕ). Puts c.self.inside.versions.slots c.insert-slot.new.self.slots c.insert-slot.result (record { table = t; number = c.args.row; cells = c.args.cells.items; hash = c.version_hash-hash.result })) c.short-short.ensures puts_short in
    rw (← c.self.view_is) (same-contents tables _ _ _ _ _
    (ap (map (held_of c.insert-slot.new.self.slots)) c.own.ensures.listed
    ∙ (put-held c.self.inside.versions.slots c.insert-slot.new.self.slots c.insert-slot.result c.args.cells.items c.version_hash-hash.result c.number_of-table.result c.args.row puts c.args.by places c.self.inside.unsettled.listed c.self.invariant.0
    ∙ ap (λ (t : ℕ). with_row t c.args.row c.args.by (Some c.args.cells.items) (map (held_of c.self.inside.versions.slots) places)) is))
    (ap (map (change_of c.insert-slot.new.self.slots)) (c.push.ensures.listed ∙ ap (λ (t : ℕ). c.self.inside.unsettled.listed ++ (let change : Unsettled = record { by = c.args.by; table = t; number = c.args.row; slot = Some c.insert-slot.result } in change) ∷ []) c.short-short.ensures)
    ∙ (put-changes c.self.inside.versions.slots c.insert-slot.new.self.slots c.insert-slot.result c.args.cells.items c.version_hash-hash.result c.number_of-table.result c.args.row puts c.args.by places c.self.inside.unsettled.listed c.self.invariant.0
    ∙ ap (λ (t : ℕ). map (change_of c.self.inside.versions.slots) c.self.inside.unsettled.listed ++ (let change : Change = record { by = c.args.by; table = t; number = c.args.row; content = Some c.args.cells.items } in change) ∷ []) is)))

pub returns-clause-spare : goal.returns-clause-spare
returns-clause-spare c =
    let shown = own-shown c.number_of-table.result c.args.row c.args.by (Some c.insert-slot.result) c.self.inside.places.listed in
    let counted = ap (count_by place_shown) c.own.ensures.listed in
    rw (← c.self.view_is) (spare-put _ _ _ _ _ _ _ _ _ _ _ (omega (arith, c.own.ensures.tables)) c.own.ensures.room c.insert-slot.ensures.room (omega arith))
