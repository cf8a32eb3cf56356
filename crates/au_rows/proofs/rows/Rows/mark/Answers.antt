use Rattle.std.proofs.Common.{◌≡◌, ◌∙◌, ℕ, true, ◌++◌, ◌∷◌, [], ap, sym, subst, None, arith, map}
use Rattle.std.specs.List.{count_by}
use Rattle.std.specs.Prelude.{IsSome}
use Rattle.au_rows.specs.declared.unsettled.Unsettled.{Unsettled}
use Rattle.au_rows.specs.Held.{number_of, is_free_for, owner_of, seen_at, with_row, Change}
use Rattle.au_rows.specs.Kept.{change_of, held_of, place_shown}
use Rattle.au_rows.proofs.PutLemmas.{own-open, held-mark, mark-room, mark-place, mark-taken, mark-open, mark-changes, mark-least, mark-sound, open-within, spare-kept, same-contents}
use Rattle.au_rows.proofs.rows.Rows.mark.Goals as goal

pub own-requires-clause-room : goal.own-requires-clause-room
own-requires-clause-room c =
    let tables = c.self.inside.tables.items in
    let is : number_of c.args.table.now tables ≡ c.number_of-table.result = sym (c.number_of-table.ensures.number ∙ ap (number_of c.args.table.now) c.deref.ensures.value) in
    let seen = rw (← c.self.view_is) at c.requires.seen in
    let free = rw (← c.self.view_is) at c.requires.free in
    let seen_here = subst (λ (t : ℕ). IsSome (seen_at t c.args.row c.args.by (map (held_of c.self.inside.versions.slots) c.self.inside.places.listed))) is seen in
    let free_here = subst (λ (t : ℕ). is_free_for c.args.by (owner_of t c.args.row (map (held_of c.self.inside.versions.slots) c.self.inside.places.listed)) ≡ true) is free in
    λ none. absurd (mark-room c.self.inside.versions.slots c.number_of-table.result c.args.row c.args.by c.self.inside.places.listed c.self.inside.unsettled.listed c.self.invariant.0 seen_here free_here none)

pub own-requires-clause-numbered : goal.own-requires-clause-numbered
own-requires-clause-numbered c =
    let tables = c.self.inside.tables.items in
    let is : number_of c.args.table.now tables ≡ c.number_of-table.result = sym (c.number_of-table.ensures.number ∙ ap (number_of c.args.table.now) c.deref.ensures.value) in
    let seen = rw (← c.self.view_is) at c.requires.seen in
    let free = rw (← c.self.view_is) at c.requires.free in
    let seen_here = subst (λ (t : ℕ). IsSome (seen_at t c.args.row c.args.by (map (held_of c.self.inside.versions.slots) c.self.inside.places.listed))) is seen in
    let free_here = subst (λ (t : ℕ). is_free_for c.args.by (owner_of t c.args.row (map (held_of c.self.inside.versions.slots) c.self.inside.places.listed)) ≡ true) is free in
    mark-least c.self.inside.versions.slots c.number_of-table.result c.args.row c.args.by c.self.inside.places.listed c.self.inside.unsettled.listed c.self.invariant.0 seen_here free_here

pub short-short-requires : goal.short-short-requires
short-short-requires c =
    let tables = c.self.inside.tables.items in
    let is : number_of c.args.table.now tables ≡ c.number_of-table.result = sym (c.number_of-table.ensures.number ∙ ap (number_of c.args.table.now) c.deref.ensures.value) in
    let seen = rw (← c.self.view_is) at c.requires.seen in
    let free = rw (← c.self.view_is) at c.requires.free in
    let seen_here = subst (λ (t : ℕ). IsSome (seen_at t c.args.row c.args.by (map (held_of c.self.inside.versions.slots) c.self.inside.places.listed))) is seen in
    let free_here = subst (λ (t : ℕ). is_free_for c.args.by (owner_of t c.args.row (map (held_of c.self.inside.versions.slots) c.self.inside.places.listed)) ≡ true) is free in
    let there = mark-open c.self.inside.versions.slots c.number_of-table.result c.args.row c.args.by c.self.inside.places.listed c.self.inside.unsettled.listed c.self.invariant.0 seen_here free_here tables c.self.invariant.1 in
    omega (arith, open-within tables c.number_of-table.result there, c.self.inside.tables.ok.0, c.self.invariant.6)

pub own-requires-clause-counted : goal.own-requires-clause-counted
own-requires-clause-counted c =
    let tables = c.self.inside.tables.items in
    let is : number_of c.args.table.now tables ≡ c.number_of-table.result = sym (c.number_of-table.ensures.number ∙ ap (number_of c.args.table.now) c.deref.ensures.value) in
    let seen = rw (← c.self.view_is) at c.requires.seen in
    let free = rw (← c.self.view_is) at c.requires.free in
    let seen_here = subst (λ (t : ℕ). IsSome (seen_at t c.args.row c.args.by (map (held_of c.self.inside.versions.slots) c.self.inside.places.listed))) is seen in
    let free_here = subst (λ (t : ℕ). is_free_for c.args.by (owner_of t c.args.row (map (held_of c.self.inside.versions.slots) c.self.inside.places.listed)) ≡ true) is free in
    let there = mark-open c.self.inside.versions.slots c.number_of-table.result c.args.row c.args.by c.self.inside.places.listed c.self.inside.unsettled.listed c.self.invariant.0 seen_here free_here tables c.self.invariant.1 in
    omega (arith, open-within tables c.number_of-table.result there, c.self.inside.tables.ok.0, c.self.invariant.6)

pub push-requires : goal.push-requires
push-requires c =
    let tables = c.self.inside.tables.items in
    let is : number_of c.args.table.now tables ≡ c.number_of-table.result = sym (c.number_of-table.ensures.number ∙ ap (number_of c.args.table.now) c.deref.ensures.value) in
    let seen = rw (← c.self.view_is) at c.requires.seen in
    let free = rw (← c.self.view_is) at c.requires.free in
    let seen_here = subst (λ (t : ℕ). IsSome (seen_at t c.args.row c.args.by (map (held_of c.self.inside.versions.slots) c.self.inside.places.listed))) is seen in
    let free_here = subst (λ (t : ℕ). is_free_for c.args.by (owner_of t c.args.row (map (held_of c.self.inside.versions.slots) c.self.inside.places.listed)) ≡ true) is free in
    let taken = mark-taken c.self.inside.versions.slots c.number_of-table.result c.args.row c.args.by c.self.inside.places.listed c.self.inside.unsettled.listed c.self.invariant.0 seen_here free_here in
    let room = c.self.invariant.2 in
    omega arith

pub invariant_of-self : goal.invariant_of-self
invariant_of-self c =
    let tables = c.self.inside.tables.items in
    let is : number_of c.args.table.now tables ≡ c.number_of-table.result = sym (c.number_of-table.ensures.number ∙ ap (number_of c.args.table.now) c.deref.ensures.value) in
    let seen = rw (← c.self.view_is) at c.requires.seen in
    let free = rw (← c.self.view_is) at c.requires.free in
    let seen_here = subst (λ (t : ℕ). IsSome (seen_at t c.args.row c.args.by (map (held_of c.self.inside.versions.slots) c.self.inside.places.listed))) is seen in
    let free_here = subst (λ (t : ℕ). is_free_for c.args.by (owner_of t c.args.row (map (held_of c.self.inside.versions.slots) c.self.inside.places.listed)) ≡ true) is free in
    let taken = mark-taken c.self.inside.versions.slots c.number_of-table.result c.args.row c.args.by c.self.inside.places.listed c.self.inside.unsettled.listed c.self.invariant.0 seen_here free_here in
    let room = c.self.invariant.2 in
    rw (c.own.ensures.listed, c.push.ensures.listed, c.short-short.ensures) (
      mark-sound c.self.inside.versions.slots c.number_of-table.result c.args.row c.args.by c.self.inside.places.listed c.self.inside.unsettled.listed c.self.invariant.0 seen_here free_here,
      own-open tables c.number_of-table.result c.args.row c.args.by None c.self.inside.places.listed
          (mark-open c.self.inside.versions.slots c.number_of-table.result c.args.row c.args.by c.self.inside.places.listed c.self.inside.unsettled.listed c.self.invariant.0 seen_here free_here tables c.self.invariant.1) c.self.invariant.1,
      omega arith,
      c.self.invariant.3,
      c.self.invariant.4,
      c.self.invariant.5,
      omega (arith, c.own.ensures.tables, c.self.invariant.6),
    )

pub returns-clause-rest : goal.returns-clause-rest
returns-clause-rest c =
    let tables = c.self.inside.tables.items in
    let is : number_of c.args.table.now tables ≡ c.number_of-table.result = sym (c.number_of-table.ensures.number ∙ ap (number_of c.args.table.now) c.deref.ensures.value) in
    let seen = rw (← c.self.view_is) at c.requires.seen in
    let free = rw (← c.self.view_is) at c.requires.free in
    let seen_here = subst (λ (t : ℕ). IsSome (seen_at t c.args.row c.args.by (map (held_of c.self.inside.versions.slots) c.self.inside.places.listed))) is seen in
    let free_here = subst (λ (t : ℕ). is_free_for c.args.by (owner_of t c.args.row (map (held_of c.self.inside.versions.slots) c.self.inside.places.listed)) ≡ true) is free in
    rw (← c.self.view_is) (same-contents tables _ _ _ _ _
    (ap (map (held_of c.self.inside.versions.slots)) c.own.ensures.listed
    ∙ (held-mark c.self.inside.versions.slots c.number_of-table.result c.args.row c.args.by c.self.inside.places.listed
    ∙ ap (λ (t : ℕ). with_row t c.args.row c.args.by None (map (held_of c.self.inside.versions.slots) c.self.inside.places.listed)) (sym is)))
    (ap (map (change_of c.self.inside.versions.slots)) (c.push.ensures.listed ∙ ap (λ (t : ℕ). c.self.inside.unsettled.listed ++ (let change : Unsettled = record { by = c.args.by; table = t; number = c.args.row; slot = None } in change) ∷ []) c.short-short.ensures)
    ∙ (mark-changes c.self.inside.versions.slots c.number_of-table.result c.args.row c.args.by c.self.inside.places.listed c.self.inside.unsettled.listed c.self.invariant.0 seen_here free_here
    ∙ ap (λ (t : ℕ). map (change_of c.self.inside.versions.slots) c.self.inside.unsettled.listed ++ (let change : Change = record { by = c.args.by; table = t; number = c.args.row; content = None } in change) ∷ []) (sym is))))

pub returns-clause-spare : goal.returns-clause-spare
returns-clause-spare c =
    let tables = c.self.inside.tables.items in
    let is : number_of c.args.table.now tables ≡ c.number_of-table.result = sym (c.number_of-table.ensures.number ∙ ap (number_of c.args.table.now) c.deref.ensures.value) in
    let seen = rw (← c.self.view_is) at c.requires.seen in
    let free = rw (← c.self.view_is) at c.requires.free in
    let seen_here = subst (λ (t : ℕ). IsSome (seen_at t c.args.row c.args.by (map (held_of c.self.inside.versions.slots) c.self.inside.places.listed))) is seen in
    let free_here = subst (λ (t : ℕ). is_free_for c.args.by (owner_of t c.args.row (map (held_of c.self.inside.versions.slots) c.self.inside.places.listed)) ≡ true) is free in
    let taken = mark-taken c.self.inside.versions.slots c.number_of-table.result c.args.row c.args.by c.self.inside.places.listed c.self.inside.unsettled.listed c.self.invariant.0 seen_here free_here in
    let there = mark-place c.self.inside.versions.slots c.number_of-table.result c.args.row c.args.by c.self.inside.places.listed c.self.inside.unsettled.listed c.self.invariant.0 seen_here free_here in
    let counted = ap (count_by place_shown) c.own.ensures.listed in
    let stays = c.own.ensures.in_place there in
    rw (← c.self.view_is) (spare-kept _ _ _ _ _ _ _ _ _ _ _ _ (omega (arith, c.own.ensures.tables)) (omega arith) (omega (arith, stays)) (omega arith) (omega arith))
