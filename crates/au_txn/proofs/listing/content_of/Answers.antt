use Rattle.std.proofs.Common.{Bool, None, Option, Some, ap, arith, cond, false, is_some, refl, sym, true, ◌-◌, ◌∙◌, ◌≡◌}
use Rattle.std.specs.Prelude.{◌==◌}
use Rattle.std.specs.Option.{option_and_then, option_map}
use Rattle.std.proofs.lemmas.Bool.Decides.{nat_tests}
use Rattle.au_rows.specs.Held.{lent, number_of, seen_at}
use Rattle.au_txn.proofs.Listed.{if_number, next-seen}
use Rattle.au_txn.proofs.listing.content_of.Goals as goal

unseen : {X : Type 0} (o : Option X) (b : Bool) → b ≡ is_some o → b ≡ false → None ≡ o
unseen None b e f = refl
unseen (Some x) b e f = absurd (let wrong : true ≡ false = sym e ∙ f in cc)

pub returns-then-not-is_seen : goal.returns-then-not-is_seen
returns-then-not-is_seen c = unseen (seen_at (number_of c.args.table.now c.args.rows.now.tables) c.args.row c.args.by c.args.rows.now.held) c.is_seen.result c.is_seen.ensures c.if-not-is_seen.true

pub returns-then-number-row : goal.returns-then-number-row
returns-then-number-row c =
    let same : (c.in-Some.number.0 == c.args.row.0) ≡ true = grind (arith, nat_tests) in
    sym (ap (λ b. cond b (Some c.in-Some.cells.now) None) same)
    ∙ (ap (option_and_then (if_number c.args.row)) c.in-Some.ensures
    ∙ next-seen (number_of c.args.table.now c.args.rows.now.tables) c.args.row (record { 0 = c.args.row.0 - 1 }) c.args.by (omega arith) c.args.rows.now.held c.requires.order)

pub returns-else-number-row : goal.returns-else-number-row
returns-else-number-row c =
    let other : (c.in-Some.number.0 == c.args.row.0) ≡ false = grind (arith, nat_tests) in
    sym (ap (λ b. cond b (Some c.in-Some.cells.now) None) other)
    ∙ (ap (option_and_then (if_number c.args.row)) c.in-Some.ensures
    ∙ next-seen (number_of c.args.table.now c.args.rows.now.tables) c.args.row (record { 0 = c.args.row.0 - 1 }) c.args.by (omega arith) c.args.rows.now.held c.requires.order)

pub returns-in-None : goal.returns-in-None
returns-in-None c =
    ap (option_and_then (if_number c.args.row)) (sym (ap (option_map lent) c.in-None.is) ∙ c.next.ensures)
    ∙ next-seen (number_of c.args.table.now c.args.rows.now.tables) c.args.row (record { 0 = c.args.row.0 - 1 }) c.args.by (omega arith) c.args.rows.now.held c.requires.order
