use Rattle.std.proofs.Common.{◌≡◌, ◌∙◌, get_or, true, None, ap, sym, arith}
use Rattle.std.proofs.lemmas.List.{get_or_default}
use Rattle.au_rows.specs.Held.{is_named}
use Rattle.au_rows.proofs.ApartLemmas.{number-is}
use Rattle.au_rows.proofs.tables.guessed_number.Goals as goal

pub returns-then-is_named-clause-number : goal.returns-then-is_named-clause-number
returns-then-is_named-clause-number c =
    let d = c.index-tables-number.result in
    let here : is_named c.args.name.now (get_or c.args.tables.now c.args.number d) ≡ true =
    ap (is_named c.args.name.now) (sym c.index-tables-number.is) ∙ (sym c.is_named.ensures ∙ c.if-is_named.true) in
    let named : is_named c.args.name.now (get_or c.args.tables.now c.args.number None) ≡ true =
    ap (is_named c.args.name.now) (get_or_default c.args.tables.now c.args.number None d (omega arith)) ∙ here in
    sym (number-is c.args.name.now c.args.tables.now c.args.number c.requires (omega arith) named)
