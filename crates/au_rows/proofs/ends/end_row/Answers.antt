use Rattle.std.proofs.Common.{◌≡◌, ◌∙◌, ℕ, Option, Some, None, ap, ap₂, sym, subst}
use Rattle.au_rows.specs.declared.place.Place.{Place}
use Rattle.au_rows.specs.Ends.{RowEnded}
use Rattle.au_rows.specs.Held.{is_by}
use Rattle.au_rows.specs.Kept.{place_in, place_owner}
use Rattle.std.specs.Option.{option_and_then}
use Rattle.au_rows.proofs.EndLemmas.{found-table, found-number, kept-row}
use Rattle.au_rows.proofs.ends.end_row.Goals as goal

pub end_if_own-requires-clause-there : goal.end_if_own-requires-clause-there
end_if_own-requires-clause-there c =
    let there : place_in c.args.change.table c.args.change.number c.args.places.now.listed ≡ Some c.in-Some.place =
    sym c.in-Some.ensures in
    ap₂ (λ (t n : ℕ). place_in t (record { 0 = n }) c.args.places.now.listed)
    (found-table c.args.change.table c.args.change.number c.args.places.now.listed c.in-Some.place there)
    (found-number c.args.change.table c.args.change.number c.args.places.now.listed c.in-Some.place there)
    ∙ there

pub returns-in-Some-clause-row : goal.returns-in-Some-clause-row
returns-in-Some-clause-row c =
    let there : place_in c.args.change.table c.args.change.number c.args.places.now.listed ≡ Some c.in-Some.place =
    sym c.in-Some.ensures in
    let P : ℕ → ℕ → Type 0 = λ t n. RowEnded c.args.ending t (record { 0 = n }) c.args.by c.args.places.now.listed c.args.versions.now.slots c.end_if_own.new.places.listed c.end_if_own.new.versions.slots in
    subst (λ (t : ℕ). P t c.args.change.number.0) (found-table c.args.change.table c.args.change.number c.args.places.now.listed c.in-Some.place there)
    (subst (λ (n : ℕ). P c.in-Some.place.table n) (found-number c.args.change.table c.args.change.number c.args.places.now.listed c.in-Some.place there) c.end_if_own.ensures.row)

pub returns-in_default-clause-row : goal.returns-in_default-clause-row
returns-in_default-clause-row c =
    let none : place_in c.args.change.table c.args.change.number c.args.places.now.listed ≡ None =
    sym c.in_default.ensures in
    kept-row _ c.args.places.now.listed c.args.change.table c.args.change.number c.args.ending c.args.by c.requires.order c.requires.whole
    (ap (λ (o : Option Place). is_by c.args.by (option_and_then place_owner o)) none)
