use Rattle.std.proofs.Common.{◌≡◌, ◌∙◌, ℕ, Option, None, Some, ap, sym}
use Rattle.std.specs.Option.{option_and_then}
use Rattle.au_rows.specs.declared.place.Place.{Place}
use Rattle.au_rows.specs.Kept.{place_in, settled_slot}
use Rattle.au_rows.proofs.HousedLemmas.{own-written}
use Rattle.au_rows.proofs.places.Places.own.Goals as goal

pub returns-in-Some-clause-listed : goal.returns-in-Some-clause-listed
returns-in-Some-clause-listed c =
    let places = c.args.self.now.listed in
    let place : Option ℕ → ℕ → Place = λ settled t. record { table = t; number = c.args.number; settled = settled; owner = Some c.args.by; newest = c.args.slot } in
    let found : place_in c.args.table c.args.number places ≡ Some c.in-Some.place = sym c.find.ensures ∙ c.in-Some.is in
    let was : settled_slot c.args.table c.args.number places ≡ c.in-Some.place.settled = ap (λ (o : Option Place). option_and_then (λ (p : Place). p.settled) o) found in
    c.put_over.ensures.listed ∙ own-written c.args.table c.args.number c.args.by c.args.slot c.in-Some.place.settled places c.owned.result (c.owned.ensures ∙ ap (place c.in-Some.place.settled) c.short-short.ensures) was

pub returns-in-None-clause-listed : goal.returns-in-None-clause-listed
returns-in-None-clause-listed c =
    let places = c.args.self.now.listed in
    let place : Option ℕ → ℕ → Place = λ settled t. record { table = t; number = c.args.number; settled = settled; owner = Some c.args.by; newest = c.args.slot } in
    let none : place_in c.args.table c.args.number places ≡ None = sym c.find.ensures ∙ c.in-None.is in
    let was : settled_slot c.args.table c.args.number places ≡ None = ap (λ (o : Option Place). option_and_then (λ (p : Place). p.settled) o) none in
    c.put_new.ensures.listed ∙ own-written c.args.table c.args.number c.args.by c.args.slot None places c.owned-in-None.result (c.owned-in-None.ensures ∙ ap (place None) c.short-short.ensures) was
