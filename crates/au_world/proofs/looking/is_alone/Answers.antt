use Rattle.std.proofs.Common.{◌≡◌, ◌∙◌, ◌<◌, inl, inr, length, subst, arith}
use Rattle.std.specs.Prelude.{Some}
use Rattle.std.specs.List.{slice_get}
use Rattle.std.proofs.lemmas.Bool.{cases_lt}
use Rattle.std.proofs.lemmas.List.{length-map}
use Rattle.std.proofs.lemmas.Option.{slice_get_within}
use Rattle.au_world.specs.declared.from_table.FromTable.{FromTable}
use Rattle.au_world.specs.Inside.{names_in}
use Rattle.au_world.proofs.LookUps.{name_at}
use Rattle.au_world.proofs.looking.is_alone.Goals as goal

pub loop-other-preserved : goal.loop-other-preserved
loop-other-preserved c = λ other below at. elim (cases_lt other c.loop-other.other) [
  | inl less ↦ c.loop-other.invariant other less at
  | inr more ↦ (
      let here : other ≡ c.loop-other.other = omega (arith, more, below) in
      here ∙ c.is_elsewhere.ensures c.if-is_elsewhere.false
      (name_at c.args.tables.now c.loop-other.other c.index-tables-other.result c.args.name.now c.index-tables-other.is (subst (λ k. slice_get (names_in c.args.tables.now) k ≡ Some c.args.name.now) here at)))
]

pub returns : goal.returns
returns c = λ holds other at.
    let within : other < length (names_in c.args.tables.now) = slice_get_within (names_in c.args.tables.now) other c.args.name.now at in
    let long = length-map c.args.tables.now (λ (table : FromTable). table.name) in
    c.loop-other.invariant other (omega (arith, within, long, c.loop-other-test.false)) at
