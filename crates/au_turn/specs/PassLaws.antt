-- Laws for callers: how a pass went on after several calls.
use Rattle.std.proofs.Common.{◌≡◌, List, [], ◌++◌, refl, sym, ap, ◌∙◌, append_assoc}
use mathlib.Core.List.{IsPrefix}
use Rattle.au_turn.specs.declared.turn.Turn.{Turn}
use Rattle.au_turn.specs.declared.pass.Pass.{Pass}
use Rattle.au_turn.specs.Entries.{StandsIn}
use Rattle.au_turn.specs.Entries.StandsIn.{stands_none}
use Rattle.au_turn.specs.Pass.{IsPassOf, seen, mine, GrewBy, WentOnBy, WentOn}
use Rattle.au_turn.specs.EntryLaws.{stands_nothing, stands_all, stands_both, append_nothing}

module _ {T E : Type 0} where
  -- what a pass made stands in what it has seen
  pub mine_stands : (turn : Turn T E) (p : Pass T E) → IsPassOf turn p → StandsIn (mine p) (seen p)
  mine_stands turn p own = own.stands

  -- no call, or calls that changed neither list
  pub by_none : (p q : Pass T E) → seen q ≡ seen p → mine q ≡ mine p → WentOnBy [] [] p q
  by_none p q saw did = record { saw = saw ∙ sym (append_nothing (seen p)); did = did ∙ sym (append_nothing (mine p)); among = stands_none }

  -- one after another
  pub by_on : {came made more did : List E} (p q r : Pass T E) → WentOnBy came made p q → WentOnBy more did q r → WentOnBy (came ++ more) (made ++ did) p r
  by_on {came} {made} {more} {did} p q r a b = record {
    saw = b.saw ∙ (ap (λ l. l ++ more) a.saw ∙ append_assoc (seen p) came more);
    did = b.did ∙ (ap (λ l. l ++ did) a.did ∙ append_assoc (mine p) made did);
    among = stands_both did more a.among b.among;
  }

  -- a call that showed more and made nothing, as `take` and `join`
  pub by_seeing : (p q : Pass T E) (more : IsPrefix (seen p) (seen q)) → mine q ≡ mine p → WentOnBy more.0 [] p q
  by_seeing p q more did = record { saw = sym more.1; did = did ∙ sym (append_nothing (mine p)); among = stands_nothing more.0 }

  -- a call that made all that it showed, as `give_back`
  pub by_making : (p q : Pass T E) (more : List E) → GrewBy more p q → WentOnBy more more p q
  by_making p q more grew = record { saw = grew.0; did = grew.1; among = stands_all more }

  -- one turn, from the clauses of `take` and of `give_back`: entries of others came, and then those that it made
  pub by_once : (p h q : Pass T E) (more : List E) (before : IsPrefix (seen p) (seen h)) → mine h ≡ mine p → GrewBy more h q → WentOnBy (before.0 ++ more) more p q
  by_once p h q more before same grew = by_on p h q (by_seeing p h before same) (by_making h q more grew)

  -- the same four without the lists' names
  pub went_by : {came made : List E} (p q : Pass T E) → WentOnBy came made p q → WentOn p q
  went_by {came} {made} p q by = record { came = came; made = made; by = by }

  pub went_none : (p : Pass T E) → WentOn p p
  went_none p = went_by p p (by_none p p refl refl)

  pub went_on : (p q r : Pass T E) → WentOn p q → WentOn q r → WentOn p r
  went_on p q r a b = went_by p r (by_on p q r a.by b.by)

  pub went_once : (p h q : Pass T E) (more : List E) → IsPrefix (seen p) (seen h) → mine h ≡ mine p → GrewBy more h q → WentOn p q
  went_once p h q more before same grew = went_by p q (by_once p h q more before same grew)
