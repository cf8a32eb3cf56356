use Rattle.std.proofs.Common.{[], ◌∷◌, ◌++◌, refl, List, subst, sym}
use Rattle.au_turn.specs.Pass.{WentOnBy, seen}
use Rattle.au_turn.specs.PassLaws.{by_once}
use Rattle.au_step.specs.State.{State}
use Rattle.au_step.specs.Sessions.{IsOff}
use Rattle.au_store.specs.declared.entry.Entry.{Entry}
use Rattle.au_store.specs.declared.entry.Entry.TheVariants.{Abandoned}
use Rattle.au_session.proofs.turns.abandon.Goals as goal

pub give_back-requires-clause-value : goal.give_back-requires-clause-value
give_back-requires-clause-value g c =
    (Abandoned c.args.client ∷ [], refl, c.abandon.ensures.history (seen c.take-store.new.pass) c.take-store.ensures.value)

pub returns-clause-went : goal.returns-clause-went
returns-clause-went g c =
    let told = c.give_back.ensures.entries in
    let before = c.take-store.ensures.seen in (
      before.0 ++ told.0,
      subst (λ (m : List Entry). WentOnBy (before.0 ++ told.0) m c.args.pass.now c.give_back.new.pass) told.1
          (by_once c.args.pass.now c.take-store.new.pass c.give_back.new.pass told.0 before c.take-store.ensures.mine told.2),
    )

pub returns-clause-gone : goal.returns-clause-gone
returns-clause-gone g c = (
  _,
  c.give_back.ensures.value.leads,
  subst (λ (m : State). IsOff m.sessions c.args.client) (sym c.abandon.ensures.state) (c.ends_stay_lawful.ensures.off c.take-store.result.state c.args.client),
)
