use Rattle.std.proofs.Common.{◌∙◌, [], ◌++◌, List, refl, sym, subst, append-nil}
use Rattle.au_turn.specs.Pass.{seen}
use Rattle.au_turn.specs.PassLaws.{by_once}
use Rattle.au_store.specs.declared.entry.Entry.{Entry}
use Rattle.au_store.specs.History.{StandsFor}
use Rattle.au_session.specs.Entries.{IsEnding}
use Rattle.au_session.specs.Entries.IsEnding.{none}
use Rattle.au_session.proofs.Turning.{ending_replied, none_of, off_replied}
use Rattle.au_session.proofs.turns.log_off.Goals as goal

pub give_back-requires-clause-value : goal.give_back-requires-clause-value
give_back-requires-clause-value g c =
    let d = g.D.Disk in
    ([], refl, subst (λ (l : List Entry). StandsFor d.told d.meaning d.faults c.take-store.result l) (sym (append-nil (seen c.take-store.new.pass))) c.take-store.ensures.value)

pub returns-then-not-stands-clause-off : goal.returns-then-not-stands-clause-off
returns-then-not-stands-clause-off g c = λ is.
    let told = c.give_back.ensures.entries in
    let before = c.take-store.ensures.seen in
    record {
      came = before.0 ++ told.0;
      ending = told.0;
      ends = subst (λ (m : List Entry). IsEnding c.args.client m) (sym told.1) none;
      went = by_once c.args.pass.now c.take-store.new.pass c.give_back.new.pass told.0 before c.take-store.ensures.mine told.2;
      gone = (_, c.give_back.ensures.value.leads, none_of _ (sym c.stands.ensures ∙ c.if-not-stands.true));
    }

pub returns-clause-off : goal.returns-clause-off
returns-clause-off g c = λ is.
    let step = c.answer_held-said.ensures.step in
    let before = c.take-store.ensures.seen in
    let reply = c.is_reply.ensures.0 is in
    record {
      came = before.0 ++ step.made;
      ending = step.made;
      ends = ending_replied c.take-store.result.state step.reached.state c.args.client step.reading c.answer_held-said.result step.made
          (sym c.stands.ensures ∙ c.if-not-stands.false) step.step step.leaves reply;
      went = by_once c.args.pass.now c.take-store.new.pass c.answer_held-said.new.pass step.made before c.take-store.ensures.mine step.grew;
      gone = (
        step.reached,
        step.leads,
        off_replied c.clients_have_one_session.ensures.off c.take-store.result.state step.reached.state c.args.client step.reading c.answer_held-said.result step.step reply,
      );
    }

pub returns-clause-on : goal.returns-clause-on
returns-clause-on g c = λ is.
    let step = c.answer_held-said.ensures.step in
    let before = c.take-store.ensures.seen in
    record {
      came = before.0 ++ step.made;
      made = step.made;
      answer = c.answer_held-said.result;
      leaves = step.leaves;
      unreplied = λ reply. absurd (cc (c.is_reply.ensures.1 reply, is));
      went = by_once c.args.pass.now c.take-store.new.pass c.answer_held-said.new.pass step.made before c.take-store.ensures.mine step.grew;
    }
