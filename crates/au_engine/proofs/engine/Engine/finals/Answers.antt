use Rattle.std.proofs.Common.{◌≡◌, ◌∙◌, ◌==◌, Bool, List, [], subst, sym}
use Rattle.au_kept.specs.Keeping.{desk_of}
use Rattle.au_ruling.specs.Kinds.{commits}
use Rattle.au_step.specs.Step.{AreFinalsOf}
use Rattle.au_txn.specs.declared.change.RowChange.{RowChange}
use Rattle.au_txn.specs.Desks.{Contents as Desk, laid_by, open_of}
use Rattle.au_txn.specs.Finals.{AreFinals}
use Rattle.au_engine.specs.Reserved.{Reserved, contents_of}
use Rattle.au_engine.proofs.Views.{nothing_laid}
use Rattle.au_engine.proofs.engine.Engine.finals.Goals as goal

pub returns-then-not-commits : goal.returns-then-not-commits
returns-then-not-commits c =
    subst (λ (b : Bool). AreFinalsOf b c.args.self.now.state c.args.session.now.client c.new.result.items) (sym c.if-not-commits.true ∙ c.commits.ensures) c.new.ensures.items

pub returns : goal.returns
returns c =
    let m = c.args.self.now.state in
    let client = c.args.session.now.client in
    let items = c.in_ok-finals.finals.items in
    let lent = subst (λ (d : Desk). laid_by client d.laid ≡ [] → AreFinals d.rows (open_of d client) items) c.desk.ensures c.in_ok-finals.ensures.listed in
    let here = subst (λ (e : Reserved). AreFinals (desk_of (contents_of e)).rows (open_of (desk_of (contents_of e)) client) items) c.self.view_is (lent (nothing_laid (client.0 == 0))) in
    let told = subst (λ (t : List RowChange). AreFinals (desk_of (contents_of c.args.self.now)).rows t items) (c.holds_together.ensures.open_to client) here in
    subst (λ (b : Bool). AreFinalsOf b m client items) (sym c.if-not-commits.false ∙ c.commits.ensures) told
