use Rattle.std.proofs.Common.{◌∙◌, ◌++◌, sym, ap}
use Rattle.au_txn.specs.Inside.{laid_in}
use Rattle.au_txn.specs.Logs.{changes_of}
use Rattle.au_txn.proofs.Laid.{laid-elsewhere}
use Rattle.au_txn.proofs.desk.Desk.changes.Goals as goal

pub returns-clause-listed : goal.returns-clause-listed
returns-clause-listed c = rw (← c.self.view_is) (c.find_changes.ensures ∙ ap (changes_of c.args.client) c.deref.ensures.value)

pub returns-clause-open : goal.returns-clause-open
returns-clause-open c =
    rw (← c.self.view_is) (λ none. c.find_changes.ensures ∙ (ap (changes_of c.args.client) c.deref.ensures.value ∙ sym (ap (λ xs. xs ++ changes_of c.args.client c.self.inside.logs.items) none)))

pub returns-clause-others : goal.returns-clause-others
returns-clause-others c =
    rw (← c.self.view_is) (λ ne. c.find_changes.ensures
    ∙ (ap (changes_of c.args.client) c.deref.ensures.value ∙ sym (ap (λ xs. xs ++ changes_of c.args.client c.self.inside.logs.items) (laid-elsewhere c.args.client (laid_in c.self.inside.rows c.self.inside.logs.items) ne))))
