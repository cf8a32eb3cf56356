use Rattle.std.proofs.Common.{◌≡◌, ◌∙◌, [], List, ap, ap₂, subst, sym}
use Rattle.au_rows.specs.Held.{Contents as Kept}
use Rattle.au_txn.specs.Desks.{open_in}
use Rattle.au_txn.specs.Logs.{Changes}
use Rattle.au_txn.specs.Inside.{Ties, committed, laid_in, open_tables}
use Rattle.au_txn.proofs.Committed.{nothing-committed}
use Rattle.au_txn.proofs.Laid.{none-kept, nothing-kept}
use Rattle.au_txn.proofs.TableLemmas.{nothing-open}
use Rattle.au_txn.proofs.desk.Desk.new.Goals as goal

pub returns : goal.returns
returns c =
    let empty : c.in_ok-new.field-0 ≡ record { tables = []; held = []; changes = []; spare = 0 } = c.in_ok-new.ensures in
    λ i. record {
      tables = (ap (λ (kept : Kept). open_tables kept.tables) empty ∙ nothing-open) i;
      rows = (ap (λ (kept : Kept). committed kept.tables kept.held) empty ∙ nothing-committed) i;
      logs = c.new-2.ensures.items i;
      laid = (ap₂ laid_in empty c.new-2.ensures.items ∙ none-kept) i;
      spare = (ap (λ (kept : Kept). kept.spare) empty) i;
    }

pub invariant_of-result : goal.invariant_of-result
invariant_of-result c =
    let empty : c.in_ok-new.field-0 ≡ record { tables = []; held = []; changes = []; spare = 0 } = c.in_ok-new.ensures in
    subst (λ (logs : List Changes). Ties c.in_ok-new.field-0 (open_in (laid_in c.in_ok-new.field-0 logs) logs)) (sym c.new-2.ensures.items)
    (subst (λ (kept : Kept). Ties kept (open_in (laid_in kept []) [])) (sym empty) nothing-kept)
