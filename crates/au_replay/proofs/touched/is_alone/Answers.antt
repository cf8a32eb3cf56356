use Rattle.std.proofs.Common.{◌≡◌, ◌≢◌, ◌∙◌, ℕ, true, false, List, [], ap, refl, sym}
use Rattle.au_txn.specs.Desks.{key_of as open_key, open_of, replayer}
use Rattle.au_txn.specs.Transactions.{laid_over}
use Rattle.au_entries.specs.Lawful.{key_of}
use Rattle.au_replay.specs.Sights.{shown}
use Rattle.au_replay.proofs.Alone.{alone_test}
use Rattle.au_replay.proofs.TouchedLaws.{founded_within}
use Rattle.au_replay.proofs.touched.is_alone.Goals as goal

pub returns : goal.returns
returns c =
    let desk = c.args.sight.now.desk.now in
    let table = c.args.table.now in
    let rows = laid_over desk.rows (open_of desk replayer) in
    let ordered = c.rows_are_what_they_answer.ensures.ordered desk.rows (open_of desk replayer) c.holds_together.ensures.rows in
    let keyed : table.key ≢ [] = λ e. (let both : true ≡ false = sym (c.is_empty.ensures.1 e) ∙ c.if-is_empty.false in cc) in
    alone_test c.rows_stand_by_tables.ensures.found c.rows_stand_by_tables.ensures.there rows ordered table.key (open_key table.name desk.tables) c.as_slice-2.result.now c.args.cells.now table.name c.args.row
    (founded_within (shown c.args.sight.now) rows refl c.requires.founded table c.requires.there c.requires.only)
    (c.requires.opened table c.requires.there) (c.as_slice-2.ensures.value ∙ c.in_ok-key.ensures ∙ ap (λ (key : List ℕ). key_of key c.args.cells.now) c.as_slice.ensures) keyed c.under_other-other.result c.is_none.result c.is_none.ensures c.under_other-other.ensures.some c.under_other-other.ensures.none
