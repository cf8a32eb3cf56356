-- What is so of open changes is so once a client has committed and staged changes are made.
use Rattle.std.proofs.Common.{◌≡◌, ◌≢◌, ◌⊎◌, inl, inr, ℕ, Bool, true, false, List, [], ◌∷◌, refl, ap, subst, arith}
use Rattle.std.specs.Prelude.{◌==◌, IsSome, Option, Some, None}
use Rattle.std.specs.List.{AllByRecursion}
use Rattle.std.proofs.lemmas.Bool.Decides.{nat_tests}
use Rattle.au_base.specs.declared.numbers.ClientNo.{ClientNo}
use Rattle.au_base.specs.declared.numbers.RowNo.{RowNo}
use Rattle.au_base.specs.declared.table.TableName.{TableName}
use Rattle.au_entries.specs.declared.change.Change.{Change}
use Rattle.au_entries.specs.declared.change.Change.TheVariants as change
use Rattle.au_entries.specs.declared.kept.Kept.{Kept}
use Rattle.au_entries.specs.Changing.{changed_all}
use Rattle.au_entries.specs.Replaying.{AllGoOn, Conditions}
use Rattle.au_kept.specs.declared.staged.TableEdit.{TableEdit}
use Rattle.au_kept.specs.declared.staged.TableEdit.TheVariants.{Open, Close}
use Rattle.au_kept.specs.OpenChanges.{AreSoundChanges}
use Rattle.au_kept.specs.Staging.{IsFree}
use Rattle.au_kept.specs.descent.Tabling.{rows_edited_all, rows_for}
use Rattle.au_kept.proofs.Sounds.{LeftRows, Spares, Untouched, each_stays, laid_used, left_some, left_sound}
use Rattle.au_kept.proofs.Tabled.{apart_from}
use Rattle.au_txn.specs.Desks.{Contents as Desk, open_of}
use Rattle.au_txn.specs.Rows.{Row, row_at}
use Rattle.au_txn.specs.Transactions.{IsNumber}

spared : (commits : Option ClientNo) (desk : Desk) (client : ClientNo) → commits ≢ Some client → (changes : List Change) → AllByRecursion (IsFree commits desk) changes → AllByRecursion (Spares (open_of desk client)) changes
spared commits desk client other [] free = tt
spared commits desk client other (change.TableGone name ∷ changes) free = (free.0 client other, spared commits desk client other changes free.1)
spared commits desk client other (_ ∷ changes) free = (tt, spared commits desk client other changes free.1)

client_is : (a b : ClientNo) → (a.0 == b.0) ≡ true → b ≡ a
client_is a b is = let e : b.0 ≡ a.0 = grind (arith, nat_tests) in ap (λ (n : ℕ). let c : ClientNo = record { 0 = n } in c) e

-- a client is the one that commits, or isn't
pub which : (commits : Option ClientNo) (client : ClientNo) → (commits ≡ Some client) ⊎ (commits ≢ Some client)
which None client = inr (λ e. let no : None ≡ Some client = e in cc)
which (Some committed) client = which_at (client.0 == committed.0) refl
  where
    which_at : (b : Bool) → (client.0 == committed.0) ≡ b → (Some committed ≡ Some client) ⊎ (Some committed ≢ Some client)
    which_at true is = inl (ap Some (client_is client committed is))
    which_at false is = inr (apart_from committed client is)

-- a row that is left was there before tables went
rows_before : LeftRows → (edits : List TableEdit) (rows : List Row) (table : TableName) (number : RowNo) → IsSome (row_at table number (rows_edited_all edits rows)) → IsSome (row_at table number rows)
rows_before law [] rows table number some = some
rows_before law (Open name key ∷ edits) rows table number some = rows_before law edits rows table number some
rows_before law (Close name ∷ edits) rows table number some = left_some law name table number rows (rows_before law edits _ table number some)

used_before : Untouched → (commits : Option ClientNo) (desk : Desk) (table : TableName) (number : RowNo) → IsSome (row_at table number (rows_for commits desk)) → IsNumber desk.rows (open_of desk) table number
used_before law None desk table number some = inl some
used_before law (Some client) desk table number some = laid_used law desk.rows (open_of desk) client table number some

pub settled_changes : Untouched → LeftRows → (conditions : Conditions) (commits : Option ClientNo) (kept : Kept) (desk next : Desk) (changes : List Change) (edits : List TableEdit) → AreSoundChanges kept.tables desk
    → AllGoOn conditions false kept changes → AllByRecursion (IsFree commits desk) changes
    → ((client : ClientNo) → commits ≡ Some client → open_of next client ≡ []) → ((client : ClientNo) → commits ≢ Some client → open_of next client ≡ open_of desk client)
    → next.rows ≡ rows_edited_all edits (rows_for commits desk) → AreSoundChanges (changed_all conditions.tree changes kept).tables next
settled_changes untouched gone conditions commits kept desk next changes edits h goes free own others rows =
    left_sound kept.tables (changed_all conditions.tree changes kept).tables desk next h
    (λ client. elim (which commits client) [
      | inl is ↦ inl (own client is)
      | inr other ↦ inr (others client other, each_stays conditions false changes kept (open_of desk client) goes (spared commits desk client other changes free) (h.each client))
    ])
    (λ table number some.
    used_before untouched commits desk table number
    (rows_before gone edits (rows_for commits desk) table number (subst (λ (rs : List Row). IsSome (row_at table number rs)) rows some)))
