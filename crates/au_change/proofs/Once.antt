-- UPDATE and DELETE come to one modification each, and to the same over sights that show the same.
use Rattle.std.proofs.Common.{◌≡◌, ◌≢◌, ◌∙◌, inl, inr, refl, sym, ap}
use Rattle.std.specs.Prelude.{Option, None, Some}
use Rattle.au_base.specs.declared.code.Code.{Code}
use Rattle.au_base.specs.declared.numbers.ClientNo.{ClientNo}
use Rattle.au_base.specs.declared.table.TableName.{TableName}
use Rattle.au_base.specs.Codes.{DONE, KEY_PRESENT, LOCKED}
use Rattle.au_change.specs.Deleting.{IsDeletion, delete_refusal, deleted}
use Rattle.au_change.specs.Updating.{IsUpdate, rows_refusal, text_refusal, updated, updates}
use Rattle.au_choose.specs.Choosing.{IsSomeLocked, choice_refusal, chosen_in, range_in}
use Rattle.au_expr.specs.Names.{or_code}
use Rattle.au_expr.specs.Sessions.{Session}
use Rattle.au_modify.specs.declared.modification.Modification.{Modification}
use Rattle.au_modify.specs.Keys.{AreTwoUnderOne, IsSomeKeyLocked}
use Rattle.au_modify.specs.Modifying.{Comes, Unless, refused}
use Rattle.au_world.specs.Plans.{ShowTheSame}
use Rattle.au_world.specs.Sights.{Sight}
use Rattle.sql_ast.specs.declared.rows.Delete.{Delete}
use Rattle.sql_ast.specs.declared.rows.Update.{Update}

-- both of what holds are one
abbrev IsOnce : (Modification → Type 0) → Type 0
IsOnce P = (a b : Modification) → P a → P b → a ≡ b

-- what holds has the code 0, or is refused
abbrev IsPlain : (Modification → Type 0) → Type 0
IsPlain P = (m : Modification) → P m → m.code ≢ DONE → m ≡ refused m.code

comes_once : (code : Option Code) (Behind : Modification → Type 0) → IsOnce Behind → IsOnce (Comes code Behind)
comes_once None Behind once a b one other = once a b one other
comes_once (Some code) Behind once a b one other = one ∙ sym other

unless_once : (Broken : Type 0) (code : Code) (Behind : Modification → Type 0) → IsOnce Behind → IsOnce (Unless Broken code Behind)
unless_once Broken code Behind once a b (inl one) (inl other) = one.1 ∙ sym other.1
unless_once Broken code Behind once a b (inl one) (inr other) = absurd (other.0 one.0)
unless_once Broken code Behind once a b (inr one) (inl other) = absurd (one.0 other.0)
unless_once Broken code Behind once a b (inr one) (inr other) = once a b one.1 other.1

done_once : (done : Modification) → IsOnce (λ m. m ≡ done)
done_once done a b one other = one ∙ sym other

same_refused : (m : Modification) (code : Code) → m ≡ refused code → m ≡ refused m.code
same_refused m code is = is ∙ ap refused (sym (ap (λ (n : Modification). n.code) is))

comes_plain : (code : Option Code) (Behind : Modification → Type 0) → IsPlain Behind → IsPlain (Comes code Behind)
comes_plain None Behind plain m is not_done = plain m is not_done
comes_plain (Some code) Behind plain m is not_done = same_refused m code is

unless_plain : (Broken : Type 0) (code : Code) (Behind : Modification → Type 0) → IsPlain Behind → IsPlain (Unless Broken code Behind)
unless_plain Broken code Behind plain m (inl is) not_done = same_refused m code is.1
unless_plain Broken code Behind plain m (inr is) not_done = plain m is.1 not_done

done_plain : (done : Modification) → done.code ≡ DONE → IsPlain (λ m. m ≡ done)
done_plain done code m is not_done = absurd (not_done (ap (λ (n : Modification). n.code) is ∙ code))

module _ (sight : Sight) (client : ClientNo) (session : Session) (table : TableName) where
  pub one_deletion : (delete : Delete) → IsOnce (IsDeletion sight client session table delete)
  one_deletion delete = comes_once (delete_refusal sight session table delete) _ (unless_once (IsSomeLocked sight client table (chosen_in sight session table delete.condition)) LOCKED _ (done_once (deleted sight session table delete)))

  pub refused_deletion : (delete : Delete) → IsPlain (IsDeletion sight client session table delete)
  refused_deletion delete = comes_plain (delete_refusal sight session table delete) _ (unless_plain (IsSomeLocked sight client table (chosen_in sight session table delete.condition)) LOCKED _ (done_plain (deleted sight session table delete) refl))

  pub one_update : (update : Update) → IsOnce (IsUpdate sight client session table update)
  one_update update =
      comes_once (or_code (text_refusal (range_in sight table) update) (choice_refusal sight session table update.condition)) _
      (unless_once (IsSomeLocked sight client table (chosen_in sight session table update.condition)) LOCKED _
      (comes_once (rows_refusal sight session table update) _
      (unless_once (IsSomeKeyLocked sight client table (updates sight session table update)) LOCKED _
      (unless_once (AreTwoUnderOne sight table (updates sight session table update)) KEY_PRESENT _
      (done_once (updated sight session table update))))))

  pub refused_update : (update : Update) → IsPlain (IsUpdate sight client session table update)
  refused_update update =
      comes_plain (or_code (text_refusal (range_in sight table) update) (choice_refusal sight session table update.condition)) _
      (unless_plain (IsSomeLocked sight client table (chosen_in sight session table update.condition)) LOCKED _
      (comes_plain (rows_refusal sight session table update) _
      (unless_plain (IsSomeKeyLocked sight client table (updates sight session table update)) LOCKED _
      (unless_plain (AreTwoUnderOne sight table (updates sight session table update)) KEY_PRESENT _
      (done_plain (updated sight session table update) refl)))))

-- sights that show the same are one
pub one_sight : (a b : Sight) → ShowTheSame a b → a ≡ b
one_sight a b same = λ i. record {
  catalog = same.catalog i;
  grants = same.grants i;
  rows = same.rows i;
  own = same.own i;
  transactions = λ client. same.transactions client i;
  trail = same.trail i;
}
