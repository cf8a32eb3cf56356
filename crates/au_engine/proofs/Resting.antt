-- A state without sessions is lawful where what is kept is.
use Rattle.std.proofs.Common.{◌≡◌, ◌∙◌, ◌≤◌, ◌==◌, ℕ, Bool, List, [], ◌∷◌, ◌++◌, map, refl, sym, ap, subst}
use Rattle.std.specs.Prelude.{IsTrue}
use Rattle.au_audit.specs.Conditions.{result_before}
use Rattle.au_base.specs.Limits.{INSTANCE_SESSIONS}
use Rattle.au_base.specs.Order.{is_in_order}
use Rattle.au_base.specs.declared.numbers.ClientNo.{ClientNo}
use Rattle.au_entries.specs.declared.kept.Kept.{Kept}
use Rattle.au_image.specs.Image.{open_table}
use Rattle.au_kept.specs.Keeping.{Contents, HoldsTogether, desk_of}
use Rattle.au_step.specs.Lawful.{IsLawful, IsLawfulState}
use Rattle.au_step.specs.State.{OpenSession, State}
use Rattle.au_txn.specs.declared.change.RowChange.{RowChange}
use Rattle.au_txn.specs.Desks.{Contents as Desk, open_of}
use Rattle.au_txn.specs.Logs.{changes_of}
use Rattle.au_engine.proofs.Settled.{state_of}
use Rattle.au_engine.proofs.Views.{nothing_laid, open_is}

-- no map of something is nothing
pub none_mapped : {X Y Z : Type 0} (f : X → Y) (g : X → Z) (xs : List X) → map f xs ≡ [] → map g xs ≡ []
none_mapped f g [] is = refl
none_mapped f g (x ∷ xs) is = absurd (let e : f x ∷ map f xs ≡ [] = is in cc)

none_open : (kept : Kept) (client : ClientNo) → open_of (desk_of (record { kept = kept; logs = []; spare = 0; room = 0 })) client ≡ []
none_open kept client = ap (λ (l : List RowChange). l ++ []) (nothing_laid (client.0 == 0))

-- so is a state of a keeping in which no client has changes
pub rests : (contents : Contents) (sessions : List OpenSession) (drawn : ℕ) (results : List (List ℕ × Bool)) → IsLawful contents.kept → HoldsTogether contents.kept (desk_of contents) → sessions ≡ []
    → ((client : ClientNo) → changes_of client contents.logs ≡ []) → drawn ≤ INSTANCE_SESSIONS → IsTrue (is_in_order result_before results)
    → ((kept : Kept) (before after : Desk) → HoldsTogether kept before → after.tables ≡ before.tables → after.rows ≡ before.rows → ((client : ClientNo) → open_of after client ≡ open_of before client) → HoldsTogether kept after)
    → IsLawfulState (state_of contents.kept sessions drawn results)
rests contents sessions drawn results kept together none quiet few ordered same =
    subst (λ (s : List OpenSession). IsLawfulState (state_of contents.kept s drawn results)) (sym none) (record {
      kept = kept;
      sessions = tt;
      clients = tt;
      transactions = same contents.kept (desk_of contents) _ together refl refl (λ client. none_open contents.kept client ∙ sym (open_is contents client ∙ quiet client));
      drawn = few;
      results = ordered;
    })
