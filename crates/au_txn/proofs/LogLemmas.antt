-- What is known of a client, after its list is written.
use Rattle.std.proofs.Common.{◌≡◌, ◌≢◌, ℕ, ◌≤◌, Bool, true, false, List, [], ◌∷◌, ◌++◌, get_or, set, refl, sym, subst, ap, ◌∙◌, arith, Some, None}
use Rattle.std.specs.Prelude.{◌==◌, filter, not, position}
use Rattle.std.proofs.lemmas.Bool.Decides.{nat_tests}
use Rattle.std.proofs.lemmas.Grind.{common_steps}
use Rattle.au_base.specs.declared.numbers.ClientNo.{ClientNo}
use Rattle.au_txn.specs.Logs.{Changes, changes_of, is_client, of_client, room_of}
use Rattle.au_txn.proofs.RowOrder.{client-is}

pub of_client-at : {A : Type 0} (f : Changes → A) (none : A) (client : ClientNo) (logs : List Changes) (i : ℕ) (d : Changes)
    → position (is_client client) logs ≡ Some i → of_client f none client logs ≡ f (get_or logs i d)
of_client-at f none client [] i d h = grind arith
of_client-at f none client (log ∷ logs) i d h = grind (arith, common_steps, of_client-at f none client logs)

pub of_client-absent : {A : Type 0} (f : Changes → A) (none : A) (client : ClientNo) (logs : List Changes)
    → position (is_client client) logs ≡ None → of_client f none client logs ≡ none
of_client-absent f none client [] h = refl
of_client-absent f none client (log ∷ logs) h = grind (arith, common_steps, of_client-absent f none client logs)

pub of_client-set : {A : Type 0} (f : Changes → A) (none : A) (client : ClientNo) (logs : List Changes) (i : ℕ) (log : Changes)
    → position (is_client client) logs ≡ Some i → log.client.0 ≡ client.0 → of_client f none client (set logs i log) ≡ f log
of_client-set f none client [] i log h e = grind arith
of_client-set f none client (first ∷ logs) i log h e = grind (arith, common_steps, of_client-set f none client logs)

pub of_client-set_other : {A : Type 0} (f : Changes → A) (none : A) (client q : ClientNo) (logs : List Changes) (i : ℕ) (log : Changes)
    → position (is_client client) logs ≡ Some i → log.client.0 ≡ client.0 → q.0 ≢ client.0
    → of_client f none q (set logs i log) ≡ of_client f none q logs
of_client-set_other f none client q [] i log h e ne = refl
of_client-set_other f none client q (first ∷ logs) i log h e ne = grind (arith, common_steps, of_client-set_other f none client q logs)

pub of_client-kept : {A : Type 0} (f : Changes → A) (none : A) (client q : ClientNo) (logs : List Changes) (i : ℕ) (log d : Changes)
    → position (is_client client) logs ≡ Some i → log.client.0 ≡ client.0 → f log ≡ f (get_or logs i d)
    → of_client f none q (set logs i log) ≡ of_client f none q logs
of_client-kept f none client q [] i log d h e same = refl
of_client-kept f none client q (first ∷ logs) i log d h e same = grind (arith, common_steps, of_client-kept f none client q logs)

pub spare-set : (client q : ClientNo) (logs : List Changes) (i : ℕ) (log d : Changes)
    → position (is_client client) logs ≡ Some i → log.client.0 ≡ client.0 → (get_or logs i d).spare ≤ log.spare
    → of_client (λ (l : Changes). l.spare) 0 q logs ≤ of_client (λ (l : Changes). l.spare) 0 q (set logs i log)
spare-set client q [] i log d h e le = grind arith
spare-set client q (first ∷ logs) i log d h e le = grind (arith, common_steps, spare-set client q logs)

pub spare-push : (q : ClientNo) (logs : List Changes) (log : Changes)
    → of_client (λ (l : Changes). l.spare) 0 q logs ≤ of_client (λ (l : Changes). l.spare) 0 q (logs ++ log ∷ [])
spare-push q [] log = grind arith
spare-push q (first ∷ logs) log = grind (arith, common_steps, spare-push q logs log)

pub of_client-push : {A : Type 0} (f : Changes → A) (none : A) (client : ClientNo) (logs : List Changes) (log : Changes)
    → position (is_client client) logs ≡ None → log.client.0 ≡ client.0 → of_client f none client (logs ++ log ∷ []) ≡ f log
of_client-push f none client [] log h e = grind arith
of_client-push f none client (first ∷ logs) log h e = grind (arith, common_steps, of_client-push f none client logs log)

pub of_client-push_same : {A : Type 0} (f : Changes → A) (none : A) (q : ClientNo) (logs : List Changes) (log : Changes)
    → f log ≡ none → of_client f none q (logs ++ log ∷ []) ≡ of_client f none q logs
of_client-push_same f none q [] log e = grind arith
of_client-push_same f none q (first ∷ logs) log e = grind (arith, common_steps, of_client-push_same f none q logs log)

pub client-at : (client : ClientNo) (logs : List Changes) (i : ℕ) (d : Changes)
    → position (is_client client) logs ≡ Some i → (get_or logs i d).client.0 ≡ client.0
client-at client [] i d h = grind arith
client-at client (log ∷ logs) i d h = grind (arith, common_steps, client-at client logs)

-- what is known of the clients where one list is written
pub record Rewritten (client : ClientNo) (old new : List Changes) (was now : Changes) : Type 0 where
  pub changes_were : changes_of client old ≡ was.changes
  pub changes_are : changes_of client new ≡ now.changes
  pub other_changes : (q : ClientNo) → q.0 ≢ client.0 → changes_of q new ≡ changes_of q old
  pub changes_kept : now.changes ≡ was.changes → (q : ClientNo) → changes_of q new ≡ changes_of q old
  pub other_rooms : (q : ClientNo) → q.0 ≢ client.0 → room_of q new ≡ room_of q old
  pub spare_was : room_of client old ≡ was.spare
  pub spare_is : room_of client new ≡ now.spare
  pub spares : was.spare ≤ now.spare → (q : ClientNo) → room_of q old ≤ room_of q new

pub rewritten : (client : ClientNo) (logs seen : List Changes) (i : ℕ) (was now : Changes)
    → Some i ≡ position (is_client client) seen → seen ≡ logs → was ≡ get_or logs i was → now.client ≡ was.client
    → Rewritten client logs (set logs i now) was now
rewritten client logs seen i was now found same at kept =
    let here : position (is_client client) logs ≡ Some i = cc in
    let owner : was.client.0 ≡ client.0 = cc (client-at client logs i was here) in
    let own : now.client.0 ≡ client.0 = cc in
    record {
      changes_were = cc (of_client-at (λ (l : Changes). l.changes) [] client logs i was here);
      changes_are = of_client-set (λ (l : Changes). l.changes) [] client logs i now here own;
      other_changes = λ q ne. of_client-set_other (λ (l : Changes). l.changes) [] client q logs i now here own ne;
      changes_kept = λ e q. of_client-kept (λ (l : Changes). l.changes) [] client q logs i now was here own (e ∙ ap (λ (l : Changes). l.changes) at);
      other_rooms = λ q ne. of_client-set_other (λ (l : Changes). l.spare) 0 client q logs i now here own ne;
      spare_was = cc (of_client-at (λ (l : Changes). l.spare) 0 client logs i was here);
      spare_is = of_client-set (λ (l : Changes). l.spare) 0 client logs i now here own;
      spares = λ le q. spare-set client q logs i now was here own (rw (← at) le);
    }

pub ruleset log_steps = (client-at, of_client-at, of_client-absent, of_client-set, of_client-set_other, of_client-push, of_client-push_same, spare-set, spare-push)

-- the lists but one client's
pub forgotten-own : {A : Type 0} (f : Changes → A) (none : A) (client : ClientNo) (logs : List Changes) → of_client f none client (filter (λ log. not (is_client client log)) logs) ≡ none
forgotten-own f none client [] = refl
forgotten-own f none client (log ∷ logs) = grind (arith, common_steps, forgotten-own f none client logs)

pub forgotten-other : {A : Type 0} (f : Changes → A) (none : A) (client q : ClientNo) (logs : List Changes) → q.0 ≢ client.0 → of_client f none q (filter (λ log. not (is_client client log)) logs) ≡ of_client f none q logs
forgotten-other f none client q [] ne = refl
forgotten-other f none client q (log ∷ logs) ne = grind (arith, common_steps, forgotten-other f none client q logs ne)

-- no list has less room where one client's has no less and the others have the same
pub all-rooms : (c q : ClientNo) (old new : List Changes) → room_of c old ≤ room_of c new → ((p : ClientNo) → p.0 ≢ c.0 → room_of p new ≡ room_of p old) → room_of q old ≤ room_of q new
all-rooms c q old new own others = go (q.0 == c.0) refl
  where
    go : (b : Bool) → (q.0 == c.0) ≡ b → room_of q old ≤ room_of q new
    go true e = subst (λ (p : ClientNo). room_of p old ≤ room_of p new) (sym (client-is q c e)) own
    go false e = let same = others q (grind (arith, nat_tests)) in omega arith
