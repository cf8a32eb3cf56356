-- Laws of lists of exchanges: one more comes at the end.
use Rattle.std.proofs.Common.{◌≡◌, ℕ, false, List, [], ◌∷◌, ◌++◌, drop, refl, sym, ap, ◌∙◌, subst, append_assoc, append-nil}
use Rattle.au_base.specs.declared.numbers.ClientNo.{ClientNo}
use Rattle.au_http.specs.declared.requests.Need.TheVariants.{Got}
use Rattle.au_http.specs.Pipelines.{AreRequests}
use Rattle.au_http.specs.Requests.{Needs}
use Rattle.au_store.specs.declared.entry.Entry.{Entry}
use Rattle.au_session.specs.Entries.{AllLeave, Leaves}
use Rattle.au_session.specs.Exchanges.{AllOpen, Exchange, requests_of, response_of, responses_of}

-- the request with which the rest begins is the next
pub requests_next : (xs : List Exchange) (bytes rest : List ℕ) (x : Exchange) (used : ℕ) → AreRequests bytes (requests_of xs) rest → Needs rest (Got used x.ask x.close) → AreRequests bytes (requests_of (xs ++ x ∷ [])) (drop used rest)
requests_next [] bytes rest x used are need = (used, subst (λ (l : List ℕ). Needs l (Got used x.ask x.close)) (sym are) need, ap (λ (l : List ℕ). drop used l) are)
requests_next (s ∷ ss) bytes rest x used are need = (are.0, are.1, requests_next ss (drop are.0 bytes) rest x used are.2 need)

pub responses_next : (xs : List Exchange) (x : Exchange) → responses_of (xs ++ x ∷ []) ≡ responses_of xs ++ response_of x
responses_next [] x = append-nil (response_of x)
responses_next (s ∷ ss) x = ap (λ (l : List ℕ). response_of s ++ l) (responses_next ss x) ∙ sym (append_assoc (response_of s) (responses_of ss) (response_of x))

pub open_next : (xs : List Exchange) (x : Exchange) → AllOpen xs → x.close ≡ false → AllOpen (xs ++ x ∷ [])
open_next [] x all stays = (stays, tt)
open_next (s ∷ ss) x all stays = (all.0, open_next ss x all.1 stays)

pub leave_next : (client : ClientNo) (xs : List Exchange) (x : Exchange) (made more : List Entry) → AllLeave client xs made → Leaves client x.ask x.said more → AllLeave client (xs ++ x ∷ []) (made ++ more)
leave_next client [] x made more all leaves = (more, [], leaves, refl, ap (λ (l : List Entry). l ++ more) all ∙ sym (append-nil more))
leave_next client (s ∷ ss) x made more all leaves =
    (all.0, all.1 ++ more, all.2, leave_next client ss x all.1 more all.3 leaves, ap (λ (l : List Entry). l ++ more) all.4 ∙ append_assoc all.0 all.1 more)
