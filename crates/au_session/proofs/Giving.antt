-- Bytes that are given piece by piece.
use Rattle.std.proofs.Common.{◌≡◌, ℕ, List, [], ◌++◌, take, drop, sym, ◌∙◌, ap, refl, subst}
use Rattle.std.specs.Prelude.{Option}
use Rattle.au_io.specs.Stream.{Grows}
use Rattle.au_io.specs.StreamLaws.{grows_none, grows_on}
use Rattle.std.proofs.lemmas.List.{take-append-drop, append_assoc, append-nil}

-- all but the rest was given
pub record HasGiven (old now : Option (List ℕ)) (bytes rest : List ℕ) : Type 0 where
  pub front : List ℕ
  pub split : bytes ≡ front ++ rest
  pub given : Grows old now front

pub given_none : (old : Option (List ℕ)) (bytes : List ℕ) → HasGiven old old bytes bytes
given_none old bytes = record { front = []; split = refl; given = grows_none old }

pub given_more : (old now new : Option (List ℕ)) (bytes rest : List ℕ) (n : ℕ) → HasGiven old now bytes rest → Grows now new (take n rest) → HasGiven old new bytes (drop n rest)
given_more old now new bytes rest n h more = record {
  front = h.front ++ take n rest;
  split = h.split ∙ ap (λ (xs : List ℕ). h.front ++ xs) (sym (take-append-drop n rest)) ∙ sym (append_assoc h.front (take n rest) (drop n rest));
  given = grows_on old now new h.front (take n rest) h.given more;
}

pub given_all : (old now : Option (List ℕ)) (bytes rest : List ℕ) → HasGiven old now bytes rest → rest ≡ [] → Grows old now bytes
given_all old now bytes rest h e = subst (λ (xs : List ℕ). Grows old now xs) (sym (h.split ∙ ap (λ (xs : List ℕ). h.front ++ xs) e ∙ append-nil h.front)) h.given
