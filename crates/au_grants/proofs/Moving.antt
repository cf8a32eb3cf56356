-- What is moved from the end of one list to another, the last first.
use Rattle.std.proofs.Common.{◌≡◌, ℕ, Bool, true, not, List, [], ◌∷◌, ◌++◌, length, take, drop, reverse, refl, sym, ap, ◌∙◌, append_assoc}
use Rattle.std.specs.List.{filter}
use Rattle.std.proofs.Math.Seq.{drop-append_seam, take-append_seam}
use Rattle.std.proofs.lemmas.List.{reverse-append, take-append-drop}
use Rattle.au_base.specs.Order.{IsIrreflexive, IsTransitive}
use Rattle.au_grants.specs.Order.{is_in_order}
use Rattle.au_grants.specs.descent.Growing.{merged}
use Rattle.au_grants.proofs.Merging.{last_placed}

-- one more element is moved
pub moved_tail : {X : Type 0} (E A M T : List X) (x : X) (m n : ℕ) → take n E ≡ A ++ x ∷ [] → length A ≡ m → reverse M ≡ drop n E ++ T → reverse (M ++ x ∷ []) ≡ drop m E ++ T
moved_tail {X} E A M T x m n front long moved =
    let whole : E ≡ A ++ (x ∷ drop n E) = sym (take-append-drop n E) ∙ (λ i. front i ++ drop n E) ∙ append_assoc A (x ∷ []) (drop n E) in
    let tail : drop m E ≡ x ∷ drop n E = (λ i. drop (sym long i) (whole i)) ∙ drop-append_seam A (x ∷ drop n E) in
    reverse-append M (x ∷ []) ∙ (λ i. x ∷ moved i) ∙ (λ i. sym tail i ++ T)

pub moved_front : {X : Type 0} (E A : List X) (x : X) (m n : ℕ) → take n E ≡ A ++ x ∷ [] → length A ≡ m → A ≡ take m E
moved_front {X} E A x m n front long =
    let whole : E ≡ A ++ (x ∷ drop n E) = sym (take-append-drop n E) ∙ (λ i. front i ++ drop n E) ∙ append_assoc A (x ∷ []) (drop n E) in
    sym (take-append_seam A (x ∷ drop n E)) ∙ (λ i. take (long i) (sym whole i))

pub turned : {X : Type 0} (xs : List X) → reverse (reverse xs) ≡ xs
turned [] = refl
turned (x ∷ xs) = ap reverse (reverse-append (x ∷ []) xs) ∙ reverse-append (reverse xs) (x ∷ []) ∙ (λ i. x ∷ turned xs i)

-- the last of new entries is moved behind what came after it
pub moved_last : {X : Type 0} (before : X → X → Bool) → IsTransitive before → IsIrreflexive before → (F L later M N : List X) (y : X) (n : ℕ) → is_in_order before (F ++ y ∷ []) ≡ true
    → filter (λ e. before e y) L ≡ take n L → filter (λ e. not (before e y)) L ≡ drop n L → later ≡ take n L → reverse N ≡ drop n L ++ reverse M
    → merged before F later ++ reverse (N ++ y ∷ []) ≡ merged before (F ++ y ∷ []) L ++ reverse M
moved_last before joins apart F L later M N y n ordered front rest left moved =
    (λ i. merged before F ((left ∙ sym front) i) ++ (reverse-append N (y ∷ []) ∙ (λ j. y ∷ (moved ∙ (λ k. sym rest k ++ reverse M)) j)) i)
    ∙ sym (append_assoc (merged before F (filter (λ e. before e y) L)) (y ∷ filter (λ e. not (before e y)) L) (reverse M))
    ∙ (λ i. sym (last_placed before joins apart F y L ordered) i ++ reverse M)
