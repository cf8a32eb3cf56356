-- What a search finds passes its test.
use Rattle.std.proofs.Common.{◌≡◌, ◌==◌, ◌∙◌, Bool, true, false, cond, List, [], ◌∷◌, Some, ℕ, ap, sym, arith, refl}
use Rattle.std.specs.List.{find}
use Rattle.std.proofs.lemmas.Bool.Decides.{nat_tests}

pub find-passes : {X : Type 0} (test : X → Bool) (xs : List X) (x : X) → find test xs ≡ Some x → test x ≡ true
find-passes test [] x is = cc
find-passes test (y ∷ ys) x is =
    let step : (b : Bool) → test y ≡ b → cond b (Some y) (find test ys) ≡ Some x → test x ≡ true =
    elim [
      | true ↦ (λ passes here. let same : y ≡ x = cc here in ap test (sym same) ∙ passes)
      | false ↦ (λ fails there. find-passes test ys x there)
    ] in
    step (test y) refl is

pub nat_eq-is : (m n : ℕ) → (m == n) ≡ true → m ≡ n
nat_eq-is m n is = grind (arith, nat_tests)
