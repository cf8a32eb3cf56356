-- Places of FROM that are told, or left out.
use Rattle.std.proofs.Common.{◌≡◌, ◌<◌, ◌∙◌, ◌+◌, ◌++◌, ◌∷◌, [], ℕ, Bool, true, false, cond, List, length, drop, get_or, map, filter, sym, ap, ap₂, add-one, append_assoc}
use Rattle.std.proofs.Math.Seq.{drop-cons}
use Rattle.std.specs.List.{enumerate_from}

-- the place that comes next, and those behind it
pub next : {X : Type 0} (xs : List X) (i : ℕ) (x : X) → i < length xs → x ≡ get_or xs i x → enumerate_from i (drop i xs) ≡ (i, x) ∷ enumerate_from (i + 1) (drop (i + 1) xs)
next xs i x within is = ap (enumerate_from i) (drop-cons xs i x within ∙ ap₂ (λ y (n : ℕ). y ∷ drop n xs) (sym is) (sym (add-one i)))

-- one that is told stands behind those told before
pub told : {X Y : Type 0} (f : X → Y) (test : X → Bool) (x : X) (here rest : List X) (done : List Y) (all : List Y) → here ≡ x ∷ rest → test x ≡ true → done ++ map f (filter test here) ≡ all → (done ++ f x ∷ []) ++ map f (filter test rest) ≡ all
told f test x here rest done all at holds so_far =
    append_assoc done (f x ∷ []) (map f (filter test rest))
    ∙ (sym (ap (λ xs. done ++ map f (filter test xs)) at ∙ ap (λ b. done ++ map f (cond b (x ∷ filter test rest) (filter test rest))) holds) ∙ so_far)

-- one that is left out changes nothing
pub left_out : {X Y : Type 0} (f : X → Y) (test : X → Bool) (x : X) (here rest : List X) (done : List Y) (all : List Y) → here ≡ x ∷ rest → test x ≡ false → done ++ map f (filter test here) ≡ all → done ++ map f (filter test rest) ≡ all
left_out f test x here rest done all at fails so_far =
    sym (ap (λ xs. done ++ map f (filter test xs)) at ∙ ap (λ b. done ++ map f (cond b (x ∷ filter test rest) (filter test rest))) fails) ∙ so_far
