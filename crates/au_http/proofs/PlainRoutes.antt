-- A router whose routes have no parameter finds the route that is the path.
use Rattle.std.proofs.Common.{◌≡◌, ◌∙◌, ◌<◌, ◌≤◌, ◌-◌, ◌==◌, ◌&&◌, ℕ, zero, suc, List, [], ◌∷◌, Bool, true, false, cond, if◌then◌else◌, Option, Some, None, arith, refl, ap, length, rules}
use Rattle.std.specs.Prelude.{⊤}
use Rattle.std.specs.Str.{bytes_eq}
use Rattle.std.proofs.lemmas.Bool.Decides.{nat_tests}
use Rattle.matchit.specs.Rows.{RowsOf, param_token, catch_all_token}
use Rattle.matchit.specs.Seek.{first, has_slash, or_else, own, param_step, seek, step}
use Rattle.au_http.specs.Routes.{table}

AllBytes : List ℕ → Type 0
AllBytes [] = ⊤
AllBytes (x ∷ t) = (x < 256) × AllBytes t

other : (x w : ℕ) → x < 256 → 256 ≤ w → (x == w) ≡ false
other x w small large = grind (arith, nat_tests)

module _ {K : Type 0} where
  -- the first of the rows whose pattern is the path
  abbrev pub at_path : List ℕ → RowsOf K → Option K
  at_path path [] = None
  at_path path ((t, key) ∷ rest) = if bytes_eq t path then Some key else at_path path rest

  -- each pattern is of bytes alone
  pub IsPlain : RowsOf K → Type 0
  IsPlain [] = ⊤
  IsPlain ((t, key) ∷ rest) = AllBytes t × IsPlain rest

  cond_plain : (c : Bool) (xs ys : RowsOf K) → IsPlain xs → IsPlain ys → IsPlain (cond c xs ys)
  cond_plain true xs ys p q = p
  cond_plain false xs ys p q = q

  step_plain : (b : ℕ) (rs : RowsOf K) → IsPlain rs → IsPlain (step b rs)
  unfolding IsPlain AllBytes
  step_plain b [] p = tt
  step_plain b (([], key) ∷ rest) p = step_plain b rest p.1
  step_plain b ((x ∷ t, key) ∷ rest) p = cond_plain (x == b) ((t, key) ∷ step b rest) (step b rest) ((p.0).1, step_plain b rest p.1) (step_plain b rest p.1)

  no_step : (w : ℕ) (rs : RowsOf K) → 256 ≤ w → IsPlain rs → step w rs ≡ []
  unfolding IsPlain AllBytes
  no_step w [] large p = refl
  no_step w (([], key) ∷ rest) large p = no_step w rest large p.1
  no_step w ((x ∷ t, key) ∷ rest) large p = rw (other x w (p.0).0 large) (no_step w rest large p.1)

  or_none : (a : Option K) → or_else a None ≡ a
  or_none None = refl
  or_none (Some k) = refl

  param_none : (path : List ℕ) → (param_step {K = K} [] path).1 ≡ []
  unfolding param_step
  param_none path = elim (has_slash path) as (λ s. (cond {A = ℕ × RowsOf K} s (0, []) (length path, [])).1 ≡ []) [ true ↦ refl | false ↦ refl ]

  seek_none : (path : List ℕ) (k : ℕ) → seek {K = K} k [] path ≡ None
  unfolding seek
  seek_none [] zero = refl
  seek_none [] (suc k) = refl
  seek_none (b ∷ path) (suc k) = seek_none path k
  seek_none (b ∷ path) zero =
      rw (seek_none path 0, param_none (b ∷ path), seek_none path ((param_step {K = K} [] (b ∷ path)).0 - 1)) refl

  seek_plain : (path : List ℕ) (b : ℕ) (rs : RowsOf K) → IsPlain rs → seek 0 rs (b ∷ path) ≡ seek 0 (step b rs) path
  unfolding seek
  seek_plain path b rs p =
      rw (
        no_step param_token rs (omega arith) p,
        no_step catch_all_token rs (omega arith) p,
        param_none (b ∷ path),
        seek_none path ((param_step {K = K} [] (b ∷ path)).0 - 1),
      ) (or_none (seek 0 (step b rs) path))

  own_is : (rs : RowsOf K) → own rs ≡ at_path [] rs
  own_is [] = refl
  own_is (([], key) ∷ rest) = refl
  own_is ((x ∷ t, key) ∷ rest) = own_is rest

  at_cond : (s : Bool) (t : List ℕ) (key : K) (path : List ℕ) (xs : RowsOf K) (o : Option K) → at_path path xs ≡ o
      → at_path path (cond s ((t, key) ∷ xs) xs) ≡ (if (s && bytes_eq t path) then Some key else o)
  at_cond true t key path xs o e = ap (λ r. if bytes_eq t path then Some key else r) e
  at_cond false t key path xs o e = e

  at_step : (b : ℕ) (path : List ℕ) (rs : RowsOf K) → at_path path (step b rs) ≡ at_path (b ∷ path) rs
  at_step b path [] = refl
  at_step b path (([], key) ∷ rest) = at_step b path rest
  at_step b path ((x ∷ t, key) ∷ rest) = at_cond (x == b) t key path (step b rest) (at_path (b ∷ path) rest) (at_step b path rest)

  pub first_plain : (path : List ℕ) (rs : RowsOf K) → IsPlain rs → first rs path ≡ at_path path rs
  unfolding seek
  first_plain [] rs p = own_is rs
  first_plain (b ∷ path) rs p = seek_plain path b rs p ∙ first_plain path (step b rs) (step_plain b rs p) ∙ at_step b path rs

pub table_plain : IsPlain table
unfolding IsPlain AllBytes
table_plain = search rules
