-- Spellings that are made of others are read exactly by the readers that are made of theirs.
use Rattle.std.proofs.Common.{◌≡◌, ℕ, zero, suc, ◌+◌, ◌^◌, ◌<◌, ◌≤◌, Bool, true, false, cond, eqb, ltb, List, [], ◌∷◌, ◌++◌, length, take, drop, Option, Some, None, refl, sym, ap, subst, ◌∙◌, ◌⊎◌, append_assoc, arith, inl, inr}
use Rattle.std.specs.Int.{Width, w16, w32, w64, byte_len, from_be_bytes, to_be_bytes}
use Rattle.std.specs.List.{flat_map, AllByRecursion}
use Rattle.std.proofs.lemmas.Bool.{cases_lt, ltb-false, le-ltb, eqb-true}
use Rattle.std.proofs.lemmas.List.{take_at, drop_at, take-append-drop, length-append, length-take, get_or-drop, get_or-take, get_or_past}
use Rattle.std.proofs.lemmas.Nat.{be_bytes_2, be_bytes_4, be_bytes_8, from_be_bytes-to_be_bytes_2, from_be_bytes-to_be_bytes_4, from_be_bytes-to_be_bytes_8}
use Rattle.rec_parts.specs.Spelling.{Spelling, byte, number, run, long, option, option_spelled, counted, pair, only, such_that, by_parts, nothing, led_by, coded}
use Rattle.rec_parts.specs.Exactness.{IsBytes, IsExact, Takes}
use Rattle.rec_parts.specs.descent.Reading.{Front, Behind, ◌>>=◌, behind, below, byte_first, coded_first, counted_first, led_first, long_first, made_first, many_first, no_other, nothing_first, number_first, option_first, pair_first, run_first, tagged_first, tested_first}

IsBytes-drop : (n : ℕ) (bytes : List ℕ) → IsBytes bytes → IsBytes (drop n bytes)
IsBytes-drop n bytes h i = rw get_or-drop (h (n + i))

IsBytes-take : (n : ℕ) (bytes : List ℕ) → IsBytes bytes → IsBytes (take n bytes)
IsBytes-take n bytes h i =
    elim (cases_lt i n) [
      | inl lt ↦ rw (get_or-take n bytes i 0 lt) (h i)
      | inr le ↦ rw (get_or_past (take n bytes) i 0 (omega (arith, length-take n bytes))) (omega arith)
    ]

pub IsBytes-rest : (b : ℕ) (bytes : List ℕ) → IsBytes (b ∷ bytes) → IsBytes bytes
IsBytes-rest b bytes h i = h (suc i)

-- ---- options

pub bind_some : {A B : Type 0} (r : Option A) (f : A → Option B) (y : B) → (r >>= f) ≡ Some y → (x : A) × (r ≡ Some x) × (f x ≡ Some y)
bind_some (Some x) f y e = (x, refl, e)
bind_some None f y e = absurd cc

abbrev found : {A : Type 0} → A → Option A
found x = Some x

pub some_is : {A : Type 0} (x y : A) → found x ≡ found y → x ≡ y
some_is x y e = cc

-- a test that something passed, and one that something didn't fail
pub passed : {A : Type 0} (b : Bool) (x y : A) → cond b (found x) None ≡ found y → (b ≡ true) × (x ≡ y)
passed true x y e = (refl, some_is x y e)
passed false x y e = absurd cc

pub went_on : {A : Type 0} (b : Bool) (x y : A) → cond b None (found x) ≡ found y → (b ≡ false) × (x ≡ y)
went_on true x y e = absurd cc
went_on false x y e = (refl, some_is x y e)

pub chosen : {A : Type 0} (b : Bool) (u v w : A) → cond b u v ≡ w → ((b ≡ true) × (u ≡ w)) ⊎ ((b ≡ false) × (v ≡ w))
chosen true u v w e = inl (refl, e)
chosen false u v w e = inr (refl, e)

-- ---- a byte and numbers

pub byte_exact : IsExact byte byte_first
byte_exact = record { takes = byte_takes; again = λ x rest h. refl }
  where
    byte_takes : (bytes : List ℕ) (x : ℕ × List ℕ) → IsBytes bytes → byte_first bytes ≡ Some x → Takes byte bytes x
    byte_takes [] x fits e = absurd cc
    byte_takes (b ∷ bytes) x fits e = subst (Takes byte (b ∷ bytes)) (some_is (b, bytes) x e) (record { spellable = fits 0; parts = refl; rest_fits = IsBytes-rest b bytes fits })

record IsWide (w : Width) : Type 0 where
  len : (n : ℕ) → length (to_be_bytes w n) ≡ byte_len w
  back : (bytes : List ℕ) → length bytes ≡ byte_len w → IsBytes bytes → to_be_bytes w (from_be_bytes w bytes) ≡ bytes
  again : (n : ℕ) → n < 256 ^ byte_len w → from_be_bytes w (to_be_bytes w n) ≡ n
  below : (bytes : List ℕ) → IsBytes bytes → from_be_bytes w bytes < 256 ^ byte_len w

wide16 : IsWide w16
wide16 = record {
  len = λ n. refl;
  back = λ bytes len fits. be_bytes_2 bytes _ len fits refl;
  again = λ n lt. from_be_bytes-to_be_bytes_2 n lt;
  below = λ bytes fits. omega (arith, fits 0, fits 1);
}

wide32 : IsWide w32
wide32 = record {
  len = λ n. refl;
  back = λ bytes len fits. be_bytes_4 bytes _ len fits refl;
  again = λ n lt. from_be_bytes-to_be_bytes_4 n lt;
  below = λ bytes fits. omega (arith, fits 0, fits 1, fits 2, fits 3);
}

wide64 : IsWide w64
wide64 = record {
  len = λ n. refl;
  back = λ bytes len fits. be_bytes_8 bytes _ len fits refl;
  again = λ n lt. from_be_bytes-to_be_bytes_8 n lt;
  below = λ bytes fits. omega (arith, fits 0, fits 1, fits 2, fits 3, fits 4, fits 5, fits 6, fits 7);
}

number_takes : (w : Width) (wide : IsWide w) (bytes : List ℕ) (x : ℕ × List ℕ) → IsBytes bytes → number_first w bytes ≡ Some x → Takes (number w) bytes x
number_takes w wide bytes x fits e =
    let g = went_on (ltb (length bytes) (byte_len w)) (from_be_bytes w (take (byte_len w) bytes), drop (byte_len w) bytes) x e in
    let long : byte_len w ≤ length bytes = ltb-false _ _ g.0 in
    let front : to_be_bytes w (from_be_bytes w (take (byte_len w) bytes)) ≡ take (byte_len w) bytes = wide.back (take (byte_len w) bytes) (omega (arith, length-take (byte_len w) bytes)) (IsBytes-take (byte_len w) bytes fits) in
    subst (Takes (number w) bytes) g.1 (record {
      spellable = wide.below (take (byte_len w) bytes) (IsBytes-take (byte_len w) bytes fits);
      parts = rw front (sym (take-append-drop (byte_len w) bytes));
      rest_fits = IsBytes-drop (byte_len w) bytes fits;
    })

number_again : (w : Width) (wide : IsWide w) (n : ℕ) (rest : List ℕ) → n < 256 ^ byte_len w → number_first w (to_be_bytes w n ++ rest) ≡ Some (n, rest)
number_again w wide n rest lt =
    let len = wide.len n in
    let long : ltb (length (to_be_bytes w n ++ rest)) (byte_len w) ≡ false = le-ltb _ _ (omega (arith, length-append (to_be_bytes w n) rest)) in
    rw (long, take_at (to_be_bytes w n) rest (byte_len w) len, drop_at (to_be_bytes w n) rest (byte_len w) len, wide.again n lt) refl

number_exact : (w : Width) → IsWide w → IsExact (number w) (number_first w)
number_exact w wide = record { takes = number_takes w wide; again = number_again w wide }

pub exact16 : IsExact (number w16) (number_first w16)
exact16 = number_exact w16 wide16

pub exact32 : IsExact (number w32) (number_first w32)
exact32 = number_exact w32 wide32

pub exact64 : IsExact (number w64) (number_first w64)
exact64 = number_exact w64 wide64

-- ---- bytes

run_takes : (n : ℕ) (bytes : List ℕ) (x : List ℕ × List ℕ) → IsBytes bytes → run_first n bytes ≡ Some x → Takes (run n) bytes x
run_takes n bytes x fits e =
    let g = went_on (ltb (length bytes) n) (take n bytes, drop n bytes) x e in
    let long : n ≤ length bytes = ltb-false _ _ g.0 in
    subst (Takes (run n) bytes) g.1 (record {
      spellable = omega (arith, length-take n bytes);
      parts = sym (take-append-drop n bytes);
      rest_fits = IsBytes-drop n bytes fits;
    })

run_again : (n : ℕ) (bytes rest : List ℕ) → length bytes ≡ n → run_first n (bytes ++ rest) ≡ Some (bytes, rest)
run_again n bytes rest len =
    let long : ltb (length (bytes ++ rest)) n ≡ false = le-ltb _ _ (omega (arith, length-append bytes rest)) in
    rw (long, take_at bytes rest n len, drop_at bytes rest n len) refl

pub run_exact : (n : ℕ) → IsExact (run n) (run_first n)
run_exact n = record { takes = run_takes n; again = run_again n }

pub long_exact : {count : Spelling ℕ} {first : Front ℕ} → IsExact count first → IsExact (long count) (long_first first)
long_exact {count} {first} exact = record {
  takes = λ bytes x fits e.
      let a = bind_some (first bytes) (λ n. run_first n.0 n.1) x e in
      let t = exact.takes bytes a.0 fits a.1 in
      let u = run_takes a.0.0 a.0.1 x t.rest_fits a.2 in
      record {
        spellable = subst count.IsSpellable (sym u.spellable) t.spellable;
        parts = t.parts ∙ ap (λ (r : List ℕ). count.spelled a.0.0 ++ r) u.parts ∙ sym (append_assoc (count.spelled a.0.0) x.0 x.1) ∙ ap (λ (n : ℕ). (count.spelled n ++ x.0) ++ x.1) (sym u.spellable);
        rest_fits = u.rest_fits;
      };
  again = λ bytes rest h.
      let regrouped : (count.spelled (length bytes) ++ bytes) ++ rest ≡ count.spelled (length bytes) ++ (bytes ++ rest) = append_assoc (count.spelled (length bytes)) bytes rest in
      rw (regrouped, exact.again (length bytes) (bytes ++ rest) h) (run_again (length bytes) bytes rest refl);
}

-- ---- options

option_takes : {X : Type 0} (s : Spelling X) (first : Front X) (exact : IsExact s first) (bytes : List ℕ) (x : Option X × List ℕ) → IsBytes bytes → option_first first bytes ≡ Some x → Takes (option s) bytes x
option_takes s first exact [] x fits e = absurd cc
option_takes s first exact (zero ∷ bytes) x fits e =
    subst (Takes (option s) (0 ∷ bytes)) (some_is (None, bytes) x e) (record { spellable = tt; parts = refl; rest_fits = IsBytes-rest 0 bytes fits })
option_takes s first exact (suc zero ∷ bytes) x fits e =
    let a = bind_some (first bytes) (λ y. Some (Some y.0, y.1)) x e in
    let t = exact.takes bytes a.0 (IsBytes-rest 1 bytes fits) a.1 in
    subst (Takes (option s) (1 ∷ bytes)) (some_is (Some a.0.0, a.0.1) x a.2) (record { spellable = t.spellable; parts = ap (λ (r : List ℕ). 1 ∷ r) t.parts; rest_fits = t.rest_fits })
option_takes s first exact (suc (suc b) ∷ bytes) x fits e = absurd cc

option_again : {X : Type 0} (s : Spelling X) (first : Front X) (exact : IsExact s first) (x : Option X) (rest : List ℕ) → (option s).IsSpellable x → option_first first (option_spelled s x ++ rest) ≡ Some (x, rest)
option_again s first exact None rest h = refl
option_again s first exact (Some x) rest h = rw (exact.again x rest h) refl

pub option_exact : {X : Type 0} {s : Spelling X} {first : Front X} → IsExact s first → IsExact (option s) (option_first first)
option_exact {X} {s} {first} exact = record { takes = option_takes s first exact; again = option_again s first exact }

-- ---- lists

record TakesMany {X : Type 0} (s : Spelling X) (n : ℕ) (bytes : List ℕ) (x : List X × List ℕ) : Type 0 where
  counts : length x.0 ≡ n
  each : AllByRecursion s.IsSpellable x.0
  parts : bytes ≡ flat_map s.spelled x.0 ++ x.1
  rest_fits : IsBytes x.1

many_takes : {X : Type 0} (s : Spelling X) (first : Front X) (exact : IsExact s first) (n : ℕ) (bytes : List ℕ) (x : List X × List ℕ) → IsBytes bytes → many_first first n bytes ≡ Some x → TakesMany s n bytes x
unfolding many_first
many_takes s first exact zero bytes x fits e =
    subst (TakesMany s 0 bytes) (some_is ([], bytes) x e) (record { counts = refl; each = tt; parts = refl; rest_fits = fits })
many_takes {X} s first exact (suc n) bytes x fits e =
    let a = bind_some (first bytes) (λ y. many_first first n y.1 >>= λ ys. Some (y.0 ∷ ys.0, ys.1)) x e in
    let b = bind_some (many_first first n a.0.1) (λ ys. Some (a.0.0 ∷ ys.0, ys.1)) x a.2 in
    let t = exact.takes bytes a.0 fits a.1 in
    let u = many_takes s first exact n a.0.1 b.0 t.rest_fits b.1 in
    subst (TakesMany s (suc n) bytes) (some_is (a.0.0 ∷ b.0.0, b.0.1) x b.2) (record {
      counts = ap suc u.counts;
      each = (t.spellable, u.each);
      parts = t.parts ∙ ap (λ (r : List ℕ). s.spelled a.0.0 ++ r) u.parts ∙ sym (append_assoc (s.spelled a.0.0) (flat_map s.spelled b.0.0) b.0.1);
      rest_fits = u.rest_fits;
    })

many_again : {X : Type 0} (s : Spelling X) (first : Front X) (exact : IsExact s first) (xs : List X) (rest : List ℕ) → AllByRecursion s.IsSpellable xs → many_first first (length xs) (flat_map s.spelled xs ++ rest) ≡ Some (xs, rest)
unfolding many_first
many_again s first exact [] rest h = refl
many_again s first exact (x ∷ xs) rest h =
    let regrouped : (s.spelled x ++ flat_map s.spelled xs) ++ rest ≡ s.spelled x ++ (flat_map s.spelled xs ++ rest) = append_assoc (s.spelled x) (flat_map s.spelled xs) rest in
    ap (many_first first (suc (length xs))) regrouped ∙ rw (exact.again x (flat_map s.spelled xs ++ rest) h.0, many_again s first exact xs rest h.1) refl

pub counted_exact : {X : Type 0} {count : Spelling ℕ} {s : Spelling X} {number_of : Front ℕ} {first : Front X} → IsExact count number_of → IsExact s first → IsExact (counted count s) (counted_first number_of first)
counted_exact {X} {count} {s} {number_of} {first} counts exact = record {
  takes = λ bytes x fits e.
      let a = bind_some (number_of bytes) (λ n. many_first first n.0 n.1) x e in
      let t = counts.takes bytes a.0 fits a.1 in
      let u = many_takes s first exact a.0.0 a.0.1 x t.rest_fits a.2 in
      record {
        spellable = (subst count.IsSpellable (sym u.counts) t.spellable, u.each);
        parts = t.parts ∙ ap (λ (r : List ℕ). count.spelled a.0.0 ++ r) u.parts ∙ sym (append_assoc (count.spelled a.0.0) (flat_map s.spelled x.0) x.1) ∙ ap (λ (n : ℕ). (count.spelled n ++ flat_map s.spelled x.0) ++ x.1) (sym u.counts);
        rest_fits = u.rest_fits;
      };
  again = λ xs rest h.
      let regrouped : (count.spelled (length xs) ++ flat_map s.spelled xs) ++ rest ≡ count.spelled (length xs) ++ (flat_map s.spelled xs ++ rest) = append_assoc (count.spelled (length xs)) (flat_map s.spelled xs) rest in
      rw (regrouped, counts.again (length xs) (flat_map s.spelled xs ++ rest) h.0) (many_again s first exact xs rest h.1);
}

-- ---- several values

pub pair_exact : {A B : Type 0} {a : Spelling A} {b : Spelling B} {one : Front A} {two : Front B} → IsExact a one → IsExact b two → IsExact (pair a b) (pair_first one two)
pair_exact {A} {B} {a} {b} {one} {two} first second = record {
  takes = λ bytes x fits e.
      let p = bind_some (one bytes) (λ y. two y.1 >>= λ z. Some ((y.0, z.0), z.1)) x e in
      let q = bind_some (two p.0.1) (λ z. Some ((p.0.0, z.0), z.1)) x p.2 in
      let t = first.takes bytes p.0 fits p.1 in
      let u = second.takes p.0.1 q.0 t.rest_fits q.1 in
      subst (Takes (pair a b) bytes) (some_is ((p.0.0, q.0.0), q.0.1) x q.2) (record {
        spellable = (t.spellable, u.spellable);
        parts = t.parts ∙ ap (λ (r : List ℕ). a.spelled p.0.0 ++ r) u.parts ∙ sym (append_assoc (a.spelled p.0.0) (b.spelled q.0.0) q.0.1);
        rest_fits = u.rest_fits;
      });
  again = λ x rest h.
      let regrouped : (a.spelled x.0 ++ b.spelled x.1) ++ rest ≡ a.spelled x.0 ++ (b.spelled x.1 ++ rest) = append_assoc (a.spelled x.0) (b.spelled x.1) rest in
      rw (regrouped, first.again x.0 (b.spelled x.1 ++ rest) h.0, second.again x.1 rest h.1) refl;
}

pub such_that_exact : {X : Type 0} {s : Spelling X} {first : Front X} (test : X → Bool) → IsExact s first → IsExact (such_that s test) (tested_first first test)
such_that_exact {X} {s} {first} test exact = record {
  takes = λ bytes x fits e.
      let a = bind_some (first bytes) (λ y. cond (test y.0) (Some y) None) x e in
      let t = exact.takes bytes a.0 fits a.1 in
      let g = passed (test a.0.0) a.0 x a.2 in
      subst (Takes (such_that s test) bytes) g.1 (record { spellable = (t.spellable, g.0); parts = t.parts; rest_fits = t.rest_fits });
  again = λ x rest h. rw (exact.again x rest h.0, h.1) refl;
}

pub only_exact : {X : Type 0} {s : Spelling X} {first : Front X} (Holds : X → Type 0) (test : X → Bool) → ((x : X) → test x ≡ true → Holds x) → ((x : X) → Holds x → test x ≡ true) → IsExact s first → IsExact (only s Holds) (tested_first first test)
only_exact {X} {s} {first} Holds test told tells exact = record {
  takes = λ bytes x fits e.
      let a = bind_some (first bytes) (λ y. cond (test y.0) (Some y) None) x e in
      let t = exact.takes bytes a.0 fits a.1 in
      let g = passed (test a.0.0) a.0 x a.2 in
      subst (Takes (only s Holds) bytes) g.1 (record { spellable = (t.spellable, told a.0.0 g.0); parts = t.parts; rest_fits = t.rest_fits });
  again = λ x rest h.
      let yes = tells x h.1 in
      rw (exact.again x rest h.0, yes) refl;
}

pub by_parts_exact : {X Y : Type 0} {s : Spelling X} {first : Front X} (make : X → Y) (parts : Y → X) → ((x : X) → parts (make x) ≡ x) → ((y : Y) → make (parts y) ≡ y) → IsExact s first → IsExact (by_parts s parts) (made_first first make)
by_parts_exact {X} {Y} {s} {first} make parts back forth exact = record {
  takes = λ bytes y fits e.
      let a = bind_some (first bytes) (λ x. Some (make x.0, x.1)) y e in
      let t = exact.takes bytes a.0 fits a.1 in
      subst (Takes (by_parts s parts) bytes) (some_is (make a.0.0, a.0.1) y a.2) (record {
        spellable = subst s.IsSpellable (sym (back a.0.0)) t.spellable;
        parts = t.parts ∙ ap (λ (x : X). s.spelled x ++ a.0.1) (sym (back a.0.0));
        rest_fits = t.rest_fits;
      });
  again = λ y rest h. rw (exact.again (parts y) rest h, forth y) refl;
}

-- ---- signs, codes and tags

pub nothing_exact : IsExact nothing nothing_first
nothing_exact = record {
  takes = λ bytes x fits e. subst (Takes nothing bytes) (some_is (tt, bytes) x e) (record { spellable = tt; parts = refl; rest_fits = fits });
  again = λ x rest h. refl;
}

led_takes : {X : Type 0} (sign : ℕ) (s : Spelling X) (first : Front X) (exact : IsExact s first) (bytes : List ℕ) (x : X × List ℕ) → IsBytes bytes → led_first sign first bytes ≡ Some x → Takes (led_by sign s) bytes x
led_takes sign s first exact [] x fits e = absurd cc
led_takes sign s first exact (b ∷ bytes) x fits e =
    elim (chosen (eqb b sign) (first bytes) None (Some x) e) [
      | inl p ↦ (let t = exact.takes bytes x (IsBytes-rest b bytes fits) p.1 in
          record { spellable = t.spellable; parts = ap (λ (c : ℕ). c ∷ bytes) (eqb-true _ _ p.0) ∙ ap (λ (r : List ℕ). sign ∷ r) t.parts; rest_fits = t.rest_fits })
      | inr p ↦ absurd (cc p.1)
    ]

same_number : (n : ℕ) → eqb n n ≡ true
same_number n = grind arith

pub led_by_exact : {X : Type 0} {s : Spelling X} {first : Front X} (sign : ℕ) → IsExact s first → IsExact (led_by sign s) (led_first sign first)
led_by_exact {X} {s} {first} sign exact = record {
  takes = led_takes sign s first exact;
  again = λ x rest h. rw (same_number sign) (exact.again x rest h);
}

coded_takes : {X : Type 0} (code_of : X → ℕ) (with_code : ℕ → Option X) (back : (n : ℕ) (x : X) → with_code n ≡ Some x → code_of x ≡ n) (bytes : List ℕ) (x : X × List ℕ) → IsBytes bytes → coded_first with_code bytes ≡ Some x → Takes (coded code_of) bytes x
coded_takes code_of with_code back [] x fits e = absurd cc
coded_takes {X} code_of with_code back (b ∷ bytes) x fits e =
    let a = bind_some (with_code b) (λ (y : X). Some (y, bytes)) x e in
    subst (Takes (coded code_of) (b ∷ bytes)) (some_is (a.0, bytes) x a.2) (record {
      spellable = tt;
      parts = ap (λ (c : ℕ). c ∷ bytes) (sym (back b a.0 a.1));
      rest_fits = IsBytes-rest b bytes fits;
    })

pub coded_exact : {X : Type 0} (code_of : X → ℕ) (with_code : ℕ → Option X) → ((x : X) → with_code (code_of x) ≡ Some x) → ((n : ℕ) (x : X) → with_code n ≡ Some x → code_of x ≡ n) → IsExact (coded code_of) (coded_first with_code)
coded_exact code_of with_code forth back = record {
  takes = coded_takes code_of with_code back;
  again = λ x rest h. rw (forth x) refl;
}

-- what is read behind a tag is spelled with the tag in front
pub record IsBehind {X : Type 0} (s : Spelling X) (others : Behind X) : Type 0 where
  pub takes : (tag : ℕ) (bytes : List ℕ) (x : X × List ℕ) → IsBytes bytes → others tag bytes ≡ Some x → Takes s (tag ∷ bytes) x

pub no_other_behind : {X : Type 0} (s : Spelling X) → IsBehind s no_other
no_other_behind s = record { takes = λ tag bytes x fits e. absurd cc }

pub behind_behind : {A X : Type 0} {a : Spelling A} {first : Front A} {others : Behind X} (s : Spelling X) (t : ℕ) (make : A → X) → ((y : A) → s.spelled (make y) ≡ t ∷ a.spelled y) → ((y : A) → a.IsSpellable y → s.IsSpellable (make y))
    → IsExact a first → IsBehind s others → IsBehind s (behind t first make others)
behind_behind {A} {X} {a} {first} {others} s t make spells fit exact rest = record {
  takes = λ tag bytes x fits e.
      elim (chosen (eqb tag t) (first bytes >>= λ y. Some (make y.0, y.1)) (others tag bytes) (Some x) e) [
        | inl p ↦ (let b = bind_some (first bytes) (λ y. Some (make y.0, y.1)) x p.1 in
            let u = exact.takes bytes b.0 fits b.1 in
            subst (Takes s (tag ∷ bytes)) (some_is (make b.0.0, b.0.1) x b.2) (record {
              spellable = fit b.0.0 u.spellable;
              parts = ap (λ (c : ℕ). c ∷ bytes) (eqb-true _ _ p.0) ∙ ap (λ (r : List ℕ). t ∷ r) u.parts ∙ ap (λ (r : List ℕ). r ++ b.0.1) (sym (spells b.0.0));
              rest_fits = u.rest_fits;
            }))
        | inr p ↦ rest.takes tag bytes x fits p.1
      ];
}

pub below_behind : {X : Type 0} {low high : Behind X} (s : Spelling X) (t : ℕ) → IsBehind s low → IsBehind s high → IsBehind s (below t low high)
below_behind {X} {low} {high} s t under over = record {
  takes = λ tag bytes x fits e.
      elim (chosen (ltb tag t) (low tag bytes) (high tag bytes) (Some x) e) [
        | inl p ↦ under.takes tag bytes x fits p.1
        | inr p ↦ over.takes tag bytes x fits p.1
      ];
}

-- what is read behind a tag is read with the tag in front
pub tagged_takes : {X : Type 0} {s : Spelling X} {others : Behind X} → IsBehind s others → (bytes : List ℕ) (x : X × List ℕ) → IsBytes bytes → tagged_first others bytes ≡ Some x → Takes s bytes x
tagged_takes reads [] x fits e = absurd cc
tagged_takes reads (tag ∷ bytes) x fits e = reads.takes tag bytes x (IsBytes-rest tag bytes fits) e
