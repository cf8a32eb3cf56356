-- The reading of a moment's text gives the moment that the text tells.
use Rattle.std.proofs.Common.{◌≡◌, ℕ, ◌+◌, ◌-◌, ◌*◌, ◌/◌, ◌%◌, ◌<◌, ◌≤◌, Bool, true, false, cond, ◌&&◌, List, ◌++◌, drop, Option, Some, None, refl, sym, ap, ◌∙◌, arith}
use Rattle.std.specs.Prelude.{MatchOption, nat_le, nat_lt}
use Rattle.std.specs.Str.{bytes_eq}
use Rattle.std.proofs.lemmas.Bool.Decides.{nat_tests}
use Rattle.std.proofs.lemmas.Slice.Eq.{bytes_eq-Decides}
use Rattle.au_base.specs.declared.calendar.Civil.{Civil}
use Rattle.au_base.specs.Calendar.{IsCivil, moment_of, month_days}
use Rattle.au_base.specs.Moments.{TellsMoment, TellsNoMoment, fraction_of, front}
use Rattle.sql_parse.specs.descent.MomentReading.{moment_read, moment_at, civil_in, civil_with, is_civil}

some_is : {A : Type 0} (x y : A) → Some x ≡ Some y → x ≡ y
some_is x y e = cc

both : (a b : Bool) → (a && b) ≡ true → (a ≡ true) × (b ≡ true)
both true b h = (refl, h)
both false b h = absurd cc

at_most : (a b : ℕ) → nat_le a b ≡ true → a ≤ b
at_most a b h = grind (arith, nat_tests)

at_most_too : (a b : ℕ) → a ≤ b → nat_le a b ≡ true
at_most_too a b h = grind (arith, nat_tests)

below : (a b : ℕ) → nat_lt a b ≡ true → a < b
below a b h = grind (arith, nat_tests)

below_too : (a b : ℕ) → a < b → nat_lt a b ≡ true
below_too a b h = grind (arith, nat_tests)

civil_is : (c : Civil) → is_civil c ≡ true → IsCivil c
civil_is c h =
    let a = both _ _ h in
    let b = both _ _ a.1 in
    let d = both _ _ b.1 in
    let e = both _ _ d.1 in
    let f = both _ _ e.1 in
    let g = both _ _ f.1 in
    let i = both _ _ g.1 in
    let j = both _ _ i.1 in
    let k = both _ _ j.1 in
    record {
      date = record {
        year_from = at_most 1970 c.year a.0;
        year_to = at_most c.year 9999 b.0;
        month_from = at_most 1 c.month d.0;
        month_to = at_most c.month 12 e.0;
        day_from = at_most 1 c.day f.0;
        day_to = at_most c.day (month_days c.year c.month) g.0;
      };
      hour = below c.hour 24 i.0;
      minute = below c.minute 60 j.0;
      second = below c.second 60 k.0;
      micro = below c.micro 1_000_000 k.1;
    }

civil_test : (c : Civil) → IsCivil c → is_civil c ≡ true
civil_test c h =
    rw (
      at_most_too 1970 c.year h.date.year_from,
      at_most_too c.year 9999 h.date.year_to,
      at_most_too 1 c.month h.date.month_from,
      at_most_too c.month 12 h.date.month_to,
      at_most_too 1 c.day h.date.day_from,
      at_most_too c.day (month_days c.year c.month) h.date.day_to,
      below_too c.hour 24 h.hour,
      below_too c.minute 60 h.minute,
      below_too c.second 60 h.second,
      below_too c.micro 1_000_000 h.micro,
    ) refl

civil_micro : (t : List ℕ) (f : Option ℕ) (c : Civil) → civil_with t f ≡ Some c → f ≡ Some c.micro
civil_micro t None c h = absurd cc
civil_micro t (Some micro) c h = ap (λ (n : ℕ). let x : Option ℕ = Some n in x) (ap (λ (d : Civil). d.micro) (some_is _ c h))

pub moment_sound : (t : List ℕ) (m : ℕ) → moment_read t ≡ Some m → TellsMoment t m
unfolding moment_read
moment_sound t m h = go (civil_in t) refl h
  where
    go : (o : Option Civil) → civil_in t ≡ o → moment_at t o ≡ Some m → TellsMoment t m
    go None at h = absurd cc
    go (Some c) at h = end (is_civil c && bytes_eq (front c ++ drop 19 t) t) refl h
      where
        end : (b : Bool) → (is_civil c && bytes_eq (front c ++ drop 19 t) t) ≡ b → cond b (Some (moment_of c)) None ≡ Some m → TellsMoment t m
        end false e h = absurd cc
        end true e h =
            let u = both (is_civil c) (bytes_eq (front c ++ drop 19 t) t) e in
            (c, civil_is c u.0, (drop 19 t, sym ((bytes_eq-Decides (front c ++ drop 19 t) t).0 u.1), civil_micro t (fraction_of (drop 19 t)) c at), sym (some_is (moment_of c) m h))

digits_back : (n : ℕ) → ((48 + n / 10) - 48) * 10 + ((48 + n % 10) - 48) ≡ n
digits_back n = omega arith

year_back : (n : ℕ) → (((48 + n / 100 / 10) - 48) * 10 + ((48 + n / 100 % 10) - 48)) * 100 + (((48 + n % 100 / 10) - 48) * 10 + ((48 + n % 100 % 10) - 48)) ≡ n
year_back n = omega (arith, digits_back (n / 100), digits_back (n % 100))

civil_back : (c : Civil) (end : List ℕ) → fraction_of end ≡ Some c.micro → civil_in (front c ++ end) ≡ Some c
civil_back c end h =
    rw (h, year_back c.year, digits_back c.month, digits_back c.day, digits_back c.hour, digits_back c.minute, digits_back c.second) refl

told : (c : Civil) (end : List ℕ) → IsCivil c → fraction_of end ≡ Some c.micro → moment_read (front c ++ end) ≡ Some (moment_of c)
unfolding moment_read
told c end is h =
    let whole : bytes_eq (front c ++ end) (front c ++ end) ≡ true = (bytes_eq-Decides (front c ++ end) (front c ++ end)).1 refl in
    ap (moment_at (front c ++ end)) (civil_back c end h) ∙ rw (civil_test c is, whole) refl

pub moment_complete : (t : List ℕ) (m : ℕ) → TellsMoment t m → moment_read t ≡ Some m
moment_complete t m d =
    let one : moment_read t ≡ Some (moment_of d.0) = ap moment_read d.2.1 ∙ told d.0 d.2.0 d.1 d.2.2 in
    one ∙ ap (λ (n : ℕ). let x : Option ℕ = Some n in x) (sym d.3)

pub no_moment : (t : List ℕ) → TellsNoMoment t → moment_read t ≡ None
no_moment t none = go (moment_read t) refl
  where
    go : (o : Option ℕ) → moment_read t ≡ o → o ≡ None
    go None e = refl
    go (Some m) e = let d = moment_sound t m e in absurd (none d.0 d.1 d.2)

-- what is found of a text is what its reading gives
pub moment_found : (t : List ℕ) (found : Option ℕ) → MatchOption found (TellsNoMoment t) (TellsMoment t) → found ≡ moment_read t
moment_found t None h = sym (no_moment t h)
moment_found t (Some m) h = sym (moment_complete t m h)
