-- The walk over a head's bytes ends where the head does.
use Rattle.std.proofs.Common.{◌≡◌, ◌≢◌, ◌∙◌, inl, inr, ◌+◌, ◌<◌, ◌==◌, ℕ, List, [], ◌∷◌, ◌++◌, append_assoc, length, length-append, true, false, Bool, Option, Some, None, option_map, refl, ap, sym, subst, arith, ⊎_elim}
use Rattle.std.proofs.lemmas.Bool.Decides.{nat_tests}
use Rattle.au_http.specs.declared.head_end.Place.{Place}
use Rattle.au_http.specs.declared.head_end.Place.TheVariants.{Start, StartReturn, Line, Fresh, FreshReturn}
use Rattle.au_http.specs.HeadEnds.{HasNoFeed, IsEmptyLine, IsFullLine, IsHeadEnd, last, next, IsWholeHead, blank, first}
use Rattle.au_http.specs.HeadWalk.{after, ends_or, end_from}

-- ---- bytes and tests

unlike : (b k : ℕ) → b ≢ k → (b == k) ≡ false
unlike b k h = grind (arith, nat_tests)

data Kind (b : ℕ) : Type 0 where
  feed : b ≡ 10 → Kind b
  return : b ≡ 13 → Kind b
  other : b ≢ 10 → b ≢ 13 → Kind b

kind_at : (b : ℕ) (f r : Bool) → (b == 10) ≡ f → (b == 13) ≡ r → Kind b
kind_at b true r e g = feed (grind (arith, nat_tests))
kind_at b false true e g = return (grind (arith, nat_tests))
kind_at b false false e g = other (grind (arith, nat_tests)) (grind (arith, nat_tests))

kind_of : (b : ℕ) → Kind b
kind_of b = kind_at b (b == 10) (b == 13) refl refl

full_other : (b : ℕ) (line : List ℕ) → b ≢ 10 → b ≢ 13 → HasNoFeed line → IsFullLine (b ∷ line)
full_other b line f r none = record {
  one = (f, none);
  full = λ e. ⊎_elim (λ (h : b ∷ line ≡ []). absurd (cc)) (λ (h : b ∷ line ≡ 13 ∷ []). absurd (r (cc))) e;
}

full_return : (b : ℕ) (line : List ℕ) → b ≢ 10 → HasNoFeed line → IsFullLine (13 ∷ b ∷ line)
full_return b line f none = record {
  one = (omega arith, (f, none));
  full = λ e. ⊎_elim (λ (h : 13 ∷ b ∷ line ≡ []). absurd (cc)) (λ (h : 13 ∷ b ∷ line ≡ 13 ∷ []). absurd (cc)) e;
}

-- ---- what the walk finds ends a head

-- the rest of a line that isn't empty, and then the end of a head
pub record InLine (bytes : List ℕ) : Type 0 where
  pub line : List ℕ
  pub rest : List ℕ
  pub one : HasNoFeed line
  pub ends : IsHeadEnd rest
  pub are : bytes ≡ line ++ 10 ∷ rest

-- what follows from a place on, where the head ends with it
abbrev pub Follows : Place → List ℕ → Type 0
Follows Start x = IsWholeHead x
Follows StartReturn x = IsWholeHead (13 ∷ x)
Follows Line x = InLine x
Follows Fresh x = IsHeadEnd x
Follows FreshReturn x = IsHeadEnd (13 ∷ x)

abbrev Leads : Place → ℕ → Option Place → Type 0
Leads p b None = Follows p (b ∷ [])
Leads p b (Some q) = (x : List ℕ) → Follows q x → Follows p (b ∷ x)

leads_feed : (p : Place) → Leads p 10 (after p 10)
leads_feed Start = λ x w. blank (10 ∷ x) [] x (inl refl) w refl
leads_feed StartReturn = λ x w. blank (13 ∷ 10 ∷ x) (13 ∷ []) x (inr refl) w refl
leads_feed Line = λ x w. record { line = []; rest = x; one = tt; ends = w; are = refl }
leads_feed Fresh = last (10 ∷ []) [] (inl refl) refl
leads_feed FreshReturn = last (13 ∷ 10 ∷ []) (13 ∷ []) (inr refl) refl

in_line : (b : ℕ) (x : List ℕ) → b ≢ 10 → InLine x → InLine (b ∷ x)
in_line b x f w = record { line = b ∷ w.line; rest = w.rest; one = (f, w.one); ends = w.ends; are = ap (λ y. b ∷ y) w.are }

begins_other : (b : ℕ) (x : List ℕ) → b ≢ 10 → b ≢ 13 → InLine x → IsWholeHead (b ∷ x)
begins_other b x f r w = first (b ∷ x) (b ∷ w.line) w.rest (full_other b w.line f r w.one) w.ends (ap (λ y. b ∷ y) w.are)

begins_return : (b : ℕ) (x : List ℕ) → b ≢ 10 → InLine x → IsWholeHead (13 ∷ b ∷ x)
begins_return b x f w = first (13 ∷ b ∷ x) (13 ∷ b ∷ w.line) w.rest (full_return b w.line f w.one) w.ends (ap (λ y. 13 ∷ b ∷ y) w.are)

goes_other : (b : ℕ) (x : List ℕ) → b ≢ 10 → b ≢ 13 → InLine x → IsHeadEnd (b ∷ x)
goes_other b x f r w = next (b ∷ x) (b ∷ w.line) w.rest (full_other b w.line f r w.one) w.ends (ap (λ y. b ∷ y) w.are)

goes_return : (b : ℕ) (x : List ℕ) → b ≢ 10 → InLine x → IsHeadEnd (13 ∷ b ∷ x)
goes_return b x f w = next (13 ∷ b ∷ x) (13 ∷ b ∷ w.line) w.rest (full_return b w.line f w.one) w.ends (ap (λ y. 13 ∷ b ∷ y) w.are)

leads_return : (p : Place) → Leads p 13 (after p 13)
leads_return Start = λ x w. w
leads_return StartReturn = λ x w. begins_return 13 x (omega arith) w
leads_return Line = λ x w. in_line 13 x (omega arith) w
leads_return Fresh = λ x w. w
leads_return FreshReturn = λ x w. goes_return 13 x (omega arith) w

after_other : (p : Place) (b : ℕ) → b ≢ 10 → b ≢ 13 → after p b ≡ Some Line
after_other Start b f r = rw (unlike b 10 f, unlike b 13 r) refl
after_other StartReturn b f r = rw (unlike b 10 f) refl
after_other Line b f r = rw (unlike b 10 f) refl
after_other Fresh b f r = rw (unlike b 10 f, unlike b 13 r) refl
after_other FreshReturn b f r = rw (unlike b 10 f) refl

leads_other : (p : Place) (b : ℕ) → b ≢ 10 → b ≢ 13 → Leads p b (Some Line)
leads_other Start b f r = λ x w. begins_other b x f r w
leads_other StartReturn b f r = λ x w. begins_return b x f w
leads_other Line b f r = λ x w. in_line b x f w
leads_other Fresh b f r = λ x w. goes_other b x f r w
leads_other FreshReturn b f r = λ x w. goes_return b x f w

leads_kind : (p : Place) (b : ℕ) → Kind b → Leads p b (after p b)
leads_kind p b (feed e) = subst (λ (k : ℕ). Leads p k (after p k)) (sym e) (leads_feed p)
leads_kind p b (return e) = subst (λ (k : ℕ). Leads p k (after p k)) (sym e) (leads_return p)
leads_kind p b (other f r) = subst (Leads p b) (sym (after_other p b f r)) (leads_other p b f r)

-- the bytes begin with n bytes that follow from the place
pub record Ends (p : Place) (bytes : List ℕ) (n : ℕ) : Type 0 where
  pub head : List ℕ
  pub rest : List ℕ
  pub are : bytes ≡ head ++ rest
  pub long : length head ≡ n
  pub follows : Follows p head

one_more : (o : Option ℕ) (n : ℕ) → option_map (λ k. k + 1) o ≡ Some n → (m : ℕ) × (o ≡ Some m) × (m + 1 ≡ n)
one_more None n e = absurd (cc)
one_more (Some m) n e = (m, refl, cc)

ends_step : (p : Place) (b : ℕ) (x : List ℕ) (n : ℕ) (o : Option Place) → Leads p b o
    → ((q : Place) (m : ℕ) → end_from q x ≡ Some m → Ends q x m)
    → ends_or o (λ q. end_from q x) ≡ Some n → Ends p (b ∷ x) n
ends_step p b x n None leads more e = record { head = b ∷ []; rest = x; are = refl; long = cc; follows = leads }
ends_step p b x n (Some q) leads more e =
    let (m, found, count) = one_more (end_from q x) n e in
    let tail = more q m found in
    record {
      head = b ∷ tail.head;
      rest = tail.rest;
      are = ap (λ y. b ∷ y) tail.are;
      long = omega (arith, tail.long);
      follows = leads tail.head tail.follows;
    }

pub ends_found : (x : List ℕ) (p : Place) (n : ℕ) → end_from p x ≡ Some n → Ends p x n
ends_found [] p n e = absurd (cc)
ends_found (b ∷ x) p n e = ends_step p b x n (after p b) (leads_kind p b (kind_of b)) (λ q m h. ends_found x q m h) e

-- ---- the walk finds where a head ends

walk_line : (line z : List ℕ) (m n : ℕ) → HasNoFeed line → end_from Fresh z ≡ Some m → n ≡ length line + 1 + m
    → end_from Line (line ++ 10 ∷ z) ≡ Some n
walk_line [] z m n none e q = rw e (ap Some (omega arith))
walk_line (b ∷ line) z m n none e q =
    rw (unlike b 10 none.0) (rw (walk_line line z m (length line + 1 + m) none.1 e refl) (ap Some (omega arith)))

-- from a place at the start of a line on, behind `q` where the line begins with a CR
module _ (p q : Place) (turns : after p 13 ≡ Some q) (goes : (b : ℕ) → b ≢ 10 → after q b ≡ Some Line) where
  walk_return : (line z : List ℕ) (m n : ℕ) → IsFullLine (13 ∷ line) → end_from Fresh z ≡ Some m
      → n ≡ length line + 2 + m → end_from p (13 ∷ (line ++ 10 ∷ z)) ≡ Some n
  walk_return [] z m n full e i = absurd (full.full (inr refl))
  walk_return (b ∷ line) z m n full e i =
      let f = (full.one.1).0 in
      rw (turns, goes b f, walk_line line z m (length line + 1 + m) (full.one.1).1 e refl) (ap Some (omega arith))

  walk_kind : (b : ℕ) (line z : List ℕ) (m n : ℕ) → Kind b → IsFullLine (b ∷ line) → end_from Fresh z ≡ Some m
      → n ≡ length line + 2 + m → end_from p (b ∷ (line ++ 10 ∷ z)) ≡ Some n
  walk_kind b line z m n (feed is) full e i = absurd (full.one.0 is)
  walk_kind b line z m n (return is) full e i =
      let whole = subst (λ (k : ℕ). IsFullLine (k ∷ line)) is full in
      subst (λ (k : ℕ). end_from p (k ∷ (line ++ 10 ∷ z)) ≡ Some n) (sym is) (walk_return line z m n whole e i)
  walk_kind b line z m n (other f r) full e i =
      rw (after_other p b f r, walk_line line z m (length line + 1 + m) full.one.1 e refl) (ap Some (omega arith))

  walk_full : (line z : List ℕ) (m n : ℕ) → IsFullLine line → end_from Fresh z ≡ Some m
      → n ≡ length line + 1 + m → end_from p (line ++ 10 ∷ z) ≡ Some n
  walk_full [] z m n full e i = absurd (full.full (inl refl))
  walk_full (b ∷ line) z m n full e i = walk_kind b line z m n (kind_of b) full e (omega arith)

fresh_goes : (b : ℕ) → b ≢ 10 → after FreshReturn b ≡ Some Line
fresh_goes b f = rw (unlike b 10 f) refl

start_goes : (b : ℕ) → b ≢ 10 → after StartReturn b ≡ Some Line
start_goes b f = rw (unlike b 10 f) refl

-- ahead of what follows a line
regroup : (line rest y bytes : List ℕ) → bytes ≡ line ++ 10 ∷ rest → bytes ++ y ≡ line ++ 10 ∷ (rest ++ y)
regroup line rest y bytes e = ap (λ x. x ++ y) e ∙ append_assoc line (10 ∷ rest) y

pub longer : (line rest bytes : List ℕ) → bytes ≡ line ++ 10 ∷ rest → length bytes ≡ length line + 1 + length rest
longer line rest bytes e = omega (arith, ap length e ∙ length-append line (10 ∷ rest))

last_at : (line y : List ℕ) → IsEmptyLine line → end_from Fresh (line ++ 10 ∷ y) ≡ Some (length line + 1)
last_at line y (inl e) = subst (λ (l : List ℕ). end_from Fresh (l ++ 10 ∷ y) ≡ Some (length l + 1)) (sym e) refl
last_at line y (inr e) = subst (λ (l : List ℕ). end_from Fresh (l ++ 10 ∷ y) ≡ Some (length l + 1)) (sym e) refl

blank_at : (line z : List ℕ) (m n : ℕ) → IsEmptyLine line → end_from Start z ≡ Some m → n ≡ length line + 1 + m
    → end_from Start (line ++ 10 ∷ z) ≡ Some n
blank_at line z m n (inl is) e i =
    subst (λ (l : List ℕ). n ≡ length l + 1 + m → end_from Start (l ++ 10 ∷ z) ≡ Some n) (sym is) (λ h. rw e (ap Some (omega arith))) i
blank_at line z m n (inr is) e i =
    subst (λ (l : List ℕ). n ≡ length l + 1 + m → end_from Start (l ++ 10 ∷ z) ≡ Some n) (sym is) (λ h. rw e (ap Some (omega arith))) i

end_at : (x : List ℕ) → IsHeadEnd x → (y : List ℕ) → end_from Fresh (x ++ y) ≡ Some (length x)
end_at x (last bytes line empty are) y =
    rw (regroup line [] y bytes are) (last_at line y empty ∙ ap Some (omega (arith, longer line [] bytes are)))
end_at x (next bytes line rest full ends are) y =
    rw (regroup line rest y bytes are)
    (walk_full Fresh FreshReturn refl fresh_goes line (rest ++ y) (length rest) (length bytes) full (end_at rest ends y) (longer line rest bytes are))

pub whole_at : (x : List ℕ) → IsWholeHead x → (y : List ℕ) → end_from Start (x ++ y) ≡ Some (length x)
whole_at x (blank bytes line rest empty more are) y =
    rw (regroup line rest y bytes are)
    (blank_at line (rest ++ y) (length rest) (length bytes) empty (whole_at rest more y) (longer line rest bytes are))
whole_at x (first bytes line rest full ends are) y =
    rw (regroup line rest y bytes are)
    (walk_full Start StartReturn refl start_goes line (rest ++ y) (length rest) (length bytes) full (end_at rest ends y) (longer line rest bytes are))

pub not_empty : (x : List ℕ) → IsWholeHead x → 0 < length x
not_empty x (blank bytes line rest empty more are) = omega (arith, longer line rest bytes are)
not_empty x (first bytes line rest full ends are) = omega (arith, longer line rest bytes are)
