-- What bytes need is decided by the bytes of the request alone.
use Rattle.std.proofs.Common.{◌≡◌, ◌<◌, ◌≢◌, ◌⊎◌, ◌∙◌, inl, inr, ◌+◌, ◌-◌, ◌≤◌, ℕ, Bool, true, false, nat_lt, List, [], ◌∷◌, ◌++◌, append_assoc, length, length-append, take, drop, Option, Some, None, option_and_then, ⊎_elim, refl, ap, sym, subst, arith, take-append-drop}
use Rattle.std.specs.List.{find}
use Rattle.std.specs.Prelude.{is_none, not, option_map}
use Rattle.std.proofs.lemmas.Bool.Decides.{nat_tests}
use Rattle.std.proofs.lemmas.List.{take-append-le, drop-append-le, length-take-le, take_all}
use Rattle.httparse.specs.Grammar.{RequestHead}
use Rattle.httparse.proofs.GrammarLemmas.{request_unique}
use Rattle.au_base.specs.declared.ask.Ask.{Ask}
use Rattle.au_http.specs.declared.head_end.Place.TheVariants.{Start}
use Rattle.au_http.specs.declared.requests.Need.{Need}
use Rattle.au_http.specs.declared.requests.Need.TheVariants.{More, Got, Bad}
use Rattle.au_http.specs.Bodies.{ask_of}
use Rattle.au_http.specs.HeadEnds.{HasHead, HasNoHead, head_limit}
use Rattle.au_http.specs.HeadWalk.{end_from}
use Rattle.au_http.specs.Heads.{Head, head_of, IsHead}
use Rattle.au_http.specs.Refusals.{body_length, body_limit, closes, has_host, is_post, refusal_of, stated_length}
use Rattle.au_http.specs.Requests.{FitsBytes, Needs, NeedsBehind, head_need, need_after, taken_need, unended_need, whole_need}
use Rattle.au_http.specs.Responses.{IsRefusal}
use Rattle.au_http.specs.Routes.{route_of}
use Rattle.au_http.specs.Pipelines.{AreRequests, Request}
use Rattle.au_http.proofs.HeadLengths.{take_front, drop_front, take_past}
use Rattle.au_http.proofs.HeadWalks.{not_empty, whole_at}

-- ---- the head and what follows it

same_size : (bytes a r b s : List ℕ) → HasHead bytes a r → HasHead bytes b s → length a ≡ length b
same_size bytes a r b s x y =
    let at = ap (end_from Start) (sym x.bytes_are) ∙ ap (end_from Start) y.bytes_are in
    let same : Some (length a) ≡ Some (length b) = sym (whole_at a x.whole r) ∙ at ∙ whole_at b y.whole s in
    cc

same_head : (bytes a r b s : List ℕ) → HasHead bytes a r → HasHead bytes b s → a ≡ b
same_head bytes a r b s x y =
    sym (take_front a r) ∙ ap (take (length a)) (sym x.bytes_are ∙ y.bytes_are)
    ∙ ap (λ n. take n (b ++ s)) (same_size bytes a r b s x y) ∙ take_front b s

same_rest : (bytes a r b s : List ℕ) → HasHead bytes a r → HasHead bytes b s → r ≡ s
same_rest bytes a r b s x y =
    sym (drop_front a r) ∙ ap (drop (length a)) (sym x.bytes_are ∙ y.bytes_are)
    ∙ ap (λ n. drop n (b ++ s)) (same_size bytes a r b s x y) ∙ drop_front b s

more_rest : (bytes more head rest : List ℕ) → HasHead bytes head rest → HasHead (bytes ++ more) head (rest ++ more)
more_rest bytes more head rest has =
    record {
      bytes_are = ap (λ x. x ++ more) has.bytes_are ∙ append_assoc head rest more;
      whole = has.whole;
      capped = has.capped;
    }

no_head_more : (bytes more : List ℕ) → head_limit ≤ length bytes → HasNoHead bytes → HasNoHead (bytes ++ more)
no_head_more bytes more long none head rest has =
    let capped = has.capped in
    let inside : length head ≤ length bytes = omega arith in
    let front : take (length head) bytes ≡ head =
    sym (take-append-le (length head) bytes more inside) ∙ ap (take (length head)) has.bytes_are ∙ take_front head rest in
    none head (drop (length head) bytes) (record {
      bytes_are = sym (take-append-drop (length head) bytes) ∙ ap (λ x. x ++ drop (length head) bytes) front;
      whole = has.whole;
      capped = capped;
    })

-- ---- one need

same_behind : (head rest : List ℕ) (a b : Need) → NeedsBehind head rest a → NeedsBehind head rest b → a ≡ b
same_behind head rest a b (inl (none, x)) (inl (none', y)) = x ∙ sym y
same_behind head rest a b (inl (none, x)) (inr (h, is, y)) = absurd (none h is)
same_behind head rest a b (inr (h, is, x)) (inl (none, y)) = absurd (none h is)
same_behind head rest a b (inr (h, is, x)) (inr (k, is', y)) =
    let one = (request_unique head h k [] [] is.reads is'.reads).0 in
    x ∙ ap (λ g. head_need (head_of g) (length head) rest) one ∙ sym y

pub one_need : (bytes : List ℕ) (a b : Need) → Needs bytes a → Needs bytes b → a ≡ b
one_need bytes a b (inl (none, x)) (inl (none', y)) = x ∙ sym y
one_need bytes a b (inl (none, x)) (inr (head, rest, has, y)) = absurd (none head rest has)
one_need bytes a b (inr (head, rest, has, x)) (inl (none, y)) = absurd (none head rest has)
one_need bytes a b (inr (head, rest, has, x)) (inr (head', rest', has', y)) =
    let same = same_head bytes head rest head' rest' has has' in
    let tail = same_rest bytes head rest head' rest' has has' in
    let moved = subst (λ (h : List ℕ). NeedsBehind h rest' b) (sym same) y in
    let again = subst (λ (r : List ℕ). NeedsBehind head r b) (sym tail) moved in
    same_behind head rest a b x again

-- ---- bytes behind

-- a head is refused, or its body is whole, where it doesn't need more
fits : (h : Head) (size : ℕ) (rest : List ℕ) (o : Option ℕ) (short : Bool) → nat_lt (length rest) (body_length h) ≡ short
    → need_after o h size rest ≢ More → ((status : ℕ) × (o ≡ Some status)) ⊎ (body_length h ≤ length rest)
fits h size rest (Some status) short e n = inl (status, refl)
fits h size rest None true e n = absurd (n (rw e refl))
fits h size rest None false e n = inr (grind (arith, nat_tests))

-- a whole body is the same whatever follows it
taken_same : (h : Head) (size : ℕ) (rest other : List ℕ) → body_length h ≤ length rest → body_length h ≤ length other
    → take (body_length h) other ≡ take (body_length h) rest → taken_need h size rest ≡ taken_need h size other
taken_same h size rest other a b e =
    let x : nat_lt (length rest) (body_length h) ≡ false = grind (arith, nat_tests) in
    let y : nat_lt (length other) (body_length h) ≡ false = grind (arith, nat_tests) in
    rw (x, y, e) refl

same_after : (h : Head) (size : ℕ) (rest other : List ℕ) (o : Option ℕ) → body_length h ≤ length rest → body_length h ≤ length other
    → take (body_length h) other ≡ take (body_length h) rest → need_after o h size rest ≡ need_after o h size other
same_after h size rest other (Some status) a b e = refl
same_after h size rest other None a b e = taken_same h size rest other a b e

refused : (h : Head) (size : ℕ) (rest other : List ℕ) (o : Option ℕ) (status : ℕ) → o ≡ Some status
    → need_after o h size rest ≡ need_after o h size other
refused h size rest other o status e = rw e refl

more_after : (h : Head) (size : ℕ) (rest more : List ℕ) → head_need h size rest ≢ More
    → head_need h size rest ≡ head_need h size (rest ++ more)
more_after h size rest more n =
    ⊎_elim
    (λ (r : (status : ℕ) × (refusal_of h ≡ Some status)). refused h size rest (rest ++ more) (refusal_of h) r.0 r.1)
    (λ (fit : body_length h ≤ length rest).
    let long : body_length h ≤ length (rest ++ more) = omega (arith, length-append rest more) in
    same_after h size rest (rest ++ more) (refusal_of h) fit long (take-append-le (body_length h) rest more fit))
    (fits h size rest (refusal_of h) (nat_lt (length rest) (body_length h)) refl n)

stay_behind : (head rest more : List ℕ) (need : Need) → NeedsBehind head rest need → need ≢ More → NeedsBehind head (rest ++ more) need
stay_behind head rest more need (inl p) n = inl p
stay_behind head rest more need (inr (h, is, e)) n =
    inr (h, is, e ∙ more_after (head_of h) (length head) rest more (λ m. n (e ∙ m)))

unended_long : (n : ℕ) (short : Bool) → nat_lt n head_limit ≡ short → unended_need n ≢ More → head_limit ≤ n
unended_long n true e decided = absurd (decided (rw e refl))
unended_long n false e decided = grind (arith, nat_tests)

unended_same : (n m : ℕ) → head_limit ≤ n → n ≤ m → unended_need n ≡ unended_need m
unended_same n m a b =
    let x : nat_lt n head_limit ≡ false = grind (arith, nat_tests) in
    let y : nat_lt m head_limit ≡ false = grind (arith, nat_tests) in
    rw (x, y) refl

pub needs_stay : (bytes more : List ℕ) (need : Need) → Needs bytes need → need ≢ More → Needs (bytes ++ more) need
needs_stay bytes more need (inl (none, e)) n =
    let long = unended_long (length bytes) (nat_lt (length bytes) head_limit) refl (λ m. n (e ∙ m)) in
    let wider : length bytes ≤ length (bytes ++ more) = omega (arith, length-append bytes more) in
    inl (no_head_more bytes more long none, e ∙ unended_same (length bytes) (length (bytes ++ more)) long wider)
needs_stay bytes more need (inr (head, rest, has, behind)) n =
    inr (head, rest ++ more, more_rest bytes more head rest has, stay_behind head rest more need behind n)

-- ---- a request alone

-- a request that is taken has its whole body, and ends with it
record Whole (h : Head) (size used : ℕ) (rest : List ℕ) : Type 0 where
  fit : body_length h ≤ length rest
  ends : used ≡ size + body_length h

whole_got : (a : Option Ask) (end used : ℕ) (closed close : Bool) (asked : Ask) → Got used asked close ≡ whole_need a end closed → used ≡ end
whole_got None end used closed close asked e = absurd (cc)
whole_got (Some a) end used closed close asked e = cc

taken_got : (h : Head) (size used : ℕ) (rest : List ℕ) (asked : Ask) (close short : Bool) → nat_lt (length rest) (body_length h) ≡ short
    → Got used asked close ≡ taken_need h size rest → Whole h size used rest
taken_got h size used rest asked close true e g =
    let clash : Got used asked close ≡ More = rw e at g in absurd (cc)
taken_got h size used rest asked close false e g =
    let body = option_and_then (λ route. ask_of route (take (body_length h) rest)) (route_of h.target) in
    let whole : Got used asked close ≡ whole_need body (size + body_length h) (closes h) = rw e at g in
    record { fit = grind (arith, nat_tests); ends = whole_got body (size + body_length h) used (closes h) close asked whole }

after_got : (h : Head) (size used : ℕ) (rest : List ℕ) (asked : Ask) (close : Bool) (o : Option ℕ)
    → Got used asked close ≡ need_after o h size rest → Whole h size used rest
after_got h size used rest asked close (Some status) g = absurd (cc)
after_got h size used rest asked close None g = taken_got h size used rest asked close (nat_lt (length rest) (body_length h)) refl g

take_own : (n : ℕ) (rest other : List ℕ) → n ≤ length rest → take n (take n rest ++ other) ≡ take n rest
take_own n rest other h =
    let long = length-take-le n rest h in
    let few : n ≤ length (take n rest) = omega arith in
    let all : length (take n rest) ≤ n = omega arith in
    take-append-le n (take n rest) other few ∙ take_all n (take n rest) all

alone : (bytes head rest : List ℕ) (h : RequestHead) (used : ℕ) (asked : Ask) (close : Bool) → HasHead bytes head rest → IsHead head h
    → Got used asked close ≡ head_need (head_of h) (length head) rest
    → (used ≤ length bytes) × ((other : List ℕ) → Needs (take used bytes ++ other) (Got used asked close))
alone bytes head rest h used asked close has is g =
    let k = head_of h in
    let n = body_length k in
    let w = after_got k (length head) used rest asked close (refusal_of k) g in
    let fit = w.fit in
    let ends = w.ends in
    let long : length bytes ≡ length head + length rest = ap length has.bytes_are ∙ length-append head rest in
    let inside : length head ≤ used = omega arith in
    let body : used - length head ≡ n = omega arith in
    let cut : take used bytes ≡ head ++ take n rest =
    ap (take used) has.bytes_are ∙ take_past head rest used inside ∙ ap (λ j. head ++ take j rest) body in (
      omega arith,
      λ other.
          let tail = take n rest ++ other in
          let there : HasHead (take used bytes ++ other) head tail = record {
            bytes_are = ap (λ x. x ++ other) cut ∙ append_assoc head (take n rest) other;
            whole = has.whole;
            capped = has.capped;
          } in
          let lengths : length tail ≡ length (take n rest) + length other = length-append (take n rest) other in
          let room : n ≤ length tail = omega (arith, length-take-le n rest fit) in
          inr (head, tail, there, inr (h, is, g ∙ same_after k (length head) rest tail (refusal_of k) fit room (take_own n rest other fit))),
    )

unended_got : (n used : ℕ) (asked : Ask) (close short : Bool) → nat_lt n head_limit ≡ short → Got used asked close ≡ unended_need n → ⊥
unended_got n used asked close true e g = let clash : Got used asked close ≡ More = rw e at g in cc
unended_got n used asked close false e g = let clash : Got used asked close ≡ Bad 413 = rw e at g in cc

pub stands_alone : (bytes : List ℕ) (used : ℕ) (asked : Ask) (close : Bool) → Needs bytes (Got used asked close)
    → (used ≤ length bytes) × ((other : List ℕ) → Needs (take used bytes ++ other) (Got used asked close))
stands_alone bytes used asked close (inl (none, e)) = absurd (unended_got (length bytes) used asked close (nat_lt (length bytes) head_limit) refl e)
stands_alone bytes used asked close (inr (head, rest, has, inl (none, e))) = absurd (cc)
stands_alone bytes used asked close (inr (head, rest, has, inr (h, is, g))) = alone bytes head rest h used asked close has is g

-- ---- what fits

five : (a b c d e : Bool) (status : ℕ)
    → option_map (λ (r : Bool × ℕ). r.1) (find (λ r. r.0) ((a, 400) ∷ (b, 404) ∷ (c, 405) ∷ (d, 400) ∷ (e, 413) ∷ [])) ≡ Some status → IsRefusal status
five true b c d e status is = inl (cc)
five false true c d e status is = inr (inl (cc))
five false false true d e status is = inr (inr (inl (cc)))
five false false false true e status is = inl (cc)
five false false false false true status is = inr (inr (inr (cc)))
five false false false false false status is = absurd (cc)

refusal_status : (h : Head) (status : ℕ) → refusal_of h ≡ Some status → IsRefusal status
refusal_status h status is =
    five (not (has_host h)) (is_none (route_of h.target)) (not (is_post h)) (is_none (stated_length h)) (nat_lt body_limit (body_length h)) status is

whole_bad : (a : Option Ask) (end status : ℕ) (close : Bool) → Bad status ≡ whole_need a end close → IsRefusal status
whole_bad None end status close e = inl (cc)
whole_bad (Some a) end status close e = absurd (cc)

taken_bad : (h : Head) (size status : ℕ) (rest : List ℕ) (short : Bool) → nat_lt (length rest) (body_length h) ≡ short
    → Bad status ≡ taken_need h size rest → IsRefusal status
taken_bad h size status rest true e g = let clash : Bad status ≡ More = rw e at g in absurd (cc)
taken_bad h size status rest false e g =
    let body = option_and_then (λ route. ask_of route (take (body_length h) rest)) (route_of h.target) in
    let whole : Bad status ≡ whole_need body (size + body_length h) (closes h) = rw e at g in
    whole_bad body (size + body_length h) status (closes h) whole

after_bad : (h : Head) (size status : ℕ) (rest : List ℕ) (o : Option ℕ) → refusal_of h ≡ o → Bad status ≡ need_after o h size rest
    → IsRefusal status
after_bad h size status rest (Some other) is g = let same : other ≡ status = cc in refusal_status h status (is ∙ ap Some same)
after_bad h size status rest None is g = taken_bad h size status rest (nat_lt (length rest) (body_length h)) refl g

unended_bad : (n status : ℕ) (short : Bool) → nat_lt n head_limit ≡ short → Bad status ≡ unended_need n → status ≡ 413
unended_bad n status true e g = let clash : Bad status ≡ More = rw e at g in absurd (cc)
unended_bad n status false e g = let same : Bad status ≡ Bad 413 = rw e at g in cc

used_some : (bytes : List ℕ) (used : ℕ) (asked : Ask) (close : Bool) → Needs bytes (Got used asked close) → 0 < used
used_some bytes used asked close (inl (none, e)) = absurd (unended_got (length bytes) used asked close (nat_lt (length bytes) head_limit) refl e)
used_some bytes used asked close (inr (head, rest, has, inl (none, e))) = absurd (cc)
used_some bytes used asked close (inr (head, rest, has, inr (h, is, g))) =
    let w = after_got (head_of h) (length head) used rest asked close (refusal_of (head_of h)) g in
    let some = not_empty head has.whole in
    let ends = w.ends in
    omega arith

pub needs_fit : (bytes : List ℕ) (need : Need) → Needs bytes need → FitsBytes (length bytes) need
needs_fit bytes More n = tt
needs_fit bytes (Got used asked close) n = (used_some bytes used asked close n, (stands_alone bytes used asked close n).0)
needs_fit bytes (Bad status) (inl (none, e)) =
    inr (inr (inr (unended_bad (length bytes) status (nat_lt (length bytes) head_limit) refl e)))
needs_fit bytes (Bad status) (inr (head, rest, has, inl (none, e))) = inl (cc)
needs_fit bytes (Bad status) (inr (head, rest, has, inr (h, is, g))) =
    after_bad (head_of h) (length head) status rest (refusal_of (head_of h)) refl g

-- ---- requests one by one

pub requests_stay : (requests : List Request) (bytes more rest : List ℕ) → AreRequests bytes requests rest
    → AreRequests (bytes ++ more) requests (rest ++ more)
requests_stay [] bytes more rest e = ap (λ x. x ++ more) e
requests_stay (r ∷ requests) bytes more rest (used, need, tail) =
    let inside = (stands_alone bytes used r.0 r.1 need).0 in
    let later = requests_stay requests (drop used bytes) more rest tail in
    let moved = subst (λ (x : List ℕ). AreRequests x requests (rest ++ more)) (sym (drop-append-le used bytes more inside)) later in
    (used, needs_stay bytes more (Got used r.0 r.1) need (λ e. cc), moved)
