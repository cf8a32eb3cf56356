-- What the steps of a format leave.
use Rattle.std.proofs.Common.{◌≡◌, ◌⊎◌, inl, inr, ⊎_elim, ℕ, zero, suc, ◌+◌, ◌≤◌, List, [], ◌∷◌, ◌++◌, length, take, drop, refl, sym, ◌∙◌, ap, subst, arith, append_assoc, length-take}
use Rattle.std.proofs.Math.Nat.{le_trans}
use Rattle.std.proofs.lemmas.Bool.{cases_eq}
use Rattle.std.proofs.lemmas.List.{append-nil, take_all, drop_all}
use Rattle.au_io.specs.declared.disk.Area.{Area}
use Rattle.au_io.specs.declared.disk.Area.TheVariants.{Head, A, B}
use Rattle.au_io.specs.Areas.{Areas, area_of, with_area, overwritten, On, Torn, Cut}
use Rattle.au_io.specs.Disk.{Meaning, Passes, Follows}
use Rattle.au_io.specs.Moments.{LeavesSince, CountsNow, both_calls}
use Rattle.au_journal.specs.Frames.{spelled, header, front, new_head, new_rest, IsLimit, IsOpen, Stands}
use Rattle.au_journal.specs.Images.{Selects, In, IsSafe}
use Rattle.au_journal.specs.Seats.{IsFramed}
use Rattle.au_journal.specs.Walk.{IsUnformatted}
use Rattle.au_journal.specs.Creation.{IsBlank, IsOnly, OthersAreBlank, IsGateShut, IsNew, IsOnTheWay, a_selected, gate_shut, laid_down}
use Rattle.au_journal.specs.Creation.IsOnTheWay.{cutting, selecting, shutting, writing, opening}
use Rattle.au_journal.proofs.Standing.{front-push, front-nil}

same_areas : (c d : Areas) → c.head ≡ d.head → c.a ≡ d.a → c.b ≡ d.b → c ≡ d
same_areas c d one two three =
    ap (λ (l : List ℕ). record { head = l; a = c.a; b = c.b }) one ∙ ap (λ (l : List ℕ). record { head = d.head; a = l; b = c.b }) two
    ∙ ap (λ (l : List ℕ). record { head = d.head; a = d.a; b = l }) three

-- one area has these bytes, and the others are as they were
on_gives : (area : Area) (step : List ℕ → List ℕ → Type 0) (bytes : List ℕ) (d c : Areas) → On area step d c → area_of area c ≡ bytes → c ≡ with_area area bytes d
on_gives Head step bytes d c on is = same_areas c (with_area Head bytes d) is (on.elsewhere A (λ (e : A ≡ Head). cc)) (on.elsewhere B (λ (e : B ≡ Head). cc))
on_gives A step bytes d c on is = same_areas c (with_area A bytes d) (on.elsewhere Head (λ (e : Head ≡ A). cc)) is (on.elsewhere B (λ (e : B ≡ A). cc))
on_gives B step bytes d c on is = same_areas c (with_area B bytes d) (on.elsewhere Head (λ (e : Head ≡ B). cc)) (on.elsewhere A (λ (e : A ≡ B). cc)) is

-- a step from the only image
module _ (area : Area) (step : List ℕ → List ℕ → Type 0) (old new : Meaning) (all : Areas) (only : IsOnly all old) (follows : Follows (On area step) old new) where
  pub only_since : LeavesSince (On area step all) old new
  only_since c since = let from = follows c since in subst (λ (d : Areas). On area step d c) (only from.0 from.1) from.2

  pub only_after : (bytes : List ℕ) → CountsNow new → Passes old new → area_of area new.reads ≡ bytes → IsSafe area new → IsOnly (with_area area bytes all) new
  only_after bytes counts time is safe c image = on_gives area step bytes all c (only_since c (counts old.moment c time.later image)) (safe c image ∙ is)

-- the two writes behind the gate
take_one : (at : ℕ) (c : List ℕ) → 1 ≤ at → take 1 (take at c) ≡ take 1 c
take_one zero c some = absurd (omega arith)
take_one (suc at) [] some = refl
take_one (suc at) (x ∷ c) some = refl

shut_kept : (at n : ℕ) → 1 ≤ at → (d c : List ℕ) → IsGateShut d → Torn at n d c → IsGateShut c
shut_kept at n some d c shut torn = sym (take_one at c some) ∙ ap (λ (l : List ℕ). take 1 l) torn.before ∙ take_one at d some ∙ shut

module _ (n k : ℕ) (old mid new : Meaning) (all : Areas) (only : IsOnly (gate_shut all) old) (counts : CountsNow mid)
    (first : Follows (On A (Torn 1 n)) old mid) (time : Passes old mid) where
  pub first_since : LeavesSince (On A (λ _ (l : List ℕ). IsGateShut l) (gate_shut all)) old mid
  first_since c since = let on = only_since A (Torn 1 n) old mid (gate_shut all) only first c since in
      record { here = shut_kept 1 n (omega arith) (0 ∷ []) c.a refl on.here; elsewhere = on.elsewhere }

  pub rest_since : Follows (On A (Torn 14 k)) mid new → Passes mid new → LeavesSince (On A (λ _ (l : List ℕ). IsGateShut l) (gate_shut all)) old new
  rest_since second later = both_calls (On A (λ _ (l : List ℕ). IsGateShut l) (gate_shut all)) old mid new time later first_since
      (λ c since.
      let from = second c since in
      let was = first_since from.0 (counts old.moment from.0 time.later from.1) in
      record { here = shut_kept 14 k (omega arith) from.0.a c.a was.here from.2.here; elsewhere = λ other e. from.2.elsewhere other e ∙ was.elsewhere other e })

  pub rest_only : Follows (On A (Torn 14 k)) mid new → Passes mid new → CountsNow new → (bytes : List ℕ) → new.reads.a ≡ bytes → IsSafe A new → IsOnly (with_area A bytes (a_selected all)) new
  rest_only second later counts_new bytes is safe c image =
      on_gives A (λ _ (l : List ℕ). IsGateShut l) bytes (gate_shut all) c (rest_since second later c (counts_new old.moment c (le_trans time.later later.later) image)) (safe c image ∙ is)

overwritten_end : (l bytes : List ℕ) (at : ℕ) → at ≡ length l → overwritten l at bytes ≡ l ++ bytes
overwritten_end l bytes at is =
    ap (λ (k : List ℕ). k ++ bytes ++ drop (at + length bytes) l) (take_all at l (omega (arith, is)))
    ∙ ap (λ (k : List ℕ). (l ++ bytes) ++ k) (drop_all (at + length bytes) l (omega (arith, is))) ∙ append-nil (l ++ bytes)

pub rest_is : (a head framed : List ℕ) (limit : ℕ) → a ≡ 0 ∷ [] → head ≡ new_head limit → overwritten (overwritten a 1 head) 14 framed ≡ 0 ∷ new_rest limit framed
rest_is a head framed limit is named =
    ap (λ (l : List ℕ). overwritten (overwritten l 1 head) 14 framed) is
    ∙ ap (λ (l : List ℕ). overwritten (overwritten (0 ∷ []) 1 l) 14 framed) named
    ∙ ap (λ (l : List ℕ). overwritten l 14 framed) (overwritten_end (0 ∷ []) (new_head limit) 1 refl)
    ∙ overwritten_end ((0 ∷ []) ++ new_head limit) framed 14 refl

-- the head and the frame of an area that was cut to nothing
pub whole_is : (a head framed : List ℕ) (limit : ℕ) → a ≡ [] → head ≡ 165 ∷ new_head limit → overwritten (overwritten a 0 head) 14 framed ≡ 165 ∷ new_rest limit framed
whole_is a head framed limit is named =
    ap (λ (l : List ℕ). overwritten (overwritten l 0 head) 14 framed) is
    ∙ ap (λ (l : List ℕ). overwritten (overwritten [] 0 l) 14 framed) named
    ∙ ap (λ (l : List ℕ). overwritten l 14 framed) (overwritten_end [] (165 ∷ new_head limit) 0 refl)
    ∙ overwritten_end (165 ∷ new_head limit) framed 14 refl

-- no area is formatted
record AreBlank (all : Areas) : Type 0 where
  a : IsBlank all.a
  b : IsBlank all.b

blank_cut : (d c : List ℕ) → IsBlank d → Cut 0 d c → IsBlank c
blank_cut d [] blank cut formed = formed.opens
blank_cut [] (x ∷ c) blank cut formed = absurd (let no : [] ≡ x ∷ c = cut.front in cc)
blank_cut (y ∷ d) (x ∷ c) blank cut formed = blank (record {
  long = omega (arith, formed.long, ap length cut.front, length-take (length (x ∷ c)) (y ∷ d));
  opens = ap first cut.front ∙ formed.opens;
})
  where
    first : List ℕ → ℕ
    first [] = 0
    first (x ∷ xs) = x

short_blank : (c : List ℕ) → length c ≤ 1 → IsBlank c
short_blank c short formed = omega (arith, short, formed.long)

shut_blank : (c : List ℕ) → IsGateShut c → IsBlank c
shut_blank [] shut formed = formed.opens
shut_blank (x ∷ c) shut formed = let no : x ≡ 0 = ap first shut in omega (arith, no, formed.opens)
  where
    first : List ℕ → ℕ
    first [] = 0
    first (x ∷ xs) = x

-- where the selected area isn't formatted and no other is, none is
all_blank : (c : Areas) → OthersAreBlank c → IsUnformatted c → AreBlank c
all_blank c others unformed = record {
  a = λ formed. others.a (λ selects. unformed A selects formed) formed;
  b = λ formed. others.b (λ selects. unformed B selects formed) formed;
}

blank_unformatted : (c : Areas) → AreBlank c → IsUnformatted c
blank_unformatted c blank Head selects = absurd selects
blank_unformatted c blank A selects = blank.a
blank_unformatted c blank B selects = blank.b

blank_others : (c : Areas) → AreBlank c → OthersAreBlank c
blank_others c blank = record { a = λ no. blank.a; b = λ no. blank.b }

-- area A is the selected one and new, and B isn't formatted
record IsWhole (limit : ℕ) (framed : List ℕ) (c : Areas) : Type 0 where
  here : In A (λ (area : List ℕ). area ≡ 165 ∷ new_rest limit framed) c
  b : IsBlank c.b

whole_others : (limit : ℕ) (framed : List ℕ) (c : Areas) → IsWhole limit framed c → OthersAreBlank c
whole_others limit framed c whole = record { a = λ no. absurd (no whole.here.selected); b = λ no. whole.b }

-- a gate that may be any, and these bytes
opened : (limit : ℕ) (framed : List ℕ) (c : Areas) (a : List ℕ) → c.a ≡ a → Torn 0 1 (0 ∷ new_rest limit framed) a → Selects A c.head → IsBlank c.b → AreBlank c ⊎ IsWhole limit framed c
opened limit framed c [] is torn selects blank = absurd (omega (arith, torn.no_shorter))
opened limit framed c (gate ∷ rest) is torn selects blank = elim (cases_eq gate 165) [
  | inl is_open ↦ inr (record { here = record { selected = selects; here = is ∙ ap (λ (g : ℕ). g ∷ rest) is_open ∙ ap (λ (l : List ℕ). 165 ∷ l) torn.after }; b = blank })
  | inr shut ↦ inl (record { a = λ formed. shut (subst IsOpen is formed.opens); b = blank })
]

way : (limit : ℕ) (framed : List ℕ) (all c : Areas) → AreBlank all → IsOnTheWay limit framed all c → AreBlank c ⊎ IsWhole limit framed c
way limit framed all c blank (cutting on) = inl (record {
  a = blank_cut all.a c.a blank.a on.here;
  b = subst IsBlank (sym (on.elsewhere B (λ (e : B ≡ A). cc))) blank.b;
})
way limit framed all c blank (selecting on) = inl (record {
  a = let is : c.a ≡ [] = on.elsewhere A (λ (e : A ≡ Head). cc) in short_blank c.a (omega (arith, ap length is));
  b = subst IsBlank (sym (on.elsewhere B (λ (e : B ≡ Head). cc))) blank.b;
})
way limit framed all c blank (shutting on) = inl (record {
  a = short_blank c.a on.here.no_longer;
  b = subst IsBlank (sym (on.elsewhere B (λ (e : B ≡ A). cc))) blank.b;
})
way limit framed all c blank (writing on) = inl (record {
  a = shut_blank c.a on.here;
  b = subst IsBlank (sym (on.elsewhere B (λ (e : B ≡ A). cc))) blank.b;
})
way limit framed all c blank (opening on) =
    opened limit framed c c.a refl on.here (subst (λ (l : List ℕ). Selects A l) (sym (on.elsewhere Head (λ (e : Head ≡ A). cc))) (λ (e : 65 ≡ 66). omega arith))
    (subst IsBlank (sym (on.elsewhere B (λ (e : B ≡ A). cc))) blank.b)

-- a new area stands for its one body
pub new_split : (limit : ℕ) (framed body area : List ℕ) → IsFramed framed body → area ≡ 165 ∷ new_rest limit framed → area ≡ front limit (body ∷ []) ++ 0 ∷ []
new_split limit framed body area is whole =
    whole ∙ ap (λ (l : List ℕ). 165 ∷ new_rest limit l) is.is
    ∙ sym (append_assoc (header limit) (165 ∷ spelled body) (0 ∷ []))
    ∙ ap (λ (l : List ℕ). (l ++ 165 ∷ spelled body) ++ 0 ∷ []) (sym (front-nil limit))
    ∙ ap (λ (l : List ℕ). l ++ 0 ∷ []) (sym (front-push limit [] body))

new_stands : (limit : ℕ) (framed body area : List ℕ) → IsLimit limit → IsFramed framed body → area ≡ 165 ∷ new_rest limit framed → Stands limit (body ∷ []) area
new_stands limit framed body area in_range is whole =
    record { in_range = in_range; some = (is.some, tt); rest = 0 ∷ []; split = new_split limit framed body area is whole; shut = λ (e : 0 ≡ 165). omega arith }

new_area : (limit : ℕ) (framed body area : List ℕ) → IsLimit limit → IsFramed framed body → area ≡ 165 ∷ new_rest limit framed → IsNew limit body area
new_area limit framed body area in_range is whole =
    let stands = new_stands limit framed body area in_range is whole in
    record { stands = stands; gated = record { gate = 0; tail = []; split = new_split limit framed body area is whole; shut = λ (e : 0 ≡ 165). omega arith } }

-- what is laid down
pub laid_new : (limit : ℕ) (framed body : List ℕ) (all c : Areas) → IsLimit limit → IsFramed framed body → c ≡ laid_down limit framed all → In A (IsNew limit body) c
laid_new limit framed body all c in_range is same = subst (In A (IsNew limit body)) (sym same) (record {
  selected = λ (e : 65 ≡ 66). omega arith;
  here = new_area limit framed body (165 ∷ new_rest limit framed) in_range is refl;
})

-- at every moment of a format
module _ (limit : ℕ) (framed : List ℕ) (old mid new : Meaning) (all : Areas) (others : OthersAreBlank all) (unformed : IsUnformatted all)
    (leaves : LeavesSince (IsOnTheWay limit framed all) mid new) where
  blank : AreBlank all
  blank = all_blank all others unformed

  pub format_since : (body : List ℕ) → IsLimit limit → IsFramed framed body → (c : Areas) → new.since mid.moment c → IsUnformatted c ⊎ In A (IsNew limit body) c
  format_since body in_range is c since =
      ⊎_elim (λ (none : AreBlank c). inl (blank_unformatted c none))
      (λ (whole : IsWhole limit framed c). inr (record { selected = whole.here.selected; here = new_area limit framed body c.a in_range is whole.here.here }))
      (way limit framed all c blank (leaves c since))

  pub others_since : LeavesSince OthersAreBlank mid new
  others_since c since = ⊎_elim (blank_others c) (whole_others limit framed c) (way limit framed all c blank (leaves c since))
