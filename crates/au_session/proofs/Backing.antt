-- How what a door keeps goes on.
use Rattle.std.proofs.Common.{◌≡◌, ℕ, ◌+◌, ◌<◌, ◌≤◌, Bool, List, [], ◌∷◌, ◌++◌, length, Some, None, refl, sym, ap, ◌∙◌, subst, arith, append_assoc, append-nil, length-append}
use Rattle.std.proofs.Math.Numerals.{add-one}
use Rattle.std.specs.Prelude.{Option, IfSome}
use Rattle.std.specs.Coded.{Unit-prop, le_prop}
use Rattle.au_io.specs.Faults.{HasRisen}
use Rattle.au_io.specs.Visits.{Told, Visits, HasOut, Hands, Finishes}
use Rattle.au_io.specs.declared.lobby.Next.TheVariants as next
use Rattle.au_session.specs.declared.drawn.DoorEntry.{DoorEntry}
use Rattle.au_session.specs.declared.drawn.DoorEntry.TheVariants.{Opened, Drew}
use Rattle.au_session.specs.Answered.{Answered, AllAnswered}
use Rattle.au_session.specs.Backed.{Backed}
use Rattle.au_session.specs.Stands.{drew, DoorStands, HadBefore}

pub backed_start : (o : Option Visits) → IfSome o (λ v. length v.finished ≤ v.handed) → Backed o 0 0
backed_start None h = tt
backed_start (Some v) h = record {
  first = v.handed;
  before = v.finished;
  backed = [];
  handed = omega arith;
  finished = sym (append-nil v.finished);
  count = refl;
  room = h;
  answered = tt;
}

pub backed_drawn : {L : Type 0} (o n : Option Visits) (told : L → Told) (link : L) (d b : ℕ) → Hands told o n (next.Link link) → Backed o d b → Backed n (d + 1) b
backed_drawn None n told link d b h k = subst (λ (x : Option Visits). Backed x (d + 1) b) (sym h) tt
backed_drawn (Some v) n told link d b h k = subst (λ (x : Option Visits). Backed x (d + 1) b) (sym h.after) (record {
  first = k.first;
  before = k.before;
  backed = k.backed;
  handed = omega (arith, k.handed);
  finished = k.finished;
  count = k.count;
  room = k.room;
  answered = k.answered;
})

pub has_out : (o : Option Visits) (d b : ℕ) → b < d → Backed o d b → HasOut o
has_out None d b lt k = tt
has_out (Some v) d b lt k = omega (arith, k.room, k.count, k.handed, ap (λ (l : List Told). length l) k.finished, length-append k.before k.backed, lt)

pub has_out-prop : (o : Option Visits) → IsProp (HasOut o)
has_out-prop None = Unit-prop
has_out-prop (Some v) = le_prop

answered_next : (ts : List Told) (t : Told) → AllAnswered ts → Answered t → AllAnswered (ts ++ t ∷ [])
answered_next [] t all a = (a, tt)
answered_next (s ∷ ss) t all a = (all.0, answered_next ss t all.1 a)

pub backed_back : (o n : Option Visits) (t : Told) (d b : ℕ) → Finishes o n t → Answered t → Backed o d b → Backed n d (b + 1)
backed_back None n t d b h a k = subst (λ (x : Option Visits). Backed x d (b + 1)) (sym h) tt
backed_back (Some v) n t d b h a k = subst (λ (x : Option Visits). Backed x d (b + 1)) (sym h) (record {
  first = k.first;
  before = k.before;
  backed = k.backed ++ t ∷ [];
  handed = k.handed;
  finished = ap (λ (l : List Told). l ++ t ∷ []) k.finished ∙ append_assoc k.before k.backed (t ∷ []);
  count = omega (arith, length-append k.backed (t ∷ []), k.count);
  room = k.room;
  answered = answered_next k.backed t k.answered a;
})

drew_next : (n : ℕ) → drew (n + 1) ≡ drew n ++ Drew (record { 0 = n + 1 }) ∷ []
drew_next n = ap (λ (k : ℕ). drew k) (add-one n) ∙ ap (λ (k : ℕ). drew n ++ Drew (record { 0 = k }) ∷ []) (sym (add-one n))

before_drawn : {L : Type 0} (o n : Option Visits) (told : L → Told) (link : L) (d b handed finished : ℕ) → Hands told o n (next.Link link) → HadBefore o d b handed finished → HadBefore n (d + 1) b handed finished
before_drawn None n told link d b handed finished h k = subst (λ (x : Option Visits). HadBefore x (d + 1) b handed finished) (sym h) k
before_drawn (Some v) n told link d b handed finished h k = subst (λ (x : Option Visits). HadBefore x (d + 1) b handed finished) (sym h.after) (omega (arith, k.0), k.1)

-- one more was drawn
pub stands_drawn : {L : Type 0} (o n : Option Visits) (told : L → Told) (link : L) (faults now d b : ℕ) (failed : Bool) (history : List DoorEntry) → Hands told o n (next.Link link) → now ≡ faults
    → DoorStands o faults d b failed history → DoorStands n now (d + 1) b failed (history ++ Drew (record { 0 = d + 1 }) ∷ [])
stands_drawn o n told link faults now d b failed history h well s = record {
  handed = s.handed;
  finished = s.finished;
  count = s.count;
  list = ap (λ (l : List DoorEntry). l ++ Drew (record { 0 = d + 1 }) ∷ []) s.list ∙ ap (λ (l : List DoorEntry). Opened s.handed s.finished s.count ∷ l) (sym (drew_next d));
  before = before_drawn o n told link d b s.handed s.finished h s.before;
  sound = λ other. s.sound other ∙ sym well;
  rose = λ set. subst (λ (k : ℕ). HasRisen s.count k) (sym well) (s.rose set);
}
