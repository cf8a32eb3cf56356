-- What is known of a door and a store that come out of their turns.
use Rattle.std.proofs.Common.{◌≡◌, ℕ, ◌-◌, Bool, true, false, List, ◌∷◌, ◌++◌, length, take, drop, drop_at, Option, Some, refl, sym, ap, ◌∙◌, subst, arith, append_assoc, length-append}
use Rattle.std.specs.Prelude.{All, IfSome, ◌≤◌}
use Rattle.std.proofs.Math.Logic.{∥∥₁_map}
use Rattle.std.proofs.lemmas.List.Elements.{All-take}
use mathlib.Core.List.{IsPrefix}
use Rattle.au_io.specs.Faults.{HasRisen}
use Rattle.au_io.specs.Visits.{Told, Visits}
use Rattle.au_session.specs.Answered.{AllAnswered}
use Rattle.au_session.specs.Backed.{Backed}
use Rattle.au_session.specs.declared.drawn.DoorEntry.{DoorEntry}
use Rattle.au_session.specs.declared.drawn.DoorEntry.TheVariants.{Opened}
use Rattle.au_session.specs.Stands.{DoorStands, HadBefore, drew, finished_before, first_of, handed_before}
use Rattle.au_server.specs.declared.end.End.{End}
use Rattle.au_server.specs.declared.end.End.TheVariants.{Done, LobbyFault, Memory}
use Rattle.au_server.specs.Ends.{AllBack, EndsTo, IsEmptied}
use Rattle.au_server.specs.descent.Closing.{ClosesTo}

-- a front of a front is a front
pub prefix_on : {A : Type 0} (xs ys zs : List A) → IsPrefix xs ys → IsPrefix ys zs → IsPrefix xs zs
prefix_on xs ys zs a b = (a.0 ++ b.0, sym (append_assoc xs a.0 b.0) ∙ (ap (λ l. l ++ b.0) a.1 ∙ b.1))

-- what holds of each element holds of each of the first; the list comes before the property, so that its type is known
pub all_rest : {X : Type 0} (xs ys : List X) (n : ℕ) → ys ≡ take n xs → (P : X → Type 0) → All P xs → All P ys
all_rest {X} xs ys n is P all = subst (λ (l : List X). All P l) (sym is) (All-take P n xs all)

-- a list that begins with what was seen at first goes on from there
pub begun_by : {A : Type 0} {first opened history : List A} (P : List A → Type 0) → opened ≡ first → IsPrefix opened history → P history → (entries : List A) × P (first ++ entries)
begun_by {A} {first} {opened} {history} P is begins holds =
    (begins.0, subst (λ (l : List A). P l) (sym (ap (λ (l : List A). l ++ begins.0) (sym is) ∙ begins.1)) holds)

heads : (a b n a' b' n' : ℕ) (rest rest' : List DoorEntry) → Opened a b n ∷ rest ≡ Opened a' b' n' ∷ rest' → (a ≡ a') × (b ≡ b') × (n ≡ n')
heads a b n a' b' n' rest rest' e = (cc e, cc e, cc e)

module _ (faults now d b : ℕ) (failed : Bool) (history : List DoorEntry) where
  -- the count of faults at the opening is the one that the door was opened with
  pub count_at : (o n : Option Visits) → IsPrefix (first_of o faults 0 0 false) history → (s : DoorStands n now d b failed history) → s.count ≡ faults
  count_at o n begins s =
      let same = heads (handed_before o 0) (finished_before o 0) faults s.handed s.finished s.count (drew 0 ++ begins.0) (drew d) (begins.1 ∙ s.list) in
      sym same.2

module _ (faults now d : ℕ) (failed : Bool) (history : List DoorEntry) where
  -- all that was drawn came back
  pub all_back : (o n : Option Visits) → IsPrefix (first_of o faults 0 0 false) history → DoorStands n now d d failed history → ∥ Backed n d d ∥₁ → AllBack d o n
  all_back o n begins s kept v w is_old is_new =
      let first = subst (λ (x : Option Visits). IsPrefix (first_of x faults 0 0 false) history) is_old begins in
      let same = heads (v.handed - 0) (length v.finished - 0) faults s.handed s.finished s.count (drew 0 ++ first.0) (drew d) (first.1 ∙ s.list) in
      let before : HadBefore (Some w) d d s.handed s.finished = subst (λ (x : Option Visits). HadBefore x d d s.handed s.finished) is_new s.before in
      record {
        handed = omega (arith, before.0, same.0);
        finished = omega (arith, before.1, same.1);
        answered = ∥∥₁_map (subst (λ (x : Option Visits). ∥ Backed x d d ∥₁) is_new kept) (λ k.
            let long : length k.before ≡ length v.finished = omega (arith, before.1, same.1, k.count, ap (λ (l : List Told). length l) k.finished, length-append k.before k.backed) in
            subst (λ (l : List Told). AllAnswered l)
            (sym (ap (λ (l : List Told). drop (length v.finished) l) k.finished ∙ drop_at k.before k.backed (length v.finished) long))
            k.answered);
      }

-- how serving ends at a door that was closed
module _ (faults now : ℕ) (asked : Option ℕ) (history : List DoorEntry) (o n : Option Visits) (begins : IsPrefix (first_of o faults 0 0 false) history) where
  pub ends_by : (e : End) → ClosesTo e asked history n now → EndsTo e asked o n faults now
  ends_by Done closed = (
    closed.drawn,
    all_back faults now closed.drawn false history o n begins closed.stands closed.kept,
    closed.emptied,
    closed.within,
    sym (closed.stands.sound refl) ∙ count_at faults now closed.drawn closed.drawn false history o n begins closed.stands,
  )
  ends_by LobbyFault closed =
      subst (λ (k : ℕ). HasRisen k now) (count_at faults now closed.drawn closed.back true history o n begins closed.stands) (closed.stands.rose refl)
  ends_by Memory closed = tt

-- what is known of a door that was closed
pub closed_by : (e : End) (asked : Option ℕ) (history : List DoorEntry) (visits : Option Visits) (faults drawn back : ℕ) (short failed : Bool)
    → ∥ Backed visits drawn back ∥₁ → DoorStands visits faults drawn back failed history
    → (e ≡ Done → (back ≡ drawn) × (short ≡ false) × (failed ≡ false) × IsEmptied visits drawn asked × IfSome asked (λ most. drawn ≤ most)) → (e ≡ LobbyFault → failed ≡ true) → ClosesTo e asked history visits faults
closed_by Done asked history visits faults drawn back short failed kept stands done fault =
    let is = done refl in
    record {
      drawn = drawn;
      kept = subst (λ (b : ℕ). ∥ Backed visits drawn b ∥₁) is.0 kept;
      stands = subst (λ (f : Bool). DoorStands visits faults drawn drawn f history) is.2 (subst (λ (b : ℕ). DoorStands visits faults drawn b failed history) is.0 stands);
      emptied = is.3;
      within = is.4;
    }
closed_by LobbyFault asked history visits faults drawn back short failed kept stands done fault =
    record { drawn = drawn; back = back; stands = subst (λ (f : Bool). DoorStands visits faults drawn back f history) (fault refl) stands }
closed_by Memory asked history visits faults drawn back short failed kept stands done fault = tt
