-- A run goes on by a line, and ends.
use Rattle.std.proofs.Common.{◌≡◌, ◌≢◌, ◌⊎◌, inl, inr, ℕ, ◌+◌, ◌<◌, ◌≤◌, List, [], ◌∷◌, ◌++◌, length, refl, sym, ap, ◌∙◌, subst, arith, append_assoc, append-nil, length-append, Vec, ⊎_elim}
use mathlib.Core.Logic.{dite}
use native.Mathlib.Decide.{ℕ_discrete}
use Rattle.std.specs.declared.alloc.Global.{Global}
use Rattle.std.specs.Prelude.{Option, Some, None, IfSome}
use Rattle.std.specs.Io.KnownBytes.{Appends, Consumes, IsAtEnd}
use Rattle.std.proofs.KnownBytes.{Appends-nil, Appends-trans, Consumes-nil, Consumes-trans}
use Rattle.std.proofs.lemmas.List.{length_push}
use Rattle.std.proofs.lemmas.List.Elements.{All-append, All-cons, All-nil}
use Rattle.std.proofs.lemmas.List.Concat.{flat_map-append}
use Rattle.au_io.specs.Moments.{CountsNow, OnlyNow}
use Rattle.au_journal.specs.declared.doubt.Doubt.TheVariants.{Settled}
use Rattle.au_store.specs.Stored.{Stored, IsKeptOn}
use Rattle.au_main.specs.Answers.{Answer, texts}
use Rattle.au_main.specs.Given.{AppendsBehind, AppendsFront}
use Rattle.au_main.specs.Lines.{AreLines, BeginsWithLines, HasNoEnd, LF, TakenLines, TakenOf, ended, last_line, script_limit, with_end}
use Rattle.au_main.specs.Means.{Means}
use Rattle.au_main.specs.descent.NextLine.{NextLine, Takes}
use Rattle.au_script.specs.Labels.{Label}
use Rattle.au_script.specs.Lines.{IsContent, SaysNothing, carriage_return, line_limit}
use Rattle.au_main.specs.declared.status.Status.{Status}
use Rattle.au_main.specs.declared.status.Status.TheVariants.{Done, Usage, ReadFault, WriteFault, DiskFault, Unformatted, Formatted, Damaged, BadLine, TooLong, LobbyFault, Memory, Worn}
use Rattle.au_main.specs.Ran.{IsReadCause, RanTo, RanToBadLine, RanToFront}
use Rattle.au_main.specs.descent.Answering.{Answered, AnsweredInPart, DidNothing, EndsLast, FoundNoMemory}
use Rattle.au_main.specs.descent.Stretch.{Stretch}
use Rattle.au_main.specs.declared.line.Line.TheVariants.{Ended, Last, End, Overlong, Failed, Beyond}
use Rattle.au_main.proofs.Histories.{AllByRecursion-append, Ran-none, Ran-more, RanWith, labels_after-below}

-- so many lines were taken and done so far, these labels are used, no more than lines, and this is pending
pub record RanSoFar {D C : Type 0} (means : Means D C) (count : ℕ) (used : List Label) (opened here : Stored D C) (pending : Stretch) (left now : Option (List ℕ)) (given gave : Option (List ℕ)) : Type 0 where
  pub lines : List (List ℕ)
  pub got : List ℕ
  pub text : List ℕ
  pub whole : AreLines lines
  pub number : length lines ≡ count
  pub taken : Consumes left now got
  pub joined : got ≡ ended lines ++ pending.bytes
  pub size : pending.taken ≡ length got
  pub answers : List Answer
  pub done : RanWith means used lines opened here answers text
  pub few : length used ≤ count
  pub given_all : Appends given gave text

-- a store was opened, and nothing was taken yet
pub RanSoFar-none : {D C : Type 0} (means : Means D C) (s : Stored D C) (p : Stretch) (a : Option (List ℕ)) (g : Option (List ℕ))
    → CountsNow (means.meaning s.disk) → OnlyNow (means.meaning s.disk) → s.seat.doubt ≡ Settled → (means.told → IsKeptOn s.state.kept (means.meaning s.disk) s.seat)
    → p.bytes ≡ [] → p.taken ≡ 0 → RanSoFar means 0 [] s s p a a g g
RanSoFar-none means s p a g counts only settled kept none zero = record {
  lines = [];
  got = [];
  text = [];
  whole = tt;
  number = refl;
  taken = Consumes-nil a;
  joined = sym none;
  size = zero;
  answers = [];
  done = Ran-none means s counts only settled kept;
  few = omega arith;
  given_all = Appends-nil g;
}

-- ---- lines

ended-push : (lines : List (List ℕ)) (line : List ℕ) → ended (lines ++ line ∷ []) ≡ ended lines ++ with_end line
ended-push lines line = flat_map-append with_end lines (line ∷ []) ∙ ap (λ xs. ended lines ++ xs) (append-nil (with_end line))

AreLines-push : (lines : List (List ℕ)) (line : List ℕ) → AreLines lines → HasNoEnd line → AreLines (lines ++ line ∷ [])
AreLines-push lines line h g = AllByRecursion-append HasNoEnd lines (line ∷ []) h (g, tt)

-- a line behind others, with its end, and then the rest
ended-next : (lines : List (List ℕ)) (line rest : List ℕ) → ended lines ++ (line ++ LF ∷ rest) ≡ ended (lines ++ line ∷ []) ++ rest
ended-next lines line rest =
    ap (λ l. ended lines ++ l) (sym (append_assoc line (LF ∷ []) rest)) ∙ sym (append_assoc (ended lines) (with_end line) rest) ∙ ap (λ l. l ++ rest) (sym (ended-push lines line))

-- each line has its end, so there are no more lines than bytes
lines_below : (lines : List (List ℕ)) → length lines ≤ length (ended lines)
lines_below [] = omega arith
lines_below (line ∷ lines) =
    let more = lines_below lines in
    simp (length-append) (omega arith)

begins-ended : (lines : List (List ℕ)) (line rest : List ℕ) (a c : Option (List ℕ)) → Consumes a c (ended lines ++ (line ++ LF ∷ rest)) → IfSome a (BeginsWithLines (lines ++ line ∷ []))
begins-ended lines line rest None c h = tt
begins-ended lines line rest (Some xs) None h = absurd h
begins-ended lines line rest (Some xs) (Some ys) h =
    inl (rest ++ ys, h ∙ ap (λ l. l ++ ys) (ended-next lines line rest) ∙ append_assoc (ended (lines ++ line ∷ [])) rest ys)

begins-last : (lines : List (List ℕ)) (line : List ℕ) (a c : Option (List ℕ)) → Consumes a c (ended lines ++ line) → IsAtEnd c → IfSome a (BeginsWithLines (lines ++ line ∷ []))
begins-last lines line None c h e = tt
begins-last lines line (Some xs) None h e = absurd h
begins-last lines line (Some xs) (Some ys) h e =
    let all : xs ≡ ended lines ++ line = h ∙ ap (λ l. (ended lines ++ line) ++ l) e ∙ append-nil (ended lines ++ line) in
    inr (ap (λ l. l ++ LF ∷ []) all ∙ append_assoc (ended lines) line (LF ∷ []) ∙ sym (ended-push lines line))

-- the first end in some bytes, or there is none
first_end : (bytes : List ℕ) → ((front : List ℕ) × (rest : List ℕ) × HasNoEnd front × (bytes ≡ front ++ LF ∷ rest)) ⊎ HasNoEnd bytes
first_end [] = inr (All-nil (λ b. b ≢ LF))
first_end (b ∷ bytes) = dite (ℕ_discrete b LF)
    (λ e. inl ([], bytes, All-nil (λ x. x ≢ LF), ap (λ x. x ∷ bytes) e))
    (λ ne. ⊎_elim (λ found. inl (b ∷ found.0, found.1, All-cons (λ x. x ≢ LF) b found.0 ne found.2, ap (λ l. b ∷ l) found.3)) (λ none. inr (All-cons (λ x. x ≢ LF) b bytes ne none)) (first_end bytes))

-- no script line is so long
too_long : (bytes : List ℕ) → line_limit + 1 < length bytes → SaysNothing bytes
too_long bytes long = λ said spelled. fits spelled.content spelled.content_is spelled.fits where
  fits : (content : List ℕ) → IsContent bytes content → length content ≤ line_limit → ⊥
  fits content (inl e) short = omega (arith, ap length e, length-append content (carriage_return ∷ []))
  fits content (inr same) short = omega (arith, ap length same.1)

-- the whole of a line that began so, as far as the source tells
record Completed (lines : List (List ℕ)) (begun : List ℕ) (a : Option (List ℕ)) : Type 0 where
  pub more : List ℕ
  pub whole : HasNoEnd (begun ++ more)
  pub stands : IfSome a (BeginsWithLines (lines ++ (begun ++ more) ∷ []))

completed : (lines : List (List ℕ)) (begun : List ℕ) (a c : Option (List ℕ)) → Consumes a c (ended lines ++ begun) → HasNoEnd begun → Completed lines begun a
completed lines begun None c h whole = record { more = []; whole = rw (append-nil begun) whole; stands = tt }
completed lines begun (Some xs) None h whole = absurd h
completed lines begun (Some xs) (Some ys) h whole = ⊎_elim ends goes_on (first_end ys) where
  ends : ((front : List ℕ) × (rest : List ℕ) × HasNoEnd front × (ys ≡ front ++ LF ∷ rest)) → Completed lines begun (Some xs)
  ends found = record {
    more = found.0;
    whole = All-append (λ b. b ≢ LF) begun found.0 whole found.2;
    stands = inl (
      found.1,
      h ∙ append_assoc (ended lines) begun ys ∙ ap (λ l. ended lines ++ (begun ++ l)) found.3
          ∙ ap (λ l. ended lines ++ l) (sym (append_assoc begun found.0 (LF ∷ found.1))) ∙ ended-next lines (begun ++ found.0) found.1,
    );
  }

  goes_on : HasNoEnd ys → Completed lines begun (Some xs)
  goes_on none = record {
    more = ys;
    whole = All-append (λ b. b ≢ LF) begun ys whole none;
    stands = inr (ap (λ l. l ++ LF ∷ []) (h ∙ append_assoc (ended lines) begun ys) ∙ append_assoc (ended lines) (begun ++ ys) (LF ∷ []) ∙ sym (ended-push lines (begun ++ ys)));
  }

last_line-some : (bytes : List ℕ) → 0 < length bytes → last_line bytes ≡ bytes ∷ []
last_line-some [] some = absurd (omega arith)
last_line-some (b ∷ bytes) some = refl

-- a front of more bytes was given behind others
behind : (g h i : Option (List ℕ)) (text first more bytes : List ℕ) → text ≡ first → more ≡ bytes → Appends g h text → AppendsFront h i more → AppendsBehind g i first bytes
behind g h i text first more bytes same is given front = (
  front.0,
  front.1,
  sym is ∙ front.2,
  subst (λ (t : List ℕ). Appends g i (t ++ front.0)) same (Appends-trans g h i text front.0 given front.3),
)

-- nothing more was given
behind_none : (g h : Option (List ℕ)) (text first : List ℕ) → text ≡ first → Appends g h text → AppendsBehind g h first []
behind_none g h text first same given = ([], [], refl, subst (λ (t : List ℕ). Appends g h t) (same ∙ sym (append-nil first)) given)

module _ {D C : Type 0} (means : Means D C) where
  -- how a run ended, with its answers
  abbrev Ended-so : Status → (left now : Option (List ℕ)) (o m : Stored D C) (given gave : Option (List ℕ)) → Type 0
  Ended-so status left now o m given gave = (answers : List Answer) × RanTo means status left now o m answers given gave

  module _ (count : ℕ) (used : List Label) (o m : Stored D C) (p : Stretch) (a b : Option (List ℕ)) (g h : Option (List ℕ)) (so_far : RanSoFar means count used o m p a b g h) where
    pub count-below : count ≤ p.taken
    count-below = omega (arith, so_far.number, so_far.size, lines_below so_far.lines, ap length so_far.joined, length-append (ended so_far.lines) p.bytes)

    -- a line with its end has a byte at least, so there is a number for one label more
    pub room_ended : (q : Stretch) (c : Option (List ℕ)) (v : Vec ℕ Global) → NextLine p q b c (Ended v) → q.taken ≤ script_limit → length used < script_limit
    room_ended q c v line within = omega (
      arith,
      within,
      so_far.few,
      so_far.number,
      so_far.size,
      lines_below so_far.lines,
      ap length so_far.joined,
      length-append (ended so_far.lines) p.bytes,
      line.next.2,
      ap length line.next.1,
      length-append p.bytes line.got,
      length-append v.items (LF ∷ q.bytes),
    )

    -- and so has a last line
    pub room_last : (q : Stretch) (c : Option (List ℕ)) (v : Vec ℕ Global) → NextLine p q b c (Last v) → q.taken ≤ script_limit → length used < script_limit
    room_last q c v line within = omega (
      arith,
      within,
      so_far.few,
      so_far.number,
      so_far.size,
      lines_below so_far.lines,
      ap length so_far.joined,
      length-append (ended so_far.lines) p.bytes,
      line.next.4,
      line.next.3,
      ap length line.next.1,
      length-append p.bytes line.got,
    )

    -- all that was taken, with what the next call took
    taken_next : (c : Option (List ℕ)) (got : List ℕ) → Consumes b c got → Consumes a c (ended so_far.lines ++ (p.bytes ++ got))
    taken_next c got more = rw (sym (ap (λ l. l ++ got) so_far.joined ∙ append_assoc (ended so_far.lines) p.bytes got)) (Consumes-trans a b c so_far.got got so_far.taken more)

    -- the lines so far were done, and more was taken since
    RanToFront-before : (c : Option (List ℕ)) (more : List ℕ) → Consumes b c more → RanToFront means a c o m so_far.answers g h
    RanToFront-before c more then = record {
      lines = so_far.lines;
      got = so_far.got ++ more;
      text = so_far.text;
      told = so_far.answers;
      last = [];
      whole = so_far.whole;
      taken = Consumes-trans a b c so_far.got more so_far.taken then;
      begins = inl (p.bytes ++ more, ap (λ l. l ++ more) so_far.joined ∙ append_assoc (ended so_far.lines) p.bytes more);
      ran = so_far.done.ran;
      split = sym (append-nil so_far.answers);
      one = omega arith;
      given_front = behind_none g h so_far.text (texts so_far.answers) so_far.done.ran.text_is so_far.given_all;
    }

    pub no_memory_before : (c : Option (List ℕ)) → Takes b c → Ended-so Memory a c o m g h
    no_memory_before c took = (so_far.answers, RanToFront-before c took.0 took.1)

    module _ (q : Stretch) (c : Option (List ℕ)) where
      pub RanToFault-at : NextLine p q b c Failed → Ended-so ReadFault a c o m g h
      RanToFault-at line = (
        so_far.answers,
        record {
          lines = so_far.lines;
          begun = p.bytes ++ line.got;
          text = so_far.text;
          whole = AreLines-push so_far.lines (p.bytes ++ line.got) so_far.whole line.next;
          taken = taken_next c line.got line.taken;
          ran = so_far.done.ran;
          given_all = so_far.given_all;
        },
      )

      pub RanToLimit-at : NextLine p q b c Beyond → Ended-so TooLong a c o m g h
      RanToLimit-at line = (
        so_far.answers,
        record {
          lines = so_far.lines;
          begun = line.next.within;
          more = line.next.more;
          text = so_far.text;
          whole = AreLines-push so_far.lines line.next.within so_far.whole line.next.whole;
          taken = subst (λ l. Consumes a c (ended so_far.lines ++ l)) line.next.split (taken_next c line.got line.taken);
          full = omega (arith, line.next.count, so_far.size, ap length so_far.joined, ap length line.next.split, length-append (ended so_far.lines) p.bytes, length-append (ended so_far.lines) line.next.within, length-append p.bytes line.got, length-append line.next.within line.next.more);
          beyond = line.next.some;
          ran = so_far.done.ran;
          given_all = so_far.given_all;
        },
      )

      -- nothing is left
      pub RanToEnd-at : NextLine p q b c End → Ended-so Done a c o m g h
      RanToEnd-at line = (
        so_far.answers,
        record {
          lines = so_far.lines;
          rest = [];
          text = so_far.text;
          whole = AreLines-push so_far.lines [] so_far.whole (All-nil (λ b. b ≢ LF));
          taken = subst (λ l. Consumes a c (ended so_far.lines ++ l)) line.next.0 (taken_next c line.got line.taken);
          at_end = line.next.1;
          ran = rw (append-nil so_far.lines) so_far.done.ran;
          given_all = so_far.given_all;
        },
      )

      module _ (number : ℕ) (counted : number ≡ count + 1) where
        RanToBadLine-line : (line got : List ℕ) → HasNoEnd line → IfSome a (BeginsWithLines (so_far.lines ++ line ∷ [])) → Consumes a c (ended so_far.lines ++ got) → TakenOf line got c
            → SaysNothing line → RanToBadLine means number a c o m so_far.answers g h
        RanToBadLine-line line got whole stands taken of_bad nothing = record {
          lines = so_far.lines;
          bad = line;
          got = got;
          text = so_far.text;
          number = counted ∙ ap (λ k. k + 1) (sym so_far.number);
          whole = AreLines-push so_far.lines line so_far.whole whole;
          stands = stands;
          taken = taken;
          of_bad = of_bad;
          says_nothing = nothing;
          ran = so_far.done.ran;
          given_all = so_far.given_all;
        }

        pub RanToBadLine-overlong : NextLine p q b c Overlong → Ended-so (BadLine number) a c o m g h
        RanToBadLine-overlong line =
            let begun = p.bytes ++ line.got in
            let taken = taken_next c line.got line.taken in
            let whole = completed so_far.lines begun a c taken line.next.0 in (
              so_far.answers,
              RanToBadLine-line (begun ++ whole.more) begun whole.whole whole.stands taken (inr (inr (whole.more, refl, line.next.1)))
                  (too_long (begun ++ whole.more) (omega (arith, line.next.1, length-append begun whole.more))),
            )

      -- behind another line
      module _ (n : Stored D C) (i : Option (List ℕ)) (line more : List ℕ) (whole : HasNoEnd line) (then : Consumes b c more) where
        in_part : TakenLines (so_far.lines ++ line ∷ []) (so_far.got ++ more) c → AnsweredInPart means used m n line h i → (answers : List Answer) × RanToFront means a c o n answers g i
        in_part begins answered =
            let ran = Ran-more means used so_far.lines line o m n so_far.answers so_far.text answered.text so_far.done answered.of_line in (
              so_far.answers ++ ran.last,
              record {
                lines = so_far.lines ++ line ∷ [];
                got = so_far.got ++ more;
                text = so_far.text ++ answered.text;
                told = so_far.answers;
                last = ran.last;
                whole = AreLines-push so_far.lines line so_far.whole whole;
                taken = Consumes-trans a b c so_far.got more so_far.taken then;
                begins = begins;
                ran = ran.done.ran;
                split = refl;
                one = ran.one;
                given_front = behind g h i so_far.text (texts so_far.answers) answered.text (texts ran.last) so_far.done.ran.text_is ran.more_is so_far.given_all answered.given_front;
              },
            )

        -- nothing was done since
        stayed : DidNothing m n h i → Ended-so Memory a c o n g i
        stayed stays = rw (stays.0, stays.1) (so_far.answers, RanToFront-before c more then)

        no_memory : TakenLines (so_far.lines ++ line ∷ []) (so_far.got ++ more) c → FoundNoMemory means used m n line h i → Ended-so Memory a c o n g i
        no_memory begins (inl stays) = stayed stays
        no_memory begins (inr answered) = in_part begins answered

        bad_line : (number : ℕ) (got : List ℕ) → number ≡ count + 1 → IfSome a (BeginsWithLines (so_far.lines ++ line ∷ [])) → Consumes a c (ended so_far.lines ++ got) → TakenOf line got c
            → SaysNothing line → DidNothing m n h i → Ended-so (BadLine number) a c o n g i
        bad_line number got counted stands taken of_bad nothing stays =
            rw (stays.0, stays.1) (so_far.answers, RanToBadLine-line number counted line got whole stands taken of_bad nothing)

      -- a line with its end
      module _ (n : Stored D C) (i : Option (List ℕ)) (v : Vec ℕ Global) (line : NextLine p q b c (Ended v)) where
        taken_ended : Consumes a c (ended so_far.lines ++ (v.items ++ LF ∷ q.bytes))
        taken_ended = subst (λ l. Consumes a c (ended so_far.lines ++ l)) line.next.1 (taken_next c line.got line.taken)

        joined_ended : so_far.got ++ line.got ≡ ended (so_far.lines ++ v.items ∷ []) ++ q.bytes
        joined_ended = ap (λ l. l ++ line.got) so_far.joined ∙ append_assoc (ended so_far.lines) p.bytes line.got ∙ ap (λ l. ended so_far.lines ++ l) line.next.1 ∙ ended-next so_far.lines v.items q.bytes

        pub RanSoFar-more : (next : ℕ) → next ≡ count + 1 → (using : List Label) → Answered means used using m n v.items h i → RanSoFar means next using o n q a c g i
        RanSoFar-more next counted using answered =
            let ran = Ran-more means used so_far.lines v.items o m n so_far.answers so_far.text answered.text so_far.done answered.of_line in
            record {
              lines = so_far.lines ++ v.items ∷ [];
              got = so_far.got ++ line.got;
              text = so_far.text ++ answered.text;
              whole = AreLines-push so_far.lines v.items so_far.whole line.next.0;
              number = length_push so_far.lines v.items ∙ ap (λ k. k + 1) so_far.number ∙ sym counted;
              taken = Consumes-trans a b c so_far.got line.got so_far.taken line.taken;
              joined = joined_ended;
              size = omega (arith, line.next.2, so_far.size, length-append so_far.got line.got);
              answers = so_far.answers ++ ran.last;
              done = rw answered.labels ran.done;
              few = rw answered.labels (omega (arith, counted, so_far.few, labels_after-below used answered.of_line.said));
              given_all = Appends-trans g h i so_far.text answered.text so_far.given_all answered.given_all;
            }

        pub RanToFront-ended : AnsweredInPart means used m n v.items h i → Ended-so WriteFault a c o n g i
        RanToFront-ended answered = in_part n i v.items line.got line.next.0 line.taken (inl (q.bytes, joined_ended)) answered

        pub RanToFront-no_memory : FoundNoMemory means used m n v.items h i → Ended-so Memory a c o n g i
        RanToFront-no_memory found = no_memory n i v.items line.got line.next.0 line.taken (inl (q.bytes, joined_ended)) found

        pub RanToBadLine-ended : (number : ℕ) → number ≡ count + 1 → SaysNothing v.items → DidNothing m n h i → Ended-so (BadLine number) a c o n g i
        RanToBadLine-ended number counted nothing stays =
            bad_line n i v.items line.got line.next.0 line.taken number (v.items ++ LF ∷ q.bytes) counted (begins-ended so_far.lines v.items q.bytes a c taken_ended) taken_ended (inl (q.bytes, refl)) nothing stays

      -- the last line
      module _ (n : Stored D C) (i : Option (List ℕ)) (v : Vec ℕ Global) (line : NextLine p q b c (Last v)) where
        taken_last : Consumes a c (ended so_far.lines ++ v.items)
        taken_last = subst (λ l. Consumes a c (ended so_far.lines ++ l)) line.next.1 (taken_next c line.got line.taken)

        stands_last : IfSome a (BeginsWithLines (so_far.lines ++ v.items ∷ []))
        stands_last = begins-last so_far.lines v.items a c taken_last line.next.2

        begins_last : TakenLines (so_far.lines ++ v.items ∷ []) (so_far.got ++ line.got) c
        begins_last = inr (
          ap with_end (ap (λ l. l ++ line.got) so_far.joined ∙ append_assoc (ended so_far.lines) p.bytes line.got ∙ ap (λ l. ended so_far.lines ++ l) line.next.1)
              ∙ append_assoc (ended so_far.lines) v.items (LF ∷ []) ∙ sym (ended-push so_far.lines v.items),
          line.next.2,
        )

        RanToEnd-last : (using : List Label) → Answered means used using m n v.items h i → Ended-so Done a c o n g i
        RanToEnd-last using answered =
            let ran = Ran-more means used so_far.lines v.items o m n so_far.answers so_far.text answered.text so_far.done answered.of_line in (
              so_far.answers ++ ran.last,
              record {
                lines = so_far.lines;
                rest = v.items;
                text = so_far.text ++ answered.text;
                whole = AreLines-push so_far.lines v.items so_far.whole line.next.0;
                taken = taken_last;
                at_end = line.next.2;
                ran = rw (last_line-some v.items line.next.3) ran.done.ran;
                given_all = Appends-trans g h i so_far.text answered.text so_far.given_all answered.given_all;
              },
            )

        -- the end of the last line is that of the run
        pub RanTo-last : (using : List Label) (number : ℕ) → number ≡ count + 1 → (status : Status) → EndsLast means used using number status m n v.items h i → Ended-so status a c o n g i
        RanTo-last using number counted Done answered = RanToEnd-last using answered
        RanTo-last using number counted (BadLine k) bad =
            rw bad.0 (bad_line n i v.items line.got line.next.0 line.taken number v.items counted stands_last taken_last (inr (inl (refl, line.next.2))) bad.1 bad.2)
        RanTo-last using number counted WriteFault answered = in_part n i v.items line.got line.next.0 line.taken begins_last answered
        RanTo-last using number counted Memory found = no_memory n i v.items line.got line.next.0 line.taken begins_last found
        RanTo-last using number counted ReadFault h = absurd h
        RanTo-last using number counted TooLong h = absurd h
        RanTo-last using number counted Usage h = absurd h
        RanTo-last using number counted DiskFault h = absurd h
        RanTo-last using number counted Unformatted h = absurd h
        RanTo-last using number counted Formatted h = absurd h
        RanTo-last using number counted (Damaged area at) h = absurd h
        RanTo-last using number counted LobbyFault h = absurd h
        RanTo-last using number counted Worn h = absurd h

  -- a last line is no read fault
  pub IsReadCause-last : (status : Status) (used using : List Label) (number : ℕ) (m n : Stored D C) (bytes : List ℕ) (h i : Option (List ℕ)) (before now : ℕ) → EndsLast means used using number status m n bytes h i → now ≡ before → IsReadCause status before now
  IsReadCause-last ReadFault used using number m n bytes h i before now ends e = absurd ends
  IsReadCause-last Done used using number m n bytes h i before now ends e = e
  IsReadCause-last (BadLine k) used using number m n bytes h i before now ends e = e
  IsReadCause-last WriteFault used using number m n bytes h i before now ends e = e
  IsReadCause-last Memory used using number m n bytes h i before now ends e = e
  IsReadCause-last TooLong used using number m n bytes h i before now ends e = e
  IsReadCause-last Usage used using number m n bytes h i before now ends e = e
  IsReadCause-last DiskFault used using number m n bytes h i before now ends e = e
  IsReadCause-last Unformatted used using number m n bytes h i before now ends e = e
  IsReadCause-last Formatted used using number m n bytes h i before now ends e = e
  IsReadCause-last (Damaged area at) used using number m n bytes h i before now ends e = e
  IsReadCause-last LobbyFault used using number m n bytes h i before now ends e = e
  IsReadCause-last Worn used using number m n bytes h i before now ends e = e

  -- nothing was taken yet
  pub RanToFront-opened : (s : Stored D C) (a : Option (List ℕ)) (g : Option (List ℕ)) → CountsNow (means.meaning s.disk) → OnlyNow (means.meaning s.disk)
      → s.seat.doubt ≡ Settled → (means.told → IsKeptOn s.state.kept (means.meaning s.disk) s.seat) → Ended-so Memory a a s s g g
  RanToFront-opened s a g counts only settled kept =
      let nothing : Stretch = record { bytes = []; taken = 0 } in
      no_memory_before 0 [] s s nothing a a g g (RanSoFar-none means s nothing a g counts only settled kept refl refl) a ([], Consumes-nil a)
