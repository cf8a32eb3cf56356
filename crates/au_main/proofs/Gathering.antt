-- A line that is gathered piece by piece.
use Rattle.std.proofs.Common.{◌≡◌, ◌≢◌, ℕ, ◌+◌, ◌<◌, List, [], ◌∷◌, ◌++◌, length, sym, ap, ◌∙◌, subst, arith, length-append, append_assoc, append-nil, true, false, Vec}
use Rattle.std.specs.declared.alloc.Global.{Global}
use Rattle.std.specs.Prelude.{Option, Result, Ok, Err, OnErr}
use Rattle.std.specs.Io.KnownBytes.{Consumes, Keeps, IsAtEnd}
use Rattle.std.proofs.KnownBytes.{Consumes-nil, Consumes-trans, Consumes-kept}
use Rattle.std.proofs.lemmas.List.Elements.{All-append, All-nil}
use Rattle.au_script.specs.Lines.{line_limit}
use Rattle.au_main.specs.declared.line.Line.TheVariants.{Ended, Last, End, Overlong, Failed, Beyond}
use Rattle.au_main.specs.Lines.{HasNoEnd, LF, script_limit}
use Rattle.au_main.specs.descent.Stretch.{Stretch, IsMoved}
use Rattle.au_main.specs.descent.NextLine.{NextLine}

-- what was pending and what the source gave since are the line so far and what is pending now
pub record Gathers (old new : Stretch) (left now : Option (List ℕ)) (line : List ℕ) : Type 0 where
  pub got : List ℕ
  pub taken : Consumes left now got
  pub joined : old.bytes ++ got ≡ line ++ new.bytes
  pub count : new.taken ≡ old.taken + length got
  pub whole : HasNoEnd line

-- nothing was gathered yet
pub Gathers-none : (old : Stretch) (left : Option (List ℕ)) → Gathers old old left left []
Gathers-none old left = record {
  got = [];
  taken = Consumes-nil left;
  joined = append-nil old.bytes;
  count = omega arith;
  whole = All-nil (λ b. b ≢ LF);
}

-- what is so of any result is so at an error
pub on_err : {X E : Type 0} (r : Result X E) (P : Type 0) → P → OnErr r P
on_err (Ok x) P p = tt
on_err (Err e) P p = p

HasNoEnd-append : (a b : List ℕ) → HasNoEnd a → HasNoEnd b → HasNoEnd (a ++ b)
HasNoEnd-append a b p q = All-append (λ x. x ≢ LF) a b p q

-- all that was pending goes to the line
pub Gathers-moved : (old mid new : Stretch) (left now : Option (List ℕ)) (line longer : List ℕ) → Gathers old mid left now line → IsMoved mid.bytes new.bytes line longer false → new.taken ≡ mid.taken → Gathers old new left now longer
Gathers-moved old mid new left now line longer g moved same = record {
  got = g.got;
  taken = g.taken;
  joined = g.joined ∙ sym moved.2 ∙ sym (append-nil longer) ∙ ap (λ l. longer ++ l) (sym moved.1);
  count = same ∙ g.count;
  whole = rw moved.2 (HasNoEnd-append line mid.bytes g.whole moved.0);
}

-- an end was found
pub NextLine-ended : (old mid new : Stretch) (left now : Option (List ℕ)) (line : List ℕ) (v : Vec ℕ Global) → Gathers old mid left now line → IsMoved mid.bytes new.bytes line v.items true → new.taken ≡ mid.taken → NextLine old new left now (Ended v)
NextLine-ended old mid new left now line v g moved same = record {
  got = g.got;
  taken = g.taken;
  next = (
    rw moved.3 (HasNoEnd-append line moved.0 g.whole moved.1),
    g.joined ∙ ap (λ l. line ++ l) moved.2 ∙ sym (append_assoc line moved.0 (LF ∷ new.bytes)) ∙ ap (λ l. l ++ LF ∷ new.bytes) (sym moved.3),
    same ∙ g.count,
  );
}

alone : (line bytes : List ℕ) → bytes ≡ [] → line ++ bytes ≡ line
alone line bytes none = ap (λ l. line ++ l) none ∙ append-nil line

-- the line so far is all that there is of it
joined_alone : (old mid : Stretch) (left now : Option (List ℕ)) (line : List ℕ) (g : Gathers old mid left now line) → mid.bytes ≡ [] → old.bytes ++ g.got ≡ line
joined_alone old mid left now line g none = g.joined ∙ alone line mid.bytes none

pub NextLine-overlong : (old mid : Stretch) (left now : Option (List ℕ)) (line : List ℕ) → Gathers old mid left now line → mid.bytes ≡ [] → line_limit + 1 < length line → NextLine old mid left now Overlong
NextLine-overlong old mid left now line g none long = record {
  got = g.got;
  taken = g.taken;
  next = rw (joined_alone old mid left now line g none) (g.whole, long);
}

-- more of the source is pending
pub Gathers-more : (old mid new : Stretch) (left mids now : Option (List ℕ)) (line : List ℕ) → Gathers old mid left mids line → mid.bytes ≡ [] → Consumes mids now new.bytes → new.taken ≡ mid.taken + length new.bytes → Gathers old new left now line
Gathers-more old mid new left mids now line g none more count = record {
  got = g.got ++ new.bytes;
  taken = Consumes-trans left mids now g.got new.bytes g.taken more;
  joined = sym (append_assoc old.bytes g.got new.bytes) ∙ ap (λ l. l ++ new.bytes) (joined_alone old mid left mids line g none);
  count = omega (arith, count, g.count, length-append g.got new.bytes);
  whole = g.whole;
}

pub NextLine-last : (old mid new : Stretch) (left mids now : Option (List ℕ)) (line : List ℕ) (v : Vec ℕ Global) → Gathers old mid left mids line → mid.bytes ≡ [] → Keeps mids now → IsAtEnd now → line ≡ v.items → 0 < length line → new.taken ≡ mid.taken → NextLine old new left now (Last v)
NextLine-last old mid new left mids now line v g none kept at_end same some count = record {
  got = g.got;
  taken = Consumes-kept left mids now g.got g.taken kept;
  next = (subst HasNoEnd same g.whole, joined_alone old mid left mids line g none ∙ same, at_end, rw (sym same) some, count ∙ g.count);
}

pub NextLine-end : (old mid new : Stretch) (left mids now : Option (List ℕ)) (line : List ℕ) → Gathers old mid left mids line → mid.bytes ≡ [] → Keeps mids now → IsAtEnd now → line ≡ [] → NextLine old new left now End
NextLine-end old mid new left mids now line g none kept at_end nothing = record {
  got = g.got;
  taken = Consumes-kept left mids now g.got g.taken kept;
  next = (joined_alone old mid left mids line g none ∙ nothing, at_end);
}

pub NextLine-failed : (old mid new : Stretch) (left mids now : Option (List ℕ)) (line : List ℕ) → Gathers old mid left mids line → mid.bytes ≡ [] → Keeps mids now → NextLine old new left now Failed
NextLine-failed old mid new left mids now line g none kept = record {
  got = g.got;
  taken = Consumes-kept left mids now g.got g.taken kept;
  next = rw (joined_alone old mid left mids line g none) g.whole;
}

-- a script's most bytes were taken, and the source gave more
pub NextLine-beyond : (old mid new : Stretch) (left mids now : Option (List ℕ)) (line more : List ℕ) → Gathers old mid left mids line → mid.bytes ≡ [] → mid.taken ≡ script_limit → Consumes mids now more → 0 < length more → NextLine old new left now Beyond
NextLine-beyond old mid new left mids now line more g none full consumed some = record {
  got = g.got ++ more;
  taken = Consumes-trans left mids now g.got more g.taken consumed;
  next = record {
    within = line;
    more = more;
    split = sym (append_assoc old.bytes g.got more) ∙ ap (λ l. l ++ more) (joined_alone old mid left mids line g none);
    whole = g.whole;
    some = some;
    count = omega (arith, full, g.count, length-append g.got more);
  };
}
