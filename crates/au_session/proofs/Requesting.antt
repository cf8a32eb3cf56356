-- How the service of a connection goes on and ends.
use Rattle.std.proofs.Common.{◌≡◌, inl, inr, ℕ, true, false, List, [], ◌∷◌, ◌++◌, drop, refl, sym, ap, ◌∙◌, subst, append-nil}
use Rattle.std.specs.Prelude.{Option}
use Rattle.au_base.specs.declared.numbers.ClientNo.{ClientNo}
use Rattle.au_http.specs.declared.requests.Need.{Need}
use Rattle.au_http.specs.declared.requests.Need.TheVariants.{Bad, Got, More}
use Rattle.au_http.specs.Pipelines.{KeepRequests}
use Rattle.au_http.specs.Requests.{Needs}
use Rattle.au_http.specs.Responses.{refusal_text}
use Rattle.au_io.specs.Faults.{HasRisen}
use Rattle.au_io.specs.Visits.{Told}
use Rattle.au_store.specs.declared.entry.Entry.{Entry}
use Rattle.au_turn.specs.declared.pass.Pass.{Pass}
use Rattle.au_turn.specs.Pass.{WentOnBy}
use Rattle.au_session.specs.declared.ended.Ended.{Ended}
use Rattle.au_session.specs.declared.ended.Ended.TheVariants as ended
use Rattle.au_session.specs.Entries.{AllLeave, Leaves}
use Rattle.au_session.specs.Exchanges.{AreGiven, EndsWith, Exchange, response_of, responses_of}
use Rattle.au_session.specs.Session.{EndsBy, Served, Talk}
use Rattle.au_session.specs.descent.Calls.{IsGiven, IsRefusedBy, IsTaken, IsUngiven, IsUntaken}
use Rattle.au_session.specs.descent.Serving.{Serving}
use Rattle.au_session.proofs.Exchanging.{leave_next, open_next, responses_next}
use Rattle.au_session.proofs.Talking.{no_ending, talk_asked, talk_given, talk_start, talk_taken, talk_went}

-- what is needed of bytes that are those of the buffer
pub needs_at : (bytes buffer : List ℕ) (need n : Need) → Needs bytes need → bytes ≡ buffer → need ≡ n → Needs buffer n
needs_at bytes buffer need n needs same is = subst (λ (m : Need). Needs buffer m) is (subst (λ (l : List ℕ). Needs l need) same needs)

abbrev told : Option (List ℕ) → Option (List ℕ) → Option (List ℕ) → ℕ → Told
told left taken given faults = record { left = left; taken = taken; given = given; faults = faults }

-- a connection that tells the same is the same, as far as it is told
pub same_told : (f g : Told) → g.left ≡ f.left → g.taken ≡ f.taken → g.given ≡ f.given → g.faults ≡ f.faults → g ≡ f
same_told f g left taken given faults =
    ap (λ (o : Option (List ℕ)). told o g.taken g.given g.faults) left
    ∙ ap (λ (o : Option (List ℕ)). told f.left o g.given g.faults) taken
    ∙ ap (λ (o : Option (List ℕ)). told f.left f.taken o g.faults) given
    ∙ ap (λ (n : ℕ). told f.left f.taken f.given n) faults

module _ {T : Type 0} (client : ClientNo) (f : Told) (p : Pass T Entry) where
  pub serving_start : (now : List ℕ) → now ≡ [] → Serving client f f p p now
  serving_start now is = subst (λ (l : List ℕ). Serving client f f p p l) (sym is)
      (record { exchanges = []; made = []; left = refl; talk = talk_start f p; unclosed = tt; well = refl })

  -- the ending's entries follow
  pub served_ended : (g : Told) (q r : Pass T Entry) (e : Ended) (came ending : List Entry) → Served client f g p q e [] → WentOnBy came ending q r → Served client f g p r e ending
  served_ended g q r e came ending s went = record {
    exchanges = s.exchanges;
    rest = s.rest;
    gave = s.gave;
    made = s.made;
    left = s.left;
    talk = subst (λ (m : List Entry). Talk f g p r s.exchanges s.rest s.gave m) (ap (λ (m : List Entry). m ++ ending) (append-nil s.made))
        (talk_went f p g q s.exchanges s.rest s.gave (s.made ++ []) s.talk r came ending went);
    ends = s.ends;
  }

  module _ (g : Told) (q : Pass T Entry) (buffer : List ℕ) (s : Serving client f g p q buffer) where
    all_given : AreGiven s.exchanges (responses_of s.exchanges)
    all_given = record { text = refl; unclosed = s.unclosed }

    -- there was no memory for a request
    pub no_memory : Served client f g p q ended.Memory []
    no_memory = record {
      exchanges = s.exchanges;
      rest = buffer;
      gave = responses_of s.exchanges;
      made = s.made;
      left = s.left;
      talk = no_ending f p g q s.exchanges buffer (responses_of s.exchanges) s.made s.talk;
      ends = (s.well, inl all_given);
    }

    module _ (stay : (bytes : List ℕ) → KeepRequests bytes) (h : Told) where
      -- more bytes came
      pub serving_taken : (now : List ℕ) → IsTaken buffer now g h → Serving client f h p q now
      serving_taken now r = record {
        exchanges = s.exchanges;
        made = s.made;
        left = s.left;
        talk = subst (λ (l : List ℕ). Talk f h p q s.exchanges l (responses_of s.exchanges) s.made) (sym r.buffer)
            (talk_taken f p g q s.exchanges buffer (responses_of s.exchanges) s.made s.talk stay h r.bytes r.left r.taken r.given);
        unclosed = s.unclosed;
        well = r.well ∙ s.well;
      }

      -- the bytes behind the requests, once these were taken
      taken_talk : (end : Ended) (r : IsUntaken buffer g h end) → Talk f h p q s.exchanges (buffer ++ r.bytes) (responses_of s.exchanges) (s.made ++ [])
      taken_talk end r = no_ending f p h q s.exchanges (buffer ++ r.bytes) (responses_of s.exchanges) s.made
          (talk_taken f p g q s.exchanges buffer (responses_of s.exchanges) s.made s.talk stay h r.bytes r.left r.taken r.given)

      -- nothing more was taken
      served_taking : (end : Ended) (r : IsUntaken buffer g h end) → r.bytes ≡ [] → EndsBy f h s.exchanges buffer (responses_of s.exchanges) end → Served client f h p q end []
      served_taking end r none ends = record {
        exchanges = s.exchanges;
        rest = buffer;
        gave = responses_of s.exchanges;
        made = s.made;
        left = s.left;
        talk = subst (λ (l : List ℕ). Talk f h p q s.exchanges l (responses_of s.exchanges) (s.made ++ [])) (ap (λ (l : List ℕ). buffer ++ l) none ∙ append-nil buffer) (taken_talk end r);
        ends = ends;
      }

      -- the connection ends where more of a request is asked for
      pub untaken : (end : Ended) → Needs buffer More → IsUntaken buffer g h end → Served client f h p q end []
      untaken ended.Closed need r = served_taking ended.Closed r r.why.0 (r.why.3 ∙ s.well, inl (record { given = all_given; unwhole = need; ended = r.why.2 }, r.why.1))
      untaken ended.Cut need r = served_taking ended.Cut r r.why.0 (r.why.3 ∙ s.well, record { given = all_given; unwhole = need; ended = r.why.2 }, r.why.1)
      untaken ended.LinkFault need r = served_taking ended.LinkFault r r.why.0 (subst (λ (n : ℕ). HasRisen n h.faults) s.well r.why.1, inl (all_given, need))
      untaken (ended.Refused status) need r = absurd r.why
      untaken ended.Memory need r = record {
        exchanges = s.exchanges;
        rest = buffer ++ r.bytes;
        gave = responses_of s.exchanges;
        made = s.made;
        left = s.left;
        talk = taken_talk ended.Memory r;
        ends = (r.why ∙ s.well, inl all_given);
      }

    -- the next request is refused
    module _ (status : ℕ) (need : Needs buffer (Bad status)) (h : Told) where
      pub refused : (e : Ended) → IsRefusedBy status (refusal_text status) g h e → Served client f h p q e []
      refused ended.Closed by = absurd by
      refused ended.Cut by = absurd by
      refused ended.Memory by = absurd by
      refused (ended.Refused given_status) by = subst (λ (n : ℕ). Served client f h p q (ended.Refused n) []) (sym by.0) (record {
        exchanges = s.exchanges;
        rest = buffer;
        gave = responses_of s.exchanges ++ refusal_text status;
        made = s.made;
        left = s.left;
        talk = no_ending f p h q s.exchanges buffer (responses_of s.exchanges ++ refusal_text status) s.made
            (talk_given f p g q s.exchanges buffer (responses_of s.exchanges) s.made s.talk h (refusal_text status) by.1.given by.1.left by.1.taken);
        ends = (by.1.well ∙ s.well, record { unclosed = s.unclosed; refused = need; begins = ([], append-nil (refusal_text status)); text = refl });
      })
      refused ended.LinkFault by = record {
        exchanges = s.exchanges;
        rest = buffer;
        gave = responses_of s.exchanges ++ by.front;
        made = s.made;
        left = s.left;
        talk = no_ending f p h q s.exchanges buffer (responses_of s.exchanges ++ by.front) s.made
            (talk_given f p g q s.exchanges buffer (responses_of s.exchanges) s.made s.talk h by.front by.given by.left by.taken);
        ends = (
          subst (λ (n : ℕ). HasRisen n h.faults) s.well by.rose,
          inr (by.front, inr (status, record { unclosed = s.unclosed; refused = need; begins = by.begins; text = refl })),
        );
      }

    -- the next request was asked
    module _ (r : Pass T Entry) (x : Exchange) (used : ℕ) (came more : List Entry) (need : Needs buffer (Got used x.ask x.close)) (leaves : Leaves client x.ask x.said more) (went : WentOnBy came more q r) where
      abbrev all : List Exchange
      all = s.exchanges ++ x ∷ []

      asked : Talk f g p r all (drop used buffer) (responses_of s.exchanges) (s.made ++ more)
      asked = talk_asked f p g q s.exchanges buffer (responses_of s.exchanges) s.made s.talk r x used came more need went

      all_leave : AllLeave client all (s.made ++ more)
      all_leave = leave_next client s.exchanges x s.made more s.left leaves

      ends_with : EndsWith s.exchanges x all
      ends_with = record { list = refl; unclosed = s.unclosed }

      -- its response wasn't given whole
      pub asked_ungiven : (h : Told) (e : Ended) → IsUngiven (response_of x) g h e → Served client f h p r e []
      asked_ungiven h ended.Closed by = absurd by
      asked_ungiven h ended.Cut by = absurd by
      asked_ungiven h (ended.Refused status) by = absurd by
      asked_ungiven h ended.Memory by = subst (λ (t : Told). Served client f t p r ended.Memory []) (sym by) (record {
        exchanges = all;
        rest = drop used buffer;
        gave = responses_of s.exchanges;
        made = s.made ++ more;
        left = all_leave;
        talk = no_ending f p g r all (drop used buffer) (responses_of s.exchanges) (s.made ++ more) asked;
        ends = (
          s.well,
          inr (record { before = s.exchanges; last = x; ends = ends_with; begins = (response_of x, refl); text = sym (append-nil (responses_of s.exchanges)) }),
        );
      })
      asked_ungiven h ended.LinkFault by = record {
        exchanges = all;
        rest = drop used buffer;
        gave = responses_of s.exchanges ++ by.front;
        made = s.made ++ more;
        left = all_leave;
        talk = no_ending f p h r all (drop used buffer) (responses_of s.exchanges ++ by.front) (s.made ++ more)
            (talk_given f p g r all (drop used buffer) (responses_of s.exchanges) (s.made ++ more) asked h by.front by.given by.left by.taken);
        ends = (
          subst (λ (n : ℕ). HasRisen n h.faults) s.well by.rose,
          inr (by.front, inl (record { before = s.exchanges; last = x; ends = ends_with; begins = by.begins; text = refl })),
        );
      }

      -- its response was given
      module _ (h : Told) (by : IsGiven (response_of x) g h) where
        answered : Talk f h p r all (drop used buffer) (responses_of all) (s.made ++ more)
        answered = subst (λ (l : List ℕ). Talk f h p r all (drop used buffer) l (s.made ++ more)) (sym (responses_next s.exchanges x))
            (talk_given f p g r all (drop used buffer) (responses_of s.exchanges) (s.made ++ more) asked h (response_of x) by.given by.left by.taken)

        pub asked_closed : x.close ≡ true → Served client f h p r ended.Closed []
        asked_closed closes = record {
          exchanges = all;
          rest = drop used buffer;
          gave = responses_of all;
          made = s.made ++ more;
          left = all_leave;
          talk = no_ending f p h r all (drop used buffer) (responses_of all) (s.made ++ more) answered;
          ends = (by.well ∙ s.well, inr ((s.exchanges, x, ends_with, closes), refl));
        }

        pub asked_on : (now : List ℕ) → now ≡ drop used buffer → x.close ≡ false → Serving client f h p r now
        asked_on now is stays = record {
          exchanges = all;
          made = s.made ++ more;
          left = all_leave;
          talk = subst (λ (l : List ℕ). Talk f h p r all l (responses_of all) (s.made ++ more)) (sym is) answered;
          unclosed = open_next s.exchanges x s.unclosed stays;
          well = by.well ∙ s.well;
        }
