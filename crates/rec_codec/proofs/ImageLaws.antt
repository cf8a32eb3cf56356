-- Laws of images that are written piece by piece.
use Rattle.std.proofs.Common.{List, [], ◌++◌, sym, subst, append_assoc, arith}
use Rattle.std.proofs.lemmas.List.{append-nil, length-append}
use Rattle.au_entries.specs.declared.change.Change.{Change}
use Rattle.au_entries.specs.declared.trail_record.Record.{Record}
use Rattle.rec_codec.specs.Images.{Holds, Written, Wrote}

-- to write nothing changes nothing
pub none_wrote : (written : Written) → Wrote written written [] []
none_wrote written = record {
  changes_left = omega arith;
  records_left = omega arith;
  holds = λ last done told h.
      subst (λ (rs : List Record). Holds written last (done ++ []) rs) (sym (append-nil told)) (subst (λ (cs : List Change). Holds written last cs told) (sym (append-nil done)) h);
}

-- what is written in two goes is written in one
pub both_wrote : (a b c : Written) (changes more : List Change) (records more_records : List Record) → Wrote a b changes records → Wrote b c more more_records → Wrote a c (changes ++ more) (records ++ more_records)
both_wrote a b c changes more records more_records one two = record {
  changes_left = omega (arith, one.changes_left, two.changes_left, length-append changes more);
  records_left = omega (arith, one.records_left, two.records_left, length-append records more_records);
  holds = λ last done told h.
      subst (λ (rs : List Record). Holds c last (done ++ (changes ++ more)) rs) (append_assoc told records more_records)
      (subst (λ (cs : List Change). Holds c last cs ((told ++ records) ++ more_records)) (append_assoc done changes more)
      (two.holds last (done ++ changes) (told ++ records) (one.holds last done told h)));
}
