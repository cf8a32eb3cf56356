use Rattle.std.proofs.Common.{◌≡◌, ◌<◌, ◌+◌, ℕ, Bool, true, false, if◌then◌else◌, List, length, take, get_or, refl, sym, ap, ◌∙◌, arith}
use Rattle.std.specs.List.{filter}
use Rattle.std.proofs.lemmas.List.Filters.{length-filter_more}
use Rattle.std.proofs.Math.Bool.{cond}
use Rattle.au_entries.specs.declared.trail_record.Record.{Record}
use Rattle.au_main.specs.Samples.{fine_count, is_fine}
use Rattle.au_main.proofs.sampling.fine_grained.Goals as goal

cond_if : (b : Bool) (m n : ℕ) → cond b m n ≡ (if b then m else n)
cond_if true m n = refl
cond_if false m n = refl

-- as std's lemma counts an element
abbrev one_for : Record → ℕ
one_for entry = cond (is_fine entry) 1 0

one_more : (trail : List Record) (i count more next : ℕ) (entry : Record) → i < length trail → entry ≡ get_or trail i entry → count ≡ length (filter is_fine (take i trail)) → more ≡ fine_count entry
    → next ≡ count + more → next ≡ length (filter is_fine (take (i + 1) trail))
one_more trail i count more next entry least is so_far more_is next_is =
    let grows = length-filter_more is_fine trail i entry least in
    let one : one_for (get_or trail i entry) ≡ fine_count entry = ap one_for (sym is) ∙ cond_if (is_fine entry) 1 0 in
    next_is ∙ ap (λ (n : ℕ). n + more) so_far ∙ ap (λ (n : ℕ). length (filter is_fine (take i trail)) + n) (more_is ∙ sym one) ∙ sym grows

pub loop-entry-preserved : goal.loop-entry-preserved
loop-entry-preserved c =
    let entry = c.entry-item.result in
    record {
      counted = one_more c.args.trail.now c.loop-entry.entry-index c.loop-entry.count c.fine_count-count.result _ entry c.loop-entry-test.true c.entry-item.is c.loop-entry.invariant.counted c.fine_count-count.ensures.value refl;
      few = (let more = c.fine_count-count.ensures.few in let before = c.loop-entry.invariant.few in omega arith);
    }
