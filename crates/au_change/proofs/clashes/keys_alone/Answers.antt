use Rattle.std.proofs.Common.{◌≡◌, ◌∙◌, ◌++◌, List, sym, ap, map, subst, true, false}
use Rattle.std.specs.List.{Contains}
use Rattle.std.proofs.lemmas.List.{take_all}
use Rattle.au_txn.specs.declared.change.RowChange.{RowChange}
use Rattle.au_change.specs.Inside.{IsStood, key_parts, new_key}
use Rattle.au_change.proofs.Clashing.{next_keys}
use Rattle.au_change.proofs.Members.{each_next}
use Rattle.au_change.proofs.clashes.keys_alone.Goals as goal

pub loop-change-preserved : goal.loop-change-preserved
loop-change-preserved c =
    let i = c.loop-change.change-index in
    let x = c.change-item.result in
    let not_stood : ¬ IsStood c.args.keyed.now x = λ stood. (let e : false ≡ true = sym c.if-branch.false ∙ c.in_ok-add_key.ensures.stood.1 stood in cc) in
    record {
      none = each_next (λ (change : RowChange). ¬ IsStood c.args.keyed.now change) c.args.changes.now i x c.loop-change-test.true c.loop-change.invariant.none
          (subst (λ (change : RowChange). ¬ IsStood c.args.keyed.now change) c.change-item.is not_stood);
      keys = next_keys (λ key. key.items) c.args.keyed.now.places.now c.args.changes.now i x c.loop-change.keys.items c.add_key.new.keys.items _ c.loop-change-test.true
          (c.in_ok-add_key.ensures.keys c.if-branch.false ∙ ap (λ (change : RowChange). map (λ key. key.items) c.loop-change.keys.items ++ key_parts (new_key c.args.keyed.now.places.now change)) c.change-item.is)
          c.loop-change.invariant.keys;
    }

pub returns-clause-stood : goal.returns-clause-stood
returns-clause-stood c =
    subst (λ (changes : List RowChange). (change : RowChange) → Contains changes change → ¬ IsStood c.args.keyed.now change)
    (take_all c.loop-change.change-index c.args.changes.now c.loop-change-test.false) c.loop-change.invariant.none
