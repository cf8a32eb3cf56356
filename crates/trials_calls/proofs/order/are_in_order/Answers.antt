use Rattle.std.proofs.Common.{◌≡◌, ◌∙◌, ◌∷◌, ◌+◌, ◌<◌, ℕ, true, List, length, drop, ap, sym, subst, arith}
use Rattle.std.specs.Option.{option_copied}
use Rattle.std.proofs.lemmas.List.{drop_more}
use Rattle.trials_calls.proofs.Rising.{one_more, rise_behind}
use Rattle.trials_calls.proofs.order.are_in_order.Goals as goal

pub loop-name-preserved : goal.loop-name-preserved
loop-name-preserved c = λ rise.
    let names = c.args.names.now in
    let at = c.loop-name.name-index in
    let name = c.name-item.result in
    let within : at < length names = c.loop-name-test.true in
    let here : drop at names ≡ name ∷ drop (at + 1) names = drop_more names at name within ∙ ap (λ (n : List ℕ). n ∷ drop (at + 1) names) (sym c.name-item.is) in
    c.loop-name.invariant (subst (λ (ns : List (List ℕ)). rise_behind (option_copied c.loop-name.last) ns ≡ true) (sym here)
    (one_more (option_copied c.loop-name.last) name (drop (at + 1) names) (sym c.comes_behind.ensures ∙ c.if-not-comes_behind.false) rise))
