use Rattle.std.proofs.Common.{sym, subst}
use Rattle.std.proofs.lemmas.List.Elements.{All-from_recursion}
use Rattle.rec_codec.proofs.listed.write_each.Goals as goal

pub write-requires : goal.write-requires
write-requires g c = subst (λ x. g.T.Listed.spelling.IsSpellable x) (sym c.value-item.is) (All-from_recursion g.T.Listed.spelling.IsSpellable c.args.values.now c.requires c.loop-value.value-index _ c.loop-value-test.true)
