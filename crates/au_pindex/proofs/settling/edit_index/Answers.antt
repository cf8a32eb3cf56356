use Rattle.std.proofs.Common.{◌∙◌, ◌<◌, ◌^◌, length, sym, ap, arith}
use Rattle.au_pindex.specs.Indexing.{condition_of}
use Rattle.au_pindex.specs.descent.Leading.{conditions_after}
use Rattle.au_pindex.proofs.Edited.{edited_of}
use Rattle.au_pindex.proofs.Laid.{length_mapped}
use Rattle.au_pindex.proofs.settling.edit_index.Goals as goal

pub returns : goal.returns
returns c = λ enabled later policies changed leads are conditions.
    let few : length policies < 2 ^ 64 = omega (arith, c.conditions_are_few.ensures, ap length c.as_slice.ensures.value, ap length conditions, length_mapped condition_of policies) in (
      edited_of enabled later policies changed few c.args.index.now.buckets are c.args.edit c.edit_buckets.new.buckets c.edit_buckets.ensures.edited leads,
      c.edit_conditions.ensures ∙ ap (conditions_after c.args.edit.condition) conditions ∙ sym leads.conditions,
    )
