use Rattle.au_ruling.specs.Kinds.{kind_of}
use Rattle.au_ruling.proofs.Objects.{object_named}
use Rattle.au_ruling.proofs.Purges.{timely_purge}
use Rattle.au_ruling.proofs.Told.{all_few, all_named, all_spelled, told}
use Rattle.au_ruling.proofs.laws.rulings_can_be_written.Goals as goal

pub returns-clause-told : goal.returns-clause-told
returns-clause-told c basis statement ruling comes =
    told c.definitions_hold.ensures.told c.administration_holds.ensures.told c.conditions_are_read.ensures.told c.expression_codes_fit.ensures.names c.expression_codes_fit.ensures.conditions
    c.same_is_equal.ensures.table (kind_of statement) basis statement ruling comes

pub returns-clause-written : goal.returns-clause-written
returns-clause-written c basis statement ruling sound stated comes =
    all_spelled basis sound statement ruling c.definitions_hold.ensures.written c.administration_holds.ensures.written stated (kind_of statement) comes

pub returns-clause-fired : goal.returns-clause-fired
returns-clause-fired c basis statement ruling sound comes = all_named basis sound statement ruling (kind_of statement) comes

pub returns-clause-few : goal.returns-clause-few
returns-clause-few c basis statement ruling sound stated comes = all_few basis sound statement ruling stated (kind_of statement) comes

pub returns-clause-purged : goal.returns-clause-purged
returns-clause-purged c basis statement ruling sound comes = timely_purge (kind_of statement) basis statement ruling sound comes

pub returns-clause-object : goal.returns-clause-object
returns-clause-object c user statement named stated = object_named user statement named stated.tables stated.named stated.administered
