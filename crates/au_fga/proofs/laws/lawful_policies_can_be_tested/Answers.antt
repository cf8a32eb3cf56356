use Rattle.au_fga.proofs.LawfulTables.{all_truths}
use Rattle.au_fga.proofs.laws.lawful_policies_can_be_tested.Goals as goal

pub returns : goal.returns
returns c = λ conditions kept resolves lawful. record {
  truths = all_truths conditions kept resolves kept.fga lawful.founded.fga lawful.truths.fga;
  tables = lawful.ordered.tables;
  fga = lawful.ordered.fga;
}
