use Rattle.rec_parts.proofs.Elements.{name_exact, text_exact, truth_exact, stamp_exact, session_exact, return_code_exact, verifier_exact, privilege_exact, action_exact, kind_exact, outcomes_exact, table_exact, names_exact, privileges_exact}
use Rattle.rec_parts.proofs.TableRows.{cells_exact, columns_exact, places_exact, row_number_exact}
use Rattle.rec_parts.proofs.laws.parts_are_exact.Goals as goal

pub returns : goal.returns
returns c = record {
  a_name = name_exact;
  a_text = text_exact;
  a_truth = truth_exact;
  a_stamp = stamp_exact;
  a_session = session_exact;
  a_return_code = return_code_exact;
  a_verifier = verifier_exact;
  a_privilege = privilege_exact;
  an_action = action_exact;
  a_kind = kind_exact;
  some_outcomes = outcomes_exact;
  a_table = table_exact;
  some_names = names_exact;
  some_privileges = privileges_exact;
  some_columns = columns_exact;
  some_places = places_exact;
  some_cells = cells_exact;
  a_row_number = row_number_exact;
}
