-- Which reader belongs to which part.
use Rattle.rec_parts.specs.Parts.{name, text, truth, stamp, session, return_code, verifier, privilege, action, kind, outcomes, table, names, privileges_in_order}
use Rattle.rec_parts.specs.Tables.{cells, columns, places, row_number}
use Rattle.rec_parts.specs.Exactness.{IsExact}
use Rattle.rec_parts.specs.descent.Parts.{name_first, text_first, truth_first, stamp_first, session_first, return_code_first, verifier_first, privilege_first, action_first, kind_first, outcomes_first, table_first, names_first, privileges_first}
use Rattle.rec_parts.specs.descent.Tables.{cells_first, columns_first, places_first, row_number_first}

-- each part is read exactly where it is spelled
pub record ArePartsExact : Type 0 where
  pub a_name : IsExact name name_first
  pub a_text : IsExact text text_first
  pub a_truth : IsExact truth truth_first
  pub a_stamp : IsExact stamp stamp_first
  pub a_session : IsExact session session_first
  pub a_return_code : IsExact return_code return_code_first
  pub a_verifier : IsExact verifier verifier_first
  pub a_privilege : IsExact privilege privilege_first
  pub an_action : IsExact action action_first
  pub a_kind : IsExact kind kind_first
  pub some_outcomes : IsExact outcomes outcomes_first
  pub a_table : IsExact table table_first
  pub some_names : IsExact names names_first
  pub some_privileges : IsExact privileges_in_order privileges_first
  pub some_columns : IsExact columns columns_first
  pub some_places : IsExact places places_first
  pub some_cells : IsExact cells cells_first
  pub a_row_number : IsExact row_number row_number_first
