mod ArgumentLaws
mod CallLaws
mod ProcedureLaws
