-- That the constants of the program are those of the tables.
use Rattle.std.specs.Prelude.{◌≡◌}
use Rattle.sql_ast.specs.declared.call.TheConstants.Parameter as parameters
use Rattle.sql_ast.specs.declared.call.TheConstants.Procedure as procedures
use Rattle.sql_ast.specs.declared.context.TheConstants.Attribute as attributes
use Rattle.sql_ast.specs.Attributes.{each_attribute, namespace}
use Rattle.sql_ast.specs.Procedures.{each_parameter, each_procedure}

-- each list of names is whole
pub record AreNamesListed : Type 0 where
  pub procedures : procedures.EACH ≡ each_procedure
  pub parameters : parameters.EACH ≡ each_parameter
  pub namespace : attributes.NAMESPACE.now ≡ namespace
  pub attributes : attributes.EACH ≡ each_attribute
