-- What a part makes of a place in a statement.
use Rattle.qs_terms.specs.Statement.{Statement}
use Rattle.qs_nquads.specs.declared.statement_state.StatementState as declared

-- another place, or a whole statement
pub data Next : Type 0 where
  StatementState : declared.StatementState → Next
  Quad : Statement → Next
