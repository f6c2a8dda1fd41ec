-- What a query asks for (SPARQL 1.1 Query, 16).
use Rattle.qs_syntax_ast.specs.declared.query.Query.{Query}
use Rattle.qs_syntax_ast.specs.declared.query.QueryForm.{QueryForm}
use Rattle.qs_syntax_ast.specs.declared.query.QueryForm.TheVariants as form
use Rattle.qs_algebra.specs.Translation.{translated}
use Rattle.qs_query_forms.specs.Construction.{construction}
use Rattle.qs_query_forms.specs.Selection.{selection}
use Rattle.qs_query_forms.specs.declared.request.Request.{Request}
use Rattle.qs_query_forms.specs.declared.request.Request.TheVariants as asked

-- by its form
abbrev pub form_request : Query → QueryForm → Request
form_request query (form.Select select) = asked.Select (selection query select)
form_request query (form.Construct construct) = asked.Construct (construction query construct)
-- (16.3: its pattern alone; its modifiers have no effect)
form_request query (form.Ask ask) = asked.Ask (translated query)
