-- Definitions over those of `Request`, for proofs and the layers between.
use Rattle.qs_syntax_ast.specs.declared.query.Query.{Query}
use Rattle.qs_query_forms.specs.Request.{form_request}
use Rattle.qs_query_forms.specs.declared.request.Request.{Request}

-- what the query asks for
abbrev pub request : Query → Request
request query = form_request query query.form
