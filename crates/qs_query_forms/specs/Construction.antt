-- What a CONSTRUCT asks for (SPARQL 1.1 Query, 16.2): the template, the pattern, the conditions of
-- ORDER BY, OFFSET and LIMIT.
use Rattle.std.specs.Prelude.{map}
use Rattle.qs_syntax_ast.specs.declared.query.Construct.{Construct}
use Rattle.qs_syntax_ast.specs.declared.query.Query.{Query}
use Rattle.qs_syntax_scope.specs.Firsts.{names_of}
use Rattle.qs_algebra.specs.Translation.{translated}
use Rattle.qs_query_template.specs.Template.{template_of}
use Rattle.qs_query_forms.specs.Modifiers.{slice_of, condition_of}
use Rattle.qs_query_forms.specs.declared.construction.Construction.{Construction}

-- what the CONSTRUCT asks for
abbrev pub construction : Query → Construct → Construction
construction query construct =
    let names = names_of query.variables in record {
      template = template_of names construct.template;
      pattern = translated query;
      order = map (condition_of names) construct.modifiers.order;
      slice = slice_of construct.modifiers;
    }
