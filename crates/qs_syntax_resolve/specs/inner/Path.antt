-- Definitions over those of `Path`, for proofs and the layers between.
use Rattle.std.specs.Prelude.{List, map}
use Rattle.qs_syntax_tree.specs.declared.path.PathOperand.{PathOperand}
use Rattle.qs_syntax_ast.specs.declared.path.Path.{Path}
use Rattle.qs_syntax_resolve.specs.Resolving.{Resolving, all}
use Rattle.qs_syntax_resolve.specs.Path.{path_of}

abbrev pub operands : List PathOperand → Resolving (List Path)
operands os = all (map (λ o. path_of o.path) os)
