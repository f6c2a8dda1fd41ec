-- Updates with their names resolved (SPARQL 1.1 Update, 3).
use Rattle.std.specs.Prelude.{List, [], ◌∷◌, ◌++◌, length, Option, Some, None, map}
use Rattle.std.specs.Option.{option_map_or}
use Rattle.qs_syntax_tree.specs.declared.update.GraphOrDefault.{GraphOrDefault as WrittenEnd}
use Rattle.qs_syntax_tree.specs.declared.update.GraphOrDefault.TheVariants as written_end
use Rattle.qs_syntax_tree.specs.declared.update.GraphTarget.{GraphTarget as WrittenTarget}
use Rattle.qs_syntax_tree.specs.declared.update.GraphTarget.TheVariants as written_target
use Rattle.qs_syntax_tree.specs.declared.update.Modify.{Modify as WrittenModify}
use Rattle.qs_syntax_tree.specs.declared.update.Operation.{Operation as WrittenOperation}
use Rattle.qs_syntax_tree.specs.declared.update.Operation.TheVariants as written
use Rattle.qs_syntax_tree.specs.declared.update.QuadElement.{QuadElement}
use Rattle.qs_syntax_tree.specs.declared.update.QuadPattern.{QuadPattern}
use Rattle.qs_syntax_tree.specs.declared.update.Quads.{Quads}
use Rattle.qs_syntax_tree.specs.declared.update.Quads.TheVariants as written_quads
use Rattle.qs_syntax_tree.specs.declared.update.Transfer.{Transfer as WrittenTransfer}
use Rattle.qs_syntax_tree.specs.declared.update.Update.{Update as WrittenUpdate}
use Rattle.qs_syntax_tree.specs.declared.update.UpdateStep.{UpdateStep}
use Rattle.qs_syntax_ast.specs.declared.update.GraphOrDefault.{GraphOrDefault}
use Rattle.qs_syntax_ast.specs.declared.update.GraphOrDefault.TheVariants as end
use Rattle.qs_syntax_ast.specs.declared.update.GraphTarget.{GraphTarget}
use Rattle.qs_syntax_ast.specs.declared.update.GraphTarget.TheVariants as target
use Rattle.qs_syntax_ast.specs.declared.update.DeleteWhere.{DeleteWhere}
use Rattle.qs_syntax_ast.specs.declared.update.Modify.{Modify}
use Rattle.qs_syntax_ast.specs.declared.update.Operation.{Operation}
use Rattle.qs_syntax_ast.specs.declared.update.Operation.TheVariants as operation
use Rattle.qs_syntax_ast.specs.declared.update.QuadBlock.{QuadBlock}
use Rattle.qs_syntax_ast.specs.declared.update.Transfer.{Transfer}
use Rattle.qs_syntax_ast.specs.declared.update.Update.{Update}
use Rattle.qs_syntax_resolve.specs.Leaves.{iri, var_or_iri, variables_since}
use Rattle.qs_syntax_resolve.specs.Pattern.{group_of}
use Rattle.qs_syntax_resolve.specs.Query.{prologue}
use Rattle.qs_syntax_resolve.specs.Resolving.{Resolving, ◌>>=◌, ◌<$>◌, pure, all}
use Rattle.qs_syntax_resolve.specs.Resolving.{in_turn, optional}
use Rattle.qs_syntax_resolve.specs.Triples.{triples_after}

-- ---- quads

abbrev pub block : Quads → Resolving QuadBlock
block (written_quads.Triples ts) =
    triples_after [] ts >>= (λ triples. pure (record { graph = None; triples = triples }))
block (written_quads.Graph n ts) =
    var_or_iri n >>= (λ x. triples_after [] ts >>= (λ triples.
    pure (record { graph = Some x; triples = triples })))

abbrev pub quads : List QuadElement → Resolving (List QuadBlock)
quads es = all (map (λ e. block e.quads) es)

-- a template that isn't there has no quads
abbrev pub template : Option QuadPattern → Resolving (List QuadBlock)
template written = option_map_or (λ q. quads q.elements) written (pure [])

-- ---- graphs

abbrev pub target_of : WrittenTarget → Resolving GraphTarget
target_of (written_target.Graph i) = target.Graph <$> iri i
target_of written_target.Default = pure target.Default
target_of written_target.Named = pure target.Named
target_of written_target.All = pure target.All

abbrev pub end_of : WrittenEnd → Resolving GraphOrDefault
end_of written_end.Default = pure end.Default
end_of (written_end.Graph i) = end.Graph <$> iri i

unfoldable pub transfer : WrittenTransfer → Resolving Transfer
transfer t =
    end_of t.from >>= (λ x. end_of t.to >>= (λ y.
    pure (record { on_missing = t.on_missing; from = x; to = y })))

-- ---- operations

-- its variables are those that are read from here on
unfoldable pub modify : WrittenModify → Resolving Modify
modify m = λ s.
    (optional iri m.with >>= (λ w. template m.delete >>= (λ d. template m.insert >>= (λ i.
    group_of m.pattern >>= (λ g. variables_since (length s.variables) >>= (λ variables.
    pure (record { with = w; delete = d; insert = i; pattern = g; variables = variables })))))))
    s

unfoldable pub delete_where : QuadPattern → Resolving DeleteWhere
delete_where q = λ s.
    (quads q.elements >>= (λ blocks. variables_since (length s.variables) >>= (λ variables.
    pure (record { quads = blocks; variables = variables })))) s

unfoldable pub operation_of : WrittenOperation → Resolving Operation
operation_of (written.InsertData q) = operation.InsertData <$> quads q.elements
operation_of (written.DeleteData q) = operation.DeleteData <$> quads q.elements
operation_of (written.DeleteWhere q) = operation.DeleteWhere <$> delete_where q
operation_of (written.Modify m) = operation.Modify <$> modify m
operation_of (written.Clear silent t) = operation.Clear silent <$> target_of t
operation_of (written.Drop silent t) = operation.Drop silent <$> target_of t
operation_of (written.Create silent i) = operation.Create silent <$> iri i
operation_of (written.Add t) = operation.Add <$> transfer t
operation_of (written.Move t) = operation.Move <$> transfer t
operation_of (written.Copy t) = operation.Copy <$> transfer t

-- an operation, after those that are found already
abbrev pub operation_after : List Operation → Option WrittenOperation → Resolving (List Operation)
operation_after found None = pure found
operation_after found (Some o) = operation_of o >>= (λ x. pure (found ++ x ∷ []))

unfoldable pub step : List Operation → UpdateStep → Resolving (List Operation)
step found u = prologue u.prologue >>= (λ _. operation_after found u.operation)

-- Prefixes of a later prologue are added to the earlier ones.
unfoldable pub update : WrittenUpdate → Resolving Update
update u = (λ found. record { operations = found }) <$> in_turn step [] u.steps
