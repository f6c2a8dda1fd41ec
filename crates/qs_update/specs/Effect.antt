-- What an operation does (SPARQL 1.1 Update, 3.1, 3.2 and 4.3): it removes quads and then adds
-- others, and takes numbers for fresh blank nodes; or the fault that is due. COPY, MOVE and ADD of
-- a graph to itself do nothing once the graph is there. DELETE WHERE has a basic graph pattern for
-- each block of its quads: an empty GRAPH has a solution only where there is such a graph. The
-- variables of an operation are those of its own text, each once. Its solutions are those of its
-- own WHERE (3.1.3), whichever variables the other operations of a request name.
use Rattle.std.specs.Prelude.{◌≡◌, ◌⊎◌, ◌<◌, ◌≤◌, ℕ, List, [], ◌∷◌, length, Option, Some, None}
use Rattle.std.specs.Prelude.{option_map, Ok, Err, if◌then◌else◌}
use Rattle.std.specs.List.{filter}
use Rattle.qs_terms.specs.Bag.{SameBag, once}
use Rattle.qs_terms.specs.Dataset.{graph_of}
use Rattle.qs_terms.specs.Outcome.{Outcome, and_then}
use Rattle.qs_terms.specs.Statement.{Statement, same_graph, same_statement}
use Rattle.qs_terms.specs.declared.fault.QFault.{QFault}
use Rattle.qs_terms.specs.declared.fault.QFault.TheVariants as fault
use Rattle.qs_terms.specs.declared.term.Term.{Term}
use Rattle.qs_terms.specs.declared.term.Term.TheVariants as value
use Rattle.qs_syntax_tree.specs.declared.update.OnMissing.{OnMissing}
use Rattle.qs_syntax_tree.specs.declared.update.OnMissing.TheVariants as on_missing
use Rattle.qs_syntax_ast.specs.declared.update.GraphTarget.{GraphTarget}
use Rattle.qs_syntax_ast.specs.declared.update.Operation.{Operation}
use Rattle.qs_syntax_ast.specs.declared.update.Operation.TheVariants as op
use Rattle.qs_syntax_ast.specs.declared.update.QuadBlock.{QuadBlock}
use Rattle.qs_syntax_ast.specs.declared.update.Transfer.{Transfer}
use Rattle.qs_syntax_scope.specs.Firsts.{firsts, names_of}
use Rattle.qs_algebra_solutions.specs.Solution.{Solution, unbound}
use Rattle.qs_query_template.specs.Instances.{instances, made, next_after}
use Rattle.qs_query_template.specs.Template.{template_of_blocks, template_in}
use Rattle.qs_query_template.specs.declared.template.Template.{Template}
use Rattle.qs_algebra.specs.Translation.{translated_where, translated_blocks}
use Rattle.qs_algebra_patterns.specs.declared.named_pattern.Pattern.{Pattern}
use Rattle.qs_query_forms.specs.Sequence.{whole}
pub use Rattle.qs_store.specs.WholeGraphs.{removed_by}
use Rattle.qs_store.specs.declared.default_graph.DefaultGraph.{DefaultGraph}
use Rattle.qs_store.specs.declared.removal.Removal.{Removal}
use Rattle.qs_store.specs.declared.removal.Removal.TheVariants as removal
use Rattle.qs_update.specs.Graphs.{is_target, copies, exists, graph_name, visible}
use Rattle.qs_update.specs.declared.effect.Effect.{Effect}

abbrev pub nothing : ℕ → Effect
nothing next = record { removed = []; added = []; next = next }

-- ---- templates and solutions (3.1.1 to 3.1.3, 4.3.1 and 4.3.2)

-- the instances of one template under these solutions are removed, which takes no fresh blank
-- nodes: none stands in it. Then those of the other are added, whose fresh blank nodes have the
-- numbers from the next one on; or the fault that these don't suffice
abbrev pub modified : Template → Template → ℕ → List Solution → Outcome Effect
modified delete insert next rows =
    and_then (made insert next rows) (λ added. Ok (record {
      removed = instances (record delete { blanks = 0 }) next rows;
      added = added;
      next = next_after insert next (length rows);
    }))

-- INSERT DATA and DELETE DATA: under the one solution, which binds nothing
abbrev pub of_data : List QuadBlock → List QuadBlock → ℕ → Outcome Effect
of_data delete insert next =
    modified (template_of_blocks [] delete) (template_of_blocks [] insert) next (unbound 0 ∷ [])

-- all solutions of a WHERE over the quads, where the graph of this name is the default graph, if
-- one is given
abbrev pub solutions : Pattern → DefaultGraph → Option Term → List Statement → List Solution
solutions pattern default name quads = let set =
    once same_statement (visible default quads) in whole pattern set (graph_of set name)

-- under all solutions of a WHERE, in some order; or the fault that there are more than max_rows of
-- them
abbrev pub IsModified : ℕ → Template → Template → ℕ → List Solution → Outcome Effect → Type 0
IsModified max_rows delete insert next all outcome =
    ((max_rows < length all) × (outcome ≡ Err fault.TooManyRows))
    ⊎ ((length all ≤ max_rows) × (rows : List Solution) × SameBag rows all
    × (outcome ≡ modified delete insert next rows))

-- ---- graphs (3.1.5 and 3.2)

-- CLEAR and DROP: no graph is there without quads, so both do the same, and neither fails
abbrev pub cleared : GraphTarget → List Statement → ℕ → Effect
cleared t quads next = record { removed = filter (is_target t) quads; added = []; next = next }

-- the fault, or nothing where SILENT stands
abbrev pub fault_or_nothing : OnMissing → QFault → ℕ → Outcome Effect
fault_or_nothing on_missing.Fault f next = Err f
fault_or_nothing on_missing.Silent f next = Ok (nothing next)

-- CREATE: a graph without quads isn't there, so nothing is created
abbrev pub created : OnMissing → List ℕ → List Statement → ℕ → Outcome Effect
created on_exists name quads next = if exists (Some (value.Iri name)) quads
    then fault_or_nothing on_exists fault.GraphExists next else Ok (nothing next)

-- a graph put into another, where these quads are removed before; into itself, which does nothing
abbrev pub put_over : List Statement → Option Term → Option Term → List Statement → ℕ → Effect
put_over removed from to quads next = if same_graph from to then nothing next
    else record { removed = removed; added = copies from to quads; next = next }

-- the same where there is such a graph
abbrev pub transferred : Removal → Transfer → List Statement → ℕ → Outcome Effect
transferred removal t quads next = let from = graph_name t.from in let to = graph_name t.to in
    if exists from quads then Ok (put_over (removed_by removal from to quads) from to quads next)
    else fault_or_nothing t.on_missing fault.NoGraph next

-- ---- operations

-- what the operation does over these quads, where this is the next blank node's number. Of a
-- DELETE WHERE the quads are pattern and template (3.1.3.3). WITH names the default graph of a
-- WHERE and of both templates (3.1.3)
abbrev pub IsEffect : ℕ → DefaultGraph → Operation → List Statement → ℕ → Outcome Effect → Type 0
IsEffect rows default (op.InsertData blocks) quads next out = out ≡ of_data [] blocks next
IsEffect rows default (op.DeleteData blocks) quads next out = out ≡ of_data blocks [] next
IsEffect rows default (op.DeleteWhere d) quads next out =
    let variables = firsts d.variables in
    let names = names_of variables in
    IsModified rows (template_of_blocks names d.quads) (template_of_blocks names []) next
    (solutions (translated_blocks variables d.quads) default None quads) out
IsEffect rows default (op.Modify m) quads next out =
    let variables = firsts m.variables in
    let names = names_of variables in
    IsModified rows (template_in m.with (template_of_blocks names m.delete))
    (template_in m.with (template_of_blocks names m.insert)) next
    (solutions (translated_where variables m.pattern) default (option_map value.Iri m.with) quads)
    out
IsEffect rows default (op.Clear _ target) quads next out = out ≡ Ok (cleared target quads next)
IsEffect rows default (op.Drop _ target) quads next out = out ≡ Ok (cleared target quads next)
IsEffect rows default (op.Create on name) quads next out = out ≡ created on name quads next
IsEffect rows default (op.Add t) quads next out = out ≡ transferred removal.Nothing t quads next
IsEffect rows default (op.Move t) quads next out = out ≡ transferred removal.Both t quads next
IsEffect rows default (op.Copy t) quads next out = out ≡ transferred removal.Target t quads next
