use Rattle.std.proofs.Common.{◌∙◌, sym}
use Rattle.std.specs.Option.{option_copied}
use Rattle.qs_terms.specs.Dataset.{graph_of}
use Rattle.qs_store.specs.Visible.{visible}
use Rattle.qs_query_forms.specs.Sequence.{dataset_of}
use Rattle.qs_query_forms.proofs.Ordered.{of_select, of_construct}
use Rattle.qs_query_forms.proofs.answer.answer_query.Goals as goal

pub returns-in-Select : goal.returns-in-Select
returns-in-Select g c =
    let d = dataset_of (visible (g.V.View.default_seen c.args.view.now) (g.V.View.content c.args.view.now).quads) (g.V.View.content c.args.view.now).next in
    of_select c.args.query.now d (graph_of d.quads (option_copied c.args.active)) c.args.max_rows c.selected.result c.in-Select.asked (sym c.in_ok-asked.ensures.request ∙ c.in-Select.is) c.selected.ensures

pub returns-in-Construct : goal.returns-in-Construct
returns-in-Construct g c =
    let d = dataset_of (visible (g.V.View.default_seen c.args.view.now) (g.V.View.content c.args.view.now).quads) (g.V.View.content c.args.view.now).next in
    of_construct c.args.query.now d (graph_of d.quads (option_copied c.args.active)) c.args.max_rows c.constructed.result c.in-Construct.asked (sym c.in_ok-asked.ensures.request ∙ c.in-Construct.is) c.constructed.ensures
