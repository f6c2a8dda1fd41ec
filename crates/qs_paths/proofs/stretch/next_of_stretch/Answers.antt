use Rattle.std.proofs.Common.{◌++◌, ◌∷◌, ap, refl, sym, subst, true, []}
use Rattle.std.proofs.lemmas.List.Sorted.{IsPermutation-refl}
use Rattle.qs_terms.specs.Bag.{SameBag}
use Rattle.qs_paths.specs.inner.Nodes.{named_end, named_pair, named_pairs}
use Rattle.qs_paths.specs.inner.Scans.{edges_in}
use Rattle.qs_paths.specs.inner.Seen.{graph_in}
use Rattle.qs_paths.specs.inner.State.{more_pairs, turned_pairs}
use Rattle.qs_paths.proofs.Opening.{gives_first, gives_more, gives_none, nothing_left}
use Rattle.qs_paths.proofs.stretch.next_of_stretch.Goals as goal

pub returns-in_default-take : goal.returns-in_default-take
returns-in_default-take g c name n ps h =
    let graph = graph_in g.V.View.content g.V.View.default_seen c.args.edges.now in (
      gives_none name c.args.stretch.now.turned (edges_in c.args.stretch.now.scan) (more_pairs graph name c.args.stretch.now.more) ps h.left c.in_default.ensures.0 (ap (more_pairs graph name) (sym c.in_default-take.ensures.value)),
      record { left = nothing_left name c.args.stretch.now.turned (edges_in c.next_in.new.scan) (more_pairs graph name c.take.new.self) c.in_default.ensures.1 (ap (more_pairs graph name) c.take.ensures.after) },
    )

pub returns-in-Some-next_in : goal.returns-in-Some-next_in
returns-in-Some-next_in g c name n ps h =
    let graph = graph_in g.V.View.content g.V.View.default_seen c.args.edges.now in
    let m = c.in-Some-take.more in
    let b = gives_more name c.args.stretch.now.turned (edges_in c.args.stretch.now.scan) (more_pairs graph name c.args.stretch.now.more) ps h.left m.members.now graph (named_end name m.left) (named_end name m.right) (edges_in c.in_ok-stretch.field-0) c.in_default.ensures.0 (ap (more_pairs graph name) (sym c.in-Some-take.ensures.value)) (c.in_ok-stretch.ensures name n) in (
      turned_pairs true (named_pairs name (edges_in c.next_in-2.new.scan)) ++ [],
      (
        subst (λ z. SameBag ps (named_pair name z ∷ (turned_pairs true (named_pairs name (edges_in c.next_in-2.new.scan)) ++ []))) (sym c.swapped.ensures)
            (gives_first name true (edges_in c.in_ok-stretch.field-0) [] ps b c.in-Some-next_in.pair (edges_in c.next_in-2.new.scan) c.in-Some-next_in.ensures),
        record { left = subst (λ z. SameBag (turned_pairs true (named_pairs name (edges_in c.next_in-2.new.scan)) ++ []) (turned_pairs true (named_pairs name (edges_in c.next_in-2.new.scan)) ++ more_pairs graph name z)) (sym c.take.ensures.after) (IsPermutation-refl (turned_pairs true (named_pairs name (edges_in c.next_in-2.new.scan)) ++ [])) },
      ),
    )

pub returns-in-None : goal.returns-in-None
returns-in-None g c name n ps h =
    let graph = graph_in g.V.View.content g.V.View.default_seen c.args.edges.now in
    let m = c.in-Some-take.more in
    let b = gives_more name c.args.stretch.now.turned (edges_in c.args.stretch.now.scan) (more_pairs graph name c.args.stretch.now.more) ps h.left m.members.now graph (named_end name m.left) (named_end name m.right) (edges_in c.in_ok-stretch.field-0) c.in_default.ensures.0 (ap (more_pairs graph name) (sym c.in-Some-take.ensures.value)) (c.in_ok-stretch.ensures name n) in (
      gives_none name true (edges_in c.in_ok-stretch.field-0) [] ps b c.in-None.ensures.0 refl,
      record { left = nothing_left name true (edges_in c.next_in-2.new.scan) (more_pairs graph name c.take.new.self) c.in-None.ensures.1 (ap (more_pairs graph name) c.take.ensures.after) },
    )
