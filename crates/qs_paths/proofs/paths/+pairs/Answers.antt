use Rattle.std.proofs.Common.{rules, ap, ◌∙◌, subst, refl, arith, ◌≡◌, ◌<◌, ◌≤◌, ◌+◌, ◌-◌, ◌==◌, length, map, drop, get_or, None}
use Rattle.qs_syntax_ast.specs.declared.path.Path.{the_lemmas}
use Rattle.qs_paths_meaning.specs.Pairs.{in_sequence, pairs}
use Rattle.qs_paths.specs.inner.Nodes.{ArePairs}
use Rattle.qs_paths.proofs.Names.{item, zero_pair}
use Rattle.qs_paths.proofs.Whole.{any_named, any_next, before_all, before_apart, before_next, begun_either, begun_next, behind_all, behind_apart, behind_next, closure_right, ends_from, inverse_named, iri_named, optional_named, part_after, part_ahead, searched_all, searched_next, searched_none, stepped_back}
use Rattle.qs_paths.proofs.paths.+pairs.Goals.{before-in-Some+in_ok-firsts+in_ok-put_into, before-in_default, behind-in-Some+in_ok-seconds+in_ok-put_from, behind-in_default}
use Rattle.qs_paths.proofs.paths.+pairs.Goals as goal

pub pairs_of_nodes-returns-in_ok-rows-in-Iri : goal.pairs_of_nodes-returns-in_ok-rows-in-Iri
pairs_of_nodes-returns-in_ok-rows-in-Iri g t c =
    iri_named (g.E.Source.known c.args.edges.now) (g.E.Source.graph c.args.edges.now) c.args.path.now c.args.left c.args.right c.in_ok-rows-in-Iri.rows.items c.in-Iri.iri c.in-Iri.is c.in_ok-rows-in-Iri.ensures

pub pairs_of_nodes-returns-in_ok-rows-in-Alternative : goal.pairs_of_nodes-returns-in_ok-rows-in-Alternative
pairs_of_nodes-returns-in_ok-rows-in-Alternative g t c =
    any_named (g.E.Source.known c.args.edges.now) (g.E.Source.graph c.args.edges.now) c.args.path.now c.args.left c.args.right c.in_ok-rows-in-Alternative.rows.items c.in-Alternative.parts c.as_slice-in-Alternative.result.now c.in-Alternative.is c.as_slice-in-Alternative.ensures c.in_ok-rows-in-Alternative.ensures

pub pairs_of_nodes-returns-in_ok-inverse-in-Inverse : goal.pairs_of_nodes-returns-in_ok-inverse-in-Inverse
pairs_of_nodes-returns-in_ok-inverse-in-Inverse g t c =
    inverse_named (g.E.Source.known c.args.edges.now) (g.E.Source.graph c.args.edges.now) c.args.path.now c.args.left c.args.right c.swapped-rows.result.items c.in-Inverse.inner c.get.result.now c.in_ok-inverse-in-Inverse.inverse.items c.in_ok-inverse-in-Inverse.inverse.items c.in-Inverse.is c.get.ensures c.in_ok-inverse-in-Inverse.ensures refl c.swapped-rows.ensures

pub pairs_of_any-pairs_of_nodes-requires : goal.pairs_of_any-pairs_of_nodes-requires
pairs_of_any-pairs_of_nodes-requires g t c = search (rules, the_lemmas)

pub pairs_of_any-loop-part-preserved : goal.pairs_of_any-loop-part-preserved
pairs_of_any-loop-part-preserved g t c =
    any_next (g.E.Source.known c.args.edges.now) (g.E.Source.graph c.args.edges.now) c.args.left c.args.right c.args.parts.now c.loop-part.part-index c.part-item.result c.loop-part.rows.items c.in_ok-more.more.items c.append.new.self.items c.loop-part-test.true c.part-item.is c.loop-part.invariant c.in_ok-more.ensures c.in_ok-append.ensures.items

pub before-loop-row-preserved : goal.before-loop-row-preserved
before-loop-row-preserved g t c =
    let known = g.E.Source.known c.args.edges.now in
    let graph = g.E.Source.graph c.args.edges.now in
    let row = get_or c.args.rows.now c.loop-row.row-index zero_pair in
    let at = item c.args.rows.now c.loop-row.row-index zero_pair c.loop-row-test.true in
    elim c.match-middle.branch [
      | before-in-Some+in_ok-firsts+in_ok-put_into w ↦
          before_next known graph c.args.part.now c.args.rows.now c.loop-row.row-index row w.in-Some.middle c.loop-row.longer.items c.match-middle.longer.items w.in_ok-firsts.firsts.items w.as_slice.result.now c.loop-row-test.true at w.in-Some.ensures.some w.in_ok-firsts.ensures w.as_slice.ensures.value (ap (λ v. v.items) w.longer-is ∙ w.in_ok-put_into.ensures) c.loop-row.invariant
      | before-in_default w ↦ before_apart known graph c.args.part.now c.args.rows.now c.loop-row.row-index row c.loop-row.longer.items c.match-middle.longer.items c.loop-row-test.true at w.in_default.ensures.none (ap (λ v. v.items) w.longer-is) c.loop-row.invariant
    ]

pub before-returns : goal.before-returns
before-returns g t c = before_all (g.E.Source.known c.args.edges.now) (g.E.Source.graph c.args.edges.now) (pairs (g.E.Source.graph c.args.edges.now) c.args.part.now) c.args.rows.now c.loop-row.longer.items c.loop-row.row-index c.loop-row-test.false c.loop-row.invariant

pub behind-loop-row-preserved : goal.behind-loop-row-preserved
behind-loop-row-preserved g t c =
    let known = g.E.Source.known c.args.edges.now in
    let graph = g.E.Source.graph c.args.edges.now in
    let row = get_or c.args.rows.now c.loop-row.row-index zero_pair in
    let at = item c.args.rows.now c.loop-row.row-index zero_pair c.loop-row-test.true in
    elim c.match-middle.branch [
      | behind-in-Some+in_ok-seconds+in_ok-put_from w ↦
          behind_next known graph c.args.part.now c.args.right c.args.rows.now c.loop-row.row-index row w.in-Some.middle c.loop-row.longer.items c.match-middle.longer.items w.in_ok-seconds.seconds.items w.as_slice.result.now c.loop-row-test.true at w.in-Some.ensures.some w.in_ok-seconds.ensures w.as_slice.ensures.value (ap (λ v. v.items) w.longer-is ∙ w.in_ok-put_from.ensures) c.loop-row.invariant
      | behind-in_default w ↦ behind_apart known graph c.args.part.now c.args.right c.args.rows.now c.loop-row.row-index row c.loop-row.longer.items c.match-middle.longer.items c.loop-row-test.true at w.in_default.ensures.none (ap (λ v. v.items) w.longer-is) c.loop-row.invariant
    ]

pub behind-returns : goal.behind-returns
behind-returns g t c = behind_all (g.E.Source.known c.args.edges.now) (g.E.Source.graph c.args.edges.now) (pairs (g.E.Source.graph c.args.edges.now) c.args.part.now) c.args.right c.args.rows.now c.loop-row.longer.items c.loop-row.row-index c.loop-row-test.false c.loop-row.invariant

pub begin-returns-in_ok-add_rights-in-ZeroOrOne : goal.begin-returns-in_ok-add_rights-in-ZeroOrOne
begin-returns-in_ok-add_rights-in-ZeroOrOne g t c =
    begun_either (g.E.Source.known c.args.edges.now) (g.E.Source.graph c.args.edges.now) c.args.path.now c.args.repetition c.args.backward c.args.start c.args.found.now.nodes.keys c.add.new.self.nodes.keys c.add_rights.new.self.nodes.keys c.in_ok-first-in-ZeroOrOne.first.items c.as_slice.result.now
    c.in-ZeroOrOne.is c.requires c.in_ok-add-in-ZeroOrOne.ensures c.in_ok-first-in-ZeroOrOne.ensures c.as_slice.ensures.value c.in_ok-add_rights-in-ZeroOrOne.ensures

pub begin-returns-in_ok-add_rights-in-OneOrMore : goal.begin-returns-in_ok-add_rights-in-OneOrMore
begin-returns-in_ok-add_rights-in-OneOrMore g t c =
    begun_next (g.E.Source.known c.args.edges.now) (g.E.Source.graph c.args.edges.now) c.args.path.now c.args.repetition c.args.backward c.args.start c.args.found.now.nodes.keys c.add_rights-in-OneOrMore.new.self.nodes.keys c.in_ok-first-in-OneOrMore.first.items c.as_slice-in-OneOrMore.result.now
    c.in-OneOrMore.is c.requires c.in_ok-first-in-OneOrMore.ensures c.as_slice-in-OneOrMore.ensures.value c.in_ok-add_rights-in-OneOrMore.ensures

pub closure-returns-in_ok-inverse-in-None-Some : goal.closure-returns-in_ok-inverse-in-None-Some
closure-returns-in_ok-inverse-in-None-Some g t c =
    closure_right (g.E.Source.known c.args.edges.now) (g.E.Source.graph c.args.edges.now) c.args.path.now c.args.repetition c.args.left c.args.right c.in-None-Some.right c.in_ok-inverse-in-None-Some.inverse.items c.in_ok-inverse-in-None-Some.inverse.items c.swapped-rows.result.items c.in-None-Some.is-0 c.in-None-Some.is-1 c.in_ok-inverse-in-None-Some.ensures refl c.swapped-rows.ensures

pub from_the_left-loop-at-preserved : goal.from_the_left-loop-at-preserved
from_the_left-loop-at-preserved g t c = record {
  within = omega (arith, c.loop-at-test.true);
  bag =
      part_after (g.E.Source.known c.args.edges.now) (g.E.Source.graph c.args.edges.now) c.args.parts.now c.args.left c.args.right c.loop-at.at c.index-parts-at.result (c.loop-at.at == 0) c.end_of-end.result c.loop-at.rows.items c.as_slice.result.now c.in_ok-rows.rows.items
      (let k : c.loop-at.at < length c.args.parts.now = omega (arith, c.loop-at-test.true) in k) c.index-parts-at.is refl c.end_of-end.ensures (λ b. c.loop-at.invariant.bag) c.as_slice.ensures.value c.in_ok-rows.ensures.first c.in_ok-rows.ensures.behind;
}

pub from_the_right-loop-at-preserved : goal.from_the_right-loop-at-preserved
from_the_right-loop-at-preserved g t c = record {
  within = let w : c.loop-at.at ≤ length c.args.parts.now = c.loop-at.invariant.within in omega arith;
  bag =
      let w : c.loop-at.at ≤ length c.args.parts.now = c.loop-at.invariant.within in
      part_ahead (g.E.Source.known c.args.edges.now) (g.E.Source.graph c.args.edges.now) c.args.parts.now c.args.right (c.loop-at.at - 1) c.index-parts-at.result (c.loop-at.at - 1 + 1 == length c.args.parts.now) c.loop-at.rows.items c.as_slice.result.now c.in_ok-rows.rows.items
      (omega (arith, c.loop-at-test.true)) c.index-parts-at.is refl
      (subst (λ n. ArePairs (g.E.Source.known c.args.edges.now) (in_sequence (map (pairs (g.E.Source.graph c.args.edges.now)) (drop n c.args.parts.now))) None c.args.right c.loop-at.rows.items) (let e : c.loop-at.at ≡ c.loop-at.at - 1 + 1 = omega (arith, c.loop-at-test.true) in e) c.loop-at.invariant.bag)
      c.as_slice.ensures.value c.in_ok-rows.ensures.last c.in_ok-rows.ensures.before;
}

pub pairs_from-returns : goal.pairs_from-returns
pairs_from-returns g t c =
    ends_from (g.E.Source.known c.args.edges.now) (g.E.Source.graph c.args.edges.now) c.args.path.now c.args.repetition c.args.backward c.args.start c.args.end c.in_ok-found.found.nodes.keys c.as_slice.result.now c.new-rows.result.items c.put_ends.new.pairs.items
    c.new-rows.ensures.items c.as_slice.ensures.keys c.in_ok-found.ensures c.in_ok-put_ends.ensures

pub reached-returns-in-ZeroOrOne : goal.reached-returns-in-ZeroOrOne
reached-returns-in-ZeroOrOne g t c =
    optional_named (g.E.Source.known c.args.edges.now) (g.E.Source.graph c.args.edges.now) c.args.path.now c.args.repetition c.args.backward c.args.start c.begin.new.found.nodes.keys c.in-ZeroOrOne.is c.in_ok-begin.ensures

pub searched-loop-at-init : goal.searched-loop-at-init
searched-loop-at-init g t c = record {
  searching = searched_none (g.E.Source.known c.args.edges.now) (g.E.Source.graph c.args.edges.now) c.args.path.now c.args.repetition c.args.backward c.args.start c.args.found.now.nodes.keys c.requires.holds;
}

pub searched-loop-at-preserved : goal.searched-loop-at-preserved
searched-loop-at-preserved g t c = record {
  searching =
      searched_next (g.E.Source.known c.args.edges.now) (g.E.Source.graph c.args.edges.now) c.args.path.now c.args.repetition c.args.backward c.args.start c.loop-at.found.nodes.keys c.add_rights.new.self.nodes.keys c.loop-at.at c.node.result c.in_ok-next.next.items c.as_slice.result.now c.requires.closing c.loop-at.invariant.searching
      (let k : c.loop-at.at < length c.loop-at.found.nodes.keys = omega (arith, c.len.ensures, c.loop-at-test.true) in k)
      c.node.ensures c.in_ok-next.ensures c.as_slice.ensures.value c.in_ok-add_rights.ensures;
}

pub searched-returns : goal.searched-returns
searched-returns g t c =
    searched_all (g.E.Source.known c.args.edges.now) (g.E.Source.graph c.args.edges.now) c.args.path.now c.args.repetition c.args.backward c.args.start c.loop-at.found.nodes.keys c.loop-at.at c.requires.closing c.loop-at.invariant.searching
    (let k : length c.loop-at.found.nodes.keys ≤ c.loop-at.at = omega (arith, c.len.ensures, c.loop-at-test.false) in k)

pub stepped-returns-in_ok-inverse : goal.stepped-returns-in_ok-inverse
stepped-returns-in_ok-inverse g t c =
    stepped_back (g.E.Source.known c.args.edges.now) (g.E.Source.graph c.args.edges.now) c.args.path.now c.args.backward c.args.node c.in_ok-inverse.inverse.items c.in_ok-inverse.inverse.items c.swapped-rows.result.items c.if-backward.true c.in_ok-inverse.ensures refl c.swapped-rows.ensures
