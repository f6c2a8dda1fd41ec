use Rattle.std.proofs.Common.{◌∙◌, [], ◌∷◌, None, length, arith, ap, subst, sym, ⊎_elim}
use Rattle.qs_index.specs.inner.Agreeing.{agreeing}
use Rattle.qs_index.specs.inner.Entries.{IsUnion}
use Rattle.qs_index.specs.inner.Entry.{begins}
use Rattle.qs_index.specs.declared.permutation.Permutation.TheVariants.{Gpos, Gosp}
use Rattle.qs_index.proofs.Distinct.{member_of_filter}
use Rattle.qs_index.proofs.GraphParts.{parts_of}
use Rattle.qs_index.proofs.OtherOrders.{order_with_all}
use Rattle.qs_index.proofs.Turned.{IsOrderOf-itself}
use Rattle.qs_index.proofs.index.Index.insert_graph_of.Goals as goal

pub insert_graph-requires-clause-batch : goal.insert_graph-requires-clause-batch
insert_graph-requires-clause-batch c =
    let n = parts_of c.args.graph c.other.inside.gspo.entries c.other.inside.gpos.entries c.other.inside.gosp.entries c.other.inside.named c.other.invariant in
    let l = ap length n.is in
    let v = ap (λ s. length (agreeing c.args.graph None None None s.entries)) c.other.view_is in
    let w = ap (λ s. s.spare) c.self.view_is in
    let k = ap (λ s. s.named_spare) c.self.view_is in
    omega (arith, l, v, c.requires.batch)

pub insert_graph-requires-clause-room : goal.insert_graph-requires-clause-room
insert_graph-requires-clause-room c =
    let n = parts_of c.args.graph c.other.inside.gspo.entries c.other.inside.gpos.entries c.other.inside.gosp.entries c.other.inside.named c.other.invariant in
    let l = ap length n.is in
    let v = ap (λ s. length (agreeing c.args.graph None None None s.entries)) c.other.view_is in
    let w = ap (λ s. s.spare) c.self.view_is in
    let k = ap (λ s. s.named_spare) c.self.view_is in
    omega (arith, l, v, w, c.requires.room)

pub insert_graph-requires-2-clause-batch : goal.insert_graph-requires-2-clause-batch
insert_graph-requires-2-clause-batch c =
    let n = parts_of c.args.graph c.other.inside.gspo.entries c.other.inside.gpos.entries c.other.inside.gosp.entries c.other.inside.named c.other.invariant in
    let l = ap length n.is in
    let v = ap (λ s. length (agreeing c.args.graph None None None s.entries)) c.other.view_is in
    let w = ap (λ s. s.spare) c.self.view_is in
    let k = ap (λ s. s.named_spare) c.self.view_is in
    omega (arith, l, v, n.predicates, c.requires.batch, c.insert_graph.ensures.long)

pub insert_graph-requires-2-clause-room : goal.insert_graph-requires-2-clause-room
insert_graph-requires-2-clause-room c =
    let n = parts_of c.args.graph c.other.inside.gspo.entries c.other.inside.gpos.entries c.other.inside.gosp.entries c.other.inside.named c.other.invariant in
    let l = ap length n.is in
    let v = ap (λ s. length (agreeing c.args.graph None None None s.entries)) c.other.view_is in
    let w = ap (λ s. s.spare) c.self.view_is in
    let k = ap (λ s. s.named_spare) c.self.view_is in
    omega (arith, l, v, w, n.predicates, c.requires.room)

pub insert_graph-requires-3-clause-batch : goal.insert_graph-requires-3-clause-batch
insert_graph-requires-3-clause-batch c =
    let n = parts_of c.args.graph c.other.inside.gspo.entries c.other.inside.gpos.entries c.other.inside.gosp.entries c.other.inside.named c.other.invariant in
    let l = ap length n.is in
    let v = ap (λ s. length (agreeing c.args.graph None None None s.entries)) c.other.view_is in
    let w = ap (λ s. s.spare) c.self.view_is in
    let k = ap (λ s. s.named_spare) c.self.view_is in
    omega (arith, l, v, n.objects, c.requires.batch, c.insert_graph.ensures.long, c.insert_graph-2.ensures.long)

pub insert_graph-requires-3-clause-room : goal.insert_graph-requires-3-clause-room
insert_graph-requires-3-clause-room c =
    let n = parts_of c.args.graph c.other.inside.gspo.entries c.other.inside.gpos.entries c.other.inside.gosp.entries c.other.inside.named c.other.invariant in
    let l = ap length n.is in
    let v = ap (λ s. length (agreeing c.args.graph None None None s.entries)) c.other.view_is in
    let w = ap (λ s. s.spare) c.self.view_is in
    let k = ap (λ s. s.named_spare) c.self.view_is in
    omega (arith, l, v, w, n.objects, c.requires.room)

pub insert_graph-requires-4-clause-subject : goal.insert_graph-requires-4-clause-subject
insert_graph-requires-4-clause-subject c h =
    let n = parts_of c.args.graph c.other.inside.gspo.entries c.other.inside.gpos.entries c.other.inside.gosp.entries c.other.inside.named c.other.invariant in
    let l = ap length n.is in
    let v = ap (λ s. length (agreeing c.args.graph None None None s.entries)) c.other.view_is in
    let w = ap (λ s. s.spare) c.self.view_is in
    let k = ap (λ s. s.named_spare) c.self.view_is in
    omega (arith, l, v, k, c.requires.named_room h, c.requires.batch, c.insert_graph.ensures.long, c.insert_graph-2.ensures.long, c.insert_graph-3.ensures.long)

pub insert_graph-requires-4-clause-predicate : goal.insert_graph-requires-4-clause-predicate
insert_graph-requires-4-clause-predicate c h =
    let n = parts_of c.args.graph c.other.inside.gspo.entries c.other.inside.gpos.entries c.other.inside.gosp.entries c.other.inside.named c.other.invariant in
    let l = ap length n.is in
    let v = ap (λ s. length (agreeing c.args.graph None None None s.entries)) c.other.view_is in
    let w = ap (λ s. s.spare) c.self.view_is in
    let k = ap (λ s. s.named_spare) c.self.view_is in
    omega (arith, l, v, k, n.predicates, c.requires.named_room h, c.requires.batch, c.insert_graph.ensures.long, c.insert_graph-2.ensures.long, c.insert_graph-3.ensures.long)

pub insert_graph-requires-4-clause-object : goal.insert_graph-requires-4-clause-object
insert_graph-requires-4-clause-object c h =
    let n = parts_of c.args.graph c.other.inside.gspo.entries c.other.inside.gpos.entries c.other.inside.gosp.entries c.other.inside.named c.other.invariant in
    let l = ap length n.is in
    let v = ap (λ s. length (agreeing c.args.graph None None None s.entries)) c.other.view_is in
    let w = ap (λ s. s.spare) c.self.view_is in
    let k = ap (λ s. s.named_spare) c.self.view_is in
    omega (arith, l, v, k, n.objects, c.requires.named_room h, c.requires.batch, c.insert_graph.ensures.long, c.insert_graph-2.ensures.long, c.insert_graph-3.ensures.long)

pub invariant_of-self : goal.invariant_of-self
invariant_of-self c =
    let i = c.self.invariant in
    let d = c.other.invariant in
    let n = parts_of c.args.graph c.other.inside.gspo.entries c.other.inside.gpos.entries c.other.inside.gosp.entries c.other.inside.named d in
    let u = c.insert_graph.ensures.union in
    record {
      entries = λ x m. ⊎_elim (λ l. i.entries x l) (λ r. d.entries x (member_of_filter (begins (c.args.graph ∷ [])) x c.other.inside.gspo.entries r).0) (u.only x m);
      by_subject = IsOrderOf-itself c.insert_graph.new.self.entries u.ascending;
      by_predicate = order_with_all Gpos c.self.inside.gspo.entries _ c.insert_graph.new.self.entries c.self.inside.gpos.entries _ c.insert_graph-2.new.self.entries u n.by_predicate c.insert_graph-2.ensures.union i.by_predicate;
      by_object = order_with_all Gosp c.self.inside.gspo.entries _ c.insert_graph.new.self.entries c.self.inside.gosp.entries _ c.insert_graph-3.new.self.entries u n.by_object c.insert_graph-3.ensures.union i.by_object;
      of_named = c.insert_graph-4.ensures.orders c.self.inside.gspo.entries c.insert_graph.new.self.entries (λ x m. (d.entries x m).four) d.by_subject d.by_predicate d.by_object u i.of_named;
    }

pub returns-clause-union : goal.returns-clause-union
returns-clause-union c =
    let n = parts_of c.args.graph c.other.inside.gspo.entries c.other.inside.gpos.entries c.other.inside.gosp.entries c.other.inside.named c.other.invariant in
    let v = ap (λ s. agreeing c.args.graph None None None s.entries) c.other.view_is in
    let w = ap (λ s. s.entries) c.self.view_is in
    subst (λ r. IsUnion r (agreeing c.args.graph None None None c.args.other.now.entries) c.insert_graph.new.self.entries) w
    (subst (λ r. IsUnion c.self.inside.gspo.entries r c.insert_graph.new.self.entries) (sym n.is ∙ v) c.insert_graph.ensures.union)

pub returns-clause-spare : goal.returns-clause-spare
returns-clause-spare c =
    let n = parts_of c.args.graph c.other.inside.gspo.entries c.other.inside.gpos.entries c.other.inside.gosp.entries c.other.inside.named c.other.invariant in
    let l = ap length n.is in
    let v = ap (λ s. length (agreeing c.args.graph None None None s.entries)) c.other.view_is in
    let w = ap (λ s. s.spare) c.self.view_is in
    let k = ap (λ s. s.named_spare) c.self.view_is in
    omega (arith, l, v, w, n.predicates, n.objects, c.insert_graph.ensures.spare, c.insert_graph-2.ensures.spare, c.insert_graph-3.ensures.spare)

pub returns-clause-named_spare : goal.returns-clause-named_spare
returns-clause-named_spare c =
    let n = parts_of c.args.graph c.other.inside.gspo.entries c.other.inside.gpos.entries c.other.inside.gosp.entries c.other.inside.named c.other.invariant in
    let l = ap length n.is in
    let v = ap (λ s. length (agreeing c.args.graph None None None s.entries)) c.other.view_is in
    let w = ap (λ s. s.spare) c.self.view_is in
    let k = ap (λ s. s.named_spare) c.self.view_is in
    let s = c.insert_graph-4.ensures.spare (length (agreeing c.args.graph None None None c.args.other.now.entries)) (omega (arith, l, v)) (omega (arith, l, v, n.predicates)) (omega (arith, l, v, n.objects)) in
    omega (arith, s, k)
