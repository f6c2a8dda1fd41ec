use Rattle.std.proofs.Common.{◌++◌, ◌∷◌, [], ap, sym, refl, ◌∙◌}
use Rattle.std.proofs.lemmas.Bool.{false≢true}
use Rattle.qs_store.proofs.Drafted.{kept_more, kept_less, one_done}
use Rattle.qs_store.proofs.layers.kept.Goals as goal

pub loop-entry-preserved-in-Continue-1 : goal.loop-entry-preserved-in-Continue-1
loop-entry-preserved-in-Continue-1 c =
    let i = c.loop-entry.invariant in
    record {
      whole = one_done c.loop-entry.yielded c.loop-entry.entry-iterator.rest c.next.new.self.rest c.args.index.now.entries c.in-Some.entry i.whole c.in-Some.ensures.steps.0;
      done = c.in_ok-push.ensures.items ∙ ap (λ l. l ++ c.in-Some.entry ∷ []) i.done ∙ sym (kept_more c.loop-entry.yielded c.args.removed.now.entries c.in-Some.entry (λ m. false≢true (c.if-not-contains.ensures.1 m)));
    }

pub loop-entry-preserved : goal.loop-entry-preserved
loop-entry-preserved c =
    let i = c.loop-entry.invariant in
    record {
      whole = one_done c.loop-entry.yielded c.loop-entry.entry-iterator.rest c.next.new.self.rest c.args.index.now.entries c.in-Some.entry i.whole c.in-Some.ensures.steps.0;
      done = i.done ∙ sym (kept_less c.loop-entry.yielded c.args.removed.now.entries c.in-Some.entry (c.if-not-contains.ensures.0 refl));
    }
