use Rattle.std.proofs.Common.{◌≡◌, true, List, ℕ, sym, ◌∙◌, subst}
use Rattle.std.proofs.lemmas.Bool.{false≢true}
use Rattle.qs_index.specs.inner.Skipped.{IsSkipped}
use Rattle.qs_store.specs.inner.Scans.{LastFits, triples_left}
use Rattle.qs_store.specs.inner.Sources.{entries_left}
use Rattle.qs_store.specs.inner.Triples.{triple_fits}
use Rattle.qs_store.proofs.Skipping.{triples_skipped}
use Rattle.qs_store.proofs.triples.Triples.skip_agreeing.Goals.{else-self-via-then-self+else-not-last_fits, else-self-via-else-self}
use Rattle.qs_store.proofs.triples.Triples.skip_agreeing.Goals as goal

pub returns : goal.returns
returns c =
    let a = c.args in
    let s = c.self.inside in
    let left = entries_left c.skip_entries.new.source in
    let fit : s.repeats ≡ true → LastFits a.subject a.predicate a.object s.last = elim c.else-self.branch [
      | else-self-via-then-self+else-not-last_fits w ↦ λ h. w.last_fits.ensures w.if-not-last_fits.false
      | else-self-via-else-self w ↦ λ h. absurd (false≢true (sym w.if-self.false ∙ h))
    ] in
    subst (λ (v : List (List ℕ)). IsSkipped (λ t. triple_fits a.subject a.predicate a.object t ≡ true) v (triples_left s.repeats s.last left)) c.self.view_is
    (triples_skipped a.subject a.predicate a.object s.repeats s.last (entries_left s.source) left fit c.skip_entries.ensures)
