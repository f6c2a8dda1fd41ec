-- From the clauses of queries and updates to what texts mean.
use Rattle.std.proofs.Common.{◌≡◌, ◌≢◌, ◌∙◌, ◌++◌, ap, refl, ℕ, List, Vec, Global, Result, Ok, Err, OnOk, OnErr, IfOk, IfErr}
use Rattle.qs_terms.specs.Outcome.{Outcome, OneOrOutOfMemory}
use Rattle.qs_terms.specs.Statement.{Statement}
use Rattle.qs_terms.specs.declared.fault.QFault.TheVariants.{Memory}
use Rattle.qs_algebra_solutions.specs.declared.answer.Answer.{Answer}
use Rattle.qs_nquads.specs.Written.{nquads_of}
use Rattle.qs_store.specs.Visible.{visible}
use Rattle.qs_query.specs.Outcome as query
use Rattle.qs_query_forms.specs.Sequence.{dataset_of}
use Rattle.qs_store.specs.Content.{Content, Held}
use Rattle.qs_store.specs.Same.{SameSet}
use Rattle.qs_update.specs.Outcome as update
use Rattle.qs_update.specs.inner.Outcome as inner
use Rattle.qs_update.specs.Request.{Bounds, bounds_of}
use Rattle.qs_service.specs.inner.Changes.{Changes}
use Rattle.qs_service.specs.Language.{sparql}

-- what a text is answered with over the quads of a store is an answer over what is stored
pub answered : (held : Held) (text : List ℕ) (rows : ℕ) (r : Outcome Answer) → SameSet held.base.quads held.base.quads
    → OneOrOutOfMemory (query.IsOutcomeOfText text (dataset_of (visible held.default_graph held.base.quads) held.base.next) rows) r → OneOrOutOfMemory (sparql.answers (bounds_of rows held) text held.base) r
unfolding sparql
answered held text rows (Ok answer) same due = (held.base.quads, same, due)
answered held text rows (Err f) same due = λ other. (held.base.quads, same, due other)

-- an update's text
pub changes : (bounds : Bounds) (text : List ℕ) (old new : Content) (r : Outcome (Unit {0})) → OnOk r (inner.IsAccepted bounds text old new) → OnErr r (new ≡ old)
    → IfErr r (λ f. f ≢ Memory → update.IsOutcomeOfText bounds text old (Err f)) → Changes (sparql.changes bounds text old) old r new
unfolding sparql
changes bounds text old new (Ok done) accepted refused fault = accepted
changes bounds text old new (Err f) accepted refused fault = (fault, refused)

-- the text of the quads, as they are lent, after what was written before
pub written : {E : Type 0} (before : List ℕ) (c : Content) (quads lent : List Statement) (r : Result (Vec ℕ Global) E) → SameSet quads c.quads → lent ≡ quads
    → IfOk r (λ out. out.items ≡ before ++ nquads_of lent) → IfOk r (λ out. (text : List ℕ) × sparql.writes c text × (out.items ≡ before ++ text))
unfolding sparql
written before c quads lent (Ok out) same is h = (nquads_of quads, (quads, same, refl), h ∙ ap (λ (l : List Statement). before ++ nquads_of l) is)
written before c quads lent (Err e) same is h = h
