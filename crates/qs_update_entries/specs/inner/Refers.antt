-- References to what templates make of rows of cells.
use Rattle.std.specs.Prelude.{◌≡◌, ℕ, List, [], Option, None, Some, slice_get}
use Rattle.qs_terms.specs.Statement.{Statement}
use Rattle.qs_terms.specs.declared.term.Term.{Term}
use Rattle.qs_store.specs.inner.References.{referred, referred_graph, referred_quad, IsReferred}
use Rattle.qs_store.specs.inner.References.{IsReferredGraph, IsReferredQuad}
use Rattle.qs_store.specs.declared.reference.TermRef.{TermRef}
use Rattle.qs_store.specs.declared.reference.QuadRef.{QuadRef}
use Rattle.qs_query_template.specs.inner.Instances.{fresh, lawful}

-- the reference means the term, where there is one
abbrev pub Refers : List Term → Option Term → Option TermRef → Type 0
Refers known None None = Unit {0}
Refers known None (Some r) = ⊥
Refers known (Some t) None = ⊥
Refers known (Some t) (Some r) = IsReferred known r × (referred known r ≡ t)

-- the same of a graph's name, where None inside is the default graph
abbrev pub RefersToGraph : List Term → Option (Option Term) → Option (Option TermRef) → Type 0
RefersToGraph known None None = Unit {0}
RefersToGraph known None (Some r) = ⊥
RefersToGraph known (Some g) None = ⊥
RefersToGraph known (Some g) (Some r) = IsReferredGraph known r × (referred_graph known r ≡ g)

-- the quad, where its terms may stand in their places
abbrev pub if_lawful : Statement → List Statement
if_lawful q = lawful q.graph q.subject q.predicate q.object

-- the reference means the quads: none, or one where its terms may stand in their places
abbrev pub RefersToQuad : List Term → List Statement → Option QuadRef → Type 0
RefersToQuad known quads None = quads ≡ []
RefersToQuad known quads (Some r) =
    IsReferredQuad known r × (quads ≡ if_lawful (referred_quad known r))

-- so many fresh blank nodes, from the first number on
abbrev pub AreFresh : ℕ → ℕ → List Term → Type 0
AreFresh blanks first terms = (k : ℕ) → slice_get terms k ≡ fresh blanks first k
