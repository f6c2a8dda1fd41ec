-- Quads that are named by the numbers of their terms, or by the terms themselves.
use Rattle.std.specs.Prelude.{ℕ, List, Option, Some, None}
use Rattle.qs_terms.specs.Statement.{Statement}
use Rattle.qs_terms.specs.declared.term.Term.{Term}
use Rattle.qs_dict.specs.inner.Dict.{IsInUse}
use Rattle.qs_store.specs.inner.Entries.{term_or}
use Rattle.qs_store.specs.declared.reference.TermRef.{TermRef}
use Rattle.qs_store.specs.declared.reference.TermRef.TheVariants as term
use Rattle.qs_store.specs.declared.reference.QuadRef.{QuadRef}

-- the term that is meant, where these are known
abbrev pub referred : List Term → TermRef → Term
referred known (term.Known n) = term_or known n
referred known (term.Term t) = t.now

-- a number is in use
abbrev pub IsReferred : List Term → TermRef → Type 0
IsReferred known (term.Known n) = IsInUse known n
IsReferred known (term.Term t) = Unit {0}

abbrev pub referred_graph : List Term → Option TermRef → Option Term
referred_graph known None = None
referred_graph known (Some t) = Some (referred known t)

-- None is the default graph
abbrev pub IsReferredGraph : List Term → Option TermRef → Type 0
IsReferredGraph known None = Unit {0}
IsReferredGraph known (Some t) = IsReferred known t

-- the quad that is meant
abbrev pub referred_quad : List Term → QuadRef → Statement
referred_quad known q =
    record {
      graph = referred_graph known q.graph;
      subject = referred known q.subject;
      predicate = referred known q.predicate;
      object = referred known q.object;
    }

-- each number is in use
pub record IsReferredQuad (known : List Term) (q : QuadRef) : Type 0 where
  pub graph : IsReferredGraph known q.graph
  pub subject : IsReferred known q.subject
  pub predicate : IsReferred known q.predicate
  pub object : IsReferred known q.object
