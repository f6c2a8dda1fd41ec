-- References to the terms of cells and of templates.
use Rattle.std.proofs.Common.{◌≡◌, ℕ, zero, suc, List, [], Option, Some, None, IsTrue, refl, ap, arith}
use Rattle.std.specs.Prelude.{slice_get}
use Rattle.std.specs.Option.{is_some, option_map}
use Rattle.std.proofs.lemmas.Bool.{false≢true}
use Rattle.std.proofs.lemmas.Option.{slice_get_within}
use Rattle.qs_terms.specs.declared.term.Term.{Term}
use Rattle.qs_dict.specs.inner.Dict.{term_at}
use Rattle.qs_store.specs.inner.Entries.{or_blank}
use Rattle.qs_store.specs.declared.reference.QuadRef.{QuadRef}
use Rattle.qs_store.specs.declared.reference.TermRef.{TermRef}
use Rattle.qs_store.specs.declared.reference.TermRef.TheVariants as reference
use Rattle.qs_query_template.specs.Instances.{quad_of}
use Rattle.qs_update_entries.specs.inner.Refers.{Refers, RefersToGraph, RefersToQuad}

-- the number of a known term
pub known_refers : (known : List Term) (n : ℕ) → IsTrue (is_some (term_at known n)) → Refers known (term_at known n) (Some (reference.Known n))
known_refers known zero h = absurd (false≢true h)
known_refers known (suc p) h = at (slice_get known p) refl h
  where
    at : (o : Option Term) → slice_get known p ≡ o → IsTrue (is_some o) → Refers known o (Some (reference.Known (suc p)))
    at None e k = absurd (false≢true k)
    at (Some t) e k = let w = slice_get_within known p t e in ((omega arith, omega (arith, w)), ap or_blank e)

-- ---- quads by the references to their parts

pub graph_none : (known : List Term) (o : Option Term) → Refers known o None → RefersToGraph known (option_map Some o) None
graph_none known None h = tt
graph_none known (Some t) h = absurd h

pub graph_some : (known : List Term) (o : Option Term) (r : TermRef) → Refers known o (Some r) → RefersToGraph known (option_map Some o) (Some (Some r))
graph_some known None r h = absurd h
graph_some known (Some t) r h = (h.0, ap Some h.1)

pub no_graph : (known : List Term) (g : Option (Option Term)) (s p o : Option Term) → RefersToGraph known g None → quad_of g s p o ≡ []
no_graph known None s p o h = refl
no_graph known (Some g) s p o h = absurd h

pub no_subject : (known : List Term) (g : Option (Option Term)) (s p o : Option Term) → Refers known s None → quad_of g s p o ≡ []
no_subject known None s p o h = refl
no_subject known (Some g) None p o h = refl
no_subject known (Some g) (Some s) p o h = absurd h

pub no_predicate : (known : List Term) (g : Option (Option Term)) (s p o : Option Term) → Refers known p None → quad_of g s p o ≡ []
no_predicate known None s p o h = refl
no_predicate known (Some g) None p o h = refl
no_predicate known (Some g) (Some s) None o h = refl
no_predicate known (Some g) (Some s) (Some p) o h = absurd h

pub no_object : (known : List Term) (g : Option (Option Term)) (s p o : Option Term) → Refers known o None → quad_of g s p o ≡ []
no_object known None s p o h = refl
no_object known (Some g) None p o h = refl
no_object known (Some g) (Some s) None o h = refl
no_object known (Some g) (Some s) (Some p) None h = refl
no_object known (Some g) (Some s) (Some p) (Some o) h = absurd h

pub all_four : (known : List Term) (g : Option (Option Term)) (s p o : Option Term) (q : QuadRef)
    → RefersToGraph known g (Some q.graph) → Refers known s (Some q.subject) → Refers known p (Some q.predicate) → Refers known o (Some q.object) → RefersToQuad known (quad_of g s p o) (Some q)
all_four known None s p o q hg hs hp ho = absurd hg
all_four known (Some g) None p o q hg hs hp ho = absurd hs
all_four known (Some g) (Some s) None o q hg hs hp ho = absurd hp
all_four known (Some g) (Some s) (Some p) None q hg hs hp ho = absurd ho
all_four known (Some g) (Some s) (Some p) (Some o) q hg hs hp ho =
    (record { graph = hg.0; subject = hs.0; predicate = hp.0; object = ho.0 }, rw (hg.1, hs.1, hp.1, ho.1) refl)
