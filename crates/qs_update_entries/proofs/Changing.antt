-- The change by the entries of what templates make.
use Rattle.std.proofs.Common.{◌≡◌, ◌+◌, ℕ, Bool, true, false, if◌then◌else◌, List, [], ◌∷◌, ◌++◌, Option, Some, None, IsTrue, refl, subst, ⊎_elim}
use Rattle.std.specs.List.{Contains, filter_map, flat_map}
use Rattle.std.proofs.lemmas.List.Elements.{Contains-append_cases}
use Rattle.qs_terms.specs.Bag.{Distinct}
use Rattle.qs_terms.specs.Statement.{Statement, fits_places}
use Rattle.qs_terms.specs.Term.{same_term}
use Rattle.qs_terms.specs.declared.term.Term.{Term}
use Rattle.qs_algebra_solutions.specs.Solution.{Solution}
use Rattle.qs_query_template.specs.Instances.{quad_of, instance, instances, slot_term, graph_term}
use Rattle.qs_query_template.specs.inner.Instances.{instances_under}
use Rattle.qs_query_template.specs.declared.template.QuadTemplate.{QuadTemplate}
use Rattle.qs_query_template.specs.declared.template.Template.{Template}
use Rattle.qs_store.specs.inner.Content.{AreLawful}
use Rattle.qs_store.specs.inner.Entries.{entry_of, AreEntries}
use Rattle.qs_store.specs.inner.Store.{IsFront}
use Rattle.qs_store.proofs.Changed.{found_for}
use Rattle.qs_store.proofs.Entries.{entry_is, still_entries}
use Rattle.qs_store.proofs.Members.{nothing, head_or_tail}
use Rattle.qs_store.proofs.Terms.{distinct_front, front_keeps, front_length}

-- ---- what templates make is lawful

none_lawful : AreLawful []
none_lawful q c = absurd (nothing q c)

both_lawful : (xs ys : List Statement) → AreLawful xs → AreLawful ys → AreLawful (xs ++ ys)
both_lawful xs ys h g q c = ⊎_elim (λ a. h q a) (λ b. g q b) (Contains-append_cases xs ys q c)

if_fits : (b : Bool) (x : Statement) → fits_places x.graph x.subject x.predicate ≡ b → AreLawful (if b then x ∷ [] else [])
if_fits true x e q c = ⊎_elim (λ s. subst (λ (y : Statement). IsTrue (fits_places y.graph y.subject y.predicate)) s e) (λ n. absurd (nothing q n)) (head_or_tail x [] q c)
if_fits false x e q c = absurd (nothing q c)

quad_lawful : (g : Option (Option Term)) (s p o : Option Term) → AreLawful (quad_of g s p o)
quad_lawful None s p o = none_lawful
quad_lawful (Some g) None p o = none_lawful
quad_lawful (Some g) (Some s) None o = none_lawful
quad_lawful (Some g) (Some s) (Some p) None = none_lawful
quad_lawful (Some g) (Some s) (Some p) (Some o) = if_fits (fits_places g s p) (record { graph = g; subject = s; predicate = p; object = o }) refl

instance_lawful : (blanks first : ℕ) (m : Solution) (q : QuadTemplate) → AreLawful (instance blanks first m q)
instance_lawful blanks first m q = quad_lawful (graph_term blanks first m q.graph) (slot_term blanks first m q.subject) (slot_term blanks first m q.predicate) (slot_term blanks first m q.object)

under_lawful : (blanks first : ℕ) (m : Solution) (qs : List QuadTemplate) → AreLawful (flat_map (instance blanks first m) qs)
under_lawful blanks first m [] = none_lawful
under_lawful blanks first m (q ∷ qs) = both_lawful (instance blanks first m q) (flat_map (instance blanks first m) qs) (instance_lawful blanks first m q) (under_lawful blanks first m qs)

pub instances_lawful : (t : Template) (next : ℕ) (ms : List Solution) → AreLawful (instances t next ms)
instances_lawful t next [] = none_lawful
instances_lawful t next (m ∷ ms) = both_lawful (instances_under t next m) (instances t (next + t.blanks) ms) (under_lawful t.blanks next m t.quads) (instances_lawful t (next + t.blanks) ms)

-- ---- entries of quads

-- those of quads whose terms were known are entries still
pub found_entries : (known more : List Term) (quads : List Statement) (entries : List (List ℕ)) → IsFront known more → Distinct same_term more → AreLawful quads → entries ≡ filter_map (entry_of known) quads → AreEntries more entries
found_entries known more quads entries front distinct fit are =
    still_entries known more entries (front_length known more front) (front_keeps known more front)
    (λ x c.
    let f = found_for known x quads (subst (λ l. Contains l x) are c) in
    entry_is known f.quad x (distinct_front known more front distinct) (fit f.quad f.stands) f.found)
