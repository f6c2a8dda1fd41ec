-- The quads of the blocks of INSERT DATA and DELETE DATA are the instances of their template under the solution that binds nothing.
use Rattle.std.proofs.Common.{◌≡◌, ℕ, ◌+◌, ◌*◌, Bool, true, false, nat_lt, if◌then◌else◌, List, [], ◌∷◌, ◌++◌, length, Option, Some, None, Ok, Err, refl, sym, ◌∙◌, ap, arith}
use Rattle.std.specs.List.{flat_map}
use Rattle.std.specs.Option.{unwrap_or}
use Rattle.std.proofs.lemmas.Bool.{le-ltb}
use Rattle.std.proofs.lemmas.Grind.{flat_map-append}
use Rattle.std.proofs.lemmas.List.{append-nil}
use Rattle.qs_terms.specs.Outcome.{Outcome}
use Rattle.qs_terms.specs.Statement.{Statement}
use Rattle.qs_terms.specs.declared.fault.QFault.{QFault}
use Rattle.qs_terms.specs.declared.fault.QFault.TheVariants.{Full}
use Rattle.qs_terms.specs.declared.term.Term.{Term}
use Rattle.qs_syntax_ast.specs.declared.pattern.Triple.{Triple}
use Rattle.qs_syntax_ast.specs.declared.pattern.Verb.{Verb}
use Rattle.qs_syntax_ast.specs.declared.pattern.Verb.TheVariants as verb
use Rattle.qs_syntax_ast.specs.declared.term.BlankNode.{BlankNode}
use Rattle.qs_syntax_ast.specs.declared.term.TermPattern.{TermPattern}
use Rattle.qs_syntax_ast.specs.declared.term.TermPattern.TheVariants as term
use Rattle.qs_syntax_ast.specs.declared.term.VarOrIri.{VarOrIri}
use Rattle.qs_syntax_ast.specs.declared.term.VarOrIri.TheVariants as name
use Rattle.qs_syntax_ast.specs.declared.update.QuadBlock.{QuadBlock}
use Rattle.qs_algebra_solutions.specs.Solution.{unbound}
use Rattle.qs_query_template.specs.Blanks.{number_in}
use Rattle.qs_query_template.specs.inner.Blanks.{blocks_blanks, firsts}
use Rattle.qs_query_template.specs.Instances.{slot_term, graph_term, quad_of, instance, instances}
use Rattle.qs_query_template.specs.inner.Instances.{fresh, within}
use Rattle.qs_query_template.specs.Template.{term_slot, verb_slot, graph_slot, template_of_blocks}
use Rattle.qs_query_template.specs.inner.Template.{quad_with}
use Rattle.qs_query_template.specs.Template as template
use Rattle.qs_query_template.specs.inner.DataBlocks.{inserted, deleted, node_term, verb_term, graph_name, triple_quads, block_quads}

-- blank nodes and numbers of a template, and those without one, that make the same terms
module _ (blanks : List BlankNode) (count first : ℕ) (found : List BlankNode) (from : ℕ)
    (same : (t : TermPattern) → slot_term count first (unbound 0) (term_slot [] blanks t) ≡ node_term found from t) where
  same_graph : (g : Option VarOrIri) → graph_term count first (unbound 0) (graph_slot [] g) ≡ graph_name g
  same_graph None = refl
  same_graph (Some (name.Variable v)) = refl
  same_graph (Some (name.Iri i)) = refl

  no_predicate : (g : Option (Option Term)) (s o : Option Term) → [] ≡ quad_of g s None o
  no_predicate None s o = refl
  no_predicate (Some g) None o = refl
  no_predicate (Some g) (Some s) o = refl

  same_places : (g : Option VarOrIri) (s o : TermPattern) (p : Option Term)
      → quad_of (graph_term count first (unbound 0) (graph_slot [] g)) (slot_term count first (unbound 0) (term_slot [] blanks s)) p (slot_term count first (unbound 0) (term_slot [] blanks o))
      ≡ quad_of (graph_name g) (node_term found from s) p (node_term found from o)
  same_places g s o p =
      ap (λ x. quad_of x (slot_term count first (unbound 0) (term_slot [] blanks s)) p (slot_term count first (unbound 0) (term_slot [] blanks o))) (same_graph g)
      ∙ (ap (λ x. quad_of (graph_name g) x p (slot_term count first (unbound 0) (term_slot [] blanks o))) (same s)
      ∙ ap (λ x. quad_of (graph_name g) (node_term found from s) p x) (same o))

  same_quad : (g : Option VarOrIri) (s o : TermPattern) (v : Verb)
      → flat_map (instance count first (unbound 0)) (quad_with (graph_slot [] g) (term_slot [] blanks s) (term_slot [] blanks o) (verb_slot [] v))
      ≡ quad_of (graph_name g) (node_term found from s) (verb_term v) (node_term found from o)
  same_quad g s o (verb.Variable v) = append-nil _ ∙ same_places g s o None
  same_quad g s o (verb.Iri i) = append-nil _ ∙ same_places g s o (verb_term (verb.Iri i))
  same_quad g s o (verb.Path p) = no_predicate (graph_name g) (node_term found from s) (node_term found from o)

  same_triples : (g : Option VarOrIri) (ts : List Triple)
      → flat_map (instance count first (unbound 0)) (flat_map (template.triple_quads [] blanks (graph_slot [] g)) ts) ≡ flat_map (triple_quads found from g) ts
  same_triples g [] = refl
  same_triples g (t ∷ ts) =
      let make = instance count first (unbound 0) in
      let rest = flat_map (template.triple_quads [] blanks (graph_slot [] g)) ts in
      flat_map-append make (template.triple_quads [] blanks (graph_slot [] g) t) rest
      ∙ (ap (λ x. x ++ flat_map make rest) (same_quad g t.subject t.object t.verb) ∙ ap (λ x. triple_quads found from g t ++ x) (same_triples g ts))

  pub same_blocks : (bs : List QuadBlock) → flat_map (instance count first (unbound 0)) (flat_map (template.block_quads [] blanks) bs) ≡ flat_map (block_quads found from) bs
  same_blocks [] = refl
  same_blocks (b ∷ bs) =
      let make = instance count first (unbound 0) in
      let rest = flat_map (template.block_quads [] blanks) bs in
      flat_map-append make (template.block_quads [] blanks b) rest
      ∙ (ap (λ x. x ++ flat_map make rest) (same_triples b.graph b.triples) ∙ ap (λ x. block_quads found from b ++ x) (same_blocks bs))

-- ---- INSERT DATA

same_term : (blanks : List BlankNode) (first : ℕ) (t : TermPattern) → slot_term (length blanks) first (unbound 0) (term_slot [] blanks t) ≡ node_term blanks first t
same_term blanks first (term.Variable v) = refl
same_term blanks first (term.Iri i) = refl
same_term blanks first (term.Literal l) = refl
same_term blanks first (term.Blank b) = refl

of_insert : (blocks : List QuadBlock) (next : ℕ) → instances (template_of_blocks [] blocks) next (unbound 0 ∷ []) ≡ flat_map (block_quads (firsts (blocks_blanks blocks)) next) blocks
of_insert blocks next =
    let blanks = firsts (blocks_blanks blocks) in
    append-nil _ ∙ same_blocks blanks (length blanks) next blanks next (same_term blanks next) blocks

abbrev numbered : ℕ → List Statement → Outcome (ℕ × List Statement)
numbered after quads = Ok (after, quads)

-- one more than the last number of the fresh blank nodes, or a fault
abbrev number : ℕ → Outcome ℕ
number n = Ok n

abbrev fault : QFault → Outcome ℕ
fault f = Err f

ok_by : (b : Bool) (n after : ℕ) (made quads : List Statement) → made ≡ quads → (if b then Err Full else Ok n) ≡ number after → (if b then Err Full else numbered n made) ≡ numbered after quads
ok_by true n after made quads e h = let k : fault Full ≡ number after = h in cc
ok_by false n after made quads e h = let k : number n ≡ number after = h in let l : n ≡ after = cc in ap (numbered n) e ∙ ap (λ (x : ℕ). numbered x quads) l

err_by : (b : Bool) (n : ℕ) (f : QFault) (made : List Statement) → (if b then Err Full else Ok n) ≡ fault f → (if b then Err Full else numbered n made) ≡ Err f
err_by true n f made h = let k : fault Full ≡ fault f = h in let l : Full ≡ f = cc in ap Err l
err_by false n f made h = let k : number n ≡ fault f = h in cc

same_after : (next : ℕ) (found blanks : List BlankNode) → found ≡ blanks → next + length blanks * 1 ≡ next + length found
same_after next found blanks e = let k : length found ≡ length blanks = ap length e in omega arith

module _ (others : List Statement) (blocks : List QuadBlock) (next : ℕ) (found : List BlankNode) (is : found ≡ firsts (blocks_blanks blocks)) where
  pub inserted_ok : (after : ℕ) (quads : List Statement) → within (next + length found) (next + length found) ≡ Ok after → quads ≡ others ++ flat_map (block_quads found next) blocks → inserted others blocks next ≡ numbered after quads
  inserted_ok after quads h e =
      let made : others ++ instances (template_of_blocks [] blocks) next (unbound 0 ∷ []) ≡ quads = ap (λ (l : List Statement). others ++ l) (of_insert blocks next) ∙ sym (e ∙ ap (λ (bs : List BlankNode). others ++ flat_map (block_quads bs next) blocks) is) in
      rw (same_after next found (firsts (blocks_blanks blocks)) is) (ok_by (nat_lt 18446744073709551615 (next + length found)) (next + length found) after _ quads made h)

  pub inserted_err : (f : QFault) → within (next + length found) (next + length found) ≡ Err f → inserted others blocks next ≡ Err f
  inserted_err f h = rw (same_after next found (firsts (blocks_blanks blocks)) is) (err_by (nat_lt 18446744073709551615 (next + length found)) (next + length found) f _ h)

-- ---- DELETE DATA

-- none of no blank nodes
none_fresh : (first k : ℕ) → fresh 0 first k ≡ None
none_fresh first k = rw (le-ltb k 0 (omega arith)) refl

no_blank : (blanks : List BlankNode) (next : ℕ) (t : TermPattern) → slot_term 0 next (unbound 0) (term_slot [] blanks t) ≡ node_term [] 0 t
no_blank blanks next (term.Variable v) = refl
no_blank blanks next (term.Iri i) = refl
no_blank blanks next (term.Literal l) = refl
no_blank blanks next (term.Blank b) = none_fresh next (unwrap_or (number_in blanks b) (length blanks)) ∙ sym (none_fresh 0 0)

pub deleted_is : (blocks : List QuadBlock) (found : List BlankNode) (others quads : List Statement) (next : ℕ) → found ≡ [] → quads ≡ others ++ flat_map (block_quads found 0) blocks → quads ≡ others ++ deleted blocks next
deleted_is blocks found others quads next none e =
    let blanks = firsts (blocks_blanks blocks) in
    e ∙ (ap (λ (bs : List BlankNode). others ++ flat_map (block_quads bs 0) blocks) none ∙ ap (λ (l : List Statement). others ++ l) (sym (append-nil _ ∙ same_blocks blanks 0 next [] 0 (no_blank blanks next) blocks)))
