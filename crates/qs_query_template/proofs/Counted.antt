-- Each blank node of a template has a number below their count.
use Rattle.std.proofs.Common.{◌≡◌, ℕ, zero, suc, ◌<◌, Bool, true, false, ◌&&◌, if◌then◌else◌, List, [], ◌∷◌, ◌++◌, length, Option, Some, None, refl, sym, ◌∙◌, ap, arith}
use Rattle.std.specs.Cmp.Lexicographic.{bytes_decides}
use Rattle.std.specs.List.{list_all, flat_map, fold}
use Rattle.std.specs.Option.{option_map, is_some}
use Rattle.std.proofs.lemmas.Bool.{lt-ltb}
use Rattle.std.proofs.lemmas.Bool.Decides.{Decides-eqb}
use Rattle.std.proofs.lemmas.List.Folds.{list_all-append}
use Rattle.qs_syntax_ast.specs.declared.pattern.Triple.{Triple}
use Rattle.qs_syntax_ast.specs.declared.pattern.Verb.{Verb}
use Rattle.qs_syntax_ast.specs.declared.pattern.Verb.TheVariants as verb
use Rattle.qs_syntax_ast.specs.declared.term.BlankNode.{BlankNode}
use Rattle.qs_syntax_ast.specs.declared.term.BlankNode.TheVariants.{Label, Anonymous}
use Rattle.qs_syntax_ast.specs.declared.term.TermPattern.{TermPattern}
use Rattle.qs_syntax_ast.specs.declared.term.TermPattern.TheVariants as term
use Rattle.qs_syntax_ast.specs.declared.term.VarOrIri.{VarOrIri}
use Rattle.qs_syntax_ast.specs.declared.term.VarOrIri.TheVariants as name
use Rattle.qs_syntax_ast.specs.declared.update.QuadBlock.{QuadBlock}
use Rattle.qs_syntax_scope.specs.Names.{Name}
use Rattle.qs_query_template.specs.Blanks.{same_blank, number_in, add_blank, term_blanks, triple_blanks}
use Rattle.qs_query_template.specs.inner.Blanks.{firsts, blocks_blanks}
use Rattle.qs_query_template.specs.inner.Blanks.{triples_blanks}
use Rattle.qs_query_template.specs.inner.Fresh.{slot_is_numbered, graph_is_numbered, quad_is_numbered, is_numbered}
use Rattle.qs_query_template.specs.Template.{term_slot, verb_slot, graph_slot, triple_quads, block_quads, template_of, template_of_blocks}
use Rattle.qs_query_template.specs.inner.Template.{quad_with}
use Rattle.qs_query_template.specs.inner.Template.{blank_slot}
use Rattle.qs_query_template.specs.declared.template.Slot.{Slot}
use Rattle.qs_query_template.proofs.Numbered.{found_more, absent_more}

left_true : (a b : Bool) → (a && b) ≡ true → a ≡ true
left_true true b h = refl
left_true false b h = h

right_true : (a b : Bool) → (a && b) ≡ true → b ≡ true
right_true true b h = h
right_true false b h = let f : false ≡ true = h in cc

-- ---- the blank nodes are among their first ones

abbrev has : List BlankNode → BlankNode → Bool
has xs b = is_some (number_in xs b)

same_itself : (b : BlankNode) → same_blank b b ≡ true
same_itself (Label a) = (bytes_decides a a).1 refl
same_itself (Anonymous n) = (Decides-eqb n n).1 refl

has_more : (xs : List BlankNode) (x b : BlankNode) (o : Option ℕ) → number_in xs b ≡ o → is_some o ≡ true → has (xs ++ x ∷ []) b ≡ true
has_more xs x b None e h = let f : false ≡ true = h in cc
has_more xs x b (Some n) e h = ap is_some (found_more x b xs n e)

has_new : (xs : List BlankNode) (x : BlankNode) → number_in xs x ≡ None → has (xs ++ x ∷ []) x ≡ true
has_new xs x e = ap is_some (absent_more x x xs e ∙ ap (λ (t : Bool). if t then Some (length xs) else None) (same_itself x))

abbrev add_new : List BlankNode → BlankNode → Option ℕ → List BlankNode
add_new found b o = if is_some o then found else found ++ b ∷ []

kept_at : (xs : List BlankNode) (x b : BlankNode) (o : Option ℕ) → has xs b ≡ true → has (add_new xs x o) b ≡ true
kept_at xs x b None h = has_more xs x b (number_in xs b) refl h
kept_at xs x b (Some n) h = h

kept : (xs : List BlankNode) (x b : BlankNode) → has xs b ≡ true → has (add_blank xs x) b ≡ true
unfolding add_blank
kept xs x b h = kept_at xs x b (number_in xs x) h

put_at : (xs : List BlankNode) (x : BlankNode) (o : Option ℕ) → number_in xs x ≡ o → has (add_new xs x o) x ≡ true
put_at xs x None e = has_new xs x e
put_at xs x (Some n) e = ap is_some e

put : (xs : List BlankNode) (x : BlankNode) → has (add_blank xs x) x ≡ true
unfolding add_blank
put xs x = put_at xs x (number_in xs x) refl

kept_all : (found bs : List BlankNode) (b : BlankNode) → has found b ≡ true → has (fold add_blank found bs) b ≡ true
kept_all found [] b h = h
kept_all found (x ∷ xs) b h = kept_all (add_blank found x) xs b (kept found x b h)

known : (found bs : List BlankNode) → list_all (has (fold add_blank found bs)) bs ≡ true
known found [] = refl
known found (x ∷ xs) = rw (kept_all (add_blank found x) xs x (put found x), known (add_blank found x) xs) refl

-- ---- those that are among them have numbers

within_at : (x b : BlankNode) (xs : List BlankNode) (n : ℕ) (e : Bool) (o : Option ℕ) → number_in xs b ≡ o → ((k : ℕ) → number_in xs b ≡ Some k → k < length xs)
    → (if e then Some zero else option_map suc o) ≡ Some n → n < suc (length xs)
within_at x b xs n true o q later h = let z : zero ≡ n = cc in omega arith
within_at x b xs n false None q later h = absurd cc
within_at x b xs n false (Some k) q later h = let l : k < length xs = later k q in let s : suc k ≡ n = cc in omega arith

within : (xs : List BlankNode) (b : BlankNode) (n : ℕ) → number_in xs b ≡ Some n → n < length xs
within [] b n h = absurd cc
within (x ∷ xs) b n h = within_at x b xs n (same_blank x b) (number_in xs b) refl (λ k q. within xs b k q) h

module _ (names : List Name) (blanks : List BlankNode) where
  blank_at : (b : BlankNode) (o : Option ℕ) → number_in blanks b ≡ o → is_some o ≡ true → slot_is_numbered (length blanks) (blank_slot blanks b) ≡ true
  blank_at b None e h = let f : false ≡ true = h in cc
  blank_at b (Some n) e h = rw e (lt-ltb n (length blanks) (within blanks b n e))

  of_term : (t : TermPattern) → list_all (has blanks) (term_blanks t) ≡ true → slot_is_numbered (length blanks) (term_slot names blanks t) ≡ true
  of_term (term.Variable v) h = refl
  of_term (term.Iri i) h = refl
  of_term (term.Literal l) h = refl
  of_term (term.Blank b) h = blank_at b (number_in blanks b) refl (left_true (has blanks b) true h)

  of_graph : (g : Option VarOrIri) → graph_is_numbered (length blanks) (graph_slot names g) ≡ true
  of_graph None = refl
  of_graph (Some (name.Variable v)) = refl
  of_graph (Some (name.Iri i)) = refl

  of_quad : (g : Option Slot) (s o : Slot) (v : Verb) → graph_is_numbered (length blanks) g ≡ true → slot_is_numbered (length blanks) s ≡ true → slot_is_numbered (length blanks) o ≡ true
      → list_all (quad_is_numbered (length blanks)) (quad_with g s o (verb_slot names v)) ≡ true
  of_quad g s o (verb.Variable v) e f h = rw (e, f, h) refl
  of_quad g s o (verb.Iri i) e f h = rw (e, f, h) refl
  of_quad g s o (verb.Path p) e f h = refl

  of_triple : (g : Option Slot) → graph_is_numbered (length blanks) g ≡ true → (t : Triple) → list_all (has blanks) (triple_blanks t) ≡ true
      → list_all (quad_is_numbered (length blanks)) (triple_quads names blanks g t) ≡ true
  of_triple g e t h =
      let both = sym (list_all-append (has blanks) (term_blanks t.subject) (term_blanks t.object)) ∙ h in
      of_quad g (term_slot names blanks t.subject) (term_slot names blanks t.object) t.verb e
      (of_term t.subject (left_true (list_all (has blanks) (term_blanks t.subject)) (list_all (has blanks) (term_blanks t.object)) both))
      (of_term t.object (right_true (list_all (has blanks) (term_blanks t.subject)) (list_all (has blanks) (term_blanks t.object)) both))

  of_triples : (g : Option Slot) → graph_is_numbered (length blanks) g ≡ true → (ts : List Triple) → list_all (has blanks) (triples_blanks ts) ≡ true
      → list_all (quad_is_numbered (length blanks)) (flat_map (triple_quads names blanks g) ts) ≡ true
  of_triples g e [] h = refl
  of_triples g e (t ∷ ts) h =
      let both = sym (list_all-append (has blanks) (triple_blanks t) (triples_blanks ts)) ∙ h in
      let first = of_triple g e t (left_true (list_all (has blanks) (triple_blanks t)) (list_all (has blanks) (triples_blanks ts)) both) in
      let more = of_triples g e ts (right_true (list_all (has blanks) (triple_blanks t)) (list_all (has blanks) (triples_blanks ts)) both) in
      list_all-append (quad_is_numbered (length blanks)) (triple_quads names blanks g t) (flat_map (triple_quads names blanks g) ts) ∙ rw (first, more) refl

  of_blocks : (bs : List QuadBlock) → list_all (has blanks) (blocks_blanks bs) ≡ true → list_all (quad_is_numbered (length blanks)) (flat_map (block_quads names blanks) bs) ≡ true
  of_blocks [] h = refl
  of_blocks (b ∷ bs) h =
      let both = sym (list_all-append (has blanks) (triples_blanks b.triples) (blocks_blanks bs)) ∙ h in
      let first = of_triples (graph_slot names b.graph) (of_graph b.graph) b.triples (left_true (list_all (has blanks) (triples_blanks b.triples)) (list_all (has blanks) (blocks_blanks bs)) both) in
      let more = of_blocks bs (right_true (list_all (has blanks) (triples_blanks b.triples)) (list_all (has blanks) (blocks_blanks bs)) both) in
      list_all-append (quad_is_numbered (length blanks)) (block_quads names blanks b) (flat_map (block_quads names blanks) bs) ∙ rw (first, more) refl

pub blocks_numbered : (names : List Name) (blocks : List QuadBlock) → is_numbered (template_of_blocks names blocks) ≡ true
blocks_numbered names blocks = of_blocks names (firsts (blocks_blanks blocks)) blocks (known [] (blocks_blanks blocks))

pub triples_numbered : (names : List Name) (triples : List Triple) → is_numbered (template_of names triples) ≡ true
triples_numbered names triples = blocks_numbered names (record { graph = None; triples = triples } ∷ [])
