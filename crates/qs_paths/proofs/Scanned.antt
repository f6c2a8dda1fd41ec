-- The triples that a scan reads are those of the graph that have the ends that are given.
use Rattle.std.proofs.Common.{◌≡◌, ℕ, zero, suc, ◌<◌, ◌≤◌, Bool, true, false, not, ◌+◌, ◌++◌, take, get_or, if◌then◌else◌, ◌&&◌, ◌||◌, ◌==◌, ◌⊎◌, inl, inr, ⊎_elim, Option, Some, None, List, [], ◌∷◌, length, map, refl, sym, ◌∙◌, ap, subst, arith}
use Rattle.std.specs.Iterator.{YieldsFirst}
use Rattle.std.specs.Option.{is_some}
use Rattle.std.specs.List.{Contains, filter, flat_map, list_any}
use Rattle.std.proofs.lemmas.Bool.{and_parts}
use Rattle.std.proofs.lemmas.Bool.Decides.{Decides-eqb}
use Rattle.std.specs.Prelude.{option_to_list}
use Rattle.std.proofs.lemmas.List.{take_all, take_more}
use Rattle.std.proofs.lemmas.List.Folds.{list_any-append}
use Rattle.std.proofs.lemmas.List.Sorted.{IsPermutation-refl}
use Rattle.std.proofs.lemmas.Option.{same_Some, none-some}
use Rattle.qs_terms.specs.Bag.{Distinct, SameBag}
use Rattle.qs_terms.specs.Dataset.{Triple, triple_of, same_triple, nodes_of}
use Rattle.qs_terms.specs.inner.Dataset.{ends_of}
use Rattle.qs_terms.specs.Statement.{Statement}
use Rattle.qs_terms.specs.Term.{same_term}
use Rattle.qs_terms.specs.declared.term.Term.{Term}
use Rattle.qs_terms.specs.declared.term.Term.TheVariants as term
use Rattle.qs_terms.proofs.FirstOnes.{distinct_kept}
use Rattle.qs_terms.proofs.SameTerm.{same_term-Decides}
use Rattle.qs_dict.specs.inner.Dict.{term_at, number_of}
use Rattle.qs_dict.proofs.Numbers.{exact_number}
use Rattle.qs_index.specs.inner.Agreeing.{fits}
use Rattle.qs_index.specs.inner.Entry.{IsAscending}
use Rattle.qs_index.specs.inner.Permutation.{order_used}
use Rattle.qs_index.specs.declared.permutation.Permutation.{Permutation}
use Rattle.qs_store.specs.Content.{Content}
use Rattle.qs_store.specs.inner.Content.{IsContent, KnowsItsTerms}
use Rattle.qs_store.specs.inner.Triples.{IsMatch, IsTriple, AreTriples, turned_triple}
use Rattle.qs_store.specs.declared.active.Active.{Active}
use Rattle.qs_store.specs.declared.default_graph.DefaultGraph.{DefaultGraph}
use Rattle.qs_store.proofs.Members.{nothing, head_or_tail, here, there, member_of_filter, filter_has, before_member, not_before_itself}
use Rattle.qs_store.proofs.TriplesSaid.{same_number as one_place}
use Rattle.qs_store.specs.inner.ActiveGraph.{active_graph}
use Rattle.qs_paths.proofs.Active.{active_has, active_only, active_once, same_triple-Decides}
use Rattle.qs_paths.proofs.Lists.{map_has, member_of_map, of_any, same_members}
use Rattle.qs_paths_meaning.specs.inner.Edges.{has, having}
use Rattle.qs_paths_meaning.specs.Pair.{Pair}
use Rattle.qs_syntax_ast.specs.declared.path.NegatedIri.{NegatedIri}
use Rattle.qs_paths_meaning.specs.Steps.{agrees, along, is_between, is_of, is_outside}
use Rattle.qs_paths_meaning.specs.inner.Steps.{pair_of}
use Rattle.qs_paths_meaning.proofs.Finds.{along_had, along_all}
use Rattle.qs_paths_meaning.proofs.Members.{Mem, bool_same, false_from, mem_at, mem_of_filter, mem_of_flat, mem_of_map, mem_of_once, not_both, not_in, or_left}
use Rattle.qs_paths_meaning.specs.inner.Links.{same_number}
use Rattle.qs_paths_meaning.proofs.Near.{subject_node, object_node}
use Rattle.qs_paths_meaning.proofs.WalkLaws.{both}
use Rattle.qs_paths.specs.inner.Nodes.{IsNaming, named_end, named_pair, named_pairs}
use Rattle.qs_paths.specs.inner.Scans.{ends_of as pair_of_triple, passes, passing, said, IsPast, AreOutside, number_out}
use Rattle.qs_paths.proofs.Listed.{any_next, any_of_bag, contains_of, filter_all, filter_in, filter_maps, is_any, is_node, map_filter_in, map_in, no_member}

-- a known term has a number
pub record Number (known : List Term) (t : Term) : Type 0 where
  pub number : ℕ
  pub is : term_at known number ≡ Some t

later_number : (x : Term) (known : List Term) (t : Term) (n : ℕ) → term_at known n ≡ Some t → Number (x ∷ known) t
later_number x known t zero h = let f : None ≡ Some t = h in cc
later_number x known t (suc i) h = record { number = suc (suc i); is = h }

pub number_there : (known : List Term) (t : Term) → Contains known t → Number known t
number_there [] t c = absurd (nothing t c)
number_there (x ∷ known) t c =
    ⊎_elim (λ s. record { number = 1; is = ap Some s }) (λ k. let m = number_there known t k in later_number x known t m.number m.is) (head_or_tail x known t c)

-- a number in use is no greater than their count
pub number_low : (known : List Term) (n : ℕ) (t : Term) → term_at known n ≡ Some t → n ≤ length known
number_low known zero t h = omega arith
number_low [] (suc n) t h = let f : None ≡ Some t = h in cc
number_low (x ∷ known) (suc zero) t h = omega arith
number_low (x ∷ known) (suc (suc n)) t h = let k : suc n ≤ length known = number_low known (suc n) t h in omega (arith, k)

eqb_back : (n k : ℕ) → (n == k) ≡ (k == n)
eqb_back n k = bool_same (n == k) (k == n) (λ h. (Decides-eqb k n).1 (sym ((Decides-eqb n k).0 h))) (λ h. (Decides-eqb n k).1 (sym ((Decides-eqb k n).0 h)))

module _ (c : Content) (d : DefaultGraph) (a : Active) (lawful : IsContent c) (knows : KnowsItsTerms c) where
  one_number : (n k : ℕ) (t u : Term) → term_at c.known n ≡ Some t → term_at c.known k ≡ Some u → t ≡ u → n ≡ k
  one_number n k t u e f h = one_place c.known lawful.terms_once n k u (e ∙ ap Some h) f

  -- ---- the triples of a scan

  module _ (subject predicate object : Option ℕ) where
    abbrev Is : List ℕ → Type 0
    Is x = IsTriple c d a subject predicate object x

    record Three (x : List ℕ) : Type 0 where
      s : ℕ
      p : ℕ
      o : ℕ
      match : IsMatch c d a subject predicate object s p o
      is : x ≡ s ∷ p ∷ o ∷ []

    three_of : (x : List ℕ) → Is x → Three x
    three_of [] h = absurd h
    three_of (s ∷ []) h = absurd h
    three_of (s ∷ p ∷ []) h = absurd h
    three_of (s ∷ p ∷ o ∷ []) h = record { s = s; p = p; o = o; match = h; is = refl }
    three_of (s ∷ p ∷ o ∷ t ∷ x) h = absurd h

    said_is : (x : List ℕ) (w : Three x) → said c.known x ≡ triple_of w.match.quad
    said_is x w = ap (said c.known) w.is ∙ rw (w.match.subject_is, w.match.predicate_is, w.match.object_is) refl

    -- the terms determine the numbers
    said_once : (x z : List ℕ) → Is x → Is z → said c.known x ≡ said c.known z → x ≡ z
    said_once x z h k e =
        let v = three_of x h in
        let w = three_of z k in
        let i : triple_of v.match.quad ≡ triple_of w.match.quad = sym (said_is x v) ∙ (e ∙ said_is z w) in
        let s = one_number v.s w.s v.match.quad.subject w.match.quad.subject v.match.subject_is w.match.subject_is (ap (λ (t : Triple). t.subject) i) in
        let p = one_number v.p w.p v.match.quad.predicate w.match.quad.predicate v.match.predicate_is w.match.predicate_is (ap (λ (t : Triple). t.predicate) i) in
        let o = one_number v.o w.o v.match.quad.object w.match.quad.object v.match.object_is w.match.object_is (ap (λ (t : Triple). t.object) i) in
        v.is ∙ (ap (λ n. n ∷ v.p ∷ v.o ∷ []) s ∙ (ap (λ n. w.s ∷ n ∷ v.o ∷ []) p ∙ (ap (λ n. w.s ∷ w.p ∷ n ∷ []) o ∙ sym w.is)))

    none_again : (q : Permutation) (x : List ℕ) (xs : List (List ℕ)) → Is x → ((z : List ℕ) → Contains xs z → Is z) → IsAscending (map (turned_triple q) (x ∷ xs)) → (b : Bool) → list_any (same_triple (said c.known x)) (map (said c.known) xs) ≡ b → b ≡ false
    none_again q x xs h each up true e =
        let m = member_of_map (said c.known) (said c.known x) xs (of_any same_triple same_triple-Decides (said c.known x) (map (said c.known) xs) e) in
        let i : x ≡ m.of = said_once x m.of h (each m.of m.stands) (sym m.is) in
        let k : Contains (map (turned_triple q) xs) (turned_triple q x) = map_has (turned_triple q) x xs (subst (Contains xs) (sym i) m.stands) in
        let f = before_member (turned_triple q x) (map (turned_triple q) xs) (turned_triple q x) up.0 k in
        let g : true ≡ false = sym f ∙ not_before_itself (turned_triple q x) in g
    none_again q x xs h each up false e = refl

    said_distinct : (q : Permutation) (xs : List (List ℕ)) → ((z : List ℕ) → Contains xs z → Is z) → IsAscending (map (turned_triple q) xs) → Distinct same_triple (map (said c.known) xs)
    said_distinct q [] each up = tt
    said_distinct q (x ∷ xs) each up =
        (none_again q x xs (each x (here x xs)) (λ z k. each z (there x z xs k)) up (list_any (same_triple (said c.known x)) (map (said c.known) xs)) refl, said_distinct q xs (λ z k. each z (there x z xs k)) up.1)

    -- a test that holds exactly of the triples that have the numbers that are given
    record Tells (test : Triple → Bool) : Type 0 where
      holds : (s p o : ℕ) (m : IsMatch c d a subject predicate object s p o) → test (triple_of m.quad) ≡ true
      subject_fits : (q : Statement) (n : ℕ) → test (triple_of q) ≡ true → term_at c.known n ≡ Some q.subject → fits subject n ≡ true
      predicate_fits : (q : Statement) (n : ℕ) → test (triple_of q) ≡ true → term_at c.known n ≡ Some q.predicate → fits predicate n ≡ true
      object_fits : (q : Statement) (n : ℕ) → test (triple_of q) ≡ true → term_at c.known n ≡ Some q.object → fits object n ≡ true

    module _ (test : Triple → Bool) (tells : Tells test) (xs : List (List ℕ)) (l : AreTriples c d a subject predicate object xs) where
      read_in : (t : Triple) → Contains (map (said c.known) xs) t → Contains (filter test (active_graph c d a)) t
      read_in t k =
          let m = member_of_map (said c.known) t xs k in
          let w = three_of m.of (l.only m.of m.stands) in
          let e : triple_of w.match.quad ≡ t = sym (said_is m.of w) ∙ m.is in
          filter_has test t (active_graph c d a) (subst (Contains (active_graph c d a)) e (active_has c d a w.match.quad w.match.stands w.match.read))
          (ap test (sym e) ∙ tells.holds w.s w.p w.o w.match)

      read_out : (t : Triple) → Contains (filter test (active_graph c d a)) t → Contains (map (said c.known) xs) t
      read_out t k =
          let f = member_of_filter test t (active_graph c d a) k in
          let g = active_only c d a t f.0 in
          let known = knows g.quad g.stands in
          let s = number_there c.known g.quad.subject known.subject in
          let p = number_there c.known g.quad.predicate known.predicate in
          let o = number_there c.known g.quad.object known.object in
          let h : test (triple_of g.quad) ≡ true = ap test g.is ∙ f.1 in
          let match : IsMatch c d a subject predicate object s.number p.number o.number = record {
            quad = g.quad;
            stands = g.stands;
            read = g.read;
            subject_is = s.is;
            predicate_is = p.is;
            object_is = o.is;
            subject_given = tells.subject_fits g.quad s.number h s.is;
            predicate_given = tells.predicate_fits g.quad p.number h p.is;
            object_given = tells.object_fits g.quad o.number h o.is;
          } in
          let x : List ℕ = s.number ∷ p.number ∷ o.number ∷ [] in
          subst (Contains (map (said c.known) xs)) (said_is x (record { s = s.number; p = p.number; o = o.number; match = match; is = refl }) ∙ g.is) (map_has (said c.known) x xs (l.has x match))

      scanned : SameBag (map (said c.known) xs) (filter test (active_graph c d a))
      scanned =
          same_members same_triple same_triple-Decides (map (said c.known) xs) (filter test (active_graph c d a)) (said_distinct (order_used subject predicate object) xs l.only l.ascending)
          (distinct_kept same_triple same_triple-Decides test (active_graph c d a) (active_once c d a lawful)) read_in read_out

  -- ---- nodes and their numbers

  in_graph_subject : (t : Triple) → Contains (active_graph c d a) t → Contains c.known t.subject
  in_graph_subject t k =
      let g = active_only c d a t k in
      subst (λ (u : Triple). Contains c.known u.subject) g.is (knows g.quad g.stands).subject

  in_graph_object : (t : Triple) → Contains (active_graph c d a) t → Contains c.known t.object
  in_graph_object t k =
      let g = active_only c d a t k in
      subst (λ (u : Triple). Contains c.known u.object) g.is (knows g.quad g.stands).object

  in_graph_predicate : (t : Triple) → Contains (active_graph c d a) t → Contains c.known t.predicate
  in_graph_predicate t k =
      let g = active_only c d a t k in
      subst (λ (u : Triple). Contains c.known u.predicate) g.is (knows g.quad g.stands).predicate

  pub node_number : (x : Term) → Mem x (nodes_of (active_graph c d a)) → Number c.known x
  node_number x m =
      let w = mem_of_flat ends_of x (active_graph c d a) (mem_of_once same_term same_term-Decides x (flat_map ends_of (active_graph c d a)) m) in
      let k : Contains (active_graph c d a) w.0 = contains_of w.0 (active_graph c d a) w.1.0 in
      elim w.1.1 [
        | inl e ↦ number_there c.known x (subst (Contains c.known) (sym e) (in_graph_subject w.0 k))
        | inr h ↦ elim h [
          | inl e ↦ number_there c.known x (subst (Contains c.known) (sym e) (in_graph_object w.0 k))
          | inr f ↦ elim f [ ]
        ]
      ]

  -- ---- under a naming

  module _ (name : ℕ → Term) (naming : IsNaming c.known name) where
    pub named_agrees : (end : Option ℕ) (k : ℕ) (t : Term) → term_at c.known k ≡ Some t → agrees (named_end name end) t ≡ fits end k
    named_agrees None k t e = refl
    named_agrees (Some n) k t e = ap (same_term (name n)) (sym (naming.own k t e)) ∙ (naming.apart n k ∙ eqb_back n k)

    all_three : (p q r : Bool) → p ≡ true → q ≡ true → r ≡ true → (p && (q && r)) ≡ true
    all_three p q r f g h = rw (f, g, h) refl

    abbrev Fitting : Option Term → Option ℕ → Type 0
    Fitting y p = (k : ℕ) (t : Term) → term_at c.known k ≡ Some t → agrees y t ≡ fits p k

    scanned_named : (left right p : Option ℕ) (y : Option Term) → Fitting y p → (xs : List (List ℕ)) → AreTriples c d a left p right xs → SameBag (map (said c.known) xs) (having (named_end name left) y (named_end name right) (active_graph c d a))
    scanned_named left right p y g xs l =
        scanned left p right (has (named_end name left) y (named_end name right))
        (record {
          holds = λ i j k m. all_three _ _ _ (named_agrees left i m.quad.subject m.subject_is ∙ m.subject_given) (g j m.quad.predicate m.predicate_is ∙ m.predicate_given) (named_agrees right k m.quad.object m.object_is ∙ m.object_given);
          subject_fits = λ q k h e. sym (named_agrees left k q.subject e) ∙ (and_parts (agrees (named_end name left) q.subject) _ h).0;
          predicate_fits = λ q k h e. sym (g k q.predicate e) ∙ (and_parts (agrees y q.predicate) _ (and_parts (agrees (named_end name left) q.subject) _ h).1).0;
          object_fits = λ q k h e. sym (named_agrees right k q.object e) ∙ (and_parts (agrees y q.predicate) _ (and_parts (agrees (named_end name left) q.subject) _ h).1).1;
        }) xs l

    module _ (left right p : Option ℕ) (xs : List (List ℕ)) (l : AreTriples c d a left p right xs) where
      three_in : (x : List ℕ) → Contains xs x → Three left p right x
      three_in x k = three_of left p right x (l.only x k)

      -- what a triple says
      pair_said : (x : List ℕ) → Contains xs x → named_pair name (pair_of_triple x) ≡ pair_of (said c.known x)
      pair_said x k =
          let w = three_in x k in
          ap (λ z. named_pair name (pair_of_triple z)) w.is
          ∙ (ap (λ z. record { left = z; right = name w.o }) (naming.own w.s w.match.quad.subject w.match.subject_is)
          ∙ (ap (λ z. record { left = w.match.quad.subject; right = z }) (naming.own w.o w.match.quad.object w.match.object_is)
          ∙ sym (ap pair_of (said_is left p right x w))))

      pairs_said : named_pairs name (map pair_of_triple xs) ≡ map pair_of (map (said c.known) xs)
      pairs_said = map_in (named_pair name) pair_of_triple pair_of (said c.known) xs (λ x k. pair_said x k)

      all_pass : filter (passes []) xs ≡ xs
      all_pass = filter_all (passes []) xs (λ x k. let w = three_in x k in ap (passes []) w.is)

      -- the pairs of one IRI
      pub along_scanned : (x : Term) (n : ℕ) → p ≡ Some n → Some n ≡ number_of c.known x → SameBag (named_pairs name (passing [] xs)) (along (same_term x) (active_graph c d a) (named_end name left) (named_end name right))
      along_scanned x n e is =
          along_had x (named_end name left) (named_end name right) (active_graph c d a) (map (said c.known) xs) (named_pairs name (passing [] xs))
          (ap (λ z. named_pairs name (map pair_of_triple z)) all_pass ∙ pairs_said)
          (scanned_named left right p (Some x)
          (λ k t h. ap (λ z. same_term z t) (sym (naming.own n x ((exact_number c.known x lawful.terms_once n).0 (sym is)))) ∙ (named_agrees (Some n) k t h ∙ ap (λ o. fits o k) (sym e))) xs l)

      -- those of the triples whose predicate passes
      passes_said : (test : Term → Bool) (outside : List ℕ) → ((t : Term) (k : ℕ) → term_at c.known k ≡ Some t → not (list_any (same_number k) outside) ≡ test t) → (x : List ℕ) → Contains xs x → test (said c.known x).predicate ≡ passes outside x
      passes_said test outside g x k =
          let w = three_in x k in
          ap (λ (z : Triple). test z.predicate) (said_is left p right x w)
          ∙ (sym (g w.match.quad.predicate w.p w.match.predicate_is) ∙ sym (ap (passes outside) w.is))

      between_said : (x : List ℕ) → Contains xs x → is_between (named_end name left) (named_end name right) (pair_of (said c.known x)) ≡ true
      between_said x k =
          let w = three_in x k in
          ap (λ (z : Triple). is_between (named_end name left) (named_end name right) (pair_of z)) (said_is left p right x w)
          ∙ both_true _ _ (named_agrees left w.s w.match.quad.subject w.match.subject_is ∙ w.match.subject_given) (named_agrees right w.o w.match.quad.object w.match.object_is ∙ w.match.object_given)
        where
          both_true : (a b : Bool) → a ≡ true → b ≡ true → (a && b) ≡ true
          both_true a b f g = rw (f, g) refl

      outside_said : (test : Term → Bool) (outside : List ℕ) → ((t : Term) (k : ℕ) → term_at c.known k ≡ Some t → not (list_any (same_number k) outside) ≡ test t) → named_pairs name (passing outside xs) ≡ along test (map (said c.known) xs) (named_end name left) (named_end name right)
      outside_said test outside g =
          map_in (named_pair name) pair_of_triple pair_of (said c.known) (filter (passes outside) xs) (λ x k. pair_said x (filter_in (passes outside) x xs k))
          ∙ (sym (filter_maps (is_between (named_end name left) (named_end name right)) pair_of (said c.known) (filter (passes outside) xs) (λ x k. between_said x (filter_in (passes outside) x xs k)))
          ∙ ap (λ (ts : List Triple). filter (is_between (named_end name left) (named_end name right)) (map pair_of ts)) (map_filter_in (said c.known) (passes outside) (λ (t : Triple). test t.predicate) xs (λ x k. passes_said test outside g x k)))

      -- the pairs of the triples whose predicate is none of some numbers
      pub outside_scanned : (test : Term → Bool) (outside : List ℕ) → p ≡ None → ((t : Term) (k : ℕ) → term_at c.known k ≡ Some t → not (list_any (same_number k) outside) ≡ test t) → SameBag (named_pairs name (passing outside xs)) (along test (active_graph c d a) (named_end name left) (named_end name right))
      outside_scanned test outside e g =
          along_all test (named_end name left) (named_end name right) (active_graph c d a) (map (said c.known) xs) (map (said c.known) xs) (length (map (said c.known) xs)) (named_pairs name (passing outside xs)) (omega arith) refl
          (scanned_named left right p None (λ k t h. ap (λ o. fits o k) (sym e)) xs l)
          (outside_said test outside g ∙ sym (ap (λ ts. along test ts (named_end name left) (named_end name right)) (take_all (length (map (said c.known) xs)) (map (said c.known) xs) (omega arith))))

    -- ---- where there is nothing

    record AlongNodes (left right : Option Term) (e : Pair) : Type 0 where
      left_agrees : agrees left e.left ≡ true
      right_agrees : agrees right e.right ≡ true
      left_node : Mem e.left (nodes_of (active_graph c d a))
      right_node : Mem e.right (nodes_of (active_graph c d a))

    along_nodes : (test : Term → Bool) (left right : Option Term) (e : Pair) → Mem e (along test (active_graph c d a) left right) → AlongNodes left right e
    along_nodes test left right e m =
        let w = mem_of_filter (is_between left right) e (map pair_of (filter (λ (t : Triple). test t.predicate) (active_graph c d a))) m in
        let b = both (agrees left e.left) (agrees right e.right) w.0 in
        let v = mem_of_map pair_of e (filter (λ (t : Triple). test t.predicate) (active_graph c d a)) w.1 in
        let k = (mem_of_filter (λ (t : Triple). test t.predicate) v.0 (active_graph c d a) v.1.0).1 in record {
          left_agrees = b.0;
          right_agrees = b.1;
          left_node = mem_at v.0.subject e.left (nodes_of (active_graph c d a)) (sym (ap (λ (f : Pair). f.left) v.1.1)) (subject_node (active_graph c d a) v.0 k);
          right_node = mem_at v.0.object e.right (nodes_of (active_graph c d a)) (sym (ap (λ (f : Pair). f.right) v.1.1)) (object_node (active_graph c d a) v.0 k);
        }

    module _ (few : length c.known < 4294967296) where
      -- a number past those of the known terms names no node
      past_apart : (n : ℕ) → 4294967296 ≤ n → (x : Term) → Mem x (nodes_of (active_graph c d a)) → same_term (name n) x ≡ false
      past_apart n far x m =
          let w = node_number x m in
          let low : w.number ≤ length c.known = number_low c.known w.number x w.is in
          ap (same_term (name n)) (sym (naming.own w.number x w.is)) ∙ (naming.apart n w.number ∙ false_from (n == w.number) (λ e. let k : n ≡ w.number = (Decides-eqb n w.number).0 e in absurd (omega (arith, few, far, low, k))))

      past_end : (end : Option ℕ) → IsPast end → (x : Term) → Mem x (nodes_of (active_graph c d a)) → agrees (named_end name end) x ≡ true → ⊥
      past_end None h x m k = h
      past_end (Some n) h x m k = not_both (same_term (name n) x) k (past_apart n h x m)

      pub along_past : (test : Term → Bool) (left right : Option ℕ) → IsPast left ⊎ IsPast right → along test (active_graph c d a) (named_end name left) (named_end name right) ≡ []
      along_past test left right h =
          no_member (along test (active_graph c d a) (named_end name left) (named_end name right)) (λ e m.
          let w = along_nodes test (named_end name left) (named_end name right) e m in
          elim h [ inl k ↦ past_end left k e.left w.left_node w.left_agrees | inr k ↦ past_end right k e.right w.right_node w.right_agrees ])

      pub past_no_node : (n : ℕ) → 4294967296 ≤ n → list_any (same_term (name n)) (nodes_of (active_graph c d a)) ≡ false
      past_no_node n far = not_in same_term same_term-Decides (name n) (nodes_of (active_graph c d a)) (λ m. not_both (same_term (name n) (name n)) ((same_term-Decides (name n) (name n)).1 refl) (past_apart n far (name n) m))

    -- an IRI that isn't known
    pub along_unknown : (x : Term) → None ≡ number_of c.known x → (left right : Option Term) → along (same_term x) (active_graph c d a) left right ≡ []
    along_unknown x is left right =
        no_member (along (same_term x) (active_graph c d a) left right) (λ e m.
        let w = mem_of_filter (is_between left right) e (map pair_of (filter (λ (t : Triple). same_term x t.predicate) (active_graph c d a))) m in
        let v = mem_of_map pair_of e (filter (λ (t : Triple). same_term x t.predicate) (active_graph c d a)) w.1 in
        let k = mem_of_filter (λ (t : Triple). same_term x t.predicate) v.0 (active_graph c d a) v.1.0 in
        let n = number_there c.known v.0.predicate (in_graph_predicate v.0 (contains_of v.0 (active_graph c d a) k.1)) in
        let f : number_of c.known x ≡ Some n.number = (exact_number c.known x lawful.terms_once n.number).1 (n.is ∙ ap Some (sym ((same_term-Decides x v.0.predicate).0 k.0))) in
        absurd (none-some n.number (is ∙ f)))

    -- ---- whether a number names a node

    module _ (n : ℕ) where
      from_here : (xs : List (List ℕ)) → AreTriples c d a (Some n) None None xs → is_any xs ≡ list_any (λ (t : Triple). same_term (name n) t.subject) (active_graph c d a)
      from_here xs l =
          any_of_bag (said c.known) (λ (t : Triple). same_term (name n) t.subject) xs (active_graph c d a)
          (scanned (Some n) None None (λ (t : Triple). same_term (name n) t.subject)
          (record { holds = λ s p o m. named_agrees (Some n) s m.quad.subject m.subject_is ∙ m.subject_given; subject_fits = λ q k h e. sym (named_agrees (Some n) k q.subject e) ∙ h; predicate_fits = λ q k h e. refl; object_fits = λ q k h e. refl }) xs l)

      to_here : (xs : List (List ℕ)) → AreTriples c d a None None (Some n) xs → is_any xs ≡ list_any (λ (t : Triple). same_term (name n) t.object) (active_graph c d a)
      to_here xs l =
          any_of_bag (said c.known) (λ (t : Triple). same_term (name n) t.object) xs (active_graph c d a)
          (scanned None None (Some n) (λ (t : Triple). same_term (name n) t.object)
          (record { holds = λ s p o m. named_agrees (Some n) o m.quad.object m.object_is ∙ m.object_given; subject_fits = λ q k h e. refl; predicate_fits = λ q k h e. refl; object_fits = λ q k h e. sym (named_agrees (Some n) k q.object e) ∙ h }) xs l)

      pub tells_node : (from to : List (List ℕ)) → AreTriples c d a (Some n) None None from → AreTriples c d a None None (Some n) to → (is_any from || is_any to) ≡ list_any (same_term (name n)) (nodes_of (active_graph c d a))
      tells_node from to l k = ap (λ b. b || is_any to) (from_here from l) ∙ (ap (λ b. list_any (λ (t : Triple). same_term (name n) t.subject) (active_graph c d a) || b) (to_here to k) ∙ is_node (name n) (active_graph c d a))

      pub tells_begin : (from rest : List (List ℕ)) (o : Option (List ℕ)) (b : Bool) → AreTriples c d a (Some n) None None from → YieldsFirst (λ (l : List (List ℕ)). l) from o rest → b ≡ is_some o → b ≡ true → true ≡ list_any (same_term (name n)) (nodes_of (active_graph c d a))
      tells_begin from rest o b l y e h =
          let k : list_any (λ (t : Triple). same_term (name n) t.subject) (active_graph c d a) ≡ true = sym (from_here from l) ∙ (sym (any_next from rest o b y e) ∙ h) in
          sym (sym (is_node (name n) (active_graph c d a)) ∙ ap (λ z. z || list_any (λ (t : Triple). same_term (name n) t.object) (active_graph c d a)) k)

      pub tells_end : (from rest to rest' : List (List ℕ)) (o p : Option (List ℕ)) (b e : Bool) → AreTriples c d a (Some n) None None from → AreTriples c d a None None (Some n) to → YieldsFirst (λ (l : List (List ℕ)). l) from o rest → YieldsFirst (λ (l : List (List ℕ)). l) to p rest'
          → b ≡ is_some o → e ≡ is_some p → b ≡ false → e ≡ list_any (same_term (name n)) (nodes_of (active_graph c d a))
      tells_end from rest to rest' o p b e l k y z f g h =
          any_next to rest' p e z g ∙ (sym (ap (λ w. w || is_any to) (sym (any_next from rest o b y f) ∙ h)) ∙ tells_node from to l k)

    -- ---- what the program opens

    module _ (few : length c.known < 4294967296) (left right : Option ℕ) where
      pub iri_scan : (x : Term) (n : ℕ) (triples : List (List ℕ)) (outside : List ℕ) → Some n ≡ number_of c.known x → AreTriples c d a left (Some n) right triples → outside ≡ [] → SameBag (named_pairs name (passing outside triples)) (along (same_term x) (active_graph c d a) (named_end name left) (named_end name right))
      iri_scan x n triples outside is l e =
          subst (λ o. SameBag (named_pairs name (passing o triples)) (along (same_term x) (active_graph c d a) (named_end name left) (named_end name right))) (sym e)
          (along_scanned left right (Some n) triples l x n refl is)

      nothing_is : (ps : List Pair) → ps ≡ [] → SameBag [] ps
      nothing_is ps e = subst (λ (l : List Pair). SameBag [] l) (sym e) (IsPermutation-refl [])

      pub no_iri : (x : Term) → None ≡ number_of c.known x → SameBag [] (along (same_term x) (active_graph c d a) (named_end name left) (named_end name right))
      no_iri x is = nothing_is _ (along_unknown x is (named_end name left) (named_end name right))

      pub no_end : (test : Term → Bool) → IsPast left ⊎ IsPast right → SameBag [] (along test (active_graph c d a) (named_end name left) (named_end name right))
      no_end test h = nothing_is _ (along_past few test left right h)

      pub set_scan : (inverse : Bool) (members : List NegatedIri) (triples : List (List ℕ)) (outside : List ℕ) → AreOutside c.known inverse members outside → AreTriples c d a left None right triples → SameBag (named_pairs name (passing outside triples)) (along (is_outside inverse members) (active_graph c d a) (named_end name left) (named_end name right))
      set_scan inverse members triples outside h l = outside_scanned left right None triples l (is_outside inverse members) outside refl (λ t k e. ap not (h t k e))

  -- ---- the numbers of the IRIs of a negated set

  out_named : (inverse : Bool) (m : NegatedIri) (t : Term) (p : ℕ) → term_at c.known p ≡ Some t → list_any (same_number p) (number_out c.known inverse m) ≡ (is_of inverse m && same_term (term.Iri m.iri) t)
  out_named inverse m t p e = by (is_of inverse m)
    where
      known_is : (o : Option ℕ) → number_of c.known (term.Iri m.iri) ≡ o → list_any (same_number p) (option_to_list o) ≡ same_term (term.Iri m.iri) t
      known_is None h = sym (false_from (same_term (term.Iri m.iri) t) (λ s. let f : number_of c.known (term.Iri m.iri) ≡ Some p = (exact_number c.known (term.Iri m.iri) lawful.terms_once p).1 (e ∙ ap Some (sym ((same_term-Decides (term.Iri m.iri) t).0 s))) in absurd (none-some p (sym h ∙ f))))
      known_is (Some k) h =
          let i : term_at c.known k ≡ Some (term.Iri m.iri) = (exact_number c.known (term.Iri m.iri) lawful.terms_once k).0 h in
          bool_same (same_number p k || false) (same_term (term.Iri m.iri) t)
          (λ s. (same_term-Decides (term.Iri m.iri) t).1 (same_Some (term.Iri m.iri) t (sym i ∙ (ap (term_at c.known) (sym ((Decides-eqb p k).0 (from_or (same_number p k) s))) ∙ e))))
          (λ s. or_left (same_number p k) false ((Decides-eqb p k).1 (one_number p k t (term.Iri m.iri) e i (sym ((same_term-Decides (term.Iri m.iri) t).0 s)))))
        where
          from_or : (b : Bool) → (b || false) ≡ true → b ≡ true
          from_or true h = refl
          from_or false h = h

      by : (b : Bool) → list_any (same_number p) (if b then option_to_list (number_of c.known (term.Iri m.iri)) else []) ≡ (b && same_term (term.Iri m.iri) t)
      by true = known_is (number_of c.known (term.Iri m.iri)) refl
      by false = refl

  pub outside_more : (inverse : Bool) (members : List NegatedIri) (i : ℕ) (m : NegatedIri) (ns ns' : List ℕ) → i < length members → m ≡ get_or members i m → AreOutside c.known inverse (take i members) ns → ns' ≡ ns ++ number_out c.known inverse m → AreOutside c.known inverse (take (i + 1) members) ns'
  outside_more inverse members i m ns ns' lt is h e t p k =
      ap (list_any (same_number p)) e
      ∙ (list_any-append (same_number p) ns (number_out c.known inverse m)
      ∙ (ap (λ b. b || list_any (same_number p) (number_out c.known inverse m)) (h t p k)
      ∙ (ap (λ b. list_any (λ (m : NegatedIri). is_of inverse m && same_term (term.Iri m.iri) t) (take i members) || b) (out_named inverse m t p k ∙ sym (last_or (is_of inverse m && same_term (term.Iri m.iri) t)))
      ∙ sym (ap (list_any (λ (m : NegatedIri). is_of inverse m && same_term (term.Iri m.iri) t)) (take_more members i m lt ∙ ap (λ z. take i members ++ z ∷ []) (sym is)) ∙ list_any-append (λ (m : NegatedIri). is_of inverse m && same_term (term.Iri m.iri) t) (take i members) (m ∷ [])))))
    where
      last_or : (b : Bool) → (b || false) ≡ b
      last_or true = refl
      last_or false = refl
