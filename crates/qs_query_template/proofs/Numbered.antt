-- One blank node more.
use Rattle.std.proofs.Common.{◌≡◌, ℕ, zero, suc, nat_eq, Bool, true, false, cond, if◌then◌else◌, List, [], ◌∷◌, ◌++◌, length, Option, Some, None, refl, sym, ◌∙◌, ap}
use Rattle.std.specs.Borrow.{Bor}
use Rattle.std.specs.BTreeMap.{is_at}
use Rattle.std.specs.Cmp.{unsigned_ties}
use Rattle.std.specs.Cmp.Lexicographic.{pointwise, texts_ties, bytes_decides}
use Rattle.std.specs.Option.{option_map}
use Rattle.std.specs.Ordering.{nat_cmp}
use Rattle.std.proofs.lemmas.Bool.Decides.{Decides-eqb}
use Rattle.std.proofs.lemmas.List.{map-append}
use Rattle.qs_syntax_ast.specs.declared.term.BlankNode.{BlankNode}
use Rattle.qs_syntax_ast.specs.declared.term.BlankNode.TheVariants.{Label, Anonymous}
use Rattle.qs_syntax_scope.specs.Names.{Name}
use Rattle.qs_query_template.specs.Blanks.{same_blank, number_in}
use Rattle.qs_query_template.specs.inner.Lent.{lent}
use Rattle.qs_query_template.specs.inner.Numbered.{by_text, AreNumbered}

pub same_exact : (a b : BlankNode) → same_blank a b ≡ true → a ≡ b
same_exact (Label a) (Label b) h = ap Label ((bytes_decides a b).0 h)
same_exact (Label a) (Anonymous n) h = cc
same_exact (Anonymous m) (Label b) h = cc
same_exact (Anonymous m) (Anonymous n) h = ap Anonymous ((Decides-eqb m n).0 h)

-- ---- the number of one after the others

module _ (x b : BlankNode) (n : ℕ) (ys : List BlankNode) where
  found_by : (e : Bool) (o : Option ℕ) → number_in ys b ≡ o → ((m : ℕ) → number_in ys b ≡ Some m → number_in (ys ++ x ∷ []) b ≡ Some m)
      → (if e then Some zero else option_map suc o) ≡ Some n → (if e then Some zero else option_map suc (number_in (ys ++ x ∷ []) b)) ≡ Some n
  found_by true o q later k = k
  found_by false None q later k = cc
  found_by false (Some m) q later k = ap (option_map suc) (later m q) ∙ k

pub found_more : (x b : BlankNode) (xs : List BlankNode) (n : ℕ) → number_in xs b ≡ Some n → number_in (xs ++ x ∷ []) b ≡ Some n
found_more x b [] n h = cc
found_more x b (y ∷ ys) n h = found_by x b n ys (same_blank y b) (number_in ys b) refl (λ m k. found_more x b ys m k) h

mapped : (e : Bool) (n : ℕ) → option_map suc (if e then Some n else None) ≡ (if e then Some (suc n) else None)
mapped true n = refl
mapped false n = refl

module _ (x b : BlankNode) (ys : List BlankNode) where
  absent_by : (e : Bool) (o : Option ℕ) → number_in ys b ≡ o → (number_in ys b ≡ None → number_in (ys ++ x ∷ []) b ≡ (if same_blank x b then Some (length ys) else None))
      → (if e then Some zero else option_map suc o) ≡ None → (if e then Some zero else option_map suc (number_in (ys ++ x ∷ []) b)) ≡ (if same_blank x b then Some (suc (length ys)) else None)
  absent_by true o q later k = cc
  absent_by false None q later k = ap (option_map suc) (later q) ∙ mapped (same_blank x b) (length ys)
  absent_by false (Some m) q later k = cc

pub absent_more : (x b : BlankNode) (xs : List BlankNode) → number_in xs b ≡ None → number_in (xs ++ x ∷ []) b ≡ (if same_blank x b then Some (length xs) else None)
absent_more x b [] h = refl
absent_more x b (y ∷ ys) h = absent_by x b ys (same_blank y b) (number_in ys b) refl (λ k. absent_more x b ys k) h

-- a new one gets the next number, and all others keep theirs
pub with_new : (nodes : List BlankNode) (x b : BlankNode) (n : ℕ) → number_in nodes x ≡ None → n ≡ length nodes
    → cond (same_blank x b) (Some n) (number_in nodes b) ≡ number_in (nodes ++ x ∷ []) b
with_new nodes x b n new last = by (same_blank x b) (number_in nodes b) refl refl
  where
    by : (e : Bool) (o : Option ℕ) → same_blank x b ≡ e → number_in nodes b ≡ o → cond e (Some n) o ≡ number_in (nodes ++ x ∷ []) b
    by true o q k =
        let is : x ≡ b = same_exact x b q in
        let none : number_in nodes b ≡ None = ap (number_in nodes) (sym is) ∙ new in
        sym (absent_more x b nodes none ∙ (ap (λ (t : Bool). if t then Some (length nodes) else None) q ∙ ap Some (sym last)))
    by false None q k = sym (absent_more x b nodes k ∙ ap (λ (t : Bool). if t then Some (length nodes) else None) q)
    by false (Some m) q k = sym (found_more x b nodes m k)

-- ---- the maps

module _ (nodes : List BlankNode) (labels : Bor Name → Option ℕ) (anonymous : ℕ → Option ℕ) (n : ℕ) (is : AreNumbered nodes labels anonymous) (last : n ≡ length nodes) where
  pub with_label : (labels' : Bor Name → Option ℕ) (label : Bor Name) → number_in nodes (Label label.now) ≡ None → ((q : Bor Name) → labels' q ≡ cond (is_at (by_text label) q) (Some n) (labels q))
      → AreNumbered (nodes ++ Label label.now ∷ []) labels' anonymous
  with_label labels' label new updated = record {
    labelled = λ q.
        updated q ∙ (ap (λ b. cond b (Some n) (labels q)) (sym (texts_ties label.now q.now))
        ∙ (ap (λ o. cond (pointwise nat_eq label.now q.now) (Some n) o) (is.labelled q) ∙ with_new nodes (Label label.now) (Label q.now) n new last));
    unlabelled = λ q. is.unlabelled q ∙ with_new nodes (Label label.now) (Anonymous q) n new last;
  }

  pub with_place : (anonymous' : ℕ → Option ℕ) (place : ℕ) → number_in nodes (Anonymous place) ≡ None → ((q : ℕ) → anonymous' q ≡ cond (is_at (nat_cmp place) q) (Some n) (anonymous q))
      → AreNumbered (nodes ++ Anonymous place ∷ []) labels anonymous'
  with_place anonymous' place new updated = record {
    labelled = λ q. is.labelled q ∙ with_new nodes (Anonymous place) (Label q.now) n new last;
    unlabelled = λ q.
        updated q ∙ (ap (λ b. cond b (Some n) (anonymous q)) (sym (unsigned_ties place q))
        ∙ (ap (λ o. cond (nat_eq place q) (Some n) o) (is.unlabelled q) ∙ with_new nodes (Anonymous place) (Anonymous q) n new last));
  }

-- ---- the nodes

-- one more that is lent
pub lent_more : {X : Type 0} (all xs : List (Bor X)) (x : Bor X) → all ≡ xs ++ x ∷ [] → lent all ≡ lent xs ++ x.now ∷ []
lent_more {X} all xs x e = ap lent e ∙ map-append (λ (r : Bor X). r.now) xs (x ∷ [])
