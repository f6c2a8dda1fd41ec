-- The arms of the program over paths.
use Rattle.std.proofs.Common.{◌≡◌, ℕ, ◌+◌, ◌<◌, ◌≤◌, Bool, cond, List, [], ◌∷◌, ◌++◌, length, map, take, drop, get_or, suc, ◌==◌, ◌≢◌, true, false, arith, drop-cons, length-drop, Option, None, refl, ap, subst, sym, ◌∙◌}
use Rattle.std.specs.Bool.{Decides}
use Rattle.std.specs.List.{filter, flat_map}
use Rattle.std.proofs.lemmas.Bool.{eqb-true, eqb-false}
use Rattle.std.proofs.lemmas.Bool.Decides.{Decides-and, Decides-like}
use Rattle.std.proofs.lemmas.List.{take_more, append-nil}
use Rattle.std.proofs.lemmas.List.Folds.{flat_map-map}
use Rattle.std.proofs.lemmas.List.Sorted.{IsPermutation-append, IsPermutation-map, IsPermutation-refl, IsPermutation-trans}
use Rattle.std.proofs.lemmas.Grind.{flat_map-append}
use Rattle.qs_terms.specs.declared.term.Term.{Term}
use Rattle.qs_terms.specs.declared.term.Term.TheVariants as term
use Rattle.qs_terms.specs.Bag.{SameBag}
use Rattle.qs_terms.specs.inner.Bag.{times}
use Rattle.qs_terms.specs.Term.{same_term}
use Rattle.qs_terms.proofs.Counts.{times-flat_map, times-filter, times-same, total-same, total-ap, same_from_times}
use Rattle.qs_terms.proofs.SameTerm.{same_term-Decides}
use Rattle.qs_syntax_tree.specs.declared.path.Repetition.{Repetition}
use Rattle.qs_syntax_ast.specs.declared.path.NegatedIri.{NegatedIri}
use Rattle.qs_syntax_ast.specs.declared.path.Path.{Path}
use Rattle.qs_syntax_ast.specs.declared.path.Path.TheVariants.{Iri, NegatedSet, Alternative, Sequence, Inverse, Repeated}
use Rattle.qs_paths_meaning.specs.Pair.{Pair, pair, swapped}
use Rattle.qs_paths_meaning.specs.inner.Pair.{same_pair}
use Rattle.qs_paths_meaning.specs.Steps.{Graph, along, negated, composed}
use Rattle.qs_paths_meaning.specs.inner.Steps.{from_pair}
use Rattle.qs_paths_meaning.specs.Closure.{closure}
use Rattle.qs_paths_meaning.specs.Pairs.{AtEnds, in_sequence, is_step, pairs}
use Rattle.qs_paths_meaning.proofs.Meaning.{pairs_iri, pairs_negated, pairs_alternative, pairs_sequence, pairs_inverse, pairs_repeated}

-- ---- bags of pairs

pub pair_from_parts : (a b : Pair) → a.left ≡ b.left → a.right ≡ b.right → a ≡ b
pair_from_parts a b l r = ap (λ x. pair x a.right) l ∙ ap (λ x. pair b.left x) r

pub same_pair-Decides : (a b : Pair) → Decides (same_pair a b) (a ≡ b)
same_pair-Decides a b =
    Decides-like (same_pair a b) (λ p. pair_from_parts a b p.0 p.1) (λ (e : a ≡ b). (ap (λ (l : Pair). l.left) e, ap (λ (l : Pair). l.right) e))
    (Decides-and (same_term a.left b.left) (same_term a.right b.right) (same_term-Decides a.left b.left) (same_term-Decides a.right b.right))

pub filter_same_by : {X : Type 0} (same : X → X → Bool) → ((a b : X) → Decides (same a b) (a ≡ b)) → (p : X → Bool) (xs ys : List X) → SameBag xs ys → SameBag (filter p xs) (filter p ys)
filter_same_by same exact p xs ys h =
    same_from_times same exact _ _ (λ a.
    times-filter same exact p a xs ∙ (ap (λ n. cond (p a) n 0) (times-same same a xs ys h) ∙ sym (times-filter same exact p a ys)))

pub flat_map_same : {T : Type 0} (f g : T → List Pair) (xs ys : List T) → SameBag xs ys → ((t : T) → SameBag (f t) (g t)) → SameBag (flat_map f xs) (flat_map g ys)
flat_map_same f g xs ys h each =
    same_from_times same_pair same_pair-Decides _ _ (λ a.
    times-flat_map same_pair f a xs
    ∙ (total-ap (λ t. times same_pair a (f t)) (λ t. times same_pair a (g t)) (λ t. times-same same_pair a (f t) (g t) (each t)) xs
    ∙ (total-same (λ t. times same_pair a (g t)) xs ys h ∙ sym (times-flat_map same_pair g a ys))))

pub composed_same : (ps ps' qs qs' : List Pair) → SameBag ps ps' → SameBag qs qs' → SameBag (composed ps qs) (composed ps' qs')
composed_same ps ps' qs qs' h k =
    flat_map_same (from_pair qs) (from_pair qs') ps ps' h (λ (e : Pair).
    IsPermutation-map (λ (f : Pair). pair e.left f.right) _ _ (filter_same_by same_pair same_pair-Decides (λ (f : Pair). same_term e.right f.left) qs qs' k))

pub same_as : {X : Type 0} (xs ys : List X) → xs ≡ ys → SameBag xs ys
same_as xs ys e = subst (λ l. SameBag xs l) e (IsPermutation-refl xs)

pub same_at : (rows xs ys zs : List Pair) → rows ≡ xs → SameBag xs ys → zs ≡ ys → SameBag rows zs
same_at rows xs ys zs e h f = subst (λ (l : List Pair). SameBag l zs) (sym e) (subst (λ (l : List Pair). SameBag xs l) (sym f) h)

-- ---- the variants

module _ (graph : Graph) (p : Path) (left right : Option Term) where
  by_meaning : (q : Path) (f : AtEnds) (rows : List Pair) → p ≡ q → pairs graph q ≡ f → SameBag rows (f left right) → SameBag rows (pairs graph p left right)
  by_meaning q f rows is e h = subst (λ (l : List Pair). SameBag rows l) (sym (ap (λ (k : Path). pairs graph k left right) is ∙ ap (λ (k : AtEnds). k left right) e)) h

  pub iri_arm : (i : List ℕ) (rows : List Pair) → p ≡ Iri i → SameBag rows (along (same_term (term.Iri i)) graph left right) → SameBag rows (pairs graph p left right)
  iri_arm i rows is h = by_meaning (Iri i) _ rows is (pairs_iri graph i) h

  pub negated_arm : (members ms : List NegatedIri) (rows : List Pair) → p ≡ NegatedSet members → ms ≡ members → SameBag rows (negated ms graph left right) → SameBag rows (pairs graph p left right)
  negated_arm members ms rows is m h =
      by_meaning (NegatedSet members) _ rows is (pairs_negated graph members) (subst (λ l. SameBag rows (negated l graph left right)) m h)

  pub any_arm : (parts ps : List Path) (rows : List Pair) → p ≡ Alternative parts → ps ≡ parts → SameBag rows (flat_map (λ part. pairs graph part left right) ps) → SameBag rows (pairs graph p left right)
  any_arm parts ps rows is m h =
      by_meaning (Alternative parts) _ rows is (pairs_alternative graph parts)
      (same_at rows rows _ _ refl h (flat_map-map (λ (f : AtEnds). f left right) (pairs graph) parts ∙ ap (flat_map (λ part. pairs graph part left right)) (sym m)))

  pub sequence_arm : (parts ps : List Path) (rows : List Pair) → p ≡ Sequence parts → ps ≡ parts → SameBag rows (in_sequence (map (pairs graph) ps) left right) → SameBag rows (pairs graph p left right)
  sequence_arm parts ps rows is m h =
      by_meaning (Sequence parts) _ rows is (pairs_sequence graph parts) (same_at rows rows _ _ refl h (ap (λ l. in_sequence (map (pairs graph) l) left right) (sym m)))

  pub inverse_arm : (inner q : Path) (rows inverse : List Pair) → p ≡ Inverse inner → q ≡ inner → SameBag inverse (pairs graph q right left) → rows ≡ map swapped inverse → SameBag rows (pairs graph p left right)
  inverse_arm inner q rows inverse is m h e =
      by_meaning (Inverse inner) _ rows is (pairs_inverse graph inner)
      (same_at rows (map swapped inverse) (map swapped (pairs graph q right left)) _ e (IsPermutation-map swapped _ _ h) (ap (λ k. map swapped (pairs graph k right left)) (sym m)))

  pub repeated_arm : (inner q : Path) (repetition : Repetition) (rows : List Pair) → p ≡ Repeated inner repetition → q ≡ inner → SameBag rows (closure repetition (is_step (pairs graph q)) graph left right) → SameBag rows (pairs graph p left right)
  repeated_arm inner q repetition rows is m h =
      by_meaning (Repeated inner repetition) _ rows is (pairs_repeated graph inner repetition)
      (same_at rows rows _ _ refl h (ap (λ k. closure repetition (is_step (pairs graph k)) graph left right) (sym m)))

-- one part more
pub any_more : (f : Path → List Pair) (ps : List Path) (i : ℕ) (p : Path) (rows more rows' : List Pair) → i < length ps → p ≡ get_or ps i p → SameBag rows (flat_map f (take i ps)) → SameBag more (f p) → rows' ≡ rows ++ more → SameBag rows' (flat_map f (take (i + 1) ps))
any_more f ps i p rows more rows' lt is h m e =
    same_at _ _ _ _ e (IsPermutation-append _ _ _ _ h m)
    (ap (flat_map f) (take_more ps i p lt) ∙ (flat_map-append f (take i ps) (get_or ps i p ∷ []) ∙ ap (λ xs. flat_map f (take i ps) ++ xs) (append-nil (f (get_or ps i p)) ∙ ap f (sym is))))

-- ---- sequences

-- the parts from one place on
module _ (graph : Graph) (right : Option Term) where
  before_rest : (p : Path) (rest : List Path) (is_last : Bool) (rows rows' : List Pair) → (is_last ≡ true → length rest ≡ 0) → (is_last ≡ false → length rest ≢ 0)
      → SameBag rows (in_sequence (map (pairs graph) rest) None right) → (is_last ≡ true → SameBag rows' (pairs graph p None right)) → (is_last ≡ false → SameBag rows' (composed (pairs graph p None None) rows))
      → SameBag rows' (in_sequence (map (pairs graph) (p ∷ rest)) None right)
  before_rest p [] true rows rows' e n h last before = last refl
  before_rest p [] false rows rows' e n h last before = absurd (n refl refl)
  before_rest p (q ∷ rest) true rows rows' e n h last before = let z : length (q ∷ rest) ≡ 0 = e refl in absurd (omega arith)
  before_rest p (q ∷ rest) false rows rows' e n h last before =
      IsPermutation-trans rows' _ _ (before refl) (composed_same _ _ rows _ (IsPermutation-refl (pairs graph p None None)) h)

  pub part_before : (ps : List Path) (at : ℕ) (p : Path) (is_last : Bool) (rows rows' : List Pair) → at < length ps → p ≡ get_or ps at p → is_last ≡ (at + 1 == length ps) → SameBag rows (in_sequence (map (pairs graph) (drop (at + 1) ps)) None right)
      → (is_last ≡ true → SameBag rows' (pairs graph p None right)) → (is_last ≡ false → SameBag rows' (composed (pairs graph p None None) rows)) → SameBag rows' (in_sequence (map (pairs graph) (drop at ps)) None right)
  part_before ps at p is_last rows rows' lt is t h last before =
      subst (λ (l : List Path). SameBag rows' (in_sequence (map (pairs graph) l) None right)) (sym (drop-cons ps at p lt ∙ ap (λ q. q ∷ drop (suc at) ps) (sym is)))
      (before_rest p (drop (suc at) ps) is_last rows rows'
      (λ b. let k : at + 1 ≡ length ps = eqb-true (at + 1) (length ps) (sym t ∙ b) in omega (arith, length-drop (suc at) ps))
      (λ b z. let k : at + 1 ≢ length ps = eqb-false (at + 1) (length ps) (sym t ∙ b) in absurd (omega (arith, length-drop (suc at) ps)))
      (subst (λ (n : ℕ). SameBag rows (in_sequence (map (pairs graph) (drop n ps)) None right)) (let e : at + 1 ≡ suc at = omega arith in e) h)
      last before)

  none_left : (ps : List Path) → length ps ≡ 0 → ps ≡ []
  none_left [] h = refl
  none_left (p ∷ ps) h = absurd (omega arith)

  pub no_part_after : (ps : List Path) (at : ℕ) (rows : List Pair) (o : Option Term) → length ps ≤ at → rows ≡ [] → SameBag rows (in_sequence (map (pairs graph) (drop at ps)) o right)
  no_part_after ps at rows o le e =
      let k : drop at ps ≡ [] = none_left (drop at ps) (omega (arith, length-drop at ps)) in
      same_as rows _ (e ∙ sym (ap (λ l. in_sequence (map (pairs graph) l) o right) k))
