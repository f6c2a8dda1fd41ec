-- What one triple, pair or term more adds.
use Rattle.std.proofs.Common.{◌≡◌, ℕ, ◌+◌, ◌≤◌, Bool, true, false, ◌&&◌, cond, if◌then◌else◌, List, [], ◌∷◌, ◌++◌, map, Option, Some, None, length, take, refl, sym, ◌∙◌, ap}
use Rattle.std.specs.List.{filter, flat_map}
use Rattle.std.proofs.lemmas.List.{take_all}
use Rattle.std.proofs.lemmas.List.Sorted.{IsPermutation-map, IsPermutation-refl}
use Rattle.qs_terms.specs.declared.term.Term.{Term}
use Rattle.qs_terms.specs.Bag.{SameBag}
use Rattle.qs_terms.specs.Term.{same_term}
use Rattle.qs_terms.specs.Dataset.{Triple}
use Rattle.qs_paths_meaning.specs.Pair.{Pair}
use Rattle.qs_paths_meaning.specs.inner.Edges.{has, having}
use Rattle.qs_paths_meaning.specs.Steps.{Graph, agrees, is_between, along}
use Rattle.qs_paths_meaning.specs.inner.Steps.{pair_of}
use Rattle.qs_paths_meaning.specs.inner.Found.{kept}
use Rattle.qs_paths_meaning.proofs.Arms.{flat_map_same, same_at}

pub map-append : {X Y : Type 0} (f : X → Y) (xs ys : List X) → map f (xs ++ ys) ≡ map f xs ++ map f ys
map-append f [] ys = refl
map-append f (x ∷ xs) ys = ap (λ l. f x ∷ l) (map-append f xs ys)

-- ---- single triples

kept_none : (b : Bool) (left right : Option Term) (e : Pair) → is_between left right e ≡ false → kept b left right e ≡ []
kept_none true left right e h = rw h refl
kept_none false left right e h = refl

module _ (test : Term → Bool) (left right : Option Term) where
  abbrev pub along_in : Graph → List Pair
  along_in ts = along test ts left right

  along_one : (t : Triple) (ts : Graph) (b : Bool) → test t.predicate ≡ b → along_in (t ∷ ts) ≡ kept b left right (pair_of t) ++ along_in ts
  along_one t ts true e = rw e (by (is_between left right (pair_of t)))
    where
      by : (c : Bool) → cond c (pair_of t ∷ along_in ts) (along_in ts) ≡ (if c then pair_of t ∷ [] else []) ++ along_in ts
      by true = refl
      by false = refl
  along_one t ts false e = rw e refl

  along_flat : (ts : Graph) → along_in ts ≡ flat_map (λ t. kept (test t.predicate) left right (pair_of t)) ts
  along_flat [] = refl
  along_flat (t ∷ ts) = along_one t ts (test t.predicate) refl ∙ ap (λ l. kept (test t.predicate) left right (pair_of t) ++ l) (along_flat ts)

  along_same : (ts us : Graph) → SameBag ts us → SameBag (along_in ts) (along_in us)
  along_same ts us h =
      same_at _ _ _ _ (along_flat ts)
      (flat_map_same (λ t. kept (test t.predicate) left right (pair_of t)) (λ t. kept (test t.predicate) left right (pair_of t)) ts us h (λ t. IsPermutation-refl _))
      (along_flat us)

  -- triples that give no pair may be left out
  along_narrow : (s : Triple → Bool) → ((t : Triple) → s t ≡ false → kept (test t.predicate) left right (pair_of t) ≡ []) → (g : Graph) → along_in (filter s g) ≡ along_in g
  along_narrow s h [] = refl
  along_narrow s h (t ∷ ts) = by (s t) refl (along_narrow s h ts)
    where
      by : (c : Bool) → s t ≡ c → along_in (filter s ts) ≡ along_in ts → along_in (cond c (t ∷ filter s ts) (filter s ts)) ≡ along_in (t ∷ ts)
      by true e ih =
          along_one t (filter s ts) (test t.predicate) refl
          ∙ (ap (λ l. kept (test t.predicate) left right (pair_of t) ++ l) ih ∙ sym (along_one t ts (test t.predicate) refl))
      by false e ih = ih ∙ sym (along_one t ts (test t.predicate) refl ∙ ap (λ l. l ++ along_in ts) (h t e))

none_kept : (a b c x : Bool) (left right : Option Term) (e : Pair) → is_between left right e ≡ (a && c) → (a && (b && c)) ≡ false → (b ≡ false → x ≡ false) → kept x left right e ≡ []
none_kept false b c x left right e i h k = kept_none x left right e i
none_kept true false c x left right e i h k = rw (k refl) refl
none_kept true true c x left right e i h k = kept_none x left right e (i ∙ h)

along_having : (test : Term → Bool) (left predicate right : Option Term) (g : Graph) → ((p : Term) → agrees predicate p ≡ false → test p ≡ false) → along test (having left predicate right g) left right ≡ along test g left right
along_having test left predicate right g k =
    along_narrow test left right (has left predicate right) (λ t e. none_kept (agrees left t.subject) (agrees predicate t.predicate) (agrees right t.object) (test t.predicate) left right (pair_of t) refl e (k t.predicate)) g

pub along_all : (test : Term → Bool) (left right : Option Term) (g : Graph) (found ts : Graph) (i : ℕ) (ps : List Pair) → length ts ≤ i → ts ≡ found → SameBag found (having left None right g) → ps ≡ along test (take i ts) left right → SameBag ps (along test g left right)
along_all test left right g found ts i ps le s h e =
    same_at ps _ _ _ (e ∙ ap (λ l. along test l left right) (take_all i ts le ∙ s)) (along_same test left right found (having left None right g) h) (sym (along_having test left None right g (λ p e. let f : true ≡ false = e in cc)))

-- the edges with the ends and the predicate are the pairs
had_pairs : (p : Term) (left right : Option Term) (g : Graph) → map pair_of (having left (Some p) right g) ≡ along (same_term p) g left right
had_pairs p left right [] = refl
had_pairs p left right (t ∷ ts) = by (agrees left t.subject) (same_term p t.predicate) (agrees right t.object) refl refl refl (had_pairs p left right ts)
  where
    by : (a b c : Bool) → agrees left t.subject ≡ a → same_term p t.predicate ≡ b → agrees right t.object ≡ c → map pair_of (having left (Some p) right ts) ≡ along (same_term p) ts left right
        → map pair_of (having left (Some p) right (t ∷ ts)) ≡ along (same_term p) (t ∷ ts) left right
    by true true true e f h ih = rw (f, e, h) (ap (λ l. pair_of t ∷ l) ih)
    by true true false e f h ih = rw (f, e, h) ih
    by true false c e f h ih = rw (f, e) ih
    by false true c e f h ih = rw (f, e) ih
    by false false c e f h ih = rw (f, e) ih

pub along_had : (p : Term) (left right : Option Term) (g found : Graph) (ps : List Pair) → ps ≡ map pair_of found → SameBag found (having left (Some p) right g) → SameBag ps (along (same_term p) g left right)
along_had p left right g found ps e h = same_at ps _ _ _ e (IsPermutation-map pair_of found (having left (Some p) right g) h) (sym (had_pairs p left right g))
