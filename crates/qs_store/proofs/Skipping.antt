-- Triples that are skipped.
use Rattle.std.proofs.Common.{◌≡◌, ℕ, Bool, true, false, cond, ◌&&◌, List, [], ◌∷◌, ◌++◌, map, Option, Some, None, refl, ap, sym, ◌∙◌, subst}
use Rattle.std.specs.Str.{bytes_eq}
use Rattle.std.specs.List.{AllByRecursion}
use Rattle.std.proofs.lemmas.Bool.{false≢true}
use Rattle.std.proofs.lemmas.List.{map-append}
use Rattle.std.proofs.lemmas.Slice.Eq.{bytes_eq-Decides}
use Rattle.qs_index.specs.inner.Agreeing.{agrees_anywhere}
use Rattle.qs_index.specs.inner.Skipped.{IsSkipped}
use Rattle.qs_store.specs.inner.Scans.{LastFits, is_last, triple_of, triples_left, unrepeated}
use Rattle.qs_store.specs.inner.Triples.{triple_fits}

abbrev Triples : Type 0
Triples = List (List ℕ)

-- ---- what is skipped in parts

none_skipped : {X : Type 0} (P : X → Type 0) (old new : List X) → old ≡ new → IsSkipped P old new
none_skipped P old new e = record { skipped = []; are = e; each = tt }

one_skipped : {X : Type 0} (P : X → Type 0) (x : X) (old new : List X) → P x → IsSkipped P old new → IsSkipped P (x ∷ old) new
one_skipped P x old new f a = record { skipped = x ∷ a.skipped; are = ap (λ r. x ∷ r) a.are; each = (f, a.each) }

-- ---- triples of several graphs

module _ (s p o : Option ℕ) where
  abbrev Fits : List ℕ → Type 0
  Fits t = triple_fits s p o t ≡ true

  -- the next one is handed out or not, by the last one that was
  next_fits : (last : Option (List ℕ)) (y : List ℕ) → LastFits s p o last → is_last last y ≡ true → Fits y
  next_fits None y f h = absurd (false≢true h)
  next_fits (Some t) y f h = subst Fits ((bytes_eq-Decides t y).0 h) f

  switched : (x : List ℕ) (last : Option (List ℕ)) (ys : Triples) → Fits x → LastFits s p o last → IsSkipped Fits (x ∷ unrepeated (Some x) ys) (unrepeated last ys)
  switched x last [] f g = record { skipped = x ∷ []; are = refl; each = (f, tt) }
  switched x last (y ∷ ys) f g =
      by_tests (bytes_eq x y) (is_last last y) refl refl (switched x last ys f g) (λ h. switched y last ys h g)
    where
      by_tests : (a b : Bool) → bytes_eq x y ≡ a → is_last last y ≡ b → IsSkipped Fits (x ∷ unrepeated (Some x) ys) (unrepeated last ys) → (Fits y → IsSkipped Fits (y ∷ unrepeated (Some y) ys) (unrepeated last ys))
          → IsSkipped Fits (x ∷ cond a (unrepeated (Some x) ys) (y ∷ unrepeated (Some y) ys)) (cond b (unrepeated last ys) (y ∷ unrepeated (Some y) ys))
      by_tests true true d e i j = i
      by_tests true false d e i j = none_skipped Fits _ _ (ap (λ t. t ∷ unrepeated (Some t) ys) ((bytes_eq-Decides x y).0 d))
      by_tests false true d e i j = one_skipped Fits x (y ∷ unrepeated (Some y) ys) (unrepeated last ys) f (j (next_fits last y g e))
      by_tests false false d e i j = one_skipped Fits x (y ∷ unrepeated (Some y) ys) (y ∷ unrepeated (Some y) ys) f (none_skipped Fits _ _ refl)

  -- those that follow one that is handed out
  run_skipped : (last : Option (List ℕ)) (x : List ℕ) (xs ys : Triples) → Fits x → LastFits s p o last → AllByRecursion Fits xs → IsSkipped Fits (x ∷ unrepeated (Some x) (xs ++ ys)) (unrepeated last ys)
  run_skipped last x [] ys f g h = switched x last ys f g
  run_skipped last x (y ∷ xs) ys f g h =
      by_test (bytes_eq x y) (run_skipped last x xs ys f g h.1) (run_skipped last y xs ys h.0 g h.1)
    where
      by_test : (b : Bool) → IsSkipped Fits (x ∷ unrepeated (Some x) (xs ++ ys)) (unrepeated last ys) → IsSkipped Fits (y ∷ unrepeated (Some y) (xs ++ ys)) (unrepeated last ys)
          → IsSkipped Fits (x ∷ cond b (unrepeated (Some x) (xs ++ ys)) (y ∷ unrepeated (Some y) (xs ++ ys))) (unrepeated last ys)
      by_test true i j = i
      by_test false i j = one_skipped Fits x (y ∷ unrepeated (Some y) (xs ++ ys)) (unrepeated last ys) f j

  unrepeated_skipped : (last : Option (List ℕ)) (xs ys : Triples) → LastFits s p o last → AllByRecursion Fits xs → IsSkipped Fits (unrepeated last (xs ++ ys)) (unrepeated last ys)
  unrepeated_skipped last [] ys g h = none_skipped Fits _ _ refl
  unrepeated_skipped last (x ∷ xs) ys g h =
      by_test (is_last last x) (unrepeated_skipped last xs ys g h.1) (run_skipped last x xs ys h.0 g h.1)
    where
      by_test : (b : Bool) → IsSkipped Fits (unrepeated last (xs ++ ys)) (unrepeated last ys) → IsSkipped Fits (x ∷ unrepeated (Some x) (xs ++ ys)) (unrepeated last ys)
          → IsSkipped Fits (cond b (unrepeated last (xs ++ ys)) (x ∷ unrepeated (Some x) (xs ++ ys))) (unrepeated last ys)
      by_test true i j = i
      by_test false i j = j

  -- ---- entries

  entry_fits : (x : List ℕ) → agrees_anywhere s p o x ≡ true → Fits (triple_of x)
  entry_fits [] h = absurd (false≢true h)
  entry_fits (g ∷ []) h = absurd (false≢true h)
  entry_fits (g ∷ a ∷ []) h = absurd (false≢true h)
  entry_fits (g ∷ a ∷ b ∷ []) h = absurd (false≢true h)
  entry_fits (g ∷ a ∷ b ∷ c ∷ []) h = h
  entry_fits (g ∷ a ∷ b ∷ c ∷ d ∷ rest) h = absurd (false≢true h)

  entries_fit : (xs : Triples) → AllByRecursion (λ x. agrees_anywhere s p o x ≡ true) xs → AllByRecursion Fits (map triple_of xs)
  entries_fit [] h = tt
  entries_fit (x ∷ xs) h = (entry_fits x h.0, entries_fit xs h.1)

  once_skipped : (old new : Triples) → IsSkipped (λ x. agrees_anywhere s p o x ≡ true) old new → IsSkipped Fits (map triple_of old) (map triple_of new)
  once_skipped old new h = record {
    skipped = map triple_of h.skipped;
    are = ap (map triple_of) h.are ∙ map-append triple_of h.skipped new;
    each = entries_fit h.skipped h.each;
  }

  repeats_skipped : (last : Option (List ℕ)) (old new : Triples) → LastFits s p o last → IsSkipped (λ x. agrees_anywhere s p o x ≡ true) old new → IsSkipped Fits (unrepeated last (map triple_of old)) (unrepeated last (map triple_of new))
  repeats_skipped last old new g h =
      subst (λ xs. IsSkipped Fits (unrepeated last xs) (unrepeated last (map triple_of new))) (sym (ap (map triple_of) h.are ∙ map-append triple_of h.skipped new))
      (unrepeated_skipped last (map triple_of h.skipped) (map triple_of new) g (entries_fit h.skipped h.each))

  pub triples_skipped : (repeats : Bool) (last : Option (List ℕ)) (old new : Triples) → (repeats ≡ true → LastFits s p o last) → IsSkipped (λ x. agrees_anywhere s p o x ≡ true) old new → IsSkipped Fits (triples_left repeats last old) (triples_left repeats last new)
  triples_skipped false last old new g h = once_skipped old new h
  triples_skipped true last old new g h = repeats_skipped last old new (g refl) h
