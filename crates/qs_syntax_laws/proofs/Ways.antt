-- Ways in which rules are written, and the steps of the resolver over what they spell.
use Rattle.std.proofs.Common.{◌≡◌, true, ℕ, List, [], ◌∷◌, ◌++◌, length, map, Option, Some, None, sym, subst, inl, inr}
use Rattle.qs_syntax_grammar.specs.Rule.{Each, Spelt, empty, both, either, many, made, placed}
use Rattle.qs_syntax_grammar.specs.Notation.{◌>>◌, ◌<<◌, or, opt}
use Rattle.qs_syntax_tree.specs.Sparql.{Name, Tree, Rule}
use Rattle.qs_syntax_tree.specs.declared.token.Token.{Token}
use Rattle.qs_syntax_resolve.specs.Resolving.{Resolving, ◌>>=◌, pure, all_after}
use Rattle.qs_syntax_resolve.specs.declared.resolver.Resolver.{Resolver}
use Rattle.qs_syntax_laws.proofs.Walks.{Comes, Meets, then, still_behind, mapped, nothing, quiet_before, quiet_behind, quiet}
use Rattle.qs_syntax_laws.proofs.Quiet.{is_mute, mute_quiet}

module _ (refs : (n : Name) → List Token → Tree n → Type 0) where
  -- what the tokens spell is resolved as they tell
  pub record Resolves {A B : Type 0} (r : Rule A) (p : A → Resolving B) : Type 0 where
    pub meets : (ts : List Token) (x : A) → Spelt refs r ts x → Meets (p x) ts

module _ {refs : (n : Name) → List Token → Tree n → Type 0} where
  module _ {A B : Type 0} where
    pub by_other : {r : Rule A} {q : A → Resolving B} (p : A → Resolving B) → ((x : A) → q x ≡ p x) → Resolves refs r p → Resolves refs r q
    by_other {r} {q} p e h = record { meets = λ ts x s. subst (λ (f : Resolving B). Meets f ts) (sym (e x)) (h.meets ts x s) }

    pub by_same : {r : Rule A} {q : A → Resolving B} (p : A → Resolving B) → ((x : A) (s : Resolver) → q x s ≡ p x s) → Resolves refs r p → Resolves refs r q
    by_same {r} {q} p e h = record { meets = λ ts x k s. subst (Comes s ts) (sym (e x s)) (h.meets ts x k s) }

    pub by_mute : {r : Rule A} {p : A → Resolving B} → is_mute r ≡ true → ((x : A) → Meets (p x) []) → Resolves refs r p
    by_mute {r} {p} m h = record { meets = λ ts x s. quiet ts (p x) (mute_quiet refs r m ts x s) (h x) }

    pub by_empty : {a : A} {p : A → Resolving B} → Meets (p a) [] → Resolves refs (empty a) p
    by_empty {a} {p} h = record { meets = λ ts x s. subst (λ us. Meets (p x) us) (sym s.0) (subst (λ (y : A). Meets (p y) []) (sym s.1) h) }

    pub by_either : {r q : Rule A} {p : A → Resolving B} → Resolves refs r p → Resolves refs q p → Resolves refs (either r q) p
    by_either h k = record { meets = λ ts x s. elim s [ inl l ↦ h.meets ts x l | inr l ↦ k.meets ts x l ] }

    pub by_or : {a : A} {r : Rule A} {p : A → Resolving B} → Resolves refs r p → Meets (p a) [] → Resolves refs (or a r) p
    by_or h k = by_either h (by_empty k)

    pub by_placed : {r : Rule A} {p : ℕ × A → Resolving B} → ((place : ℕ) → Resolves refs r (λ x. p (place, x))) → Resolves refs (placed r) p
    by_placed h = record { meets = λ ts x s. (h x.0).meets ts x.1 s.1 }

  module _ {A B C : Type 0} where
    pub by_weaker : {r : Rule A} {p : A → Resolving B} {q : A → Resolving C} → ((ts : List Token) (x : A) → Meets (p x) ts → Meets (q x) ts) → Resolves refs r p → Resolves refs r q
    by_weaker k h = record { meets = λ ts x s. k ts x (h.meets ts x s) }

    pub by_made : {f : A → B} {r : Rule A} {p : B → Resolving C} → Resolves refs r (λ x. p (f x)) → Resolves refs (made f r) p
    by_made {f} {r} {p} h = record { meets = λ ts x s. subst (λ (y : B). Meets (p y) ts) (sym s.2) (h.meets ts s.0 s.1) }

    -- the tokens of the first are quiet
    pub by_second : {r : Rule A} {q : Rule B} {p : A × B → Resolving C} → is_mute r ≡ true → ((x : A) → Resolves refs q (λ y. p (x, y))) → Resolves refs (both r q) p
    by_second {r} {q} {p} m h = record {
      meets = λ ts x s. subst (Meets (p x)) (sym s.2) (quiet_before s.0 s.1 (p x) (mute_quiet refs r m s.0 x.0 s.3) ((h x.0).meets s.1 x.1 s.4));
    }

    -- those of the second are quiet
    pub by_first : {r : Rule A} {q : Rule B} {p : A × B → Resolving C} → is_mute q ≡ true → ((y : B) → Resolves refs r (λ x. p (x, y))) → Resolves refs (both r q) p
    by_first {r} {q} {p} m h = record {
      meets = λ ts x s. subst (Meets (p x)) (sym s.2) (quiet_behind s.0 s.1 (p x) ((h x.1).meets s.0 x.0 s.3) (mute_quiet refs q m s.1 x.1 s.4));
    }

    pub by_mapped : {r : Rule A} {p : A → Resolving B} (g : A → B → C) → Resolves refs r p → Resolves refs r (λ x. p x >>= (λ y. pure (g x y)))
    by_mapped {r} {p} g h = record { meets = λ ts x s. mapped ts (p x) (g x) (h.meets ts x s) }

  module _ {A B C : Type 0} where
    pub behind_mute : {r : Rule A} {q : Rule B} {p : B → Resolving C} → is_mute r ≡ true → Resolves refs q p → Resolves refs (r >> q) p
    behind_mute m h = by_made (by_second m (λ x. h))

    pub before_mute : {r : Rule A} {q : Rule B} {p : A → Resolving C} → is_mute q ≡ true → Resolves refs r p → Resolves refs (r << q) p
    before_mute m h = by_made (by_first m (λ y. h))

  module _ {A B : Type 0} where
    pub by_opt : {r : Rule A} {p : Option A → Resolving B} → Resolves refs r (λ x. p (Some x)) → Meets (p None) [] → Resolves refs (opt r) p
    by_opt {r} {p} h k = by_or {a = None} (by_made {f = λ x. Some x} {r = r} {p = p} h) k

  module _ {A B C D : Type 0} where
    pub by_both : {r : Rule A} {q : Rule B} {p : A → Resolving C} {f : A → C → B → Resolving D} → Resolves refs r p → ((x : A) (c : C) → Resolves refs q (f x c))
        → Resolves refs (both r q) (λ x. p x.0 >>= (λ c. f x.0 c x.1))
    by_both {r} {q} {p} {f} h k = record {
      meets = λ ts x s. subst (Meets (p x.0 >>= (λ c. f x.0 c x.1))) (sym s.2) (then s.0 s.1 (p x.0) (λ c. f x.0 c x.1) (h.meets s.0 x.0 s.3) (λ c. (k x.0 c).meets s.1 x.1 s.4));
    }

  module _ {A B : Type 0} {r : Rule A} {p : A → Resolving B} where
    each : Resolves refs r p → (found : List B) (ts : List Token) (xs : List A) → Each (Spelt refs r) ts xs → Meets (all_after found (map p xs)) ts
    each h found ts [] e = subst (Meets (all_after found (map p []))) (sym e) (nothing found)
    each h found ts (x ∷ xs) e =
        subst (Meets (all_after found (map p (x ∷ xs)))) (sym e.2)
        (then e.0 e.1 (p x) (λ y. all_after (found ++ y ∷ []) (map p xs)) (h.meets e.0 x e.3) (λ y. each h (found ++ y ∷ []) e.1 xs e.4))

    pub by_many : {found : List B} → Resolves refs r p → Resolves refs (many r) (λ xs. all_after found (map p xs))
    by_many {found} h = record { meets = λ ts xs s. each h found ts xs s }

  module _ {A B : Type 0} {r : Rule A} (run : B → List A → Resolving B) (step : B → A → Resolving B) (none : (b : B) → run b [] ≡ pure b)
      (more : (b : B) (x : A) (xs : List A) (s : Resolver) → run b (x ∷ xs) s ≡ (step b x >>= (λ c. run c xs)) s) (h : (b : B) → Resolves refs r (step b)) where
    each_in_turn : (b : B) (ts : List Token) (xs : List A) → Each (Spelt refs r) ts xs → Meets (run b xs) ts
    each_in_turn b ts [] e = subst (λ us. Meets (run b []) us) (sym e) (subst (λ (p : Resolving B). Meets p []) (sym (none b)) (nothing b))
    each_in_turn b ts (x ∷ xs) e =
        subst (λ us. Meets (run b (x ∷ xs)) us) (sym e.2)
        (λ s. subst (Comes s (e.0 ++ e.1)) (sym (more b x xs s)) (then e.0 e.1 (step b x) (λ c. run c xs) ((h b).meets e.0 x e.3) (λ c. each_in_turn c e.1 xs e.4) s))

    pub in_turn : (b : B) → Resolves refs (many r) (run b)
    in_turn b = record { meets = λ ts xs s. each_in_turn b ts xs s }

  module _ {A B C : Type 0} where
    -- after a step that reads no token
    pub behind_still : {r : Rule A} (q : Resolving B) (p : B → A → Resolving C) → Meets q [] → ((b : B) → Resolves refs r (p b)) → Resolves refs r (λ x. q >>= (λ b. p b x))
    behind_still q p k h = record { meets = λ ts x s. then [] ts q (λ b. p b x) k (λ b. (h b).meets ts x s) }

    -- before one
    pub before_still : {r : Rule A} {p : A → Resolving B} (q : A → B → Resolving C) → ((x : A) (b : B) → Meets (q x b) []) → Resolves refs r p → Resolves refs r (λ x. p x >>= q x)
    before_still {r} {p} q k h = record { meets = λ ts x s. still_behind ts (p x) (q x) (h.meets ts x s) (k x) }

  module _ {A B : Type 0} where
    -- a step that begins by how many variables were read
    pub by_count : {r : Rule A} (p : ℕ → A → Resolving B) → ((n : ℕ) → Resolves refs r (p n)) → Resolves refs r (λ x s. p (length s.variables) x s)
    by_count p h = record { meets = λ ts x k s. (h (length s.variables)).meets ts x k s }
