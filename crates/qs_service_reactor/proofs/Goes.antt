-- Acts, one after another.
use Rattle.std.proofs.Common.{◌≡◌, ◌∙◌, ◌+◌, ℕ, Bool, List, [], ◌∷◌, ◌++◌, Option, None, Some, refl, sym, subst, arith, ap, append_assoc, length, filter, length-append}
use Rattle.std.proofs.lemmas.List.{append-nil}
use Rattle.std.proofs.lemmas.List.Elements.{filter-append}
use Rattle.qs_service_reactor.specs.Log.{Io, Logs}
use Rattle.qs_service_reactor.specs.Run.{Event, Act, out_after, ios_of, is_join, Next, Run}
use Rattle.qs_service_reactor.specs.inner.Acts.{ios, joins, joins_of}
use Rattle.qs_service_reactor.specs.inner.Turn.{Goes}

pub joins-append : (xs ys : List Act) → joins (xs ++ ys) ≡ joins xs + joins ys
joins-append xs ys = ap length (filter-append is_join xs ys) ∙ length-append (filter is_join xs) (filter is_join ys)

pub ios-append : (xs ys : List Act) → ios (xs ++ ys) ≡ ios xs ++ ios ys
ios-append [] ys = refl
ios-append (x ∷ xs) ys = ap (λ (l : List Io). ios_of x ++ l) (ios-append xs ys) ∙ sym (append_assoc (ios_of x) (ios xs) (ios ys))

pub logs_none : (a : Option (List Io)) → Logs a a []
logs_none None = tt
logs_none (Some a) = sym (append-nil a)

pub logs_more : (a b c : Option (List Io)) (xs ys : List Io) → Logs a b xs → Logs b c ys → Logs a c (xs ++ ys)
logs_more None b c xs ys h k = tt
logs_more (Some a) None c xs ys h k = absurd h
logs_more (Some a) (Some b) None xs ys h k = absurd k
logs_more (Some a) (Some b) (Some c) xs ys h k = k ∙ ap (λ (l : List Io). l ++ ys) h ∙ append_assoc a xs ys

module _ {A : Type 0} (steps : A → Event → Bool → A → Type 0) (reply_of : A → ℕ → Option (List ℕ)) where
  pub run_more : (a b c : A) (s t u : ℕ → Option (List ℕ)) (xs ys : List Act) → Run steps reply_of a s xs b t → Run steps reply_of b t ys c u → Run steps reply_of a s (xs ++ ys) c u
  run_more a b c s t u [] ys h k = subst (λ (x : A). Run steps reply_of x s ys c u) h.0 (subst (λ (f : ℕ → Option (List ℕ)). Run steps reply_of b f ys c u) h.1 k)
  run_more a b c s t u (x ∷ xs) ys h k = (h.0, h.1, run_more h.0 b c (out_after s x) t u xs ys h.2 k)

module _ {A : Type 0} {steps : A → Event → Bool → A → Type 0} {reply_of : A → ℕ → Option (List ℕ)} where
  pub goes_none : (a : A) (s : ℕ → Option (List ℕ)) (n : ℕ) (l m : Option (List Io)) → n ≡ 0 → Logs l m [] → Goes steps reply_of n a a s s l m
  goes_none a s n l m e h = record { acts = []; run = (refl, refl); count = sym e; logged = h }

  pub goes_one : (a b : A) (s : ℕ → Option (List ℕ)) (act : Act) (n : ℕ) (l m : Option (List Io)) → Next steps reply_of a s act b → joins_of act ≡ n → Logs l m (ios_of act ++ []) → Goes steps reply_of n a b s (out_after s act) l m
  goes_one a b s act n l m h count k = record { acts = act ∷ []; run = (b, h, (refl, refl)); count = omega arith; logged = k }

  pub goes_sum : (a b c : A) (s t u : ℕ → Option (List ℕ)) (i j n : ℕ) (l m o : Option (List Io)) → Goes steps reply_of i a b s t l m → Goes steps reply_of j b c t u m o → i + j ≡ n → Goes steps reply_of n a c s u l o
  goes_sum a b c s t u i j n l m o h k sum =
      let e = joins-append h.acts k.acts in
      let hf = h.count in
      let kf = k.count in
      record {
        acts = h.acts ++ k.acts;
        run = run_more steps reply_of a b c s t u h.acts k.acts h.run k.run;
        count = omega arith;
        logged = subst (λ (x : List Io). Logs l o x) (sym (ios-append h.acts k.acts)) (logs_more l m o (ios h.acts) (ios k.acts) h.logged k.logged);
      }
