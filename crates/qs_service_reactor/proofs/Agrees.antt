-- How far connections have come, their replies, and the bytes that went out.
use Rattle.std.proofs.Common.{◌≡◌, ◌≢◌, ◌∙◌, ◌≤◌, ◌<◌, ◌==◌, ◌&&◌, ℕ, Bool, true, false, List, [], ◌∷◌, ◌++◌, length, drop, slice_get, slice_set, zero, suc, Option, None, Some, IsSome, option_map, refl, sym, subst, arith, ap, cond, eq-eqb, get_or-set_same, get_or-set_other, inl, inr}
use Rattle.std.proofs.Math.Seq.{drop-append_seam}
use Rattle.std.proofs.lemmas.List.{length-set}
use Rattle.std.proofs.lemmas.Option.{slice_get-get_or, slice_get_past}
use Rattle.std.proofs.lemmas.Bool.Decides.{eqb_tells, leb_tells}
use Rattle.std.specs.Option.{is_some}
use Rattle.std.specs.List.{list_all}
use Rattle.qs_service_reactor.specs.inner.Turn.{IsSent, AgreesAt, AgreesPlace, Agrees, AllFree, is_free, is_free_stage}
use Rattle.qs_service_reactor.specs.declared.connection.Connection.{Connection}
use Rattle.qs_service_reactor.specs.declared.connection.Stage.{Stage}
use Rattle.qs_service_reactor.specs.declared.connection.Stage.TheVariants.{Free, Reading, Writing, Lingering}

-- what a test on the same place, or on another, chooses
pub at_same : {X : Type 0} (p : ℕ) (x y : X) → cond (p == p) x y ≡ x
at_same {X} p x y = ap (λ (b : Bool). cond b x y) (eq-eqb p p refl)

pub at_other : {X : Type 0} (k p : ℕ) (x y : X) → k ≢ p → cond (k == p) x y ≡ y
at_other {X} k p x y ne = elim (eqb_tells k p) [ inl h ↦ absurd (ne h.1) | inr h ↦ ap (λ (b : Bool). cond b x y) h.0 ]

-- what stands in a list after a write
pub get_same : {X : Type 0} (xs : List X) (p : ℕ) (y : X) → p < length xs → slice_get (slice_set xs p y) p ≡ Some y
get_same {X} xs p y lt =
    let lt' : p < length (slice_set xs p y) = omega (arith, length-set xs p y) in
    slice_get-get_or (slice_set xs p y) p y lt' ∙ ap (λ (z : X). Some z) (get_or-set_same xs p y y lt)

pub get_other : {X : Type 0} (xs : List X) (p k : ℕ) (y : X) → k ≢ p → slice_get (slice_set xs p y) k ≡ slice_get xs k
get_other {X} xs p k y ne =
    elim (leb_tells (length xs) k) [
      | inl h ↦
          let past : length xs ≤ k = h.1 in
          let past' : length (slice_set xs p y) ≤ k = omega (arith, length-set xs p y) in
          slice_get_past (slice_set xs p y) k past' ∙ sym (slice_get_past xs k past)
      | inr h ↦
          let lt : k < length xs = h.1 in
          let lt' : k < length (slice_set xs p y) = omega (arith, length-set xs p y) in
          slice_get-get_or (slice_set xs p y) k y lt' ∙ ap (λ (z : X). Some z) (get_or-set_other xs p k y y ne) ∙ sym (slice_get-get_or xs k y lt)
    ]

-- a connection that has come so far still agrees where a reply that stood stays
pub stands_kept : (r r' : Option (List ℕ)) → ((reply : List ℕ) → r ≡ Some reply → r' ≡ Some reply) → IsSome r → IsSome r'
stands_kept None r' kept h = cc
stands_kept (Some r) r' kept h = ap (λ (o : Option (List ℕ)). is_some o) (kept r refl)

pub agrees_kept : (r r' out : Option (List ℕ)) (stage : Stage) → ((reply : List ℕ) → r ≡ Some reply → r' ≡ Some reply) → AgreesAt r out stage → AgreesAt r' out stage
agrees_kept r r' out Free kept h = h
agrees_kept r r' out Reading kept h = h
agrees_kept r r' out (Writing n) kept h = record { sent = h.sent; rest = h.rest; joined = h.joined; stands = kept (h.sent ++ h.rest) h.stands; count = h.count }
agrees_kept r r' out Lingering kept h = (h.0, stands_kept r r' kept h.1)

pub place_kept : (r r' out out' : Option (List ℕ)) (o : Option Connection) → ((reply : List ℕ) → r ≡ Some reply → r' ≡ Some reply) → out' ≡ out → AgreesPlace r out o → AgreesPlace r' out' o
place_kept r r' out out' None kept e h = e ∙ h
place_kept r r' out out' (Some c) kept e h = subst (λ (o : Option (List ℕ)). AgreesAt r' o c.stage) (sym e) (agrees_kept r r' out c.stage kept h)

pub drop-length : (xs ys : List ℕ) (n : ℕ) → length xs ≡ n → drop n (xs ++ ys) ≡ ys
drop-length xs ys n e = subst (λ (i : ℕ). drop i (xs ++ ys) ≡ ys) e (drop-append_seam xs ys)

-- a list whose length is tested to be 0
pub empty_of : (xs : List ℕ) (b : Bool) → b ≡ (length xs == 0) → b ≡ true → xs ≡ []
empty_of [] b e t = refl
empty_of (x ∷ xs) b e t =
    absurd (elim (eqb_tells (length (x ∷ xs)) 0) [
      | inl h ↦ (let l : length (x ∷ xs) ≡ 0 = h.1 in omega arith)
      | inr h ↦ (let f : (length (x ∷ xs) == 0) ≡ false = h.0 in cc)
    ])

-- where so many bytes went out, the bytes from there on are the rest of the reply
pub unsent_rest : (reply out : Option (List ℕ)) (next : List ℕ) (n : ℕ) (h : IsSent reply out n) → Some next ≡ option_map (drop n) reply → reply ≡ Some (h.sent ++ next)
unsent_rest reply out next n h e =
    let f : Some next ≡ Some (drop n (h.sent ++ h.rest)) = e ∙ ap (λ (o : Option (List ℕ)). option_map (drop n) o) h.stands in
    let g : next ≡ drop n (h.sent ++ h.rest) = cc in
    h.stands ∙ ap (λ (l : List ℕ). Some (h.sent ++ l)) (sym (g ∙ drop-length h.sent h.rest n h.count))

-- a reply stands of which nothing went out
pub sent_none : (reply : Option (List ℕ)) (next : List ℕ) → Some next ≡ option_map (drop 0) reply → IsSent reply (Some []) 0
sent_none None next e = cc
sent_none (Some reply) next e = record { sent = []; rest = reply; joined = refl; stands = refl; count = refl }

-- all connections are tested to be free
free_stage : (s : Stage) → is_free_stage s ≡ true → s ≡ Free
free_stage Free e = refl
free_stage Reading e = cc
free_stage (Writing n) e = cc
free_stage Lingering e = cc

both : (a b : Bool) → (a && b) ≡ true → (a ≡ true) × (b ≡ true)
both true b e = (refl, e)
both false b e = cc

free_at : (places : List Connection) → list_all is_free places ≡ true → (k : ℕ) (c : Connection) → slice_get places k ≡ Some c → c.stage ≡ Free
free_at [] e k c h = cc
free_at (x ∷ places) e zero c h =
    let is : x ≡ c = cc in
    subst (λ (y : Connection). y.stage ≡ Free) is (free_stage x.stage (both (is_free x) (list_all is_free places) e).0)
free_at (x ∷ places) e (suc k) c h = free_at places (both (is_free x) (list_all is_free places) e).1 k c h

pub all_free : (places : List Connection) → list_all is_free places ≡ true → AllFree places
all_free places e = record { free = free_at places e }

-- where no place has a connection, nobody is joined
none_at : (reply : Option (List ℕ)) (o : Option Connection) → ((c : Connection) → o ≡ Some c → c.stage ≡ Free) → AgreesPlace reply None o
none_at reply None h = refl
none_at reply (Some c) h = subst (λ (s : Stage). AgreesAt reply None s) (sym (h c refl)) refl

pub agrees_free : (replies : ℕ → Option (List ℕ)) (places : List Connection) → AllFree places → Agrees replies (λ _. None) places
agrees_free replies places h k = none_at (replies k) (slice_get places k) (h.free k)

ended_at : (reply out : Option (List ℕ)) (o : Option Connection) → ((c : Connection) → o ≡ Some c → c.stage ≡ Free) → AgreesPlace reply out o → out ≡ None
ended_at reply out None h e = e
ended_at reply out (Some c) h e = subst (λ (s : Stage). AgreesAt reply out s) (h c refl) e

pub all_ended : (replies out : ℕ → Option (List ℕ)) (places : List Connection) → AllFree places → Agrees replies out places → (k : ℕ) → out k ≡ None
all_ended replies out places h e k = ended_at (replies k) (out k) (slice_get places k) (h.free k) (e k)
