-- A reply that stands stays, whatever happens on other connections.
use Rattle.std.proofs.Common.{◌≡◌, ◌≢◌, ◌∙◌, ◌==◌, ap, sym, refl, ℕ, Bool, true, false, List, [], ◌∷◌, ◌++◌, Option, None, Some, Result, Ok, Err, inl, inr, cond}
use Rattle.std.proofs.lemmas.Bool.Decides.{eqb_tells}
use Rattle.std.proofs.lemmas.Option.{none-some}
use Rattle.std.specs.Option.{option_map, is_none}
use Rattle.std.specs.List.{find}
use Rattle.std.specs.Result.{result_err, is_ok}
use Rattle.qs_service_connections.specs.Meaning.{RequestMeaning}
use Rattle.qs_service_connections.specs.Message.{Message}
use Rattle.qs_service_connections.specs.State.{Exchange, Reading, Answered, Joined, State, exchange_of, without_id, reply_in, reply_at}
use Rattle.qs_service_connections.specs.inner.State.{put_exchange}
use Rattle.qs_service_connections.specs.Step.{Receives, Step, Join, Piece, End}
use Rattle.qs_service_connections.specs.declared.fault.ServiceFault.{ServiceFault}
use Rattle.qs_service_connections.specs.declared.fault.ServiceFault.TheVariants.{Busy, KnownId, UnknownId}
use Rattle.qs_service_reactor.specs.inner.Keeps.{KeepsReplies, KeepsOthers}
use Rattle.qs_service_endpoint.specs.Endpoint.{reply_bytes}

-- the reply of an id in a table, by whether the first connection has it
at_first : (k : ℕ) (c : Joined) (xs : List Joined) (b : Bool) → (c.id == k) ≡ b → reply_at k (c ∷ xs) ≡ reply_in (cond b (Some c.exchange) (exchange_of k xs))
at_first k c xs true is = ap (λ (t : Bool). reply_in (option_map (λ (x : Joined). x.exchange) (cond t (Some c) (find (λ (x : Joined). x.id == k) xs)))) is
at_first k c xs false is = ap (λ (t : Bool). reply_in (option_map (λ (x : Joined). x.exchange) (cond t (Some c) (find (λ (x : Joined). x.id == k) xs)))) is

pub standing_append : (k : ℕ) (xs ys : List Joined) (r : Message) → reply_at k xs ≡ Some r → reply_at k (xs ++ ys) ≡ Some r
standing_append k [] ys r h = absurd (none-some r h)
standing_append k (c ∷ xs) ys r h =
    elim (eqb_tells c.id k) [
      | inl s ↦ at_first k c (xs ++ ys) true s.0 ∙ sym (at_first k c xs true s.0) ∙ h
      | inr s ↦ at_first k c (xs ++ ys) false s.0 ∙ standing_append k xs ys r (sym (at_first k c xs false s.0) ∙ h)
    ]

put_first : (id : ℕ) (e : Exchange) (c : Joined) (xs : List Joined) (b : Bool) → (c.id == id) ≡ b
    → put_exchange id e (c ∷ xs) ≡ cond b (record c { exchange = e } ∷ xs) (c ∷ put_exchange id e xs)
put_first id e c xs b is = ap (λ (t : Bool). cond t (record c { exchange = e } ∷ xs) (c ∷ put_exchange id e xs)) is

pub standing_put : (k id : ℕ) (e : Exchange) (xs : List Joined) (r : Message) → (k ≡ id → reply_in (Some e) ≡ Some r)
    → reply_at k xs ≡ Some r → reply_at k (put_exchange id e xs) ≡ Some r
standing_put k id e [] r same h = absurd (none-some r h)
standing_put k id e (c ∷ xs) r same h =
    elim (eqb_tells c.id id) [
      | inl t ↦
          ap (reply_at k) (put_first id e c xs true t.0) ∙ elim (eqb_tells c.id k) [
            | inl s ↦ at_first k (record c { exchange = e }) xs true s.0 ∙ same (sym s.1 ∙ t.1)
            | inr s ↦ at_first k (record c { exchange = e }) xs false s.0 ∙ sym (at_first k c xs false s.0) ∙ h
          ]
      | inr t ↦
          ap (reply_at k) (put_first id e c xs false t.0) ∙ elim (eqb_tells c.id k) [
            | inl s ↦ at_first k c (put_exchange id e xs) true s.0 ∙ sym (at_first k c xs true s.0) ∙ h
            | inr s ↦ at_first k c (put_exchange id e xs) false s.0 ∙ standing_put k id e xs r same (sym (at_first k c xs false s.0) ∙ h)
          ]
    ]

without_first : (id : ℕ) (c : Joined) (xs : List Joined) (b : Bool) → (c.id == id) ≡ b → without_id id (c ∷ xs) ≡ cond b xs (c ∷ without_id id xs)
without_first id c xs b is = ap (λ (t : Bool). cond t xs (c ∷ without_id id xs)) is

pub standing_without : (k id : ℕ) (xs : List Joined) (r : Message) → k ≢ id → reply_at k xs ≡ Some r → reply_at k (without_id id xs) ≡ Some r
standing_without k id [] r other h = absurd (none-some r h)
standing_without k id (c ∷ xs) r other h =
    elim (eqb_tells c.id id) [
      | inl t ↦
          ap (reply_at k) (without_first id c xs true t.0) ∙ elim (eqb_tells c.id k) [
            | inl s ↦ absurd (other (sym s.1 ∙ t.1))
            | inr s ↦ sym (at_first k c xs false s.0) ∙ h
          ]
      | inr t ↦
          ap (reply_at k) (without_first id c xs false t.0) ∙ elim (eqb_tells c.id k) [
            | inl s ↦ at_first k c (without_id id xs) true s.0 ∙ sym (at_first k c xs true s.0) ∙ h
            | inr s ↦ at_first k c (without_id id xs) false s.0 ∙ standing_without k id xs r other (sym (at_first k c xs false s.0) ∙ h)
          ]
    ]

-- the same of bytes
pub standing_bytes : (old new : Option Message) → ((r : Message) → old ≡ Some r → new ≡ Some r)
    → (bytes : List ℕ) → option_map (λ (m : Message). m.bytes) old ≡ Some bytes → option_map (λ (m : Message). m.bytes) new ≡ Some bytes
standing_bytes None new keeps bytes h = absurd (none-some bytes h)
standing_bytes (Some r) new keeps bytes h = ap (option_map (λ (m : Message). m.bytes)) (keeps r refl) ∙ h

module _ {S : Type 0} (carries : RequestMeaning S) where
  receives : (old new : S) (e e' : Exchange) (piece : List ℕ) (r : Message) → Receives carries old e piece new e' → reply_in (Some e) ≡ Some r → reply_in (Some e') ≡ Some r
  receives old new (Reading bytes) e' piece r h k = absurd (none-some r k)
  receives old new (Answered reply taken) e' piece r h k = ap (λ (x : Exchange). reply_in (Some x)) h.1 ∙ k

  joined : (old new : State S) (id : ℕ) (o : Option ServiceFault) → Step carries old (Join id) o new
      → (k : ℕ) (r : Message) → reply_at k old.joined ≡ Some r → reply_at k new.joined ≡ Some r
  joined old new id None h k r is = ap (λ (s : State S). reply_at k s.joined) h.2 ∙ standing_append k old.joined (record { id = id; exchange = Reading [] } ∷ []) r is
  joined old new id (Some Busy) h k r is = ap (λ (s : State S). reply_at k s.joined) h.2 ∙ is
  joined old new id (Some KnownId) h k r is = ap (λ (s : State S). reply_at k s.joined) h.1 ∙ is
  joined old new id (Some UnknownId) h k r is = absurd h

  pieced : (old new : State S) (id : ℕ) (piece : List ℕ) (o : Option ServiceFault) → Step carries old (Piece id piece) o new
      → (k : ℕ) (r : Message) → reply_at k old.joined ≡ Some r → reply_at k new.joined ≡ Some r
  pieced old new id piece None h k r is =
      ap (λ (s : State S). reply_at k s.joined) h.5
      ∙ standing_put k id h.1 old.joined r
      (λ same. receives old.stored h.2 h.0 h.1 piece r h.4 (sym (ap reply_in h.3) ∙ ap (λ (i : ℕ). reply_at i old.joined) (sym same) ∙ is))
      is
  pieced old new id piece (Some UnknownId) h k r is = ap (λ (s : State S). reply_at k s.joined) h.1 ∙ is
  pieced old new id piece (Some Busy) h k r is = absurd h
  pieced old new id piece (Some KnownId) h k r is = absurd h

  ended : (old new : State S) (id : ℕ) (o : Option ServiceFault) → Step carries old (End id) o new
      → (k : ℕ) (r : Message) → k ≢ id → reply_at k old.joined ≡ Some r → reply_at k new.joined ≡ Some r
  ended old new id None h k r other is = ap (λ (s : State S). reply_at k s.joined) h.1 ∙ standing_without k id old.joined r other is
  ended old new id (Some UnknownId) h k r other is = ap (λ (s : State S). reply_at k s.joined) h.1 ∙ is
  ended old new id (Some Busy) h k r other is = absurd h
  ended old new id (Some KnownId) h k r other is = absurd h

  pub join_keeps : (old new : State S) (id : ℕ) (o : Option ServiceFault) → Step carries old (Join id) o new → KeepsReplies (reply_bytes old) (reply_bytes new)
  join_keeps old new id o h = record { kept = λ k. standing_bytes (reply_at k old.joined) (reply_at k new.joined) (joined old new id o h k) }

  pub piece_keeps : (old new : State S) (id : ℕ) (piece : List ℕ) (o : Option ServiceFault) → Step carries old (Piece id piece) o new → KeepsReplies (reply_bytes old) (reply_bytes new)
  piece_keeps old new id piece o h = record { kept = λ k. standing_bytes (reply_at k old.joined) (reply_at k new.joined) (pieced old new id piece o h k) }

  pub end_keeps : (old new : State S) (id : ℕ) (o : Option ServiceFault) → Step carries old (End id) o new → KeepsOthers id (reply_bytes old) (reply_bytes new)
  end_keeps old new id o h = record { kept = λ k other. standing_bytes (reply_at k old.joined) (reply_at k new.joined) (λ r. ended old new id o h k r other) }

-- an event is done where its result is no fault
pub done_is : (r : Result (Unit {0}) ServiceFault) → is_ok r ≡ is_none (result_err r)
done_is (Ok t) = refl
done_is (Err f) = refl
