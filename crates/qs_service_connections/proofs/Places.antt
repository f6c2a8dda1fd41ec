-- A place in the table, and the line of that id.
use Rattle.std.proofs.Common.{◌≡◌, ◌∙◌, ap, sym, refl, ℕ, suc, ◌<◌, ◌≤◌, Bool, true, false, cond, List, [], ◌∷◌, length, get_or, slice_set, Option, None, Some, arith}
use Rattle.std.specs.Option.{option_map}
use Rattle.std.specs.List.{position_or_len, remove}
use Rattle.std.proofs.lemmas.List.Sums.{position_or_len_is}
use Rattle.std.proofs.lemmas.Bool.{cond-true, cond-false}
use Rattle.qs_service_connections.specs.State.{Exchange, Joined, exchange_of, with_exchange, with_taken, without_id}
use Rattle.qs_service_connections.specs.inner.State.{put_exchange, joined_taken}
use Rattle.qs_service_connections.specs.inner.Table.{has_id, IsPlace}

pub none_has : (id : ℕ) (cs : List Joined) (n : ℕ) → length cs ≤ n → ((k : ℕ) (d : Joined) → k < n → has_id id (get_or cs k d) ≡ false)
    → length cs ≡ position_or_len (has_id id) cs
none_has id [] n all none = refl
none_has id (c ∷ cs) n all none =
    sym (position_or_len_is (has_id id) (c ∷ cs) (length (c ∷ cs)) c (omega arith) (λ k below. none k c (omega arith)) (λ more. absurd (omega arith)))

exchange_on : (id : ℕ) (c : Joined) (cs : List Joined) (b : Bool) → has_id id c ≡ b
    → exchange_of id (c ∷ cs) ≡ cond b (Some c.exchange) (exchange_of id cs)
exchange_on id c cs true is = ap (option_map (λ (x : Joined). x.exchange)) (cond-true _ _ _ is)
exchange_on id c cs false is = ap (option_map (λ (x : Joined). x.exchange)) (cond-false _ _ _ is)

absent_case : (id : ℕ) (c : Joined) (cs : List Joined) (b : Bool) → has_id id c ≡ b
    → (position_or_len (has_id id) cs ≡ length cs → exchange_of id cs ≡ None)
    → position_or_len (has_id id) (c ∷ cs) ≡ suc (length cs) → exchange_of id (c ∷ cs) ≡ None
absent_case id c cs true is rest at =
    let front : position_or_len (has_id id) (c ∷ cs) ≡ 0 = rw is refl in
    absurd (omega arith)
absent_case id c cs false is rest at =
    let front : position_or_len (has_id id) (c ∷ cs) ≡ suc (position_or_len (has_id id) cs) = rw is (omega arith) in
    exchange_on id c cs false is ∙ rest (omega arith)

pub exchange_absent : (id : ℕ) (cs : List Joined) → position_or_len (has_id id) cs ≡ length cs → exchange_of id cs ≡ None
exchange_absent id [] at = refl
exchange_absent id (c ∷ cs) at = absent_case id c cs (has_id id c) refl (exchange_absent id cs) at

-- what stands at the place is that id's
there_case : (id : ℕ) (d c : Joined) (cs : List Joined) (b : Bool) → has_id id c ≡ b
    → (position_or_len (has_id id) cs < length cs → exchange_of id cs ≡ Some (get_or cs (position_or_len (has_id id) cs) d).exchange)
    → position_or_len (has_id id) (c ∷ cs) < suc (length cs)
    → exchange_of id (c ∷ cs) ≡ Some (get_or (c ∷ cs) (position_or_len (has_id id) (c ∷ cs)) d).exchange
there_case id d c cs true is rest at =
    let front : position_or_len (has_id id) (c ∷ cs) ≡ 0 = rw is refl in
    exchange_on id c cs true is ∙ ap (λ (k : ℕ). Some (get_or (c ∷ cs) k d).exchange) (sym front)
there_case id d c cs false is rest at =
    let front : position_or_len (has_id id) (c ∷ cs) ≡ suc (position_or_len (has_id id) cs) = rw is (omega arith) in
    exchange_on id c cs false is ∙ rest (omega arith) ∙ ap (λ (k : ℕ). Some (get_or (c ∷ cs) k d).exchange) (sym front)

exchange_there : (id : ℕ) (d : Joined) (cs : List Joined) → position_or_len (has_id id) cs < length cs
    → exchange_of id cs ≡ Some (get_or cs (position_or_len (has_id id) cs) d).exchange
exchange_there id d [] at = absurd (omega arith)
exchange_there id d (c ∷ cs) at = there_case id d c cs (has_id id c) refl (exchange_there id d cs) at

removed_case : (id : ℕ) (c : Joined) (cs : List Joined) (b : Bool) → has_id id c ≡ b
    → remove cs (position_or_len (has_id id) cs) ≡ without_id id cs
    → remove (c ∷ cs) (position_or_len (has_id id) (c ∷ cs)) ≡ without_id id (c ∷ cs)
removed_case id c cs true is rest =
    let front : position_or_len (has_id id) (c ∷ cs) ≡ 0 = rw is refl in
    ap (λ (k : ℕ). remove (c ∷ cs) k) front ∙ sym (cond-true _ _ _ is)
removed_case id c cs false is rest =
    let front : position_or_len (has_id id) (c ∷ cs) ≡ suc (position_or_len (has_id id) cs) = rw is (omega arith) in
    ap (λ (k : ℕ). remove (c ∷ cs) k) front ∙ ap (λ (l : List Joined). c ∷ l) rest ∙ sym (cond-false _ _ _ is)

exchange_removed : (id : ℕ) (cs : List Joined) → remove cs (position_or_len (has_id id) cs) ≡ without_id id cs
exchange_removed id [] = refl
exchange_removed id (c ∷ cs) = removed_case id c cs (has_id id c) refl (exchange_removed id cs)

put_case : (id : ℕ) (d e c : Joined) (cs : List Joined) (b : Bool) → has_id id c ≡ b
    → (e.id ≡ (get_or cs (position_or_len (has_id id) cs) d).id → slice_set cs (position_or_len (has_id id) cs) e ≡ put_exchange id e.exchange cs)
    → e.id ≡ (get_or (c ∷ cs) (position_or_len (has_id id) (c ∷ cs)) d).id
    → slice_set (c ∷ cs) (position_or_len (has_id id) (c ∷ cs)) e ≡ put_exchange id e.exchange (c ∷ cs)
put_case id d e c cs true is rest same =
    let front : position_or_len (has_id id) (c ∷ cs) ≡ 0 = rw is refl in
    let named : e.id ≡ c.id = same ∙ ap (λ (k : ℕ). (get_or (c ∷ cs) k d).id) front in
    ap (λ (k : ℕ). slice_set (c ∷ cs) k e) front ∙ ap (λ (n : ℕ). record { id = n; exchange = e.exchange } ∷ cs) named ∙ sym (cond-true _ _ _ is)
put_case id d e c cs false is rest same =
    let front : position_or_len (has_id id) (c ∷ cs) ≡ suc (position_or_len (has_id id) cs) = rw is (omega arith) in
    let named : e.id ≡ (get_or cs (position_or_len (has_id id) cs) d).id = same ∙ ap (λ (k : ℕ). (get_or (c ∷ cs) k d).id) front in
    ap (λ (k : ℕ). slice_set (c ∷ cs) k e) front ∙ ap (λ (l : List Joined). c ∷ l) (rest named) ∙ sym (cond-false _ _ _ is)

exchange_put : (id : ℕ) (d e : Joined) (cs : List Joined) → e.id ≡ (get_or cs (position_or_len (has_id id) cs) d).id
    → slice_set cs (position_or_len (has_id id) cs) e ≡ put_exchange id e.exchange cs
exchange_put id d e [] same = refl
exchange_put id d e (c ∷ cs) same = put_case id d e c cs (has_id id c) refl (exchange_put id d e cs) same

pub place_at : (id : ℕ) (cs : List Joined) (place : ℕ) → place ≡ position_or_len (has_id id) cs → place ≤ length cs → IsPlace id cs place
place_at id cs place is within = record {
  within = within;
  absent = λ at. exchange_absent id cs (sym is ∙ at);
  there = λ d at. exchange_there id d cs (omega (arith, is)) ∙ ap (λ (k : ℕ). Some (get_or cs k d).exchange) (sym is);
  removed = λ at. ap (λ (k : ℕ). remove cs k) is ∙ exchange_removed id cs;
  put = λ d e at same. ap (λ (k : ℕ). slice_set cs k e) is ∙ exchange_put id d e cs (same ∙ ap (λ (k : ℕ). (get_or cs k d).id) is);
}

-- bytes are taken of the connection of that id, where it is joined
taken_on : (id n : ℕ) (c : Joined) (cs : List Joined) (o : Option Exchange) → has_id id c ≡ false → joined_taken id n o (c ∷ cs) ≡ c ∷ joined_taken id n o cs
taken_on id n c cs None is = refl
taken_on id n c cs (Some e) is = cond-false _ _ _ is

taken_case : (id n : ℕ) (c : Joined) (cs : List Joined) (b : Bool) → has_id id c ≡ b
    → joined_taken id n (exchange_of id cs) cs ≡ with_exchange id (with_taken n) cs
    → joined_taken id n (exchange_of id (c ∷ cs)) (c ∷ cs) ≡ with_exchange id (with_taken n) (c ∷ cs)
taken_case id n c cs true is rest =
    ap (λ (o : Option Exchange). joined_taken id n o (c ∷ cs)) (exchange_on id c cs true is) ∙ cond-true _ _ _ is ∙ sym (cond-true _ _ _ is)
taken_case id n c cs false is rest =
    ap (λ (o : Option Exchange). joined_taken id n o (c ∷ cs)) (exchange_on id c cs false is) ∙ taken_on id n c cs (exchange_of id cs) is
    ∙ ap (λ (l : List Joined). c ∷ l) rest ∙ sym (cond-false _ _ _ is)

pub taken_is : (id n : ℕ) (cs : List Joined) → joined_taken id n (exchange_of id cs) cs ≡ with_exchange id (with_taken n) cs
taken_is id n [] = refl
taken_is id n (c ∷ cs) = taken_case id n c cs (has_id id c) refl (taken_is id n cs)
