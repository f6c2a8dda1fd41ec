-- Turns, and what a table does.
use Rattle.std.proofs.Common.{◌≡◌, ◌≢◌, ◌∙◌, ◌≤◌, ◌<◌, ◌+◌, ℕ, Bool, true, false, List, [], ◌∷◌, ◌++◌, length, take, drop, slice_get, slice_set, Option, None, Some, Result, Ok, Err, IsSome, IfSome, OnOk, option_map, refl, sym, subst, arith, ap, append-nil, append_assoc, length-append, length-take-le, inl, inr}
use Rattle.std.proofs.lemmas.Bool.Decides.{eqb_tells}
use Rattle.std.proofs.lemmas.List.{take-append-drop}
use Rattle.std.specs.Option.{is_some}
use Rattle.qs_service_reactor.specs.Log.{Io, Got, Put, Fin, Logs}
use Rattle.qs_service_reactor.specs.Run.{Event, Join, Piece, End, Did, Wrote, Dropped, Finished, out_after, Serves}
use Rattle.qs_service_reactor.specs.inner.Acts.{joins}
use Rattle.qs_service_reactor.specs.inner.Keeps.{KeepsReplies, KeepsOthers}
use Rattle.qs_service_reactor.specs.inner.Turn.{IsSent, AgreesAt, AgreesPlace, Agrees, AllFree, Turns, Moves}
use Rattle.qs_service_reactor.specs.declared.connection.Connection.{Connection}
use Rattle.qs_service_reactor.specs.declared.connection.Stage.{Stage}
use Rattle.qs_service_reactor.specs.declared.connection.Stage.TheVariants.{Free, Reading, Writing, Lingering}
use Rattle.qs_service_reactor.proofs.Goes.{goes_none, goes_one, goes_sum}
use Rattle.qs_service_reactor.proofs.Agrees.{at_same, at_other, get_same, get_other, place_kept, unsent_rest, agrees_free, all_ended}

pub keeps_same : (id : ℕ) (replies : ℕ → Option (List ℕ)) → KeepsOthers id replies replies
keeps_same id replies = record { kept = λ k ne reply e. e }

pub keeps_others : (id : ℕ) (old new : ℕ → Option (List ℕ)) → KeepsReplies old new → KeepsOthers id old new
keeps_others id old new h = record { kept = λ k ne reply e. h.kept k reply e }

pub keeps_then : (id : ℕ) (f g h : ℕ → Option (List ℕ)) → KeepsOthers id f g → KeepsOthers id g h → KeepsOthers id f h
keeps_then id f g h x y = record { kept = λ k ne reply e. y.kept k ne reply (x.kept k ne reply e) }

pub few_of : (connections : Option ℕ) (i n most : ℕ) → IfSome connections (λ k. most ≡ k) → n ≤ most → i ≡ n → IfSome connections (λ k. i ≤ k)
few_of None i n most h le count = tt
few_of (Some k) i n most h le count = omega arith

all_of : {T E : Type 0} (connections : Option ℕ) (i n most : ℕ) (result : Result T E) → IfSome connections (λ k. most ≡ k) → n ≤ most → i ≡ n → OnOk result (most ≤ n) → OnOk result (IfSome connections (λ k. i ≡ k))
all_of {T} {E} None i n most (Ok t) h le count done = tt
all_of {T} {E} (Some k) i n most (Ok t) h le count done = omega arith
all_of {T} {E} connections i n most (Err x) h le count done = tt

-- what stands at a place after a write, and at the others
at_places : (replies out : ℕ → Option (List ℕ)) (replies' out' : ℕ → Option (List ℕ)) (places : List Connection) (p : ℕ) (c : Connection) → p < length places → KeepsOthers p replies replies' → ((k : ℕ) → k ≢ p → out' k ≡ out k) → Agrees replies out places → AgreesAt (replies' p) (out' p) c.stage → Agrees replies' out' (slice_set places p c)
at_places replies out replies' out' places p c lt keeps same h at k =
    elim (eqb_tells k p) [
      | inl t ↦ subst (λ (i : ℕ). AgreesPlace (replies' i) (out' i) (slice_get (slice_set places p c) i)) (sym t.1) (subst (λ (o : Option Connection). AgreesPlace (replies' p) (out' p) o) (sym (get_same places p c lt)) at)
      | inr t ↦ subst (λ (o : Option Connection). AgreesPlace (replies' k) (out' k) o) (sym (get_other places p k c t.1)) (place_kept (replies k) (replies' k) (out k) (out' k) (slice_get places k) (keeps.kept k t.1) (same k t.1) (h k))
    ]

-- with what the peer takes of the bytes from there on, all that went out is still a front of the reply
wrote_stands : (reply out : Option (List ℕ)) (next : List ℕ) (n i : ℕ) (h : IsSent reply out n) → Some next ≡ option_map (drop n) reply → reply ≡ Some (h.sent ++ take i next ++ drop i next)
wrote_stands reply out next n i h e =
    let split : h.sent ++ next ≡ (h.sent ++ take i next) ++ drop i next = ap (λ (l : List ℕ). h.sent ++ l) (sym (take-append-drop i next)) ∙ sym (append_assoc h.sent (take i next) (drop i next)) in
    unsent_rest reply out next n h e ∙ ap (λ (l : List ℕ). Some l) split

wrote : (reply out out' : Option (List ℕ)) (next : List ℕ) (n i m : ℕ) (h : IsSent reply out n) → Some next ≡ option_map (drop n) reply → i ≤ length next → m ≡ n + i → out' ≡ option_map (λ (sent : List ℕ). sent ++ take i next) out → IsSent reply out' m
wrote reply out out' next n i m h e le sum is =
    let count = h.count in
    record {
      sent = h.sent ++ take i next;
      rest = drop i next;
      joined = is ∙ ap (λ (o : Option (List ℕ)). option_map (λ (sent : List ℕ). sent ++ take i next) o) h.joined;
      stands = wrote_stands reply out next n i h e;
      count = omega (arith, length-append h.sent (take i next), length-take-le i next le);
    }

ended_of : {T E : Type 0} (replies out : ℕ → Option (List ℕ)) (places : List Connection) (result : Result T E) → OnOk result (AllFree places) → Agrees replies out places → OnOk result ((id : ℕ) → out id ≡ None)
ended_of {T} {E} replies out places (Ok t) h e = all_ended replies out places h e
ended_of {T} {E} replies out places (Err x) h e = tt

module _ {A : Type 0} {steps : A → Event → Bool → A → Type 0} {reply_of : A → ℕ → Option (List ℕ)} where
  pub turns_none : (p : ℕ) (s : Stage) (a : A) (l m : Option (List Io)) → Logs l m [] → Turns steps reply_of p s s a a l m
  turns_none p s a l m h = record { goes = λ out e. (out, goes_none a out 0 l m refl h, e, λ k ne. refl); keeps = keeps_same p (reply_of a) }

  pub turns_end : (p : ℕ) (s : Stage) (a b : A) (done : Bool) (l m : Option (List Io)) → steps a (End p) done b → KeepsOthers p (reply_of a) (reply_of b) → Logs l m [] → Turns steps reply_of p s Free a b l m
  turns_end p s a b done l m h kept k = record {
    goes = λ out e. (
      out_after out (Did (End p) done),
      goes_one a b out (Did (End p) done) 0 l m h (omega arith) k,
      at_same p None (out p),
      λ j ne. at_other j p None (out j) ne,
    );
    keeps = kept;
  }

  pub turns_received : (p : ℕ) (s t u : Stage) (bytes : List ℕ) (a b : A) (done : Bool) (l m : Option (List Io)) → s ≡ Reading → Logs l m (Got p bytes ∷ []) → steps a (Piece p bytes) done b → KeepsReplies (reply_of a) (reply_of b) → AgreesAt (reply_of b p) (Some []) t → u ≡ t → Turns steps reply_of p s u a b l m
  turns_received p s t u bytes a b done l m is k h kept at now = record {
    goes = λ out e.
        let none : out p ≡ Some [] = subst (λ (x : Stage). AgreesAt (reply_of a p) (out p) x) is e in (
          out,
          goes_one a b out (Did (Piece p bytes) done) 0 l m h (omega arith) k,
          subst (λ (x : Stage). AgreesAt (reply_of b p) (out p) x) (sym now) (subst (λ (o : Option (List ℕ)). AgreesAt (reply_of b p) o t) (sym none) at),
          λ j ne. refl,
        );
    keeps = keeps_others p (reply_of a) (reply_of b) kept;
  }

  pub turns_drained : (p : ℕ) (s t : Stage) (bytes : List ℕ) (a : A) (l m : Option (List Io)) → s ≡ Lingering → t ≡ Lingering → Logs l m (Got p bytes ∷ []) → Turns steps reply_of p s t a a l m
  turns_drained p s t bytes a l m is now k = record {
    goes = λ out e.
        let stands : AgreesAt (reply_of a p) (out p) Lingering = subst (λ (x : Stage). AgreesAt (reply_of a p) (out p) x) is e in (
          out,
          goes_one a a out (Dropped p bytes) 0 l m (refl, stands.0, stands.1) (omega arith) k,
          subst (λ (x : Stage). AgreesAt (reply_of a p) (out p) x) (sym now) stands,
          λ j ne. refl,
        );
    keeps = keeps_same p (reply_of a);
  }

  pub turns_wrote : (p : ℕ) (s t : Stage) (n i m : ℕ) (next : List ℕ) (a : A) (l o : Option (List Io)) → s ≡ Writing n → t ≡ Writing m → m ≡ n + i → Logs l o (Put p (take i next) ∷ []) → Some next ≡ option_map (drop n) (reply_of a p) → i ≤ length next → Turns steps reply_of p s t a a l o
  turns_wrote p s t n i m next a l o is now sum k e le = record {
    goes = λ out at.
        let h : IsSent (reply_of a p) (out p) n = subst (λ (x : Stage). AgreesAt (reply_of a p) (out p) x) is at in
        let out' : ℕ → Option (List ℕ) = out_after out (Wrote p (take i next)) in
        let same : out' p ≡ option_map (λ (sent : List ℕ). sent ++ take i next) (out p) = at_same p (option_map (λ (sent : List ℕ). sent ++ take i next) (out p)) (out p) in
        let f : IsSent (reply_of a p) (out' p) m = wrote (reply_of a p) (out p) (out' p) next n i m h e le sum same in (
          out',
          goes_one a a out (Wrote p (take i next)) 0 l o (refl, h.sent, drop i next, h.joined, wrote_stands (reply_of a p) (out p) next n i h e) (omega arith) k,
          subst (λ (x : Stage). AgreesAt (reply_of a p) (out' p) x) (sym now) f,
          λ j ne. at_other j p (option_map (λ (sent : List ℕ). sent ++ take i next) (out j)) (out j) ne,
        );
    keeps = keeps_same p (reply_of a);
  }

  pub turns_finished : (p : ℕ) (s t : Stage) (n : ℕ) (next : List ℕ) (a : A) (l o : Option (List Io)) → s ≡ Writing n → t ≡ Lingering → Logs l o (Fin p ∷ []) → Some next ≡ option_map (drop n) (reply_of a p) → next ≡ [] → Turns steps reply_of p s t a a l o
  turns_finished p s t n next a l o is now k e none = record {
    goes = λ out at.
        let h : IsSent (reply_of a p) (out p) n = subst (λ (x : Stage). AgreesAt (reply_of a p) (out p) x) is at in
        let whole : reply_of a p ≡ Some h.sent = unsent_rest (reply_of a p) (out p) next n h e ∙ ap (λ (x : List ℕ). Some (h.sent ++ x)) none ∙ ap (λ (x : List ℕ). Some x) (append-nil h.sent) in
        let joined : IsSome (out p) = ap (λ (r : Option (List ℕ)). is_some r) h.joined in
        let stands : IsSome (reply_of a p) = ap (λ (r : Option (List ℕ)). is_some r) whole in (
          out,
          goes_one a a out (Finished p) 0 l o (refl, joined, whole ∙ sym h.joined) (omega arith) k,
          subst (λ (x : Stage). AgreesAt (reply_of a p) (out p) x) (sym now) (joined, stands),
          λ j ne. refl,
        );
    keeps = keeps_same p (reply_of a);
  }

  pub turns_then : (p : ℕ) (s t u : Stage) (a b c : A) (l m o : Option (List Io)) → Turns steps reply_of p s t a b l m → Turns steps reply_of p t u b c m o → Turns steps reply_of p s u a c l o
  turns_then p s t u a b c l m o h k = record {
    goes = λ out e.
        let f = h.goes out e in
        let g = k.goes f.0 f.2 in
        (g.0, goes_sum a b c out f.0 g.0 0 0 0 l m o f.1 g.1 (omega arith), g.2, λ j ne. g.3 j ne ∙ f.3 j ne);
    keeps = keeps_then p (reply_of a) (reply_of b) (reply_of c) h.keeps k.keeps;
  }

  pub moves_none : (n : ℕ) (places : List Connection) (a : A) (l m : Option (List Io)) → n ≡ 0 → Logs l m [] → Moves steps reply_of n places places a a l m
  moves_none n places a l m z h = record { goes = λ out e. (out, goes_none a out n l m z h, e) }

  pub moves_turn : (p : ℕ) (c c' : Connection) (places : List Connection) (a b : A) (l m : Option (List Io)) → slice_get places p ≡ Some c → p < length places → Turns steps reply_of p c.stage c'.stage a b l m → Moves steps reply_of 0 places (slice_set places p c') a b l m
  moves_turn p c c' places a b l m is lt h = record {
    goes = λ out e.
        let here : AgreesAt (reply_of a p) (out p) c.stage = subst (λ (o : Option Connection). AgreesPlace (reply_of a p) (out p) o) is (e p) in
        let f = h.goes out here in
        (f.0, f.1, at_places (reply_of a) out (reply_of b) f.0 places p c' lt h.keeps f.3 e f.2);
  }

  pub moves_joined : (p : ℕ) (c : Connection) (places : List Connection) (a b : A) (l m : Option (List Io)) → p < length places → c.stage ≡ Reading → steps a (Join p) true b → KeepsReplies (reply_of a) (reply_of b) → Logs l m [] → Moves steps reply_of 1 places (slice_set places p c) a b l m
  moves_joined p c places a b l m lt is h kept k = record {
    goes = λ out e.
        let out' : ℕ → Option (List ℕ) = out_after out (Did (Join p) true) in
        let here : AgreesAt (reply_of b p) (out' p) c.stage = subst (λ (s : Stage). AgreesAt (reply_of b p) (out' p) s) (sym is) (at_same p (Some []) (out p)) in (
          out',
          goes_one a b out (Did (Join p) true) 1 l m h (omega arith) k,
          at_places (reply_of a) out (reply_of b) out' places p c lt (keeps_others p (reply_of a) (reply_of b) kept) (λ j ne. at_other j p (Some []) (out j) ne) e here,
        );
  }

  pub moves_refused : (p : ℕ) (places : List Connection) (a b : A) (l m : Option (List Io)) → steps a (Join p) false b → KeepsReplies (reply_of a) (reply_of b) → Logs l m [] → Moves steps reply_of 1 places places a b l m
  moves_refused p places a b l m h kept k = record {
    goes = λ out e. (
      out,
      goes_one a b out (Did (Join p) false) 1 l m h (omega arith) k,
      λ j. place_kept (reply_of a j) (reply_of b j) (out j) (out j) (slice_get places j) (kept.kept j) refl (e j),
    );
  }

  pub moves_sum : (i j n : ℕ) (x y z : List Connection) (a b c : A) (l m o : Option (List Io)) → Moves steps reply_of i x y a b l m → Moves steps reply_of j y z b c m o → i + j ≡ n → Moves steps reply_of n x z a c l o
  moves_sum i j n x y z a b c l m o h k sum = record {
    goes = λ out e.
        let f = h.goes out e in
        let g = k.goes f.0 f.2 in
        (g.0, goes_sum a b c out f.0 g.0 i j n l m o f.1 g.1 sum, g.2);
  }

  -- nothing comes or goes before, or afterwards
  pub moves_later : (n : ℕ) (x y : List Connection) (a b : A) (l m o : Option (List Io)) → Logs l m [] → Moves steps reply_of n x y a b m o → Moves steps reply_of n x y a b l o
  moves_later n x y a b l m o h k = moves_sum 0 n n x x y a a b l m o (moves_none 0 x a l m refl h) k (omega arith)

  pub moves_quiet : (n : ℕ) (x y : List Connection) (a b : A) (l m o : Option (List Io)) → Moves steps reply_of n x y a b l m → Logs m o [] → Moves steps reply_of n x y a b l o
  moves_quiet n x y a b l m o h k = moves_sum n 0 n x y y a b b l m o h (moves_none 0 y b m o refl k) (omega arith)

  pub moves_from : (n : ℕ) (x x' y : List Connection) (a b : A) (l m : Option (List Io)) → x ≡ x' → Moves steps reply_of n x y a b l m → Moves steps reply_of n x' y a b l m
  moves_from n x x' y a b l m e h = subst (λ (z : List Connection). Moves steps reply_of n z y a b l m) e h

  -- what a table with no connections does
  pub serves_of : {T E : Type 0} (connections : Option ℕ) (n most : ℕ) (x y : List Connection) (result : Result T E) (a b : A) (l m : Option (List Io)) → AllFree x → Moves steps reply_of n x y a b l m → IfSome connections (λ k. most ≡ k) → n ≤ most → OnOk result (most ≤ n) → OnOk result (AllFree y) → Serves steps reply_of connections result a b l m
  serves_of {T} {E} connections n most x y result a b l m free h is le done end =
      let f = h.goes (λ _. None) (agrees_free (reply_of a) x free) in
      record {
        acts = f.1.acts;
        out = f.0;
        run = f.1.run;
        few = few_of connections (joins f.1.acts) n most is le f.1.count;
        all = all_of connections (joins f.1.acts) n most result is le f.1.count done;
        logged = f.1.logged;
        ended = ended_of (reply_of b) f.0 y result end f.2;
      }
