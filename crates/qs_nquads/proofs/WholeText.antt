-- What is written is read back.
use Rattle.std.proofs.Common.{◌≡◌, ℕ, ◌+◌, ◌^◌, ◌<◌, List, [], ◌∷◌, ◌++◌, length, map, refl, sym, ap, ◌∙◌, subst, append_assoc, append-nil, IsUtf8, Ordering}
use Rattle.std.specs.Str.{chars}
use Rattle.std.specs.List.{flat_map}
use Rattle.std.specs.declared.cmp.Ordering.TheVariants.{Less, Equal, Greater}
use Rattle.std.specs.Ordering.{nat_cmp, match_ordering}
use Rattle.std.specs.Cmp.Lexicographic.{slice_cmp}
use Rattle.std.proofs.lemmas.Str.{IsUtf8-nil}
use Rattle.qs_terms.specs.Bag.{once}
use Rattle.qs_terms.specs.Statement.{Statement}
use Rattle.qs_nquads.specs.Labels.{Numbering, from}
use Rattle.qs_nquads.specs.inner.Reading.{Reading, step, ends, Comes, here}
use Rattle.qs_nquads.specs.inner.Outcome.{ReadsAll}
use Rattle.qs_nquads.specs.declared.statement_state.StatementState.TheVariants as place
use Rattle.qs_nquads.specs.Written.{line, put_in, ordered, nquads_of}
use Rattle.qs_nquads.specs.inner.Renumbered.{blanks_of, first_blanks, before, renumbered, IsQuad, AreQuads, number_from, ReadsBack}
use Rattle.qs_nquads.proofs.Bridge.{to_nquads}
use Rattle.qs_nquads.proofs.Renumbering.{same, Agrees, none_yet}
use Rattle.qs_nquads.proofs.OneLine.{at, joined, given, LineRead, line_read, line_then, line_before, line_utf8}

pub text_of : List Statement → List ℕ
text_of [] = []
text_of (q ∷ qs) = line_then q (text_of qs)

pub text_is : (qs : List Statement) → flat_map line qs ≡ text_of qs
unfolding text_of
text_is [] = refl
text_is (q ∷ qs) = line_before q.graph q.subject q.predicate q.object (flat_map line qs) ∙ ap (λ z. line_then q z) (text_is qs)

pub text_utf8 : (qs : List Statement) → AreQuads qs → IsUtf8 (text_of qs)
unfolding text_of
text_utf8 [] h = IsUtf8-nil
text_utf8 (q ∷ qs) h = line_utf8 q (text_of qs) h.0 (text_utf8 qs h.1)

module _ (first : ℕ) (all : List ℕ) (suffice : first + length (once same all) < 2 ^ 64) where
  record Read (n : Numbering) (done : List Statement) (xs : List ℕ) (qs : List Statement) : Type 0 where
    numbers : Numbering
    comes : Comes (at place.Start n done (text_of qs)) (at place.Start numbers (done ++ map (renumbered (given first all suffice)) qs) [])
    agrees : Agrees first (xs ++ flat_map blanks_of qs) numbers

  lines_read : (qs : List Statement) (n : Numbering) (done : List Statement) (xs more : List ℕ) → AreQuads qs → all ≡ (xs ++ flat_map blanks_of qs) ++ more → Agrees first xs n → Read n done xs qs
  unfolding text_of
  lines_read [] n done xs more h e a = record {
    numbers = n;
    comes = subst (λ z. Comes (at place.Start n done []) (at place.Start n z [])) (sym (append-nil done)) here;
    agrees = subst (λ z. Agrees first z n) (sym (append-nil xs)) a;
  }
  lines_read (q ∷ qs) n done xs more h e a =
      let others : List ℕ = flat_map blanks_of qs in
      let e1 : all ≡ (xs ++ blanks_of q) ++ (others ++ more) = e ∙ (ap (λ z. z ++ more) (sym (append_assoc xs (blanks_of q) others)) ∙ append_assoc (xs ++ blanks_of q) others more) in
      let e2 : all ≡ ((xs ++ blanks_of q) ++ others) ++ more = e ∙ ap (λ z. z ++ more) (sym (append_assoc xs (blanks_of q) others)) in
      let one : LineRead first all suffice n done xs q (text_of qs) = line_read first all suffice n done xs (others ++ more) q (text_of qs) h.0 (text_utf8 qs h.1) e1 a in
      let now : List Statement = done ++ renumbered (given first all suffice) q ∷ [] in
      let rest : Read one.numbers now (xs ++ blanks_of q) qs = lines_read qs one.numbers now (xs ++ blanks_of q) more h.1 e2 one.agrees in
      record {
        numbers = rest.numbers;
        comes = subst (λ z. Comes (at place.Start n done (line_then q (text_of qs))) (at place.Start rest.numbers z []))
            (append_assoc done (renumbered (given first all suffice) q ∷ []) (map (renumbered (given first all suffice)) qs))
            (joined (at place.Start n done (line_then q (text_of qs))) (at place.Start one.numbers now (text_of qs)) (at place.Start rest.numbers (now ++ map (renumbered (given first all suffice)) qs) []) one.comes rest.comes);
        agrees = subst (λ z. Agrees first z rest.numbers) (append_assoc xs (blanks_of q) others) rest.agrees;
      }

at_end : (r : Reading) (n : Numbering) (qs : List Statement) → step (at place.Start n qs []) ≡ ends
unfolding chars
at_end r n qs = refl

-- quads in any order
pub all_read : (qs : List Statement) (first : ℕ) → AreQuads qs → first + length (once same (flat_map blanks_of qs)) < 2 ^ 64
    → ReadsAll (text_of qs) first (map (renumbered (λ b. first + before b (once same (flat_map blanks_of qs)))) qs) (first + length (once same (flat_map blanks_of qs)))
all_read qs first h suffice =
    let all : List ℕ = flat_map blanks_of qs in
    let r : Read first all suffice (from first) [] [] qs = lines_read first all suffice qs (from first) [] [] [] h (sym (append-nil all)) (none_yet first) in
    let made : List Statement = map (renumbered (given first all suffice)) qs in
    (text_utf8 qs h, (record { place = place.Start; labels = r.numbers; quads = made }, ([], r.comes, at_end (record { place = place.Start; labels = r.numbers; quads = made }) r.numbers made), refl, r.agrees.next))

-- ---- in the order of the lines

kept_by : (o : Ordering) (q r : Statement) (rs more : List Statement) → IsQuad q → AreQuads (r ∷ rs) → AreQuads more → AreQuads (match_ordering o (q ∷ r ∷ rs) (r ∷ rs) (r ∷ more))
kept_by Less q r rs more hq hr hm = (hq, hr)
kept_by Equal q r rs more hq hr hm = hr
kept_by Greater q r rs more hq hr hm = (hr.0, hm)

put_in_quads : (q : Statement) (rs : List Statement) → IsQuad q → AreQuads rs → AreQuads (put_in q rs)
unfolding put_in
put_in_quads q [] hq hr = (hq, tt)
put_in_quads q (r ∷ rs) hq hr = kept_by (slice_cmp nat_cmp (line q) (line r)) q r rs (put_in q rs) hq hr (put_in_quads q rs hq hr.1)

pub ordered_quads : (qs : List Statement) → AreQuads qs → AreQuads (ordered qs)
unfolding ordered
ordered_quads [] h = tt
ordered_quads (q ∷ qs) h = put_in_quads q (ordered qs) h.0 (ordered_quads qs h.1)

pub read_back : (qs : List Statement) (first : ℕ) → AreQuads qs → ReadsBack qs first
unfolding nquads_of first_blanks
read_back qs first h suffice =
    to_nquads (nquads_of qs) first (map (renumbered (number_from first (ordered qs))) (ordered qs)) (first + length (first_blanks (ordered qs)))
    (subst (λ z. ReadsAll z first (map (renumbered (number_from first (ordered qs))) (ordered qs)) (first + length (first_blanks (ordered qs)))) (sym (text_is (ordered qs)))
    (all_read (ordered qs) first (ordered_quads qs h) suffice))

pub written_utf8 : (qs : List Statement) → AreQuads qs → IsUtf8 (nquads_of qs)
unfolding nquads_of
written_utf8 qs h = subst IsUtf8 (sym (text_is (ordered qs))) (text_utf8 (ordered qs) (ordered_quads qs h))
