-- A written line is read to its statement.
use Rattle.std.proofs.Common.{◌≡◌, ℕ, ◌+◌, ◌^◌, ◌<◌, ◌≤◌, Bool, true, false, not, ◌&&◌, List, [], ◌∷◌, ◌++◌, length, take, drop, Option, Some, None, Ok, refl, sym, ap, ap₂, ◌∙◌, subst, arith, append_assoc, append-nil, length-append, true≢false, IsUtf8}
use Rattle.std.specs.Prelude.{if◌then◌else◌}
use Rattle.std.specs.Str.{bytes_eq}
use Rattle.std.proofs.lemmas.Bool.{and_parts}
use Rattle.std.proofs.lemmas.List.{take-append-le, take_all, drop-append-le, drop_all}
use Rattle.std.proofs.lemmas.Slice.Eq.{bytes_eq-Decides}
use Rattle.std.proofs.lemmas.Str.{IsUtf8-append, IsUtf8-nil}
use Rattle.qs_terms.specs.Bag.{once}
use Rattle.qs_terms.specs.inner.Iri.{is_iri_text}
use Rattle.qs_terms.specs.Tag.{is_tag, lowered}
use Rattle.qs_terms.specs.Literal.{Literal, typed, tagged, checked_typed, checked_tagged, rdf_lang_string}
use Rattle.qs_terms.specs.inner.Literal.{fits_tag, is_lower_tag}
use Rattle.qs_terms.specs.Statement.{Statement, is_iri, is_node}
use Rattle.qs_terms.specs.inner.Dataset.{is_graph}
use Rattle.qs_terms.specs.declared.term.Term.{Term}
use Rattle.qs_terms.specs.declared.term.Term.TheVariants as term
use Rattle.qs_nquads.specs.inner.Gap.{behind_gap}
use Rattle.qs_nquads.specs.Labels.{Numbering, number}
use Rattle.qs_nquads.specs.inner.PartAt.{takes_label}
use Rattle.qs_terms.specs.Literal.{xsd_string}
use Rattle.qs_nquads.specs.inner.StatementState.{term_of, statement, goes_on, with_literal, after}
use Rattle.qs_nquads.specs.inner.Reading.{Reading, State, goes, step, read, taken, placed, Comes, here, on}
use Rattle.qs_nquads.specs.declared.node.Node.{Node}
use Rattle.qs_nquads.specs.declared.node.Node.TheVariants as node
use Rattle.qs_nquads.specs.declared.part.Part.{Part}
use Rattle.qs_nquads.specs.declared.part.Part.TheVariants as part
use Rattle.qs_nquads.specs.declared.statement_state.StatementState.{StatementState}
use Rattle.qs_nquads.specs.declared.statement_state.StatementState.TheVariants as place
use Rattle.qs_nquads.specs.inner.Next as next
use Rattle.qs_nquads.proofs.Steps as steps
use Rattle.qs_nquads.specs.Written.{label, iri_text, quoted, suffix, term_text, after_space, with_graph, line}
use Rattle.qs_nquads.specs.inner.Renumbered.{blanks_in, blanks_of, before, renumbered_term, renumbered, IsTerm, IsName, IsQuad}
use Rattle.qs_nquads.proofs.WrittenTokens.{Says, token_utf8, longest_of, no_gap, one_space, ascii_text, iri_says, string_says, carets_say, dot_says, end_says, tag_says, label_says, label_utf8, not-false}
use Rattle.qs_nquads.proofs.Renumbering.{same, Agrees, Numbered, numbered, keeps, is_there, once_longer}

abbrev pub at : StatementState → Numbering → List Statement → List ℕ → State
at p n qs rest = record { reading = record { place = p; labels = n; quads = qs }; rest = rest }

pub joined : (s t u : State) → Comes s t → Comes t u → Comes s u
joined s t _ c here = c
joined s t _ c (on v u d e) = on v u (joined s t v c d) e

one : (s t : State) → step s ≡ goes t → Comes s t
one s t e = on s t here e

taken_front : (x y : List ℕ) → take (length x) (x ++ y) ≡ x
taken_front x y = take-append-le (length x) x y (omega arith) ∙ take_all (length x) x (omega arith)

left_behind : (x y : List ℕ) → drop (length x) (x ++ y) ≡ y
left_behind x y = drop-append-le (length x) x y (omega arith) ∙ ap (λ z. z ++ y) (drop_all (length x) x (omega arith))

-- ---- one token

module _ (p : StatementState) (n m : Numbering) (qs : List Statement) (token rest : List ℕ) (t : Part) (says : Says p n token rest t m) (u : IsUtf8 rest)
    (r : Reading) (e : placed qs m (after p t) ≡ Ok r) where
  whole_read : read (record { place = p; labels = n; quads = qs }) says.kind token ≡ Ok r
  whole_read = ap (λ z. taken p qs z) says.said ∙ e

  by_gap : (text : List ℕ) → behind_gap text ≡ token ++ rest → step (at p n qs text) ≡ goes (record { reading = r; rest = rest })
  by_gap text g =
      steps.goes_on (record { place = p; labels = n; quads = qs }) text (token ++ rest) (sym g) says.kind (length token) r
      (let some : 0 < length token = says.front.some in simp length-append (omega arith)) (longest_of token rest says.kind says.front)
      (ap (λ z. read (record { place = p; labels = n; quads = qs }) says.kind z) (taken_front token rest) ∙ whole_read)
      ∙ ap (λ z. goes (record { reading = r; rest = z })) (left_behind token rest)

  pub at_once : Comes (at p n qs (token ++ rest)) (record { reading = r; rest = rest })
  at_once = one (at p n qs (token ++ rest)) (record { reading = r; rest = rest }) (by_gap (token ++ rest) (no_gap token rest says.kind says.front u))

  pub behind_one_space : Comes (at p n qs (32 ∷ (token ++ rest))) (record { reading = r; rest = rest })
  behind_one_space = one (at p n qs (32 ∷ (token ++ rest))) (record { reading = r; rest = rest }) (by_gap (32 ∷ (token ++ rest)) (one_space token rest says.kind says.front u))

-- ---- texts are UTF-8

suffix_utf8 : (datatype : List ℕ) (b : Bool) → IsUtf8 datatype → is_iri_text datatype ≡ true → IsUtf8 (if b then [] else (94 ∷ 94 ∷ iri_text datatype))
suffix_utf8 d true u h = IsUtf8-nil
suffix_utf8 d false u h =
    let s = iri_says place.Start (record { numbers = []; next = 0 }) d [] u h in
    ascii_text 94 (omega arith) (94 ∷ iri_text d) (ascii_text 94 (omega arith) (iri_text d) (token_utf8 (iri_text d) [] s.kind s.front))

tag_utf8 : (t : List ℕ) → is_tag t ≡ true → IsUtf8 (64 ∷ t)
tag_utf8 t h = let s = tag_says place.Start (record { numbers = []; next = 0 }) t [] h in token_utf8 (64 ∷ t) (32 ∷ []) s.kind s.front

literal_suffix : (d : List ℕ) (t : Option (List ℕ)) → IsUtf8 d → fits_tag d t ≡ true → IsUtf8 (suffix d t)
literal_suffix d None u h = suffix_utf8 d (bytes_eq d xsd_string) u (and_parts (is_iri_text d) _ h).0
literal_suffix d (Some t) u h = tag_utf8 t (and_parts (is_tag t) _ (and_parts (bytes_eq d rdf_lang_string) (is_lower_tag t) h).1).0

pub term_utf8 : (t : Term) → IsTerm t → IsUtf8 (term_text t)
term_utf8 (term.Iri i) h = let s = iri_says place.Start (record { numbers = []; next = 0 }) i [] h.0 h.1 in token_utf8 (iri_text i) [] s.kind s.front
term_utf8 (term.Blank b) h = ascii_text 95 (omega arith) (58 ∷ label b) (ascii_text 58 (omega arith) (label b) (label_utf8 b h))
term_utf8 (term.Literal l) h =
    let s = string_says place.Start (record { numbers = []; next = 0 }) l.form [] h.0 in
    IsUtf8-append (quoted l.form) (suffix l.datatype l.tag) (token_utf8 (quoted l.form) [] s.kind s.front) (literal_suffix l.datatype l.tag h.1 h.2)

pub space_utf8 : (t : Term) (rest : List ℕ) → IsTerm t → IsUtf8 rest → IsUtf8 (after_space t rest)
space_utf8 t rest h u = ascii_text 32 (omega arith) (term_text t ++ rest) (IsUtf8-append (term_text t) rest (term_utf8 t h) u)

pub graph_utf8 : (g : Option Term) (rest : List ℕ) → IsName g → IsUtf8 rest → IsUtf8 (with_graph g rest)
graph_utf8 None rest h u = u
graph_utf8 (Some t) rest h u = space_utf8 t rest h u

-- ---- lists

first_more : (xs a b c more : List ℕ) → (xs ++ (a ++ (b ++ c))) ++ more ≡ (xs ++ a) ++ ((b ++ c) ++ more)
first_more xs a b c more = simp append_assoc

second_more : (xs a b c more : List ℕ) → (xs ++ (a ++ (b ++ c))) ++ more ≡ ((xs ++ a) ++ b) ++ (c ++ more)
second_more xs a b c more = simp append_assoc

third_more : (xs a b c more : List ℕ) → (xs ++ (a ++ (b ++ c))) ++ more ≡ (((xs ++ a) ++ b) ++ c) ++ more
third_more xs a b c more = simp append_assoc

all_three : (xs a b c : List ℕ) → ((xs ++ a) ++ b) ++ c ≡ xs ++ (a ++ (b ++ c))
all_three xs a b c = simp append_assoc

-- a line before a text
pub line_then : Statement → List ℕ → List ℕ
line_then q rest = term_text q.subject ++ after_space q.predicate (after_space q.object (with_graph q.graph (32 ∷ 46 ∷ 10 ∷ rest)))

pub line_before : (g : Option Term) (s p o : Term) (rest : List ℕ) → let q : Statement = record { graph = g; subject = s; predicate = p; object = o } in line q ++ rest ≡ line_then q rest
unfolding line_then
line_before None s p o rest = simp append_assoc
line_before (Some name) s p o rest = simp append_assoc

-- ---- nodes

node_of : (ℕ → ℕ) → Term → Node
node_of f (term.Iri i) = node.Iri i
node_of f (term.Blank b) = node.Blank (f b)
node_of f (term.Literal l) = node.Iri []

part_for : (ℕ → ℕ) → Term → Part
part_for f (term.Iri i) = part.Iri i
part_for f (term.Blank b) = part.Blank (f b)
part_for f (term.Literal l) = part.Dot

-- all blank nodes of the text that is read, for which the numbers suffice
module _ (first : ℕ) (all : List ℕ) (suffice : first + length (once same all) < 2 ^ 64) where
  abbrev pub given : ℕ → ℕ
  given b = first + before b (once same all)

  one_number : (xs more : List ℕ) (n : Numbering) (b : ℕ) → all ≡ (xs ++ b ∷ []) ++ more → b < 2 ^ 64 → Agrees first xs n
      → (m : Numbering) × (number n (label b) ≡ Ok (given b, m)) × Agrees first (xs ++ b ∷ []) m
  one_number xs more n b e h a =
      let longer : length (once same (xs ++ b ∷ [])) ≤ length (once same ((xs ++ b ∷ []) ++ more)) = once_longer more (xs ++ b ∷ []) in
      let whole : length (once same all) ≡ length (once same ((xs ++ b ∷ []) ++ more)) = ap (λ z. length (once same z)) e in
      let r : Numbered first xs n b = numbered first xs n b h a (omega arith) in
      let k : before b (once same all) ≡ before b (once same (xs ++ b ∷ [])) = ap (λ z. before b (once same z)) e ∙ keeps b more (xs ++ b ∷ []) (is_there b xs) in
      (r.behind, r.given ∙ ap (λ z. Ok (first + z, r.behind)) (sym k), r.agrees)

  record NodeSays (p : StatementState) (n : Numbering) (xs : List ℕ) (t : Term) (rest : List ℕ) : Type 0 where
    behind : Numbering
    says : Says p n (term_text t) (32 ∷ rest) (part_for given t) behind
    agrees : Agrees first (xs ++ blanks_in t) behind

  node_says : (p : StatementState) (n : Numbering) (xs more : List ℕ) (t : Term) (rest : List ℕ) → IsTerm t → is_node t ≡ true → takes_label p ≡ true → all ≡ (xs ++ blanks_in t) ++ more → Agrees first xs n → NodeSays p n xs t rest
  unfolding part_for
  node_says p n xs more (term.Iri i) rest h s l e a =
      record { behind = n; says = iri_says p n i (32 ∷ rest) h.0 h.1; agrees = subst (λ z. Agrees first z n) (sym (append-nil xs)) a }
  node_says p n xs more (term.Blank b) rest h s l e a =
      let r = one_number xs more n b e h a in
      record { behind = r.0; says = label_says p n r.0 b (given b) rest h l r.1; agrees = r.2 }
  node_says p n xs more (term.Literal l) rest h s k e a = absurd (true≢false (sym s))

  -- ---- the places of a statement

  node_renamed : (t : Term) → is_node t ≡ true → term_of (node_of given t) ≡ renumbered_term given t
  unfolding node_of
  node_renamed (term.Iri i) h = refl
  node_renamed (term.Blank b) h = refl
  node_renamed (term.Literal l) h = absurd (true≢false (sym h))

  as_subject : (t : Term) → is_node t ≡ true → after place.Start (part_for given t) ≡ goes_on (place.Subject (node_of given t))
  unfolding node_of part_for
  as_subject (term.Iri i) h = refl
  as_subject (term.Blank b) h = refl
  as_subject (term.Literal l) h = absurd (true≢false (sym h))

  -- a place after an object, before or after what a string may have
  record Behind (s : Node) (p : List ℕ) (o : Term) (here : StatementState) : Type 0 where
    takes : takes_label here ≡ true
    name : (t : Part) (g : Node) → after (place.Object s p o) t ≡ goes_on (place.Label s p o g) → after here t ≡ goes_on (place.Label s p o g)
    dot : after here part.Dot ≡ Ok (next.Quad (statement s p o None))

  behind_object : (s : Node) (p : List ℕ) (o : Term) → Behind s p o (place.Object s p o)
  behind_object s p o = record { takes = refl; name = λ t g e. e; dot = refl }

  plain_form : (s : Node) (p form : List ℕ) (t : Part) (g : Node) → after (place.Object s p (term.Literal (typed form xsd_string))) t ≡ goes_on (place.Label s p (term.Literal (typed form xsd_string)) g)
      → after (place.Form s p form) t ≡ goes_on (place.Label s p (term.Literal (typed form xsd_string)) g)
  plain_form s p form (part.Iri i) g e = e
  plain_form s p form (part.Blank n) g e = e
  plain_form s p form (part.Form t) g e = cc
  plain_form s p form (part.Tag t) g e = cc
  plain_form s p form part.Carets g e = cc
  plain_form s p form part.Dot g e = cc
  plain_form s p form part.LineEnd g e = cc

  behind_form : (s : Node) (p form : List ℕ) → Behind s p (term.Literal (typed form xsd_string)) (place.Form s p form)
  behind_form s p form = record { takes = refl; name = plain_form s p form; dot = refl }

  -- reading comes from a place before some text to a place after an object, before the rest
  record Object (n : Numbering) (qs : List Statement) (s : Node) (p : List ℕ) (o : Term) (xs : List ℕ) (text rest : List ℕ) (t : Term) : Type 0 where
    reached : StatementState
    numbers : Numbering
    comes : Comes (at (place.Predicate s p) n qs text) (at reached numbers qs rest)
    behind : Behind s p o reached
    agrees : Agrees first (xs ++ blanks_in t) numbers

  -- after a string: its suffix
  Suffixed : (n : Numbering) (qs : List Statement) (s : Node) (p form d : List ℕ) (tag : Option (List ℕ)) (text rest : List ℕ) → Type 0
  Suffixed n qs s p form d tag text rest =
      (pl : StatementState) × Comes (at (place.Form s p form) n qs text) (at pl n qs rest) × Behind s p (term.Literal (record { form = form; datatype = d; tag = tag })) pl

  tagged_suffix : (n : Numbering) (qs : List Statement) (s : Node) (p form d t : List ℕ) (tail : List ℕ) → fits_tag d (Some t) ≡ true → IsUtf8 (32 ∷ tail)
      → Suffixed n qs s p form d (Some t) ((64 ∷ t) ++ 32 ∷ tail) (32 ∷ tail)
  unfolding Suffixed
  tagged_suffix n qs s p form d t tail h u =
      let q : (bytes_eq d rdf_lang_string ≡ true) × (is_lower_tag t ≡ true) = and_parts _ _ h in
      let r : (is_tag t ≡ true) × (bytes_eq (lowered t) t ≡ true) = and_parts _ _ q.1 in
      let low : lowered t ≡ t = (bytes_eq-Decides (lowered t) t).0 r.1 in
      let type : d ≡ rdf_lang_string = (bytes_eq-Decides d rdf_lang_string).0 q.0 in
      let l : Literal = record { form = form; datatype = d; tag = Some t } in
      let made : tagged form t ≡ l = ap₂ (λ (a b : List ℕ). let z : Literal = record { form = form; datatype = a; tag = Some b } in z) (sym type) low in
      let checks : checked_tagged form t ≡ Ok l = (let g : is_tag t ≡ true = r.0 in rw g (ap (λ z. Ok z) made)) in (
        place.Object s p (term.Literal l),
        at_once (place.Form s p form) n n qs (64 ∷ t) (32 ∷ tail) (part.Tag t) (tag_says (place.Form s p form) n t tail r.0) u
            (record { place = place.Object s p (term.Literal l); labels = n; quads = qs }) (ap (λ z. placed qs n (with_literal s p z)) checks),
        behind_object s p (term.Literal l),
      )

  typed_suffix : (n : Numbering) (qs : List Statement) (s : Node) (p form d : List ℕ) (tail : List ℕ) (b : Bool) → bytes_eq d xsd_string ≡ b → IsUtf8 d → fits_tag d None ≡ true → IsUtf8 (32 ∷ tail)
      → Suffixed n qs s p form d None ((if b then [] else (94 ∷ 94 ∷ iri_text d)) ++ 32 ∷ tail) (32 ∷ tail)
  unfolding Suffixed
  typed_suffix n qs s p form d tail true e ud h u =
      let type : d ≡ xsd_string = (bytes_eq-Decides d xsd_string).0 e in
      (place.Form s p form, here, subst (λ z. Behind s p (term.Literal (typed form z)) (place.Form s p form)) (sym type) (behind_form s p form))
  typed_suffix n qs s p form d tail false e ud h u =
      let q : (is_iri_text d ≡ true) × (not (bytes_eq d rdf_lang_string) ≡ true) = and_parts _ _ h in
      let other : bytes_eq d rdf_lang_string ≡ false = not-false (bytes_eq d rdf_lang_string) q.1 in
      let checks : checked_typed form d ≡ Ok (typed form d) = rw other refl in
      let says = iri_says (place.Typed s p form) n d (32 ∷ tail) ud q.0 in
      let behind_carets : IsUtf8 (iri_text d ++ 32 ∷ tail) = IsUtf8-append (iri_text d) (32 ∷ tail) (token_utf8 (iri_text d) (32 ∷ tail) says.kind says.front) u in (
        place.Object s p (term.Literal (typed form d)),
        joined (at (place.Form s p form) n qs (94 ∷ 94 ∷ (iri_text d ++ 32 ∷ tail))) (at (place.Typed s p form) n qs (iri_text d ++ 32 ∷ tail)) (at (place.Object s p (term.Literal (typed form d))) n qs (32 ∷ tail))
            (at_once (place.Form s p form) n n qs (94 ∷ 94 ∷ []) (iri_text d ++ 32 ∷ tail) part.Carets (carets_say (place.Form s p form) n (iri_text d ++ 32 ∷ tail)) behind_carets
            (record { place = place.Typed s p form; labels = n; quads = qs }) refl)
            (at_once (place.Typed s p form) n n qs (iri_text d) (32 ∷ tail) (part.Iri d) says u
            (record { place = place.Object s p (term.Literal (typed form d)); labels = n; quads = qs }) (ap (λ z. placed qs n (with_literal s p z)) checks)),
        behind_object s p (term.Literal (typed form d)),
      )

  suffixed : (n : Numbering) (qs : List Statement) (s : Node) (p form d : List ℕ) (tag : Option (List ℕ)) (tail : List ℕ) → IsUtf8 d → fits_tag d tag ≡ true → IsUtf8 (32 ∷ tail)
      → Suffixed n qs s p form d tag (suffix d tag ++ 32 ∷ tail) (32 ∷ tail)
  suffixed n qs s p form d None tail ud h u = typed_suffix n qs s p form d tail (bytes_eq d xsd_string) refl ud h u
  suffixed n qs s p form d (Some t) tail ud h u = tagged_suffix n qs s p form d t tail h u

  object_read : (n : Numbering) (xs more : List ℕ) (qs : List Statement) (s : Node) (p : List ℕ) (t : Term) (tail : List ℕ) → IsTerm t → IsUtf8 (32 ∷ tail) → all ≡ (xs ++ blanks_in t) ++ more → Agrees first xs n
      → Object n qs s p (renumbered_term given t) xs (after_space t (32 ∷ tail)) (32 ∷ tail) t
  unfolding Suffixed
  object_read n xs more qs s p (term.Iri i) tail h u e a = record {
    reached = place.Object s p (term.Iri i);
    numbers = n;
    comes = behind_one_space (place.Predicate s p) n n qs (iri_text i) (32 ∷ tail) (part.Iri i) (iri_says (place.Predicate s p) n i (32 ∷ tail) h.0 h.1) u
        (record { place = place.Object s p (term.Iri i); labels = n; quads = qs }) refl;
    behind = behind_object s p (term.Iri i);
    agrees = subst (λ z. Agrees first z n) (sym (append-nil xs)) a;
  }
  object_read n xs more qs s p (term.Blank b) tail h u e a =
      let r = one_number xs more n b e h a in record {
        reached = place.Object s p (term.Blank (given b));
        numbers = r.0;
        comes = behind_one_space (place.Predicate s p) n r.0 qs (95 ∷ 58 ∷ label b) (32 ∷ tail) (part.Blank (given b)) (label_says (place.Predicate s p) n r.0 b (given b) tail h refl r.1) u
            (record { place = place.Object s p (term.Blank (given b)); labels = r.0; quads = qs }) refl;
        behind = behind_object s p (term.Blank (given b));
        agrees = r.2;
      }
  object_read n xs more qs s p (term.Literal l) tail h u e a =
      let r = suffixed n qs s p l.form l.datatype l.tag tail h.1 h.2 u in
      let behind_string : IsUtf8 (suffix l.datatype l.tag ++ 32 ∷ tail) = IsUtf8-append (suffix l.datatype l.tag) (32 ∷ tail) (literal_suffix l.datatype l.tag h.1 h.2) u in
      let string = behind_one_space (place.Predicate s p) n n qs (quoted l.form) (suffix l.datatype l.tag ++ 32 ∷ tail) (part.Form l.form)
      (string_says (place.Predicate s p) n l.form (suffix l.datatype l.tag ++ 32 ∷ tail) h.0) behind_string (record { place = place.Form s p l.form; labels = n; quads = qs }) refl in
      record {
        reached = r.0;
        numbers = n;
        comes = joined (at (place.Predicate s p) n qs (after_space (term.Literal l) (32 ∷ tail))) (at (place.Form s p l.form) n qs (suffix l.datatype l.tag ++ 32 ∷ tail)) (at r.0 n qs (32 ∷ tail))
            (subst (λ z. Comes (at (place.Predicate s p) n qs (32 ∷ z)) (at (place.Form s p l.form) n qs (suffix l.datatype l.tag ++ 32 ∷ tail)))
            (sym (append_assoc (quoted l.form) (suffix l.datatype l.tag) (32 ∷ tail))) string) r.1;
        behind = r.2;
        agrees = subst (λ z. Agrees first z n) (sym (append-nil xs)) a;
      }

  -- ---- a line

  as_label : (s : Node) (p : List ℕ) (o : Term) (t : Term) → is_node t ≡ true → after (place.Object s p o) (part_for given t) ≡ goes_on (place.Label s p o (node_of given t))
  unfolding node_of part_for
  as_label s p o (term.Iri i) h = refl
  as_label s p o (term.Blank b) h = refl
  as_label s p o (term.Literal l) h = absurd (true≢false (sym h))

  record Head (n : Numbering) (qs : List Statement) (xs : List ℕ) (s : Term) (i : List ℕ) (o : Term) (tail : List ℕ) : Type 0 where
    reached : StatementState
    numbers : Numbering
    comes : Comes (at place.Start n qs (term_text s ++ after_space (term.Iri i) (after_space o (32 ∷ tail)))) (at reached numbers qs (32 ∷ tail))
    behind : Behind (node_of given s) i (renumbered_term given o) reached
    agrees : Agrees first ((xs ++ blanks_in s) ++ blanks_in o) numbers

  head_read : (n : Numbering) (qs : List Statement) (xs more : List ℕ) (s : Term) (i : List ℕ) (o : Term) (tail : List ℕ) → IsTerm s → is_node s ≡ true → IsTerm (term.Iri i) → IsTerm o → IsUtf8 (32 ∷ tail)
      → all ≡ (xs ++ blanks_in s) ++ (blanks_in o ++ more) → Agrees first xs n → Head n qs xs s i o tail
  head_read n qs xs more s i o tail hs ns hi ho u e a =
      let after_predicate : List ℕ = after_space o (32 ∷ tail) in
      let after_subject : List ℕ = after_space (term.Iri i) after_predicate in
      let u_predicate : IsUtf8 after_predicate = space_utf8 o (32 ∷ tail) ho u in
      let u_subject : IsUtf8 after_subject = space_utf8 (term.Iri i) after_predicate hi u_predicate in
      let r : NodeSays place.Start n xs s (iri_text i ++ after_predicate) = node_says place.Start n xs (blanks_in o ++ more) s (iri_text i ++ after_predicate) hs ns refl e a in
      let m : Numbering = r.behind in
      let one_on : Comes (at place.Start n qs (term_text s ++ after_subject)) (at (place.Subject (node_of given s)) m qs after_subject) =
      at_once place.Start n m qs (term_text s) after_subject (part_for given s) r.says u_subject
      (record { place = place.Subject (node_of given s); labels = m; quads = qs }) (ap (λ z. placed qs m z) (as_subject s ns)) in
      let two_on : Comes (at (place.Subject (node_of given s)) m qs after_subject) (at (place.Predicate (node_of given s) i) m qs after_predicate) =
      behind_one_space (place.Subject (node_of given s)) m m qs (iri_text i) after_predicate (part.Iri i) (iri_says (place.Subject (node_of given s)) m i after_predicate hi.0 hi.1) u_predicate
      (record { place = place.Predicate (node_of given s) i; labels = m; quads = qs }) refl in
      let object = object_read m (xs ++ blanks_in s) more qs (node_of given s) i o tail ho u (e ∙ sym (append_assoc (xs ++ blanks_in s) (blanks_in o) more)) r.agrees in
      record {
        reached = object.reached;
        numbers = object.numbers;
        comes = joined (at place.Start n qs (term_text s ++ after_subject)) (at (place.Subject (node_of given s)) m qs after_subject) (at object.reached object.numbers qs (32 ∷ tail)) one_on
            (joined (at (place.Subject (node_of given s)) m qs after_subject) (at (place.Predicate (node_of given s) i) m qs after_predicate) (at object.reached object.numbers qs (32 ∷ tail)) two_on object.comes);
        behind = object.behind;
        agrees = object.agrees;
      }

  pub record LineRead (n : Numbering) (qs : List Statement) (xs : List ℕ) (q : Statement) (rest : List ℕ) : Type 0 where
    pub numbers : Numbering
    pub comes : Comes (at place.Start n qs (line_then q rest)) (at place.Start numbers (qs ++ renumbered given q ∷ []) rest)
    pub agrees : Agrees first (xs ++ blanks_of q) numbers

  -- ` .` and LF, after which the statement is read
  closing : (p : StatementState) (n : Numbering) (qs : List Statement) (rest : List ℕ) (q : Statement) → after p part.Dot ≡ Ok (next.Quad q) → IsUtf8 rest
      → Comes (at p n qs (32 ∷ 46 ∷ 10 ∷ rest)) (at place.Start n (qs ++ q ∷ []) rest)
  closing p n qs rest q e u =
      let ends : IsUtf8 (10 ∷ rest) = ascii_text 10 (omega arith) rest u in
      joined (at p n qs (32 ∷ 46 ∷ 10 ∷ rest)) (at place.Done n (qs ++ q ∷ []) (10 ∷ rest)) (at place.Start n (qs ++ q ∷ []) rest)
      (behind_one_space p n n qs (46 ∷ []) (10 ∷ rest) part.Dot (dot_says p n (10 ∷ rest)) ends (record { place = place.Done; labels = n; quads = qs ++ q ∷ [] }) (ap (λ z. placed qs n z) e))
      (at_once place.Done n n (qs ++ q ∷ []) (10 ∷ []) rest part.LineEnd (end_says place.Done n rest) u (record { place = place.Start; labels = n; quads = qs ++ q ∷ [] }) refl)

  line_without_name : (n : Numbering) (qs : List Statement) (xs more : List ℕ) (s : Term) (i : List ℕ) (o : Term) (rest : List ℕ) → let q : Statement = record { graph = None; subject = s; predicate = term.Iri i; object = o } in
      IsTerm s → is_node s ≡ true → IsTerm (term.Iri i) → IsTerm o → IsUtf8 rest → all ≡ (xs ++ blanks_of q) ++ more → Agrees first xs n → LineRead n qs xs q rest
  unfolding line_then
  line_without_name n qs xs more s i o rest hs ns hi ho u e a =
      let q : Statement = record { graph = None; subject = s; predicate = term.Iri i; object = o } in
      let dot : IsUtf8 (32 ∷ 46 ∷ 10 ∷ rest) = ascii_text 32 (omega arith) (46 ∷ 10 ∷ rest) (ascii_text 46 (omega arith) (10 ∷ rest) (ascii_text 10 (omega arith) rest u)) in
      let head : Head n qs xs s i o (46 ∷ 10 ∷ rest) = head_read n qs xs more s i o (46 ∷ 10 ∷ rest) hs ns hi ho dot (e ∙ (first_more xs (blanks_in s) (blanks_in o) [] more ∙ ap (λ z. (xs ++ blanks_in s) ++ (z ++ more)) (append-nil (blanks_in o)))) a in
      let same_quad : statement (node_of given s) i (renumbered_term given o) None ≡ renumbered given q =
      ap (λ z. let w : Statement = record { graph = None; subject = z; predicate = term.Iri i; object = renumbered_term given o } in w) (node_renamed s ns) in
      record {
        numbers = head.numbers;
        comes = joined (at place.Start n qs (line_then q rest)) (at head.reached head.numbers qs (32 ∷ 46 ∷ 10 ∷ rest)) (at place.Start head.numbers (qs ++ renumbered given q ∷ []) rest) head.comes
            (closing head.reached head.numbers qs rest (renumbered given q) (head.behind.dot ∙ ap (λ z. Ok (next.Quad z)) same_quad) u);
        agrees = subst (λ z. Agrees first z head.numbers) (sym (append-nil ((xs ++ blanks_in s) ++ blanks_in o)) ∙ all_three xs (blanks_in s) (blanks_in o) []) head.agrees;
      }

  line_with_name : (n : Numbering) (qs : List Statement) (xs more : List ℕ) (g s : Term) (i : List ℕ) (o : Term) (rest : List ℕ) → let q : Statement = record { graph = Some g; subject = s; predicate = term.Iri i; object = o } in
      IsTerm g → is_node g ≡ true → IsTerm s → is_node s ≡ true → IsTerm (term.Iri i) → IsTerm o → IsUtf8 rest → all ≡ (xs ++ blanks_of q) ++ more → Agrees first xs n → LineRead n qs xs q rest
  unfolding line_then
  line_with_name n qs xs more g s i o rest hg ng hs ns hi ho u e a =
      let q : Statement = record { graph = Some g; subject = s; predicate = term.Iri i; object = o } in
      let dot : IsUtf8 (32 ∷ 46 ∷ 10 ∷ rest) = ascii_text 32 (omega arith) (46 ∷ 10 ∷ rest) (ascii_text 46 (omega arith) (10 ∷ rest) (ascii_text 10 (omega arith) rest u)) in
      let tail : List ℕ = term_text g ++ 32 ∷ 46 ∷ 10 ∷ rest in
      let head : Head n qs xs s i o tail = head_read n qs xs (blanks_in g ++ more) s i o tail hs ns hi ho (space_utf8 g (32 ∷ 46 ∷ 10 ∷ rest) hg dot)
      (e ∙ (first_more xs (blanks_in s) (blanks_in o) (blanks_in g) more ∙ ap (λ z. (xs ++ blanks_in s) ++ z) (append_assoc (blanks_in o) (blanks_in g) more))) a in
      let name : NodeSays head.reached head.numbers ((xs ++ blanks_in s) ++ blanks_in o) g (46 ∷ 10 ∷ rest) =
      node_says head.reached head.numbers ((xs ++ blanks_in s) ++ blanks_in o) more g (46 ∷ 10 ∷ rest) hg ng head.behind.takes (e ∙ third_more xs (blanks_in s) (blanks_in o) (blanks_in g) more) head.agrees in
      let label_place : StatementState = place.Label (node_of given s) i (renumbered_term given o) (node_of given g) in
      let at_name : Comes (at head.reached head.numbers qs (32 ∷ tail)) (at label_place name.behind qs (32 ∷ 46 ∷ 10 ∷ rest)) =
      behind_one_space head.reached head.numbers name.behind qs (term_text g) (32 ∷ 46 ∷ 10 ∷ rest) (part_for given g) name.says dot
      (record { place = label_place; labels = name.behind; quads = qs })
      (ap (λ z. placed qs name.behind z) (head.behind.name (part_for given g) (node_of given g) (as_label (node_of given s) i (renumbered_term given o) g ng))) in
      let same_quad : statement (node_of given s) i (renumbered_term given o) (Some (node_of given g)) ≡ renumbered given q =
      ap₂ (λ (y z : Term). let w : Statement = record { graph = Some y; subject = z; predicate = term.Iri i; object = renumbered_term given o } in w) (node_renamed g ng) (node_renamed s ns) in
      record {
        numbers = name.behind;
        comes = joined (at place.Start n qs (line_then q rest)) (at head.reached head.numbers qs (32 ∷ tail)) (at place.Start name.behind (qs ++ renumbered given q ∷ []) rest) head.comes
            (joined (at head.reached head.numbers qs (32 ∷ tail)) (at label_place name.behind qs (32 ∷ 46 ∷ 10 ∷ rest)) (at place.Start name.behind (qs ++ renumbered given q ∷ []) rest) at_name
            (closing label_place name.behind qs rest (renumbered given q) (ap (λ z. Ok (next.Quad z)) same_quad) u));
        agrees = subst (λ z. Agrees first z name.behind) (all_three xs (blanks_in s) (blanks_in o) (blanks_in g)) name.agrees;
      }

  name_read : (n : Numbering) (qs : List Statement) (xs more : List ℕ) (g : Option Term) (s : Term) (i : List ℕ) (o : Term) (rest : List ℕ) → let q : Statement = record { graph = g; subject = s; predicate = term.Iri i; object = o } in
      IsName g → is_graph g ≡ true → IsTerm s → is_node s ≡ true → IsTerm (term.Iri i) → IsTerm o → IsUtf8 rest → all ≡ (xs ++ blanks_of q) ++ more → Agrees first xs n → LineRead n qs xs q rest
  name_read n qs xs more None s i o rest hg ng hs ns hi ho u e a = line_without_name n qs xs more s i o rest hs ns hi ho u e a
  name_read n qs xs more (Some g) s i o rest hg ng hs ns hi ho u e a = line_with_name n qs xs more g s i o rest hg ng hs ns hi ho u e a

  predicate_read : (n : Numbering) (qs : List Statement) (xs more : List ℕ) (g : Option Term) (s p o : Term) (rest : List ℕ) → let q : Statement = record { graph = g; subject = s; predicate = p; object = o } in
      IsName g → is_graph g ≡ true → IsTerm s → is_node s ≡ true → IsTerm p → is_iri p ≡ true → IsTerm o → IsUtf8 rest → all ≡ (xs ++ blanks_of q) ++ more → Agrees first xs n → LineRead n qs xs q rest
  predicate_read n qs xs more g s (term.Iri i) o rest hg ng hs ns hp np ho u e a = name_read n qs xs more g s i o rest hg ng hs ns hp ho u e a
  predicate_read n qs xs more g s (term.Blank b) o rest hg ng hs ns hp np ho u e a = absurd (true≢false (sym np))
  predicate_read n qs xs more g s (term.Literal l) o rest hg ng hs ns hp np ho u e a = absurd (true≢false (sym np))

  -- a line is read to its statement, with the numbers of its blank nodes
  pub line_read : (n : Numbering) (qs : List Statement) (xs more : List ℕ) (q : Statement) (rest : List ℕ) → IsQuad q → IsUtf8 rest → all ≡ (xs ++ blanks_of q) ++ more → Agrees first xs n → LineRead n qs xs q rest
  line_read n qs xs more q rest h u e a =
      let f : (is_graph q.graph ≡ true) × ((is_node q.subject && is_iri q.predicate) ≡ true) = and_parts _ _ h.fits in
      let g : (is_node q.subject ≡ true) × (is_iri q.predicate ≡ true) = and_parts _ _ f.1 in
      predicate_read n qs xs more q.graph q.subject q.predicate q.object rest h.graph f.0 h.subject g.0 h.predicate g.1 h.object u e a

pub line_utf8 : (q : Statement) (rest : List ℕ) → IsQuad q → IsUtf8 rest → IsUtf8 (line_then q rest)
unfolding line_then
line_utf8 q rest h u =
    let dot : IsUtf8 (32 ∷ 46 ∷ 10 ∷ rest) = ascii_text 32 (omega arith) (46 ∷ 10 ∷ rest) (ascii_text 46 (omega arith) (10 ∷ rest) (ascii_text 10 (omega arith) rest u)) in
    IsUtf8-append (term_text q.subject) (after_space q.predicate (after_space q.object (with_graph q.graph (32 ∷ 46 ∷ 10 ∷ rest)))) (term_utf8 q.subject h.subject)
    (space_utf8 q.predicate (after_space q.object (with_graph q.graph (32 ∷ 46 ∷ 10 ∷ rest))) h.predicate (space_utf8 q.object (with_graph q.graph (32 ∷ 46 ∷ 10 ∷ rest)) h.object (graph_utf8 q.graph (32 ∷ 46 ∷ 10 ∷ rest) h.graph dot)))
