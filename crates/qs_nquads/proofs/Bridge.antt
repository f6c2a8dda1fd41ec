-- Reading a text a token at a time results in what the grammar of its tokens says.
use Rattle.std.proofs.Common.{◌≡◌, ◌⊎◌, inl, inr, ℕ, Bool, true, false, List, [], ◌∷◌, ◌++◌, Result, Ok, Err, refl, sym, ap, ◌∙◌, subst, IsUtf8, chars, encode_utf8_all}
use Rattle.std.specs.Prelude.{if◌then◌else◌}
use Rattle.std.specs.Str.{all_scalars}
use Rattle.std.proofs.lemmas.Str.{chars-encodes}
use Rattle.qs_lex_regular.specs.Longest.{LongestFront}
use Rattle.qs_terms.specs.Statement.{Statement}
use Rattle.qs_nquads.specs.Document.{IsDocument}
use Rattle.qs_nquads.specs.Gap.{skip}
use Rattle.qs_nquads.specs.inner.Gap.{behind_gap}
use Rattle.qs_nquads.specs.Labels.{Numbering, number, from}
use Rattle.qs_nquads.specs.Nquads.{Reads, IsNquads}
use Rattle.qs_nquads.specs.Part.{said}
use Rattle.qs_nquads.specs.Table.{table}
use Rattle.qs_nquads.specs.inner.Next.{Next}
use Rattle.qs_nquads.specs.inner.Next as next
use Rattle.qs_nquads.specs.inner.Outcome.{ReadsAll}
use Rattle.qs_nquads.specs.inner.PartAt.{part_of}
use Rattle.qs_nquads.specs.inner.Reading.{Reading, State, start, goes, ends, stops, stepped, step, read, taken, placed, Comes, here, on}
use Rattle.qs_nquads.specs.inner.StatementState.{after, may_end}
use Rattle.qs_nquads.specs.declared.class.Class.{Class}
use Rattle.qs_nquads.specs.declared.fault.NqFaultKind.{NqFaultKind}
use Rattle.qs_nquads.specs.declared.fault.NqFaultKind.TheVariants as fault
use Rattle.qs_nquads.specs.declared.part.Part.{Part}
use Rattle.qs_nquads.specs.declared.statement_state.StatementState.{StatementState}
use Rattle.qs_nquads.proofs.Documents.{At, at, begin, arrive, Runs, runs_append, document_runs, runs_document}
use Rattle.qs_nquads.proofs.TextTokens.{state_of, at_place, is_said, rest_scalars, by_token, by_none, by_end, Cases, cases}

-- ---- what is read of a front

abbrev pub now : At → Numbering → Reading
now a n = record { place = a.place; labels = n; quads = a.quads }

abbrev pub Made : Type 0
Made = Result (Part × Numbering) NqFaultKind

abbrev Placed : Type 0
Placed = Result Next NqFaultKind

arrived : (quads : List Statement) (o : Numbering) (m : Next) → placed quads o (Ok m) ≡ Ok (now (arrive quads m) o)
arrived quads o (next.StatementState p) = refl
arrived quads o (next.Quad q) = refl

module _ (a : At) (n : Numbering) (k : Class) (x : List ℕ) where
  read_part : (p : Part) (o : Numbering) → part_of a.place n k x ≡ Ok (p, o) → read (now a n) k x ≡ placed a.quads o (after a.place p)
  read_part p o e = ap (λ z. taken a.place a.quads z) e

  pub read_ok : (p : Part) (o : Numbering) (m : Next) → part_of a.place n k x ≡ Ok (p, o) → after a.place p ≡ Ok m → read (now a n) k x ≡ Ok (now (arrive a.quads m) o)
  read_ok p o m e h = read_part p o e ∙ (ap (λ z. placed a.quads o z) h ∙ arrived a.quads o m)

  pub read_err : (g : NqFaultKind) → part_of a.place n k x ≡ Err g → read (now a n) k x ≡ Err g
  read_err g e = ap (λ z. taken a.place a.quads z) e

  pub read_misplaced : (p : Part) (o : Numbering) (g : NqFaultKind) → part_of a.place n k x ≡ Ok (p, o) → after a.place p ≡ Err g → read (now a n) k x ≡ Err g
  read_misplaced p o g e h = read_part p o e ∙ ap (λ z. placed a.quads o z) h

  -- it makes a part that goes on, a part that has no place, or none
  pub record GoesOn : Type 0 where
    pub part : Part
    pub labels : Numbering
    pub next : Next
    pub made : part_of a.place n k x ≡ Ok (part, labels)
    pub goes_on : after a.place part ≡ Ok next

  pub record Misplaced (g : NqFaultKind) : Type 0 where
    pub part : Part
    pub labels : Numbering
    pub made : part_of a.place n k x ≡ Ok (part, labels)
    pub fails : after a.place part ≡ Err g

  abbrev pub Readable : Type 0
  Readable = GoesOn ⊎ ((g : NqFaultKind) × (Misplaced g ⊎ (part_of a.place n k x ≡ Err g)))

  pub readable : Readable
  readable = by (part_of a.place n k x) refl where
    at_part : (p : Part) (o : Numbering) (r : Placed) → part_of a.place n k x ≡ Ok (p, o) → after a.place p ≡ r → Readable
    at_part p o (Ok m) e h = inl (record { part = p; labels = o; next = m; made = e; goes_on = h })
    at_part p o (Err g) e h = inr (g, inl (record { part = p; labels = o; made = e; fails = h }))

    by : (r : Made) → part_of a.place n k x ≡ r → Readable
    by (Ok t) e = at_part t.0 t.1 (after a.place t.0) e refl
    by (Err g) e = inr (g, inr e)

-- ---- steps are apart

goes_one : (s t : State) → goes s ≡ goes t → s ≡ t
goes_one s t e = cc

pub stops_goes : (f : NqFaultKind) (rest : List ℕ) (s : State) → stops f rest ≡ goes s → ⊥
stops_goes f rest s e = cc

pub goes_stops : (f : NqFaultKind) (rest : List ℕ) (s : State) → goes s ≡ stops f rest → ⊥
goes_stops f rest s e = cc

ends_goes : (s : State) → ends ≡ goes s → ⊥
ends_goes s e = cc

pub ends_stops : (f : NqFaultKind) (rest : List ℕ) → ends ≡ stops f rest → ⊥
ends_stops f rest e = cc

goes_ends : (s : State) → goes s ≡ ends → ⊥
goes_ends s e = cc

stops_ends : (f : NqFaultKind) (rest : List ℕ) → stops f rest ≡ ends → ⊥
stops_ends f rest e = cc

pub stops_kind : (f g : NqFaultKind) (x y : List ℕ) → stops f x ≡ stops g y → f ≡ g
stops_kind f g x y e = cc

pub stops_rest : (f g : NqFaultKind) (x y : List ℕ) → stops f x ≡ stops g y → x ≡ y
stops_rest f g x y e = cc

end_goes : (b : Bool) (s : State) → (if b then ends else stops fault.Shape []) ≡ goes s → ⊥
end_goes true s e = ends_goes s e
end_goes false s e = stops_goes fault.Shape [] s e

end_ends : (b : Bool) → (if b then ends else stops fault.Shape []) ≡ ends → b ≡ true
end_ends true e = refl
end_ends false e = absurd (stops_ends fault.Shape [] e)

pub end_stops : (b : Bool) (f : NqFaultKind) (x : List ℕ) → (if b then ends else stops fault.Shape []) ≡ stops f x → (b ≡ false) × (fault.Shape ≡ f) × ([] ≡ x)
end_stops true f x e = absurd (ends_stops f x e)
end_stops false f x e = (refl, stops_kind fault.Shape f [] x e, stops_rest fault.Shape f [] x e)

-- ---- one token

-- a token that goes on
pub record Token (a : At) (n : Numbering) (rest : List ℕ) (b : At) (o : Numbering) (more : List ℕ) : Type 0 where
  pub class : Class
  pub len : ℕ
  pub front : LongestFront table (skip false (chars rest)) class len
  pub part : Part
  pub next : Next
  pub says : said n class (encode_utf8_all front.front) ≡ Ok (part, o)
  pub goes_on : after a.place part ≡ Ok next
  pub place : b ≡ arrive a.quads next
  pub left : more ≡ encode_utf8_all front.rest

module _ (a : At) (n : Numbering) (rest : List ℕ) (u : IsUtf8 rest) where
  pub steps_to : (k : Class) (len : ℕ) (f : LongestFront table (skip false (chars rest)) k len) (p : Part) (o : Numbering) (m : Next) → said n k (encode_utf8_all f.front) ≡ Ok (p, o) → after a.place p ≡ Ok m
      → step (state_of a n rest) ≡ goes (state_of (arrive a.quads m) o (encode_utf8_all f.rest))
  steps_to k len f p o m e h =
      by_token rest u k len f a n
      ∙ ap (λ z. stepped (behind_gap rest) (encode_utf8_all f.rest) z) (read_ok a n k (encode_utf8_all f.front) p o m (at_place a.place n (encode_utf8_all f.front) k p o m e h) h)

  -- where it stops
  pub stops_by : (k : Class) (len : ℕ) (f : LongestFront table (skip false (chars rest)) k len) (g : NqFaultKind) → read (now a n) k (encode_utf8_all f.front) ≡ Err g
      → step (state_of a n rest) ≡ stops g (behind_gap rest)
  stops_by k len f g e = by_token rest u k len f a n ∙ ap (λ z. stepped (behind_gap rest) (encode_utf8_all f.rest) z) e

  abbrev pub Next_token : State → Type 0
  Next_token t = (b : At) × (o : Numbering) × (more : List ℕ) × Token a n rest b o more × (t ≡ state_of b o more)

  token_from : (k : Class) (len : ℕ) (f : LongestFront table (skip false (chars rest)) k len) (t : State) → step (state_of a n rest) ≡ goes t → Next_token t
  token_from k len f t e = by (readable a n k (encode_utf8_all f.front)) where
    stopped : (g : NqFaultKind) → read (now a n) k (encode_utf8_all f.front) ≡ Err g → Next_token t
    stopped g h = absurd (stops_goes g (behind_gap rest) t (sym (stops_by k len f g h) ∙ e))

    by : Readable a n k (encode_utf8_all f.front) → Next_token t
    by (inl g) =
        let says : said n k (encode_utf8_all f.front) ≡ Ok (g.part, g.labels) = is_said a.place n (encode_utf8_all f.front) k g.part g.labels g.made in (
          arrive a.quads g.next,
          g.labels,
          encode_utf8_all f.rest,
          record { class = k; len = len; front = f; part = g.part; next = g.next; says = says; goes_on = g.goes_on; place = refl; left = refl },
          sym (goes_one (state_of (arrive a.quads g.next) g.labels (encode_utf8_all f.rest)) t (sym (steps_to k len f g.part g.labels g.next says g.goes_on) ∙ e)),
        )
    by (inr (g, inl h)) = stopped g (read_misplaced a n k (encode_utf8_all f.front) h.part h.labels g h.made h.fails)
    by (inr (g, inr h)) = stopped g (read_err a n k (encode_utf8_all f.front) g h)

  pub token_of : (t : State) → step (state_of a n rest) ≡ goes t → Next_token t
  token_of t e = by (cases rest u) where
    by : Cases rest u → Next_token t
    by (inl z) = absurd (end_goes (may_end a.place) t (sym (by_end rest u a n z) ∙ e))
    by (inr (inl h)) = absurd (stops_goes fault.Token (behind_gap rest) t (sym (by_none rest u a n h.0 h.1) ∙ e))
    by (inr (inr (k, len, f))) = token_from k len f t e

-- ---- any number of tokens

reads_more : (cs : List ℕ) (n : Numbering) (ps : List Part) (m : Numbering) (mid : List ℕ) (p : Part) (o : Numbering) (k : Class) (len : ℕ) (f : LongestFront table (skip false mid) k len)
    → Reads cs n ps m mid → said m k (encode_utf8_all f.front) ≡ Ok (p, o) → Reads cs n (ps ++ p ∷ []) o f.rest
reads_more cs n [] m mid p o k len f h e =
    subst (λ z. Reads z n (p ∷ []) o f.rest) (sym h.1) (subst (λ z. Reads mid z (p ∷ []) o f.rest) (sym h.0) (k, len, f, o, e, (refl, refl)))
reads_more cs n (t ∷ ps) m mid p o k len f h e = (h.0, h.1, h.2, h.3, h.4, reads_more h.2.rest h.3 ps m mid p o k len f h.5 e)

-- what was read up to a state
pub record Been (bytes : List ℕ) (first : ℕ) (s : State) : Type 0 where
  pub parts : List Part
  pub place : At
  pub labels : Numbering
  pub rest : List ℕ
  pub utf8 : IsUtf8 rest
  pub state : s ≡ state_of place labels rest
  pub reads : Reads (chars bytes) (from first) parts labels (chars rest)
  pub runs : Runs begin parts place

module _ (bytes : List ℕ) (first : ℕ) (u : IsUtf8 bytes) where
  been_on : (s t : State) → Been bytes first s → step s ≡ goes t → Been bytes first t
  been_on s t b e = by (token_of b.place b.labels b.rest b.utf8 t (subst (λ z. step z ≡ goes t) b.state e)) where
    by : Next_token b.place b.labels b.rest b.utf8 t → Been bytes first t
    by (c, o, more, k, is) =
        let ok : all_scalars k.front.rest ≡ true = rest_scalars b.rest b.utf8 k.class k.len k.front in record {
          parts = b.parts ++ k.part ∷ [];
          place = c;
          labels = o;
          rest = more;
          utf8 = subst IsUtf8 (sym k.left) (k.front.rest, (ok, refl));
          state = is;
          reads =
              subst (λ z. Reads (chars bytes) (from first) (b.parts ++ k.part ∷ []) o z) (sym (ap chars k.left ∙ chars-encodes k.front.rest ok))
              (reads_more (chars bytes) (from first) b.parts b.labels (chars b.rest) k.part o k.class k.len k.front b.reads k.says);
          runs = runs_append begin b.place c b.parts (k.part ∷ []) b.runs (k.next, k.goes_on, sym k.place);
        }

  pub been : (s : State) → Comes (start first bytes) s → Been bytes first s
  been _ here = record { parts = []; place = begin; labels = from first; rest = bytes; utf8 = u; state = refl; reads = (refl, refl); runs = refl }
  been _ (on s t c e) = been_on s t (been s c) e

joined : (s t v : State) → Comes s t → Comes t v → Comes s v
joined s t _ c here = c
joined s t _ c (on v w d e) = on v w (joined s t v c d) e

-- what is read, and has its place, leads there
pub record ComesBy (a : At) (n : Numbering) (text : List ℕ) (b : At) (m : Numbering) (rest : List ℕ) : Type 0 where
  pub bytes : List ℕ
  pub utf8 : IsUtf8 bytes
  pub chars_are : chars bytes ≡ rest
  pub comes : Comes (state_of a n text) (state_of b m bytes)

comes_here : (a b : At) (n m : Numbering) (text rest : List ℕ) → IsUtf8 text → n ≡ m → chars text ≡ rest → a ≡ b → ComesBy a n text b m rest
comes_here a b n m text rest u e f g = record {
  bytes = text;
  utf8 = u;
  chars_are = f;
  comes = subst (λ z. Comes (state_of a n text) (state_of z m text)) g (subst (λ z. Comes (state_of a n text) (state_of a z text)) e here);
}

pub comes_by : (ps : List Part) (text : List ℕ) (n m : Numbering) (rest : List ℕ) (a b : At) → IsUtf8 text → Reads (chars text) n ps m rest → Runs a ps b → ComesBy a n text b m rest
comes_by [] text n m rest a b u h r = comes_here a b n m text rest u h.0 h.1 r
comes_by (p ∷ ps) text n m rest a b u (k, len, f, o, e, h) (x, g, r) =
    let ok : all_scalars f.rest ≡ true = rest_scalars text u k len f in
    let more : List ℕ = encode_utf8_all f.rest in
    let d : ComesBy (arrive a.quads x) o more b m rest =
    comes_by ps more o m rest (arrive a.quads x) b (f.rest, (ok, refl)) (subst (λ z. Reads z o ps m rest) (sym (chars-encodes f.rest ok)) h) r in record {
      bytes = d.bytes;
      utf8 = d.utf8;
      chars_are = d.chars_are;
      comes = joined (state_of a n text) (state_of (arrive a.quads x) o more) (state_of b m d.bytes) (on (state_of a n text) (state_of (arrive a.quads x) o more) here (steps_to a n text u k len f p o x e g)) d.comes;
    }

-- ---- what bytes say

pub at_one : (p q : StatementState) (xs ys : List Statement) → at p xs ≡ at q ys → (p ≡ q) × (xs ≡ ys)
at_one p q xs ys e = (ap (λ (z : At). z.place) e, ap (λ (z : At). z.quads) e)

end_from : (a : At) (n : Numbering) (rest : List ℕ) (u : IsUtf8 rest) → step (state_of a n rest) ≡ ends → (skip false (chars rest) ≡ []) × (may_end a.place ≡ true)
end_from a n rest u e = by (cases rest u) where
  by : Cases rest u → (skip false (chars rest) ≡ []) × (may_end a.place ≡ true)
  by (inl z) = (z, end_ends (may_end a.place) (sym (by_end rest u a n z) ∙ e))
  by (inr (inl h)) = absurd (stops_ends fault.Token (behind_gap rest) (sym (by_none rest u a n h.0 h.1) ∙ e))
  by (inr (inr (k, len, f))) = absurd (read_ends (readable a n k (encode_utf8_all f.front))) where
    stopped : (g : NqFaultKind) → read (now a n) k (encode_utf8_all f.front) ≡ Err g → ⊥
    stopped g h = stops_ends g (behind_gap rest) (sym (stops_by a n rest u k len f g h) ∙ e)

    read_ends : Readable a n k (encode_utf8_all f.front) → ⊥
    read_ends (inl g) =
        goes_ends (state_of (arrive a.quads g.next) g.labels (encode_utf8_all f.rest))
        (sym (steps_to a n rest u k len f g.part g.labels g.next (is_said a.place n (encode_utf8_all f.front) k g.part g.labels g.made) g.goes_on) ∙ e)
    read_ends (inr (g, inl h)) = stopped g (read_misplaced a n k (encode_utf8_all f.front) h.part h.labels g h.made h.fails)
    read_ends (inr (g, inr h)) = stopped g (read_err a n k (encode_utf8_all f.front) g h)

pub to_nquads : (bytes : List ℕ) (first : ℕ) (quads : List Statement) (next : ℕ) → ReadsAll bytes first quads next → IsNquads bytes first quads next
to_nquads bytes first quads next (u, (r, (rest, c, e), same, number)) = by (been bytes first u (record { reading = r; rest = rest }) c) where
  by : Been bytes first (record { reading = r; rest = rest }) → IsNquads bytes first quads next
  by b =
      let ended = end_from b.place b.labels b.rest b.utf8 (subst (λ z. step z ≡ ends) b.state e) in
      let here_quads : b.place.quads ≡ quads = ap (λ (z : State). z.reading.quads) (sym b.state) ∙ same in
      let here_next : b.labels.next ≡ next = ap (λ (z : State). z.reading.labels.next) (sym b.state) ∙ number in
      (u, (b.parts, b.labels, chars b.rest, b.reads, ended.0, subst (λ z. IsDocument b.parts z) here_quads (runs_document b.parts b.place.place b.place.quads b.runs ended.1), here_next))

pub from_nquads : (bytes : List ℕ) (first : ℕ) (quads : List Statement) (next : ℕ) → IsNquads bytes first quads next → ReadsAll bytes first quads next
from_nquads bytes first quads next (u, (ps, n, rest, h, empty, document, number)) = by (document_runs ps quads document) where
  by : (p : StatementState) × Runs begin ps (at p quads) × (may_end p ≡ true) → ReadsAll bytes first quads next
  by (p, r, e) =
      let c : ComesBy begin (from first) bytes (at p quads) n rest = comes_by ps bytes (from first) n rest begin (at p quads) u h r in
      let end : step (state_of (at p quads) n c.bytes) ≡ ends =
      by_end c.bytes c.utf8 (at p quads) n (ap (skip false) c.chars_are ∙ empty) ∙ ap (λ b. if b then ends else stops fault.Shape []) e in
      (u, (now (at p quads) n, (c.bytes, c.comes, end), refl, number))
