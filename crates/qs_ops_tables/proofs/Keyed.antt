-- What can't be compatible with a row is passed over.
use Rattle.std.proofs.Common.{◌≡◌, ◌≢◌, ◌⊎◌, inl, inr, ℕ, ◌+◌, ◌-◌, ◌<◌, ◌≤◌, Bool, true, false, eqb, List, [], ◌∷◌, length, drop, take, get_or, Option, Some, bit_and, subst, refl, sym, ap, ◌∙◌, arith, add-one, drop-cons}
use Rattle.std.proofs.lemmas.Bool.Decides.{eqb_tells}
use Rattle.std.proofs.Math.ListN.{length-set, set}
use Rattle.std.proofs.lemmas.List.{get_or-set_same, get_or-set_other, get_or_read, drop_all, take_all}
use Rattle.std.proofs.lemmas.Nat.{and_le_r}
use Rattle.qs_ops_tables.specs.declared.index.Link.{Link}
use Rattle.qs_expr.specs.inner.Cell.{Cells}
use Rattle.qs_expr.specs.inner.Row.{compatible_cells}
use Rattle.qs_ops_tables.specs.inner.Tables.{partners}
use Rattle.qs_ops_tables.specs.inner.Keys.{key_hash, no_link, link_at, row_at, head_at, IsHashOf, Passes, Skips, IsLink, IsIndexFrom, IsIndex, Meets, MeetsNone}
use Rattle.qs_ops_tables.proofs.Hashes.{apart}

pub front : (rows : List Cells) (i : ℕ) → i < length rows → drop i rows ≡ row_at rows i ∷ drop (i + 1) rows
front rows i h = rw add-one (drop-cons rows i [] h)

-- a row that is not compatible is passed over
alone : (r m : Cells) (rs : List Cells) → compatible_cells m r ≡ false → partners (r ∷ rs) m ≡ partners rs m
alone r m rs f = simp f

module _ (key : List ℕ) (rows : List Cells) where
  pub passes_none : (hash : Option ℕ) (i : ℕ) → Passes key hash rows i i
  passes_none hash i = record { forward = omega arith; same = λ m e. refl }

  pub passes_on : (hash : Option ℕ) (from mid to : ℕ) → Passes key hash rows from mid → Passes key hash rows mid to → Passes key hash rows from to
  passes_on hash from mid to p q = record { forward = let a : from ≤ mid = p.forward in let b : mid ≤ to = q.forward in omega arith; same = λ m e. p.same m e ∙ q.same m e }

  -- the rows of another bucket are passed over
  pub skips_passes : (mask hash from to : ℕ) → Skips key mask (bit_and hash mask) rows from to → Passes key (Some hash) rows from to
  skips_passes mask hash from to s = record { forward = s.forward; same = λ m e. s.same m hash e refl }

  -- a row of another hash is passed over
  pub passes_one : (hash other at : ℕ) → at < length rows → key_hash key (row_at rows at) ≡ Some other → (other ≡ hash → ⊥) → Passes key (Some hash) rows at (at + 1)
  passes_one hash other at h e q = record {
    forward = omega arith;
    same = λ m f. ap (λ rs. partners rs m) (front rows at h) ∙ alone (row_at rows at) m (drop (at + 1) rows) (apart key m (row_at rows at) hash other f e (λ z. q (sym z)));
  }

  skips_none : (mask bucket i : ℕ) → Skips key mask bucket rows i i
  skips_none mask bucket i = record { forward = omega arith; same = λ m hash e f. refl }

  skips_one : (mask bucket i other to : ℕ) → i < length rows → key_hash key (row_at rows i) ≡ Some other → (bit_and other mask ≡ bucket → ⊥) → Skips key mask bucket rows (i + 1) to → Skips key mask bucket rows i to
  skips_one mask bucket i other to h e q s = record {
    forward = let f : i + 1 ≤ to = s.forward in omega arith;
    same = λ m hash f g. over m hash f g;
  }
    where
      over : (m : Cells) (hash : ℕ) → key_hash key m ≡ Some hash → bit_and hash mask ≡ bucket → partners (drop i rows) m ≡ partners (drop to rows) m
      over m hash f g =
          ap (λ rs. partners rs m) (front rows i h)
          ∙ (alone (row_at rows i) m (drop (i + 1) rows) (apart key m (row_at rows i) hash other f e (λ z. q (ap (λ x. bit_and x mask) (sym z) ∙ g)))
          ∙ s.same m hash f g)

  -- ---- the index is made from the last row to the first

  pub index_begin : (mask : ℕ) (heads : List ℕ) (links : List Link) → length heads ≡ mask + 1 → length links ≡ length rows → ((b : ℕ) → b < length heads → head_at heads b ≡ length rows) → IsIndexFrom key mask rows heads links (length rows)
  index_begin mask heads links h k f = record {
    within = omega arith;
    buckets = h;
    links_all = k;
    heads_skip = λ b l. subst (λ to. Skips key mask b rows (length rows) to) (sym (f b l)) (skips_none mask b (length rows));
    each_link = λ j l m. absurd (omega arith);
  }

  pub index_step : (mask : ℕ) (heads : List ℕ) (links : List Link) (i hash : ℕ) → IsIndexFrom key mask rows heads links (i + 1) → i < length rows → key_hash key (row_at rows i) ≡ Some hash
      → IsIndexFrom key mask rows (set heads (bit_and hash mask) i) (set links i (record { hash = hash; next = head_at heads (bit_and hash mask) })) i
  index_step mask heads links i hash k h e = record {
    within = omega arith;
    buckets = simp length-set k.buckets;
    links_all = simp length-set k.links_all;
    heads_skip = λ b m. head b (simp length-set at m) (eqb_tells b (bit_and hash mask));
    each_link = λ j l m. link j l m (eqb_tells j i);
  }
    where
      below : bit_and hash mask < length heads
      below = omega (arith, and_le_r hash mask, k.buckets)

      head : (b : ℕ) → b < length heads → ((eqb b (bit_and hash mask) ≡ true) × (b ≡ bit_and hash mask)) ⊎ ((eqb b (bit_and hash mask) ≡ false) × (b ≢ bit_and hash mask)) → Skips key mask b rows i (head_at (set heads (bit_and hash mask) i) b)
      head b m (inl p) =
          let q : b ≡ bit_and hash mask = p.1 in
          subst (λ to. Skips key mask b rows i to) (sym (ap (λ x. head_at (set heads (bit_and hash mask) i) x) q ∙ get_or-set_same heads (bit_and hash mask) i 0 below)) (skips_none mask b i)
      head b m (inr p) =
          let q : b ≢ bit_and hash mask = p.1 in
          subst (λ to. Skips key mask b rows i to) (sym (get_or-set_other heads (bit_and hash mask) b i 0 q)) (skips_one mask b i hash (head_at heads b) h e (λ z. q (sym z)) (k.heads_skip b m))

      of_link : (j : ℕ) (l : Link) → link_at (set links i (record { hash = hash; next = head_at heads (bit_and hash mask) })) j ≡ l → key_hash key (row_at rows j) ≡ Some l.hash → Skips key mask (bit_and l.hash mask) rows (j + 1) l.next → IsLink key mask rows (set links i (record { hash = hash; next = head_at heads (bit_and hash mask) })) j
      of_link j l q a s = record {
        hash = a ∙ ap (λ (x : Link). Some x.hash) (sym q);
        next = subst (λ (x : Link). Skips key mask (bit_and x.hash mask) rows (j + 1) x.next) (sym q) s;
      }

      link : (j : ℕ) → i ≤ j → j < length rows → ((eqb j i ≡ true) × (j ≡ i)) ⊎ ((eqb j i ≡ false) × (j ≢ i)) → IsLink key mask rows (set links i (record { hash = hash; next = head_at heads (bit_and hash mask) })) j
      link j l m (inl p) =
          let q : j ≡ i = p.1 in
          let w : i < length links = omega (arith, k.links_all) in
          subst (λ x. IsLink key mask rows (set links i (record { hash = hash; next = head_at heads (bit_and hash mask) })) x) (sym q)
          (of_link i (record { hash = hash; next = head_at heads (bit_and hash mask) }) (get_or-set_same links i (record { hash = hash; next = head_at heads (bit_and hash mask) }) no_link w) e (k.heads_skip (bit_and hash mask) below))
      link j l m (inr p) =
          let q : j ≢ i = p.1 in
          let o : i + 1 ≤ j = omega arith in
          let s = k.each_link j o m in
          of_link j (link_at links j) (get_or-set_other links i j (record { hash = hash; next = head_at heads (bit_and hash mask) }) no_link q) s.hash s.next

  pub index_done : (mask : ℕ) (heads : List ℕ) (links : List Link) → IsIndexFrom key mask rows heads links 0 → IsIndex key mask rows heads links
  index_done mask heads links k = record { heads_skip = k.heads_skip; each_link = λ j l m. k.each_link j (omega arith) m }

  pub index_none : (mask : ℕ) (heads : List ℕ) (links : List Link) → heads ≡ [] → links ≡ [] → IsIndex key mask rows heads links
  index_none mask heads links e f = record {
    heads_skip = λ b l. let z : length heads ≡ 0 = ap length e in absurd (omega arith);
    each_link = λ j l m. let z : length links ≡ 0 = ap length f in absurd (omega arith);
  }

  pub index_back : (mask : ℕ) (heads : List ℕ) (links : List Link) (n hash : ℕ) (r : Cells) (next : ℕ) → IsIndexFrom key mask rows heads links n → 0 < n → r ≡ get_or rows (n - 1) r → key_hash key (take (length r) r) ≡ Some hash → next ≡ get_or heads (bit_and hash mask) next
      → IsIndexFrom key mask rows (set heads (bit_and hash mask) (n - 1)) (set links (n - 1) (record { hash = hash; next = next })) (n - 1)
  index_back mask heads links n hash r next k p e f g =
      let within : n ≤ length rows = k.within in
      let w : n ≡ (n - 1) + 1 = omega arith in
      let v : n - 1 < length rows = omega arith in
      let x : r ≡ row_at rows (n - 1) = get_or_read rows (n - 1) r v e [] in
      let y : next ≡ head_at heads (bit_and hash mask) = get_or_read heads (bit_and hash mask) next (omega (arith, and_le_r hash mask, k.buckets)) g 0 in
      let z : key_hash key (row_at rows (n - 1)) ≡ Some hash = ap (key_hash key) (sym x ∙ sym (take_all (length r) r (omega arith))) ∙ f in
      subst (λ o. IsIndexFrom key mask rows (set heads (bit_and hash mask) (n - 1)) (set links (n - 1) (record { hash = hash; next = o })) (n - 1)) (sym y)
      (index_step mask heads links (n - 1) hash (subst (IsIndexFrom key mask rows heads links) w k) v z)

  -- ---- what a row meets

  -- no row is left
  pub meets_none : (hash : Option ℕ) (at place : ℕ) → Passes key hash rows at place → length rows ≤ place → MeetsNone key hash rows at
  meets_none hash at place p h = record { none = λ m e. p.same m e ∙ ap (λ rs. partners rs m) (drop_all place rows h) }

  -- the row at the place, and those after another place
  pub meets : (hash : Option ℕ) (at place : ℕ) (r : Cells) (to : ℕ) → Passes key hash rows at place → place < length rows → r ≡ row_at rows place → Passes key hash rows (place + 1) to → Meets key hash rows at r to
  meets hash at place r to p h e q = record {
    within = let f : at ≤ place = p.forward in omega arith;
    forward = let f : at ≤ place = p.forward in let g : place + 1 ≤ to = q.forward in omega arith;
    same = λ m i. p.same m i ∙ (ap (λ rs. partners rs m) (front rows place h) ∙ over m (row_at rows place) i (sym e));
  }
    where
      both : (m : Cells) (xs ys : List Cells) (b : Bool) → compatible_cells m r ≡ b → partners xs m ≡ partners ys m → partners (r ∷ xs) m ≡ partners (r ∷ ys) m
      both m xs ys true f g = simp f (ap (λ l. r ∷ l) g)
      both m xs ys false f g = simp f g

      over : (m s : Cells) → IsHashOf key hash m → s ≡ r → partners (s ∷ drop (place + 1) rows) m ≡ partners (r ∷ drop to rows) m
      over m s i f = ap (λ x. partners (x ∷ drop (place + 1) rows) m) f ∙ both m (drop (place + 1) rows) (drop to rows) (compatible_cells m r) refl (q.same m i)

  -- a row of another hash is passed over, and then what its link leads past
  pub passes_further : (mask : ℕ) (heads : List ℕ) (links : List Link) (hash : Option ℕ) (h at place to : ℕ) (l : Link) → IsIndex key mask rows heads links → Passes key hash rows at place → hash ≡ Some h → place < length rows → place < length links → l ≡ link_at links place → (l.hash ≡ h → ⊥) → Passes key (Some h) rows (place + 1) to → Passes key hash rows at to
  passes_further mask heads links hash h at place to l x p e i j f q n =
      passes_on hash at place to p
      (subst (λ (o : Option ℕ). Passes key o rows place to) (sym e)
      (passes_on (Some h) place (place + 1) to (passes_one h l.hash place i ((x.each_link place j i).hash ∙ ap (λ (k : Link). Some k.hash) (sym f)) q) n))
