-- Blocks of pages, and the list of their pages.
use Rattle.std.proofs.Common.{Result, Ok, Err, cond, ◌≡◌, ℕ, ◌+◌, ◌-◌, ◌*◌, ◌/◌, ◌%◌, ◌<◌, ◌≤◌, min, List, [], ◌∷◌, ◌++◌, length, get_or, set, refl, ap, sym, ◌∙◌, arith, zero, suc, ⊎_elim, append_assoc, length-append, add-one}
use Rattle.std.specs.List.{insert, remove}
use Rattle.std.specs.Result.{IsOk, is_ok}
use Rattle.std.proofs.lemmas.Bool.{cases_order, false≢true}
use Rattle.std.proofs.lemmas.List.{set_comm, get_or_append_left, get_or-append-add, set-append_left, get_or_read, length-set}
use Rattle.std.proofs.lemmas.List.Edits.{length-insert, length-remove}
use Rattle.qs_index.specs.inner.Layout.{page_at}
use Rattle.qs_index.specs.inner.PageBlocks.{flat, block_at, gap_at, HasGap, IsTiered}

abbrev Block' : Type 0
Block' = List (List (List ℕ))

-- a page moved over the border of two blocks
flat_moved : (blocks : List Block') (k : ℕ) (low up low' up' : Block') → suc k < length blocks → get_or blocks k [] ≡ low → get_or blocks (suc k) [] ≡ up → low' ++ up' ≡ low ++ up → flat (set (set blocks k low') (suc k) up') ≡ flat blocks
flat_moved [] k low up low' up' h l u e = absurd (omega (arith, h))
flat_moved (p ∷ []) zero low up low' up' h l u e = absurd (omega (arith, h))
flat_moved (p ∷ q ∷ rest) zero low up low' up' h l u e =
    sym (append_assoc low' up' (flat rest)) ∙ ap (λ r. r ++ flat rest) (e ∙ ap (λ r. r ++ up) (sym l) ∙ ap (λ r. p ++ r) (sym u)) ∙ append_assoc p q (flat rest)
flat_moved (p ∷ rest) (suc k) low up low' up' h l u e = ap (λ r. p ++ r) (flat_moved rest k low up low' up' (omega (arith, h)) l u e)

pub flat_up : (blocks : List Block') (k : ℕ) (low up : Block') (page : List (List ℕ)) → k + 1 < length blocks → get_or blocks k [] ≡ low ++ page ∷ [] → get_or blocks (k + 1) [] ≡ up → flat (set (set blocks k low) (k + 1) (page ∷ up)) ≡ flat blocks
flat_up blocks k low up page h l u =
    rw (add-one k) (flat_moved blocks k (low ++ page ∷ []) up low (page ∷ up) (omega (arith, h)) l (ap (λ i. get_or blocks i []) (sym (add-one k)) ∙ u) (sym (append_assoc low (page ∷ []) up)))

gap_moved : (blocks : List Block') (k j : ℕ) (low up : Block') → suc k < length blocks → length low + 1 ≡ length (get_or blocks k []) → length up ≡ length (get_or blocks (suc k) []) + 1 → length (get_or (set (set blocks k low) (suc k) up) j []) + gap_at j k ≡ length (get_or blocks j []) + gap_at j (suc k)
gap_moved [] k j low up h l u = absurd (omega (arith, h))
gap_moved (p ∷ []) zero j low up h l u = absurd (omega (arith, h))
gap_moved (p ∷ q ∷ rest) zero zero low up h l u = omega (arith, l)
gap_moved (p ∷ q ∷ rest) zero (suc zero) low up h l u = omega (arith, u)
gap_moved (p ∷ q ∷ rest) zero (suc (suc j)) low up h l u = refl
gap_moved (p ∷ rest) (suc k) zero low up h l u = refl
gap_moved (p ∷ rest) (suc k) (suc j) low up h l u = gap_moved rest k j low up (omega (arith, h)) l u

pub gap_up : (blocks : List Block') (k j : ℕ) (low up : Block') (page : List (List ℕ)) → k + 1 < length blocks → get_or blocks k [] ≡ low ++ page ∷ [] → get_or blocks (k + 1) [] ≡ up → length (get_or (set (set blocks k low) (k + 1) (page ∷ up)) j []) + gap_at j k ≡ length (get_or blocks j []) + gap_at j (k + 1)
gap_up blocks k j low up page h l u =
    let a = ap length l ∙ length-append low (page ∷ []) in
    let b : length (get_or blocks (suc k) []) ≡ length up = ap (λ i. length (get_or blocks i [])) (sym (add-one k)) ∙ ap length u in
    rw (add-one k) (gap_moved blocks k j low (page ∷ up) (omega (arith, h)) (omega arith) (omega arith))

gap_moved_back : (blocks : List Block') (k j : ℕ) (low up : Block') → suc k < length blocks → length low ≡ length (get_or blocks k []) + 1 → length up + 1 ≡ length (get_or blocks (suc k) []) → length (get_or (set (set blocks k low) (suc k) up) j []) + gap_at j (suc k) ≡ length (get_or blocks j []) + gap_at j k
gap_moved_back [] k j low up h l u = absurd (omega (arith, h))
gap_moved_back (p ∷ []) zero j low up h l u = absurd (omega (arith, h))
gap_moved_back (p ∷ q ∷ rest) zero zero low up h l u = omega (arith, l)
gap_moved_back (p ∷ q ∷ rest) zero (suc zero) low up h l u = omega (arith, u)
gap_moved_back (p ∷ q ∷ rest) zero (suc (suc j)) low up h l u = refl
gap_moved_back (p ∷ rest) (suc k) zero low up h l u = refl
gap_moved_back (p ∷ rest) (suc k) (suc j) low up h l u = gap_moved_back rest k j low up (omega (arith, h)) l u

in_turn : (blocks : List Block') (k : ℕ) (low up : Block') → set (set blocks (k + 1) up) k low ≡ set (set blocks k low) (k + 1) up
in_turn blocks k low up = set_comm blocks (k + 1) k up low (λ e. absurd (omega (arith, e)))

pub flat_down : (blocks : List Block') (k : ℕ) (low up : Block') (page : List (List ℕ)) → k + 1 < length blocks → get_or blocks k [] ≡ low → get_or blocks (k + 1) [] ≡ page ∷ up → flat (set (set blocks (k + 1) up) k (low ++ page ∷ [])) ≡ flat blocks
flat_down blocks k low up page h l u =
    ap flat (in_turn blocks k (low ++ page ∷ []) up)
    ∙ rw (add-one k) (flat_moved blocks k low (page ∷ up) (low ++ page ∷ []) up (omega (arith, h)) l (ap (λ i. get_or blocks i []) (sym (add-one k)) ∙ u) (append_assoc low (page ∷ []) up))

pub gap_down : (blocks : List Block') (k j : ℕ) (low up : Block') (page : List (List ℕ)) → k + 1 < length blocks → get_or blocks k [] ≡ low → get_or blocks (k + 1) [] ≡ page ∷ up → length (get_or (set (set blocks (k + 1) up) k (low ++ page ∷ [])) j []) + gap_at j (k + 1) ≡ length (get_or blocks j []) + gap_at j k
gap_down blocks k j low up page h l u =
    let a = ap length l in
    let n = length-append low (page ∷ []) in
    let b : length (get_or blocks (suc k) []) ≡ length up + 1 = ap (λ i. length (get_or blocks i [])) (sym (add-one k)) ∙ ap length u ∙ omega arith in
    rw (in_turn blocks k (low ++ page ∷ []) up, add-one k) (gap_moved_back blocks k j (low ++ page ∷ []) up (omega (arith, h)) (omega arith) (omega arith))

gap_self : (k : ℕ) → gap_at k k ≡ 1
gap_self zero = refl
gap_self (suc k) = gap_self k

pub gap_below : (j k : ℕ) → j < k → gap_at j k ≡ 0
gap_below zero zero h = absurd (omega (arith, h))
gap_below zero (suc k) h = refl
gap_below (suc j) zero h = refl
gap_below (suc j) (suc k) h = gap_below j k (omega (arith, h))

pub gap_above : (j k : ℕ) → k < j → gap_at j k ≡ 0
gap_above zero zero h = absurd (omega (arith, h))
gap_above zero (suc k) h = refl
gap_above (suc j) zero h = refl
gap_above (suc j) (suc k) h = gap_above j k (omega (arith, h))

pub gap_at_same : (j k : ℕ) → j ≡ k → gap_at j k ≡ 1
gap_at_same j k e = ap (λ i. gap_at i k) e ∙ gap_self k

at_block : {A : Type 0} (j k : ℕ) → (j < k → A) → (j ≡ k → A) → (k < j → A) → A
at_block j k l s m = ⊎_elim s (λ h. ⊎_elim l m h) (cases_order j k)

-- a full list of blocks with a page more has its gap after the last page
pub gap_start : (j count q m : ℕ) → 256 * q ≤ count → count < 256 * q + 256 → m ≡ min 256 (count - 256 * j) → m + gap_at j q ≡ min 256 (count + 1 - 256 * j)
gap_start j count q m l h e = at_block j q (λ o. let g = gap_below j q o in omega arith) (λ o. let g = gap_at_same j q o in omega arith) (λ o. let g = gap_above j q o in omega arith)

pub gap_end : (j count q m : ℕ) → 256 * q < count → count ≤ 256 * q + 256 → m + gap_at j q ≡ min 256 (count - 256 * j) → m ≡ min 256 (count - 1 - 256 * j)
gap_end j count q m l h e = at_block j q (λ o. let g = gap_below j q o in omega arith) (λ o. let g = gap_at_same j q o in omega arith) (λ o. let g = gap_above j q o in omega arith)

-- the blocks in front of k are full
abbrev pub AreFull : List Block' → ℕ → Type 0
AreFull blocks k = (i : ℕ) → i < k → length (get_or blocks i []) ≡ 256

pub full_before : (blocks : List Block') (k count : ℕ) → ((j : ℕ) → length (block_at blocks j) ≡ min 256 (count - 256 * j)) → 256 * k ≤ count → AreFull blocks k
full_before blocks k count f h = λ i l. let e = f i in omega (arith, l, h)

pub full_before_gap : (blocks : List Block') (k count : ℕ) → HasGap blocks k count → 256 * k ≤ count → AreFull blocks k
full_before_gap blocks k count f h = λ i l. let e = f i in let g = gap_below i k l in omega (arith, l, h)

pub flat_read : (blocks : List Block') (k j n : ℕ) → n ≡ 256 * k + j → AreFull blocks k → k < length blocks → j < length (get_or blocks k []) → get_or (flat blocks) n [] ≡ get_or (get_or blocks k []) j []
flat_read [] k j n e f h l = absurd (omega (arith, h))
flat_read (b ∷ bs) zero j n e f h l = ap (λ i. get_or (b ++ flat bs) i []) (same_number n j (omega (arith, e))) ∙ get_or_append_left b (flat bs) [] j l
  where
    same_number : (n j : ℕ) → n ≡ j → n ≡ j
    same_number n j e = e
flat_read (b ∷ bs) (suc k) j n e f h l =
    let full : length b ≡ 256 = f 0 (omega arith) in
    let there : n ≡ length b + (n - 256) = omega (arith, e, full) in
    ap (λ i. get_or (b ++ flat bs) i []) there ∙ get_or-append-add b (flat bs) (n - 256) [] ∙ flat_read bs k j (n - 256) (omega (arith, e)) (λ i o. f (suc i) (omega (arith, o))) (omega (arith, h)) l

insert_within : (b r : Block') (j : ℕ) (x : List (List ℕ)) → j ≤ length b → insert (b ++ r) j x ≡ insert b j x ++ r
insert_within b r zero x h = refl
insert_within [] r (suc j) x h = absurd (omega (arith, h))
insert_within (y ∷ b) r (suc j) x h = ap (λ t. y ∷ t) (insert_within b r j x (omega (arith, h)))

insert_behind : (b r : Block') (m n : ℕ) (x : List (List ℕ)) → m ≡ length b + n → insert (b ++ r) m x ≡ b ++ insert r n x
insert_behind [] r m n x e = let s : m ≡ n = omega (arith, e) in ap (λ i. insert r i x) s
insert_behind (y ∷ b) r zero n x e = absurd (omega (arith, e))
insert_behind (y ∷ b) r (suc m) n x e = ap (λ t. y ∷ t) (insert_behind b r m n x (omega (arith, e)))

pub flat_insert : (blocks : List Block') (k j n : ℕ) (x : List (List ℕ)) → n ≡ 256 * k + j → AreFull blocks k → k < length blocks → j ≤ length (get_or blocks k []) → flat (set blocks k (insert (get_or blocks k []) j x)) ≡ insert (flat blocks) n x
flat_insert [] k j n x e f h l = absurd (omega (arith, h))
flat_insert (b ∷ bs) zero j n x e f h l = let s : j ≡ n = omega (arith, e) in sym (insert_within b (flat bs) j x l) ∙ ap (λ i. insert (b ++ flat bs) i x) s
flat_insert (b ∷ bs) (suc k) j n x e f h l =
    let full : length b ≡ 256 = f 0 (omega arith) in
    ap (λ r. b ++ r) (flat_insert bs k j (n - 256) x (omega (arith, e)) (λ i o. f (suc i) (omega (arith, o))) (omega (arith, h)) l) ∙ sym (insert_behind b (flat bs) n (n - 256) x (omega (arith, e, full)))

remove_within : (b r : Block') (j : ℕ) → j < length b → remove (b ++ r) j ≡ remove b j ++ r
remove_within [] r j h = absurd (omega (arith, h))
remove_within (y ∷ b) r zero h = refl
remove_within (y ∷ b) r (suc j) h = ap (λ t. y ∷ t) (remove_within b r j (omega (arith, h)))

remove_behind : (b r : Block') (m n : ℕ) → m ≡ length b + n → remove (b ++ r) m ≡ b ++ remove r n
remove_behind [] r m n e = let s : m ≡ n = omega (arith, e) in ap (λ i. remove r i) s
remove_behind (y ∷ b) r zero n e = absurd (omega (arith, e))
remove_behind (y ∷ b) r (suc m) n e = ap (λ t. y ∷ t) (remove_behind b r m n (omega (arith, e)))

pub flat_remove : (blocks : List Block') (k j n : ℕ) → n ≡ 256 * k + j → AreFull blocks k → k < length blocks → j < length (get_or blocks k []) → flat (set blocks k (remove (get_or blocks k []) j)) ≡ remove (flat blocks) n
flat_remove [] k j n e f h l = absurd (omega (arith, h))
flat_remove (b ∷ bs) zero j n e f h l = let s : j ≡ n = omega (arith, e) in sym (remove_within b (flat bs) j l) ∙ ap (λ i. remove (b ++ flat bs) i) s
flat_remove (b ∷ bs) (suc k) j n e f h l =
    let full : length b ≡ 256 = f 0 (omega arith) in
    ap (λ r. b ++ r) (flat_remove bs k j (n - 256) (omega (arith, e)) (λ i o. f (suc i) (omega (arith, o))) (omega (arith, h)) l) ∙ sym (remove_behind b (flat bs) n (n - 256) (omega (arith, e, full)))

set_behind : (b r : Block') (m n : ℕ) (x : List (List ℕ)) → m ≡ length b + n → set (b ++ r) m x ≡ b ++ set r n x
set_behind [] r m n x e = let s : m ≡ n = omega (arith, e) in ap (λ i. set r i x) s
set_behind (y ∷ b) r zero n x e = absurd (omega (arith, e))
set_behind (y ∷ b) r (suc m) n x e = ap (λ t. y ∷ t) (set_behind b r m n x (omega (arith, e)))

pub flat_set : (blocks : List Block') (k j n : ℕ) (x : List (List ℕ)) → n ≡ 256 * k + j → AreFull blocks k → k < length blocks → j < length (get_or blocks k []) → flat (set blocks k (set (get_or blocks k []) j x)) ≡ set (flat blocks) n x
flat_set [] k j n x e f h l = absurd (omega (arith, h))
flat_set (b ∷ bs) zero j n x e f h l = let s : j ≡ n = omega (arith, e) in sym (set-append_left b (flat bs) j x l) ∙ ap (λ i. set (b ++ flat bs) i x) s
flat_set (b ∷ bs) (suc k) j n x e f h l =
    let full : length b ≡ 256 = f 0 (omega arith) in
    ap (λ r. b ++ r) (flat_set bs k j (n - 256) x (omega (arith, e)) (λ i o. f (suc i) (omega (arith, o))) (omega (arith, h)) l) ∙ sym (set_behind b (flat bs) n (n - 256) x (omega (arith, e, full)))

-- the sizes of blocks of which one was written
pub sizes_set : (blocks : List Block') (k j : ℕ) (b : Block') → k < length blocks → length b ≡ length (get_or blocks k []) → length (get_or (set blocks k b) j []) ≡ length (get_or blocks j [])
sizes_set [] k j b h e = absurd (omega (arith, h))
sizes_set (x ∷ xs) zero zero b h e = e
sizes_set (x ∷ xs) zero (suc j) b h e = refl
sizes_set (x ∷ xs) (suc k) zero b h e = refl
sizes_set (x ∷ xs) (suc k) (suc j) b h e = sizes_set xs k j b (omega (arith, h)) e

pub sizes_more : (blocks : List Block') (k j : ℕ) (b : Block') → k < length blocks → length b ≡ length (get_or blocks k []) + 1 → length (get_or (set blocks k b) j []) ≡ length (get_or blocks j []) + gap_at j k
sizes_more [] k j b h e = absurd (omega (arith, h))
sizes_more (x ∷ xs) zero zero b h e = e
sizes_more (x ∷ xs) zero (suc j) b h e = omega arith
sizes_more (x ∷ xs) (suc k) zero b h e = omega arith
sizes_more (x ∷ xs) (suc k) (suc j) b h e = sizes_more xs k j b (omega (arith, h)) e

pub sizes_fewer : (blocks : List Block') (k j : ℕ) (b : Block') → k < length blocks → length b + 1 ≡ length (get_or blocks k []) → length (get_or (set blocks k b) j []) + gap_at j k ≡ length (get_or blocks j [])
sizes_fewer [] k j b h e = absurd (omega (arith, h))
sizes_fewer (x ∷ xs) zero zero b h e = e
sizes_fewer (x ∷ xs) zero (suc j) b h e = omega arith
sizes_fewer (x ∷ xs) (suc k) zero b h e = omega arith
sizes_fewer (x ∷ xs) (suc k) (suc j) b h e = sizes_fewer xs k j b (omega (arith, h)) e

-- an empty block after the others
pub flat_push : (blocks : List Block') → flat (blocks ++ [] ∷ []) ≡ flat blocks
flat_push [] = refl
flat_push (b ∷ bs) = ap (λ r. b ++ r) (flat_push bs)

read_push : (blocks : List Block') (j : ℕ) → get_or (blocks ++ [] ∷ []) j [] ≡ get_or blocks j []
read_push [] zero = refl
read_push [] (suc j) = refl
read_push (b ∷ bs) zero = refl
read_push (b ∷ bs) (suc j) = read_push bs j

pub IsTiered-push : (blocks : List Block') (count : ℕ) → IsTiered blocks count → IsTiered (blocks ++ [] ∷ []) count
IsTiered-push blocks count i =
    let n = length-append blocks ([] ∷ []) in
    record { filled = λ j. ap length (read_push blocks j) ∙ i.filled j; counted = i.counted ∙ ap length (sym (flat_push blocks)); fits = omega (arith, i.fits) }

-- where a page stands
pub record IsLocated (blocks : List Block') (n : ℕ) : Type 0 where
  pub block : n / 256 < length blocks
  pub at : n % 256 < length (get_or blocks (n / 256) [])
  pub full : AreFull blocks (n / 256)
  pub number : n ≡ 256 * (n / 256) + n % 256
  pub page : get_or (flat blocks) n [] ≡ get_or (get_or blocks (n / 256) []) (n % 256) []

pub located : (blocks : List Block') (items : Block') (n count : ℕ) → IsTiered blocks count → flat blocks ≡ items → n < length items → IsLocated blocks n
located blocks items n count i s h =
    let c : length (flat blocks) ≡ length items = ap length s in
    let few : n < count = omega (arith, i.counted, h) in
    let block : n / 256 < length blocks = omega (arith, i.fits, few) in
    let e = i.filled (n / 256) in
    let at : n % 256 < length (get_or blocks (n / 256) []) = omega (arith, few) in
    let full = full_before blocks (n / 256) count i.filled (omega (arith, few)) in
    let number : n ≡ 256 * (n / 256) + n % 256 = omega arith in
    record { block = block; at = at; full = full; number = number; page = flat_read blocks (n / 256) (n % 256) n number full block at }

-- the page that a block holds is that of its number
pub held_page : (blocks : List Block') (items held : Block') (n count : ℕ) → IsTiered blocks count → flat blocks ≡ items → n < length items → held ≡ get_or blocks (n / 256) held → page_at held (n % 256) ≡ page_at items n
held_page blocks items held n count i s h r =
    let l = located blocks items n count i s h in
    ap (λ b. page_at b (n % 256)) (get_or_read blocks (n / 256) held l.block r []) ∙ sym l.page ∙ ap (λ b. page_at b n) s

pub record IsWritten (blocks : List Block') (items : Block') (count : ℕ) : Type 0 where
  pub tiered : IsTiered blocks count
  pub is : flat blocks ≡ items

-- a page written
pub written : (blocks : List Block') (items held new : Block') (n count : ℕ) (f : List (List ℕ) → List (List ℕ)) → IsTiered blocks count → flat blocks ≡ items → n < length items → held ≡ get_or blocks (n / 256) held → new ≡ set held (n % 256) (f (page_at held (n % 256))) → IsWritten (set blocks (n / 256) new) (set items n (f (page_at items n))) count
written blocks items held new n count f i s h r e =
    let l = located blocks items n count i s h in
    let k = n / 256 in
    let j = n % 256 in
    let read : held ≡ get_or blocks k [] = get_or_read blocks k held l.block r [] in
    let made : new ≡ set (get_or blocks k []) j (f (page_at items n)) = e ∙ ap (λ p. set held j (f p)) (held_page blocks items held n count i s h r) ∙ ap (λ b. set b j (f (page_at items n))) read in
    let is : flat (set blocks k new) ≡ set items n (f (page_at items n)) = ap (λ b. flat (set blocks k b)) made ∙ flat_set blocks k j n (f (page_at items n)) l.number l.full l.block l.at ∙ ap (λ b. set b n (f (page_at items n))) s in
    let size : length new ≡ length (get_or blocks k []) = ap length made ∙ length-set (get_or blocks k []) j (f (page_at items n)) in
    let n1 = length-set items n (f (page_at items n)) in
    let n2 = length-set blocks k new in
    let c1 = ap length is in
    let c2 = ap length s in
    record {
      tiered = record { filled = λ m. sizes_set blocks k m new l.block size ∙ i.filled m; counted = omega (arith, i.counted); fits = omega (arith, i.fits) };
      is = is;
    }

-- the block with the gap has room
pub gap_room : (blocks : List Block') (held : Block') (n count : ℕ) → HasGap blocks (n / 256) (count + 1) → n ≤ count → count < 256 * length blocks → held ≡ get_or blocks (n / 256) held → (length held < 256) × (n % 256 ≤ length held)
gap_room blocks held n count g h fits r =
    let block : n / 256 < length blocks = omega (arith, h, fits) in
    let read = ap length (get_or_read blocks (n / 256) held block r []) in
    let e = g (n / 256) in
    let o = gap_at_same (n / 256) (n / 256) refl in
    (omega arith, omega (arith, h))

pub inserted : (blocks : List Block') (items held new : Block') (n count : ℕ) (page : List (List ℕ)) → HasGap blocks (n / 256) (count + 1) → flat blocks ≡ items → count ≡ length items → n ≤ count → count < 256 * length blocks → held ≡ get_or blocks (n / 256) held → new ≡ insert held (n % 256) page → IsWritten (set blocks (n / 256) new) (insert items n page) (count + 1)
inserted blocks items held new n count page g s c h fits r e =
    let k = n / 256 in
    let j = n % 256 in
    let block : k < length blocks = omega (arith, h, fits) in
    let read = get_or_read blocks k held block r [] in
    let room = gap_room blocks held n count g h fits r in
    let within : j ≤ length (get_or blocks k []) = let q = ap length read in omega (arith, room.1) in
    let full = full_before_gap blocks k (count + 1) g (omega (arith, h)) in
    let made : new ≡ insert (get_or blocks k []) j page = e ∙ ap (λ b. insert b j page) read in
    let is : flat (set blocks k new) ≡ insert items n page = ap (λ b. flat (set blocks k b)) made ∙ flat_insert blocks k j n page (omega arith) full block within ∙ ap (λ b. insert b n page) s in
    let size : length new ≡ length (get_or blocks k []) + 1 = ap length made ∙ length-insert (get_or blocks k []) j page within in
    let n1 = length-insert items n page (omega (arith, h, c)) in
    let n2 = length-set blocks k new in
    let c1 = ap length is in
    record {
      tiered = record { filled = λ m. sizes_more blocks k m new block size ∙ g m; counted = omega (arith, c); fits = omega (arith, fits) };
      is = is;
    }

-- a page taken out leaves a gap
pub record IsTaken (blocks : List Block') (items : Block') (k count : ℕ) : Type 0 where
  pub gap : HasGap blocks k count
  pub is : flat blocks ≡ items

pub taken : (blocks : List Block') (items held new : Block') (n count : ℕ) → IsTiered blocks count → flat blocks ≡ items → n < length items → held ≡ get_or blocks (n / 256) held → new ≡ remove held (n % 256) → IsTaken (set blocks (n / 256) new) (remove items n) (n / 256) count
taken blocks items held new n count i s h r e =
    let l = located blocks items n count i s h in
    let k = n / 256 in
    let j = n % 256 in
    let made : new ≡ remove (get_or blocks k []) j = e ∙ ap (λ b. remove b j) (get_or_read blocks k held l.block r []) in
    let size : length new + 1 ≡ length (get_or blocks k []) = ap (λ b. length b + 1) made ∙ length-remove (get_or blocks k []) j l.at in
    record {
      gap = λ m. sizes_fewer blocks k m new l.block size ∙ i.filled m;
      is = ap (λ b. flat (set blocks k b)) made ∙ flat_remove blocks k j n l.number l.full l.block l.at ∙ ap (λ b. remove b n) s;
    }

pub closed : (blocks before : List Block') (items : Block') (n count : ℕ) → ((j : ℕ) → length (block_at blocks j) ≡ min 256 (count - 1 - 256 * j)) → flat blocks ≡ flat before → flat before ≡ remove items n → count ≡ length items → n < length items → length blocks ≡ length before → count ≤ 256 * length before → IsWritten blocks (remove items n) (count - 1)
closed blocks before items n count f s t c h l fits =
    let a = length-remove items n h in
    let b = ap length (s ∙ t) in
    record { tiered = record { filled = f; counted = omega (arith, c); fits = omega (arith, l, fits) }; is = s ∙ t }

pub pushed_of_ok : {X E : Type 0} (r : Result (Unit {0}) E) (ys zs : List X) (x : X) → IsOk r → zs ≡ cond (is_ok r) (ys ++ x ∷ []) ys → zs ≡ ys ++ x ∷ []
pushed_of_ok (Ok u) ys zs x h e = e
pushed_of_ok (Err u) ys zs x h e = absurd (false≢true h)
