-- The least place of rows, gathered part by part.
use Rattle.std.proofs.Common.{◌≡◌, ◌≤◌, ℕ, List, [], ◌∷◌, ◌++◌, Option, Some, None, map, min, fold, slice_get, length, take, refl, sym, ap, ◌∙◌, arith}
use Rattle.std.proofs.lemmas.List.{take_all}
use Rattle.std.specs.List.{flat_map, filter_map, cons_option, reduce}
use Rattle.qs_syntax_limits.specs.Large.{Rows, Part, limit, excess, side_by_side}
use Rattle.qs_syntax_limits.specs.inner.Parts.{first, further}

pub excess_none : excess [] ≡ None
unfolding excess
excess_none = refl

pub first_none : (a : Option ℕ) → first a None ≡ a
unfolding first
first_none None = refl
first_none (Some a) = refl

pub none_first : (a : Option ℕ) → first None a ≡ a
unfolding first
none_first a = refl

first_assoc : (a b c : Option ℕ) → first (first a b) c ≡ first a (first b c)
unfolding first
first_assoc None b c = refl
first_assoc (Some a) None c = refl
first_assoc (Some a) (Some b) None = refl
first_assoc (Some a) (Some b) (Some c) = ap Some (grind arith)

lesser_first : (a b : ℕ) (bs : List ℕ) → fold min (min a b) bs ≡ min a (fold min b bs)
lesser_first a b [] = refl
lesser_first a b (c ∷ cs) = let same : min (min a b) c ≡ min a (min b c) = grind arith in ap (λ z. fold min z cs) same ∙ lesser_first a (min b c) cs

least_behind : (o : Option ℕ) (places : List ℕ) → reduce min (cons_option o places) ≡ first o (reduce min places)
unfolding first
least_behind None places = refl
least_behind (Some a) [] = refl
least_behind (Some a) (b ∷ bs) = ap Some (lesser_first a b bs)

pub excess_more : (row : List ℕ) (rows : Rows) → excess (row ∷ rows) ≡ first (slice_get row limit) (excess rows)
unfolding excess
excess_more row rows = least_behind (slice_get row limit) (filter_map (λ (r : List ℕ). slice_get r limit) rows)

pub excess_append : (a b : Rows) → excess (a ++ b) ≡ first (excess a) (excess b)
excess_append [] b = sym (ap (λ z. first z (excess b)) excess_none ∙ none_first (excess b))
excess_append (row ∷ rows) b =
    excess_more row (rows ++ b)
    ∙ ap (first (slice_get row limit)) (excess_append rows b)
    ∙ sym (first_assoc (slice_get row limit) (excess rows) (excess b))
    ∙ ap (λ z. first z (excess b)) (sym (excess_more row rows))

pub gathered : {A : Type 0} (rows_of : A → Rows) (found : Option ℕ) (xs : List A) → fold (further rows_of) found xs ≡ first found (excess (flat_map rows_of xs))
gathered rows_of found [] = sym (ap (first found) excess_none ∙ first_none found)
gathered rows_of found (x ∷ xs) =
    gathered rows_of (first found (excess (rows_of x))) xs
    ∙ first_assoc found (excess (rows_of x)) (excess (flat_map rows_of xs))
    ∙ ap (first found) (sym (excess_append (rows_of x) (flat_map rows_of xs)))

pub from_none : {A : Type 0} (rows_of : A → Rows) (xs : List A) → fold (further rows_of) None xs ≡ excess (flat_map rows_of xs)
from_none rows_of xs = gathered rows_of None xs ∙ none_first (excess (flat_map rows_of xs))

pub joined : {A : Type 0} (rows_of : A → Rows) (xs : List A) → flat_map (λ (rows : Rows). rows) (map rows_of xs) ≡ flat_map rows_of xs
joined rows_of [] = refl
joined rows_of (x ∷ xs) = ap (λ rows. rows_of x ++ rows) (joined rows_of xs)

pub of_each : {A : Type 0} (rows_of : A → Rows) (xs : List A) → fold (further rows_of) None xs ≡ excess (flat_map (λ (rows : Rows). rows) (map rows_of xs))
of_each rows_of xs = from_none rows_of xs ∙ ap excess (sym (joined rows_of xs))

places : {A : Type 0} (part : A → Part) (xs : List A) → map (λ p. p.place) (map part xs) ≡ map (λ x. (part x).place) xs
places part [] = refl
places part (x ∷ xs) = ap (λ rest. (part x).place ∷ rest) (places part xs)

within : {A : Type 0} (part : A → Part) (xs : List A) → flat_map (λ p. p.rows) (map part xs) ≡ flat_map (λ x. (part x).rows) xs
within part [] = refl
within part (x ∷ xs) = ap (λ rest. (part x).rows ++ rest) (within part xs)

pub of_row : {A : Type 0} (part : A → Part) (xs : List A)
    → fold (further (λ x. (part x).rows)) (slice_get (map (λ x. (part x).place) xs) limit) xs ≡ excess (side_by_side (map part xs))
of_row part xs =
    gathered (λ x. (part x).rows) (slice_get (map (λ x. (part x).place) xs) limit) xs
    ∙ ap (λ places. first (slice_get places limit) (excess (flat_map (λ x. (part x).rows) xs))) (sym (places part xs))
    ∙ ap (λ rows. first (slice_get (map (λ p. p.place) (map part xs)) limit) (excess rows)) (sym (within part xs))
    ∙ sym (excess_more (map (λ p. p.place) (map part xs)) (flat_map (λ p. p.rows) (map part xs)))

-- with a part before the others
pub of_more : {A : Type 0} (part : A → Part) (start : Part) (xs : List A)
    → first (first (slice_get (start.place ∷ map (λ x. (part x).place) xs) limit) (excess start.rows)) (excess (flat_map (λ x. (part x).rows) xs)) ≡ excess (side_by_side (start ∷ map part xs))
of_more part start xs =
    let places_before : List ℕ = start.place ∷ map (λ x. (part x).place) xs in
    let places_after : List ℕ = start.place ∷ map (λ p. p.place) (map part xs) in
    first_assoc (slice_get places_before limit) (excess start.rows) (excess (flat_map (λ x. (part x).rows) xs))
    ∙ ap (first (slice_get places_before limit)) (sym (excess_append start.rows (flat_map (λ x. (part x).rows) xs)))
    ∙ ap (λ rows. first (slice_get places_before limit) (excess (start.rows ++ rows))) (sym (within part xs))
    ∙ ap (λ places. first (slice_get (start.place ∷ places) limit) (excess (start.rows ++ flat_map (λ p. p.rows) (map part xs)))) (sym (places part xs))
    ∙ sym (excess_more places_after (start.rows ++ flat_map (λ p. p.rows) (map part xs)))

-- ---- a loop that is at its end

at_end : {A : Type 0} (step : Option ℕ → A → Option ℕ) (start found : Option ℕ) (xs : List A) (n : ℕ) → length xs ≤ n → found ≡ fold step start (take n xs) → found ≡ fold step start xs
at_end step start found xs n h e = e ∙ ap (fold step start) (take_all n xs h)

pub gathered_at_end : {A : Type 0} (rows_of : A → Rows) (start found : Option ℕ) (xs : List A) (n : ℕ)
    → length xs ≤ n → found ≡ fold (further rows_of) start (take n xs) → found ≡ first start (excess (flat_map rows_of xs))
gathered_at_end rows_of start found xs n h e = at_end (further rows_of) start found xs n h e ∙ gathered rows_of start xs

pub from_none_at_end : {A : Type 0} (rows_of : A → Rows) (found : Option ℕ) (xs : List A) (n : ℕ)
    → length xs ≤ n → found ≡ fold (further rows_of) None (take n xs) → found ≡ excess (flat_map rows_of xs)
from_none_at_end rows_of found xs n h e = at_end (further rows_of) None found xs n h e ∙ from_none rows_of xs

pub each_at_end : {A : Type 0} (rows_of : A → Rows) (found : Option ℕ) (xs : List A) (n : ℕ)
    → length xs ≤ n → found ≡ fold (further rows_of) None (take n xs) → found ≡ excess (flat_map (λ (rows : Rows). rows) (map rows_of xs))
each_at_end rows_of found xs n h e = at_end (further rows_of) None found xs n h e ∙ of_each rows_of xs

pub row_at_end : {A : Type 0} (part : A → Part) (found : Option ℕ) (xs : List A) (n : ℕ)
    → length xs ≤ n → found ≡ fold (further (λ x. (part x).rows)) (slice_get (map (λ x. (part x).place) xs) limit) (take n xs) → found ≡ excess (side_by_side (map part xs))
row_at_end part found xs n h e = at_end (further (λ x. (part x).rows)) (slice_get (map (λ x. (part x).place) xs) limit) found xs n h e ∙ of_row part xs

-- ---- the rows of a tree, by those of its parts

pub nothing : (rows : Rows) → rows ≡ [] → None ≡ excess rows
nothing rows e = sym (ap excess e ∙ excess_none)

pub one_row : (rows : Rows) (row : List ℕ) → rows ≡ row ∷ [] → slice_get row limit ≡ excess rows
one_row rows row e = sym (ap excess e ∙ excess_more row [] ∙ ap (first (slice_get row limit)) excess_none ∙ first_none (slice_get row limit))

pub both : (rows a b : Rows) → rows ≡ a ++ b → first (excess a) (excess b) ≡ excess rows
both rows a b e = sym (ap excess e ∙ excess_append a b)

pub excess_three : (a b c : Rows) → first (excess a) (first (excess b) (excess c)) ≡ excess (a ++ b ++ c)
excess_three a b c = sym (excess_append (a ++ b) c ∙ ap (λ x. first x (excess c)) (excess_append a b) ∙ first_assoc (excess a) (excess b) (excess c))

pub three : (rows a b c : Rows) → rows ≡ a ++ b ++ c → first (excess a) (first (excess b) (excess c)) ≡ excess rows
three rows a b c e = excess_three a b c ∙ sym (ap excess e)
