-- Scans in the order that has a place in front.
use Rattle.std.proofs.Common.{◌≡◌, ℕ, Bool, true, false, cond, ◌==◌, ◌&&◌, List, [], ◌∷◌, map, length, Option, Some, None, refl, arith, subst}
use Rattle.std.specs.List.{Contains}
use Rattle.std.specs.List.Sorted.{IsPermutation}
use Rattle.qs_index.specs.inner.Agreeing.{agrees, agreeing, agrees_anywhere, agreeing_named}
use Rattle.qs_index.specs.inner.Entry.{IsEntry, IsAscending, beginning, begins}
use Rattle.qs_index.specs.inner.Graph.{is_named, named_entries}
use Rattle.qs_index.specs.inner.Lead.{order_with_lead, named_order_with_lead}
use Rattle.qs_index.specs.inner.Named.{held_by}
use Rattle.qs_index.specs.inner.OrderOf.{IsOrderOf}
use Rattle.qs_index.specs.inner.Permutation.{turned, restored, prefix_of, named_prefix_of}
use Rattle.qs_index.specs.declared.permutation.Permutation.{Permutation}
use Rattle.qs_index.specs.declared.permutation.Lead.{Lead}
use Rattle.qs_index.specs.declared.permutation.Lead.TheVariants.{Subject, Predicate, Object}
use Rattle.qs_index.proofs.Distinct.{IsAscending-filter, member_of_filter}
use Rattle.qs_index.proofs.NamedOrders.{held_by_used, held_by_named}
use Rattle.qs_index.proofs.Turned.{begins-turned, begins-named, found_agree}

graph_alone : (a : Bool) → cond a true false ≡ (((a && true) && true) && true)
graph_alone true = refl
graph_alone false = refl

begins-led : (graph : ℕ) (s p o : Option ℕ) (lead : Lead) (x : List ℕ) → length x ≡ 4 → begins (prefix_of graph s p o) (turned (order_with_lead s p o lead) x) ≡ agrees graph s p o x
begins-led graph (Some s) p o lead x h = begins-turned graph (Some s) p o x h
begins-led graph None (Some p) o lead x h = begins-turned graph None (Some p) o x h
begins-led graph None None (Some o) lead x h = begins-turned graph None None (Some o) x h
begins-led graph None None None Subject x h = begins-turned graph None None None x h
begins-led graph None None None lead [] h = absurd (omega arith)
begins-led graph None None None lead (a ∷ []) h = absurd (omega arith)
begins-led graph None None None lead (a ∷ b ∷ []) h = absurd (omega arith)
begins-led graph None None None lead (a ∷ b ∷ c ∷ []) h = absurd (omega arith)
begins-led graph None None None lead (a ∷ b ∷ c ∷ d ∷ e ∷ rest) h = absurd (omega arith)
begins-led graph None None None Predicate (a ∷ b ∷ c ∷ d ∷ []) h = graph_alone (a == graph)
begins-led graph None None None Object (a ∷ b ∷ c ∷ d ∷ []) h = graph_alone (a == graph)

named-led : (s p o : Option ℕ) (lead : Lead) (x : List ℕ) → length x ≡ 4 → begins (named_prefix_of s p o) (turned (named_order_with_lead s p o lead) x) ≡ agrees_anywhere s p o x
named-led (Some s) p o lead x h = begins-named (Some s) p o x h
named-led None (Some p) o lead x h = begins-named None (Some p) o x h
named-led None None (Some o) lead x h = begins-named None None (Some o) x h
named-led None None None Subject x h = begins-named None None None x h
named-led None None None lead [] h = absurd (omega arith)
named-led None None None lead (a ∷ []) h = absurd (omega arith)
named-led None None None lead (a ∷ b ∷ []) h = absurd (omega arith)
named-led None None None lead (a ∷ b ∷ c ∷ []) h = absurd (omega arith)
named-led None None None lead (a ∷ b ∷ c ∷ d ∷ e ∷ rest) h = absurd (omega arith)
named-led None None None Predicate (a ∷ b ∷ c ∷ d ∷ []) h = refl
named-led None None None Object (a ∷ b ∷ c ∷ d ∷ []) h = refl

held_by_led : (s p o : Option ℕ) (lead : Lead) (xs : List (List ℕ)) → held_by (order_with_lead s p o lead) xs ≡ xs
held_by_led (Some s) p o lead xs = held_by_used (Some s) p o xs
held_by_led None (Some p) o lead xs = held_by_used None (Some p) o xs
held_by_led None None (Some o) lead xs = held_by_used None None (Some o) xs
held_by_led None None None Subject xs = refl
held_by_led None None None Predicate xs = refl
held_by_led None None None Object xs = refl

named_held_by_led : (s p o : Option ℕ) (lead : Lead) (xs : List (List ℕ)) → held_by (named_order_with_lead s p o lead) xs ≡ named_entries xs
named_held_by_led (Some s) p o lead xs = held_by_named (Some s) p o xs
named_held_by_led None (Some p) o lead xs = held_by_named None (Some p) o xs
named_held_by_led None None (Some o) lead xs = held_by_named None None (Some o) xs
named_held_by_led None None None Subject xs = refl
named_held_by_led None None None Predicate xs = refl
named_held_by_led None None None Object xs = refl

pub order_of_led : (s p o : Option ℕ) (lead : Lead) (used : Permutation) (xs ys : List (List ℕ)) → used ≡ order_with_lead s p o lead → IsOrderOf used (held_by used xs) ys → IsOrderOf (order_with_lead s p o lead) xs ys
order_of_led s p o lead used xs ys e h =
    subst (λ r. IsOrderOf (order_with_lead s p o lead) r ys) (held_by_led s p o lead xs) (subst (λ k. IsOrderOf k (held_by k xs) ys) e h)

pub order_of_named_led : (s p o : Option ℕ) (lead : Lead) (used : Permutation) (xs ys : List (List ℕ)) → used ≡ named_order_with_lead s p o lead → IsOrderOf used (held_by used xs) ys → IsOrderOf (named_order_with_lead s p o lead) (named_entries xs) ys
order_of_named_led s p o lead used xs ys e h =
    subst (λ r. IsOrderOf (named_order_with_lead s p o lead) r ys) (named_held_by_led s p o lead xs) (subst (λ k. IsOrderOf k (held_by k xs) ys) e h)

pub scan_agrees_led : (graph : ℕ) (s p o : Option ℕ) (lead : Lead) (xs ys : List (List ℕ)) → ((x : List ℕ) → Contains xs x → IsEntry x) → IsAscending xs → IsOrderOf (order_with_lead s p o lead) xs ys → IsPermutation (agreeing graph s p o xs) (map (restored (order_with_lead s p o lead)) (beginning (prefix_of graph s p o) ys))
scan_agrees_led graph s p o lead xs ys four u h =
    found_agree (order_with_lead s p o lead) (prefix_of graph s p o) (agrees graph s p o) xs ys (λ x c. begins-led graph s p o lead x (four x c).four) u h

pub scan_agrees_named_led : (s p o : Option ℕ) (lead : Lead) (xs ys : List (List ℕ)) → ((x : List ℕ) → Contains xs x → IsEntry x) → IsAscending xs → IsOrderOf (named_order_with_lead s p o lead) (named_entries xs) ys → IsPermutation (agreeing_named s p o xs) (map (restored (named_order_with_lead s p o lead)) (beginning (named_prefix_of s p o) ys))
scan_agrees_named_led s p o lead xs ys four u h =
    found_agree (named_order_with_lead s p o lead) (named_prefix_of s p o) (agrees_anywhere s p o) (named_entries xs) ys
    (λ x c. named-led s p o lead x (four x (member_of_filter is_named x xs c).0).four) (IsAscending-filter is_named xs u) h
