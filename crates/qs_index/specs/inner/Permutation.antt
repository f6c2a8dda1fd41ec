-- The orders of the places of an entry, and which of them a scan uses.
-- In a graph it is GPOS where the predicate is given without the subject, GOSP where the object is
-- given without the predicate, and GSPO elsewhere. Over all named graphs POSG, OSPG and SPOG are
-- used in the same way.
use Rattle.std.specs.Prelude.{ℕ, List, [], ◌∷◌, Option, Some, None}
use Rattle.qs_index.specs.declared.permutation.Permutation.{Permutation}
use Rattle.qs_index.specs.declared.permutation.Permutation.TheVariants.{Gspo, Gpos, Gosp, Spog}
use Rattle.qs_index.specs.declared.permutation.Permutation.TheVariants.{Posg, Ospg}

-- an entry with its places in the order of a permutation
abbrev pub turned : Permutation → List ℕ → List ℕ
turned Gpos (g ∷ s ∷ p ∷ o ∷ rest) = g ∷ p ∷ o ∷ s ∷ rest
turned Gosp (g ∷ s ∷ p ∷ o ∷ rest) = g ∷ o ∷ s ∷ p ∷ rest
turned Spog (g ∷ s ∷ p ∷ o ∷ rest) = s ∷ p ∷ o ∷ g ∷ rest
turned Posg (g ∷ s ∷ p ∷ o ∷ rest) = p ∷ o ∷ s ∷ g ∷ rest
turned Ospg (g ∷ s ∷ p ∷ o ∷ rest) = o ∷ s ∷ p ∷ g ∷ rest
turned permutation entry = entry

-- the entry that was turned
abbrev pub restored : Permutation → List ℕ → List ℕ
restored Gpos (g ∷ p ∷ o ∷ s ∷ rest) = g ∷ s ∷ p ∷ o ∷ rest
restored Gosp (g ∷ o ∷ s ∷ p ∷ rest) = g ∷ s ∷ p ∷ o ∷ rest
restored Spog (s ∷ p ∷ o ∷ g ∷ rest) = g ∷ s ∷ p ∷ o ∷ rest
restored Posg (p ∷ o ∷ s ∷ g ∷ rest) = g ∷ s ∷ p ∷ o ∷ rest
restored Ospg (o ∷ s ∷ p ∷ g ∷ rest) = g ∷ s ∷ p ∷ o ∷ rest
restored permutation entry = entry

-- the order that a scan uses, by the subject, predicate and object that it gives
abbrev pub order_used : Option ℕ → Option ℕ → Option ℕ → Permutation
order_used None None None = Gspo
order_used (Some s) None None = Gspo
order_used (Some s) (Some p) None = Gspo
order_used (Some s) (Some p) (Some o) = Gspo
order_used None (Some p) None = Gpos
order_used None (Some p) (Some o) = Gpos
order_used None None (Some o) = Gosp
order_used (Some s) None (Some o) = Gosp

-- the places that a scan gives, in the order that it uses
abbrev pub prefix_of : ℕ → Option ℕ → Option ℕ → Option ℕ → List ℕ
prefix_of g None None None = g ∷ []
prefix_of g (Some s) None None = g ∷ s ∷ []
prefix_of g (Some s) (Some p) None = g ∷ s ∷ p ∷ []
prefix_of g (Some s) (Some p) (Some o) = g ∷ s ∷ p ∷ o ∷ []
prefix_of g None (Some p) None = g ∷ p ∷ []
prefix_of g None (Some p) (Some o) = g ∷ p ∷ o ∷ []
prefix_of g None None (Some o) = g ∷ o ∷ []
prefix_of g (Some s) None (Some o) = g ∷ o ∷ s ∷ []

-- the order that a scan of all named graphs uses
abbrev pub named_order_used : Option ℕ → Option ℕ → Option ℕ → Permutation
named_order_used None None None = Spog
named_order_used (Some s) None None = Spog
named_order_used (Some s) (Some p) None = Spog
named_order_used (Some s) (Some p) (Some o) = Spog
named_order_used None (Some p) None = Posg
named_order_used None (Some p) (Some o) = Posg
named_order_used None None (Some o) = Ospg
named_order_used (Some s) None (Some o) = Ospg

-- the places that a scan of all named graphs gives, in the order that it uses
abbrev pub named_prefix_of : Option ℕ → Option ℕ → Option ℕ → List ℕ
named_prefix_of None None None = []
named_prefix_of (Some s) None None = s ∷ []
named_prefix_of (Some s) (Some p) None = s ∷ p ∷ []
named_prefix_of (Some s) (Some p) (Some o) = s ∷ p ∷ o ∷ []
named_prefix_of None (Some p) None = p ∷ []
named_prefix_of None (Some p) (Some o) = p ∷ o ∷ []
named_prefix_of None None (Some o) = o ∷ []
named_prefix_of (Some s) None (Some o) = o ∷ s ∷ []
