-- The order that a scan uses where it gives nothing and asks for one place in front.
use Rattle.std.specs.Prelude.{ℕ, Option, Some, None}
use Rattle.qs_index.specs.inner.Permutation.{order_used, named_order_used}
use Rattle.qs_index.specs.declared.permutation.Permutation.{Permutation}
use Rattle.qs_index.specs.declared.permutation.Permutation.TheVariants.{Gspo, Gpos, Gosp, Spog}
use Rattle.qs_index.specs.declared.permutation.Permutation.TheVariants.{Posg, Ospg}
use Rattle.qs_index.specs.declared.permutation.Lead.{Lead}
use Rattle.qs_index.specs.declared.permutation.Lead.TheVariants.{Subject, Predicate, Object}

-- the order that a scan uses which has one of its places in front where none is given
abbrev pub order_with_lead : Option ℕ → Option ℕ → Option ℕ → Lead → Permutation
order_with_lead (Some s) predicate object lead = order_used (Some s) predicate object
order_with_lead None (Some p) object lead = order_used None (Some p) object
order_with_lead None None (Some o) lead = order_used None None (Some o)
order_with_lead None None None Subject = Gspo
order_with_lead None None None Predicate = Gpos
order_with_lead None None None Object = Gosp

-- the same over all named graphs
abbrev pub named_order_with_lead : Option ℕ → Option ℕ → Option ℕ → Lead → Permutation
named_order_with_lead (Some s) predicate object lead = named_order_used (Some s) predicate object
named_order_with_lead None (Some p) object lead = named_order_used None (Some p) object
named_order_with_lead None None (Some o) lead = named_order_used None None (Some o)
named_order_with_lead None None None Subject = Spog
named_order_with_lead None None None Predicate = Posg
named_order_with_lead None None None Object = Ospg
