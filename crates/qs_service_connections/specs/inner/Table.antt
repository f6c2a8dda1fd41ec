-- The table of connections.
use Rattle.std.specs.Prelude.{◌≡◌, ◌<◌, ◌≤◌, ◌==◌, Bool, ℕ, List, length, Vec, vec_capacity}
use Rattle.std.specs.Prelude.{slice_set, slice_index_or, Some, None}
use Rattle.std.specs.List.{remove}
use Rattle.std.specs.declared.alloc.Global.{Global}
use Rattle.qs_service_connections.specs.State.{Joined, exchange_of, without_id}
use Rattle.qs_service_connections.specs.inner.State.{put_exchange}

abbrev pub has_id : ℕ → Joined → Bool
has_id id c = c.id == id

-- the place of that id in the table, or the length where it isn't joined
pub record IsPlace (id : ℕ) (joined : List Joined) (place : ℕ) : Type 0 where
  pub within : place ≤ length joined
  pub absent : place ≡ length joined → exchange_of id joined ≡ None
  pub there : (d : Joined) → place < length joined → exchange_of id joined
      ≡ Some (slice_index_or joined place d).exchange
  pub removed : place < length joined → remove joined place ≡ without_id id joined
  pub put : (d e : Joined) → place < length joined → e.id ≡ (slice_index_or joined place d).id
      → slice_set joined place e ≡ put_exchange id e.exchange joined

-- room for 64 was made, and no more are joined
pub record IsTable (connections : Vec Joined Global) : Type 0 where
  pub room : 64 ≤ vec_capacity connections
  pub few : length connections.items ≤ 64
