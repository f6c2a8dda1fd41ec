-- What comes and goes at acts, and how many connections join.
use Rattle.std.specs.Prelude.{ℕ, List, [], ◌∷◌, length, filter}
use Rattle.std.specs.List.{flat_map}
use Rattle.qs_service_reactor.specs.Log.{Io}
use Rattle.qs_service_reactor.specs.Run.{Act, ios_of, is_join}

abbrev pub ios : List Act → List Io
ios acts = flat_map ios_of acts

-- how many connections join, whether the endpoint takes them up or not
abbrev pub joins : List Act → ℕ
joins acts = length (filter is_join acts)

abbrev pub joins_of : Act → ℕ
joins_of act = joins (act ∷ [])
