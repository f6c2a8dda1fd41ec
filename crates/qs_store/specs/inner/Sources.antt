-- What the source of a scan has still to hand out.
use Rattle.std.specs.Prelude.{ℕ, List, []}
use Rattle.qs_store.specs.declared.triples.Source.{Source}
use Rattle.qs_store.specs.declared.triples.Source.TheVariants.{Nothing, Stored, Drafted}

abbrev pub entries_left : Source → List (List ℕ)
entries_left Nothing = []
entries_left (Stored scan) = scan.rest
entries_left (Drafted entries) = entries
