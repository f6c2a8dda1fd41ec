-- A new label goes last in the map.
use Rattle.std.proofs.Common.{◌≡◌, ◌∷◌, ◌++◌, [], None, ap, ◌∙◌}
use Rattle.std.specs.Prelude.{string_bytes, string_eq}
use Rattle.std.specs.Map.{lookup}
use Rattle.std.specs.Str.{bytes_eq}
use Rattle.indexmap.specs.IndexMap.{get}
use Rattle.indexmap.proofs.CallerLemmas.{insert_entry-new}
use Rattle.qs_nquads.specs.inner.Entries.{seen}
use Rattle.qs_nquads.proofs.Numbers.{looked_up, seen_last}
use Rattle.qs_nquads.proofs.hashed_labels.HashedLabels.put.Goals as goal

pub returns-clause-put : goal.returns-clause-put
returns-clause-put c =
    let map = c.self.inside.map in
    let label = c.args.label in
    let number = c.args.number in
    let same : seen string_bytes map.entries ≡ c.args.self.now = c.self.view_is in
    let new : get string_eq map label ≡ None = looked_up string_bytes (string_bytes label) map.entries ∙ (ap (lookup (bytes_eq (string_bytes label))) same ∙ c.requires) in
    ap (seen string_bytes) (c.in_ok-insert.ensures.entries ∙ insert_entry-new string_eq map label number new)
    ∙ (seen_last string_bytes map.entries label number ∙ ap (λ es. es ++ (string_bytes label, number) ∷ []) same)
