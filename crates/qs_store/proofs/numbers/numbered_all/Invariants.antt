use Rattle.std.proofs.Common.{◌≡◌, Some, map, take}
use Rattle.qs_store.specs.Change.{with_terms_of}
use Rattle.qs_store.specs.inner.Entries.{entry_of}
use Rattle.qs_dict.specs.inner.Dict.{IsDictionary}
use Rattle.qs_store.specs.inner.Content.{AreLawful}
use Rattle.qs_store.specs.inner.Store.{IsFront}
use Rattle.qs_store.proofs.numbers.numbered_all.Given as goal

abbrev pub invariant-loop-quad : goal.invariant-loop-quad
invariant-loop-quad l = record {
  entries : map (entry_of l.dict.terms) (take l.quad-index l.quads) ≡ map Some l.entries.items;
  terms : l.dict.terms ≡ with_terms_of l.fn.dict.terms (take l.quad-index l.quads);
  front : IsFront l.fn.dict.terms l.dict.terms;
  limit : l.dict.limit ≡ l.fn.dict.limit;
  lawful : IsDictionary l.dict;
  fits : AreLawful (take l.quad-index l.quads);
}
