use Rattle.std.proofs.Common.{◌≡◌, drop}
use Rattle.qs_syntax_resolve.specs.Query.{prologue}
use Rattle.qs_syntax_resolve.proofs.resolver.Resolver.prologue.Given as goal

abbrev pub invariant-loop-declaration : goal.invariant-loop-declaration
invariant-loop-declaration l = prologue (drop l.declaration-index l.all) l.self ≡ prologue l.all l.fn.self
