-- The map finds what contracts see of it.
use Rattle.std.proofs.Common.{◌∙◌, ap}
use Rattle.std.specs.Option.{option_copied}
use Rattle.qs_syntax_resolve.proofs.Declared.{looked_up}
use Rattle.qs_syntax_resolve.proofs.declarations.last_place.Goals as goal

pub returns : goal.returns
returns c = c.copied.ensures ∙ c.get.ensures.value ∙ looked_up c.args.prefix.now c.args.index.now.entries
