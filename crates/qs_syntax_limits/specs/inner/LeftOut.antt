-- Definitions over those of `LeftOut`, for proofs and the layers between.
use Rattle.std.specs.Prelude.{ℕ, Bool, List}
use Rattle.qs_lex_escapes.specs.Piece.{piece}
use Rattle.qs_syntax_tree.specs.declared.token.Token.{Token}
use Rattle.qs_syntax_limits.specs.LeftOut.{is_left_out_kind}

abbrev pub is_left_out : List ℕ → Token → Bool
is_left_out text token = is_left_out_kind token.kind (piece text token.span.start token.span.end)
