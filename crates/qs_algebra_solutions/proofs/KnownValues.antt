-- Which elements of a list are known already, by a set of those that were met.
use Rattle.std.proofs.Common.{◌≡◌, Bool, true, false, not, refl, sym, ◌∙◌}
use Rattle.std.specs.Bool.{OnFalse}

pub was_new : (a b : Bool) → a ≡ not b → a ≡ true → b ≡ false
was_new a true e h = let f : false ≡ true = sym e ∙ h in cc
was_new a false e h = refl

pub was_known : (a b : Bool) → a ≡ not b → a ≡ false → b ≡ true
was_known a true e h = refl
was_known a false e h = let f : true ≡ false = sym e ∙ h in cc

pub on_false : (b : Bool) (P : Type 0) → b ≡ false → OnFalse b P → P
on_false true P e h = let f : true ≡ false = e in cc
on_false false P e h = h
