-- The derived order of keys is that of ORDER BY.
use Rattle.std.proofs.Common.{◌≡◌, refl}
use Rattle.qs_expr_values.specs.Sorting.{compare_keys}
use Rattle.qs_expr_values.specs.contracts.key.KeyOrd.TheImpl as ord
use Rattle.qs_expr_values.specs.declared.key.Key.{Key}
use Rattle.qs_expr_values.specs.declared.key.Key.TheVariants.{Unbound, Blank, Iri, Boolean, Integer, String, Other}

pub cmp_is : (a b : Key) → ord.ghosts.cmp a b ≡ compare_keys a b
cmp_is Unbound Unbound = refl
cmp_is Unbound (Blank b) = refl
cmp_is Unbound (Iri b) = refl
cmp_is Unbound (Boolean b) = refl
cmp_is Unbound (Integer b) = refl
cmp_is Unbound (String b) = refl
cmp_is Unbound (Other b0 b1 b2) = refl
cmp_is (Blank a) Unbound = refl
cmp_is (Blank a) (Blank b) = refl
cmp_is (Blank a) (Iri b) = refl
cmp_is (Blank a) (Boolean b) = refl
cmp_is (Blank a) (Integer b) = refl
cmp_is (Blank a) (String b) = refl
cmp_is (Blank a) (Other b0 b1 b2) = refl
cmp_is (Iri a) Unbound = refl
cmp_is (Iri a) (Blank b) = refl
cmp_is (Iri a) (Iri b) = refl
cmp_is (Iri a) (Boolean b) = refl
cmp_is (Iri a) (Integer b) = refl
cmp_is (Iri a) (String b) = refl
cmp_is (Iri a) (Other b0 b1 b2) = refl
cmp_is (Boolean a) Unbound = refl
cmp_is (Boolean a) (Blank b) = refl
cmp_is (Boolean a) (Iri b) = refl
cmp_is (Boolean a) (Boolean b) = refl
cmp_is (Boolean a) (Integer b) = refl
cmp_is (Boolean a) (String b) = refl
cmp_is (Boolean a) (Other b0 b1 b2) = refl
cmp_is (Integer a) Unbound = refl
cmp_is (Integer a) (Blank b) = refl
cmp_is (Integer a) (Iri b) = refl
cmp_is (Integer a) (Boolean b) = refl
cmp_is (Integer a) (Integer b) = refl
cmp_is (Integer a) (String b) = refl
cmp_is (Integer a) (Other b0 b1 b2) = refl
cmp_is (String a) Unbound = refl
cmp_is (String a) (Blank b) = refl
cmp_is (String a) (Iri b) = refl
cmp_is (String a) (Boolean b) = refl
cmp_is (String a) (Integer b) = refl
cmp_is (String a) (String b) = refl
cmp_is (String a) (Other b0 b1 b2) = refl
cmp_is (Other a0 a1 a2) Unbound = refl
cmp_is (Other a0 a1 a2) (Blank b) = refl
cmp_is (Other a0 a1 a2) (Iri b) = refl
cmp_is (Other a0 a1 a2) (Boolean b) = refl
cmp_is (Other a0 a1 a2) (Integer b) = refl
cmp_is (Other a0 a1 a2) (String b) = refl
cmp_is (Other a0 a1 a2) (Other b0 b1 b2) = refl
