-- What the tests of names, lists of names and objects say.
use Rattle.std.proofs.Common.{◌≡◌, ℕ, List, Decides, refl}
use Rattle.std.specs.Str.{bytes_eq}
use Rattle.std.specs.Cmp.Lexicographic.{pointwise}
use Rattle.std.proofs.lemmas.Slice.Eq.{bytes_eq-Decides, slice_eq-Decides}
use Rattle.rbac_policy.specs.declared.objects.Object.{Object}
use Rattle.rbac_policy.specs.Objects.{same_object}
use Rattle.rbac_policy.specs.Inner.ObjectLaws.{objects}

pub names_one : (a b : List ℕ) → Decides (bytes_eq a b) (a ≡ b)
names_one a b = bytes_eq-Decides a b

pub lists_one : (a b : List (List ℕ)) → Decides (pointwise bytes_eq a b) (a ≡ b)
lists_one a b = slice_eq-Decides bytes_eq-Decides a b (pointwise bytes_eq a b) refl

pub objects_one : (a b : Object) → Decides (same_object a b) (a ≡ b)
objects_one a b = objects a b
