-- Sets of names.
use Rattle.std.proofs.Common.{◌≡◌, ◌||◌, Bool, true, false, cond, refl}

pub put : (b x : Bool) → cond b true x ≡ (x || b)
put true true = refl
put true false = refl
put false true = refl
put false false = refl
