use Rattle.std.proofs.Common.{refl}
use Rattle.state_search.specs.Inner.Numbers.{number_of}
use Rattle.state_search.proofs.places.number_of.Goals as goal

pub returns : goal.returns
unfolding number_of
returns g c = rw (c.finish.ensures, c.hash.ensures, c.default-hasher.ensures) refl
