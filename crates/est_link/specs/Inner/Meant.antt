-- What signals mean where a body is inside another (this project's own form).
use Rattle.est_kernel.specs.Term.{Name, of}
use Rattle.est_link.specs.Linking.{Meant, query_meant}

-- a signal that means itself
abbrev pub itself : Name → Meant
itself n = record { asked = of n; sent = n }

-- what a meaning becomes where each signal means what g says
abbrev pub again : (Name → Meant) → Meant → Meant
again g m = record { asked = query_meant g m.asked; sent = (g m.sent).sent }
