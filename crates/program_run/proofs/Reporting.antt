-- A text that is held back in part, and then written out.
use Rattle.std.proofs.Common.{◌∙◌, ℕ, List, ◌++◌, Option, append_assoc, sym, ap, subst}
use Rattle.std.specs.Io.KnownBytes.{Appends}
use Rattle.std.proofs.KnownBytes.{Appends-trans}
use Rattle.wire_reader.specs.Writing.{WritesUpTo, WritesFront}

-- all that was left of the text is written
pub rest_written : (a b c : Option (List ℕ)) (text left : List ℕ) → WritesUpTo a b text left → Appends b c left
    → Appends a c text
rest_written a b c text left u more =
    subst (Appends a c) (sym u.whole) (Appends-trans a b c u.front left u.written more)

-- a front of what was left of the text is written
pub rest_begun : (a b c : Option (List ℕ)) (text left : List ℕ) → WritesUpTo a b text left → WritesFront b c left
    → WritesFront a c text
rest_begun a b c text left u v = (
  v.0,
  record {
    front = u.front ++ v.1.front;
    whole = u.whole ∙ ap (λ (l : List ℕ). u.front ++ l) v.1.whole ∙ sym (append_assoc u.front v.1.front v.0);
    written = Appends-trans a b c u.front v.1.front u.written v.1.written;
  },
)
