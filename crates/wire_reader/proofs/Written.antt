-- Writing a text in parts.
use Rattle.std.proofs.Common.{◌≡◌, ◌∙◌, ℕ, List, [], ◌++◌, Option, take, drop, append_assoc, append-nil}
use Rattle.std.proofs.Common.{take-append-drop, sym, ap, subst}
use Rattle.std.specs.Io.KnownBytes.{Appends}
use Rattle.std.proofs.KnownBytes.{Appends-trans}
use Rattle.wire_reader.specs.Writing.{WritesUpTo}

-- a write took this many bytes of what was left
pub written_more : (a b c : Option (List ℕ)) (text left : List ℕ) (n : ℕ) → WritesUpTo a b text left
    → Appends b c (take n left) → WritesUpTo a c text (drop n left)
written_more a b c text left n w more = record {
  front = w.front ++ take n left;
  whole = w.whole ∙ ap (λ (l : List ℕ). w.front ++ l) (sym (take-append-drop n left))
      ∙ sym (append_assoc w.front (take n left) (drop n left));
  written = Appends-trans a b c w.front (take n left) w.written more;
}

-- more text comes after what is left
pub up_to_more : (a b c : Option (List ℕ)) (text left more rest : List ℕ) → WritesUpTo a b text left
    → WritesUpTo b c (left ++ more) rest → WritesUpTo a c (text ++ more) rest
up_to_more a b c text left more rest u v = record {
  front = u.front ++ v.front;
  whole = ap (λ (l : List ℕ). l ++ more) u.whole ∙ append_assoc u.front left more
      ∙ ap (λ (l : List ℕ). u.front ++ l) v.whole ∙ sym (append_assoc u.front v.front rest);
  written = Appends-trans a b c u.front v.front u.written v.written;
}

-- all that was left was written, and then a part of more
pub up_to_then : (a b c : Option (List ℕ)) (text more rest : List ℕ) → Appends a b text → WritesUpTo b c more rest
    → WritesUpTo a c (text ++ more) rest
up_to_then a b c text more rest u v = record {
  front = text ++ v.front;
  whole = ap (λ (l : List ℕ). text ++ l) v.whole ∙ sym (append_assoc text v.front rest);
  written = Appends-trans a b c text v.front u v.written;
}

-- a front of a text is a front of a longer one
pub front_more : (a b : Option (List ℕ)) (text left more : List ℕ) → WritesUpTo a b text left
    → WritesUpTo a b (text ++ more) (left ++ more)
front_more a b text left more u = record {
  front = u.front;
  whole = ap (λ (l : List ℕ). l ++ more) u.whole ∙ append_assoc u.front left more;
  written = u.written;
}

-- a whole text
pub all_written : (a b : Option (List ℕ)) (text : List ℕ) → Appends a b text → WritesUpTo a b text []
all_written a b text u = record { front = text; whole = sym (append-nil text); written = u }

-- what waited was written, and then a text, so that nothing waits
pub whole_then : (a b c : Option (List ℕ)) (text more rest : List ℕ) → Appends a b text → rest ≡ []
    → Appends b c more → WritesUpTo a c (text ++ more) rest
whole_then a b c text more rest u none v =
    subst (WritesUpTo a c (text ++ more)) (sym none) (up_to_then a b c text more [] u (all_written b c more v))
