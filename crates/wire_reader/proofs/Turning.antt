-- A turn of a connection.
use Rattle.std.proofs.Common.{◌≡◌, ◌∙◌, ℕ, List, [], ◌∷◌, ◌++◌, Option, Some, None, Result, Ok, Err, append-nil, refl}
use Rattle.std.proofs.Common.{sym, ap, subst, inl}
use Rattle.std.specs.Io.KnownBytes.{prepend_known}
use Rattle.std.specs.Prelude.{IfSome, IfOk}
use Rattle.wire_reader.specs.declared.replies.WriteFault.{WriteFault}
use Rattle.wire_reader.specs.declared.lines.LineFault.{LineFault}
use Rattle.wire_reader.specs.declared.lines.LineFault.TheVariants as line_fault
use Rattle.wire_reader.specs.declared.lines.Line.{Line}
use Rattle.wire_reader.specs.declared.lines.Line.TheVariants.{Whole, End}
use Rattle.wire_reader.specs.declared.lines.Ending.{Ending}
use Rattle.wire_reader.specs.Lines.{Gives}
use Rattle.wire_reader.specs.Readers.{answer_after}
use Rattle.wire_reader.specs.Inner.Turns.{IsSound, IsNextOf}
use Rattle.wire_reader.specs.Writing.{WritesUpTo, WritesFront}
use Rattle.wire_reader.specs.declared.serving.EndReason.{EndReason}
use Rattle.wire_reader.specs.declared.serving.EndReason.TheVariants as why
use Rattle.wire_reader.specs.Serving.{BetweenLines, NothingAhead, AnswersLine, Exchange, texts, Ends, Puts, Serves}
use Rattle.wire_reader.proofs.Written.{up_to_more}

next_of : (h : List ℕ) (r : Option (List ℕ)) (res : Result Line LineFault) (line h' : List ℕ) (r' : Option (List ℕ))
    → Gives h r res line h' r' → IsNextOf (prepend_known h r) res line (prepend_known h' r')
next_of h None (Ok Whole) line h' r' k = tt
next_of h None (Ok End) line h' r' k = tt
next_of h None (Err line_fault.TooLong) line h' r' k = tt
next_of h None (Err line_fault.Read) line h' r' k = tt
next_of h (Some xs) res line h' None k = absurd k
next_of h (Some xs) (Ok Whole) line h' (Some ys) k = k
next_of h (Some xs) (Ok End) line h' (Some ys) k = k.0
next_of h (Some xs) (Err line_fault.TooLong) line h' (Some ys) k = k
next_of h (Some xs) (Err line_fault.Read) line h' (Some ys) k = tt

over : (h : List ℕ) (r : Option (List ℕ)) (e : Ending) → IsSound (Some e) h r → NothingAhead (prepend_known h r)
over h None e s = tt
over h (Some xs) e s = ap (λ (l : List ℕ). l ++ xs) s.1.none_held ∙ s.1.none_left

-- what the next line is, also where the end was met before
pub next_is : (Q : Type 0) (e : Option Ending) (h : List ℕ) (r : Option (List ℕ)) (res : Result Line LineFault)
    (line h' : List ℕ) (r' : Option (List ℕ)) → IsSound e h r
    → (e ≡ None → Gives h r res line h' r') → IfSome e (λ x. (res ≡ answer_after x) × Q)
    → IsNextOf (prepend_known h r) res line (prepend_known h' r')
next_is Q None h r res line h' r' s g again = next_of h r res line h' r' (g refl)
next_is Q (Some e) h r res line h' r' s g again =
    let is : res ≡ Ok End = again.0 ∙ ap answer_after s.0 in
    subst (λ (x : Result Line LineFault). IsNextOf (prepend_known h r) x line (prepend_known h' r')) (sym is)
    (over h r e s)

-- the same where the writer may have failed
pub ok_next_is : (Q : Type 0) (e : Option Ending) (h : List ℕ) (r : Option (List ℕ))
    (res : Result (Result Line LineFault) WriteFault) (line h' : List ℕ) (r' : Option (List ℕ)) → IsSound e h r
    → IfOk res (λ a. e ≡ None → Gives h r a line h' r') → IfOk res (λ a. IfSome e (λ x. (a ≡ answer_after x) × Q))
    → IfOk res (λ a. IsNextOf (prepend_known h r) a line (prepend_known h' r'))
ok_next_is Q e h r (Ok a) line h' r' s g again = next_is Q e h r a line h' r' s g again
ok_next_is Q e h r (Err f) line h' r' s g again = tt

one_text : (e : Exchange) → texts (e ∷ []) ++ [] ≡ e.text
one_text e = append-nil (e.text ++ []) ∙ append-nil e.text

-- nothing comes after what waits
pub silent : {A : Type 0} (tells : A → List ℕ → List ℕ → A → Type 0) (fails : A → List ℕ → A → Type 0)
    (too_long_answer : List ℕ) (before : BetweenLines A) (y : EndReason) (desk : A) (a b : Option (List ℕ))
    (w left : List ℕ)
    → Ends fails too_long_answer before y desk [] → Puts y a b w left
    → Serves tells fails too_long_answer before y desk a b w left
silent tells fails too_long_answer before y desk a b w left e p =
    record {
      exchanges = [];
      last = before;
      more = [];
      runs = refl;
      ends = e;
      puts = subst (λ (l : List ℕ). Puts y a b l left) (sym (append-nil w)) p;
    }

-- the answer comes after what waits
pub refused : {A : Type 0} (tells : A → List ℕ → List ℕ → A → Type 0) (fails : A → List ℕ → A → Type 0)
    (too_long_answer : List ℕ) (before : BetweenLines A) (y : EndReason) (desk : A) (a b : Option (List ℕ))
    (w left : List ℕ)
    → Ends fails too_long_answer before y desk too_long_answer → Puts y a b (w ++ too_long_answer) left
    → Serves tells fails too_long_answer before y desk a b w left
refused tells fails too_long_answer before y desk a b w left e p =
    record { exchanges = []; last = before; more = too_long_answer; runs = refl; ends = e; puts = p }

-- an answer was written in part
pub in_part : {A : Type 0} (tells : A → List ℕ → List ℕ → A → Type 0) (fails : A → List ℕ → A → Type 0)
    (too_long_answer : List ℕ) (before after : BetweenLines A) (line text : List ℕ) (a b : Option (List ℕ))
    (w left : List ℕ)
    → AnswersLine tells before line text after → WritesFront a b (w ++ text)
    → Serves tells fails too_long_answer before why.WriteFault after.desk a b w left
in_part tells fails too_long_answer before after line text a b w left answered p =
    let e : Exchange = record { line = line; text = text } in
    record {
      exchanges = e ∷ [];
      last = after;
      more = [];
      runs = (after, answered, refl);
      ends = inl (record { same_desk = refl; nothing = refl });
      puts = subst (λ (l : List ℕ). WritesFront a b (w ++ l)) (sym (one_text e)) p;
    }

-- a front after what was written before
pub front_then : (a m b : Option (List ℕ)) (w waits text : List ℕ) → WritesUpTo a m w waits
    → WritesFront m b (waits ++ text) → WritesFront a b (w ++ text)
front_then a m b w waits text u f = (f.0, up_to_more a m b w waits text f.0 u f.1)
