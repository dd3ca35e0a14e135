-- What a seat keeps of its commands on slots (this project's own form).
use Rattle.std.specs.Prelude.{◌≡◌, ℕ, List, [], ◌∷◌, ◌++◌, Option}
use Rattle.history_receipts.specs.declared.receipt.Kept.{Kept}
use Rattle.history_receipts.specs.declared.receipt.Kept.TheVariants.{Slot}
use Rattle.access_core.specs.declared.reply.Added.{Added as AddedEntry}
use Rattle.access_core.specs.declared.reply.Reply.{Reply}
use Rattle.access_core.specs.declared.reply.Reply.TheVariants.{Refused, Login, Changed, Added, Look as Shown}
use Rattle.access_core.specs.declared.reply.Reply.TheVariants.{Audit as Audited, Check}

-- one receipt is added at the end of the seat's list: of this slot and this session, with what was told of the entry,
-- the signal that was offered, and a number
pub record AddsReceipt (slot session : ℕ) (signal : Option (List ℕ)) (told : AddedEntry)
    (before after : List Kept) : Type 0 where
  pub number : ℕ
  pub added : after ≡ before
      ++ Slot (record {
        slot = slot;
        place = told.place;
        version = told.version;
        session = session;
        number = number;
        word = told.word;
        signal = signal;
      }) ∷ []

-- what the seat keeps after the reply to a command that offers this signal, or none: where the reply tells of an entry,
-- its receipt at the end, and else what it kept
abbrev pub Keeps : (slot session : ℕ) → Option (List ℕ) → Reply → (before after : List Kept) → Type 0
Keeps slot session signal (Added told) before after = AddsReceipt slot session signal told before after
Keeps slot session signal (Refused refusal) before after = after ≡ before
Keeps slot session signal (Login number version) before after = after ≡ before
Keeps slot session signal (Changed change version) before after = after ≡ before
Keeps slot session signal (Shown instant signals version) before after = after ≡ before
Keeps slot session signal (Audited entries instants version) before after = after ≡ before
Keeps slot session signal (Check allowed) before after = after ≡ before
