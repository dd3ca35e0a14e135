-- A writer that failed in a connection or after it.
use Rattle.std.proofs.Common.{◌≡◌, ℕ, true, refl, sym, subst}
use Rattle.wire_reader.specs.Meters.{has_failed}
use Rattle.wire_reader.specs.declared.serving.EndReason.{EndReason}
use Rattle.wire_reader.specs.declared.serving.EndReason.TheVariants as why
use Rattle.program_run.specs.Runs.{CannotWrite}

-- where a fault of its writer ended the connection, the writer failed in it; else it failed after it
pub failed_in_run : (y : EndReason) (first mid last : ℕ) → CannotWrite y mid last
    → (y ≡ why.WriteFault → has_failed first mid ≡ true)
    → ((y ≡ why.WriteFault → ⊥) → mid ≡ first) → has_failed first last ≡ true
failed_in_run why.WriteFault first mid last same failed kept =
    subst (λ n. has_failed first n ≡ true) (sym same) (failed refl)
failed_in_run why.Closed first mid last fails failed kept =
    subst (λ n. has_failed n last ≡ true) (kept (λ no. cc)) fails
failed_in_run why.TooLong first mid last fails failed kept =
    subst (λ n. has_failed n last ≡ true) (kept (λ no. cc)) fails
failed_in_run why.ReadFault first mid last fails failed kept =
    subst (λ n. has_failed n last ≡ true) (kept (λ no. cc)) fails
failed_in_run why.Memory first mid last fails failed kept =
    subst (λ n. has_failed n last ≡ true) (kept (λ no. cc)) fails
