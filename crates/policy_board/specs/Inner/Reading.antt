-- What a read leaves of what a seat knows, apart from its reader (this project's own form).
use Rattle.std.specs.Prelude.{◌≡◌, ◌⊎◌, ◌<◌, ◌≤◌, ℕ, List, length}
use Rattle.rbac_policy.specs.declared.commands.Entry.{Entry}
use Rattle.rbac_admin.specs.PolicyLists.{Begins, IsPolicyList}
use Rattle.policy_board.specs.declared.refusal.BoardRefusal.{BoardRefusal}
use Rattle.policy_board.specs.declared.refusal.BoardRefusal.TheVariants.{Behind, Memory}

-- what is known, and the seen number
pub record Notes : Type 0 where
  pub known : List Entry
  pub seen : ℕ

-- a list was read that begins with all that the reader had read and all that was known, and is no shorter than the seen
-- number. It is known then
pub record IsRead (read : List Entry) (old : Notes) (list : List Entry) (new : Notes) : Type 0 where
  pub is_list : IsPolicyList list
  pub further : Begins read list
  pub later : Begins old.known list
  pub fresh : old.seen ≤ length list
  pub known : new.known ≡ list
  pub seen : new.seen ≡ length list

-- the list that was read is shorter than the seen number, and the refusal tells both lengths
pub record IsStale (read : List Entry) (old : Notes) (refusal : BoardRefusal) (list : List Entry) : Type 0 where
  pub is_list : IsPolicyList list
  pub further : Begins read list
  pub stale : length list < old.seen
  pub answered : refusal ≡ Behind (length list) old.seen

-- a refused read, after which the reader has this list, leaves what is known: what was read is too old (Behind), or
-- nothing could be read
pub record IsNotRead (read : List Entry) (old : Notes) (refusal : BoardRefusal) (list : List Entry)
    (new : Notes) : Type 0 where
  pub known : new.known ≡ old.known
  pub seen : new.seen ≡ old.seen
  pub cause : IsStale read old refusal list ⊎ ((refusal ≡ Memory) × (list ≡ read))
