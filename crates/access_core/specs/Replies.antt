-- The words of replies (this project's own form).
use Rattle.std.specs.Prelude.{ℕ, List, codes}
use Rattle.access_core.specs.declared.reply.PolicyWord.{PolicyWord}
use Rattle.access_core.specs.declared.reply.PolicyWord.TheVariants as change

-- the word by which a line asks for a policy command, and by which its reply names it
abbrev pub word_text : PolicyWord → List ℕ
word_text change.AddUser = codes "adduser"
word_text change.DeleteUser = codes "deluser"
word_text change.AddRole = codes "addrole"
word_text change.DeleteRole = codes "delrole"
word_text change.AssignUser = codes "assign"
word_text change.DeassignUser = codes "deassign"
word_text change.GrantPermission = codes "grant"
word_text change.RevokePermission = codes "revoke"
word_text change.AddInheritance = codes "inherit"
word_text change.DeleteInheritance = codes "disinherit"
word_text change.CreateDsdSet = codes "dsd"
word_text change.DeleteDsdSet = codes "undsd"
word_text change.DeleteSession = codes "logout"
word_text change.AddActiveRole = codes "activate"
word_text change.DropActiveRole = codes "drop"
