-- The lines that are written as they stand, piece by piece.
use Rattle.std.proofs.Common.{◌≡◌, ◌∙◌, ℕ, List, ◌++◌, codes, append_assoc, ap, refl, sym, Bool, true, false}
use Rattle.std.specs.Prelude.{decimal, Result, Ok, Err, IfOk, if◌then◌else◌}
use Rattle.std.specs.Fmt.{digits}
use Rattle.serde_json.proofs.OnLiterals.{serde_json_on_literals}
use Rattle.reactor_core.specs.declared.entry.SlotWord.{SlotWord}
use Rattle.reactor_core.specs.declared.entry.SlotWord.TheVariants as word
use Rattle.reactor_core.specs.Meaning.{word_text, is_step}
use Rattle.access_core.specs.declared.reply.PolicyWord.{PolicyWord}
use Rattle.access_core.specs.declared.reply.PolicyWord.TheVariants as change
use Rattle.access_core.specs.declared.reply.Reply.TheVariants.{Added, Changed, Check, Login, Audit}
use Rattle.access_core.specs.Replies.{word_text as change_text}
use Rattle.wire_lines.specs.Replies.{line_of}
use Rattle.wire_lines.specs.Inner.Pieces.{added_begin}

-- what stands after a place
abbrev pub version_end : ℕ → List ℕ
version_end version = codes ",\"version\":" ++ (decimal version ++ codes "}\n")

-- how the line of a step begins, and that of another word
pub step_begins : (asked : SlotWord) (instants : ℕ) → is_step asked ≡ true
    → (codes "{\"instant\":" ++ decimal instants) ++ codes ",\"ok\":\"" ≡ added_begin asked instants
step_begins asked instants steps =
    ap (λ (b : Bool). if b then (codes "{\"instant\":" ++ decimal instants) ++ codes ",\"ok\":\""
    else codes "{\"ok\":\"") (sym steps)

pub plain_begins : (asked : SlotWord) (instants : ℕ) → is_step asked ≡ false
    → codes "{\"ok\":\"" ≡ added_begin asked instants
plain_begins asked instants plain =
    ap (λ (b : Bool). if b then (codes "{\"instant\":" ++ decimal instants) ++ codes ",\"ok\":\""
    else codes "{\"ok\":\"") (sym plain)

-- the line of a command that added an entry
pub added_text : (asked : SlotWord) (instants place version : ℕ)
    → added_begin asked instants ++ (word_text asked ++ (codes "\",\"place\":" ++
    (decimal place ++ version_end version)))
    ≡ line_of (Added (record { word = asked; place = place; version = version; instants = instants }))
unfolding serde_json_on_literals digits
added_text word.Load instants place version = simp append_assoc
added_text word.Offer instants place version = simp append_assoc
added_text word.Discard instants place version = simp append_assoc
added_text word.Step instants place version = simp append_assoc
added_text word.Unload instants place version = simp append_assoc

pub login_text : (session version : ℕ)
    → codes "{\"ok\":\"login\",\"session\":" ++ (decimal session ++ version_end version)
    ≡ line_of (Login session version)
unfolding serde_json_on_literals digits
login_text session version = simp append_assoc

pub audit_text : (entries instants version : ℕ)
    → codes "{\"entries\":" ++ (decimal entries ++ (codes ",\"instants\":" ++ (decimal instants
    ++ (codes ",\"ok\":\"audit\"" ++ version_end version))))
    ≡ line_of (Audit entries instants version)
unfolding serde_json_on_literals digits
audit_text entries instants version = simp append_assoc

changed_text : (c : PolicyWord) (version : ℕ) → codes "{\"ok\":\""
    ++ (change_text c ++ (codes "\"" ++ version_end version))
    ≡ line_of (Changed c version)
unfolding serde_json_on_literals digits
changed_text change.AddUser version = simp append_assoc
changed_text change.DeleteUser version = simp append_assoc
changed_text change.AddRole version = simp append_assoc
changed_text change.DeleteRole version = simp append_assoc
changed_text change.AssignUser version = simp append_assoc
changed_text change.DeassignUser version = simp append_assoc
changed_text change.GrantPermission version = simp append_assoc
changed_text change.RevokePermission version = simp append_assoc
changed_text change.AddInheritance version = simp append_assoc
changed_text change.DeleteInheritance version = simp append_assoc
changed_text change.CreateDsdSet version = simp append_assoc
changed_text change.DeleteDsdSet version = simp append_assoc
changed_text change.DeleteSession version = simp append_assoc
changed_text change.AddActiveRole version = simp append_assoc
changed_text change.DropActiveRole version = simp append_assoc

pub changed_word : (c : PolicyWord) (told : List ℕ) (version : ℕ) → told ≡ change_text c
    → codes "{\"ok\":\"" ++ (told ++ (codes "\"" ++ version_end version)) ≡ line_of (Changed c version)
changed_word c told version same =
    ap (λ (w : List ℕ). codes "{\"ok\":\"" ++ (w ++ (codes "\"" ++ version_end version))) same ∙ changed_text c version

pub allowed_text : (allowed : Bool) → allowed ≡ true
    → codes "{\"allowed\":true,\"ok\":\"check\"}\n" ≡ line_of (Check allowed)
unfolding serde_json_on_literals digits
allowed_text true e = refl
allowed_text false e = cc

pub denied_text : (allowed : Bool) → allowed ≡ false
    → codes "{\"allowed\":false,\"ok\":\"check\"}\n" ≡ line_of (Check allowed)
unfolding serde_json_on_literals digits
denied_text false e = refl
denied_text true e = cc

-- a line of the same bytes in other words
pub by_text : {T E : Type 0} (items : T → List ℕ) {text whole : List ℕ} → text ≡ whole → (o : Result T E)
    → IfOk o (λ line. items line ≡ text) → IfOk o (λ line. items line ≡ whole)
by_text items same (Ok line) h = h ∙ same
by_text items same (Err e) h = h
