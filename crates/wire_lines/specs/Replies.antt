-- What a reply line says, as JSON (this project's own form).
use Rattle.std.specs.Prelude.{ℕ, Bool, List, [], ◌∷◌, ◌++◌, codes, map, if◌then◌else◌}
use Rattle.std.specs.Cmp.Lexicographic.{slice_cmp}
use Rattle.std.specs.Ordering.{nat_cmp, is_gt}
use Rattle.serde_json.specs.Data.{Data, boolean, string, array, object, item, no_items, Members, member, no_members}
use Rattle.serde_json.specs.View.{items_of}
use Rattle.serde_json.specs.Written.{compact_text}
use Rattle.refusal_rules.specs.Rows.{Row, Field, Fields, Number, Text, Texts}
use Rattle.reactor_core.specs.declared.entry.SlotWord.{SlotWord}
use Rattle.reactor_core.specs.Meaning.{word_text, is_step}
use Rattle.access_core.specs.declared.refusal.Refusal.{Refusal}
use Rattle.access_core.specs.declared.reply.Reply.{Reply}
use Rattle.access_core.specs.declared.reply.Reply.TheVariants.{Refused, Login, Changed, Added, Look, Audit, Check}
use Rattle.access_core.specs.declared.reply.ShownSignal.{ShownSignal}
use Rattle.access_core.specs.Refusals.{row_of}
use Rattle.access_core.specs.Replies.{word_text as change_text}
use Rattle.wire_lines.specs.Requests.{text_member, number_member, texts_member}

-- a refusal's number and name, and what it names
abbrev pub refused_with : (code : ℕ) → (fault : List ℕ) → Members → Members
refused_with code fault named = number_member (codes "code") code (text_member (codes "fault") fault named)

-- what is named under a key
abbrev pub field_member : List ℕ → Field → Members → Members
field_member key (Number n) others = number_member key n others
field_member key (Text text) others = text_member key text others
field_member key (Texts texts) others = texts_member key texts others

-- what is named, in the order of the keys
abbrev pub fields_members : Fields → Members
fields_members [] = no_members
fields_members (field ∷ others) = field_member field.0 field.1 (fields_members others)

-- the key comes before `fault`
abbrev pub is_before_fault : List ℕ → Bool
is_before_fault key = is_gt (slice_cmp nat_cmp (codes "fault") key)

-- the name of a refusal, in its place among what the refusal names
abbrev pub with_fault : (fault : List ℕ) → Fields → Members
with_fault fault [] = text_member (codes "fault") fault no_members
with_fault fault (field ∷ others) =
    if is_before_fault field.0 then field_member field.0 field.1 (with_fault fault others)
    else text_member (codes "fault") fault (field_member field.0 field.1 (fields_members others))

-- a refusal, by its row: its number, and in the order of the keys its name and what it names (this project's own form)
abbrev pub row_members : Row → Members
row_members row = number_member (codes "code") row.code (with_fault row.name row.fields)

-- a refusal
abbrev pub refusal_members : Refusal → Members
refusal_members given = row_members (row_of given)

-- a signal's name, and whether it is present
abbrev pub shown_json : ShownSignal → Data
shown_json s = array (item (string s.name) (item (boolean s.present) no_items))

-- the signals that are shown, in their order
abbrev pub signals_json : List ShownSignal → Data
signals_json signals = array (items_of (map shown_json signals))

-- the member of a step's reply that says the number of its instant, and those after it; of another word those alone
abbrev pub with_instant : SlotWord → ℕ → Members → Members
with_instant asked instant others = if is_step asked then number_member (codes "instant") instant others else others

-- the members of a reply, in the order of their keys (this project's own form)
abbrev pub reply_members : Reply → Members
reply_members (Refused r) = refusal_members r
reply_members (Login session version) = text_member (codes "ok") (codes "login")
    (number_member (codes "session") session (number_member (codes "version") version no_members))
reply_members (Changed change version) = text_member (codes "ok") (change_text change)
    (number_member (codes "version") version no_members)
reply_members (Added added) =
    with_instant added.word added.instants
    (text_member (codes "ok") (word_text added.word)
    (number_member (codes "place") added.place (number_member (codes "version") added.version no_members)))
reply_members (Look instant signals version) =
    number_member (codes "instant") instant
    (text_member (codes "ok") (codes "look")
    (member (codes "signals") (signals_json signals) (number_member (codes "version") version no_members)))
reply_members (Audit entries instants version) =
    number_member (codes "entries") entries
    (number_member (codes "instants") instants
    (text_member (codes "ok") (codes "audit") (number_member (codes "version") version no_members)))
reply_members (Check allowed) = member (codes "allowed") (boolean allowed)
    (text_member (codes "ok") (codes "check") no_members)

-- what a reply says
abbrev pub reply_json : Reply → Data
reply_json reply = object (reply_members reply)

-- compact JSON, and the LF that ends the line
abbrev pub line_of : Reply → List ℕ
line_of reply = compact_text (reply_json reply) ++ 10 ∷ []
