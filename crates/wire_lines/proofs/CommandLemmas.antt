-- What is read of the tokens is what the table of requests says, in both directions.
use Rattle.std.proofs.Common.{◌≡◌, ◌≤◌, ◌∙◌, ℕ, List, [], ◌∷◌, ◌++◌, map, codes, Bool, true, false, cond, Option, Some}
use Rattle.std.proofs.Common.{option_map, option_and_then, bytes_eq, refl, sym, ap, subst, arith}
use Rattle.std.proofs.Common.{append-nil}
use Rattle.std.proofs.lemmas.Option.{same_Some}
use Rattle.json.specs.Token as token
use Rattle.json.specs.Token.{Token}
use Rattle.json.specs.Json as json
use Rattle.json.specs.Json.{value, if_last}
use Rattle.json.specs.Lex.{tokens}
use Rattle.json.specs.Tree.{json_tokens, members_tokens, members_depth}
use Rattle.json.proofs.Printed.Trees.{value-json_tokens}
use Rattle.serde_json.specs.Data.{Data, string, object, Members, member, no_members, put}
use Rattle.serde_json.specs.Read.{read, of_json, of_members, max_depth}
use Rattle.serde_json.specs.View.{items_of}
use Rattle.serde_json.specs.Written.{outline, IsInOrder, items_have_float, members_have_float}
use Rattle.serde_json.proofs.Texts.{tokens_from_order}
use Rattle.est_text.specs.Identifiers.{is_identifier}
use Rattle.rbac_policy.specs.declared.commands.AdminCommand.{AdminCommand}
use Rattle.rbac_policy.specs.declared.commands.AdminCommand.TheVariants.{AddUser, DeleteUser, AddRole, DeleteRole}
use Rattle.rbac_policy.specs.declared.commands.AdminCommand.TheVariants.{AssignUser, DeassignUser, GrantPermission}
use Rattle.rbac_policy.specs.declared.commands.AdminCommand.TheVariants.{RevokePermission, AddInheritance}
use Rattle.rbac_policy.specs.declared.commands.AdminCommand.TheVariants.{DeleteInheritance, CreateDsdSet, DeleteDsdSet}
use Rattle.rbac_policy.specs.declared.commands.AdminCommand.TheVariants.{CreateSession, DeleteSession, AddActiveRole}
use Rattle.rbac_policy.specs.declared.commands.AdminCommand.TheVariants.{DropActiveRole}
use Rattle.rbac_policy.specs.Names.{is_name}
use Rattle.rbac_policy.specs.Texts.{operation_text, operation_of, object_text, object_of, IsObject}
use Rattle.rbac_policy.specs.declared.objects.Operation.{Operation}
use Rattle.rbac_policy.specs.declared.objects.Object.{Object}
use Rattle.rbac_policy.proofs.OfNames.ObjectTexts.{operation_of-exact, object_of-exact, chained, object_of-object_text}
use Rattle.rbac_policy.proofs.OfNames.ObjectTexts.{operation_of-operation_text}
use Rattle.reactor_core.specs.declared.entry.Move.TheVariants.{Load, Offer, Discard, Step, Unload}
use Rattle.reactor_core.specs.Answers.{load_of}
use Rattle.access_core.specs.declared.command.SlotCommand.TheVariants.{Move, Look, Audit}
use Rattle.wire_lines.proofs.MemberLemmas.{mapped, same_text, brace_is, end_is, last_is, IsMember}
use Rattle.wire_lines.proofs.MemberLemmas.{text_is, text_member_is, tested_is, object_is, operation_is}
use Rattle.wire_lines.proofs.MemberLemmas.{number_member_is, number_back, roles_are, roles_back}
use Rattle.wire_lines.specs.Requests as said
use Rattle.wire_lines.specs.Requests.{command_member, said_members, Said, SaidFits, IsName, members_of, Fits, IsRequest}
use Rattle.wire_lines.specs.Requests.{IsValue}
use Rattle.wire_lines.specs.Inner.Members.{after_key, text_after, number_after}
use Rattle.wire_lines.specs.Inner.Members.{parsed_after, two_values, permission_values, word_at, ends}
use Rattle.wire_lines.specs.Inner.Commands.{Shape, nothing, one_name, two_names, permission, roles_user}
use Rattle.wire_lines.specs.Inner.Commands.{count_name_roles, slot_alone, main_slot_text, signal_slot, instant_slot}
use Rattle.wire_lines.specs.Inner.Commands.{object_operation, request_of, Row, relation_rows, user_or_role_rows}
use Rattle.wire_lines.specs.Inner.Commands.{plain_rows, policy_rows, rows, request_in, request_at}
use Rattle.wire_lines.specs.declared.request.Request.{Request}
use Rattle.wire_lines.specs.declared.request.Request.TheVariants.{Policy, Slot, Check}

-- ---- members, one after another

-- the tokens after a command's word are read as these members
pub record Reads (word : List ℕ) (ts : List Token) (members : Members) : Type 0 where
  pub json : json.Members
  pub same : ts ≡ members_tokens json
  pub reads : of_members json (command_member word no_members) ≡ Some (command_member word members)
  pub shallow : members_depth json ≤ 1

no_member : (word : List ℕ) (ts : List Token) → ts ≡ token.end_object ∷ [] → Reads word ts no_members
no_member word ts h = record { json = json.no_members; same = h; reads = refl; shallow = omega arith }

-- the members stand in order: each key comes after `cmd`
abbrev pub InOrder1 : List ℕ → Type 0
InOrder1 key = (w d : Data) → put key d (member (codes "cmd") w no_members) ≡ member (codes "cmd") w
    (member key d no_members)

abbrev InOrder2 : List ℕ → List ℕ → Type 0
InOrder2 first second =
    (w d e : Data) → put second e (put first d (member (codes "cmd") w no_members)) ≡ member (codes "cmd") w
    (member first d (member second e no_members))

abbrev InOrder3 : List ℕ → List ℕ → List ℕ → Type 0
InOrder3 first second third =
    (w d e f : Data) → put third f (put second e (put first d (member (codes "cmd") w no_members))) ≡ member
    (codes "cmd") w (member first d (member second e (member third f no_members)))

pub one_member : (word key : List ℕ) (ts : List Token) (d : Data) → InOrder1 key
    → IsMember key ts d (token.end_object ∷ []) → Reads word ts (member key d no_members)
one_member word key ts d ordered m =
    record {
      json = json.member key m.json json.no_members;
      same = m.next;
      reads = ap (option_and_then (λ (x : Data). Some (put key x (command_member word no_members)))) m.reads
          ∙ ap Some (ordered (string word) d);
      shallow = omega (arith, m.shallow);
    }

two_members : (word first second : List ℕ) (ts mid : List Token) (d e : Data) → InOrder2 first second
    → IsMember first ts d mid → IsMember second mid e (token.end_object ∷ [])
    → Reads word ts (member first d (member second e no_members))
two_members word first second ts mid d e ordered m n =
    let base = command_member word no_members in
    record {
      json = json.member first m.json (json.member second n.json json.no_members);
      same = m.next ∙ ap (λ (l : List Token). token.key first ∷ (json_tokens m.json ++ l)) n.next;
      reads = ap (option_and_then (λ (x : Data). of_members (json.member second n.json json.no_members)
          (put first x base))) m.reads
          ∙ ap (option_and_then (λ (x : Data). Some (put second x (put first d base)))) n.reads
          ∙ ap Some (ordered (string word) d e);
      shallow = omega (arith, m.shallow, n.shallow);
    }

three_members : (word first second third : List ℕ) (ts mid late : List Token) (d e f : Data)
    → InOrder3 first second third → IsMember first ts d mid → IsMember second mid e late
    → IsMember third late f (token.end_object ∷ [])
    → Reads word ts (member first d (member second e (member third f no_members)))
three_members word first second third ts mid late d e f ordered m n o =
    let base = command_member word no_members in
    record {
      json = json.member first m.json (json.member second n.json (json.member third o.json json.no_members));
      same = m.next ∙ ap (λ (l : List Token). token.key first ∷ (json_tokens m.json ++ l))
          (n.next ∙ ap (λ (l : List Token). token.key second ∷ (json_tokens n.json ++ l)) o.next);
      reads = ap (option_and_then (λ (x : Data). of_members
          (json.member second n.json (json.member third o.json json.no_members)) (put first x base))) m.reads
          ∙ ap (option_and_then (λ (x : Data). of_members (json.member third o.json json.no_members)
          (put second x (put first d base)))) n.reads
          ∙ ap (option_and_then (λ (x : Data). Some (put third x (put second e (put first d base))))) o.reads
          ∙ ap Some (ordered (string word) d e f);
      shallow = omega (arith, m.shallow, n.shallow, o.shallow);
    }

-- a text whose first member is the word, and whose tokens are then read as these members
pub whole_read : (text word : List ℕ) (ts : List Token) (members : Members)
    → tokens text ≡ token.begin_object ∷ token.key (codes "cmd") ∷ token.string word ∷ ts → Reads word ts members
    → read text ≡ Some (object (command_member word members))
whole_read text word ts rest is r =
    let j = json.object (json.member (codes "cmd") (json.string word) r.json) in
    let same : tokens text ≡ json_tokens j ++ [] = is
    ∙ ap (λ (l : List Token). token.begin_object ∷ token.key (codes "cmd") ∷ token.string word ∷ l) r.same
    ∙ sym (append-nil (json_tokens j)) in
    ap (λ (o : Option (json.Json × List Token)). option_and_then of_json (option_and_then (λ p. if_last p.0 p.1) o))
    (ap (value max_depth) same ∙ value-json_tokens j max_depth [] (omega (arith, r.shallow)))
    ∙ ap (option_map object) r.reads

-- ---- the shapes

-- the tokens after this word are read as this request's members, and what it says fits
record RefuseIf (word : List ℕ) (ts : List Token) (request : Request) : Type 0 where
  reads : Reads word ts (said_members (said.spelling request).said)
  named : (said.spelling request).word ≡ word
  fits : Fits request

-- the request is spelt so
abbrev IsSpelt : Request → List ℕ → Said → Type 0
IsSpelt request word s = said.spelling request ≡ said.spelt word s

says : (word : List ℕ) (ts : List Token) (request : Request) (s : Said) → IsSpelt request word s
    → Reads word ts (said_members s) → SaidFits s → RefuseIf word ts request
says word ts request s e r f =
    record {
      reads = subst (λ (x : said.Spelling). Reads word ts (said_members x.said)) (sym e) r;
      named = ap (λ (x : said.Spelling). x.word) e;
      fits = subst (λ (x : said.Spelling). SaidFits x.said) (sym e) f;
    }

-- what is made of the values of a shape is spelt by this word and these values
abbrev Suits : List ℕ → Shape → Type 0
Suits word (nothing request) = IsSpelt request word said.nothing
Suits word (one_name key make) = InOrder1 key
    × ((name : List ℕ) → IsSpelt (Policy (make name)) word (said.one_name key name))
Suits word (two_names first second make) = InOrder2 first second
    × ((one other : List ℕ) → IsSpelt (Policy (make one other)) word (said.two_names first one second other))
Suits word (permission make) = (on : Object) (operation : Operation) (role : List ℕ)
    → IsSpelt (Policy (make on operation role)) word (said.permission on operation role)
Suits word roles_user = (roles : List (List ℕ)) (user : List ℕ)
    → IsSpelt (Policy (CreateSession user roles)) word (said.roles_user roles user)
Suits word count_name_roles = (count : ℕ) (set : List ℕ) (roles : List (List ℕ))
    → IsSpelt (Policy (CreateDsdSet set count roles)) word (said.count_name_roles count set roles)
Suits word (slot_alone command) = (slot : ℕ) → IsSpelt (Slot slot command) word (said.slot_alone slot)
Suits word main_slot_text = (main : List ℕ) (slot : ℕ) (text : List ℕ)
    → IsSpelt (Slot slot (Move (Load (load_of main text)))) word (said.main_slot_text main slot text)
Suits word signal_slot = (signal : List ℕ) (slot : ℕ)
    → IsSpelt (Slot slot (Move (Offer signal))) word (said.signal_slot signal slot)
Suits word instant_slot = (instant slot : ℕ) → IsSpelt (Slot slot (Look instant)) word (said.instant_slot instant slot)
Suits word object_operation = (on : Object) (operation : Operation)
    → IsSpelt (Check operation on) word (said.object_operation on operation)

names_say : (word first second : List ℕ) (make : List ℕ → List ℕ → AdminCommand)
    → Suits word (two_names first second make) → (ts : List Token) (r : Request)
    → request_of (two_names first second make) ts ≡ Some r → RefuseIf word ts r
unfolding request_of two_values
names_say word first second make suits ts r h =
    let m = mapped _ _ r h in
    let p = chained _ _ m.0 m.1 in
    let q = mapped _ _ m.0 p.2 in
    let one = tested_is is_name first ts p.0.0 p.0.1 p.1 in
    let other = tested_is is_name second p.0.1 q.0 _ (last_is _ q.0 q.1) in
    let reads = two_members word _ _ ts p.0.1 _ _ suits.0 one.0 other.0 in
    subst (RefuseIf word ts) (ap (λ (x : List ℕ × List ℕ). Policy (make x.0 x.1)) q.2 ∙ m.2)
    (says word ts _ _ (suits.1 p.0.0 q.0) reads (one.1, other.1))

permission_says : (word : List ℕ) (make : Object → Operation → List ℕ → AdminCommand) → Suits word (permission make)
    → (ts : List Token) (r : Request) → request_of (permission make) ts ≡ Some r → RefuseIf word ts r
unfolding request_of permission_values
permission_says word make suits ts r h =
    let m = mapped _ _ r h in
    let a = chained _ _ m.0 m.1 in
    let b = chained _ _ m.0 a.2 in
    let q = mapped _ _ m.0 b.2 in
    let on = object_is (codes "object") ts a.0.0 a.0.1 a.1 in
    let operation = operation_is (codes "op") a.0.1 b.0.0 b.0.1 b.1 in
    let role = tested_is is_name (codes "role") b.0.1 q.0 _ (last_is _ q.0 q.1) in
    let reads = three_members word _ _ _ ts a.0.1 b.0.1 _ _ _ (λ w d e f. refl) on.0 operation role.0 in
    subst (RefuseIf word ts) (ap (λ (x : Object × Operation × List ℕ). Policy (make x.0 x.1 x.2)) q.2 ∙ m.2)
    (says word ts _ _ (suits a.0.0 b.0.0 q.0) reads (on.1, role.1))

login_says : (word : List ℕ) → Suits word roles_user → (ts : List Token) (r : Request)
    → request_of roles_user ts ≡ Some r → RefuseIf word ts r
unfolding request_of
login_says word suits ts r h =
    let a = chained _ _ r h in
    let q = mapped _ _ r a.2 in
    let roles = roles_are ts a.0.0 a.0.1 a.1 in
    let user = tested_is is_name (codes "user") a.0.1 q.0 _ (last_is _ q.0 q.1) in
    let reads = two_members word _ _ ts a.0.1 _ _ (λ w d e. refl) roles.0 user.0 in
    subst (RefuseIf word ts) q.2 (says word ts _ _ (suits a.0.0 q.0) reads (roles.1, user.1))

set_says : (word : List ℕ) → Suits word count_name_roles → (ts : List Token) (r : Request)
    → request_of count_name_roles ts ≡ Some r → RefuseIf word ts r
unfolding request_of
set_says word suits ts r h =
    let a = chained _ _ r h in
    let b = chained _ _ r a.2 in
    let q = mapped _ _ r b.2 in
    let count = number_member_is (codes "count") ts a.0.0 a.0.1 a.1 in
    let set = tested_is is_name (codes "name") a.0.1 b.0.0 b.0.1 b.1 in
    let roles = roles_are b.0.1 q.0 _ (last_is _ q.0 q.1) in
    let reads = three_members word _ _ _ ts a.0.1 b.0.1 _ _ _ (λ w d e f. refl) count.0 set.0 roles.0 in
    subst (RefuseIf word ts) q.2 (says word ts _ _ (suits a.0.0 b.0.0 q.0) reads (count.1, set.1, roles.1))

load_says : (word : List ℕ) → Suits word main_slot_text → (ts : List Token) (r : Request)
    → request_of main_slot_text ts ≡ Some r → RefuseIf word ts r
unfolding request_of
load_says word suits ts r h =
    let a = chained _ _ r h in
    let b = chained _ _ r a.2 in
    let q = mapped _ _ r b.2 in
    let main = tested_is is_identifier (codes "main") ts a.0.0 a.0.1 a.1 in
    let slot = number_member_is (codes "slot") a.0.1 b.0.0 b.0.1 b.1 in
    let text = text_member_is (codes "text") b.0.1 q.0 _ (last_is _ q.0 q.1) in
    let reads = three_members word _ _ _ ts a.0.1 b.0.1 _ _ _ (λ w d e f. refl) main.0 slot.0 text in
    subst (RefuseIf word ts) q.2 (says word ts _ _ (suits a.0.0 b.0.0 q.0) reads (main.1, slot.1))

offer_says : (word : List ℕ) → Suits word signal_slot → (ts : List Token) (r : Request)
    → request_of signal_slot ts ≡ Some r → RefuseIf word ts r
unfolding request_of
offer_says word suits ts r h =
    let a = chained _ _ r h in
    let q = mapped _ _ r a.2 in
    let signal = tested_is is_identifier (codes "signal") ts a.0.0 a.0.1 a.1 in
    let slot = number_member_is (codes "slot") a.0.1 q.0 _ (last_is _ q.0 q.1) in
    let reads = two_members word _ _ ts a.0.1 _ _ (λ w d e. refl) signal.0 slot.0 in
    subst (RefuseIf word ts) q.2 (says word ts _ _ (suits a.0.0 q.0) reads (signal.1, slot.1))

look_says : (word : List ℕ) → Suits word instant_slot → (ts : List Token) (r : Request)
    → request_of instant_slot ts ≡ Some r → RefuseIf word ts r
unfolding request_of
look_says word suits ts r h =
    let a = chained _ _ r h in
    let q = mapped _ _ r a.2 in
    let instant = number_member_is (codes "instant") ts a.0.0 a.0.1 a.1 in
    let slot = number_member_is (codes "slot") a.0.1 q.0 _ (last_is _ q.0 q.1) in
    let reads = two_members word _ _ ts a.0.1 _ _ (λ w d e. refl) instant.0 slot.0 in
    subst (RefuseIf word ts) q.2 (says word ts _ _ (suits a.0.0 q.0) reads (instant.1, slot.1))

check_says : (word : List ℕ) → Suits word object_operation → (ts : List Token) (r : Request)
    → request_of object_operation ts ≡ Some r → RefuseIf word ts r
unfolding request_of
check_says word suits ts r h =
    let a = chained _ _ r h in
    let q = mapped _ _ r a.2 in
    let on = object_is (codes "object") ts a.0.0 a.0.1 a.1 in
    let operation = operation_is (codes "op") a.0.1 q.0 _ (last_is _ q.0 q.1) in
    let reads = two_members word _ _ ts a.0.1 _ _ (λ w d e. refl) on.0 operation in
    subst (RefuseIf word ts) q.2 (says word ts _ _ (suits a.0.0 q.0) reads on.1)

shape_says : (word : List ℕ) (shape : Shape) → Suits word shape → (ts : List Token) (r : Request)
    → request_of shape ts ≡ Some r → RefuseIf word ts r
unfolding request_of
shape_says word (nothing request) suits ts r h =
    let m = mapped _ _ r h in
    subst (RefuseIf word ts) m.2 (says word ts _ _ suits (no_member word ts (end_is ts m.0 m.1)) tt)
shape_says word (one_name key make) suits ts r h =
    let m = mapped _ _ r h in
    let name = tested_is is_name key ts m.0 _ (last_is _ m.0 m.1) in
    subst (RefuseIf word ts) m.2 (says word ts _ _ (suits.1 m.0) (one_member word key ts _ suits.0 name.0) name.1)
shape_says word (two_names first second make) suits ts r h = names_say word first second make suits ts r h
shape_says word (permission make) suits ts r h = permission_says word make suits ts r h
shape_says word roles_user suits ts r h = login_says word suits ts r h
shape_says word count_name_roles suits ts r h = set_says word suits ts r h
shape_says word (slot_alone command) suits ts r h =
    let m = mapped _ _ r h in
    let slot = number_member_is (codes "slot") ts m.0 _ (last_is _ m.0 m.1) in
    subst (RefuseIf word ts) m.2 (says word ts _ _ (suits m.0)
    (one_member word (codes "slot") ts _ (λ w d. refl) slot.0) slot.1)
shape_says word main_slot_text suits ts r h = load_says word suits ts r h
shape_says word signal_slot suits ts r h = offer_says word suits ts r h
shape_says word instant_slot suits ts r h = look_says word suits ts r h
shape_says word object_operation suits ts r h = check_says word suits ts r h

-- ---- the table

abbrev AllSuit : List Row → Type 0
AllSuit [] = Unit {0}
AllSuit (row ∷ more) = Suits row.0 row.1 × AllSuit more

rows_suit : AllSuit rows
unfolding rows policy_rows plain_rows user_or_role_rows relation_rows
rows_suit = (
  λ slot. refl,
  (
    λ instant slot. refl,
    (
      λ signal slot. refl,
      (
        λ on operation. refl,
        (
          λ main slot text. refl,
          (
            λ slot. refl,
            (
              λ slot. refl,
              (
                λ slot. refl,
                (
                  λ roles user. refl,
                  (
                    λ count set roles. refl,
                    (
                      refl,
                      (
                        (λ w d. refl, λ name. refl),
                        (
                          (λ w d. refl, λ name. refl),
                          (
                            (λ w d. refl, λ name. refl),
                            (
                              (λ w d. refl, λ name. refl),
                              (
                                (λ w d. refl, λ name. refl),
                                (
                                  (λ w d. refl, λ name. refl),
                                  (
                                    (λ w d. refl, λ name. refl),
                                    (
                                      (λ w d e. refl, λ one other. refl),
                                      (
                                        (λ w d e. refl, λ one other. refl),
                                        (
                                          (λ w d e. refl, λ one other. refl),
                                          (
                                            (λ w d e. refl, λ one other. refl),
                                            (λ on operation role. refl, (λ on operation role. refl, tt)),
                                          ),
                                        ),
                                      ),
                                    ),
                                  ),
                                ),
                              ),
                            ),
                          ),
                        ),
                      ),
                    ),
                  ),
                ),
              ),
            ),
          ),
        ),
      ),
    ),
  ),
)

pick : (P : Type 0) (b : Bool) (this later : Option Request) (r : Request) → cond b this later ≡ Some r
    → (b ≡ true → this ≡ Some r → P) → (later ≡ Some r → P) → P
pick P true this later r h now after = now refl h
pick P false this later r h now after = after h

rows_say : (table : List Row) → AllSuit table → (word : List ℕ) (ts : List Token) (r : Request)
    → request_in table word ts ≡ Some r → RefuseIf word ts r
rows_say [] all word ts r h = cc
rows_say (row ∷ more) all word ts r h =
    pick (RefuseIf word ts r) (bytes_eq word row.0) (request_of row.1 ts) (request_in more word ts) r h
    (λ is now. subst (λ (w : List ℕ). RefuseIf w ts r) (sym (same_text word row.0 is))
    (shape_says row.0 row.1 all.0 ts r now))
    (λ after. rows_say more all.1 word ts r after)

-- what is read of a text is what the text asks for
pub read_is : (text : List ℕ) (r : Request) → request_at (tokens text) ≡ Some r
    → (read text ≡ Some (object (members_of r))) × Fits r
unfolding request_at word_at
read_is text r h =
    let p = chained _ _ r h in
    let q = chained _ _ p.0 p.1 in
    let is = brace_is (tokens text) q.0 q.1 ∙ ap (λ (l : List Token). token.begin_object ∷ l)
    (text_is (codes "cmd") q.0 p.0 q.2) in
    let s = rows_say rows rows_suit p.0.0 p.0.1 r p.2 in (
      whole_read text p.0.0 p.0.1 _ is s.reads ∙ ap
          (λ (w : List ℕ). Some (object (command_member w (said_members (said.spelling r).said)))) (sym s.named),
      s.fits,
    )

-- ---- to the tokens

texts_have_no_float : (texts : List (List ℕ)) → items_have_float (items_of (map string texts)) ≡ false
texts_have_no_float [] = refl
texts_have_no_float (t ∷ texts) = texts_have_no_float texts

said_has_no_float : (s : Said) → members_have_float (said_members s) ≡ false
said_has_no_float (said.roles_user roles user) = rw (texts_have_no_float roles)
said_has_no_float (said.count_name_roles count set roles) = rw (texts_have_no_float roles)
said_has_no_float _ = refl

-- the tokens that are written for members
abbrev written : Members → List Token
written members = json_tokens (outline (object members))

request_back : (r : Request) → Fits r → request_at (written (members_of r)) ≡ Some r
unfolding request_at word_at rows policy_rows plain_rows user_or_role_rows relation_rows request_of
    text_after number_after parsed_after two_values permission_values after_key ends
request_back (Policy (AddUser user)) f = rw f refl
request_back (Policy (DeleteUser user)) f = rw f refl
request_back (Policy (AddRole role)) f = rw f refl
request_back (Policy (DeleteRole role)) f = rw f refl
request_back (Policy (AssignUser user role)) f = rw (f.0, f.1) refl
request_back (Policy (DeassignUser user role)) f = rw (f.0, f.1) refl
request_back (Policy (GrantPermission role operation on)) f =
    rw (object_of-object_text on f.0, operation_of-operation_text operation, f.1) refl
request_back (Policy (RevokePermission role operation on)) f =
    rw (object_of-object_text on f.0, operation_of-operation_text operation, f.1) refl
request_back (Policy (AddInheritance senior junior)) f = rw (f.0, f.1) refl
request_back (Policy (DeleteInheritance senior junior)) f = rw (f.0, f.1) refl
request_back (Policy (CreateDsdSet set count roles)) f =
    rw (number_back count f.0, f.1, roles_back roles (token.end_object ∷ []) f.2) refl
request_back (Policy (DeleteDsdSet set)) f = rw f refl
request_back (Policy (CreateSession user roles)) f =
    rw (roles_back roles (token.key (codes "user") ∷ token.string user ∷ token.end_object ∷ []) f.0, f.1) refl
request_back (Policy DeleteSession) f = refl
request_back (Policy (AddActiveRole role)) f = rw f refl
request_back (Policy (DropActiveRole role)) f = rw f refl
request_back (Slot slot (Move (Load l))) f = rw (f.0, number_back slot f.1) refl
request_back (Slot slot (Move (Offer signal))) f = rw (f.0, number_back slot f.1) refl
request_back (Slot slot (Move Discard)) f = rw (number_back slot f) refl
request_back (Slot slot (Move (Step i))) f = rw (number_back slot f) refl
request_back (Slot slot (Move Unload)) f = rw (number_back slot f) refl
request_back (Slot slot (Look instant)) f = rw (number_back instant f.0, number_back slot f.1) refl
request_back (Slot slot Audit) f = rw (number_back slot f) refl
request_back (Check operation on) f = rw (object_of-object_text on f, operation_of-operation_text operation) refl

-- a text that has the members of a request in order is read as that request
pub in_order_back : (text : List ℕ) (r : Request) → Fits r → IsInOrder text (object (members_of r))
    → request_at (tokens text) ≡ Some r
in_order_back text r f order = ap request_at (tokens_from_order text (object (members_of r)) order
    (said_has_no_float (said.spelling r).said)) ∙ request_back r f

-- ---- told apart

pub same_members : (one other : Request) → Fits one → Fits other → members_of one ≡ members_of other → one ≡ other
same_members one other f g e =
    same_Some _ _ (sym (request_back one f) ∙ ap (λ (ms : Members). request_at (written ms)) e ∙ request_back other g)

pub same_object : (a b : Members) → object a ≡ object b → a ≡ b
same_object a b e = cc
