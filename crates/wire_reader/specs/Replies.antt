-- What contracts see of the replies that wait (this project's own form).
use Rattle.std.specs.Prelude.{ℕ, List, take}
use Rattle.wire_reader.specs.declared.replies.ReplyBuffer.{ReplyBuffer}

-- the bytes that wait to be written, in order
abbrev pub waiting_bytes : ReplyBuffer → List ℕ
waiting_bytes r = take r.filled r.bytes.items
