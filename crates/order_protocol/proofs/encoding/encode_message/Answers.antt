use Rattle.std.proofs.Common.{◌∙◌, ◌++◌, ap, List, ℕ}
use Rattle.std.specs.Int.{to_be_bytes, w64}
use Rattle.order_protocol.specs.Messages.{message_part_entries, pieces, string}
use Rattle.order_protocol.specs.declared.order_message.MessagePart.{MessagePart}
use Rattle.order_protocol.proofs.Written.{six_written}
use Rattle.order_protocol.proofs.encoding.encode_message.Goals as goal

pub returns : goal.returns
returns c =
    let h = c.args.message.now in
    let v1 : List ℕ = c.put_string.new.out.items in
    let v2 : List ℕ = c.extend_from_slice.new.self.items in
    let v4 : List ℕ = c.put_string-2.new.out.items in
    let v5 : List ℕ = c.put_pieces.new.out.items in
    six_written c.new-out.result.items v1 v2 c.extend_from_slice-2.new.self.items v4 v5 c.put_pieces-2.new.out.items
    (string h.version.now) (to_be_bytes w64 h.device) (to_be_bytes w64 h.inode) (string h.folder.now) (pieces (message_part_entries h.words.items)) (pieces (message_part_entries h.files.items))
    c.new-out.ensures.items c.in_ok-put_string.ensures
    (c.in_ok-extend_from_slice.ensures.items ∙ ap (λ (x : List ℕ). v1 ++ x) c.to_be_bytes.ensures)
    (c.in_ok-extend_from_slice-2.ensures.items ∙ ap (λ (x : List ℕ). v2 ++ x) c.to_be_bytes-2.ensures)
    c.in_ok-put_string-2.ensures
    (c.in_ok-put_pieces.ensures ∙ ap (λ (x : List MessagePart). v4 ++ pieces (message_part_entries x)) c.deref.ensures.value)
    (c.in_ok-put_pieces-2.ensures ∙ ap (λ (x : List MessagePart). v5 ++ pieces (message_part_entries x)) c.deref-2.ensures.value)
