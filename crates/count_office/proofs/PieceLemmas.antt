-- Parts of a message that can be encoded, after adding another.
use Rattle.std.proofs.Common.{◌≡◌, List, [], ◌∷◌, ◌++◌, subst, sym}
use Rattle.std.specs.List.{AllByRecursion}
use Rattle.order_protocol.specs.Messages.{PieceFits, message_part_entries, message_part_entry}
use Rattle.order_protocol.specs.declared.order_message.MessagePart.{MessagePart}

all_more : (ps : List MessagePart) (p : MessagePart) → PieceFits (message_part_entry p) → AllByRecursion PieceFits (message_part_entries ps)
    → AllByRecursion PieceFits (message_part_entries (ps ++ p ∷ []))
all_more [] p one so = (one, tt)
all_more (q ∷ qs) p one so = (so.0, all_more qs p one so.1)

pub fits_more : (before after : List MessagePart) (p : MessagePart) → after ≡ before ++ p ∷ [] → PieceFits (message_part_entry p)
    → AllByRecursion PieceFits (message_part_entries before) → AllByRecursion PieceFits (message_part_entries after)
fits_more before after p is one so = subst (λ (ps : List MessagePart). AllByRecursion PieceFits (message_part_entries ps)) (sym is) (all_more before p one so)
