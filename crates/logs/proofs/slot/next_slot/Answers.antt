use Rattle.std.proofs.Common.{sym, ◌∙◌}
use Rattle.std.proofs.lemmas.Bool.{and_parts, eqb-true}
use Rattle.std.proofs.lemmas.List.{take_rest}
use Rattle.logs.proofs.Slots.{one_more, next_slot}
use Rattle.logs.proofs.slot.next_slot.Goals as goal

pub returns-then-is_next : goal.returns-then-is_next
returns-then-is_next c =
    let n = c.in_ok-number in
    let outcome = and_parts _ _ c.if-is_next.true in
    let line_feed = and_parts _ _ outcome.0 in
    let tab = and_parts _ _ line_feed.0 in
    let number = one_more n.number c.args.counts.slots c.checked_sub.result c.checked_sub.ensures (sym c.eq.ensures ∙ tab.0) in
    next_slot _ _ _ _ _ _ _ c.in_ok-first_chunk.ensures.cases.same n.ensures c.if-counts-ne0.true number (take_rest c.args.piece.now n.digits) c.in-len3-up.len_at_least (eqb-true _ _ tab.1)
    (eqb-true _ _ line_feed.1) (sym c.is_outcome.ensures ∙ outcome.1) (take_rest _ 3)
