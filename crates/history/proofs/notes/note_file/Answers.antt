-- The room was looked at before the loop, so no push is refused.
use Rattle.std.proofs.Common.{get_or, ◌∙◌, arith}
use Rattle.books.specs.Books.{book_keys, book_room}
use Rattle.history.specs.Files.{noted}
use Rattle.history.proofs.Noting.{noting_room, noting_more, never_full, keys_pushed}
use Rattle.history.proofs.notes.note_file.Goals as goal

pub returns-in_err-push : goal.returns-in_err-push
returns-in_err-push c =
    let now = book_keys c.loop-k.history in
    let room = book_room c.loop-k.history in
    let h = c.loop-k.invariant in
    let left = noting_room (book_keys c.args.history.now) now c.args.file c.args.prints.now c.loop-k.k room h.pieces c.loop-k-test.true
    (omega (arith, h.slots.room, c.room.ensures.places, c.room.ensures.enough, c.count.ensures)) in
    absurd (never_full now room c.push.result c.in_err-push.field-0.0 left c.push.ensures.answer c.in_err-push.was)

pub loop-k-preserved : goal.loop-k-preserved
loop-k-preserved c =
    let before = book_keys c.args.history.now in
    let now = book_keys c.loop-k.history in
    let room = book_room c.loop-k.history in
    let h = c.loop-k.invariant in
    let left = noting_room before now c.args.file c.args.prints.now c.loop-k.k room h.pieces c.loop-k-test.true
    (omega (arith, h.slots.room, c.room.ensures.places, c.room.ensures.enough, c.count.ensures)) in
    record {
      pieces =
          noting_more before now (book_keys c.push.new.self) c.args.file c.args.prints.now c.loop-k.k h.pieces c.loop-k-test.true
          (keys_pushed now (book_keys c.push.new.self) room (noted c.args.file c.loop-k.k (get_or c.args.prints.now c.loop-k.k 0)) left c.push.ensures.keys);
      slots = record { room = c.push.ensures.slots.room ∙ h.slots.room; lender = c.push.ensures.slots.lender ∙ h.slots.lender };
    }
