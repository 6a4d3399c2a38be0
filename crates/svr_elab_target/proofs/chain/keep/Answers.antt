use Rattle.std.proofs.Common.{◌≡◌, map, refl}
use Rattle.svr_elab_names.specs.Tables.{bytes_of}
use Rattle.svr_elab_target.specs.Blocks.{class_blocks}
use Rattle.svr_elab_target.proofs.Kept.{of_more, of_same, names_more, classes_more, names_same, classes_same, room_used}
use Rattle.svr_elab_target.proofs.chain.keep.Goals as goal

pub returns-in-Ok : goal.returns-in-Ok
returns-in-Ok c n h e =
    let before = c.make_room.new.flat in
    let entered = c.in-Ok.ensures.entries in
    room_used n before _ c.len.result (c.make_room.ensures.room n h) refl (names_more before.kept.entries _ c.args.class c.len.result c.args.made entered c.len.ensures.len)
    (classes_more before.kept.entries _ c.args.class c.args.made entered)
    (λ q. of_more c.args.class q c.args.made _ _ (λ k s. map bytes_of s.keys ≡ class_blocks n.classes k) (c.in-Ok.ensures.updates.0 q) ((c.make_room.ensures.kept n h).here q) e)

pub returns : goal.returns
returns c n h e =
    let before = c.make_room.new.flat in
    let same = c.in-Err.ensures.err in
    room_used n before _ c.len.result (c.make_room.ensures.room n h) refl (names_same before.kept.entries _ c.len.result same) (classes_same before.kept.entries _ same)
    (λ q. of_same q before.kept.entries _ _ same ((c.make_room.ensures.kept n h).here q))
