use Rattle.std.proofs.Common.{◌≡◌, ◌+◌, List, map, drop, length, subst}
use Rattle.svr_token.specs.Names.{names_of}
use Rattle.svr_tree.specs.DeclTree.{MemberTree, member_tree}
use Rattle.svr_elab_fault.specs.Refusals.{first_one}
use Rattle.svr_elab_names.specs.Tables.{space_of, class_of}
use Rattle.svr_elab_type.specs.Types.{enum_members}
use Rattle.svr_elab_type.specs.Fits.{EnumMembersFit}
use Rattle.svr_elab_type.specs.Seen.{constant_part, enum_part}
use Rattle.svr_elab_type.proofs.Declared.{members_more, rest_is}
use Rattle.svr_elab_type.proofs.enums.enum_members.Goals as goal

pub and_member-requires-clause-limit : goal.and_member-requires-clause-limit
and_member-requires-clause-limit c =
    rw c.in_ok-before.ensures.held (rw c.in_ok-before.ensures.made at (c.member_number-number.ensures.limit (length c.loop-member.part.members) c.loop-member.invariant.limit))

pub loop-member-preserved : goal.loop-member-preserved
loop-member-preserved c =
    let text = names_of c.args.names.now in
    let cs = map class_of c.args.classes.now in
    let list = c.args.list.now in
    let i = c.loop-member.member-index in
    let m = c.member-item.result in
    let p = enum_part text cs c.loop-member.part in
    let whole = enum_members first_one c.args.base (enum_part text cs c.args.start) (map member_tree list) in
    let rest = rest_is list i m c.loop-member-test.true c.member-item.is in
    let Fits : List MemberTree → Type 0 = λ ts. EnumMembersFit 0 ts in
    let Known : List MemberTree → Type 0 = λ ts. enum_members first_one c.args.base p ts ≡ whole in
    record {
      limit = c.in_ok-part.ensures.limit;
      members = c.in_ok-part.ensures.members cs (rw c.in_ok-before.ensures.held c.loop-member.invariant.members);
      fits = (subst Fits rest c.loop-member.invariant.fits).1;
      known = members_more c.args.base p (enum_part text cs c.in_ok-part.part) whole (constant_part c.in_ok-before.number) (space_of c.declaring.result) (member_tree m) (map member_tree (drop (i + 1) list))
          (rw c.in_ok-before.ensures.held at (c.in_ok-part.ensures.part cs)) (rw c.in_ok-before.ensures.made at c.member_number-number.ensures.value) c.declaring.ensures.space (subst Known rest c.loop-member.invariant.known);
    }
