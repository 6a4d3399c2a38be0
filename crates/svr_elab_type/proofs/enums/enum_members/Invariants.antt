use Rattle.std.proofs.Common.{◌≡◌, ◌+◌, ◌^◌, pos, drop, map, length}
use Rattle.std.specs.Prelude.{◌≤ℤ◌, IfSome}
use Rattle.svr_token.specs.Names.{names_of}
use Rattle.svr_tree.specs.DeclTree.{member_tree}
use Rattle.svr_elab_fault.specs.Refusals.{first_one}
use Rattle.svr_elab_names.specs.Tables.{global_of, class_of}
use Rattle.svr_elab_part.specs.Fits.{MembersFit}
use Rattle.svr_elab_type.specs.Types as spec
use Rattle.svr_elab_type.specs.Fits.{EnumMembersFit}
use Rattle.svr_elab_type.specs.Seen.{enum_part}
use Rattle.svr_elab_type.proofs.enums.enum_members.Given as goal

abbrev pub invariant-loop-member : goal.invariant-loop-member
invariant-loop-member l = record {
  limit : IfSome l.part.next (λ n. n ≤ℤ pos (2 ^ 64 + length l.part.members));
  members : MembersFit (spec.declaring (names_of l.names) (map global_of l.part.globals.entries) (map class_of l.classes));
  fits : EnumMembersFit 0 (map member_tree (drop l.member-index l.list));
  known : spec.enum_members first_one l.base (enum_part (names_of l.names) (map class_of l.classes) l.part) (map member_tree (drop l.member-index l.list))
      ≡ spec.enum_members first_one l.base (enum_part (names_of l.names) (map class_of l.classes) l.fn.start) (map member_tree l.list);
}
