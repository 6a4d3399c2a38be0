use Rattle.std.proofs.Common.{◌≡◌, Ok, rules}
use Rattle.svr_token.specs.Names.{names_of}
use Rattle.svr_elab_type.proofs.Members.{member_added, limit_after}
use Rattle.svr_elab_type.proofs.Declared.{member_is}
use Rattle.svr_elab_type.proofs.enums.and_member.Goals as goal

pub returns-clause-part : goal.returns-clause-part
returns-clause-part c =
    let x = c.in_ok-globals in
    let numbers : c.with_number-numbers.result ≡ Ok x.numbers = rw x.ensures.second at c.both.ensures.first in
    let members : c.with_member-members.result ≡ Ok x.members = rw x.ensures.second at c.both.ensures.second in
    λ cs. member_is c.args.base (names_of c.args.names.now) cs c.args.name c.args.number.at _ _ _ _ c.args.part.next _ _ _ _ _ _ _ _ _ _ _ _ _ _ _ _ _
    c.name-spelled.ensures c.stored_bits-value.ensures c.is_bad_member-bad.ensures (search rules)
    (rw x.ensures.first at c.and_name-globals.ensures) c.following-next.ensures.value (rw numbers at c.with_number-numbers.ensures) (rw members at c.with_member-members.ensures)
    c.double.ensures c.when.ensures c.when-2.ensures c.earlier.ensures c.earlier-own.ensures c.earlier-2.ensures c.earlier-3.ensures

pub returns-clause-limit : goal.returns-clause-limit
returns-clause-limit c =
    let x = c.in_ok-globals in
    let members : c.with_member-members.result ≡ Ok x.members = rw x.ensures.second at c.both.ensures.second in
    limit_after c.following-next.result c.args.part.members x.members c.name-spelled.result.now c.stored_bits-value.result c.len.result c.len.ensures (rw members at c.with_member-members.ensures) c.following-next.ensures.limit

pub returns-clause-members : goal.returns-clause-members
returns-clause-members c =
    λ cs m. member_added (names_of c.args.names.now) cs _ _ _ c.args.base c.args.number.number _ c.stored_bits-value.ensures (rw c.in_ok-globals.ensures.first at c.and_name-globals.ensures) c.requires.base m
