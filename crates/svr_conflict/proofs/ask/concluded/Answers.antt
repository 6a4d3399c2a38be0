use Rattle.std.proofs.Common.{◌≡◌, ◌++◌, Bool, List, refl, ap, ◌∙◌, subst}
use Rattle.std.specs.List.{AllZip}
use Rattle.svr_frame.specs.Frame.{frame_term}
use Rattle.svr_core.specs.declared.search.Needed.{Needed}
use Rattle.svr_core.specs.declared.search.CoreEnd.TheVariants as searched
use Rattle.svr_core.specs.Groups.{lits_at, with_groups}
use Rattle.svr_core.specs.Cores.{places_of}
use Rattle.svr_conflict.specs.Conflicts.{base_lits, item_roots}
use Rattle.svr_conflict.specs.Read.{read_values, IsRead}
use Rattle.svr_conflict.proofs.Concluded.{met_end, set_end, spent_end, turned}
use Rattle.svr_conflict.proofs.ask.concluded.Goals as goal

pub returns-in_ok-met-in-Met : goal.returns-in_ok-met-in-Met
returns-in_ok-met-in-Met c = λ chosen budget cyclic base h.
    let f = frame_term c.args.frame.now in
    let ns = c.args.sizes.now in
    let e = c.args.found.encoding in
    let said = turned f ns c.requires.sound c.requires.fit chosen cyclic e c.requires.encodes budget c.args.found.base.items c.args.found.groups.items c.args.found.end (searched.Met c.in-Met.values) base c.requires.groups c.in-Met.is h in
    let reads = c.in_ok-met-in-Met.ensures.reads ∙ ap (λ (vs : List Bool). read_values f ns e vs) c.as_slice-found.ensures.value in
    met_end f ns c.requires.sound c.requires.fit chosen cyclic e c.requires.encodes budget c.in-Met.values.items c.in_ok-met-in-Met.met reads said.1

pub returns-in_ok-put_core-in-Refuted : goal.returns-in_ok-put_core-in-Refuted
returns-in_ok-put_core-in-Refuted c = λ chosen budget cyclic base h.
    let f = frame_term c.args.frame.now in
    let ns = c.args.sizes.now in
    let e = c.args.found.encoding in
    let found = c.in-Refuted.core in
    let log = c.in-Refuted.refutation in
    let said = turned f ns c.requires.sound c.requires.fit chosen cyclic e c.requires.encodes budget c.args.found.base.items c.args.found.groups.items c.args.found.end (searched.Refuted found log) base c.requires.groups c.in-Refuted.is h in
    let same : c.as_slice-needed.result.now ≡ found.items = c.as_slice-needed.ensures.value in
    let zip = subst (λ (cs : List Needed). AllZip (IsRead f ns e) cs c.in_ok-members-in-Refuted.members.items) same c.in_ok-members-in-Refuted.ensures in
    let parts : c.as_slice-parts.result.now ≡ item_roots f ns e = c.as_slice-parts.ensures.value ∙ c.requires.groups in
    let put : c.args.found.base.items ++ lits_at c.as_slice-parts.result.now (places_of c.as_slice-needed.result.now) ≡ with_groups (base_lits f ns chosen e) (item_roots f ns e) (places_of found.items)
    = λ i. base i ++ lits_at (parts i) (places_of (same i)) in
    set_end f ns c.requires.sound c.requires.fit chosen cyclic e c.requires.encodes budget found log (record { members = c.in_ok-members-in-Refuted.members; encoding = e; assume = c.from_vec-assume.result; refutation = log }) said zip refl
    (c.from_vec-assume.ensures ∙ c.in_ok-put_core-in-Refuted.ensures ∙ put) refl

pub returns-in-Spent : goal.returns-in-Spent
returns-in-Spent c = λ chosen budget cyclic base h.
    let f = frame_term c.args.frame.now in
    let ns = c.args.sizes.now in
    let e = c.args.found.encoding in
    let said = turned f ns c.requires.sound c.requires.fit chosen cyclic e c.requires.encodes budget c.args.found.base.items c.args.found.groups.items c.args.found.end (searched.Spent c.in-Spent.log c.in-Spent.first) base c.requires.groups c.in-Spent.is h in
    spent_end f ns c.requires.sound c.requires.fit chosen cyclic e c.requires.encodes budget c.in-Spent.log c.in-Spent.first said
