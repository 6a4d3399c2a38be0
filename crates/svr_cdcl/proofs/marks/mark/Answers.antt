use Rattle.std.proofs.Common.{◌≡◌, ◌∙◌, ◌||◌, sym, ap, true, false, None}
use Rattle.svr_trail.specs.declared.Entry.{Entry}
use Rattle.svr_trail.specs.Trail.{is_false, value_in}
use Rattle.svr_trail.proofs.Trails.{Each-push}
use Rattle.svr_cdcl.specs.Learned.{is_kept}
use Rattle.svr_cdcl.specs.Marks.{is_marked}
use Rattle.svr_cdcl.proofs.MarkLemmas.{false-from, false-within, marked-kept, marked-push, marked-there, open-unmarked, touched-new}
use Rattle.svr_cdcl.proofs.marks.mark.Goals as goal

pub returns-then-is_kept-clause-marked : goal.returns-then-is_kept-clause-marked
returns-then-is_kept-clause-marked c = λ v. marked-kept c.args.marks.now.entries c.args.keep c.args.lit v (sym c.is_kept.ensures ∙ c.if-is_kept.true)

pub returns-then-is_marked-clause-marked : goal.returns-then-is_marked-clause-marked
returns-then-is_marked-clause-marked c = λ v.
    marked-there c.args.marks.now.entries c.args.keep c.args.lit v (sym c.is_kept.ensures ∙ c.if-is_kept.false) (sym c.is_marked.ensures ∙ c.if-is_marked.true)

pub put-requires-clause-within : goal.put-requires-clause-within
put-requires-clause-within c =
    let es = c.args.trail.now.entries in
    let f : is_false (value_in es c.args.lit) ≡ true = false-from es c.args.keep c.args.lit (sym c.is_kept.ensures ∙ c.if-is_kept.false) c.requires.falsified in
    rw c.requires.within (false-within c.args.trail.now.vars es c.args.lit c.len.ensures.within f)

pub put-requires-clause-open : goal.put-requires-clause-open
put-requires-clause-open c = open-unmarked c.args.marks.now.entries c.args.lit (sym c.is_marked.ensures ∙ c.if-is_marked.false)

pub returns-clause-lits : goal.returns-clause-lits
returns-clause-lits c =
    let es = c.args.trail.now.entries in
    let f : is_false (value_in es c.args.lit) ≡ true = false-from es c.args.keep c.args.lit (sym c.is_kept.ensures ∙ c.if-is_kept.false) c.requires.falsified in
    let e : Entry = record { lit = c.args.lit; reason = None } in
    rw c.put.ensures.put (Each-push (λ _ m. is_false (value_in es m.lit) ≡ true) c.args.marks.now.entries e c.requires.lits f)

pub returns-clause-marked : goal.returns-clause-marked
returns-clause-marked c = λ v.
    let ms = c.args.marks.now.entries in
    let e : Entry = record { lit = c.args.lit; reason = None } in
    let k : is_kept c.args.keep c.args.lit ≡ false = sym c.is_kept.ensures ∙ c.if-is_kept.false in
    rw c.put.ensures.put (marked-push ms e v ∙ ap (λ z. is_marked ms v || z) (sym (touched-new c.args.keep c.args.lit v k)))
