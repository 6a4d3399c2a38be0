use Rattle.std.proofs.Common.{◌≡◌, ℕ, true, List, Vec, Global, Result, Ok, Err, IfOk, sym, subst}
use Rattle.svr_lrat_file.specs.Views.{FileView}
use Rattle.svr_lrat_text.specs.File.{is_file}
use Rattle.svr_lrat_text.specs.Faults.{IsFileOf}
use Rattle.svr_lrat_printed.specs.Text.{text_of}
use Rattle.svr_lrat_printed.proofs.ReadBack.{read_back}
use Rattle.svr_lrat_printed.proofs.text.printed.Goals as goal

told : {T E : Type 0} (items : T → List ℕ) (r : Result T E) (f : FileView) → is_file true f ≡ true → IfOk r (λ v. items v ≡ text_of f) → IfOk r (λ v. IsFileOf (items v) f)
told items (Ok v) f e h = subst (λ z. IsFileOf z f) (sym h) (read_back f e)
told items (Err x) f e h = tt

pub returns-clause-text : goal.returns-clause-text
returns-clause-text c =
    subst (λ (f : FileView). IfOk c.parts_text.result (λ v. v.items ≡ text_of f)) c.file.view_is
    (subst (λ z. IfOk c.parts_text.result (λ v. v.items ≡ text_of (record { vars = c.file.inside.vars; clauses = z; lines = c.file.inside.lines.items }))) c.as_slice-clauses.ensures.value
    (subst (λ z. IfOk c.parts_text.result (λ v. v.items ≡ text_of (record { vars = c.file.inside.vars; clauses = c.as_slice-clauses.result.now; lines = z }))) c.as_slice-lines.ensures.value c.parts_text.ensures))

pub returns-clause-read_back : goal.returns-clause-read_back
returns-clause-read_back c = λ e. told (λ (v : Vec ℕ Global). v.items) c.parts_text.result c.args.file.now e (returns-clause-text c)
