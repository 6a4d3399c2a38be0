use Rattle.std.proofs.Common.{◌≡◌, ◌∙◌, sym, ap, ◌+◌, ◌≤◌, ◌-◌, ◌∷◌, ◌++◌, [], None, List, length, take, arith}
use Rattle.std.proofs.lemmas.List.{length_push, length-set, take-append-le}
use Rattle.svr_trail.specs.declared.Entry.{Entry}
use Rattle.svr_trail.specs.Table.{IsTable}
use Rattle.svr_trail.proofs.TableLemmas.{table-pop, places-front}
use Rattle.svr_trail.proofs.Trail.undo.Goals as goal

pub undo-preserved-in-Some : goal.undo-preserved-in-Some
undo-preserved-in-Some c =
    let old = c.undo.self-inside in
    let k = c.undo.invariant in
    let e : Entry = c.in-Some.entry in
    let es : List Entry = c.pop.new.self.items in
    let signs = old.signs.items in
    let p : old.entries.items ≡ es ++ e ∷ [] = c.in-Some.ensures.items in
    let t : IsTable signs (es ++ e ∷ []) = rw p at k.kept.table in
    let l : length old.entries.items ≡ length es + 1 = ap length p ∙ length_push es e in
    let w : c.args.keep ≤ length es = omega (arith, c.undo-test.true, c.len.ensures, old.entries.ok.0) in
    record {
      kept = record {
        table = table-pop signs es e t;
        placed = places-front old.places.items es e (rw p at k.kept.placed);
        sized = omega (arith, length-set signs (e.lit.var - 1) None, k.kept.sized);
        room = omega (arith, length-set signs (e.lit.var - 1) None, k.kept.room, c.pop.ensures.capacity);
      };
      within = w;
      same = sym (take-append-le c.args.keep es (e ∷ []) w) ∙ (ap (take c.args.keep) (sym p) ∙ k.same);
      signs = length-set signs (e.lit.var - 1) None ∙ k.signs;
    }
