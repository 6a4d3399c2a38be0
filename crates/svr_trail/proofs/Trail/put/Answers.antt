use Rattle.std.proofs.Common.{◌≡◌, ◌∙◌, None, length, arith}
use Rattle.std.proofs.lemmas.List.{length-set}
use Rattle.std.proofs.Common.{Some, ◌-◌, set, ◌++◌, ◌∷◌, []}
use Rattle.svr_chain.specs.Clauses.{IsWithin}
use Rattle.svr_trail.specs.Trail.{value_in}
use Rattle.svr_trail.specs.Table.{ArePlaces}
use Rattle.svr_trail.proofs.TableLemmas.{table-put, places-put}
use Rattle.svr_trail.proofs.Trail.put.Goals as goal
use Rattle.svr_trail.proofs.Trails.{sign_at-open}

pub invariant_of-self : goal.invariant_of-self
invariant_of-self c =
    let signs = c.self.inside.signs.items in
    let places = c.self.inside.places.items in
    let es = c.self.inside.entries.items in
    let e = c.args.entry in
    let k = c.self.invariant in
    let w : IsWithin (length signs) e.lit = rw (← c.self.view_is) at c.requires.within in
    let o : value_in es e.lit ≡ None = rw (← c.self.view_is) at c.requires.open in
    let n : c.len.result ≡ length es = c.len.ensures ∙ c.self.inside.entries.ok.0 in
    let v : IsWithin (length places) e.lit = rw k.sized w in
    let p : ArePlaces (set places (e.lit.var - 1) (length es)) (es ++ e ∷ [])
    = places-put places es e k.placed k.table.apart (rw k.sized k.table.within) v (sign_at-open es e.lit o) in
    record {
      table = rw c.push_reserved.ensures.items (table-put signs es e k.table w (sign_at-open es e.lit o));
      placed = rw (c.push_reserved.ensures.items, n) p;
      sized = omega (arith, length-set signs (e.lit.var - 1) (Some e.lit.neg), length-set places (e.lit.var - 1) c.len.result, k.sized);
      room = omega (arith, length-set signs (e.lit.var - 1) (Some e.lit.neg), k.room, c.push_reserved.ensures.capacity);
    }
