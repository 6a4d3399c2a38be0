use Rattle.std.proofs.Common.{◌≡◌, ◌-◌, ◌∙◌, length, get_or, ap, arith}
use Rattle.svr_chain.proofs.marks.swap_out.Goals as goal

pub returns : goal.returns
returns c =
    let ls = c.args.lits.now.items in
    let size : c.args.lits.now.len ≡ length ls = c.args.lits.now.ok.0 in
    record {
      within = c.requires;
      shorter = omega (arith, c.swap_remove.ensures.len, size, c.swap_remove.new.self.ok.0);
      moved = λ d g. c.swap_remove.ensures.by_index.0 d (omega (arith, g, size)) ∙ ap (λ z. get_or ls (z - 1) d) size;
      stays = λ k d n g. c.swap_remove.ensures.by_index.1 k d n (omega (arith, g, size));
    }
