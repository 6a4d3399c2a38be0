use Rattle.std.proofs.Common.{◌≡◌, refl, subst, ap, sym, ◌∙◌, ℕ, ◌+◌, ◌<◌, ◌≤◌, ◌&&◌, ◌++◌, ◌∷◌, [], List, Bool, true, false, length, take, get_or, arith}
use Rattle.std.specs.List.{list_all}
use Rattle.std.proofs.lemmas.Bool.{and_from}
use Rattle.std.proofs.lemmas.List.{take_at}
use Rattle.std.proofs.lemmas.List.Folds.{list_all-append}
use Rattle.svr_chain.specs.declared.clause.Lit.{Lit}
use Rattle.svr_chain.specs.Clauses.{is_within, is_tautology, AreWithin}
use Rattle.svr_chain.specs.Valuations.{lit_value, Meets}
use Rattle.svr_chain.proofs.Sound.{no_valuation-from_accepted}
use Rattle.svr_query.specs.declared.solver.Answer.TheVariants.{Satisfied, Refuted, Spent}
use Rattle.svr_query.specs.Logged.{valuation_of}
use Rattle.svr_query.specs.Answer.{IsAnswer, IsRefutation}
use Rattle.svr_soft.specs.Kept.{HaveValuation, lit_at, with_kept}
use Rattle.svr_soft.specs.Later.{IsLater}
use Rattle.svr_soft.proofs.Passes.{apart-within, within-among, within-next, kept-none, dropped-none, kept-push, kept-same, dropped-same, dropped-push, with_kept-push}
use Rattle.svr_soft.proofs.Ended.{later_none, later_then, asked_is, done_end, spent_end}
use Rattle.svr_soft.proofs.priority.soft_in_turn.Goals as goal

pub loop-lit-init : goal.loop-lit-init
loop-lit-init c =
    let base = c.args.base.now in
    let soft = c.args.soft.now in
    let ks = c.args.solver.now.clauses in
    record {
      later = later_none c.args.solver.now;
      ranked = refl;
      keeps = rw c.new-kept.ensures.items (kept-none ks base soft);
      drops = rw (c.new-kept.ensures.items, c.new-dropped.ensures.items) (dropped-none ks base soft);
      stand = rw (c.in_ok-assumed.ensures.items, c.new-kept.ensures.items) (sym (append-nil base));
      long = c.requires.values;
      meets = (c.requires.model.0, rw c.in_ok-assumed.ensures.items c.requires.model.1);
    }
  where
    append-nil : (xs : List Lit) → xs ++ [] ≡ xs
    append-nil [] = refl
    append-nil (x ∷ xs) = ap (λ z. x ∷ z) (append-nil xs)

pub ask-requires-clause-within : goal.ask-requires-clause-within
ask-requires-clause-within c =
    let i : ℕ = c.loop-lit.lit-index in
    let inv = c.loop-lit.invariant in
    let base = c.args.base.now in
    let soft = c.args.soft.now in
    let kept = c.loop-lit.kept.items in
    let h : i < length soft = c.loop-lit-test.true in
    let q : List Lit = with_kept base soft kept ++ lit_at soft (i + 1) ∷ [] in
    let e : c.as_slice-in-loop-lit.result.now ≡ q = c.as_slice-in-loop-lit.ensures.value ∙ asked_is base soft i kept c.loop-lit.assumed.items c.push.new.self.items c.in_ok-push.ensures.items inv.stand in
    let w : is_within q (base ++ soft) ≡ true = within-next base soft i (omega (arith, h)) kept inv.keeps.ranks h in
    let o : AreWithin c.loop-lit.solver.vars (base ++ soft) = rw inv.later.vars c.requires.within in
    subst (λ z. AreWithin c.loop-lit.solver.vars z) (sym e) (within-among c.loop-lit.solver.vars q (base ++ soft) w o)

pub ask-requires-clause-apart : goal.ask-requires-clause-apart
ask-requires-clause-apart c =
    let i : ℕ = c.loop-lit.lit-index in
    let inv = c.loop-lit.invariant in
    let base = c.args.base.now in
    let soft = c.args.soft.now in
    let kept = c.loop-lit.kept.items in
    let h : i < length soft = c.loop-lit-test.true in
    let q : List Lit = with_kept base soft kept ++ lit_at soft (i + 1) ∷ [] in
    let e : c.as_slice-in-loop-lit.result.now ≡ q = c.as_slice-in-loop-lit.ensures.value ∙ asked_is base soft i kept c.loop-lit.assumed.items c.push.new.self.items c.in_ok-push.ensures.items inv.stand in
    let w : is_within q (base ++ soft) ≡ true = within-next base soft i (omega (arith, h)) kept inv.keeps.ranks h in
    subst (λ z. is_tautology z ≡ false) (sym e) (apart-within q (base ++ soft) w c.requires.apart)

pub ask-requires-clause-prefer : goal.ask-requires-clause-prefer
ask-requires-clause-prefer c = c.requires.prefer ∙ sym c.loop-lit.invariant.later.vars

pub loop-lit-preserved-then-is_true : goal.loop-lit-preserved-then-is_true
loop-lit-preserved-then-is_true c =
    let i : ℕ = c.loop-lit.lit-index in
    let inv = c.loop-lit.invariant in
    let ks = c.args.solver.now.clauses in
    let base = c.args.base.now in
    let soft = c.args.soft.now in
    let kept = c.loop-lit.kept.items in
    let xs : List Lit = c.loop-lit.assumed.items in
    let x : Lit = get_or soft i (record { var = 0; neg = false }) in
    let vs = c.loop-lit.values.items in
    let f = lit_value (valuation_of vs) in
    let q : List Lit = with_kept base soft kept ++ lit_at soft (i + 1) ∷ [] in
    let p : c.push.new.self.items ≡ q = asked_is base soft i kept xs c.push.new.self.items c.in_ok-push.ensures.items inv.stand in
    let r : c.loop-lit.rank + 1 ≡ i + 1 = omega (arith, inv.ranked) in
    let k : c.push-then-is_true.new.self.items ≡ kept ++ (i + 1) ∷ [] = c.in_ok-push-2.ensures.items ∙ ap (λ z. kept ++ z ∷ []) r in
    let holds : f x ≡ true = sym (c.is_true.ensures ∙ ap (λ (bs : List Bool). lit_value (valuation_of bs) x) c.as_slice.ensures.value) ∙ c.if-is_true.true in
    let t : list_all f c.push.new.self.items ≡ true =
    ap (list_all f) c.in_ok-push.ensures.items ∙ list_all-append f xs (x ∷ []) ∙ and_from (list_all f xs) (f x && true) inv.meets.1 (and_from (f x) true holds refl) in
    let v : HaveValuation ks q = (valuation_of vs, inv.meets.0, ap (list_all f) (sym p) ∙ t) in
    record {
      later = inv.later;
      ranked = r;
      keeps = rw k (kept-push ks base soft i kept inv.keeps v);
      drops = rw k (dropped-same ks base soft i kept c.loop-lit.dropped.items inv.drops);
      stand = rw k (p ∙ sym (with_kept-push base soft kept (i + 1)));
      long = inv.long;
      meets = (inv.meets.0, t);
    }

pub loop-lit-preserved-in-Satisfied : goal.loop-lit-preserved-in-Satisfied
loop-lit-preserved-in-Satisfied c =
    let i : ℕ = c.loop-lit.lit-index in
    let inv = c.loop-lit.invariant in
    let ks = c.args.solver.now.clauses in
    let base = c.args.base.now in
    let soft = c.args.soft.now in
    let kept = c.loop-lit.kept.items in
    let q : List Lit = with_kept base soft kept ++ lit_at soft (i + 1) ∷ [] in
    let p : c.push.new.self.items ≡ q = asked_is base soft i kept c.loop-lit.assumed.items c.push.new.self.items c.in_ok-push.ensures.items inv.stand in
    let r : c.loop-lit.rank + 1 ≡ i + 1 = omega (arith, inv.ranked) in
    let k : c.push-in-Satisfied.new.self.items ≡ kept ++ (i + 1) ∷ [] = c.in_ok-push-in-Satisfied.ensures.items ∙ ap (λ z. kept ++ z ∷ []) r in
    let a : IsAnswer c.loop-lit.solver c.as_slice-in-loop-lit.result.now c.args.budget (Satisfied c.in-Satisfied.found) = rw c.in-Satisfied.is at c.in_ok-answer.ensures.answer in
    let vs = c.in-Satisfied.found.items in
    let m : Meets (valuation_of vs) ks = subst (Meets (valuation_of vs)) inv.later.clauses a.1.0 in
    let t : list_all (lit_value (valuation_of vs)) c.push.new.self.items ≡ true = ap (list_all (lit_value (valuation_of vs))) (sym c.as_slice-in-loop-lit.ensures.value) ∙ a.1.1 in
    let v : HaveValuation ks q = (valuation_of vs, m, ap (list_all (lit_value (valuation_of vs))) (sym p) ∙ t) in
    let asked : IsLater c.loop-lit.solver c.ask.new.self = record { vars = c.ask.ensures.vars; clauses = c.ask.ensures.clauses; bits = c.ask.ensures.bits; begins = c.ask.ensures.begins } in
    record {
      later = later_then inv.later asked;
      ranked = r;
      keeps = rw k (kept-push ks base soft i kept inv.keeps v);
      drops = rw k (dropped-same ks base soft i kept c.loop-lit.dropped.items inv.drops);
      stand = rw k (p ∙ sym (with_kept-push base soft kept (i + 1)));
      long = a.0 ∙ inv.later.vars;
      meets = (m, t);
    }

pub loop-lit-preserved : goal.loop-lit-preserved
loop-lit-preserved c =
    let i : ℕ = c.loop-lit.lit-index in
    let inv = c.loop-lit.invariant in
    let ks = c.args.solver.now.clauses in
    let base = c.args.base.now in
    let soft = c.args.soft.now in
    let d : Lit = record { var = 0; neg = false } in
    let kept = c.loop-lit.kept.items in
    let xs : List Lit = c.loop-lit.assumed.items in
    let log = c.in-Refuted.log in
    let q : List Lit = with_kept base soft kept ++ lit_at soft (i + 1) ∷ [] in
    let p : c.push.new.self.items ≡ xs ++ get_or soft i d ∷ [] = c.in_ok-push.ensures.items in
    let g : c.as_slice-in-loop-lit.result.now ≡ q = c.as_slice-in-loop-lit.ensures.value ∙ asked_is base soft i kept xs c.push.new.self.items p inv.stand in
    let r : c.loop-lit.rank + 1 ≡ i + 1 = omega (arith, inv.ranked) in
    let k : c.push-in-Refuted.new.self.items ≡ c.loop-lit.dropped.items ++ (i + 1, log) ∷ [] = c.in_ok-push-in-Refuted.ensures.items ∙ ap (λ (z : ℕ). c.loop-lit.dropped.items ++ (z, log) ∷ []) r in
    let a : IsAnswer c.loop-lit.solver c.as_slice-in-loop-lit.result.now c.args.budget (Refuted log) = rw c.in-Refuted.is at c.in_ok-answer.ensures.answer in
    let b : IsRefutation c.loop-lit.solver.clauses q log = subst (λ z. IsRefutation c.loop-lit.solver.clauses z log) g a in
    let f : IsRefutation ks q log = subst (λ z. IsRefutation z q log) inv.later.clauses b in
    let n : length xs ≡ c.len-stands.result = sym (c.len-stands.ensures ∙ c.loop-lit.assumed.ok.0) in
    let t : c.truncate.new.self.items ≡ xs = c.truncate.ensures.items ∙ (ap (take c.len-stands.result) p ∙ take_at xs (get_or soft i d ∷ []) c.len-stands.result n) in
    let asked : IsLater c.loop-lit.solver c.ask.new.self = record { vars = c.ask.ensures.vars; clauses = c.ask.ensures.clauses; bits = c.ask.ensures.bits; begins = c.ask.ensures.begins } in
    record {
      later = later_then inv.later asked;
      ranked = r;
      keeps = kept-same ks base soft i kept inv.keeps (no_valuation-from_accepted ks q log.steps log.goal f.1 f.0);
      drops = rw k (dropped-push ks base soft i kept c.loop-lit.dropped.items log inv.keeps inv.drops f);
      stand = t ∙ inv.stand;
      long = inv.long;
      meets = (inv.meets.0, ap (list_all (lit_value (valuation_of c.loop-lit.values.items))) t ∙ inv.meets.1);
    }

pub returns-in_err-assumed-clause-later : goal.returns-in_err-assumed-clause-later
returns-in_err-assumed-clause-later c = later_none c.args.solver.now

pub returns-in_err-push-clause-later : goal.returns-in_err-push-clause-later
returns-in_err-push-clause-later c = c.loop-lit.invariant.later

pub returns-in_err-answer-clause-later : goal.returns-in_err-answer-clause-later
returns-in_err-answer-clause-later c =
    let asked : IsLater c.loop-lit.solver c.ask.new.self = record { vars = c.ask.ensures.vars; clauses = c.ask.ensures.clauses; bits = c.ask.ensures.bits; begins = c.ask.ensures.begins } in
    later_then c.loop-lit.invariant.later asked

pub returns-in_err-push-in-Satisfied-clause-later : goal.returns-in_err-push-in-Satisfied-clause-later
returns-in_err-push-in-Satisfied-clause-later c =
    let asked : IsLater c.loop-lit.solver c.ask.new.self = record { vars = c.ask.ensures.vars; clauses = c.ask.ensures.clauses; bits = c.ask.ensures.bits; begins = c.ask.ensures.begins } in
    later_then c.loop-lit.invariant.later asked

pub returns-in_err-push-in-Refuted-clause-later : goal.returns-in_err-push-in-Refuted-clause-later
returns-in_err-push-in-Refuted-clause-later c =
    let asked : IsLater c.loop-lit.solver c.ask.new.self = record { vars = c.ask.ensures.vars; clauses = c.ask.ensures.clauses; bits = c.ask.ensures.bits; begins = c.ask.ensures.begins } in
    later_then c.loop-lit.invariant.later asked

pub returns-in-Spent : goal.returns-in-Spent
returns-in-Spent c =
    let i : ℕ = c.loop-lit.lit-index in
    let inv = c.loop-lit.invariant in
    let a : IsAnswer c.loop-lit.solver c.as_slice-in-loop-lit.result.now c.args.budget (Spent c.in-Spent.log c.in-Spent.first) = rw c.in-Spent.is at c.in_ok-answer.ensures.answer in
    let holds : HaveValuation c.args.solver.now.clauses c.args.base.now = (valuation_of c.args.met.items, c.requires.model.0, c.requires.model.1) in
    let asked : IsLater c.loop-lit.solver c.ask.new.self = record { vars = c.ask.ensures.vars; clauses = c.ask.ensures.clauses; bits = c.ask.ensures.bits; begins = c.ask.ensures.begins } in
    let next : c.loop-lit.rank + 1 ≡ i + 1 = omega (arith, inv.ranked) in
    record {
      later = later_then inv.later asked;
      end = spent_end c.args.solver.now c.loop-lit.solver c.args.base.now c.args.soft.now c.as_slice-in-loop-lit.result.now c.args.budget (c.loop-lit.rank + 1) i c.loop-lit.kept.items c.in-Spent.log c.in-Spent.first
          inv.later next c.loop-lit-test.true holds inv.keeps a;
    }

pub returns : goal.returns
returns c =
    let inv = c.loop-lit.invariant in
    let all : c.loop-lit.lit-index ≡ length c.args.soft.now = omega arith in
    record {
      later = inv.later;
      end = done_end c.args.solver.now c.args.base.now c.args.soft.now c.loop-lit.lit-index c.loop-lit.kept.items c.loop-lit.dropped.items c.loop-lit.assumed.items c.loop-lit.values.items
          all inv.keeps inv.drops inv.long inv.stand inv.meets;
    }
