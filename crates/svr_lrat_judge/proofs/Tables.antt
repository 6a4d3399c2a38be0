-- Live clauses as functions
use Rattle.std.proofs.Common.{◌≡◌, ℕ, ◌+◌, ◌<◌, Bool, true, false, ◌&&◌, List, length, drop, get_or, cond, Option, None, Some, refl, sym, ap, ◌∙◌}
use Rattle.std.proofs.lemmas.Bool.{cond-true, cond-false, false≢true}
use Rattle.std.specs.Prelude.{is_some}
use Rattle.std.proofs.lemmas.List.{at_drop_more}
use Rattle.svr_chain.specs.declared.clause.Lit.{Lit}
use Rattle.svr_lrat_file.specs.declared.file.Number.{Number}
use Rattle.svr_lrat_judge.specs.declared.verdict.LratReason.TheVariants as reason
use Rattle.svr_lrat_judge.specs.declared.derivation.Fault.{Fault}
use Rattle.svr_lrat_judge.specs.Verdict.{State, without_number, deleted, are_live, with_deleted, unless_faulty}

and_assoc : (a b c : Bool) → ((a && b) && c) ≡ (a && (b && c))
and_assoc true b c = refl
and_assoc false b c = refl

-- one more identifier is looked up and taken away
pub live-more : (live : ℕ → Option (List Lit)) (so_far all : Bool) (ns : List Number) (i : ℕ) (d : Number) → i < length ns
    → (so_far && are_live live (drop i ns)) ≡ all
    → ((so_far && is_some (live (get_or ns i d).size)) && are_live (without_number live (get_or ns i d)) (drop (i + 1) ns)) ≡ all
live-more live so_far all ns i d less h =
    let s : are_live live (drop i ns) ≡ (is_some (live (get_or ns i d).size) && are_live (without_number live (get_or ns i d)) (drop (i + 1) ns)) = at_drop_more (are_live live) ns i d less in
    and_assoc so_far _ _ ∙ ap (λ z. so_far && z) (sym s) ∙ h

pub deleted-live : (s : State) (id : ℕ) (ids : List Number) (live : ℕ → Option (List Lit)) → live ≡ deleted s.live ids → are_live s.live ids ≡ true
    → ◌≡◌ {A = State} (record { live = live; last = s.last; has_empty = s.has_empty; fault = s.fault }) (with_deleted s id ids)
deleted-live s id ids live e h =
    let f : s.fault ≡ cond (are_live s.live ids) s.fault (Some (record { id = id; reason = reason.Delete })) = sym (cond-true (are_live s.live ids) s.fault (Some (record { id = id; reason = reason.Delete })) h) in
    λ i. record { live = e i; last = s.last; has_empty = s.has_empty; fault = f i }

pub deleted-fault : (s : State) (id : ℕ) (ids : List Number) (live : ℕ → Option (List Lit)) → live ≡ deleted s.live ids → are_live s.live ids ≡ false
    → ◌≡◌ {A = State} (record { live = live; last = s.last; has_empty = s.has_empty; fault = Some (record { id = id; reason = reason.Delete }) }) (with_deleted s id ids)
deleted-fault s id ids live e h =
    let f : Some (record { id = id; reason = reason.Delete }) ≡ cond (are_live s.live ids) s.fault (Some (record { id = id; reason = reason.Delete })) = sym (cond-false (are_live s.live ids) s.fault (Some (record { id = id; reason = reason.Delete })) h) in
    λ i. record { live = e i; last = s.last; has_empty = s.has_empty; fault = f i }

pub unless-some : (o : Option Fault) (s t : State) → is_some o ≡ true → unless_faulty o s t ≡ s
unless-some None s t h = absurd (false≢true h)
unless-some (Some f) s t h = refl

pub unless-none : (o : Option Fault) (s t : State) → is_some o ≡ false → unless_faulty o s t ≡ t
unless-none None s t h = refl
unless-none (Some f) s t h = absurd (false≢true (sym h))
