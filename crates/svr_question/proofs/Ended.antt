-- What the end of the pass over the soft roots says of the items that the clauses encode.
use Rattle.std.proofs.Common.{◌≡◌, ◌<◌, ◌≤◌, ◌+◌, ◌^◌, ℕ, Bool, List, [], ◌∷◌, ◌++◌, map, length, Some, refl, sym, ap, ◌∙◌, subst, arith, append-nil}
use Rattle.std.specs.List.{All}
use Rattle.std.proofs.lemmas.List.{take_all}
use Rattle.std.proofs.lemmas.List.Elements.{All-nil, All-cons}
use Rattle.svr_chain.specs.declared.clause.Lit.{Lit}
use Rattle.svr_chain.specs.declared.clause.Cnf.{Cnf}
use Rattle.svr_chain.specs.Views.{RefutationView}
use Rattle.svr_query.specs.Answer.{SolverView, IsModel}
use Rattle.svr_frame.specs.declared.part.Part.TheVariants.{All as Whole}
use Rattle.svr_frame.specs.Frame.{FrameTerm, state_at}
use Rattle.svr_frame.specs.Occurrences.{Occurrence}
use Rattle.svr_frame.specs.Phases.{hard_of, live_of, unknowns_of}
use Rattle.svr_frame.specs.Satisfaction.{Keeps}
use Rattle.svr_frame.specs.Sound.{IsSound, SizesFit}
use Rattle.svr_encoded.specs.declared.encoded.Encoded.{Encoded}
use Rattle.svr_encoded.specs.Slots.{widths_of}
use Rattle.svr_phase.specs.Chosen.{AreCyclicValues}
use Rattle.svr_phase.specs.Spent.{bit_count, closed_at}
use Rattle.svr_phase.specs.Proof.{fixed_lits, hard_roots, soft_roots, kept_lits}
use Rattle.svr_phase.proofs.Refutes.{none_meets}
use Rattle.svr_call.specs.declared.outcome.Dropped.{Dropped}
use Rattle.svr_soft.specs.declared.priority.PassEnd.{PassEnd}
use Rattle.svr_soft.specs.declared.priority.PassEnd.TheVariants as passed
use Rattle.svr_soft.specs.Kept.{with_kept, rank_of, IsKept, AreDropped}
use Rattle.svr_soft.specs.End.{IsPassEnd}
use Rattle.svr_question.specs.declared.ask.Met.{Met}
use Rattle.svr_question.specs.declared.ask.ValuesEnd.{ValuesEnd}
use Rattle.svr_question.specs.Ends.{EncodesCall, CanMeet, AreProved, IsMet, Ends}
use Rattle.svr_question.specs.Passed.{dropped_at, IsMetBy, RanksFit, Becomes}
use Rattle.svr_question.proofs.Fated.{soft_long, kept_items, dropped_stand, reached_next}
use Rattle.svr_question.proofs.Kept.{given_back}
use Rattle.svr_question.proofs.Ranks.{with_kept_is, dropped_are}

-- the ranks that the pass keeps name soft roots
pub ranks_fit : (s : SolverView) (base soft : List Lit) (budget : ℕ) (end : PassEnd) → IsPassEnd s base soft budget end → RanksFit (length soft) end
ranks_fit s base soft budget (passed.Done kept dropped values) h = h.0.ranks
ranks_fit s base soft budget (passed.BaseRefuted log) h = tt
ranks_fit s base soft budget (passed.Spent rank log first) h = tt

ranks_of_proofs : (place : ℕ) (base soft : List Lit) (kept : List ℕ) (ds : List (ℕ × RefutationView)) → map (λ (d : Dropped). d.rank) (map (dropped_at place base soft kept) ds) ≡ map rank_of ds
ranks_of_proofs place base soft kept [] = refl
ranks_of_proofs place base soft kept (d ∷ ds) = λ i. rank_of d ∷ ranks_of_proofs place base soft kept ds i

-- the proof of a dropped item names the encoding at this place
abbrev IsPlaced : ℕ → Dropped → Type 0
IsPlaced place d = d.proof.encoding ≡ place

placed_all : (place : ℕ) (base soft : List Lit) (kept : List ℕ) (ds : List (ℕ × RefutationView)) → All (IsPlaced place) (map (dropped_at place base soft kept) ds)
placed_all place base soft kept [] = All-nil (IsPlaced place)
placed_all place base soft kept (d ∷ ds) = All-cons (IsPlaced place) (dropped_at place base soft kept d) (map (dropped_at place base soft kept) ds) refl (placed_all place base soft kept ds)

module _ (f : FrameTerm) (sizes : List ℕ) (sound : IsSound f) (fit : SizesFit f sizes) (chosen : List (ℕ × ℕ)) (cyclic : AreCyclicValues f chosen) (place budget : ℕ) (e : Encoded) (encodes : EncodesCall f sizes e)
    (bits : ℕ) (count : bits ≡ bit_count f Whole sizes 1) where
  abbrev hard : List Occurrence
  hard = hard_of f Whole sizes

  abbrev live : List Occurrence
  live = live_of f Whole sizes

  abbrev base : List Lit
  base = fixed_lits e chosen ++ hard_roots e hard

  abbrev soft : List Lit
  soft = soft_roots e hard

  abbrev solver : SolverView
  solver = record { vars = e.cnf.vars; clauses = e.cnf.clauses.items; steps = []; bits = Some bits }

  -- values, and the fates of the soft items
  met_is : (kept : List ℕ) (dropped : List (ℕ × RefutationView)) (values : List Bool) (m : Met) → IsMetBy place base soft kept dropped values m
      → IsKept e.cnf.clauses.items base soft (length soft) kept → AreDropped e.cnf.clauses.items base soft (length soft) kept dropped → length values ≡ e.cnf.vars → IsModel e.cnf.clauses.items (with_kept base soft kept) values
      → IsMet f sizes chosen place e m
  met_is kept dropped values m by keeps drops long model =
      let fates = m.fates.items in
      let few : length fates ≤ length soft = omega (arith, by.long) in
      let items = soft_long f sizes sound fit e encodes chosen cyclic in
      let literals : with_kept base soft kept ≡ base ++ kept_lits fates soft = ap (with_kept base soft) (sym by.ranks) ∙ with_kept_is base soft fates few in
      record {
        keeps = subst (λ (os : List Occurrence). Keeps (CanMeet f sizes chosen) hard os fates) (take_all (length fates) live (omega (arith, by.long, items)))
            (kept_items f sizes sound fit e encodes chosen cyclic (length soft) kept fates (omega (arith, items)) keeps by.long by.ranks);
        kept = by.same ∙ sym by.ranks;
        dropped = ap (map (λ (d : Dropped). d.rank)) by.proofs ∙ ranks_of_proofs place base soft kept dropped ∙ dropped_are e.cnf.clauses.items base soft (length soft) kept dropped fates drops by.long by.ranks;
        proved = subst (λ (ds : List Dropped). AreProved f sizes chosen fates place e ds) (sym by.proofs) (dropped_stand f sizes sound fit e encodes chosen cyclic place kept fates dropped by.long by.ranks drops);
        places = subst (λ (ds : List Dropped). All (IsPlaced place) ds) (sym by.proofs) (placed_all place base soft kept dropped);
        long = ap length by.found ∙ long;
        model = subst (λ (vs : List Bool). IsModel e.cnf.clauses.items (base ++ kept_lits fates soft) vs) (sym by.found) (subst (λ (ls : List Lit). IsModel e.cnf.clauses.items ls values) literals model);
      }

  pub ended : (over : PassEnd) (r : ValuesEnd) → IsPassEnd solver base soft budget over → Becomes place base soft over r → Ends f sizes chosen place budget e r
  ended (passed.Done kept dropped values) r h b =
      subst (λ (x : ValuesEnd). Ends f sizes chosen place budget e x) (sym b.1) (met_is kept.items dropped.items values.items b.0 b.2 h.0 h.1 h.2 h.3)
  ended (passed.BaseRefuted log) r h b =
      subst (λ (x : ValuesEnd). Ends f sizes chosen place budget e x) (sym b) (
        none_meets f Whole sizes sound fit chosen 1 tt live e encodes h.0,
        λ encodings named. (1, refl, record { encoding = e; named = named; encodes = encodes; assumes = sym (append-nil base); refutes = h.1 }),
      )
  ended (passed.Spent rank log first) r h b =
      subst (λ (x : ValuesEnd). Ends f sizes chosen place budget e x) (sym b) (
        reached_next f sizes sound fit e encodes chosen cyclic rank h.0,
        record { encodes = encodes; spends = record { none = h.1.none; accepted = h.1.accepted; spent = h.1.spent }; many = subst (λ (n : ℕ). budget < 2 ^ (n + 1)) count h.3 },
      )

-- where the clauses were given back
pub kept_call : (f : FrameTerm) (sizes : List ℕ) (e : Encoded) (cnf : Cnf) → cnf.vars ≡ e.cnf.vars → cnf.clauses.items ≡ e.cnf.clauses.items → EncodesCall f sizes e → EncodesCall f sizes (record e { cnf = cnf })
kept_call f sizes e cnf vars clauses encodes =
    given_back (state_at f sizes) (unknowns_of f Whole sizes) (widths_of f 1 (unknowns_of f Whole sizes)) (closed_at f sizes (hard_of f Whole sizes ++ live_of f Whole sizes)) e cnf vars clauses encodes

-- and these are the literals of the base and the soft roots
pub ended_with : (f : FrameTerm) (sizes : List ℕ) (sound : IsSound f) (fit : SizesFit f sizes) (chosen : List (ℕ × ℕ)) (cyclic : AreCyclicValues f chosen) (place budget : ℕ) (e : Encoded) (encodes : EncodesCall f sizes e) (cnf : Cnf)
    (vars : cnf.vars ≡ e.cnf.vars) (clauses : cnf.clauses.items ≡ e.cnf.clauses.items) (bits : ℕ) (count : bits ≡ bit_count f Whole sizes 1) (assumed behind : List Lit)
    → assumed ≡ fixed_lits e chosen ++ hard_roots e (hard_of f Whole sizes) → behind ≡ soft_roots e (hard_of f Whole sizes) → (over : PassEnd) (r : ValuesEnd)
    → IsPassEnd (record { vars = e.cnf.vars; clauses = e.cnf.clauses.items; steps = []; bits = Some bits }) assumed behind budget over → Becomes place assumed behind over r → Ends f sizes chosen place budget (record e { cnf = cnf }) r
ended_with f sizes sound fit chosen cyclic place budget e encodes cnf vars clauses bits count assumed behind first rest over r h b =
    let base = fixed_lits e chosen ++ hard_roots e (hard_of f Whole sizes) in
    let soft = soft_roots e (hard_of f Whole sizes) in
    let said : IsPassEnd (record { vars = e.cnf.vars; clauses = e.cnf.clauses.items; steps = []; bits = Some bits }) base soft budget over
    = subst (λ (ls : List Lit). IsPassEnd (record { vars = e.cnf.vars; clauses = e.cnf.clauses.items; steps = []; bits = Some bits }) base ls budget over) rest
    (subst (λ (ls : List Lit). IsPassEnd (record { vars = e.cnf.vars; clauses = e.cnf.clauses.items; steps = []; bits = Some bits }) ls behind budget over) first h) in
    let turned : Becomes place base soft over r = subst (λ (ls : List Lit). Becomes place base ls over r) rest (subst (λ (ls : List Lit). Becomes place ls behind over r) first b) in
    ended f sizes sound fit chosen cyclic place budget (record e { cnf = cnf }) (kept_call f sizes e cnf vars clauses encodes) bits count over r
    (subst (λ (s : SolverView). IsPassEnd s base soft budget over) (λ i. record { vars = sym vars i; clauses = sym clauses i; steps = []; bits = Some bits }) said) turned
