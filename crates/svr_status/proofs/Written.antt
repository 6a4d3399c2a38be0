-- What was written, and what it stands for.
use Rattle.std.proofs.Common.{◌≡◌, ◌⊎◌, ℕ, List, Option, sym, subst, inl, inr}
use Rattle.std.specs.Io.KnownBytes.{Appends, Keeps}
use Rattle.std.proofs.KnownBytes.{Appends-nil, Keeps-refl}
use Rattle.svr_edge.specs.Known.{AppendsFront}
use Rattle.svr_script.specs.Ending.{Output}
use Rattle.svr_run.specs.Telling.{Sinks, sinks}
use Rattle.svr_status.specs.Writing.{prints, Writing}
use Rattle.svr_status.specs.declared.status.Status.{Status}
use Rattle.svr_status.specs.declared.status.Status.TheVariants.{AllOne, SomeZero, Usage, SomeGivenUp, Refused, Limited, ReadFault, WriteFault, NoMemory}

-- what holds of what is said holds of what was written
pub mapped : (A B : Status → Output → Type 0) (M N : Output → Type 0) → ((s : Status) (o : Output) → A s o → B s o) → ((o : Output) → M o → N o)
    → (status : Status) (old new : Sinks) → Writing A M status old new → Writing B N status old new
mapped A B M N f g AllOne old new (o, said, out, journal) = (o, f AllOne o said, out, journal)
mapped A B M N f g SomeZero old new (o, said, out, journal) = (o, f SomeZero o said, out, journal)
mapped A B M N f g Usage old new (o, said, out, journal) = (o, f Usage o said, out, journal)
mapped A B M N f g SomeGivenUp old new (o, said, out, journal) = (o, f SomeGivenUp o said, out, journal)
mapped A B M N f g Refused old new (o, said, out, journal) = (o, f Refused o said, out, journal)
mapped A B M N f g Limited old new (o, said, out, journal) = (o, f Limited o said, out, journal)
mapped A B M N f g ReadFault old new nothing = nothing
mapped A B M N f g WriteFault old new (o, may, out, journal) = (o, g o may, out, journal)
mapped A B M N f g NoMemory old new (inl nothing) = inl nothing
mapped A B M N f g NoMemory old new (inr (o, may, out, journal)) = inr (o, g o may, out, journal)

-- the line of a refusal was printed, or a front of it, or memory was wanting
pub refusal_is_written : (A : Status → Output → Type 0) (M : Output → Type 0) (line : List ℕ) (result : Status) (old new journal : Option (List ℕ)) (was now logged : ℕ) (R : Type 0)
    → A Refused (prints line) → M (prints line)
    → ((result ≡ Refused) × Appends old new line) ⊎ (((result ≡ WriteFault) × AppendsFront old new line × R) ⊎ ((result ≡ NoMemory) × Keeps old new))
    → Writing A M result (sinks old was journal logged) (sinks new now journal logged)
refusal_is_written A M line result old new journal was now logged R said may (inl (e, all)) =
    subst (λ (s : Status). Writing A M s (sinks old was journal logged) (sinks new now journal logged)) (sym e) (prints line, said, all, Appends-nil journal)
refusal_is_written A M line result old new journal was now logged R said may (inr (inl (e, front, rose))) =
    subst (λ (s : Status). Writing A M s (sinks old was journal logged) (sinks new now journal logged)) (sym e) (prints line, may, front, (0, Appends-nil journal))
refusal_is_written A M line result old new journal was now logged R said may (inr (inr (e, kept))) =
    subst (λ (s : Status). Writing A M s (sinks old was journal logged) (sinks new now journal logged)) (sym e) (inl (kept, Keeps-refl journal))
