use Rattle.std.proofs.Common.{◌≡◌, ◌<◌, ◌^◌, List, ℕ, length, ap, sym, subst, arith}
use Rattle.std.specs.List.{All}
use Rattle.svr_token.specs.Names.{name_at}
use Rattle.svr_script.specs.Run.{Sample, gathered}
use Rattle.svr_run.specs.Watching.{taken}
use Rattle.svr_run_laws.proofs.Reached.{lawful_is_sampled}
use Rattle.svr_cover.specs.declared.cover.Cover.{Cover}
use Rattle.svr_cover.specs.Cover.{cover_term, cover_step}
use Rattle.svr_cover_laws.specs.Parts.{AreApart}
use Rattle.svr_cover_laws.specs.Counted.{IsStored, counts_behind, GroupsAreCounted, BinsAreCounted, TuplesAreCounted}
use Rattle.svr_cover_laws.proofs.Numbers.{groups_are, bins_are, tuples_are}
use Rattle.svr_cover_made_laws.proofs.Apart.{are_apart}
use Rattle.svr_cover_made_laws.proofs.Planned.{have_planned}
use Rattle.svr_command_cover_laws.specs.Numbers.{made_of, samples, counts}
use Rattle.svr_command_cover_laws.proofs.laws.reports_tell_numbers_of_samples.Goals as goal

pub returns : goal.returns
returns g = λ opts text how output c cap.
    let class : Sample → ℕ = λ s. s.class in
    let values : Sample → List (List ℕ) = λ s. s.values in
    let made = made_of opts text how output c in
    let ss : List Sample = samples opts text how output c in
    let are = lawful_is_sampled c.run.design opts cap c.run.read.elaborated.lawful c.run.run.events c.run.run.state c.run.run.run.so_far in
    let stored : All (λ (s : Sample). IsStored s.values) ss = λ k d less prop. are.stored k d less prop 0 in
    let many = are.few in
    let few : length ss < 2 ^ 64 = omega (arith, many) in
    let counters = c.made.are.made.few in
    let numbered : made.counters < 2 ^ 64 = omega (arith, counters) in
    let apart : AreApart made.groups made.counters = are_apart (name_at text c.tokens) c.made.classes c.made.flats c.groups.list made c.made.are.fine numbered c.made.are.made.is_made in
    let same : counts_behind class values made.groups made.counters ss ≡ counts opts text how output c = sym (ap (λ (x : Cover). (gathered (taken cover_step) (cover_term x) c.run.run.events).counts) c.made.are.made.cover) in
    record {
      planned = have_planned (name_at text c.tokens) c.made.classes c.made.flats c.groups.list made c.made.are.made.is_made;
      groups = subst (λ (k : List ℕ). GroupsAreCounted class made.groups ss k) same (groups_are class values made.groups made.counters ss apart stored few);
      bins = subst (λ (k : List ℕ). BinsAreCounted class values made.groups ss k) same (bins_are class values made.groups made.counters ss apart stored few);
      tuples = subst (λ (k : List ℕ). TuplesAreCounted class values made.groups ss k) same (tuples_are class values made.groups made.counters ss apart stored few);
    }
