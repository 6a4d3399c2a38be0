-- What is accepted has a lawful design.
use Rattle.std.proofs.Common.{ℕ, List, Option, Some, None, subst}
use Rattle.svr_token.specs.declared.Token.{Token}
use Rattle.svr_typed.specs.StmtTerm.{DesignTerm}
use Rattle.svr_tree.specs.ScriptTree.{ScriptTree}
use Rattle.svr_design.specs.Lawful.{IsLawful}
use Rattle.svr_elab_fit_laws.specs.ReadScripts.{IsReadFrom}
use Rattle.svr_elab_item_laws.specs.Lawful.{ThereIs}
use Rattle.svr_elab.specs.Promise.{IsAccepted}
use Rattle.svr_elab_whole_laws.proofs.Whole.{what_is_read_and_accepted_is_lawful}
use Rattle.svr_elaborate.specs.Elaborated.{IsDesignOf}

module _ (source : List ℕ) (tokens : List Token) (text : ℕ → List ℕ) (s : ScriptTree) (read : IsReadFrom source tokens s) where
  there : (d : Option DesignTerm) → IsAccepted text s d → ThereIs IsLawful d
  there d it = subst (λ e. ThereIs IsLawful e) it.design (what_is_read_and_accepted_is_lawful source tokens text s read it.clear)

  pub has_design : (d : DesignTerm) → IsAccepted text s (Some d) → IsDesignOf text s d
  has_design d it = record { clear = it.clear; design = it.design; lawful = there (Some d) it }

  pub never_without : IsAccepted text s None → ⊥
  never_without it = there None it
