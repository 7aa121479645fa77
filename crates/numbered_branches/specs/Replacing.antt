-- A term replaced in facts by number.
use Rattle.std.specs.Prelude.{◌≡◌, ℕ, ◌<◌, Bool, true, false, not, ◌&&◌, Option, Some, None, Result, Ok, Err, List, length}
use Rattle.std.specs.Bool.{⊤}
use Rattle.logic_core.specs.Tree.{Tree}
use Rattle.logic_core.specs.declared.fault.NormalFault.{NormalFault}
use Rattle.logic_core.specs.declared.fault.NormalFault.TheVariants.{Wide}
use Rattle.proof_core.specs.Proof.{Step}
use Rattle.term_bank.specs.Numbered.{at}
use Rattle.tableau_branch.specs.Branch.{Fact}
use Rattle.tableau_branch.specs.Change.{Made}
use Rattle.tableau_branch.specs.Oriented.{is_application}
use Rattle.tableau_branch.specs.Replacing.{picks_on, replaced_from}
use Rattle.tableau_branch.specs.declared.changing.Ground.{Ground}
use Rattle.tableau_branch.specs.declared.changing.Ground.TheVariants as ground
use Rattle.numbered_terms.specs.Stored.{Numbered}
use Rattle.numbered_facts.specs.Atoms.{is_atom}
use Rattle.numbered_branches.specs.Branches.{NumberedMade, made_at}
use Rattle.numbered_branches.specs.declared.replacing.Replacing.{Replacing}

-- at constant distance it is a Read
abbrev pub IsOnGround : Ground → Tree → Type 0
IsOnGround ground.Access t = is_application t ≡ true
IsOnGround g t = ⊤

abbrev pub is_access : Ground → Bool
is_access ground.Access = true
is_access g = false

-- an atom that is to be replaced wherever it occurs
abbrev pub is_plain : List Tree → Replacing → Bool
is_plain ts r = not (is_access r.ground) && is_atom (at ts r.left)

-- the term and what takes its place have numbers of terms
pub record IsReplacing (ts : List Tree) (r : Replacing) : Type 0 where
  pub left : r.left < length ts
  pub right : r.right < length ts
  pub ground : IsOnGround r.ground (at ts r.left)

-- the term isn't to be replaced in the fact
abbrev pub IsPassed : List Tree → Replacing → Fact → Type 0
IsPassed ts r f = picks_on r.ground (at ts r.left) f ≡ false

-- the facts from place k on changed, where those before it are done
abbrev pub changed_on : Numbered → Replacing → NumberedMade → ℕ → Option Made
changed_on n r m k = replaced_from n.defs r.ground (at n.terms r.left) (at n.terms r.right) (made_at n.terms m) k

-- the changed fact's term, and the node that makes it, where the term is replaced
abbrev pub ChangesTo : List Tree → Step → Result (Option ℕ) NormalFault → Option (Option (Step × Tree)) → Type 0
ChangesTo ts s (Ok None) o = o ≡ Some None
ChangesTo ts s (Ok (Some i)) o = (i < length ts) × (o ≡ Some (Some (s, at ts i)))
ChangesTo ts s (Err e) o = e ≡ Wide → o ≡ None
