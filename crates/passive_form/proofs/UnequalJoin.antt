-- The passive graph of the early return, whose last block joins unequal incarnations.
use Rattle.std.specs.Prelude.{◌≡◌, refl, true, ℕ, pos, List, [], ◌∷◌}
use Rattle.std.proofs.Common.{arith}
use Rattle.logic_core.specs.Tree.{int, boolean, free, equal, negation}
use Rattle.logic_core.specs.Value.{whole, flag}
use Rattle.flow_core.specs.State.{State}
use Rattle.flow_core.specs.declared.mark.GoalKind.TheVariants as kind
use Rattle.flow_core.specs.declared.command.Command.{Command}
use Rattle.flow_core.specs.declared.command.Command.TheVariants.{Assert, Assume}
use Rattle.passive_form.specs.declared.passive.PassiveBlock.{PassiveBlock}
use Rattle.passive_form.specs.declared.passive.Passive.{Passive}
use Rattle.passive_form.specs.Passive.{BreaksAlong}
use Rattle.passive_form.specs.Incarnations.{passify}
use Rattle.flow_core.proofs.Samples.{marked, n, returns_early}

abbrev block : List Command → List ℕ → PassiveBlock
block cs next = record { commands = cs; next = next }

abbrev passive : Passive
passive = record {
  blocks = block (Assume (equal (free 2) (n 0)) ∷ []) (1 ∷ 3 ∷ [])
      ∷ block (Assume (free 0) ∷ Assume (equal (free 5) (free 2)) ∷ []) (5 ∷ [])
      ∷ block (Assume (equal (free 3) (free 1)) ∷ []) (4 ∷ [])
      ∷ block (Assume (negation (free 0)) ∷ Assume (equal (free 3) (free 2)) ∷ []) (4 ∷ [])
      ∷ block (Assume (equal (free 4) (n 1)) ∷ Assume (equal (free 5) (free 4)) ∷ []) (5 ∷ [])
      ∷ block (Assert (marked 2 3 kind.Ensures) (equal (free 5) (n 1)) ∷ []) []
      ∷ [];
  vars = boolean ∷ int ∷ int ∷ int ∷ int ∷ int ∷ [];
}

is_passive : passify returns_early (boolean ∷ int ∷ []) ≡ passive
is_passive = refl

-- an assignment that breaks the assertion along blocks 0, 1 and 5
abbrev frees : State
frees = flag true ∷ whole (pos 8) ∷ whole (pos 0) ∷ whole (pos 3) ∷ whole (pos 1) ∷ whole (pos 0) ∷ []

breaks : BreaksAlong [] passive frees (0 ∷ 1 ∷ 5 ∷ []) 5 0 (marked 2 3 kind.Ensures)
breaks = ((refl, tt), (0, omega arith, refl), ((refl, (refl, tt)), (0, omega arith, refl), (refl, record { formula = equal (free 5) (n 1); asserted = refl; before = tt; breaks = λ h. cc })))
