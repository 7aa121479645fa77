-- A run that fails: of a body with an early return, whose postcondition doesn't hold there.
use Rattle.std.proofs.Common.{◌≡◌, refl, ℕ, pos, true, List, [], ◌∷◌, arith}
use Rattle.std.specs.Prelude.{None}
use Rattle.logic_core.specs.Tree.{Kind, int, boolean, num, free, equal, negation}
use Rattle.logic_core.specs.Value.{whole, flag}
use Rattle.flow_core.specs.declared.mark.GoalKind.TheVariants.{Ensures}
use Rattle.flow_core.specs.declared.mark.Mark.{Mark}
use Rattle.flow_core.specs.declared.command.Command.{Command}
use Rattle.flow_core.specs.declared.command.Command.TheVariants.{Assert, Assume, Assign}
use Rattle.flow_core.specs.declared.block.Block.{Block}
use Rattle.flow_core.specs.State.{State}
use Rattle.flow_core.specs.Graph.{Graph, block_at}
use Rattle.flow_core.specs.Run.{within, stay, go, enter, assume_holds, assigned, follow, assert_breaks, path, FailingRun}

abbrev block : List Command → List ℕ → Block
block cs next = record { commands = cs; next = next; head = None }

abbrev mark : Mark
mark = record { place = record { line = 2; col = 3 }; kind = Ensures }

-- r := 0; if (b) { return; } r := 1; with "ensures r == 1;", where b is variable 0 and r is 1
abbrev returns_early : Graph
returns_early = record {
  blocks = block (Assign ((1, num (pos 0)) ∷ []) ∷ []) (1 ∷ 3 ∷ [])
      ∷ block (Assume (free 0) ∷ []) (5 ∷ [])
      ∷ block [] (4 ∷ [])
      ∷ block (Assume (negation (free 0)) ∷ []) (4 ∷ [])
      ∷ block (Assign ((1, num (pos 1)) ∷ []) ∷ []) (5 ∷ [])
      ∷ block (Assert mark (equal (free 1) (num (pos 1))) ∷ []) []
      ∷ [];
  own = 2;
  olds = [];
}

abbrev sorts : List Kind
sorts = boolean ∷ int ∷ []

abbrev end : State
end = flag true ∷ whole (pos 0) ∷ []

-- it fails where b is true
pub fails : FailingRun [] sorts returns_early (flag true ∷ whole (pos 8) ∷ []) mark
fails = record {
  untouched = λ k d h. absurd (omega arith);
  begins = record { sorted = refl; entry_values = λ k d h. absurd (omega arith) };
  last = within 5 (block_at returns_early.blocks 5).commands end;
  run = go (enter tt) (go (assigned (whole (pos 0) ∷ []) (refl, tt) refl) (go (follow 1 (0, omega arith, refl))
      (go (enter tt) (go (assume_holds refl) (go (follow 5 (0, omega arith, refl)) (go (enter tt) stay))))));
  failure = assert_breaks (λ h. cc);
}

-- the run goes through blocks 0, 1 and 5
pub its_path : path [] sorts returns_early fails.run ≡ 0 ∷ 1 ∷ 5 ∷ []
unfolding fails
its_path = refl
