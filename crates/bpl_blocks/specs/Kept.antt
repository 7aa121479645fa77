-- Each failing execution of a body without calls and gotos has a failing run of the graph.
use Rattle.std.specs.Prelude.{◌≡◌, Contains}
use Rattle.flow_core.specs.declared.mark.Mark.{Mark}
use Rattle.flow_core.specs.Graph.{Graph}
use Rattle.flow_core.specs.Run.{FailingRun}
use Rattle.flow_core.specs.Plain.{IsPlain}
use Rattle.flow_core.specs.Cover.{TargetsCover, OnlyHeadsAgain}
use Rattle.bpl_model.specs.Module.{Proc, Module}
use Rattle.bpl_model.specs.Numbering.{defs_of, sorts_of}
use Rattle.bpl_model.specs.NoGoto.{BodyHasNoGoto}
use Rattle.bpl_model.specs.Typed.{IsTypedModule}
use Rattle.bpl_model.specs.Safe.{Fails}
use Rattle.bpl_model.specs.Cut.{cut_calls}
use Rattle.bpl_blocks.specs.Blocks.{to_blocks}

-- its calls are replaced: it is what cut_calls gives for a procedure of the module without gotos
pub record HasCallsReplaced (m : Module) (p : Proc) : Type 0 where
  pub from : Proc
  pub there : Contains m.procs from
  pub no_goto : BodyHasNoGoto from.body
  pub same : p ≡ cut_calls m from

-- g is the graph of p, which has no calls and no gotos; the run begins in the state in which the execution begins
pub record KeepsFailures (m : Module) (p : Proc) (g : Graph) : Type 0 where
  pub kept : (mark : Mark) (f : Fails m p mark) → FailingRun (defs_of m) (sorts_of m p) g f.from mark
  pub plain : IsPlain g
  pub covered : TargetsCover g
  pub only_heads : OnlyHeadsAgain g.blocks

abbrev pub ToBlocksKeepsFailures : Type 0
ToBlocksKeepsFailures = (m : Module) (p : Proc) → IsTypedModule m → Contains m.procs p → BodyHasNoGoto p.body → KeepsFailures m (cut_calls m p) (to_blocks m (cut_calls m p))
