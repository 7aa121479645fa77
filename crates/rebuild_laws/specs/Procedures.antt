-- Procedures of two modules that go alike over new numbers, whatever their places, have equal obligations.
use Rattle.std.specs.Prelude.{◌≡◌, ℕ, ◌+◌, ◌<◌, Bool, IsTrue, map, length, slice_get, Option, Some, None, Contains}
use Rattle.logic_core.specs.Def.{Def}
use Rattle.logic_core.specs.Renamed.{def_renamed, EachHas}
use Rattle.bpl_model.specs.Module.{Stmts, Proc, Module}
use Rattle.bpl_model.specs.Numbering.{defs_of, first_local}
use Rattle.bpl_model.specs.NoGoto.{BodyHasNoGoto}
use Rattle.bpl_model.specs.Typed.{IsTypedModule}
use Rattle.bpl_model.specs.Reach.{reached_clauses}
use Rattle.bpl_goto.specs.Forward.{AllGoForward}
use Rattle.bpl_goto.specs.Removed.{body_without}
use Rattle.vc_build.specs.declared.goal.Goal.{Goal}
use Rattle.vc_build.specs.Depends.{reached_axioms}
use Rattle.vc_build.specs.Goals.{goals_by_passes, goals}
use Rattle.rebuild_laws.specs.Alike.{AlikeStmts, AlikeLocals, AlikeTerms, AlikeSpecs}
use Rattle.rebuild_laws.specs.Numbers.{new_all, Reads, Low, LowNumbers, GlobalsAlike}

-- the number of the first variable that stands for a replaced call
abbrev pub first_call : Module → Proc → ℕ
first_call m p = first_local m p + length p.locals

-- over two modules, which variables are reached in each, and the new number of each and the old one
module _ (m n : Module) (vars? vars_there? : ℕ → Bool) (new_low old_low : ℕ → ℕ) where
  -- a variable that is renamed, before those of calls
  abbrev pub BeforeCalls : Proc → ℕ → Type 0
  BeforeCalls p v = Reads m n vars? vars_there? new_low old_low v × (v < first_call m p)

  module _ (new_def : ℕ → ℕ) (D : ℕ → Type 0) where
    -- what a procedure promises: its parameters with their clauses, and its clauses
    pub record AlikeSignature (c d : Proc) : Type 0 where
      pub ins : AlikeLocals new_def (new_all m n vars? vars_there? new_low old_low) D (Reads m n vars? vars_there? new_low old_low) c.ins d.ins
      pub outs : AlikeLocals new_def (new_all m n vars? vars_there? new_low old_low) D (Reads m n vars? vars_there? new_low old_low) c.outs d.outs
      pub specs : AlikeSpecs new_def (new_all m n vars? vars_there? new_low old_low) D (Reads m n vars? vars_there? new_low old_low) c.specs d.specs

    -- two callees, where they are there
    pub data AlikeCallee : Option Proc → Option Proc → Type 0 where
      neither : AlikeCallee None None
      both : {c d : Proc} → AlikeSignature c d → AlikeCallee (Some c) (Some d)

    abbrev pub Callees : ℕ → ℕ → Type 0
    Callees k l = AlikeCallee (slice_get m.procs k) (slice_get n.procs l)

    -- a definition at its new number; it reads constants, and calls definitions before it alone
    pub record AlikeDef (f : ℕ) : Type 0 where
      pub definition : Def
      pub old : slice_get (defs_of m) f ≡ Some definition
      pub new : slice_get (defs_of n) (new_def f) ≡ Some (def_renamed new_def new_low definition)
      pub lower : EachHas (Low m n vars? vars_there? new_low old_low) (λ g. D g × (g < f) × (new_def g < new_def f)) definition.body

    -- two bodies, where they are there
    pub data AlikeBodies (V : ℕ → Type 0) : Option Stmts → Option Stmts → Type 0 where
      no_bodies : AlikeBodies V None None
      bodies : {ss ts : Stmts} → AlikeStmts new_def (new_all m n vars? vars_there? new_low old_low) D V Callees ss ts → AlikeBodies V (Some ss) (Some ts)

-- two procedures correspond: what the one reaches of its module stands in the other module too, at new numbers
pub record Correspond (m n : Module) (p q : Proc) : Type 0 where
  pub vars? : ℕ → Bool
  pub vars_there? : ℕ → Bool
  pub new_low : ℕ → ℕ
  pub old_low : ℕ → ℕ
  pub numbers : LowNumbers m n vars? vars_there? new_low old_low
  pub defs? : ℕ → Bool
  pub new_def : ℕ → ℕ
  pub old_def : ℕ → ℕ
  pub back : (f : ℕ) → IsTrue (defs? f) → old_def (new_def f) ≡ f
  pub definitions : (f : ℕ) → IsTrue (defs? f) → AlikeDef m n vars? vars_there? new_low old_low new_def (λ g. IsTrue (defs? g)) f
  pub globals : GlobalsAlike m n vars? vars_there? new_low old_low new_def (λ g. IsTrue (defs? g))
  pub ins : AlikeLocals new_def (new_all m n vars? vars_there? new_low old_low) (λ g. IsTrue (defs? g)) (BeforeCalls m n vars? vars_there? new_low old_low p) p.ins q.ins
  pub outs : AlikeLocals new_def (new_all m n vars? vars_there? new_low old_low) (λ g. IsTrue (defs? g)) (BeforeCalls m n vars? vars_there? new_low old_low p) p.outs q.outs
  pub locals : AlikeLocals new_def (new_all m n vars? vars_there? new_low old_low) (λ g. IsTrue (defs? g)) (BeforeCalls m n vars? vars_there? new_low old_low p) p.locals q.locals
  pub specs : AlikeSpecs new_def (new_all m n vars? vars_there? new_low old_low) (λ g. IsTrue (defs? g)) (BeforeCalls m n vars? vars_there? new_low old_low p) p.specs q.specs
  pub body : AlikeBodies m n vars? vars_there? new_low old_low new_def (λ g. IsTrue (defs? g)) (BeforeCalls m n vars? vars_there? new_low old_low p) p.body q.body
  -- the clauses that hold at entry, and the axioms
  pub entry : AlikeTerms new_def new_low (λ g. IsTrue (defs? g)) (Low m n vars? vars_there? new_low old_low) (reached_clauses m p) (reached_clauses n q)
  pub axioms : AlikeTerms new_def new_low (λ g. IsTrue (defs? g)) (Low m n vars? vars_there? new_low old_low) (reached_axioms m p) (reached_axioms n q)

-- of a procedure without gotos
abbrev pub CorrespondingHaveOneObligations : Type 0
CorrespondingHaveOneObligations =
    (m n : Module) (p q : Proc) → IsTypedModule m → Contains m.procs p → BodyHasNoGoto p.body → Correspond m n p q
    → map (λ (g : Goal). g.obligation) (goals_by_passes n q) ≡ map (λ (g : Goal). g.obligation) (goals_by_passes m p)

-- with gotos, where they go forward
abbrev pub CorrespondingHaveEqualGoals : Type 0
CorrespondingHaveEqualGoals =
    (m n : Module) (p q : Proc) → IsTypedModule m → AllGoForward m → Contains m.procs p → Correspond m n p q
    → map (λ (g : Goal). g.obligation) (goals n q) ≡ map (λ (g : Goal). g.obligation) (goals m p)

-- bodies that go alike still do without their gotos
abbrev pub BodiesWithoutGotosGoAlike : Type 0
BodiesWithoutGotosGoAlike =
    (new_def new_var : ℕ → ℕ) (defs? vars? : ℕ → Bool) (callees? : ℕ → ℕ → Bool) (ss ts : Stmts)
    → AlikeStmts new_def new_var (λ f. IsTrue (defs? f)) (λ v. IsTrue (vars? v)) (λ k l. IsTrue (callees? k l)) ss ts
    → AlikeStmts new_def new_var (λ f. IsTrue (defs? f)) (λ v. IsTrue (vars? v)) (λ k l. IsTrue (callees? k l)) (body_without ss) (body_without ts)
