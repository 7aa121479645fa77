-- A program of which the body of one declaration is another one.
use Rattle.std.specs.Prelude.{◌≡◌, ⊤, ℕ, ◌<◌, ◌+◌, nat_eq, Bool, true, false, not, ◌||◌, cond, List, [], ◌∷◌, ◌++◌, map, length, codes, is_some, Option, Some, None, slice_get, slice_set, bytes_eq}
use Rattle.bv_base.specs.declared.place.Place.{Place}
use Rattle.bpl_model.specs.Module.{Spec, requires, ensures, modifies, Proc, DeclText, Module}
use Rattle.bpl_model.specs.Reach.{decl_at, is_named}
use Rattle.vc_build.specs.Marks.{contract_marks}
use Rattle.vc_build.specs.Rebuild.{BuiltProc, with_body, built}
use Rattle.vc_rebuild.specs.Kept.{kept_of}
use Rattle.vc_rebuild.specs.declared.change.ChangedBody.{ChangedBody}

-- the texts of a declaration are those of another one, but for the whole one
pub record HasHeadOf (x y : DeclText) : Type 0 where
  pub name : x.name ≡ y.name
  pub contract : x.contract ≡ y.contract
  pub leads : x.leads ≡ y.leads
  pub contract_leads : x.contract_leads ≡ y.contract_leads

-- two modules declare the same, but for procedures, globals and the text of the declaration at this position
pub record DiffersAt (d : ℕ) (m n : Module) : Type 0 where
  pub consts : m.consts ≡ n.consts
  pub functions : m.functions ≡ n.functions
  pub axioms : length m.axioms ≡ length n.axioms
  pub texts : length m.texts ≡ length n.texts
  pub heads : (e : ℕ) → HasHeadOf (decl_at m e) (decl_at n e)
  pub others : (e : ℕ) → nat_eq e d ≡ false → (decl_at m e).text ≡ (decl_at n e).text

-- a clause is a `requires` that calls check
abbrev pub is_checked : Spec → Bool
is_checked (requires free at E) = not free
is_checked (ensures free at E) = false
is_checked (modifies xs) = false

-- how many of the clauses are such ones
abbrev pub checked_requires : List Spec → ℕ
checked_requires [] = 0
checked_requires (s ∷ ss) = cond (is_checked s) 1 0 + checked_requires ss

-- two procedures with a body, and a call of the one has the marks of a call of the other
pub record AreAlike (p q : Proc) : Type 0 where
  pub first_body : is_some p.body ≡ true
  pub second_body : is_some q.body ≡ true
  pub called : (at : Place) → contract_marks at (Some p) ≡ contract_marks at (Some q)

-- the procedures are these with another one like it in the place of one
pub record IsPutAt (k : ℕ) (ps qs : List Proc) : Type 0 where
  pub old : Proc
  pub new : Proc
  pub was : slice_get ps k ≡ Some old
  pub put : qs ≡ slice_set ps k new
  pub alike : AreAlike old new

-- these are the procedures of a module that differs so, and has another procedure in the place of one
pub record IsChangedBody (c : ChangedBody) (bs : List BuiltProc) (n : Module) : Type 0 where
  pub before : Module
  pub are : bs ≡ built before
  pub differs : DiffersAt c.decl_at before n
  pub put : IsPutAt c.proc_at before.procs n.procs

-- where a body is told, they are
abbrev pub IsChangedAt : Option ChangedBody → List BuiltProc → Module → Type 0
IsChangedAt None bs n = ⊤
IsChangedAt (Some c) bs n = IsChangedBody c bs n

-- the same of modules without gotos
pub record IsPlainBody (c : ChangedBody) (bs : List BuiltProc) (n : Module) : Type 0 where
  pub before : Module
  pub are : bs ≡ map (kept_of before) (with_body before)
  pub differs : DiffersAt c.decl_at before n
  pub put : IsPutAt c.proc_at before.procs n.procs

abbrev pub IsPlainAt : Option ChangedBody → List BuiltProc → Module → Type 0
IsPlainAt None bs n = ⊤
IsPlainAt (Some c) bs n = IsPlainBody c bs n

-- the declaration is the procedure's, or its implementation
abbrev pub is_own : Module → ℕ → Proc → Bool
is_own m d p = is_named m p.name d || is_named m (codes "implementation " ++ p.name) d

-- what isn't a blank; where an implementation's name has one, after that many bytes
abbrev pub is_no_blank : Option ℕ → Bool
is_no_blank None = true
is_no_blank (Some c) = not (nat_eq c 32)

-- the declaration is none of the other procedures'
abbrev pub IsOwnAlone : Module → ChangedBody → List Proc → Type 0
IsOwnAlone m c ps = (i : ℕ) (q : Proc) → nat_eq i c.proc_at ≡ false → slice_get ps i ≡ Some q → is_own m c.decl_at q ≡ false

-- the new procedures are the old ones with another one in this place
pub record IsOneOther (at : ℕ) (bs cs : List BuiltProc) : Type 0 where
  pub there : at < length bs
  pub new : BuiltProc
  pub put : cs ≡ slice_set bs at new

-- where a place is told, they are
abbrev pub AreButOne : Option ℕ → List BuiltProc → List BuiltProc → Type 0
AreButOne None bs cs = ⊤
AreButOne (Some at) bs cs = IsOneOther at bs cs
